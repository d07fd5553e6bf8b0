use Rattle.std.proofs.Common.{◌≡◌, get_or, ◌∙◌, [], ap, arith}
use Rattle.std.specs.Prelude.{pos}
use Rattle.std.proofs.lemmas.Grind.{common_steps}
use Rattle.std.proofs.lemmas.List.{take_all}
use Rattle.instance_read.specs.Keeping.{keep_counts}
use Rattle.instance_read.specs.Keepers.{kept_of}
use Rattle.instance_read.proofs.CountsKept.{next_kept}
use Rattle.instance_read.proofs.keeper.Keeper.add_counts.Goals as goal

pub counts-preserved : goal.counts-preserved
counts-preserved c =
    let item : c.from.result ≡ get_or c.args.counts.now c.counts.count-index (pos 0) =
    grind (arith, common_steps) in
    next_kept c.args.spot c.args.counts.now c.counts.count-index c.from.result (pos 0)
    (kept_of c.args.self.now) (kept_of c.counts.self) (kept_of c.add_count.new.self) c.counts-test.true
    item c.counts.invariant (c.in_ok-add_count.ensures 0 [])

pub returns : goal.returns
returns c = c.counts.invariant
    ∙ ap (λ cs. keep_counts c.args.spot cs (kept_of c.args.self.now))
    (take_all c.counts.count-index c.args.counts.now c.counts-test.false)
