use Rattle.std.proofs.Common.{sym, ◌∙◌, ap}
use Rattle.std.proofs.lemmas.Result.{on_ok_weaker}
use Rattle.instance_read.specs.Keeping.{keep_counts}
use Rattle.instance_read.specs.Keepers.{kept_of}
use Rattle.instance_read.proofs.CountsKept.{counts_kept, risks_kept, with_risks}
use Rattle.instance_read.proofs.keeper.Keeper.take_counts.Goals as goal

pub returns-in-RiskNumber : goal.returns-in-RiskNumber
returns-in-RiskNumber c = λ numbers k n.
    let counts = c.args.counts.now in
    let kept = kept_of c.args.self.now in
    on_ok_weaker c.add_all.result
    (λ added. ap (λ rs. with_risks rs kept) added ∙ sym (risks_kept counts kept)
    ∙ ap (λ s. keep_counts s counts kept) (sym c.in-RiskNumber.is)
    ∙ sym (counts_kept c.args.spot numbers counts kept k n)) c.add_all.ensures.ok

pub returns-in_default : goal.returns-in_default
returns-in_default c = λ numbers k n.
    on_ok_weaker c.add_counts.result
    (λ kept. kept ∙ sym (counts_kept c.args.spot numbers c.args.counts.now (kept_of c.args.self.now) k n))
    c.add_counts.ensures
