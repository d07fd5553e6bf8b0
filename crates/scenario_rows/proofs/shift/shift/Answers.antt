use Rattle.std.proofs.Common.{◌∙◌, arith, pos}
use Rattle.instance_model.specs.RiskNumbers.{numbers_of}
use Rattle.scenario_rows.proofs.ListLemmas.{read_at}
use Rattle.scenario_rows.proofs.RowLemmas.{changed_by-from, changed_by_small}
use Rattle.scenario_rows.proofs.shift.shift.Goals as goal

pub sum_after-requires : goal.sum_after-requires
sum_after-requires c =
    let k = c.loop-k.k in
    let sum = read_at c.loop-k.sums k c.index-sums-k.result (pos 0) (omega arith) c.index-sums-k.is
    ∙ c.loop-k.invariant.rest k (omega arith) in
    rw (sum, c.at.ensures)
    (changed_by_small c.args.change (numbers_of c.args.risks) c.args.sums.now k c.requires.small (omega arith))

pub returns : goal.returns
returns c =
    changed_by-from c.args.change (numbers_of c.args.risks) c.args.sums.now c.loop-k.sums c.loop-k.invariant.each (λ k
    l.
    c.loop-k.invariant.done k (omega (arith, l, c.requires.each)))
