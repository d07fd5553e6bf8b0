use Rattle.std.proofs.Common.{◌∙◌, ap, arith}
use Rattle.fixed_num.proofs.SignedLemmas.{back_from_abs}
use Rattle.scenario_rows.specs.Parts.{part_in}
use Rattle.scenario_rows.proofs.PartLemmas.{part_made}
use Rattle.scenario_rows.proofs.RowLemmas.{totalled_small}
use Rattle.scenario_rows.proofs.sum_row.SumRow.part.Goals as goal

pub part-requires-clause-total : goal.part-requires-clause-total
part-requires-clause-total g c =
    let small = totalled_small (g.R.Row.sums c.self.inside.row) c.self.inside.total c.self.invariant in
    rw (back_from_abs c.number.result (omega (arith, c.number.ensures.small)), c.number.ensures.value) small

pub returns-clause-value : goal.returns-clause-value
returns-clause-value g c =
    part_made c.args.alpha c.args.rank c.len.result (g.R.Row.sums c.self.inside.row) c.value-quantile.result
    c.number.result c.part.result c.len.ensures.value (c.value-quantile.ensures.value ∙ c.kth.ensures.value)
    (c.number.ensures.value ∙ c.self.invariant.value) (omega (arith, c.value-quantile.ensures.small)) (omega
    (arith, c.number.ensures.small)) c.part.ensures ∙ ap (part_in c.args.alpha c.args.rank) c.self.view_is
