use Rattle.std.proofs.Common.{◌∙◌, arith}
use Rattle.fixed_num.proofs.SignedLemmas.{signed_arith, back_from_abs}
use Rattle.resource_bands.proofs.ChangeLemmas.{gap_at-parts}
use Rattle.resource_bands.proofs.row.gap.Goals as goal

pub returns-clause-value : goal.returns-clause-value
returns-clause-value c =
    let upper = back_from_abs c.upper.result (omega (arith, c.upper.ensures.small)) ∙ c.upper.ensures.value in
    let lower = back_from_abs c.lower.result (omega (arith, c.lower.ensures.small)) ∙ c.lower.ensures.value in
    gap_at-parts c.args.inst.now c.args.c c.args.t c.args.load _ _ c.above.result c.below.result c.plus.result upper
    lower c.above.ensures c.below.ensures c.plus.ensures

pub returns-clause-small : goal.returns-clause-small
returns-clause-small c = omega (
  arith,
  signed_arith,
  c.plus.ensures,
  c.above.ensures,
  c.below.ensures,
  c.upper.ensures.small,
  c.lower.ensures.small,
  c.requires.small,
)
