use Rattle.std.proofs.Common.{◌∙◌, ◌<◌, ◌^◌, sym, subst, arith, ℤ, unsigned_abs}
use Rattle.fixed_num.proofs.SignedLemmas.{back_from_abs}
use Rattle.lagrange_bound.proofs.TableLemmas.{IsPricingTable-from}
use Rattle.lagrange_bound.proofs.table.PriceTable.from_rows.Goals as goal

pub invariant_of-result : goal.invariant_of-result
invariant_of-result c =
    let back = back_from_abs c.args.fixed (omega (arith, c.requires.fixed)) in
    record {
      few = c.requires.few;
      prices = c.requires.prices;
      fixed = subst (λ (z : ℤ). unsigned_abs z < 10 ^ 36) (sym back) c.requires.fixed;
    }

pub returns-clause-fixed : goal.returns-clause-fixed
returns-clause-fixed c = back_from_abs c.args.fixed (omega (arith, c.requires.fixed))

pub returns-clause-pricing : goal.returns-clause-pricing
returns-clause-pricing c = λ inst pricing rows fixed. IsPricingTable-from inst pricing _ rows
    (back_from_abs c.args.fixed (omega (arith, c.requires.fixed)) ∙ fixed)
