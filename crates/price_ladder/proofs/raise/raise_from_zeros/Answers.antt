use Rattle.std.proofs.Common.{sym, ap, subst, arith, ◌≤ℤ◌, length}
use Rattle.lagrange_bound.specs.Prices.{PriceList}
use Rattle.lagrange_bound.specs.Worth.{price_total}
use Rattle.lagrange_bound.proofs.PriceLemmas.{zero_total}
use Rattle.price_ladder.specs.Raised.{root_worth, least_total}
use Rattle.price_ladder.proofs.ClimbLemmas.{zero_least, zero_few}
use Rattle.price_ladder.proofs.raise.raise_from_zeros.Goals as goal

pub climb-requires-clause-above : goal.climb-requires-clause-above
climb-requires-clause-above c = subst (λ (p : PriceList). least_total c.args.inst.now ≤ℤ root_worth c.args.inst.now p)
    (sym c.in_ok-zero.ensures.value) (zero_least c.args.inst.now)

pub returns-clause-small : goal.returns-clause-small
returns-clause-small c =
    omega (arith, c.in_ok-climb.ensures.total, ap price_total c.in_ok-zero.ensures.value, zero_total c.args.inst.now)

pub returns-clause-few_exclusions : goal.returns-clause-few_exclusions
returns-clause-few_exclusions c = omega (
  arith,
  c.in_ok-climb.ensures.exclusions,
  ap (λ (p : PriceList). length p.ex) c.in_ok-zero.ensures.value,
  zero_few c.args.inst.now,
)
