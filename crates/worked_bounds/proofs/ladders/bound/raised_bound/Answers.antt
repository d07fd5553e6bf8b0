use Rattle.std.proofs.Common.{◌≡◌, ◌≤ℤ◌, ℤ, sym, subst}
use Rattle.std.proofs.lemmas.Result.{IfOk-weaker}
use Rattle.price_ladder.specs.Raised.{root_worth, least_total}
use Rattle.worked_bounds.specs.Bounding.{BoundsScores, IsRaisedWorth}
use Rattle.worked_bounds.proofs.BoundLemmas.{BoundsScores-from}
use Rattle.worked_bounds.proofs.ladders.bound.raised_bound.Goals as goal

pub returns-clause-raised : goal.returns-clause-raised
returns-clause-raised c =
    IfOk-weaker c.root_worth.result (λ z. z ≡ root_worth c.args.inst.now c.in_ok-prices.prices)
    (IsRaisedWorth c.args.inst.now c.args.starts.now) (λ z e. record {
      prices = c.in_ok-prices.prices;
      in_range = c.in_ok-prices.ensures.in_range;
      raised = c.in_ok-prices.ensures.raised;
      worth = e;
    }) c.root_worth.ensures

pub returns-clause-proved : goal.returns-clause-proved
returns-clause-proved c =
    IfOk-weaker c.root_worth.result (λ z. z ≡ root_worth c.args.inst.now c.in_ok-prices.prices)
    (BoundsScores c.args.inst.now) (λ z e. BoundsScores-from c.args.inst.now c.in_ok-prices.prices z c.fits.ensures
    c.in_ok-prices.ensures.in_range c.worth_bounds_plans.ensures e) c.root_worth.ensures

pub returns-clause-not_below_zeros : goal.returns-clause-not_below_zeros
returns-clause-not_below_zeros c =
    IfOk-weaker c.root_worth.result (λ z. z ≡ root_worth c.args.inst.now c.in_ok-prices.prices)
    (λ z. least_total c.args.inst.now ≤ℤ z) (λ z e. subst (λ (w : ℤ). least_total c.args.inst.now ≤ℤ w) (sym e)
    c.in_ok-prices.ensures.not_below_zeros) c.root_worth.ensures
