-- The worth of the box of all starts bounds every plan that breaks no rule.
use Rattle.std.proofs.Common.{◌≡◌, sym, subst, ℤ, ◌≤ℤ◌, get_or, map, Some}
use Rattle.instance_model.specs.Tables.{Tables}
use Rattle.instance_model.specs.Fitting.{IsFitting}
use Rattle.instance_model.specs.Values.{score_of}
use Rattle.instance_model.proofs.EntryLemmas.{is_allowed_facts}
use Rattle.lagrange_bound.specs.Prices.{PriceList, IsPriceList}
use Rattle.lagrange_bound.specs.Goals.{risk_base, risk_value}
use Rattle.lagrange_bound.specs.Worth.{WorthBoundsPlans}
use Rattle.certificate_tree.specs.Trees.{root_box}
use Rattle.certificate_tree.proofs.RootLemmas.{root_at}
use Rattle.certificate_tree.proofs.Refuting.{feasible_allowed}
use Rattle.price_ladder.specs.Raised.{root_worth}
use Rattle.worked_bounds.specs.Bounding.{BoundsScores}

pub BoundsScores-from : (inst : Tables) (prices : PriceList) (bound : ℤ) → IsFitting inst → IsPriceList inst prices
    → WorthBoundsPlans risk_base risk_value → bound ≡ root_worth inst prices → BoundsScores inst bound
BoundsScores-from inst prices bound f h law e = record {
  bounds = λ starts each feasible.
      subst (λ (z : ℤ). z ≤ℤ score_of inst (map Some starts)) (sym e)
      (law inst prices (root_box inst) starts f h (record {
        each = each;
        feasible = feasible;
        from = λ i l. rw (root_at inst i l)
            ((is_allowed_facts inst i (get_or starts i 0) (feasible_allowed inst starts each feasible i l)).0);
        to = λ i l. rw (root_at inst i l)
            ((is_allowed_facts inst i (get_or starts i 0) (feasible_allowed inst starts each feasible i l)).1);
      }));
}
