-- From step to step.
use Rattle.std.proofs.Common.{◌≡◌, ℕ, ◌<◌, ◌≤◌, refl, sym, ◌∙◌, subst, arith, ℤ, ◌≤ℤ◌, List, map}
use Rattle.std.proofs.Common.{Option, Some, true, int_le, unsigned_abs, ◌^◌}
use borrow.Author.Differences.{at_most_in, le-true}
use mir.Syntax.{w128}
use mir.Val.{of_z, to_z}
use Rattle.fixed_num.proofs.SignedLemmas.{signed_arith, back_from_abs}
use Rattle.instance_model.specs.Tables.{Tables}
use Rattle.instance_model.specs.Plans.{AreAllowedStarts}
use Rattle.instance_model.specs.Rules.{IsFeasible}
use Rattle.instance_model.specs.Values.{score_of}
use Rattle.plan_score.specs.declared.values.Values.{Values}
use Rattle.local_search.specs.declared.ending.Descended.{Descended}
use Rattle.local_search.specs.Ends.{IsDescended}
use Rattle.fewest_changes.specs.Openings.{IsKeptOpening}
use Rattle.plan_improvement.specs.declared.judging.Judged.{Judged}
use Rattle.plan_improvement.specs.Improving.{IsJudged, IsImproved, IsNothing}
use Rattle.plan_improvement.specs.Steps.{IsFirstKept, IsFirstBroken, IsNoWorse, IsSettledFrom, IsBetter}
use Rattle.plan_improvement.proofs.FallLemmas.{end_is_least, end_feasible, end_no_worse}
use Rattle.plan_improvement.proofs.OpeningLemmas.{first_is_old}
use Rattle.plan_improvement.proofs.ScoreLemmas.{score_is}

-- ---- scores as the code compares them

pub compared : (a b : ℤ) → unsigned_abs a < 10 ^ 33 → unsigned_abs b < 10 ^ 33
    → int_le (to_z w128 (of_z w128 a)) (to_z w128 (of_z w128 b)) ≡ true → a ≤ℤ b
compared a b small also e =
    at_most_in a b
    (le-true a b
    (subst (λ (z : ℤ). int_le z b ≡ true) (back_from_abs a (omega (arith, small)))
    (subst (λ (z : ℤ). int_le (to_z w128 (of_z w128 a)) z ≡ true) (back_from_abs b (omega (arith, also))) e)))

-- ---- from there

module _ (inst : Tables) (plan : Judged) (judged : IsJudged inst plan.starts plan.values) where
  -- a plan is no worse than itself
  pub no_worse_self : IsNoWorse inst plan.starts plan
  no_worse_self = record { judged = judged; at_most = omega (arith, signed_arith) }

  pub no_worse_found : (starts : List ℕ) (values : Values) → IsJudged inst starts values
      → values.score ≤ℤ plan.values.score → IsNoWorse inst plan.starts (record { starts = starts; values = values })
  no_worse_found starts values also most = record {
    judged = also;
    at_most = subst (λ (x : ℤ). x ≤ℤ score_of inst (map Some plan.starts)) (score_is inst starts values also)
        (subst (λ (x : ℤ). values.score ≤ℤ x) (score_is inst plan.starts plan.values judged) most);
  }

  module _ (descended : Descended) (is : IsDescended inst 1_000 plan.starts descended) where
    pub still_feasible : IsFeasible inst (map Some descended.starts)
    still_feasible =
        subst (λ (xs : List ℕ). IsFeasible inst (map Some xs)) (sym is.end)
        (end_feasible inst plan.starts descended.moves is.descent.lower judged.is_plan.feasible
        (subst (AreAllowedStarts inst) is.end is.allowed))

    pub settles : (values : Values) → IsJudged inst descended.starts values
        → IsSettledFrom inst plan.starts (record { starts = descended.starts; values = values })
    settles values also = record {
      no_worse = record {
        judged = also;
        at_most = subst (λ (xs : List ℕ). score_of inst (map Some xs) ≤ℤ score_of inst (map Some plan.starts))
            (sym is.end)
            (end_no_worse inst plan.starts descended.moves is.descent.lower judged.is_plan.feasible);
      };
      settled = record {
        from = plan.starts;
        keeps = judged.is_plan;
        changes = descended.moves;
        descent = is.descent;
        end = is.end;
      };
    }

  -- without turns
  pub better_self : (turns : ℕ) → turns ≡ 0 → IsBetter inst turns plan.starts plan
  better_self turns none = record {
    no_worse = no_worse_self;
    settled = λ some. absurd (omega (arith, some, none));
    same = λ _. refl;
  }

-- with them
pub better_settled : (inst : Tables) (turns : ℕ) (from : List ℕ) (found better : Judged) → (turns ≡ 0 → ⊥)
    → IsNoWorse inst from found → IsSettledFrom inst found.starts better → IsBetter inst turns from better
better_settled inst turns from found better some first second =
    let a = first.at_most in
    let b = second.no_worse.at_most in
    record {
      no_worse = record { judged = second.no_worse.judged; at_most = omega (arith, signed_arith, a, b) };
      settled = λ _. second.settled;
      same = λ none. absurd (some none);
    }

-- ---- the whole

module _ (inst : Tables) (old : List (Option ℕ)) (turns : ℕ) (opening : List ℕ)
    (is_opened : IsKeptOpening inst old opening) where
  pub improved : (first better : Judged) → IsFirstKept inst turns opening first
      → IsBetter inst turns first.starts better → IsImproved inst old turns better.starts better.values
  improved first better kept is = record {
    judged = is.no_worse.judged;
    no_worse = λ each feasible.
        subst (λ (p : List (Option ℕ)). score_of inst (map Some better.starts) ≤ℤ score_of inst p)
        (first_is_old inst old opening is_opened each feasible)
        (at_most (subst (IsFeasible inst) (sym (first_is_old inst old opening is_opened each feasible)) feasible));
    first = opening;
    opens = is_opened;
    no_worse_first = at_most;
    settled = is.settled;
    same = λ none. is.same none ∙ kept.same none;
  }
    where
      at_most : IsFeasible inst (map Some opening)
          → score_of inst (map Some better.starts) ≤ℤ score_of inst (map Some opening)
      at_most feasible =
          subst (λ (xs : List ℕ). score_of inst (map Some better.starts) ≤ℤ score_of inst (map Some xs))
          (kept.opens feasible) is.no_worse.at_most

  pub nothing : (violation : ℤ) → (IsFeasible inst (map Some opening) → ⊥) → IsFirstBroken inst turns opening violation
      → IsNothing inst old turns violation
  nothing violation broken is = record {
    broken = λ each feasible.
        broken (subst (IsFeasible inst) (sym (first_is_old inst old opening is_opened each feasible)) feasible);
    first = opening;
    opens = is_opened;
    broken_first = broken;
    changes = is.changes;
    descent = is.descent;
    broken_end = is.broken;
    violation_is = is.violation_is;
    least = end_is_least inst opening is.changes is.descent.lower violation is.violation_is;
  }
