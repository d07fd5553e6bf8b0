-- What the steps of an improvement come to. Cited by private functions only: no part of any promise.
use Rattle.std.specs.Prelude.{◌≡◌, ℕ, ◌<◌, ℤ, ◌≤ℤ◌, List, map, Some}
use Rattle.instance_model.specs.Tables.{Tables}
use Rattle.instance_model.specs.Rules.{IsFeasible}
use Rattle.instance_model.specs.Values.{score_of}
use Rattle.instance_model.specs.Keys.{violation_of}
use Rattle.plan_moves.specs.declared.change.Change.{Change}
use Rattle.local_search.specs.Ends.{end_of, IsDescentFrom}
use Rattle.plan_improvement.specs.declared.first.First.{First}
use Rattle.plan_improvement.specs.declared.first.First.TheVariants.{Kept, Broken}
use Rattle.plan_improvement.specs.declared.judging.Judged.{Judged}
use Rattle.plan_improvement.specs.Improving.{IsJudged, IsSettled, looking_turns}

-- ---- the first plan

-- a plan that keeps every rule was found from an opening, which it is where that keeps every rule, or without turns
pub record IsFirstKept (inst : Tables) (turns : ℕ) (opening : List ℕ) (plan : Judged) : Type 0 where
  pub judged : IsJudged inst plan.starts plan.values
  pub opens : IsFeasible inst (map Some opening) → plan.starts ≡ opening
  pub same : turns ≡ 0 → plan.starts ≡ opening

-- the end of a descent from an opening breaks a rule, and this is its violation
pub record IsFirstBroken (inst : Tables) (turns : ℕ) (opening : List ℕ) (violation : ℤ) : Type 0 where
  pub changes : List Change
  pub descent : IsDescentFrom inst (looking_turns turns) opening changes
  pub broken : ¬ IsFeasible inst (map Some (end_of opening changes))
  pub violation_is : violation ≡ violation_of inst (map Some (end_of opening changes))

-- from an opening
abbrev pub IsFirst : Tables → (turns : ℕ) → (opening : List ℕ) → First → Type 0
IsFirst inst turns opening (Kept plan) = IsFirstKept inst turns opening plan
IsFirst inst turns opening (Broken violation) =
    (¬ IsFeasible inst (map Some opening)) × IsFirstBroken inst turns opening violation

-- from an opening that breaks a rule
abbrev pub IsLookedFor : Tables → (turns : ℕ) → (opening : List ℕ) → First → Type 0
IsLookedFor inst turns opening (Kept plan) =
    IsJudged inst plan.starts plan.values × (turns ≡ 0 → plan.starts ≡ opening)
IsLookedFor inst turns opening (Broken violation) = IsFirstBroken inst turns opening violation

-- ---- from there

-- a plan that keeps every rule, of at most the score of another
pub record IsNoWorse (inst : Tables) (from : List ℕ) (plan : Judged) : Type 0 where
  pub judged : IsJudged inst plan.starts plan.values
  pub at_most : score_of inst (map Some plan.starts) ≤ℤ score_of inst (map Some from)

-- and the end of a descent
pub record IsSettledFrom (inst : Tables) (from : List ℕ) (plan : Judged) : Type 0 where
  pub no_worse : IsNoWorse inst from plan
  pub settled : IsSettled inst plan.starts

-- and that where there are turns
pub record IsBetter (inst : Tables) (turns : ℕ) (from : List ℕ) (plan : Judged) : Type 0 where
  pub no_worse : IsNoWorse inst from plan
  pub settled : 0 < turns → IsSettled inst plan.starts
  pub same : turns ≡ 0 → plan.starts ≡ from
