-- Starts that go back to the old ones.
use Rattle.std.specs.Prelude.{◌≡◌, ◌≢◌, ◌⊎◌, ℕ, ◌<◌, ◌≤◌, List, length, map, Option, Some, slice_index, slice_set}
use Rattle.instance_model.specs.Tables.{Tables}
use Rattle.instance_model.specs.Plans.{start_of}
use Rattle.instance_model.specs.Rules.{IsFeasible}
use Rattle.plan_changes.specs.declared.trial.Trial.{Trial}
use Rattle.plan_changes.specs.Changes.{changes_of}

-- each start is that of the plan at hand or the old one
abbrev pub AreFromEither : (old : List (Option ℕ)) (starts new : List ℕ) → Type 0
AreFromEither old starts new = (i : ℕ) → i < length new
    → (slice_index new i ≡ slice_index starts i) ⊎ (start_of old i ≡ Some (slice_index new i))

-- where intervention i has an old start and another one now, the plan with the old one, allowed or not, isn't feasible
abbrev pub CannotGoBack : Tables → (old : List (Option ℕ)) → (starts : List ℕ) → ℕ → Type 0
CannotGoBack inst old starts i = (s : ℕ) → start_of old i ≡ Some s → slice_index starts i ≢ s
    → ¬ IsFeasible inst (map Some (slice_set starts i s))

-- no change can go back alone and leave the plan feasible
abbrev pub NoneCanGoBack : Tables → (old : List (Option ℕ)) → (starts : List ℕ) → Type 0
NoneCanGoBack inst old starts = (i : ℕ) → i < length starts → CannotGoBack inst old starts i

-- ---- no part of any promise

-- one start for each intervention, and a feasible plan of these starts
pub record IsTrialOf (inst : Tables) (starts : List ℕ) (plan : List (Option ℕ)) : Type 0 where
  pub same : plan ≡ map Some starts
  pub each : length starts ≡ length inst.names
  pub feasible : IsFeasible inst (map Some starts)

abbrev pub IsTrial : Tables → Trial → Type 0
IsTrial inst trial = IsTrialOf inst trial.starts.items trial.plan.items

-- a plan that came of another one by starts that went back
pub record IsGivenBack (old : List (Option ℕ)) (starts new : List ℕ) : Type 0 where
  pub each : length new ≡ length starts
  pub either : AreFromEither old starts new
  pub few : changes_of old new ≤ changes_of old starts

-- the start of intervention i went back to the old one
pub record GoesBack (old : List (Option ℕ)) (starts new : List ℕ) (i : ℕ) : Type 0 where
  pub start : ℕ
  pub old_is : start_of old i ≡ Some start
  pub other : slice_index starts i ≢ start
  pub set : new ≡ slice_set starts i start
