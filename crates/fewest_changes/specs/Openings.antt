-- Where a repair sets out: old starts where they are allowed, and least allowed starts elsewhere.
use Rattle.std.specs.Prelude.{◌≡◌, ℕ, ◌<◌, ◌≤◌, List, length, Option, Some, IsTrue, slice_index}
use Rattle.instance_model.specs.Tables.{Tables, is_allowed}
use Rattle.instance_model.specs.Plans.{start_of}
use Rattle.local_search.specs.declared.opening.Opening.{Opening}
use Rattle.local_search.specs.declared.opening.Opening.TheVariants.{From, Without}
use Rattle.local_search.specs.Openings.{IsWithoutStart}

-- s is the old start of intervention i, and it is allowed
pub record IsAllowedOld (inst : Tables) (old : Option ℕ) (i s : ℕ) : Type 0 where
  pub given : old ≡ Some s
  pub allowed : IsTrue (is_allowed inst i s)

-- s is the old start of intervention i, if that is allowed, and else its least allowed start
pub record IsOpeningStart (inst : Tables) (old : Option ℕ) (i s : ℕ) : Type 0 where
  pub allowed : IsTrue (is_allowed inst i s)
  pub kept : (r : ℕ) → IsAllowedOld inst old i r → s ≡ r
  pub least : ((r : ℕ) → ¬ IsAllowedOld inst old i r) → (r : ℕ) → IsTrue (is_allowed inst i r) → s ≤ r

-- each intervention has such a start
pub record IsKeptOpening (inst : Tables) (old : List (Option ℕ)) (starts : List ℕ) : Type 0 where
  pub each : length starts ≡ length inst.names
  pub at : (i : ℕ) → i < length inst.names → IsOpeningStart inst (start_of old i) i (slice_index starts i)

-- the plan from which a repair sets out, or the first intervention without an allowed start
abbrev pub OpensAs : Tables → List (Option ℕ) → Opening → Type 0
OpensAs inst old (From starts) = IsKeptOpening inst old starts
OpensAs inst old (Without i) = IsWithoutStart inst i
