-- The rules that a plan must keep, in the order in which a broken one is named, and feasibility.
use Rattle.std.specs.Prelude.{ℕ, zero, suc, ◌+◌, ◌<◌, ◌≤◌, ◌≤ℤ◌, Bool, not, ◌&&◌, List, length, Option, Some, None}
use Rattle.std.specs.Prelude.{IsNone, IsTrue, int_lt, nat_le, nat_lt, if◌then◌else◌, ◌↔◌}
use Rattle.instance_model.specs.declared.rule.Rule.{Rule}
use Rattle.instance_model.specs.declared.rule.Rule.TheVariants.{Unscheduled, Outside, Past, Over, Under, Clash}
use Rattle.instance_model.specs.Tables.{Tables, tmax, delta_of, upper_of, lower_of, in_season_of, exclusion_of}
use Rattle.instance_model.specs.Plans.{start_of, HasAllowedStart, is_running, load_sum}

-- the first of two that is some
abbrev pub or_else : {A : Type 0} → Option A → Option A → Option A
or_else (Some x) o = Some x
or_else None o = o

-- the first of f 0, .., f (n - 1) that is some
unfoldable pub first_of : {A : Type 0} → ℕ → (ℕ → Option A) → Option A
first_of zero f = None
first_of (suc n) f = or_else (first_of n f) (f n)

-- ---- starts

-- the rule on starts that intervention i breaks: it has no start, one outside 1 to
-- tmax, or one whose run goes past the horizon
unfoldable pub start_rule_at : Tables → ℕ → Option ℕ → Option Rule
start_rule_at inst i None = Some (Unscheduled i)
start_rule_at inst i (Some s) =
    if not (nat_le 1 s && nat_le s (tmax inst i)) then Some (Outside i s)
    else if nat_lt (inst.periods + 1) (s + delta_of inst i s) then Some (Past i s)
    else None

-- the first broken rule on starts, by intervention
unfoldable pub first_start_rule : Tables → List (Option ℕ) → Option Rule
first_start_rule inst plan = first_of (length inst.names) (λ i. start_rule_at inst i (start_of plan i))

-- ---- bands

-- the rule that the load of resource c breaks in period t: it is above the upper or below the lower limit
unfoldable pub band_rule_at : Tables → List (Option ℕ) → ℕ → ℕ → Option Rule
band_rule_at inst plan c t =
    if int_lt (upper_of inst c t) (load_sum inst plan c t)
    then Some (Over c t (load_sum inst plan c t) (upper_of inst c t))
    else if int_lt (load_sum inst plan c t) (lower_of inst c t)
    then Some (Under c t (load_sum inst plan c t) (lower_of inst c t))
    else None

-- the first broken rule on loads, by resource, then period
unfoldable pub first_band_rule : Tables → List (Option ℕ) → Option Rule
first_band_rule inst plan =
    first_of (length inst.resource_names) (λ c. first_of inst.periods (λ u. band_rule_at inst plan c (u + 1)))

-- ---- exclusions

-- both interventions of exclusion e are in progress in period t, which belongs to its season
unfoldable pub clashes : Tables → List (Option ℕ) → ℕ → ℕ → Bool
clashes inst plan e t =
    in_season_of inst (exclusion_of inst e).season t && is_running inst plan (exclusion_of inst e).first t
    && is_running inst plan (exclusion_of inst e).second t

-- exclusion e is broken: the rule names its least such period
unfoldable pub clash_rule_at : Tables → List (Option ℕ) → ℕ → Option Rule
clash_rule_at inst plan e =
    first_of inst.periods (λ u. if clashes inst plan e (u + 1) then Some (Clash e (u + 1)) else None)

-- the first broken exclusion
unfoldable pub first_clash_rule : Tables → List (Option ℕ) → Option Rule
first_clash_rule inst plan = first_of (length inst.exclusion_names) (clash_rule_at inst plan)

-- ---- all rules

-- the first broken rule: starts, then bands, then exclusions
unfoldable pub first_rule : Tables → List (Option ℕ) → Option Rule
first_rule inst plan =
    or_else (first_start_rule inst plan) (or_else (first_band_rule inst plan) (first_clash_rule inst plan))

-- the plan breaks no rule
abbrev pub IsFeasible : Tables → List (Option ℕ) → Type 0
IsFeasible inst plan = IsNone (first_rule inst plan)

-- ---- feasibility in the words of the subject

-- the load of resource c in period t is within its limits
pub record IsWithinBand (inst : Tables) (plan : List (Option ℕ)) (c t : ℕ) : Type 0 where
  pub not_below : lower_of inst c t ≤ℤ load_sum inst plan c t
  pub not_above : load_sum inst plan c t ≤ℤ upper_of inst c t

-- the two interventions of exclusion e are not in progress together in period t, if that belongs to its season
abbrev pub KeepsApart : Tables → List (Option ℕ) → ℕ → ℕ → Type 0
KeepsApart inst plan e t =
    IsTrue (in_season_of inst (exclusion_of inst e).season t)
    → ¬ (IsTrue (is_running inst plan (exclusion_of inst e).first t)
    × IsTrue (is_running inst plan (exclusion_of inst e).second t))

-- each intervention has an allowed start, each load is within its limits in every period, and no exclusion is broken
pub record KeepsRules (inst : Tables) (plan : List (Option ℕ)) : Type 0 where
  pub starts : (i : ℕ) → i < length inst.names → HasAllowedStart inst plan i
  pub loads : (c t : ℕ) → c < length inst.resource_names → 1 ≤ t → t ≤ inst.periods → IsWithinBand inst plan c t
  pub seasons : (e t : ℕ) → e < length inst.exclusion_names → 1 ≤ t → t ≤ inst.periods → KeepsApart inst plan e t

-- a plan breaks no rule exactly where it keeps the rules
abbrev pub FeasibleMeansKept : Tables → Type 0
FeasibleMeansKept inst = (plan : List (Option ℕ)) → IsFeasible inst plan ↔ KeepsRules inst plan
