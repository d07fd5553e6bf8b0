-- Defines which interventions keep their start, and the rule that the first kept start breaks which isn't allowed.
use Rattle.std.specs.Prelude.{◌≡◌, ℕ, ◌<◌, ◌≤◌, List, length, Option, Some, None, IsTrue, if◌then◌else◌}
use Rattle.instance_model.specs.declared.rule.Rule.{Rule}
use Rattle.instance_model.specs.Tables.{Tables, is_allowed}
use Rattle.instance_model.specs.Plans.{start_of}
use Rattle.instance_model.specs.Rules.{first_of, start_rule_at}
use Rattle.plan_roll.specs.Rolled.{is_kept}

-- intervention i begins at s, before the period
pub record BeginsAt (plan : List (Option ℕ)) (period i s : ℕ) : Type 0 where
  pub given : start_of plan i ≡ Some s
  pub before : s < period

-- each kept start is allowed
abbrev pub KeptAreAllowed : Tables → List (Option ℕ) → ℕ → Type 0
KeptAreAllowed inst plan period =
    (i s : ℕ) → i < length inst.names → BeginsAt plan period i s → IsTrue (is_allowed inst i s)

-- the rule on starts that intervention i breaks, if its start is kept
unfoldable pub kept_rule_at : Tables → List (Option ℕ) → ℕ → ℕ → Option Rule
kept_rule_at inst plan period i =
    if is_kept period (start_of plan i) then start_rule_at inst i (start_of plan i) else None

-- the first such rule, by intervention
unfoldable pub first_kept_rule : Tables → List (Option ℕ) → ℕ → Option Rule
first_kept_rule inst plan period = first_of (length inst.names) (kept_rule_at inst plan period)

-- a plan goes on with the one so far: each intervention that begins before the period has its start, and each other one
-- starts in that period or later
pub record GoesOn (inst : Tables) (plan : List (Option ℕ)) (period : ℕ) (new : List (Option ℕ)) : Type 0 where
  pub kept : (i s : ℕ) → i < length inst.names → BeginsAt plan period i s → start_of new i ≡ Some s
  pub later : (i s : ℕ) → i < length inst.names → ((b : ℕ) → BeginsAt plan period i b → ⊥) → start_of new i ≡ Some s
      → period ≤ s
