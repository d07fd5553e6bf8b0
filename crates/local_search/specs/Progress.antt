-- How far a descent has come: the changes made, and how many more may be made. No public clause cites this.
use Rattle.std.specs.Prelude.{◌≡◌, ℕ, ◌+◌, ◌<◌, List, ◌++◌, length}
use Rattle.instance_model.specs.Tables.{Tables}
use Rattle.instance_model.specs.Keys.{KeyBelow}
use Rattle.plan_moves.specs.declared.change.Change.{Change}
use Rattle.plan_moves.specs.declared.change.Change.TheVariants.{Move, Swap}
use Rattle.plan_moves.specs.Changing.{CanChange, after_change}
use Rattle.plan_moves.specs.KeptPlans.{KeptPlans, present}
use Rattle.local_search.specs.Descents.{plan_key, AllLower, plans_after}

-- the changes made so far, in order, and how many more may be made
pub record Made : Type 0 where
  pub changes : List Change
  pub left : ℕ

-- changes were made, each to a neighbour of strictly lower key, from what was kept
-- and made before to what is kept and made now
pub record LeadsTo (old_kept : KeptPlans) (old : Made) (new_kept : KeptPlans) (new : Made) : Type 0 where
  pub changes : List Change
  pub lower : AllLower old_kept.instance (present old_kept.plans) changes
  pub instance_same : new_kept.instance ≡ old_kept.instance
  pub plans : new_kept.plans ≡ old_kept.plans ++ plans_after (present old_kept.plans) changes
  pub spare : new_kept.spare + length changes ≡ old_kept.spare
  pub made : new.changes ≡ old.changes ++ changes
  pub left : new.left + length changes ≡ old.left

-- a change can't be made, or doesn't lower the key
abbrev pub LowersNot : Tables → List ℕ → Change → Type 0
LowersNot inst plan change =
    CanChange inst plan change → ¬ KeyBelow (plan_key inst (after_change change plan)) (plan_key inst plan)

-- where turns are left and no change was made, this holds
abbrev pub IfStill : (old new : Made) → Type 0 → Type 0
IfStill old new P = 0 < old.left → new.left ≡ old.left → P

-- no start of intervention i lowers the key
abbrev pub NoStartLowers : KeptPlans → ℕ → Type 0
NoStartLowers kept i = (s : ℕ) → LowersNot kept.instance (present kept.plans) (Move i s)

-- no exchange of intervention i with one behind it lowers the key
abbrev pub NoSwapLowers : KeptPlans → ℕ → Type 0
NoSwapLowers kept i =
    (j : ℕ) → i < j → j < length kept.instance.names → LowersNot kept.instance (present kept.plans) (Swap i j)
