-- A plan after a change that can be made, and the step back from it.
use Rattle.std.proofs.Common.{◌≡◌, ℕ, refl, sym, subst, arith, List, length, get_or}
use Rattle.undo_trail.specs.declared.Step.{Step}
use Rattle.instance_model.specs.Tables.{Tables}
use Rattle.instance_model.specs.Plans.{AreAllowedStarts}
use Rattle.plan_moves.specs.declared.change.Change.{Change}
use Rattle.plan_moves.specs.declared.change.Change.TheVariants.{Move, Swap}
use Rattle.plan_moves.specs.Boards.{Board}
use Rattle.plan_moves.specs.Changing.{CanChange, after_change}
use Rattle.plan_moves.specs.KeptPlans.{KeptPlans, present}
use Rattle.plan_moves.specs.Trails.{undone, step_back, NamesBelow, kept_of}
use Rattle.plan_moves.proofs.BoardLemmas.{AreAllowedStarts-set, AreAllowedStarts-swap}
use Rattle.plan_moves.proofs.TrailLemmas.{undone-move, undone-swap, present_is}

-- the starts after it are allowed
pub allowed-after_change : (inst : Tables) (plan : List ℕ) (change : Change) → AreAllowedStarts inst plan
    → CanChange inst plan change → AreAllowedStarts inst (after_change change plan)
allowed-after_change inst plan (Move i s) a c = AreAllowedStarts-set inst plan i s a c.1
allowed-after_change inst plan (Swap i j) a c = AreAllowedStarts-swap inst plan i j a c.0 c.1 c.2 c.3

-- the step back names interventions of the instance
pub named-step_back : (inst : Tables) (plan : List ℕ) (change : Change) → CanChange inst plan change
    → NamesBelow (length inst.names) (step_back change plan)
named-step_back inst plan (Move i s) c = c.0
named-step_back inst plan (Swap i j) c = (c.0, c.1)

-- and leads back
pub undone-step_back : (inst : Tables) (plan : List ℕ) (change : Change) → AreAllowedStarts inst plan
    → CanChange inst plan change → undone (step_back change plan) (after_change change plan) ≡ plan
undone-step_back inst plan (Move i s) a c = undone-move plan i s (get_or plan i 0) (omega (arith, a.each, c.0)) refl
undone-step_back inst plan (Swap i j) a c =
    undone-swap plan i j (omega (arith, a.each, c.0)) (omega (arith, a.each, c.1))

-- what can be made from the present plan can be made on the board
pub can_change-board : (board : Board) (trail : List Step × ℕ) (now : KeptPlans) (change : Change)
    → kept_of board trail ≡ now → CanChange now.instance (present now.plans) change
    → CanChange board.instance board.starts change
can_change-board board trail now change view can =
    subst (λ (k : KeptPlans). CanChange k.instance board.starts change) (sym view)
    (subst (λ (plan : List ℕ). CanChange now.instance plan change) (present_is board trail now view) can)
