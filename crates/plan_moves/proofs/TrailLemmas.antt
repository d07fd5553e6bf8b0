-- The list of plans after a step is pushed or popped.
use Rattle.std.proofs.Common.{◌≡◌, ℕ, zero, suc, ◌+◌, ◌-◌, ◌<◌, List, [], ◌∷◌, ◌++◌, length, reverse, take, get_or, set}
use Rattle.std.proofs.Common.{All, refl, sym, ap, ◌∙◌, subst, arith, Some, length-append}
use Rattle.std.specs.List.{swap}
use Rattle.std.proofs.Math.Seq.{get_or-append_seam, take-append_seam}
use Rattle.std.proofs.lemmas.Grind.{common_steps}
use Rattle.std.proofs.lemmas.List.{reverse-append, length-reverse, length-set, set-set, ext_get_or}
use Rattle.std.proofs.lemmas.List.Elements.{All-push, All-pop}
use Rattle.std.proofs.lemmas.List.Edits.{swap_is, length-swap}
use Rattle.undo_trail.specs.declared.Step.{Step}
use Rattle.undo_trail.specs.declared.Step.TheVariants.{Move, Swap}
use Rattle.instance_model.specs.Tables.{Tables}
use Rattle.instance_model.specs.Plans.{AreAllowedStarts}
use Rattle.plan_moves.specs.Boards.{Board}
use Rattle.plan_moves.specs.KeptPlans.{KeptPlans, present, without_last, with_plan, without_present}
use Rattle.plan_moves.proofs.BoardLemmas.{swapped, get_or-swap_first, get_or-swap_second}
use Rattle.plan_moves.specs.Trails.{undone, plans_before, plans_of, NamesBelow, IsTrailOf, kept_of}

-- ---- lists of plans

length-push : {X : Type 0} (xs : List X) (x : X) → length (xs ++ x ∷ []) ≡ length xs + 1
length-push xs x = length-append xs (x ∷ [])

pub present-push : (plans : List (List ℕ)) (plan : List ℕ) → present (plans ++ plan ∷ []) ≡ plan
present-push plans plan =
    let last : length (plans ++ plan ∷ []) - 1 ≡ length plans = omega (arith, length-push plans plan) in
    ap (λ (k : ℕ). get_or (plans ++ plan ∷ []) k []) last ∙ get_or-append_seam plans plan [] []

without_last-push : (plans : List (List ℕ)) (plan : List ℕ) → without_last (plans ++ plan ∷ []) ≡ plans
without_last-push plans plan =
    let last : length (plans ++ plan ∷ []) - 1 ≡ length plans = omega (arith, length-push plans plan) in
    ap (λ (k : ℕ). take k (plans ++ plan ∷ [])) last ∙ take-append_seam plans (plan ∷ [])

pub present-plans_of : (steps : List Step) (plan : List ℕ) → present (plans_of steps plan) ≡ plan
present-plans_of steps plan = present-push (plans_before (reverse steps) plan) plan

length-plans_before : (steps : List Step) (plan : List ℕ) → length (plans_before steps plan) ≡ length steps
length-plans_before [] plan = refl
length-plans_before (s ∷ steps) plan =
    omega (
      arith,
      length-push (plans_before steps (undone s plan)) (undone s plan),
      length-plans_before steps (undone s plan),
    )

pub length-plans_of : (steps : List Step) (plan : List ℕ) → length (plans_of steps plan) ≡ length steps + 1
length-plans_of steps plan =
    omega (
      arith,
      length-push (plans_before (reverse steps) plan) plan,
      length-plans_before (reverse steps) plan,
      length-reverse steps,
    )

-- a step that leads back to the plan before
pub plans_of-push : (steps : List Step) (step : Step) (plan next : List ℕ) → undone step next ≡ plan
    → plans_of (steps ++ step ∷ []) next ≡ plans_of steps plan ++ next ∷ []
plans_of-push steps step plan next back =
    ap (λ (r : List Step). plans_before r next ++ next ∷ []) (reverse-append steps (step ∷ []))
    ∙ ap (λ (p : List ℕ). (plans_before (reverse steps) p ++ p ∷ []) ++ next ∷ []) back

-- ---- the present plan, and whether there is another

pub present_is : (board : Board) (trail : List Step × ℕ) (now : KeptPlans) → kept_of board trail ≡ now
    → present now.plans ≡ board.starts
present_is board trail now view =
    sym (ap (λ (k : KeptPlans). present k.plans) view) ∙ present-plans_of trail.0 board.starts

pub plan_count : (board : Board) (trail : List Step × ℕ) (now : KeptPlans) → kept_of board trail ≡ now
    → length now.plans ≡ length trail.0 + 1
plan_count board trail now view =
    sym (ap (λ (k : KeptPlans). length k.plans) view) ∙ length-plans_of trail.0 board.starts

-- ---- a step more

pub IsTrailOf-make : (inst : Tables) (plan : List ℕ) → AreAllowedStarts inst plan → IsTrailOf inst [] plan
IsTrailOf-make inst plan a = record {
  named = λ k d l. absurd (omega (arith, l));
  allowed = All-push (AreAllowedStarts inst) [] plan (λ k d l. absurd (omega (arith, l))) a;
}

pub IsTrailOf-push : (inst : Tables) (steps : List Step) (step : Step) (plan next : List ℕ) → IsTrailOf inst steps plan
    → NamesBelow (length inst.names) step → undone step next ≡ plan → AreAllowedStarts inst next
    → IsTrailOf inst (steps ++ step ∷ []) next
IsTrailOf-push inst steps step plan next t n back a = record {
  named = All-push (NamesBelow (length inst.names)) steps step t.named n;
  allowed = subst (All (AreAllowedStarts inst)) (sym (plans_of-push steps step plan next back))
      (All-push (AreAllowedStarts inst) (plans_of steps plan) next t.allowed a);
}

-- what is kept after a step to another plan
pub with_plan-push : (board next : Board) (trail after : List Step × ℕ) (step : Step) (plan : List ℕ) (now : KeptPlans)
    → kept_of board trail ≡ now → next ≡ record board { starts = plan } → after.0 ≡ trail.0 ++ step ∷ []
    → after.1 + 1 ≡ trail.1 → undone step plan ≡ board.starts → kept_of next after ≡ with_plan plan now
with_plan-push board next trail after step plan now view moved pushed spare back =
    let left : after.1 ≡ trail.1 - 1 = omega (arith, spare) in
    let plans = ap (λ (s : List Step). plans_of s plan) pushed ∙ plans_of-push trail.0 step board.starts plan back in
    ap (λ (b : Board). kept_of b after) moved
    ∙ ap (λ (n : ℕ). record { instance = board.instance; plans = plans_of after.0 plan; spare = n }) left
    ∙ ap (λ (l : List (List ℕ)). record { instance = board.instance; plans = l; spare = trail.1 - 1 }) plans
    ∙ ap (with_plan plan) view

-- ---- a step less

pub NamesBelow-pop : (inst : Tables) (steps left : List Step) (step : Step) (plan : List ℕ) → IsTrailOf inst steps plan
    → steps ≡ left ++ step ∷ [] → NamesBelow (length inst.names) step
NamesBelow-pop inst steps left step plan t e =
    (All-pop (NamesBelow (length inst.names)) steps left (Some step) e t.named).1

pub IsTrailOf-pop : (inst : Tables) (steps left : List Step) (step : Step) (plan : List ℕ) → IsTrailOf inst steps plan
    → steps ≡ left ++ step ∷ [] → IsTrailOf inst left (undone step plan)
IsTrailOf-pop inst steps left step plan t e =
    let plans = ap (λ (s : List Step). plans_of s plan) e ∙ plans_of-push left step (undone step plan) plan refl in
    record {
      named = (All-pop (NamesBelow (length inst.names)) steps left (Some step) e t.named).0;
      allowed = (All-pop (AreAllowedStarts inst) (plans_of steps plan) (plans_of left (undone step plan))
          (Some plan) plans t.allowed).0;
    }

-- the present plan has allowed starts
pub allowed-present : (inst : Tables) (steps : List Step) (plan : List ℕ) → IsTrailOf inst steps plan
    → AreAllowedStarts inst plan
allowed-present inst steps plan t =
    (All-pop (AreAllowedStarts inst) (plans_of steps plan) (plans_before (reverse steps) plan)
    (Some plan) refl t.allowed).1

-- what is kept after a step back
pub without_present-pop : (board next : Board) (trail after : List Step × ℕ) (step : Step) (now : KeptPlans)
    → kept_of board trail ≡ now → trail.0 ≡ after.0 ++ step ∷ [] → after.1 ≡ trail.1 + 1
    → next ≡ record board { starts = undone step board.starts } → kept_of next after ≡ without_present now
without_present-pop board next trail after step now view popped spare moved =
    let before = undone step board.starts in
    let plans =
    ap (λ (s : List Step). plans_of s board.starts) popped ∙ plans_of-push after.0 step before board.starts refl in
    let fewer = sym (without_last-push (plans_of after.0 before) board.starts) ∙ ap without_last (sym plans) in
    ap (λ (b : Board). kept_of b after) moved
    ∙ ap (λ (n : ℕ). record { instance = board.instance; plans = plans_of after.0 before; spare = n }) spare
    ∙ ap (λ (l : List (List ℕ)). record { instance = board.instance; plans = l; spare = trail.1 + 1 }) fewer
    ∙ ap without_present view

-- ---- steps and what they undo

pub undone-move : (plan : List ℕ) (i s from : ℕ) → i < length plan → from ≡ get_or plan i 0
    → undone (Move i from) (set plan i s) ≡ plan
undone-move plan i s from l e = set-set plan i s from ∙ at plan i from l e
  where
    at : (plan : List ℕ) (i from : ℕ) → i < length plan → from ≡ get_or plan i 0 → set plan i from ≡ plan
    at [] i from l e = absurd (omega (arith, l))
    at (x ∷ plan) zero from l e = ap (λ (y : ℕ). y ∷ plan) e
    at (x ∷ plan) (suc i) from l e = ap (λ (rest : List ℕ). x ∷ rest) (at plan i from (omega (arith, l)) e)

set_back : (plan : List ℕ) (i j a b : ℕ) → i < length plan → j < length plan → a ≡ get_or plan i 0 → b ≡ get_or plan j 0
    → set (set (set (set plan i b) j a) i a) j b ≡ plan
set_back plan i j a b h k e f =
    ext_get_or 0 _ plan (length-set (set (set (set plan i b) j a) i a) j b ∙ length-set (set (set plan i b) j a) i a
    ∙ length-set (set plan i b) j a ∙ length-set plan i b)
    (λ m q. grind (arith, common_steps))

pub undone-swap : (plan : List ℕ) (i j : ℕ) → i < length plan → j < length plan
    → undone (Swap i j) (swap plan i j) ≡ plan
undone-swap plan i j h k =
    let a = get_or plan i 0 in
    let b = get_or plan j 0 in
    let long = length-swap plan i j in
    let twice : set (set (swap plan i j) i a) j b ≡ swap (swap plan i j) i j = swapped (swap plan i j) i j b a
    (omega (arith, long, h)) (omega (arith, long, k)) (sym (get_or-swap_first plan i j h k))
    (sym (get_or-swap_second plan i j h k)) in
    sym twice ∙ ap (λ (l : List ℕ). set (set l i a) j b) (sym (swap_is plan i j 0 h k))
    ∙ set_back plan i j a b h k refl refl
