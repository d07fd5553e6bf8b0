-- Changes of a plan and its neighbours.
use Rattle.std.proofs.Common.{◌≡◌, ◌≢◌, ℕ, ◌<◌, refl, sym, ◌∙◌, ap, subst, arith, inl, inr, List, length, get_or, set}
use Rattle.std.proofs.Common.{false}
use Rattle.std.specs.List.{swap}
use Rattle.std.proofs.lemmas.Bool.{cases_order, both_ways}
use Rattle.std.proofs.lemmas.List.{set-get_or, set_comm}
use Rattle.std.proofs.lemmas.List.Edits.{swap_is}
use Rattle.instance_model.specs.Tables.{Tables, is_allowed}
use Rattle.instance_model.specs.Keys.{KeyBelow, IsNeighbour, IsMove, IsSwap}
use Rattle.plan_moves.specs.declared.change.Change.{Change}
use Rattle.plan_moves.specs.declared.change.Change.TheVariants.{Move, Swap}
use Rattle.plan_moves.specs.Changing.{CanChange, after_change}
use Rattle.local_search.specs.Descents.{plan_key, IsLocalOptimum}
use Rattle.local_search.specs.Progress.{LowersNot}
use Rattle.local_search.proofs.KeyLemmas.{KeyBelow-same}

-- a change that can be made leads to a neighbour
pub IsNeighbour-changed : (inst : Tables) (plan : List ℕ) (change : Change) → length plan ≡ length inst.names
    → CanChange inst plan change → IsNeighbour inst plan (after_change change plan)
IsNeighbour-changed inst plan (Move i s) each can =
    inl (i, s, record { each = each; number = can.0; allowed = can.1; moved = refl })
IsNeighbour-changed inst plan (Swap i j) each can =
    inr (
      i,
      j,
      record {
        each = each;
        first = can.0;
        second = can.1;
        first_allowed = can.2;
        second_allowed =
            can.3;
        swapped = refl;
      },
    )

-- a plan with a key as before isn't lower
same_not_below : (inst : Tables) (plan other : List ℕ) → other ≡ plan
    → KeyBelow (plan_key inst other) (plan_key inst plan) → ⊥
same_not_below inst plan other e b =
    KeyBelow-same (plan_key inst plan) (subst (λ (p : List ℕ). KeyBelow (plan_key inst p) (plan_key inst plan)) e b)

-- an exchange of equal starts changes nothing
pub swap-equal : (plan : List ℕ) (i j : ℕ) → i < length plan → j < length plan
    → get_or plan i 0 ≡ get_or plan j 0 → swap plan i j ≡ plan
swap-equal plan i j h k e =
    sym (swap_is plan i j 0 h k)
    ∙ ap (λ (s : ℕ). set (set plan i s) j (get_or plan i 0)) (sym e)
    ∙ ap (λ (l : List ℕ). set l j (get_or plan i 0)) (set-get_or plan i 0)
    ∙ ap (λ (s : ℕ). set plan j s) e
    ∙ set-get_or plan j 0

pub equal_starts_lower_not : (inst : Tables) (plan : List ℕ) (i j : ℕ) → i < length plan → j < length plan
    → get_or plan i 0 ≡ get_or plan j 0 → LowersNot inst plan (Swap i j)
equal_starts_lower_not inst plan i j h k e can b =
    same_not_below inst plan (swap plan i j) (swap-equal plan i j h k e) b

-- an exchange whose first intervention may not start where the second does, or the other way round
pub first_not_allowed : (inst : Tables) (plan : List ℕ) (i j : ℕ) → is_allowed inst i (get_or plan j 0) ≡ false
    → LowersNot inst plan (Swap i j)
first_not_allowed inst plan i j e can b = both_ways (is_allowed inst i (get_or plan j 0)) e can.2

pub second_not_allowed : (inst : Tables) (plan : List ℕ) (i j : ℕ) → is_allowed inst j (get_or plan i 0) ≡ false
    → LowersNot inst plan (Swap i j)
second_not_allowed inst plan i j e can b = both_ways (is_allowed inst j (get_or plan i 0)) e can.3

-- an exchange is the same the other way round
swap_turned : (plan : List ℕ) (i j : ℕ) → i < length plan → j < length plan → i ≢ j → swap plan i j ≡ swap plan j i
swap_turned plan i j h k ne =
    sym (swap_is plan i j 0 h k) ∙ set_comm plan i j (get_or plan j 0) (get_or plan i 0) ne ∙ swap_is plan j i 0 k h

-- where no start and no exchange lowers the key, no neighbour has a lower one
pub IsLocalOptimum-from : (inst : Tables) (plan : List ℕ) → length plan ≡ length inst.names
    → ((i : ℕ) → i < length inst.names → (s : ℕ) → LowersNot inst plan (Move i s))
    → ((i : ℕ) → i < length inst.names → (j : ℕ) → i < j → j < length inst.names → LowersNot inst plan (Swap i j))
    → IsLocalOptimum inst plan
IsLocalOptimum-from inst plan each starts swaps other near below =
    elim near [ inl m ↦ moved m.0 m.1 m.2 | inr x ↦ swapped x.0 x.1 x.2 ]
  where
    moved : (i s : ℕ) → IsMove inst plan other i s → ⊥
    moved i s m = starts i m.number s (m.number, m.allowed)
        (subst (λ (p : List ℕ). KeyBelow (plan_key inst p) (plan_key inst plan)) m.moved below)

    swapped : (i j : ℕ) → IsSwap inst plan other i j → ⊥
    swapped i j x =
        let h : i < length plan = omega (arith, each, x.first) in
        let k : j < length plan = omega (arith, each, x.second) in
        let lower : KeyBelow (plan_key inst (swap plan i j)) (plan_key inst plan) =
        subst (λ (p : List ℕ). KeyBelow (plan_key inst p) (plan_key inst plan)) x.swapped below in
        elim (cases_order i j) [
          | inl e ↦
              same_not_below inst plan (swap plan i j)
              (swap-equal plan i j h k (ap (λ (m : ℕ). get_or plan m 0) e)) lower
          | inr o ↦ elim o [
            | inl l ↦ swaps i x.first j l x.second (x.first, x.second, x.first_allowed, x.second_allowed) lower
            | inr l ↦ swaps j x.second i l x.first (x.second, x.first, x.second_allowed, x.first_allowed)
                (subst (λ (p : List ℕ). KeyBelow (plan_key inst p) (plan_key inst plan))
                (swap_turned plan i j h k (λ e. omega (arith, e, l))) lower)
          ]
        ]
