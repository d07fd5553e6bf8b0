-- The least allowed start of each intervention, one after another.
use Rattle.std.proofs.Common.{◌≡◌, ℕ, ◌+◌, ◌<◌, ◌≤◌, ◌⊎◌, inl, inr, refl, sym, subst, arith, List, [], ◌∷◌, ◌++◌}
use Rattle.std.proofs.Common.{length, length-append, get_or, IsTrue}
use Rattle.std.proofs.lemmas.Bool.{cases_lt}
use Rattle.std.proofs.lemmas.List.{get_or_append_left, get_or-append-add}
use Rattle.instance_model.specs.Tables.{Tables, tmax, is_allowed}
use Rattle.instance_model.specs.Keys.{IsOpening}
use Rattle.instance_model.proofs.EntryLemmas.{is_allowed_facts}
use Rattle.duration_calendar.specs.Calendar.{IsAllowedIn, IsFirstAllowed}
use Rattle.local_search.specs.Openings.{IsWithoutStart}

-- these are the least allowed starts of the first i interventions
pub record AreFirst (inst : Tables) (starts : List ℕ) (i : ℕ) : Type 0 where
  pub each : length starts ≡ i
  pub at : (k : ℕ) → k < i → IsFirstAllowed inst k 1 (tmax inst k) (get_or starts k 0)

pub first_none : (inst : Tables) → AreFirst inst [] 0
first_none inst = record { each = refl; at = λ k low. absurd (omega (arith, low)) }

pub first_more : (inst : Tables) (starts : List ℕ) (i s : ℕ) → AreFirst inst starts i
    → IsFirstAllowed inst i 1 (tmax inst i) s → AreFirst inst (starts ++ s ∷ []) (i + 1)
first_more inst starts i s before here = record {
  each = omega (arith, length-append starts (s ∷ []), before.each);
  at = λ k low. or_last k low (cases_lt k i);
}
  where
    or_last : (k : ℕ) → k < i + 1 → (k < i) ⊎ (i ≤ k)
        → IsFirstAllowed inst k 1 (tmax inst k) (get_or (starts ++ s ∷ []) k 0)
    or_last k low (inr high) =
        let same : k ≡ i = omega (arith, low, high) in
        let last : get_or (starts ++ s ∷ []) i 0 ≡ s =
        subst (λ (m : ℕ). get_or (starts ++ s ∷ []) m 0 ≡ s) (omega (arith, before.each))
        (get_or-append-add starts (s ∷ []) 0 0) in
        subst (λ (m : ℕ). IsFirstAllowed inst m 1 (tmax inst m) (get_or (starts ++ s ∷ []) m 0)) (sym same)
        (subst (IsFirstAllowed inst i 1 (tmax inst i)) (sym last) here)
    or_last k low (inl below) =
        subst (IsFirstAllowed inst k 1 (tmax inst k))
        (sym (get_or_append_left starts (s ∷ []) 0 k (omega (arith, below, before.each)))) (before.at k below)

-- a start that is allowed lies within the starts of its intervention
within : (inst : Tables) (i s : ℕ) → IsTrue (is_allowed inst i s) → IsAllowedIn inst i 1 (tmax inst i) s
within inst i s allowed =
    let facts = is_allowed_facts inst i s allowed in
    record { from = facts.0; to = facts.1; allowed = allowed }

pub first_opens : (inst : Tables) (starts : List ℕ) → AreFirst inst starts (length inst.names) → IsOpening inst starts
first_opens inst starts are = record {
  allowed = record {
    each = are.each;
    allowed = λ i low. (are.at i (omega (arith, low, are.each))).one.allowed;
  };
  least = λ i s low allowed. not_less i s low allowed (cases_lt s (get_or starts i 0));
}
  where
    not_less : (i s : ℕ) → i < length inst.names → IsTrue (is_allowed inst i s)
        → (s < get_or starts i 0) ⊎ (get_or starts i 0 ≤ s) → get_or starts i 0 ≤ s
    not_less i s low allowed (inr h) = h
    not_less i s low allowed (inl h) = absurd ((are.at i low).least s h (within inst i s allowed))

pub first_without : (inst : Tables) (starts : List ℕ) (i : ℕ) → AreFirst inst starts i → i < length inst.names
    → ((s : ℕ) → IsAllowedIn inst i 1 (tmax inst i) s → ⊥) → IsWithoutStart inst i
first_without inst starts i are number none = record {
  number = number;
  none = λ s allowed. none s (within inst i s allowed);
  first = λ j low. (get_or starts j 0, (are.at j low).one.allowed);
}
