-- The start of each intervention, one after another.
use Rattle.std.proofs.Common.{◌≡◌, ℕ, ◌+◌, ◌<◌, ◌≤◌, ◌⊎◌, inl, inr, refl, sym, ◌∙◌, subst, arith, List, [], ◌∷◌, ◌++◌}
use Rattle.std.proofs.Common.{length, length-append, get_or, IsTrue, Option, Some, None}
use Rattle.std.specs.Prelude.{IfSome, IfNone}
use Rattle.std.proofs.lemmas.List.{get_or_append_left, get_or-append-add}
use Rattle.instance_model.specs.Tables.{Tables, tmax, is_allowed}
use Rattle.instance_model.specs.Plans.{start_of, AreAllowedStarts}
use Rattle.instance_model.proofs.EntryLemmas.{is_allowed_facts}
use Rattle.duration_calendar.specs.Calendar.{IsAllowedIn, IsFirstAllowed}
use Rattle.certificate_tree.proofs.RootLemmas.{le_or_lt}
use Rattle.local_search.specs.Openings.{IsWithoutStart}
use Rattle.fewest_changes.specs.Openings.{IsAllowedOld, IsOpeningStart, IsKeptOpening}

-- ---- one start

-- a start that is allowed lies within the starts of its intervention
within : (inst : Tables) (i s : ℕ) → IsTrue (is_allowed inst i s) → IsAllowedIn inst i 1 (tmax inst i) s
within inst i s allowed =
    let facts = is_allowed_facts inst i s allowed in
    record { from = facts.0; to = facts.1; allowed = allowed }

same_some : (a b : ℕ) → Some a ≡ Some b → a ≡ b
same_some a b e = cc

-- the old start, where it is allowed
old_opens : (inst : Tables) (old : Option ℕ) (i s : ℕ) → old ≡ Some s → IsTrue (is_allowed inst i s)
    → IsOpeningStart inst old i s
old_opens inst old i s is allowed = record {
  allowed = allowed;
  kept = λ r given. same_some s r (sym is ∙ given.given);
  least = λ none r other. absurd (none s (record { given = is; allowed = allowed }));
}

-- and else the least allowed one
least_opens : (inst : Tables) (old : Option ℕ) (i s most : ℕ) → ((r : ℕ) → IsAllowedOld inst old i r → ⊥)
    → most ≡ tmax inst i → IsFirstAllowed inst i 1 most s → IsOpeningStart inst old i s
least_opens inst old i s most none is first = record {
  allowed = first.one.allowed;
  kept = λ r given. absurd (none r given);
  least = λ also r allowed. not_less r allowed (le_or_lt s r);
}
  where
    not_less : (r : ℕ) → IsTrue (is_allowed inst i r) → (s ≤ r) ⊎ (r < s) → s ≤ r
    not_less r allowed (inl h) = h
    not_less r allowed (inr h) =
        absurd (first.least r h (subst (λ (n : ℕ). IsAllowedIn inst i 1 n r) (sym is) (within inst i r allowed)))

-- where no old start is allowed, the first allowed one is that
pub first_start : (inst : Tables) (old : Option ℕ) (i most : ℕ) (o : Option ℕ)
    → ((r : ℕ) → IsAllowedOld inst old i r → ⊥) → most ≡ tmax inst i → IfSome o (IsFirstAllowed inst i 1 most)
    → IfSome o (IsOpeningStart inst old i)
first_start inst old i most None none is first = tt
first_start inst old i most (Some s) none is first = least_opens inst old i s most none is first

pub no_start : (inst : Tables) (i most : ℕ) (o : Option ℕ) → most ≡ tmax inst i
    → IfNone o ((s : ℕ) → IsAllowedIn inst i 1 most s → ⊥) → IfNone o ((s : ℕ) → IsTrue (is_allowed inst i s) → ⊥)
no_start inst i most None is none =
    λ s allowed. none s (subst (λ (n : ℕ). IsAllowedIn inst i 1 n s) (sym is) (within inst i s allowed))
no_start inst i most (Some s) is none = tt

-- an old start that is allowed
pub kept_start : (inst : Tables) (old : Option ℕ) (i s : ℕ) → IsAllowedOld inst old i s → IsOpeningStart inst old i s
kept_start inst old i s kept = old_opens inst old i s kept.given kept.allowed

-- ---- one after another

-- these are the starts of the first i interventions
pub record AreFirst (inst : Tables) (old : List (Option ℕ)) (starts : List ℕ) (i : ℕ) : Type 0 where
  pub each : length starts ≡ i
  pub at : (k : ℕ) → k < i → IsOpeningStart inst (start_of old k) k (get_or starts k 0)

pub first_none : (inst : Tables) (old : List (Option ℕ)) → AreFirst inst old [] 0
first_none inst old = record { each = refl; at = λ k low. absurd (omega (arith, low)) }

pub first_more : (inst : Tables) (old : List (Option ℕ)) (starts : List ℕ) (i s : ℕ) → AreFirst inst old starts i
    → IsOpeningStart inst (start_of old i) i s → AreFirst inst old (starts ++ s ∷ []) (i + 1)
first_more inst old starts i s before here = record {
  each = omega (arith, length-append starts (s ∷ []), before.each);
  at = λ k low. or_last k low (le_or_lt i k);
}
  where
    or_last : (k : ℕ) → k < i + 1 → (i ≤ k) ⊎ (k < i)
        → IsOpeningStart inst (start_of old k) k (get_or (starts ++ s ∷ []) k 0)
    or_last k low (inl high) =
        let same : k ≡ i = omega (arith, low, high) in
        let last : get_or (starts ++ s ∷ []) i 0 ≡ s =
        subst (λ (m : ℕ). get_or (starts ++ s ∷ []) m 0 ≡ s) (omega (arith, before.each))
        (get_or-append-add starts (s ∷ []) 0 0) in
        subst (λ (m : ℕ). IsOpeningStart inst (start_of old m) m (get_or (starts ++ s ∷ []) m 0)) (sym same)
        (subst (IsOpeningStart inst (start_of old i) i) (sym last) here)
    or_last k low (inr below) =
        subst (IsOpeningStart inst (start_of old k) k)
        (sym (get_or_append_left starts (s ∷ []) 0 k (omega (arith, below, before.each)))) (before.at k below)

pub first_opens : (inst : Tables) (old : List (Option ℕ)) (starts : List ℕ)
    → AreFirst inst old starts (length inst.names) → IsKeptOpening inst old starts
first_opens inst old starts are = record { each = are.each; at = are.at }

pub first_without : (inst : Tables) (old : List (Option ℕ)) (starts : List ℕ) (i : ℕ) → AreFirst inst old starts i
    → i < length inst.names → ((s : ℕ) → IsTrue (is_allowed inst i s) → ⊥) → IsWithoutStart inst i
first_without inst old starts i are number none = record {
  number = number;
  none = none;
  first = λ j low. (get_or starts j 0, (are.at j low).allowed);
}

-- ---- what holds of an opening

pub opening_allowed : (inst : Tables) (old : List (Option ℕ)) (starts : List ℕ) → IsKeptOpening inst old starts
    → AreAllowedStarts inst starts
opening_allowed inst old starts opens = record {
  each = opens.each;
  allowed = λ i low. (opens.at i (omega (arith, low, opens.each))).allowed;
}
