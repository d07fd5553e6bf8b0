-- Allowed starts of an interval, and the greatest value over places.
use Rattle.std.proofs.Common.{◌≡◌, ℕ, zero, suc, ◌+◌, ◌-◌, ◌<◌, refl, sym, ◌∙◌, ap, subst, arith, ℤ, ◌≤ℤ◌, Bool, true}
use Rattle.std.proofs.Common.{false, cond, List, [], ◌∷◌, length, get_or, map, fold, filter, IsTrue, Contains, All}
use Rattle.std.proofs.Common.{Option, Some, None, is_some, IfSome, IfNone}
use Rattle.std.specs.List.{range_with_len}
use Rattle.std.specs.Int.{int_max}
use Rattle.std.proofs.lemmas.Int.{fold-int_max_bounds}
use Rattle.std.proofs.lemmas.List.Elements.{All-contains}
use Rattle.std.proofs.lemmas.List.FromFn.{get_or-range_with_len, length-range_with_len}
use Rattle.instance_model.specs.Tables.{Tables, is_allowed}
use Rattle.std.proofs.lemmas.Bool.{false≢true}
use Rattle.duration_calendar.specs.Calendar.{IsAllowedIn, IsFirstAllowed}
use Rattle.lagrange_bound.specs.declared.span.Span.{Span}
use Rattle.lagrange_bound.specs.Boxes.{starts_in}
use Rattle.lagrange_bound.proofs.WorthLemmas.{in_starts as is_in_starts}
use Rattle.certificate_tree.specs.Loads.{greatest_over}

-- ---- starts in an interval
pub in_starts : (inst : Tables) (i s : ℕ) (span : Span) → IsAllowedIn inst i span.from span.to s
    → Contains (starts_in inst i span) s
in_starts inst i s span a = is_in_starts inst i s span a.allowed a.from a.to

pub has_start_from : (inst : Tables) (i s : ℕ) (span : Span) → IsAllowedIn inst i span.from span.to s
    → 0 < length (starts_in inst i span)
has_start_from inst i s span a = let w = in_starts inst i s span a in omega (arith, w.1)

-- ---- values over places
mapped : (f : ℕ → ℤ) (ks : List ℕ) (i k : ℕ) → i < length ks → get_or ks i k ≡ k → Contains (map f ks) (f k)
mapped f [] i k h e = absurd (omega (arith, h))
mapped f (j ∷ ks) zero k h e = (zero, omega arith, ap f e)
mapped f (j ∷ ks) (suc i) k h e = let w = mapped f ks i k (omega (arith, h)) e in (suc w.0, omega (arith, w.1), w.2)

pub greatest_over_ge : (f : ℕ → ℤ) (ks : List ℕ) (k : ℕ) → Contains ks k → f k ≤ℤ greatest_over f ks
unfolding greatest_over
greatest_over_ge f [] k (i, h, e) = absurd (omega (arith, h))
greatest_over_ge f (j ∷ ks) k c = at c (fold-int_max_bounds (f j) (map f ks) (fold int_max (f j) (map f ks)) refl)
  where
    at : Contains (j ∷ ks) k
        → ((f j ≤ℤ fold int_max (f j) (map f ks)) × All (λ x. x ≤ℤ fold int_max (f j) (map f ks)) (map f ks))
        → f k ≤ℤ fold int_max (f j) (map f ks)
    at (zero, h, e) b = subst (λ (i : ℕ). f i ≤ℤ fold int_max (f j) (map f ks)) e b.0
    at (suc i, h, e) b = All-contains (λ x. x ≤ℤ fold int_max (f j) (map f ks)) (map f ks) (f k) b.1
        (mapped f ks i k (omega (arith, h)) e)

-- ---- a start that is found
found : (p : ℕ → Bool) (xs : List ℕ) → 0 < length (filter p xs) → (x : ℕ) × Contains xs x × (p x ≡ true)
found p [] h = absurd (omega (arith, h))
found p (y ∷ xs) h = at (p y) refl (found p xs) h
  where
    at : (b : Bool) → p y ≡ b → (0 < length (filter p xs) → (x : ℕ) × Contains xs x × (p x ≡ true))
        → 0 < length (cond b (y ∷ filter p xs) (filter p xs)) → (x : ℕ) × Contains (y ∷ xs) x × (p x ≡ true)
    at true e more h = (y, (zero, omega arith, refl), e)
    at false e more h = let w = more h in (w.0, (suc w.1.0, omega (arith, w.1.1), w.1.2), w.2)

pub start_found : (inst : Tables) (i : ℕ) (span : Span) → 0 < length (starts_in inst i span)
    → (s : ℕ) × IsAllowedIn inst i span.from span.to s
unfolding starts_in
start_found inst i span h = at (found (is_allowed inst i) (range_with_len span.from (span.to + 1 - span.from)) h)
  where
    at : ((x : ℕ) × Contains (range_with_len span.from (span.to + 1 - span.from)) x × (is_allowed inst i x ≡ true))
        → (s : ℕ) × IsAllowedIn inst i span.from span.to s
    at (x, (k, l, e), a) =
        let m : k < span.to + 1 - span.from = rw (length-range_with_len span.from (span.to + 1 - span.from)) at l in
        let f : span.from + k ≡ x = sym (get_or-range_with_len span.from (span.to + 1 - span.from) k x m) ∙ e in
        (x, record { from = omega (arith, f); to = omega (arith, f, m); allowed = a })

pub has_start_is : (inst : Tables) (i : ℕ) (span : Span) (o : Option ℕ) (b : Bool) → b ≡ is_some o
    → IfSome o (IsFirstAllowed inst i span.from span.to) → IfNone o ((s : ℕ) → ¬ IsAllowedIn inst i span.from span.to s)
    → (IsTrue b → 0 < length (starts_in inst i span)) × (0 < length (starts_in inst i span) → IsTrue b)
has_start_is inst i span (Some s) b e h k = (λ y. has_start_from inst i s span h.one, λ y. e)
has_start_is inst i span None b e h k =
    (λ y. absurd (false≢true (sym e ∙ y)), λ y. let w = start_found inst i span y in absurd (k w.0 w.1))
