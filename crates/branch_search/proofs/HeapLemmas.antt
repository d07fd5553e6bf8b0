-- The heap of the leaves that wait: its first one has the least worth.
use Rattle.std.proofs.Common.{◌≡◌, ℕ, refl, sym, ◌∙◌, ap, arith, ℤ, ◌≤ℤ◌, ◌<ℤ◌, List, [], ◌∷◌, map, All, false}
use Rattle.std.specs.List.{AllByRecursion}
use Rattle.std.specs.declared.cmp.Ordering.{Ordering}
use Rattle.std.specs.Ordering.{is_lt, nat_cmp, int_cmp, ordering_then}
use Rattle.std.proofs.lemmas.Bool.{false≢true}
use Rattle.std.proofs.lemmas.Cmp.{int_ranked, by_ranked}
use Rattle.std.proofs.lemmas.List.Elements.{All-nil, All-cons}
use Rattle.fixed_num.proofs.SignedLemmas.{signed_arith}

less_is_at_most : (a b : ℤ) → a <ℤ b → a ≤ℤ b
less_is_at_most a b h = omega (arith, signed_arith)

same_is_at_most : (a b : ℤ) → b ≡ a → a ≤ℤ b
same_is_at_most a b h = omega (arith, signed_arith)

-- the order is by the first number, and by the second, turned round, where those are the same
not_before : (a b : ℤ) (o : Ordering) → is_lt (ordering_then (int_cmp b a) o) ≡ false → a ≤ℤ b
not_before a b o h = by_ranked (b <ℤ a) (b ≡ a) (a <ℤ b) (int_cmp b a) (int_ranked b a (int_cmp b a) refl)
    (λ e l. absurd (false≢true (sym h ∙ ap (λ (x : Ordering). is_lt (ordering_then x o)) e)))
    (λ e q. same_is_at_most a b q) (λ e l. less_is_at_most a b l)

pub least_first : {X : Type 0} (f : X → ℤ × ℕ) (x : X) (xs : List X)
    → AllByRecursion
    (λ y. is_lt (ordering_then (int_cmp (f y).0 (f x).0) (nat_cmp (f x).1 (f y).1)) ≡ false) xs
    → All (λ e. (f x).0 ≤ℤ e.0) (map f xs)
least_first f x [] h = All-nil (λ e. (f x).0 ≤ℤ e.0)
least_first f x (y ∷ ys) h = All-cons (λ e. (f x).0 ≤ℤ e.0) (f y) (map f ys)
    (not_before (f x).0 (f y).0 (nat_cmp (f x).1 (f y).1) h.0) (least_first f x ys h.1)
