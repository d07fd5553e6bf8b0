-- Which keys a set has once one is added to it.
use Rattle.std.proofs.Common.{◌≡◌, ℕ, ◌≤◌, Bool, true, false, not, cond, List, [], ◌∷◌, ◌++◌, length, refl, sym, ◌∙◌}
use Rattle.std.proofs.Common.{ap, arith, bytes_eq, nat_eq, eq-eqb, eqb-true}
use Rattle.std.specs.Prelude.{◌||◌, nat_le}
use Rattle.std.specs.List.{list_any}
use Rattle.std.specs.Ordering.{nat_cmp, is_eq}
use Rattle.std.proofs.lemmas.Bool.{false≢true}
use Rattle.std.proofs.lemmas.Bool.Decides.{nat_tests}
use Rattle.std.proofs.lemmas.Cmp.{eq_by_cmp_equiv, nat_cmp_total}
use Rattle.std.proofs.lemmas.List.Folds.{list_any-append}
use Rattle.std.proofs.lemmas.Map.Lookups.{exact_unsigned}
use Rattle.std.proofs.lemmas.Map.Views.{tells_apart}
use Rattle.std.proofs.lemmas.Slice.Eq.{bytes_eq-Decides}
use Rattle.ordered_keys.specs.Marks.{are_bytes, is_short, mark}
use Rattle.ordered_keys.proofs.KeyMarks.{mark_same, parts}

either_way : (a b : Bool) → (a ≡ true → b ≡ true) → (b ≡ true → a ≡ true) → a ≡ b
either_way true true f g = refl
either_way true false f g = sym (f refl)
either_way false true f g = g refl
either_way false false f g = refl

-- what is told new wasn't there
pub absent : (new had : Bool) → new ≡ not had → new ≡ true → had ≡ false
absent new true e h = cc
absent new false e h = refl

with_last : (same had : Bool) → cond same true had ≡ (had || (same || false))
with_last true true = refl
with_last true false = refl
with_last false true = refl
with_last false false = refl

-- one passes now if the one that was added does or one did before
pub any_more : {X : Type 0} (is : X → Bool) (xs : List X) (y : X) (same : Bool) → same ≡ is y
    → cond same true (list_any is xs) ≡ list_any is (xs ++ y ∷ [])
any_more is xs y same e =
    with_last same (list_any is xs) ∙ ap (λ b. list_any is xs || (b || false)) e
    ∙ sym (list_any-append is xs (y ∷ []))

-- keys of other lengths differ
other_length : (q k : List ℕ) → (length q ≡ length k → false ≡ true) → bytes_eq q k ≡ false
other_length q k apart =
    either_way (bytes_eq q k) false (λ h. apart (ap length ((bytes_eq-Decides q k).0 h))) (λ h. absurd (false≢true h))

pub short_length : (q : List ℕ) → is_short q ≡ true → length q ≤ 15
short_length q h = let few = (parts (are_bytes q) (nat_le (length q) 15) h).1 in grind (arith, nat_tests)

-- what a short key that is added changes for longer ones
pub longer_kept : (ks : List (List ℕ)) (k q : List ℕ) → is_short k ≡ true → 16 ≤ length q
    → list_any (bytes_eq q) ks ≡ list_any (bytes_eq q) (ks ++ k ∷ [])
longer_kept ks k q h l =
    let few = short_length k h in
    any_more (bytes_eq q) ks k false (sym (other_length q k (λ e. absurd (omega (arith, e, few, l)))))

-- and what a longer one changes for short ones
pub shorter_kept : (ks : List (List ℕ)) (k q : List ℕ) → 16 ≤ length k → is_short q ≡ true
    → list_any (bytes_eq q) ks ≡ list_any (bytes_eq q) (ks ++ k ∷ [])
shorter_kept ks k q l h =
    let few = short_length q h in
    any_more (bytes_eq q) ks k false (sym (other_length q k (λ e. absurd (omega (arith, e, few, l)))))

-- numbers are the same where neither is the less
pub number_tells : (m n : ℕ) → is_eq (nat_cmp m n) ≡ nat_eq n m
number_tells m n =
    either_way (is_eq (nat_cmp m n)) (nat_eq n m)
    (λ e. eq-eqb n m (sym (tells_apart exact_unsigned m n e)))
    (λ e. let same : n ≡ m = eqb-true n m e in
    ap (λ k. is_eq (nat_cmp m k)) same ∙ (eq_by_cmp_equiv nat_cmp_total).refl m)

-- short keys are the same where their numbers are
pub mark_tells : (k q : List ℕ) → is_short k ≡ true → is_short q ≡ true
    → is_eq (nat_cmp (mark k) (mark q)) ≡ bytes_eq q k
mark_tells k q h l =
    either_way (is_eq (nat_cmp (mark k) (mark q))) (bytes_eq q k)
    (λ e. (bytes_eq-Decides q k).1 (sym (mark_same k q h l (tells_apart exact_unsigned (mark k) (mark q) e))))
    (λ e. ap (λ x. is_eq (nat_cmp (mark k) (mark x))) ((bytes_eq-Decides q k).0 e)
    ∙ (eq_by_cmp_equiv nat_cmp_total).refl (mark k))
