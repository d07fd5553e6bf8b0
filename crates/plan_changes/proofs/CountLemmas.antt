-- Numbers of changes.
use Rattle.std.proofs.Common.{◌≡◌, ◌≢◌, ℕ, zero, suc, ◌+◌, ◌<◌, ◌≤◌, refl, sym, ◌∙◌, ap, subst, arith, Bool, true}
use Rattle.std.proofs.Common.{false}
use Rattle.std.proofs.Common.{cond, List, length, map, get_or, set, Option, Some, eqb}
use Rattle.std.specs.Prelude.{nat_lt}
use Rattle.std.proofs.lemmas.Bool.Decides.{nat_tests}
use Rattle.std.proofs.lemmas.List.{length-set, get_or-set_same, get_or-set_other}
use Rattle.instance_model.specs.Naturals.{count_sum}
use Rattle.instance_model.specs.Plans.{start_of}
use Rattle.instance_model.proofs.BoardLemmas.{start_of-starts}
use Rattle.plan_changes.specs.Changes.{is_changed, changes_of, OldStartsAreNoChanges}

-- ---- sums

no_greater : (n : ℕ) (f g : ℕ → ℕ) → ((k : ℕ) → k < n → g k ≤ f k) → count_sum n g ≤ count_sum n f
unfolding count_sum
no_greater zero f g h = omega arith
no_greater (suc n) f g h = omega (arith, no_greater n f g (λ k l. h k (omega (arith, l))), h n (omega arith))

-- a sum that is nowhere greater and smaller at one place is smaller
count_sum_less : (n i : ℕ) (f g : ℕ → ℕ) → i < n → ((k : ℕ) → k < n → g k ≤ f k) → g i < f i
    → count_sum n g < count_sum n f
unfolding count_sum
count_sum_less zero i f g l h lt = absurd (omega (arith, l))
count_sum_less (suc n) i f g l h lt =
    at (nat_lt i n) refl (λ before. count_sum_less n i f g before (λ k m. h k (omega (arith, m))) lt)
  where
    at : (b : Bool) → nat_lt i n ≡ b → (i < n → count_sum n g < count_sum n f)
        → count_sum n g + g n < count_sum n f + f n
    at true e less =
        let before : i < n = grind (arith, nat_tests) in
        omega (arith, less before, h n (omega arith))
    at false e less =
        let last : i ≡ n = grind (arith, nat_tests) in
        let here : g n < f n = subst (λ (m : ℕ). g m < f m) last lt in
        omega (arith, no_greater n f g (λ k m. h k (omega (arith, m))), here)

all_zero : (n : ℕ) (f : ℕ → ℕ) → ((k : ℕ) → k < n → f k ≡ 0) → count_sum n f ≡ 0
unfolding count_sum
all_zero zero f h = refl
all_zero (suc n) f h =
    omega (arith, all_zero n f (λ k l. h k (omega (arith, l))), h n (omega arith))

-- ---- one start

-- the old start is no change
old_is_none : (s : ℕ) → is_changed (Some s) s ≡ false
old_is_none s = grind (arith, nat_tests)

-- another one is
other_is_one : (s x : ℕ) → x ≢ s → is_changed (Some s) x ≡ true
other_is_one s x h = grind (arith, nat_tests)

abbrev pub one_if : Bool → ℕ
one_if b = cond b 1 0

-- whether the start of intervention k is a change, as a number
abbrev pub counted : List (Option ℕ) → List ℕ → ℕ → ℕ
counted old starts k = one_if (is_changed (start_of old k) (get_or starts k 0))

one_of : (o : Option ℕ) (s x : ℕ) → o ≡ Some s → x ≢ s → one_if (is_changed o x) ≡ 1
one_of o s x is h = ap (λ (o : Option ℕ). one_if (is_changed o x)) is ∙ ap one_if (other_is_one s x h)

none_of : (o : Option ℕ) (s x : ℕ) → o ≡ Some s → x ≡ s → one_if (is_changed o x) ≡ 0
none_of o s x is same =
    ap (λ (o : Option ℕ). one_if (is_changed o x)) is
    ∙ ap (λ (y : ℕ). one_if (is_changed (Some s) y)) same
    ∙ ap one_if (old_is_none s)

set_counts : (old : List (Option ℕ)) (starts : List ℕ) (i s k : ℕ) → i < length starts → start_of old i ≡ Some s
    → counted old (set starts i s) k ≤ counted old starts k
set_counts old starts i s k l is = at (eqb k i) refl
  where
    at : (b : Bool) → eqb k i ≡ b → counted old (set starts i s) k ≤ counted old starts k
    at true e =
        let same : k ≡ i = grind (arith, nat_tests) in
        let none = none_of (start_of old i) s (get_or (set starts i s) i 0) is (get_or-set_same starts i s 0 l) in
        rw same (omega (arith, none))
    at false e =
        let other : k ≢ i = grind (arith, nat_tests) in
        let kept = ap (λ (x : ℕ). one_if (is_changed (start_of old k) x)) (get_or-set_other starts i k s 0 other) in
        omega (arith, kept)

-- one change less, where a start goes back
pub set_changes_fewer : (old : List (Option ℕ)) (starts : List ℕ) (i s : ℕ) → i < length starts
    → start_of old i ≡ Some s → get_or starts i 0 ≢ s → changes_of old (set starts i s) < changes_of old starts
unfolding changes_of
set_changes_fewer old starts i s l is other =
    let none = none_of (start_of old i) s (get_or (set starts i s) i 0) is (get_or-set_same starts i s 0 l) in
    let one = one_of (start_of old i) s (get_or starts i 0) is other in
    subst (λ (n : ℕ). count_sum n (counted old (set starts i s)) < count_sum (length starts) (counted old starts))
    (sym (length-set starts i s))
    (count_sum_less (length starts) i (counted old starts) (counted old (set starts i s)) l
    (λ k m. set_counts old starts i s k l is) (omega (arith, none, one)))

-- a plan of old starts has no change
pub OldStartsAreNoChanges-proof : OldStartsAreNoChanges
unfolding changes_of
OldStartsAreNoChanges-proof starts =
    all_zero (length starts) (counted (map Some starts) starts)
    (λ k l. none_of (start_of (map Some starts) k) (get_or starts k 0) (get_or starts k 0) (start_of-starts starts k l)
    refl)
