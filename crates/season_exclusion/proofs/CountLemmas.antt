-- How many flags are set, and how that changes with one flag.
use mir.Val.{bool_byte}
use Rattle.std.proofs.Common.{◌≡◌, ℕ, zero, suc, ◌+◌, ◌<◌, ◌≤◌, refl, ap, arith, Bool, true, false, cond, eqb, ◌≢◌}
use Rattle.std.proofs.Common.{List, length, get_or, set}
use Rattle.std.proofs.lemmas.Bool.Decides.{nat_tests}
use Rattle.std.proofs.lemmas.List.{get_or-set_same, get_or-set_other, length-set}
use Rattle.instance_model.specs.Naturals.{count_sum}
use Rattle.instance_model.proofs.EntryLemmas.{count_sum-zero, count_sum_same}
use Rattle.season_exclusion.specs.Broken.{count_set}

-- 1 where a flag is set, and else 0
abbrev pub bit : Bool → ℕ
bit b = cond b 1 0

-- a flag as the number that the code makes of it
pub bit_from : (r : ℕ) (b : Bool) → r ≡ bool_byte b → r ≡ bit b
bit_from r true e = e
bit_from r false e = e

pub bit_small : (b : Bool) → bit b ≤ 1
bit_small true = omega arith
bit_small false = omega arith

count_sum-suc : (n : ℕ) (f : ℕ → ℕ) → count_sum (suc n) f ≡ count_sum n f + f n
unfolding count_sum
count_sum-suc n f = refl

pub count_sum-bits_small : (n : ℕ) (f : ℕ → Bool) → count_sum n (λ k. bit (f k)) ≤ n
count_sum-bits_small zero f = rw (count_sum-zero (λ k. bit (f k))) (omega arith)
count_sum-bits_small (suc n) f =
    rw (count_sum-suc n (λ k. bit (f k))) (omega (arith, count_sum-bits_small n f, bit_small (f n)))

count_sum-set : (n j : ℕ) (flags : List Bool) (flag : Bool) → j < n → n ≤ length flags
    → count_sum n (λ k. bit (get_or (set flags j flag) k false)) + bit (get_or flags j false)
    ≡ count_sum n (λ k. bit (get_or flags k false)) + bit flag
count_sum-set zero j flags flag l few = absurd (omega (arith, l))
count_sum-set (suc n) j flags flag l few = at (eqb n j) refl (λ m. count_sum-set n j flags flag m (omega (arith, few)))
  where
    old : ℕ → ℕ
    old k = bit (get_or flags k false)

    new : ℕ → ℕ
    new k = bit (get_or (set flags j flag) k false)

    at : (b : Bool) → eqb n j ≡ b → (j < n → count_sum n new + old j ≡ count_sum n old + bit flag)
        → count_sum (suc n) new + old j ≡ count_sum (suc n) old + bit flag
    at true e _ =
        let here : n ≡ j = grind (arith, nat_tests) in
        let before : count_sum n new ≡ count_sum n old = count_sum_same n new old
        (λ k m. let other : k ≢ j = omega arith in ap bit (get_or-set_other flags j k flag false other)) in
        let last : new n ≡ bit flag = rw here (ap bit (get_or-set_same flags j flag false (omega (arith, few)))) in
        let was : old n ≡ old j = ap old here in
        rw (count_sum-suc n new, count_sum-suc n old, before, last, was) (omega arith)
    at false e rest =
        let other : n ≢ j = grind (arith, nat_tests) in
        let ih = rest (omega (arith, l)) in
        let last : new n ≡ old n = ap bit (get_or-set_other flags j n flag false other) in
        rw (count_sum-suc n new, count_sum-suc n old, last) (omega (arith, ih))

pub count_set_small : (flags : List Bool) → count_set flags ≤ length flags
unfolding count_set
count_set_small flags = count_sum-bits_small (length flags) (λ e. get_or flags e false)

pub count_set-set : (flags : List Bool) (e : ℕ) (flag : Bool) → e < length flags
    → count_set (set flags e flag) + bit (get_or flags e false) ≡ count_set flags + bit flag
unfolding count_set
count_set-set flags e flag l = rw (length-set flags e flag) (count_sum-set (length flags) e flags flag l (omega arith))
