-- A bit for each of the first 16 bytes tells where digits end.
use Rattle.std.specs.Prelude.{◌-◌, ◌*◌, ◌/◌, ◌%◌, ◌^◌}
use Rattle.std.proofs.Common.{◌≡◌, ℕ, zero, suc, ◌+◌, ◌<◌, ◌≤◌, List, [], ◌∷◌, length, take, drop, replicate, map}
use Rattle.std.proofs.Common.{Bool, true, false, cond, not, T, leb, refl, ◌∙◌, ap, ap₂, arith, w8, Fits, get_or}
use Rattle.std.proofs.Common.{length-take-le}
use Rattle.std.proofs.Common.{div-one, eq-zero-or-pos, inl, inr, length-drop, length-take}
use Rattle.std.specs.Int.Count.{trailing_of_zero}
use Rattle.std.proofs.lemmas.List.{drop-map}
use Rattle.std.specs.List.{prefix_len}
use native.Mathlib.Nat.{pow-succ', div-div-eq-div-mul, zero-div}
use mathlib.Core.Bool.{beq}
use lib.Count.{count_trailing_zeros}
use lib.Lanes.{zip2, mask_l, top, Each1}
use Rattle.std.proofs.lemmas.List.{length-map}
use Rattle.std.proofs.lemmas.Simd.{zip2_splat, map-map, mask_l-mod, chunk-fits, trailing_mask_l}
use Rattle.json_grammar.specs.Bytes.{is_digit}
use Rattle.json_grammar.specs.Token.{digit_count}
use Rattle.json_events.specs.CountedNumbers.{other_mask}
use Rattle.json_events.proofs.EightDigits.{below}

same_is : (a b : Bool) → T (beq a b) → a ≡ b
same_is true true t = refl
same_is true false t = absurd t
same_is false true t = absurd t
same_is false false t = refl

-- ---- the mask

-- a byte less 48, and whether 10 is at most that, as a lane
abbrev shifted : ℕ → ℕ
shifted x = (x + (256 - 48)) % 256

abbrev at_most : ℕ → ℕ → ℕ
at_most a b = cond (leb a b) 255 0

abbrev is_other : ℕ → Bool
is_other x = not (is_digit x)

each_byte : (v : List ℕ) → Each1 (Fits w8) v → map (top 7) (map (λ x. at_most 10 (shifted x)) v) ≡ map is_other v
each_byte [] fits = refl
each_byte (x ∷ xs) fits = ap₂ (λ a b. a ∷ b)
    (same_is _ _ (below (λ y. beq (top 7 (at_most 10 (shifted y))) (is_other y)) 256 tt x fits.0.fits))
    (each_byte xs fits.1)

splat_left : (h : ℕ → ℕ → ℕ) (y n : ℕ) (xs : List ℕ) → length xs ≡ n → zip2 h (replicate n y) xs ≡ map (h y) xs
splat_left h y zero [] l = refl
splat_left h y zero (x ∷ xs) l = absurd (omega arith)
splat_left h y (suc n) [] l = absurd (omega arith)
splat_left h y (suc n) (x ∷ xs) l = ap (λ r. h y x ∷ r) (splat_left h y n xs (omega arith))

pub mask_is : (bs : List ℕ) → ((k : ℕ) → Fits w8 (get_or bs k 0)) → 16 ≤ length bs
    → mask_l (map (top 7) (zip2 at_most (replicate 16 10)
    (zip2 (λ a b. (a + (256 - b)) % 256) (take 16 bs) (replicate 16 48)))) % 2 ^ 64 ≡ other_mask bs
mask_is bs fit room =
    let v = take 16 bs in
    let long : length v ≡ 16 = length-take-le 16 bs room in
    let sub = zip2_splat (λ a b. (a + (256 - b)) % 256) v 16 48 long in
    let l : length (map shifted v) ≡ 16 = length-map v shifted ∙ long in
    ap (λ z. mask_l (map (top 7) (zip2 at_most (replicate 16 10) z)) % 2 ^ 64) sub
    ∙ ap (λ z. mask_l (map (top 7) z) % 2 ^ 64) (splat_left at_most 10 16 (map shifted v) l)
    ∙ ap (λ z. mask_l (map (top 7) z) % 2 ^ 64) (map-map (at_most 10) shifted v)
    ∙ ap (λ z. mask_l z % 2 ^ 64) (each_byte v (chunk-fits w8 0 16 bs fit))
    ∙ mask_l-mod (map is_other v) 64 (omega (arith, length-map v is_other, long))

-- ---- where its lowest bit is

half : (b : Bool) (m : ℕ) → (cond b 1 0 + 2 * m) / 2 ≡ m
half true m = omega arith
half false m = omega arith

mask_dropped : (k : ℕ) (ms : List Bool) → mask_l ms / 2 ^ k ≡ mask_l (drop k ms)
mask_dropped zero ms = div-one (mask_l ms)
mask_dropped (suc k) [] = zero-div (2 ^ suc k)
mask_dropped (suc k) (m ∷ ms) = rw (pow-succ', ← div-div-eq-div-mul, half m (mask_l ms)) (mask_dropped k ms)

abbrev count : List ℕ → ℕ
count xs = prefix_len (λ x. not (is_other x)) xs

-- the digits among the first bytes, where another byte ends them there, are all
digits_end : (n k : ℕ) (bs : List ℕ) → count (drop k (take n bs)) < length (drop k (take n bs))
    → count (drop k (take n bs)) ≡ digit_count (drop k bs)
digits_end zero zero bs h = absurd (omega arith)
digits_end zero (suc k) bs h = absurd (omega arith)
digits_end (suc n) zero [] h = refl
digits_end (suc n) (suc k) [] h = refl
digits_end (suc n) zero (b ∷ bs) h = by_test (is_digit b) (digits_end n zero bs) h
  where
    by_test : (t : Bool) → (count (take n bs) < length (take n bs) → count (take n bs) ≡ digit_count bs)
        → cond (not (not t)) (1 + count (take n bs)) 0 < suc (length (take n bs))
        → cond (not (not t)) (1 + count (take n bs)) 0 ≡ cond t (suc (digit_count bs)) 0
    by_test true more h = omega (arith, more (omega arith))
    by_test false more h = refl
digits_end (suc n) (suc k) (b ∷ bs) h = digits_end n k bs h

-- a bit that is set is at a byte
ended : (xs : List ℕ) → 0 < mask_l (map is_other xs) → count xs < length xs
ended [] h = absurd (omega arith)
ended (x ∷ xs) h = by_test (is_digit x) (ended xs) h
  where
    by_test : (t : Bool) → (0 < mask_l (map is_other xs) → count xs < length xs)
        → 0 < cond (not t) 1 0 + 2 * mask_l (map is_other xs) → cond (not (not t)) (1 + count xs) 0 < suc (length xs)
    by_test true more h = omega (arith, more (omega arith))
    by_test false more h = omega arith

pub digits_are_first : (bs : List ℕ) (others k : ℕ) → others ≡ other_mask bs
    → count_trailing_zeros 64 (others / 2 ^ k) < 64 → count_trailing_zeros 64 (others / 2 ^ k) ≡ digit_count (drop k bs)
digits_are_first bs others k is small =
    let ys = drop k (take 16 bs) in
    let m : others / 2 ^ k ≡ mask_l (map is_other ys) =
    ap (λ z. z / 2 ^ k) is ∙ mask_dropped k (map is_other (take 16 bs))
    ∙ ap mask_l (drop-map is_other k (take 16 bs)) in
    elim (eq-zero-or-pos (mask_l (map is_other ys))) [
      | inl none ↦
          let e : count_trailing_zeros 64 (others / 2 ^ k) ≡ 64 =
          ap (count_trailing_zeros 64) (m ∙ none) ∙ trailing_of_zero 64 in
          absurd (omega arith)
      | inr some ↦
          let l : length ys ≤ 64 = omega (arith, length-drop k (take 16 bs), length-take 16 bs) in
          ap (count_trailing_zeros 64) m ∙ trailing_mask_l is_other 64 ys l some ∙ digits_end 16 k bs (ended ys some)
    ]
