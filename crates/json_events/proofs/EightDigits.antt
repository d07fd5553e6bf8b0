-- Eight digits as the bytes of a word, and the number that they write.
use Rattle.std.specs.Prelude.{◌*◌, ◌/◌, ◌%◌, ◌^◌, ◌-◌, bit_and, bit_xor}
use Rattle.std.proofs.Common.{◌≡◌, ℕ, zero, suc, ◌+◌, ◌<◌, ◌≤◌, List, [], ◌∷◌, ◌++◌, length, take, replicate, map}
use Rattle.std.proofs.Common.{Bool, true, false, cond, refl, sym, ◌∙◌, ap, subst, arith}
use Rattle.std.proofs.Common.{mod-eq_of_lt, T, eqb, ◌&&◌, eqb→eq, get_or, mul-div_cancel, add-zero, pow-suc, pow-add}
use Rattle.std.proofs.Common.{inl, inr, eq-zero-or-pos, take-take, length-append, length-take-le, w8, Fits}
use Rattle.std.proofs.lemmas.List.{length-map, length-replicate, take-map}
use Rattle.std.proofs.lemmas.Nat.{xor_block, xor_lt}
use native.Mathlib.Nat.{mul-mod_left, zero-mod}
use Rattle.json_grammar.specs.Bytes.{is_digit}
use Rattle.json_grammar.specs.Token.{digit_count}
use Rattle.json_grammar.proofs.Digits.{digit}
use Rattle.decimal_numbers.specs.Decimal.{number_from}
use lib.Ieee.Fits.{and_l, and_r}
use Rattle.std.specs.Int.Digits.{AllBelowBase, number_from_digits, number_from_digits_after}
use lib.Arith.{digits_div, digits_mod, mod-mul}
use lib.Bits.{and_block, and_mask}
use lib.Lanes.{number_l}

-- the mask keeps the bytes 0 and 4
masked : (x : ℕ) → bit_and x 0x0000_00ff_0000_00ff ≡ x / 2 ^ 32 % 256 * 2 ^ 32 + x % 2 ^ 32 % 256
masked x =
    let e : x ≡ x / 2 ^ 32 * 2 ^ 32 + x % 2 ^ 32 = omega arith in
    ap (λ y. bit_and y 0x0000_00ff_0000_00ff) e
    ∙ and_block 32 (x / 2 ^ 32) 255 (x % 2 ^ 32) 255 (omega arith) (omega arith)
    ∙ (λ i. and_mask (x / 2 ^ 32) 8 i * 2 ^ 32 + and_mask (x % 2 ^ 32) 8 i)

abbrev worth : ℕ → ℕ
worth word =
    let pairs = (word * 10 % 2 ^ 64 + word / 256) % 2 ^ 64 in
    (bit_and pairs 0x0000_00ff_0000_00ff * 4294967296000100 % 2 ^ 64
    + bit_and (pairs / 65536) 0x0000_00ff_0000_00ff * 42949672960001 % 2 ^ 64) % 2 ^ 64 / 2 ^ 32

byte : (x : ℕ) → x < 100 → x < 256
byte x h = omega arith

first : (p r : ℕ) → p < 100 → r < 100
    → (r * 2 ^ 32 + p) * 4294967296000100 % 2 ^ 64 ≡ (p * 1000000 + r * 100) * 2 ^ 32 + p * 100
first p r P R = omega arith

second : (q s : ℕ) → q < 100 → s < 100
    → (s * 2 ^ 32 + q) * 42949672960001 % 2 ^ 64 ≡ (q * 10000 + s) * 2 ^ 32 + q
second q s Q S = omega arith

last : (p q r s : ℕ) → p < 100 → q < 100 → r < 100 → s < 100
    → ((p * 1000000 + r * 100) * 2 ^ 32 + p * 100 + ((q * 10000 + s) * 2 ^ 32 + q)) % 2 ^ 64 / 2 ^ 32
    ≡ p * 1000000 + q * 10000 + r * 100 + s
last p q r s P Q R S =
    let sum = (p * 1000000 + r * 100) * 2 ^ 32 + p * 100 + ((q * 10000 + s) * 2 ^ 32 + q) in
    let small : sum < 2 ^ 64 = omega arith in
    let parts : sum ≡ (p * 1000000 + q * 10000 + r * 100 + s) * 2 ^ 32 + (p * 100 + q) = omega arith in
    let low : p * 100 + q < 2 ^ 32 = omega arith in
    ap (λ x. x / 2 ^ 32) (mod-eq_of_lt small ∙ parts) ∙ digits_div _ low

-- p, q, r and s are the four pairs of digits, and x, y, z and w the bytes between them
combined : (p q r s x y z w pairs : ℕ) → p < 100 → q < 100 → r < 100 → s < 100 → x < 100 → y < 100 → z < 100 → w < 100
    → pairs ≡ p + 2 ^ 8 * x + 2 ^ 16 * q + 2 ^ 24 * y + 2 ^ 32 * r + 2 ^ 40 * z + 2 ^ 48 * s + 2 ^ 56 * w
    → (bit_and pairs 0x0000_00ff_0000_00ff * 4294967296000100 % 2 ^ 64
    + bit_and (pairs / 65536) 0x0000_00ff_0000_00ff * 42949672960001 % 2 ^ 64) % 2 ^ 64 / 2 ^ 32
    ≡ p * 1000000 + q * 10000 + r * 100 + s
combined p q r s x y z w pairs P Q R S X Y Z W e =
    let high : pairs / 2 ^ 32 ≡ (z + 2 ^ 8 * s + 2 ^ 16 * w) * 256 + r = omega arith in
    let low : pairs % 2 ^ 32 ≡ (x + 2 ^ 8 * q + 2 ^ 16 * y) * 256 + p = omega arith in
    let down : pairs / 65536 ≡ (w * 256 + s) * 2 ^ 32 + ((y + 2 ^ 8 * r + 2 ^ 16 * z) * 256 + q) = omega arith in
    let a : pairs / 2 ^ 32 % 256 ≡ r = rw high (digits_mod _ (byte r R)) in
    let b : pairs % 2 ^ 32 % 256 ≡ p = rw low (digits_mod _ (byte p P)) in
    let part : (y + 2 ^ 8 * r + 2 ^ 16 * z) * 256 + q < 2 ^ 32 = omega arith in
    let c : pairs / 65536 / 2 ^ 32 % 256 ≡ s = rw (down, digits_div _ part) (digits_mod _ (byte s S)) in
    let d : pairs / 65536 % 2 ^ 32 % 256 ≡ q = rw (down, digits_mod _ part) (digits_mod _ (byte q Q)) in
    rw (masked pairs, masked (pairs / 65536), a, b, c, d, first p r P R, second q s Q S) (last p q r s P Q R S)

-- the multiplications give the number that eight digits write
pub eight_is : (ds : List ℕ) (word : ℕ) → length ds ≡ 8 → AllBelowBase 10 ds → word ≡ number_l 256 ds
    → worth word ≡ number_from_digits 10 ds
eight_is [] word l h e = absurd (omega arith)
eight_is (a ∷ []) word l h e = absurd (omega arith)
eight_is (a ∷ b ∷ []) word l h e = absurd (omega arith)
eight_is (a ∷ b ∷ c ∷ []) word l h e = absurd (omega arith)
eight_is (a ∷ b ∷ c ∷ d ∷ []) word l h e = absurd (omega arith)
eight_is (a ∷ b ∷ c ∷ d ∷ f ∷ []) word l h e = absurd (omega arith)
eight_is (a ∷ b ∷ c ∷ d ∷ f ∷ g ∷ []) word l h e = absurd (omega arith)
eight_is (a ∷ b ∷ c ∷ d ∷ f ∷ g ∷ i ∷ []) word l h e = absurd (omega arith)
eight_is (a ∷ b ∷ c ∷ d ∷ f ∷ g ∷ i ∷ j ∷ k ∷ ds) word l h e = absurd (omega arith)
eight_is (a ∷ b ∷ c ∷ d ∷ f ∷ g ∷ i ∷ j ∷ []) word l h e =
    let rest = b + 256 * (c + 256 * (d + 256 * (f + 256 * (g + 256 * (i + 256 * (j + 256 * 0)))))) in
    let parts : word ≡ rest * 256 + a = omega arith in
    let small : a < 256 = omega arith in
    let shifted : word / 256 ≡ rest = ap (λ x. x / 256) parts ∙ digits_div rest small in
    let tens : word * 10 < 2 ^ 64 = omega arith in
    let sum : word * 10 + rest < 2 ^ 64 = omega arith in
    let pairs : (word * 10 % 2 ^ 64 + word / 256) % 2 ^ 64
    ≡ 10 * a + b + 2 ^ 8 * (10 * b + c) + 2 ^ 16 * (10 * c + d) + 2 ^ 24 * (10 * d + f) + 2 ^ 32 * (10 * f + g)
    + 2 ^ 40 * (10 * g + i) + 2 ^ 48 * (10 * i + j) + 2 ^ 56 * (10 * j) =
    rw (mod-eq_of_lt tens, shifted, mod-eq_of_lt sum) (omega arith) in
    combined _ _ _ _ _ _ _ _ _ (omega arith) (omega arith) (omega arith) (omega arith) (omega arith) (omega arith)
    (omega arith) (omega arith) pairs ∙ omega arith

-- ---- a test of each number below a bound

abbrev pub all_below : (ℕ → Bool) → ℕ → Bool
all_below p zero = true
all_below p (suc n) = p n && all_below p n

pub below : (p : ℕ → Bool) (n : ℕ) → T (all_below p n) → (i : ℕ) → i < n → T (p i)
below p zero h i l = absurd (omega arith)
below p (suc n) h i l =
    elim (eq-zero-or-pos (n - i)) [
      | inl z ↦
          let e : n ≡ i = omega arith in
          subst (λ x. T (p x)) e (and_l _ _ h)
      | inr g ↦ below p n (and_r (p n) _ h) i (omega arith)
    ]

-- ---- bytes and their lanes

-- what a byte is in the word: its value, where it is a digit
abbrev lane : ℕ → ℕ
lane x = bit_xor x 48

lane_is : (x : ℕ) → is_digit x ≡ true → (lane x ≡ x - 48) × (x - 48 < 10)
lane_is x e =
    let d = digit x e in
    let low = d.low in
    let high = d.high in
    let back : 48 + (x - 48) ≡ x = omega arith in
    let k : x - 48 < 10 = omega arith in
    let v = eqb→eq _ _ (below (λ y. eqb (bit_xor (48 + y) 48) y) 10 tt (x - 48) k) in
    (subst (λ z. lane z ≡ x - 48) back v, k)

abbrev lanes : List ℕ → List ℕ
lanes = map lane

lanes_fit : (xs : List ℕ) → AllBelowBase 256 xs → AllBelowBase 256 (lanes xs)
lanes_fit [] h = tt
lanes_fit (x ∷ xs) h = (xor_lt 8 x 48 h.0 (omega arith), lanes_fit xs h.1)

-- the difference of the word, byte by byte
lanes_of : (xs : List ℕ) → AllBelowBase 256 xs
    → bit_xor (number_l 256 xs) (number_l 256 (replicate (length xs) 48)) ≡ number_l 256 (lanes xs)
lanes_of [] h = refl
lanes_of (x ∷ xs) h =
    let a : x + 256 * number_l 256 xs ≡ number_l 256 xs * 2 ^ 8 + x = omega arith in
    let r = number_l 256 (replicate (length xs) 48) in
    let b : 48 + 256 * r ≡ r * 2 ^ 8 + 48 = omega arith in
    let c : number_l 256 (lanes xs) * 2 ^ 8 + lane x ≡ lane x + 256 * number_l 256 (lanes xs) = omega arith in
    (λ i. bit_xor (a i) (b i)) ∙ xor_block 8 (number_l 256 xs) r x 48 h.0 (omega arith)
    ∙ ap (λ z. z * 2 ^ 8 + lane x) (lanes_of xs h.1) ∙ c

bytes_of : (xs : List ℕ) → ((k : ℕ) → Fits w8 (get_or xs k 0)) → AllBelowBase 256 xs
bytes_of [] h = tt
bytes_of (x ∷ xs) h = ((h 0).fits, bytes_of xs (λ k. h (suc k)))

bytes_taken : (n : ℕ) (xs : List ℕ) → AllBelowBase 256 xs → AllBelowBase 256 (take n xs)
bytes_taken zero xs h = tt
bytes_taken (suc n) [] h = tt
bytes_taken (suc n) (x ∷ xs) h = (h.0, bytes_taken n xs h.1)

powers : (n : ℕ) → 0 < 256 ^ n
powers zero = omega arith
powers (suc n) = omega (arith, powers n, pow-suc 256 n)

-- the first bytes of a word
front : (xs : List ℕ) (n : ℕ) → AllBelowBase 256 xs → number_l 256 xs % 256 ^ n ≡ number_l 256 (take n xs)
front xs zero h = omega arith
front [] (suc n) h = zero-mod _
front (x ∷ xs) (suc n) h =
    let e : x + 256 * number_l 256 xs ≡ number_l 256 xs * 256 + x = omega arith in
    let some : 0 < 256 = omega arith in
    rw (pow-suc, e, mod-mul _ (powers n) some, digits_div _ h.0, digits_mod _ h.0, front xs n h.1) (omega arith)

-- ---- the digits and their values

below_ten : (xs : List ℕ) (n : ℕ) → n ≤ digit_count xs → AllBelowBase 10 (lanes (take n xs))
below_ten xs zero h = tt
below_ten [] (suc n) h = tt
below_ten (x ∷ xs) (suc n) h = by_test (is_digit x) refl h (below_ten xs n)
  where
    by_test : (t : Bool) → is_digit x ≡ t → suc n ≤ cond t (suc (digit_count xs)) 0
        → (n ≤ digit_count xs → AllBelowBase 10 (lanes (take n xs))) → AllBelowBase 10 (lanes (take (suc n) (x ∷ xs)))
    by_test true e h more =
        let l = lane_is x e in
        (omega (arith, l), more (omega arith))
    by_test false e h more = absurd (omega arith)

value_of : (k : ℕ) (xs : List ℕ) (n : ℕ) → n ≤ digit_count xs
    → number_from_digits_after 10 k (lanes (take n xs)) ≡ number_from k (take n xs)
value_of k xs zero h = refl
value_of k [] (suc n) h = refl
value_of k (x ∷ xs) (suc n) h = by_test (is_digit x) refl h (value_of (k * 10 + (x - 48)) xs n)
  where
    by_test : (t : Bool) → is_digit x ≡ t → suc n ≤ cond t (suc (digit_count xs)) 0
        → (n ≤ digit_count xs → number_from_digits_after 10 (k * 10 + (x - 48)) (lanes (take n xs))
        ≡ number_from (k * 10 + (x - 48)) (take n xs))
        → number_from_digits_after 10 k (lanes (take (suc n) (x ∷ xs))) ≡ number_from k (take (suc n) (x ∷ xs))
    by_test true e h more =
        ap (λ z. number_from_digits_after 10 (k * 10 + z) (lanes (take n xs))) (lane_is x e).0 ∙ more (omega arith)
    by_test false e h more = absurd (omega arith)

-- zeros before the digits
padded : (k : ℕ) (ds : List ℕ) → AllBelowBase 10 ds → AllBelowBase 10 (replicate k 0 ++ ds)
padded zero ds h = h
padded (suc k) ds h = (omega arith, padded k ds h)

padded_word : (k : ℕ) (ds : List ℕ) → number_l 256 (replicate k 0 ++ ds) ≡ number_l 256 ds * 256 ^ k
padded_word zero ds = omega arith
padded_word (suc k) ds = omega (arith, padded_word k ds, ap (λ z. number_l 256 ds * z) (pow-suc 256 k))

padded_value : (k : ℕ) (ds : List ℕ) → number_from_digits 10 (replicate k 0 ++ ds) ≡ number_from_digits 10 ds
padded_value zero ds = refl
padded_value (suc k) ds = padded_value k ds

-- ---- a word whose first bytes are moved to its end

mod_scaled : (a m c : ℕ) → 0 < m → 0 < c → a * c % (m * c) ≡ a % m * c
mod_scaled a m c M C = rw (mod-mul _ M C, mul-div_cancel a C, mul-mod_left, add-zero)

-- the bytes are the word's
abbrev pub spelt : List ℕ → ℕ
spelt bs = number_l 256 (take 8 bs)

pub record HasDigits (bs : List ℕ) (n word : ℕ) : Type 0 where
  pub digits : List ℕ
  pub long : length digits ≡ 8
  pub low : AllBelowBase 10 digits
  pub word_is : word ≡ number_l 256 digits
  pub value_is : number_from_digits 10 digits ≡ number_from 0 (take n bs)

power : (n : ℕ) → 1 ≤ n → n ≤ 8 → 2 ^ (64 - 8 * n) ≡ 256 ^ (8 - n)
power n s f =
    let k : 8 - n < 8 = omega arith in
    let e : 8 * (8 - n) ≡ 64 - 8 * n = omega arith in
    subst (λ z. 2 ^ z ≡ 256 ^ (8 - n)) e
    (eqb→eq _ _ (below (λ j. eqb (2 ^ (8 * j)) (256 ^ j)) 8 tt (8 - n) k))

pub placed : (bs : List ℕ) (n word : ℕ) → ((k : ℕ) → Fits w8 (get_or bs k 0)) → 8 ≤ length bs → 1 ≤ n → n ≤ 8
    → n ≤ digit_count bs → word ≡ spelt bs
    → HasDigits bs n (bit_xor word 0x3030_3030_3030_3030 * 2 ^ (64 - 8 * n) % 2 ^ 64)
placed bs n word fit room some few digits is =
    let xs = take 8 bs in
    let ds = lanes (take n bs) in
    let fits = bytes_taken 8 bs (bytes_of bs fit) in
    let l : length xs ≡ 8 = length-take-le 8 bs room in
    let word_of : bit_xor word 0x3030_3030_3030_3030 ≡ number_l 256 (lanes xs) =
    ap (λ z. bit_xor z 0x3030_3030_3030_3030) is
    ∙ ap (λ z. bit_xor (number_l 256 xs) (number_l 256 (replicate z 48))) (sym l) ∙ lanes_of xs fits in
    let all : 256 ^ n * 256 ^ (8 - n) ≡ 2 ^ 64 =
    sym (pow-add 256 n (8 - n)) ∙ ap (λ k. 256 ^ k) {y = 8} (omega arith) in
    let first : take n (lanes xs) ≡ ds =
    take-map lane n xs ∙ ap lanes (take-take n 8 bs few) in
    let kept : number_l 256 (lanes xs) % 256 ^ n ≡ number_l 256 ds =
    front (lanes xs) n (lanes_fit xs fits) ∙ ap (number_l 256) first in
    let word = bit_xor word 0x3030_3030_3030_3030 in
    let moved : word * 2 ^ (64 - 8 * n) % 2 ^ 64 ≡ number_l 256 (lanes xs) * 256 ^ (8 - n) % (256 ^ n * 256 ^ (8 - n)) =
    (λ i. word_of i * power n some few i % sym all i) in
    let many : length (take n bs) ≡ n = length-take-le n bs (omega arith) in
    record {
      digits = replicate (8 - n) 0 ++ ds;
      long = length-append (replicate (8 - n) 0) ds
          ∙ omega (arith, length-replicate {A = ℕ} (8 - n) 0, length-map (take n bs) lane, many);
      low = padded (8 - n) ds (below_ten bs n digits);
      word_is = moved ∙ mod_scaled (number_l 256 (lanes xs)) (256 ^ n) (256 ^ (8 - n)) (powers n) (powers (8 - n))
          ∙ ap (λ z. z * 256 ^ (8 - n)) kept ∙ sym (padded_word (8 - n) ds);
      value_is = padded_value (8 - n) ds ∙ value_of 0 bs n digits;
    }

-- the eight bytes that a word is made of
pub word_at : (bs : List ℕ) → 8 ≤ length bs
    → get_or bs 0 0 + get_or bs 1 0 * 256 + get_or bs 2 0 * 65536 + get_or bs 3 0 * 16777216
    + get_or bs 4 0 * 4294967296 + get_or bs 5 0 * 1099511627776 + get_or bs 6 0 * 281474976710656
    + get_or bs 7 0 * 72057594037927936 ≡ spelt bs
word_at [] l = absurd (omega arith)
word_at (a ∷ []) l = absurd (omega arith)
word_at (a ∷ b ∷ []) l = absurd (omega arith)
word_at (a ∷ b ∷ c ∷ []) l = absurd (omega arith)
word_at (a ∷ b ∷ c ∷ d ∷ []) l = absurd (omega arith)
word_at (a ∷ b ∷ c ∷ d ∷ e ∷ []) l = absurd (omega arith)
word_at (a ∷ b ∷ c ∷ d ∷ e ∷ f ∷ []) l = absurd (omega arith)
word_at (a ∷ b ∷ c ∷ d ∷ e ∷ f ∷ g ∷ []) l = absurd (omega arith)
word_at (a ∷ b ∷ c ∷ d ∷ e ∷ f ∷ g ∷ h ∷ bs) l = omega arith
