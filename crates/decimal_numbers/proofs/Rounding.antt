-- The count nearest to a number, by its digits.
use Rattle.std.specs.Prelude.{◌-◌, ◌*◌, ◌^◌}
use Rattle.std.proofs.Common.{◌≡◌, ℕ, zero, suc, ◌+◌, ◌<◌, ◌≤◌, List, [], ◌∷◌, ◌++◌, length, refl, sym, ◌∙◌, ap, arith}
use Rattle.std.proofs.Common.{drop, get_or, add-one}
use Rattle.std.proofs.Math.Seq.{drop-cons}
use Rattle.std.proofs.Math.Nat.{pow-suc, le-mul_of_pos_right, mul-le-mul_right, mul-lt-mul_of_pos_right}
use Rattle.json_grammar.specs.Grammar.{AreDigits}
use Rattle.decimal_numbers.specs.Decimal.{number_from, number}
use Rattle.decimal_numbers.specs.Scaling.{IsRounded}

pub from_append : (n : ℕ) (a b : List ℕ) → number_from n (a ++ b) ≡ number_from (number_from n a) b
from_append n [] b = refl
from_append n (d ∷ a) b = from_append (n * 10 + (d - 48)) a b

digit_first : (n d k : ℕ) → (n * 10 + d) * 10 ^ k ≡ n * 10 ^ suc k + d * 10 ^ k
digit_first n d k = rw (pow-suc 10 k) (grind arith)

pub from_is : (n : ℕ) (b : List ℕ) → number_from n b ≡ n * 10 ^ length b + number b
from_is n [] = omega arith
from_is n (d ∷ b) =
    let f : number_from (n * 10 + (d - 48)) b ≡ (n * 10 + (d - 48)) * 10 ^ length b + number b =
    from_is (n * 10 + (d - 48)) b in
    let g : number_from (0 + (d - 48)) b ≡ (0 + (d - 48)) * 10 ^ length b + number b = from_is (0 + (d - 48)) b in
    let e : (n * 10 + (d - 48)) * 10 ^ length b ≡ n * 10 ^ suc (length b) + (d - 48) * 10 ^ length b =
    digit_first n (d - 48) (length b) in
    let z : 0 + (d - 48) ≡ d - 48 = omega arith in
    let g' : number_from (0 + (d - 48)) b ≡ (d - 48) * 10 ^ length b + number b =
    g ∙ ap (λ y. y * 10 ^ length b + number b) z in
    f ∙ ap (λ y. y + number b) e ∙ (omega arith)

-- digits in front of digits
pub number_append : (a b : List ℕ) → number (a ++ b) ≡ number a * 10 ^ length b + number b
number_append a b = from_append 0 a b ∙ from_is (number a) b

-- digits are less than the weight of the one before them
pub below : {b : List ℕ} → AreDigits b → number b < 10 ^ length b
below AreDigits.none = omega arith
below (AreDigits.more {b} {bs} h hs) =
    let f : number_from (0 + (b - 48)) bs ≡ (0 + (b - 48)) * 10 ^ length bs + number bs = from_is (0 + (b - 48)) bs in
    let g : number bs < 10 ^ length bs = below hs in
    let e : 10 ^ suc (length bs) ≡ 10 ^ length bs * 10 = pow-suc 10 (length bs) in
    let d : 0 + (b - 48) ≤ 9 = let i = h.high in omega arith in
    let m : (0 + (b - 48)) * 10 ^ length bs ≤ 9 * 10 ^ length bs = mul-le-mul_right (10 ^ length bs) d in
    omega arith

-- the nearest of a / (10 * t), where a is (10 * c + d) * t + r
pub rounds_up : (c d t r : ℕ) → r < t → 5 ≤ d → d < 10 → IsRounded ((c * 10 + d) * t + r) (10 * t) (c + 1)
rounds_up c d t r h l m =
    let five : 5 * t ≤ d * t = mul-le-mul_right t l in
    let nine : d * t ≤ 9 * t = mul-le-mul_right t (omega arith) in
    record { low = grind arith; high = grind arith }

pub rounds_down : (c d t r : ℕ) → r < t → d < 5 → IsRounded ((c * 10 + d) * t + r) (10 * t) c
rounds_down c d t r h l =
    let four : d * t ≤ 4 * t = mul-le-mul_right t (omega arith) in
    record { low = grind arith; high = grind arith }

-- a common factor changes nothing
pub scaled : (a b c t : ℕ) → 0 < t → IsRounded a b c → IsRounded (a * t) (b * t) c
scaled a b c t h n =
    let low : 2 * (c * b) * t ≤ (2 * a + b) * t = mul-le-mul_right t n.low in
    let high : (2 * a + b) * t < 2 * ((c + 1) * b) * t = mul-lt-mul_of_pos_right n.high h in
    record { low = grind arith; high = grind arith }

not_less : (a b c d : ℕ) → IsRounded a b c → IsRounded a b d → c < d → ⊥
not_less a b c d n m l =
    let f : (c + 1) * b ≤ d * b = mul-le-mul_right b (omega arith) in
    let i = n.high in
    let j = m.low in
    omega arith

-- and it is the only one
pub only : (a b c d : ℕ) → IsRounded a b c → IsRounded a b d → c ≡ d
only a b c d n m =
    let f : c < d → ⊥ = not_less a b c d n m in
    let g : d < c → ⊥ = not_less a b d c m n in
    grind arith

-- more digits make no smaller number
pub grows : (n : ℕ) (ds : List ℕ) → n ≤ number_from n ds
grows n [] = omega arith
grows n (d ∷ ds) = let f : n * 10 + (d - 48) ≤ number_from (n * 10 + (d - 48)) ds = grows (n * 10 + (d - 48)) ds in
    omega arith

pub one_digit : (n i : ℕ) (ds : List ℕ) → i < length ds
    → number_from n (drop i ds) ≡ number_from (n * 10 + (get_or ds i 0 - 48)) (drop (i + 1) ds)
one_digit n i ds h = ap (number_from n) (drop-cons ds i 0 h)
    ∙ ap (λ z. number_from (n * 10 + (get_or ds i 0 - 48)) (drop z ds)) (sym (add-one i))

regroup : (v t : ℕ) → v * (t * 10) ≡ v * 10 * t
regroup v t = grind arith

pub ten_more : (v k m : ℕ) → 0 < k → v * 10 ^ k ≡ m → v * 10 * 10 ^ (k - 1) ≡ m
ten_more v zero m h e = absurd (omega arith)
ten_more v (suc k) m h e = let s : suc k - 1 ≡ k = omega arith in
    rw s (sym (regroup v (10 ^ k)) ∙ ap (λ z. v * z) (sym (pow-suc 10 k)) ∙ e)

pub ten_positive : (k : ℕ) → 0 < 10 ^ k
ten_positive zero = omega arith
ten_positive (suc k) = let f = ten_positive k in let e = pow-suc 10 k in omega arith

pub ten_large : (v k : ℕ) → v ≤ v * 10 ^ k
ten_large v k = le-mul_of_pos_right v (ten_positive k)

-- a factor more
pub ten_reaches : (v k m : ℕ) → 0 < k → v * 10 ^ k ≡ m → v * 10 ≤ m
ten_reaches v k m h e = let f = ten_large (v * 10) (k - 1) in let g = ten_more v k m h e in omega arith
