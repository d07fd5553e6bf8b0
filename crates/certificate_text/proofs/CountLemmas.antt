-- Sums of lengths as numbers of 64 bits count them.
use Rattle.std.proofs.Common.{◌≡◌, ◌⊎◌, inl, inr, ℕ, ◌+◌, ◌-◌, ◌^◌, ◌<◌, ◌≤◌, sym, ◌∙◌, ap, arith, List, ◌++◌, length}
use Rattle.std.proofs.Math.Nat.{min-eq_left, min-eq_right}
use Rattle.std.proofs.lemmas.List.{length-append}
use Rattle.std.proofs.lemmas.Grind.{flat_map-append}
use Rattle.certificate_lines.specs.declared.line.CertificateLine.{CertificateLine}
use Rattle.certificate_text.specs.Text.{line_text, text_of_lines}
use Rattle.certificate_text.proofs.KeyLemmas.{below_or_not}
use Rattle.certificate_text.specs.Lengths.{counted, counted_length}

-- a number that isn't above the greatest one counts as itself
pub counted_small : (n : ℕ) → n ≤ 2 ^ 64 - 1 → counted n ≡ n
counted_small n h = min-eq_left h

pub counted_large : (n : ℕ) → 2 ^ 64 - 1 ≤ n → counted n ≡ 2 ^ 64 - 1
counted_large n h = min-eq_right h

pub counted_sum : (x y : ℕ) → counted (counted x + counted y) ≡ counted (x + y)
counted_sum x y = at (below_or_not x (2 ^ 64 - 1)) (below_or_not y (2 ^ 64 - 1))
  where
    at : (x < 2 ^ 64 - 1) ⊎ (2 ^ 64 - 1 ≤ x) → (y < 2 ^ 64 - 1) ⊎ (2 ^ 64 - 1 ≤ y)
        → counted (counted x + counted y) ≡ counted (x + y)
    at (inl h) (inl k) =
        ap (λ (n : ℕ). counted (n + counted y)) (counted_small x (omega (arith, h)))
        ∙ ap (λ (n : ℕ). counted (x + n)) (counted_small y (omega (arith, k)))
    at (inl h) (inr k) =
        ap (λ (n : ℕ). counted (counted x + n)) (counted_large y k)
        ∙ counted_large (counted x + (2 ^ 64 - 1)) (omega arith) ∙ sym (counted_large (x + y) (omega (arith, k)))
    at (inr h) k =
        ap (λ (n : ℕ). counted (n + counted y)) (counted_large x h)
        ∙ counted_large ((2 ^ 64 - 1) + counted y) (omega arith) ∙ sym (counted_large (x + y) (omega (arith, h)))

-- ---- texts

pub joined : (xs ys zs : List ℕ) (a b r : ℕ) → zs ≡ xs ++ ys → a ≡ counted_length xs → b ≡ counted_length ys
    → r ≡ counted (a + b) → r ≡ counted_length zs
joined xs ys zs a b r e f g h =
    h ∙ ap (λ (n : ℕ). counted (n + b)) f ∙ ap (λ (n : ℕ). counted (counted_length xs + n)) g
    ∙ counted_sum (length xs) (length ys) ∙ ap counted (sym (length-append xs ys))
    ∙ ap counted_length (sym e)

pub lines_joined : (xs ys zs : List CertificateLine) (a b r : ℕ) → zs ≡ xs ++ ys
    → a ≡ counted_length (text_of_lines xs) → b ≡ counted_length (text_of_lines ys) → r ≡ counted (a + b)
    → r ≡ counted_length (text_of_lines zs)
lines_joined xs ys zs a b r e =
    joined (text_of_lines xs) (text_of_lines ys) (text_of_lines zs) a b r
    (ap text_of_lines e ∙ flat_map-append line_text xs ys)

-- a length that is small counts as itself
pub exact : (text : List ℕ) (n : ℕ) → n ≡ length text → n ≤ 2 ^ 32 → n ≡ counted_length text
exact text n e l = e ∙ sym (counted_small (length text) (omega (arith, e, l)))
