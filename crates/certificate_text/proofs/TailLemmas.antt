-- The lines of tails.
use Rattle.std.proofs.Common.{◌≡◌, ℕ, zero, suc, ◌+◌, ◌<◌, ◌≤◌, refl, sym, ◌∙◌, ap, arith, List, [], ◌∷◌, ◌++◌, length}
use Rattle.std.proofs.Common.{get_or, set, Option, Some, None}
use Rattle.lagrange_bound.specs.declared.tail.Tail.{Tail}
use Rattle.certificate_lines.specs.declared.line.CertificateLine.{CertificateLine}
use Rattle.certificate_lines.specs.declared.line.CertificateLine.TheVariants as line
use Rattle.certificate_text.specs.Text.{tail_lines}

-- the line of the tail of period t
abbrev pub tail_line : ℕ → Tail → CertificateLine
tail_line t tail = line.Tail t tail.weight tail.places

-- no tails have no lines
pub no_tails : (t : ℕ) (tails : List (Option Tail)) → ((i : ℕ) → i < length tails → get_or tails i None ≡ None)
    → tail_lines t tails ≡ []
unfolding tail_lines
no_tails t [] h = refl
no_tails t (None ∷ tails) h = no_tails (t + 1) tails (λ i l. h (suc i) (omega (arith, l)))
no_tails t (Some tail ∷ tails) h = absurd (let e = h 0 (omega arith) in let z : ⊥ = cc in z)

-- the lines of tails are those of their parts
pub tails_append : (t : ℕ) (xs ys : List (Option Tail))
    → tail_lines t (xs ++ ys) ≡ tail_lines t xs ++ tail_lines (t + length xs) ys
unfolding tail_lines
tails_append t [] ys = let e : t ≡ t + 0 = omega arith in ap (λ (j : ℕ). tail_lines j ys) e
tails_append t (None ∷ xs) ys = let e : t + 1 + length xs ≡ t + suc (length xs) = omega arith in
    tails_append (t + 1) xs ys ∙ ap (λ (j : ℕ). tail_lines (t + 1) xs ++ tail_lines j ys) e
tails_append t (Some tail ∷ xs) ys =
    let e : t + 1 + length xs ≡ t + suc (length xs) = omega arith in
    ap (λ (ls : List CertificateLine). tail_line t tail ∷ ls)
    (tails_append (t + 1) xs ys ∙ ap (λ (j : ℕ). tail_lines (t + 1) xs ++ tail_lines j ys) e)

-- a tail behind all others has its line at the end
pub tails_grow : (t : ℕ) (tails : List (Option Tail)) (p : ℕ) (tail : Tail) → p < length tails
    → ((i : ℕ) → p ≤ i → i < length tails → get_or tails i None ≡ None)
    → tail_lines t (set tails p (Some tail)) ≡ tail_lines t tails ++ tail_line (t + p) tail ∷ []
unfolding tail_lines
tails_grow t [] p tail h none = absurd (omega (arith, h))
tails_grow t (None ∷ tails) zero tail h none =
    let e : t ≡ t + 0 = omega arith in
    let rest = no_tails (t + 1) tails (λ i l. none (suc i) (omega arith) (omega (arith, l))) in
    rw rest (ap (λ (j : ℕ). tail_line j tail ∷ []) e)
tails_grow t (Some other ∷ tails) zero tail h none = absurd (let e = none 0 (omega arith) (omega arith) in
    let z : ⊥ = cc in z)
tails_grow t (None ∷ tails) (suc p) tail h none =
    let e : t + 1 + p ≡ t + suc p = omega arith in
    tails_grow (t + 1) tails p tail (omega (arith, h)) (λ i l m. none (suc i) (omega (arith, l)) (omega (arith, m)))
    ∙ ap (λ (j : ℕ). tail_lines (t + 1) tails ++ tail_line j tail ∷ []) e
tails_grow t (Some other ∷ tails) (suc p) tail h none =
    let e : t + 1 + p ≡ t + suc p = omega arith in
    ap (λ (ls : List CertificateLine). tail_line t other ∷ ls)
    (tails_grow (t + 1) tails p tail (omega (arith, h)) (λ i l m. none (suc i) (omega (arith, l))
    (omega (arith, m))) ∙ ap (λ (j : ℕ). tail_lines (t + 1) tails ++ tail_line j tail ∷ []) e)

-- the first line is that of a period from t on
first_tail : (t : ℕ) (tails : List (Option Tail)) (line : CertificateLine) (lines : List CertificateLine)
    → tail_lines t tails ≡ line ∷ lines → (u : ℕ) × (tail : Tail) × (t ≤ u) × (line ≡ tail_line u tail)
unfolding tail_lines
first_tail t [] line lines e = absurd (let z : ⊥ = cc in z)
first_tail t (None ∷ tails) line lines e = let w = first_tail (t + 1) tails line lines e in
    (w.0, w.1, omega (arith, w.2), w.3)
first_tail t (Some tail ∷ tails) line lines e = (t, tail, omega arith, cc)

same_line : (t u : ℕ) (tail other : Tail) → tail_line t tail ≡ tail_line u other → (t ≡ u) × (tail ≡ other)
same_line t u tail other e =
    let weight : tail.weight ≡ other.weight = cc in
    let places : tail.places ≡ other.places = cc in
    (cc, λ j. record { weight = weight j; places = places j })

-- two lists of one length that have the same lines are the same
pub tails_tell : (t : ℕ) (xs ys : List (Option Tail)) → length xs ≡ length ys
    → tail_lines t xs ≡ tail_lines t ys → xs ≡ ys
unfolding tail_lines
tails_tell t [] [] l e = refl
tails_tell t [] (y ∷ ys) l e = absurd (omega (arith, l))
tails_tell t (x ∷ xs) [] l e = absurd (omega (arith, l))
tails_tell t (None ∷ xs) (None ∷ ys) l e =
    ap (λ (os : List (Option Tail)). None ∷ os) (tails_tell (t + 1) xs ys (omega (arith, l)) e)
tails_tell t (Some x ∷ xs) (Some y ∷ ys) l e =
    let head : tail_line t x ≡ tail_line t y = cc in
    let same = same_line t t x y head in
    ap (λ (tail : Tail). Some tail ∷ xs) same.1
    ∙ ap (λ (os : List (Option Tail)). Some y ∷ os) (tails_tell (t + 1) xs ys (omega (arith, l)) cc)
tails_tell t (None ∷ xs) (Some y ∷ ys) l e =
    let w = first_tail (t + 1) xs (tail_line t y) (tail_lines (t + 1) ys) e in
    let same = same_line t w.0 y w.1 w.3 in
    absurd (omega (arith, w.2, same.0))
tails_tell t (Some x ∷ xs) (None ∷ ys) l e =
    let w = first_tail (t + 1) ys (tail_line t x) (tail_lines (t + 1) xs) (sym e) in
    let same = same_line t w.0 x w.1 w.3 in
    absurd (omega (arith, w.2, same.0))
