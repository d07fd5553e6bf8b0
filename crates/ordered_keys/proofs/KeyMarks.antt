-- No two short keys have the same number.
use Rattle.std.proofs.Common.{◌≡◌, ℕ, ◌+◌, ◌*◌, ◌<◌, ◌≤◌, Bool, true, false, List, [], ◌∷◌, ◌++◌, length, refl, sym}
use Rattle.std.proofs.Common.{◌∙◌, ap, arith, append-nil}
use Rattle.std.specs.Prelude.{◌&&◌, nat_lt, nat_le}
use Rattle.std.proofs.lemmas.Bool.Decides.{nat_tests}
use Rattle.ordered_keys.specs.Marks.{are_bytes, is_short, number_from, mark}

below : (b : ℕ) → nat_lt b 256 ≡ true → b < 256
below b h = grind (arith, nat_tests)

pub parts : (a b : Bool) → (a && b) ≡ true → (a ≡ true) × (b ≡ true)
parts true true h = (refl, refl)
parts true false h = cc
parts false b h = cc

both : (a b : Bool) → a ≡ true → b ≡ true → (a && b) ≡ true
both true true d e = refl
both true false d e = cc
both false b d e = cc

-- the number of a key's bytes from the last to the first
abbrev back : List ℕ → ℕ
back [] = 1
back (b ∷ bs) = back bs * 256 + b

-- bytes from the last to the first, before others
abbrev turned : List ℕ → List ℕ → List ℕ
turned [] bs = bs
turned (x ∷ xs) bs = turned xs (x ∷ bs)

number_back : (xs bs : List ℕ) → number_from (back bs) xs ≡ back (turned xs bs)
number_back [] bs = refl
number_back (x ∷ xs) bs = number_back xs (x ∷ bs)

turned_twice : (xs bs cs : List ℕ) → turned (turned xs bs) cs ≡ turned bs (xs ++ cs)
turned_twice [] bs cs = refl
turned_twice (x ∷ xs) bs cs = turned_twice xs (x ∷ bs) cs

bytes_turned : (xs bs : List ℕ) → are_bytes xs ≡ true → are_bytes bs ≡ true → are_bytes (turned xs bs) ≡ true
bytes_turned [] bs h k = k
bytes_turned (x ∷ xs) bs h k =
    let p = parts (nat_lt x 256) (are_bytes xs) h in
    bytes_turned xs (x ∷ bs) p.1 (both (nat_lt x 256) (are_bytes bs) p.0 k)

one_least : (bs : List ℕ) → 1 ≤ back bs
one_least [] = omega arith
one_least (b ∷ bs) = omega (arith, one_least bs)

back_same : (xs ys : List ℕ) → are_bytes xs ≡ true → are_bytes ys ≡ true → back xs ≡ back ys → xs ≡ ys
back_same [] [] h k e = refl
back_same [] (y ∷ ys) h k e = absurd (omega (arith, e, one_least ys))
back_same (x ∷ xs) [] h k e = absurd (omega (arith, e, one_least xs))
back_same (x ∷ xs) (y ∷ ys) h k e =
    let p = parts (nat_lt x 256) (are_bytes xs) h in
    let q = parts (nat_lt y 256) (are_bytes ys) k in
    let low = below x p.0 in
    let few = below y q.0 in
    let first : x ≡ y = omega (arith, e, low, few) in
    let rest : back xs ≡ back ys = omega (arith, e, low, few) in
    ap (λ z. z ∷ xs) first ∙ ap (λ zs. y ∷ zs) (back_same xs ys p.1 q.1 rest)

-- a key of whose number another has no other
pub mark_same : (xs ys : List ℕ) → is_short xs ≡ true → is_short ys ≡ true → mark xs ≡ mark ys → xs ≡ ys
mark_same xs ys h k e =
    let p = parts (are_bytes xs) (nat_le (length xs) 15) h in
    let q = parts (are_bytes ys) (nat_le (length ys) 15) k in
    let back_is : back (turned xs []) ≡ back (turned ys []) =
    sym (number_back xs []) ∙ e ∙ number_back ys [] in
    let turned_is = back_same (turned xs []) (turned ys []) (bytes_turned xs [] p.0 refl) (bytes_turned ys [] q.0 refl)
    back_is in
    sym (append-nil xs) ∙ sym (turned_twice xs [] []) ∙ ap (λ zs. turned zs []) turned_is ∙ turned_twice ys [] []
    ∙ append-nil ys
