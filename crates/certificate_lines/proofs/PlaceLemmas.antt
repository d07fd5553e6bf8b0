-- The places of a tail are read in one way.
use Rattle.std.proofs.Common.{◌≡◌, ℕ, ◌-◌, ◌<◌, List, [], ◌∷◌, ◌++◌, length, get_or, refl, sym, ◌∙◌, ap, subst, arith}
use Rattle.std.proofs.Common.{append_assoc}
use Rattle.std.specs.List.{All, AllPairs}
use Rattle.std.proofs.lemmas.List.{append-nil, length-append, get_or_append_left, get_or-append_right}
use Rattle.std.proofs.lemmas.List.Elements.{All-head, All-tail}
use Rattle.std.proofs.lemmas.Grind.{flat_map-append}
use Rattle.certificate_lines.specs.Spelling.{word, words, IsNumber}
use Rattle.certificate_lines.specs.Steps.{IsBreak}
use Rattle.certificate_lines.proofs.WordLemmas.{word_once, words_break}

append_break : (front : List ℕ) (rest : List ℕ) → IsBreak rest → IsBreak (words front ++ rest)
append_break [] rest b = b
append_break (p ∷ front) rest b = refl

-- numbers whose words begin with those of some others begin with these
record Begins (numbers front rest : List ℕ) : Type 0 where
  more : List ℕ
  is : numbers ≡ front ++ more
  left : rest ≡ words more

begins : (front numbers rest : List ℕ) → All IsNumber front → All IsNumber numbers → IsBreak rest
    → words numbers ≡ words front ++ rest → Begins numbers front rest
begins [] numbers rest f n b e = record { more = numbers; is = refl; left = sym e }
begins (p ∷ front) [] rest f n b e = absurd (cc)
begins (p ∷ front) (q ∷ numbers) rest f n b e =
    let parts : word q ++ words numbers ≡ word p ++ (words front ++ rest) =
    e ∙ append_assoc (word p) (words front) rest in
    let both = word_once q p (words numbers) (words front ++ rest) (All-head IsNumber q numbers n)
    (All-head IsNumber p front f) (words_break numbers) (append_break front rest b) parts in
    let later = begins front numbers rest (All-tail IsNumber p front f) (All-tail IsNumber q numbers n) b both.1 in
    record { more = later.more; is = (λ i. both.0 i ∷ later.is i); left = later.left }

-- the element behind the first ones
pub behind_front : (P : ℕ → Type 0) (front more : List ℕ) (m : ℕ) → All P (front ++ m ∷ more) → P m
behind_front P [] more m h = All-head P m more h
behind_front P (p ∷ front) more m h = behind_front P front more m (All-tail P p (front ++ m ∷ more) h)

sub-self : (n : ℕ) → n - n ≡ 0
sub-self n = omega arith

-- and it is above each of them, where all ascend
below_next : (front more : List ℕ) (m : ℕ) → AllPairs (λ j k. j < k) (front ++ m ∷ more) → All (λ j. j < m) front
below_next front more m h k d l =
    let all : List ℕ = front ++ m ∷ more in
    let next : get_or all (length front) d ≡ m = get_or-append_right front (m ∷ more) (length front) (length
    front) d refl (omega arith) ∙ ap (λ i. get_or (m ∷ more) i d) (sub-self (length front)) in
    let pair : get_or all k d < get_or all (length front) d =
    h k (length front) d l (omega (arith, length-append front (m ∷ more))) in
    omega (arith, pair, next, get_or_append_left front (m ∷ more) d k l)

-- no number follows, so the text isn't that of any places
pub no_place : (text front rest : List ℕ) → text ≡ words front ++ rest → All IsNumber front → IsBreak rest
    → 0 < length rest → ((n : ℕ) (after : List ℕ) → IsNumber n → IsBreak after → rest ≡ word n ++ after → ⊥)
    → (places : List ℕ) → All IsNumber places → text ≡ words places → ⊥
no_place text front rest e f b some none places small h = go r.more r.is r.left
  where
    r : Begins places front rest
    r = begins front places rest f small b (sym h ∙ e)

    go : (more : List ℕ) → places ≡ front ++ more → rest ≡ words more → ⊥
    go [] is left = omega (arith, some, ap length left)
    go (m ∷ more) is left =
        none m (words more) (behind_front IsNumber front more m (subst (All IsNumber) is small)) (words_break more) left

-- the next place isn't above those before it, so the text isn't that of any places
pub not_above : (text front rest after : List ℕ) (n : ℕ) → text ≡ words front ++ rest → All IsNumber front
    → IsBreak rest → rest ≡ word n ++ after → IsNumber n → IsBreak after → (All (λ k. k < n) front → ⊥)
    → (places : List ℕ) → All IsNumber places → AllPairs (λ j k. j < k) places → text ≡ words places → ⊥
not_above text front rest after n e f b next ns brk below places small ascending h = go r.more r.is r.left
  where
    r : Begins places front rest
    r = begins front places rest f small b (sym h ∙ e)

    go : (more : List ℕ) → places ≡ front ++ more → rest ≡ words more → ⊥
    go [] is left = let none : [] ≡ word n ++ after = sym left ∙ next in absurd (cc)
    go (m ∷ more) is left =
        let here : IsNumber m = behind_front IsNumber front more m (subst (All IsNumber) is small) in
        let same : m ≡ n = (word_once m n (words more) after here ns (words_break more) brk (sym left ∙ next)).0 in
        below (subst (λ k. All (λ j. j < k) front) same
        (below_next front more m (subst (AllPairs (λ j k. j < k)) is ascending)))

-- one place more was read
pub place_more : (text front rest after : List ℕ) (n : ℕ) → text ≡ words front ++ rest → rest ≡ word n ++ after
    → text ≡ words (front ++ n ∷ []) ++ after
place_more text front rest after n e next =
    e
    ∙ ap (λ xs. words front ++ xs) next
    ∙ sym (append_assoc (words front) (word n) after)
    ∙ ap (λ xs. (words front ++ xs) ++ after) (sym (append-nil (word n)))
    ∙ ap (λ xs. xs ++ after) (sym (flat_map-append word front (n ∷ [])))
