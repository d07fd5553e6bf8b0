-- Words, each behind a blank, are read in one way.
use Rattle.std.proofs.Common.{◌≡◌, ◌≢◌, ℕ, ◌+◌, ◌^◌, ◌<◌, ◌≤◌, Bor, Some, true, eqb, take, drop, List, [], ◌∷◌, ◌++◌}
use Rattle.std.proofs.Common.{length, decimal, refl, sym, ◌∙◌, ap, subst, arith}
use Rattle.std.specs.List.{All}
use Rattle.std.specs.Char.{digit_value}
use Rattle.std.specs.Cmp.Lexicographic.{pointwise}
use Rattle.std.proofs.lemmas.Bool.Decides.{Decides-eqb}
use Rattle.std.proofs.lemmas.Slice.Eq.{strip_prefix_is}
use Rattle.std.proofs.lemmas.Fmt.{decimal_injective, decimal_is_IsNumeral_wide, length-decimal-le}
use Rattle.std.proofs.lemmas.List.Elements.{All-head, All-tail, All-weaker}
use Rattle.text_lines.proofs.DigitLemmas.{IsDigit, digit_bytes, digits-each}
use Rattle.certificate_lines.specs.Spelling.{word, words, IsNumber}
use Rattle.certificate_lines.specs.Steps.{IsBreak}

-- a text is cut behind its first word in one way only
pub cut_behind : (a b c d : List ℕ) → All (λ y. y ≢ 32) a → All (λ y. y ≢ 32) c → IsBreak b → IsBreak d
    → a ++ b ≡ c ++ d → (a ≡ c) × (b ≡ d)
cut_behind [] b [] d p q m n e = (refl, e)
cut_behind [] b (y ∷ c) d p q m n e = absurd (All-head (λ z. z ≢ 32) y c q (subst IsBreak e m))
cut_behind (y ∷ a) b [] d p q m n e = absurd (All-head (λ z. z ≢ 32) y a p (subst IsBreak (sym e) n))
cut_behind (y ∷ a) b (z ∷ c) d p q m n e =
    let tails : a ++ b ≡ c ++ d = cc in
    let heads : y ≡ z = cc in
    let more = cut_behind a b c d (All-tail (λ w. w ≢ 32) y a p) (All-tail (λ w. w ≢ 32) z c q) m n tails in
    let fronts : a ≡ c = more.0 in
    (cc, more.1)

-- the bytes of a number are digits
pub decimal_digits : (n : ℕ) → n < 10 ^ 64 → All (λ b. 48 ≤ b) (decimal n)
decimal_digits n small =
    All-weaker (λ b. digit_value b < 10) (λ b. 48 ≤ b) (λ b h. let d : IsDigit b = digit_bytes b h in
    omega (arith, d.from)) (decimal n) (digits-each (decimal n) (decimal_is_IsNumeral_wide n small).0.1)

pub decimal_whole : (n : ℕ) → IsNumber n → All (λ b. b ≢ 32) (decimal n)
decimal_whole n small = All-weaker (λ b. 48 ≤ b) (λ b. b ≢ 32) (λ b h e. omega (arith, h, e)) (decimal n)
    (decimal_digits n (omega (arith, small)))

-- numbers are followed by a blank or by nothing
pub words_break : (numbers : List ℕ) → IsBreak (words numbers)
words_break [] = tt
words_break (n ∷ ns) = refl

-- the next number and what follows it
pub word_once : (n m : ℕ) (rest more : List ℕ) → IsNumber n → IsNumber m → IsBreak rest → IsBreak more
    → word n ++ rest ≡ word m ++ more → (n ≡ m) × (rest ≡ more)
word_once n m rest more ns ms r s e =
    let behind : decimal n ++ rest ≡ decimal m ++ more = cc in
    let both = cut_behind (decimal n) rest (decimal m) more (decimal_whole n ns) (decimal_whole m ms) r s behind in
    (decimal_injective n m (omega (arith, ns)) (omega (arith, ms)) both.0, both.1)

-- a text whose first word is no number has no number in front
pub no_number : (text behind digits after : List ℕ) → text ≡ 32 ∷ behind → behind ≡ digits ++ after
    → All (λ b. b ≢ 32) digits → IsBreak after → ((n : ℕ) → digits ≡ decimal n → length digits ≤ 19 → ⊥)
    → (n : ℕ) (rest : List ℕ) → IsNumber n → IsBreak rest → text ≡ word n ++ rest → ⊥
no_number text behind digits after t cut whole brk none n rest small r e =
    let same : digits ++ after ≡ decimal n ++ rest = cc in
    let front : digits ≡ decimal n =
    (cut_behind digits after (decimal n) rest whole (decimal_whole n small) brk r same).0 in
    none n front (omega (arith, ap length front, length-decimal-le 19 n (omega arith) small (omega (arith, small))))

-- what follows the first number
pub behind_number : (text rest more : List ℕ) (n m : ℕ) → text ≡ word n ++ rest → IsNumber n → IsBreak rest → IsNumber m
    → IsBreak more → text ≡ word m ++ more → rest ≡ more
behind_number text rest more n m e ns r ms s f = (word_once n m rest more ns ms r s (sym e ∙ f)).1

-- what follows a prefix
pub behind_prefix : (text front : List ℕ) (rest : Bor (List ℕ))
    → (pointwise eqb (take (length front) text) front ≡ true) × (rest.now ≡ drop (length front) text)
    × (length rest.now + length front ≡ length text) → text ≡ front ++ rest.now
behind_prefix text front rest h = strip_prefix_is Decides-eqb text front (Some rest) h
