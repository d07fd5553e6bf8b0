-- A text is cut into lines in one way.
use Rattle.std.proofs.Common.{◌≡◌, ◌≢◌, ℕ, ◌<◌, refl, sym, ◌∙◌, ap, arith, List, [], ◌∷◌, ◌++◌, length, All}
use Rattle.std.proofs.Common.{append_assoc}
use Rattle.std.specs.List.{AllByRecursion}
use Rattle.std.proofs.lemmas.List.{length-append, append-nil}
use Rattle.std.proofs.lemmas.List.Elements.{recursion_from_All}
use Rattle.certificate_lines.specs.declared.line.CertificateLine.{CertificateLine}
use Rattle.certificate_lines.specs.Spelling.{spelling, IsLine}
use Rattle.certificate_text.specs.Text.{line_text, text_of_lines}
use Rattle.certificate_text.specs.Laws.{TextsAreCutOneWay, TextsAreSpelledOneWay}
use Rattle.certificate_text.proofs.SplitLemmas.{split_one_way}

-- what the crate of lines says of them
abbrev pub OneLine : Type 0
OneLine = (line other : CertificateLine) → IsLine line → IsLine other → spelling line ≡ spelling other → line ≡ other

abbrev pub NoLineFeed : Type 0
NoLineFeed = (line : CertificateLine) → IsLine line → All (λ b. b ≢ 10) (spelling line)

-- a line and what follows its line feed
pub feed_one_way : (xs us ys vs : List ℕ) → All (λ b. b ≢ 10) xs → All (λ b. b ≢ 10) us → xs ++ 10 ∷ ys ≡ us ++ 10 ∷ vs
    → (xs ≡ us) × (ys ≡ vs)
feed_one_way xs us ys vs a b e =
    let w = split_one_way (λ (c : ℕ). c ≢ 10) xs us (10 ∷ ys) (10 ∷ vs) (recursion_from_All (λ (c : ℕ). c ≢ 10) xs a)
    (recursion_from_All (λ (c : ℕ). c ≢ 10) us b) (λ f. f refl) (λ f. f refl) e in
    let rest : 10 ∷ ys ≡ 10 ∷ vs = w.1 in
    (w.0, cc)

-- the first line of a text, and what follows it
pub text_begins : (line : CertificateLine) (lines : List CertificateLine) (rest : List ℕ)
    → text_of_lines (line ∷ lines) ++ rest ≡ spelling line ++ 10 ∷ (text_of_lines lines ++ rest)
text_begins line lines rest = append_assoc (line_text line) (text_of_lines lines) rest
    ∙ append_assoc (spelling line) (10 ∷ []) (text_of_lines lines ++ rest)

module _ (one_line : OneLine) (no_line_feed : NoLineFeed) where
  first_line : (line other : CertificateLine) (lines others : List CertificateLine) (rest more : List ℕ) → IsLine line
      → IsLine other → text_of_lines (line ∷ lines) ++ rest ≡ text_of_lines (other ∷ others) ++ more
      → (line ≡ other) × (text_of_lines lines ++ rest ≡ text_of_lines others ++ more)
  first_line line other lines others rest more a b e =
      let w = feed_one_way (spelling line) (spelling other) (text_of_lines lines ++ rest) (text_of_lines others ++ more)
      (no_line_feed line a) (no_line_feed other b)
      (sym (text_begins line lines rest) ∙ e ∙ text_begins other others more) in
      (one_line line other a b w.0, w.1)

  cut : (lines others : List CertificateLine) (rest more : List ℕ) → AllByRecursion IsLine lines
      → AllByRecursion IsLine others → length lines ≡ length others
      → text_of_lines lines ++ rest ≡ text_of_lines others ++ more → (lines ≡ others) × (rest ≡ more)
  cut [] [] rest more a b l e = (refl, e)
  cut [] (o ∷ os) rest more a b l e = absurd (omega (arith, l))
  cut (x ∷ xs) [] rest more a b l e = absurd (omega (arith, l))
  cut (x ∷ xs) (o ∷ os) rest more a b l e =
      let w = first_line x o xs os rest more a.0 b.0 e in
      let v = cut xs os rest more a.1 b.1 (omega (arith, l)) w.1 in
      (ap (λ (z : CertificateLine). z ∷ xs) w.0 ∙ ap (λ (zs : List CertificateLine). o ∷ zs) v.0, v.1)

  pub cut_one_way : TextsAreCutOneWay
  cut_one_way lines others rest more a b l e =
      cut lines others rest more (recursion_from_All IsLine lines a) (recursion_from_All IsLine others b) l e

  some_text : (line : CertificateLine) (lines : List CertificateLine) → 0 < length (text_of_lines (line ∷ lines))
  some_text line lines = let m = length-append (line_text line) (text_of_lines lines) in
      let n = length-append (spelling line) (10 ∷ []) in omega (arith, m, n)

  spelled : (lines others : List CertificateLine) → AllByRecursion IsLine lines → AllByRecursion IsLine others
      → text_of_lines lines ≡ text_of_lines others → lines ≡ others
  spelled [] [] a b e = refl
  spelled [] (o ∷ os) a b e = absurd (let m = some_text o os in let f = ap (λ (xs : List ℕ). length xs) e in
      omega (arith, m, f))
  spelled (x ∷ xs) [] a b e = absurd (let m = some_text x xs in let f = ap (λ (xs : List ℕ). length xs) e in
      omega (arith, m, f))
  spelled (x ∷ xs) (o ∷ os) a b e =
      let w = first_line x o xs os [] [] a.0 b.0 (ap (λ (zs : List ℕ). zs ++ []) e) in
      let v = spelled xs os a.1 b.1 (sym (append-nil (text_of_lines xs)) ∙ w.1 ∙ append-nil (text_of_lines os)) in
      ap (λ (z : CertificateLine). z ∷ xs) w.0 ∙ ap (λ (zs : List CertificateLine). o ∷ zs) v

  pub spelled_one_way : TextsAreSpelledOneWay
  spelled_one_way lines others a b e =
      spelled lines others (recursion_from_All IsLine lines a) (recursion_from_All IsLine others b) e
