-- The lines of a text, one after another.
use Rattle.std.proofs.Common.{◌≡◌, ◌≢◌, ℕ, ◌+◌, ◌<◌, false, eqb, List, [], ◌∷◌, Option, Some, None, IfSome, Bor, ◌++◌}
use Rattle.std.proofs.Common.{length, drop, slice_index_or, refl, sym, ◌∙◌, ap, arith, rules}
use Rattle.std.specs.List.{All, slice_split}
use Rattle.std.proofs.lemmas.Bool.Decides.{nat_tests}
use Rattle.std.proofs.lemmas.List.{length-drop, drop_more}
use Rattle.std.proofs.lemmas.List.Elements.{All-weaker}
use Rattle.std.proofs.lemmas.List.Splits.{slice_split_at, slice_split_none, length-slice_split}
use Rattle.text_lines.specs.Lines.{lines_of, without_empty_last}

-- no byte is a line feed, said by the test
feedless : (line : List ℕ) → All (λ b. b ≢ 10) line → All (λ b. eqb b 10 ≡ false) line
feedless line h = All-weaker (λ b. b ≢ 10) (λ b. eqb b 10 ≡ false) (λ b ne. search rules) line h

-- a part before others is kept
without_empty_last-more : (part : List ℕ) (parts : List (List ℕ)) → 0 < length parts
    → without_empty_last (part ∷ parts) ≡ part ∷ without_empty_last parts
without_empty_last-more part [] h = absurd (omega (arith, h))
without_empty_last-more part (next ∷ more) h = refl

-- a last part with a byte is kept
without_empty_last-one : (part : List ℕ) → 0 < length part → without_empty_last (part ∷ []) ≡ part ∷ []
without_empty_last-one part h = grind (arith, nat_tests)

-- a line, its line feed and the rest
pub lines_of-more : (line rest : List ℕ) → All (λ b. b ≢ 10) line → lines_of (line ++ 10 ∷ rest) ≡ line ∷ lines_of rest
lines_of-more line rest h =
    let some : 0 < length (slice_split (λ b. eqb b 10) rest) = omega (arith, length-slice_split (λ b. eqb b 10) rest) in
    ap without_empty_last (slice_split_at (λ b. eqb b 10) line 10 rest (feedless line h) refl)
    ∙ without_empty_last-more line _ some

-- a last line without a line feed
pub lines_of-last : (line : List ℕ) → 0 < length line → All (λ b. b ≢ 10) line → lines_of line ≡ line ∷ []
lines_of-last line some h =
    ap without_empty_last (slice_split_none (λ b. eqb b 10) line (feedless line h)) ∙ without_empty_last-one line some

-- a text that is cut at its first line feed
pub lines_of-cut : (text line rest : List ℕ) → text ≡ line ++ 10 ∷ rest → All (λ b. b ≢ 10) line
    → lines_of text ≡ line ∷ lines_of rest
lines_of-cut text line rest e h = ap lines_of e ∙ lines_of-more line rest h

-- a text without a line feed, and an empty rest
pub lines_of-whole : (text line rest : List ℕ) → 0 < length text → All (λ b. b ≢ 10) text → line ≡ text → rest ≡ []
    → lines_of text ≡ line ∷ lines_of rest
lines_of-whole text line rest some h e f =
    lines_of-last text some h ∙ ap (λ x. x ∷ []) (sym e) ∙ ap (λ xs. line ∷ lines_of xs) (sym f)

-- the same of the answer of a cut
pub lines_of-parts : (text : List ℕ) (parts : Option (Bor (List ℕ) × Bor (List ℕ)))
    → IfSome parts (λ p. text ≡ p.0.now ++ 10 ∷ p.1.now) → IfSome parts (λ p. All (λ b. b ≢ 10) p.0.now)
    → IfSome parts (λ p. lines_of text ≡ p.0.now ∷ lines_of p.1.now)
lines_of-parts text None e h = search rules
lines_of-parts text (Some p) e h = lines_of-cut text p.0.now p.1.now e h

-- the next line, where what is left of the text begins with it
pub record NextLine (lines : List (List ℕ)) (n : ℕ) (line : List ℕ) (rest : List (List ℕ)) : Type 0 where
  pub within : n < length lines
  pub is : slice_index_or lines n [] ≡ line
  pub left : drop (n + 1) lines ≡ rest

pub next_line : (lines : List (List ℕ)) (n : ℕ) (line : List ℕ) (rest : List (List ℕ)) → drop n lines ≡ line ∷ rest
    → NextLine lines n line rest
next_line lines n line rest e =
    let within : n < length lines = omega (arith, ap length e, length-drop n lines) in
    let cut : slice_index_or lines n [] ∷ drop (n + 1) lines ≡ line ∷ rest = sym (drop_more lines n [] within) ∙ e in
    record { within = within; is = cc; left = cc }
