-- A line that is written piece by piece.
use Rattle.std.proofs.Common.{◌≡◌, ℕ, List, [], ◌∷◌, ◌++◌, codes, sym, ◌∙◌, ap, append_assoc}
use Rattle.std.proofs.lemmas.Grind.{flat_map-append}
use Rattle.certificate_lines.specs.declared.line.CertificateLine.{CertificateLine}
use Rattle.certificate_lines.specs.declared.line.CertificateLine.TheVariants.{Tail}
use Rattle.certificate_lines.specs.declared.keyword.Keyword.{Keyword}
use Rattle.certificate_lines.specs.Spelling.{word, words, spelling}
use Rattle.certificate_lines.specs.Steps.{keyword_text, keyword_of, operands}
use Rattle.certificate_lines.proofs.FormLemmas.{spelled}

-- two numbers and some more are written one after another
pub pair_and_words : (t weight : ℕ) (places : List ℕ)
    → words (t ∷ weight ∷ places) ≡ words (t ∷ weight ∷ []) ++ words places
pair_and_words t weight places = flat_map-append word (t ∷ weight ∷ []) places

-- a line with its line feed, piece by piece
pub line_pieces : (line : CertificateLine) (keyword : Keyword) (front : List ℕ) → keyword ≡ keyword_of line
    → front ≡ keyword_text keyword → spelling line ++ 10 ∷ [] ≡ front ++ (operands line ++ 10 ∷ [])
line_pieces line keyword front e f =
    ap (λ xs. xs ++ 10 ∷ []) (spelled line)
    ∙ append_assoc (keyword_text (keyword_of line)) (operands line) (10 ∷ [])
    ∙ ap (λ k. keyword_text k ++ (operands line ++ 10 ∷ [])) (sym e)
    ∙ ap (λ xs. xs ++ (operands line ++ 10 ∷ [])) (sym f)

-- the line of a tail with its line feed, piece by piece, where its numbers were made wide
pub tail_pieces : (t weight u v : ℕ) (places front : List ℕ) → u ≡ t → v ≡ weight → front ≡ codes "tail"
    → spelling (Tail t weight places) ++ 10 ∷ [] ≡ front ++ (words (u ∷ v ∷ []) ++ (words places ++ 10 ∷ []))
tail_pieces t weight u v places front e f h =
    ap (λ xs. (codes "tail" ++ xs) ++ 10 ∷ []) (pair_and_words t weight places)
    ∙ append_assoc (codes "tail") (words (t ∷ weight ∷ []) ++ words places) (10 ∷ [])
    ∙ ap (λ xs. codes "tail" ++ xs) (append_assoc (words (t ∷ weight ∷ [])) (words places) (10 ∷ []))
    ∙ ap (λ n. codes "tail" ++ (words (n ∷ weight ∷ []) ++ (words places ++ 10 ∷ []))) (sym e)
    ∙ ap (λ n. codes "tail" ++ (words (u ∷ n ∷ []) ++ (words places ++ 10 ∷ []))) (sym f)
    ∙ ap (λ xs. xs ++ (words (u ∷ v ∷ []) ++ (words places ++ 10 ∷ []))) (sym h)
