-- The lengths of lines and texts, as a number of 64 bits counts them.
use Rattle.std.proofs.Common.{◌≡◌, ℕ, ◌+◌, ◌^◌, ◌≤◌, sym, ◌∙◌, ap, arith, List, [], ◌∷◌, ◌++◌, length, codes}
use Rattle.std.proofs.lemmas.List.{length-append}
use Rattle.refined_prices.specs.declared.member.Member.{Member}
use Rattle.refined_prices.specs.declared.clique.Clique.{Clique}
use Rattle.certificate_lines.specs.Spelling.{word, words}
use Rattle.certificate_text.specs.Lengths.{counted, counted_length}
use Rattle.certificate_text.proofs.CountLemmas.{counted_small, counted_sum, joined}
use Rattle.refined_text.specs.declared.lines.line.RefinedLine.{RefinedLine}
use Rattle.refined_text.specs.text.Text.{text_of_refined}
use Rattle.refined_text.specs.text.Steps.{group_words, clique_words, group_text, clique_text}
use Rattle.refined_text.proofs.TextPieceLemmas.{refined-append, group_pieces, clique_pieces}

pub lines_joined : (xs ys zs : List RefinedLine) (a b r : ℕ) → zs ≡ xs ++ ys
    → a ≡ counted_length (text_of_refined xs) → b ≡ counted_length (text_of_refined ys) → r ≡ counted (a + b)
    → r ≡ counted_length (text_of_refined zs)
lines_joined xs ys zs a b r e =
    joined (text_of_refined xs) (text_of_refined ys) (text_of_refined zs) a b r
    (ap text_of_refined e ∙ refined-append xs ys)

-- a small number of bytes, and some more
pub beside : (front : ℕ) (text more : List ℕ) (b r : ℕ) → length text ≡ front + length more → front ≤ 2 ^ 32
    → b ≡ counted_length more → r ≡ counted (front + b) → r ≡ counted_length text
beside front text more b r e small g h =
    h ∙ ap (λ (n : ℕ). counted (front + n)) g
    ∙ ap (λ (n : ℕ). counted (n + counted_length more)) (sym (counted_small front (omega (arith, small))))
    ∙ counted_sum front (length more) ∙ ap counted (sym e)

-- the line of a group
pub group_size : (t : ℕ) (group : List Member)
    → length (group_text t group) ≡ (length (word t) + 5) + length (group_words group)
group_size t group =
    let e = ap (λ (xs : List ℕ). length xs) (group_pieces t t group (λ j. t)) in
    let a = length-append (codes "tail") (words (t ∷ []) ++ (group_words group ++ 10 ∷ [])) in
    let b = length-append (words (t ∷ [])) (group_words group ++ 10 ∷ []) in
    let c = length-append (group_words group) (10 ∷ []) in
    let d = length-append (word t) [] in
    omega (arith, e, a, b, c, d)

-- the line of the price of a clique
pub clique_size : (x : Clique)
    → length (clique_text x) ≡ (length (word x.period) + length (word x.value) + 4) + length (clique_words x.members)
clique_size x =
    let e = ap (λ (xs : List ℕ). length xs)
    (clique_pieces x x.period x.value x.members (λ j. x.period) (λ j. x.value) (λ j. x.members)) in
    let front : List ℕ = words (x.period ∷ x.value ∷ []) in
    let a = length-append (codes "clq") (front ++ (clique_words x.members ++ 10 ∷ [])) in
    let b = length-append front (clique_words x.members ++ 10 ∷ []) in
    let c = length-append (clique_words x.members) (10 ∷ []) in
    let d = length-append (word x.period) (words (x.value ∷ [])) in
    let f = length-append (word x.value) [] in
    omega (arith, e, a, b, c, d, f)
