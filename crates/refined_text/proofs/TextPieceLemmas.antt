-- Lines that are written piece by piece.
use Rattle.std.proofs.Common.{◌≡◌, ℕ, ◌+◌, List, [], ◌∷◌, ◌++◌, map, codes, refl, sym, ◌∙◌, ap, append_assoc}
use Rattle.std.specs.List.{flat_map}
use Rattle.std.proofs.lemmas.List.{append-nil}
use Rattle.std.proofs.lemmas.Grind.{flat_map-append}
use Rattle.refined_prices.specs.declared.member.Member.{Member}
use Rattle.refined_prices.specs.declared.offset.Offset.{Offset}
use Rattle.refined_prices.specs.declared.clique.Clique.{Clique}
use Rattle.certificate_lines.specs.declared.line.CertificateLine.{CertificateLine}
use Rattle.certificate_lines.specs.Spelling.{word, words}
use Rattle.certificate_text.specs.Text.{line_text, text_of_lines}
use Rattle.refined_text.specs.declared.lines.line.RefinedLine.{RefinedLine}
use Rattle.refined_text.specs.declared.lines.line.RefinedLine.TheVariants.{Plain}
use Rattle.refined_text.specs.lines.Spelling.{member_word, member_words}
use Rattle.refined_text.specs.text.Text.{line_member, refined_line_text, text_of_refined}
use Rattle.refined_text.specs.text.Steps.{pair_words, group_words, clique_words, group_text, offset_text}
use Rattle.refined_text.specs.text.Steps.{clique_text}

-- ---- texts of lines

pub refined-append : (xs ys : List RefinedLine)
    → text_of_refined (xs ++ ys) ≡ text_of_refined xs ++ text_of_refined ys
refined-append xs ys = flat_map-append refined_line_text xs ys

-- lines of version 2 have the text that they have there
pub plain_text : (lines : List CertificateLine) → text_of_lines lines ≡ text_of_refined (map Plain lines)
plain_text [] = refl
plain_text (x ∷ xs) = ap (λ (text : List ℕ). line_text x ++ text) (plain_text xs)

-- lines that are listed, one for each element, or some
pub map_text : {A : Type 0} (f : A → RefinedLine) (xs : List A)
    → flat_map (λ x. refined_line_text (f x)) xs ≡ text_of_refined (map f xs)
map_text f [] = refl
map_text f (x ∷ xs) = ap (λ (text : List ℕ). refined_line_text (f x) ++ text) (map_text f xs)

pub flat_text : {A : Type 0} (f : A → List RefinedLine) (xs : List A)
    → flat_map (λ x. text_of_refined (f x)) xs ≡ text_of_refined (flat_map f xs)
flat_text f [] = refl
flat_text f (x ∷ xs) = ap (λ (text : List ℕ). text_of_refined (f x) ++ text) (flat_text f xs)
    ∙ sym (refined-append (f x) (flat_map f xs))

-- ---- words

pair_is : (x : Member) → pair_words x ≡ member_word (line_member x)
pair_is x = ap (λ (xs : List ℕ). word x.scenario ++ xs) (append-nil (word x.weight))

pub group_is : (group : List Member) → group_words group ≡ member_words (map line_member group)
group_is [] = refl
group_is (x ∷ xs) = ap (λ (text : List ℕ). text ++ group_words xs) (pair_is x)
    ∙ ap (λ (text : List ℕ). member_word (line_member x) ++ text) (group_is xs)

pub clique_is : (members : List ℕ) → clique_words members ≡ words (map (λ i. i + 1) members)
clique_is [] = refl
clique_is (i ∷ is) = ap (λ (text : List ℕ). text ++ clique_words is) (append-nil (word (i + 1)))
    ∙ ap (λ (text : List ℕ). word (i + 1) ++ text) (clique_is is)

-- ---- lines

-- the line of a group with its line feed
pub group_pieces : (t u : ℕ) (group : List Member) → u ≡ t
    → group_text t group ≡ codes "tail" ++ (words (u ∷ []) ++ (group_words group ++ 10 ∷ []))
group_pieces t u group e =
    append_assoc (codes "tail") (word t ++ member_words (map line_member group)) (10 ∷ [])
    ∙ ap (λ (xs : List ℕ). codes "tail" ++ xs) (append_assoc (word t) (member_words (map line_member group)) (10 ∷ []))
    ∙ ap (λ (xs : List ℕ). codes "tail" ++ (word t ++ (xs ++ 10 ∷ []))) (sym (group_is group))
    ∙ ap (λ (xs : List ℕ). codes "tail" ++ (xs ++ (group_words group ++ 10 ∷ []))) (sym (append-nil (word t)))
    ∙ ap (λ (n : ℕ). codes "tail" ++ (words (n ∷ []) ++ (group_words group ++ 10 ∷ []))) (sym e)

-- that of an offset
pub offset_pieces : (x : Offset) (t i g v : ℕ) → t ≡ x.period → i ≡ x.intervention → g ≡ x.group → v ≡ x.value
    → offset_text x ≡ codes "off" ++ (words (t ∷ (i + 1) ∷ (g + 1) ∷ v ∷ []) ++ 10 ∷ [])
offset_pieces x t i g v a b c d =
    append_assoc (codes "off") (words (x.period ∷ (x.intervention + 1) ∷ (x.group + 1) ∷ x.value ∷ [])) (10 ∷ [])
    ∙ sym (λ j. codes "off" ++ (words (a j ∷ (b j + 1) ∷ (c j + 1) ∷ d j ∷ []) ++ 10 ∷ []))

-- that of the price of a clique
pub clique_pieces : (x : Clique) (t v : ℕ) (members : List ℕ) → t ≡ x.period → v ≡ x.value → members ≡ x.members
    → clique_text x ≡ codes "clq" ++ (words (t ∷ v ∷ []) ++ (clique_words members ++ 10 ∷ []))
clique_pieces x t v members a b c =
    let more : List ℕ = map (λ i. i + 1) x.members in
    append_assoc (codes "clq") (words (x.period ∷ x.value ∷ more)) (10 ∷ [])
    ∙ ap (λ (xs : List ℕ). codes "clq" ++ (xs ++ 10 ∷ [])) (flat_map-append word (x.period ∷ x.value ∷ []) more)
    ∙ ap (λ (xs : List ℕ). codes "clq" ++ xs) (append_assoc (words (x.period ∷ x.value ∷ [])) (words more) (10 ∷ []))
    ∙ ap (λ (xs : List ℕ). codes "clq" ++ (words (x.period ∷ x.value ∷ []) ++ (xs ++ 10 ∷ [])))
    (sym (clique_is x.members))
    ∙ sym (λ j. codes "clq" ++ (words (a j ∷ b j ∷ []) ++ (clique_words (c j) ++ 10 ∷ [])))
