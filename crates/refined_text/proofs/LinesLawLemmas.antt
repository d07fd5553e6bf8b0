-- A line is spelled in one way, without a line feed.
use Rattle.std.proofs.Common.{◌≡◌, ◌≢◌, ℕ, ◌≤◌, List, [], ◌∷◌, ◌++◌, codes, refl, sym, ◌∙◌, ap, subst, arith}
use Rattle.std.proofs.Common.{rules}
use Rattle.std.specs.List.{All}
use Rattle.std.proofs.lemmas.List.{append-nil}
use Rattle.std.proofs.lemmas.List.Elements.{All-nil, All-cons, All-head, All-tail, All-append, All-weaker}
use Rattle.std.proofs.lemmas.List.Elements.{All-from_recursion}
use Rattle.certificate_lines.specs.declared.line.CertificateLine.{CertificateLine}
use Rattle.certificate_lines.specs.Spelling.{word, words, spelling, IsNumber, IsLine}
use Rattle.certificate_lines.specs.Steps.{keyword_text, keyword_of, operands}
use Rattle.certificate_lines.proofs.WordLemmas.{word_once, words_break}
use Rattle.certificate_lines.proofs.FormLemmas.{spelled}
use Rattle.certificate_lines.proofs.LawLemmas.{one_line, no_line_feed, three_once, words_once, words_above, Above}
use Rattle.refined_text.specs.declared.lines.members.LineMember.{LineMember}
use Rattle.refined_text.specs.declared.lines.line.RefinedLine.{RefinedLine}
use Rattle.refined_text.specs.declared.lines.line.RefinedLine.TheVariants.{Title, Plain, Cap, Group, Offset, Clique}
use Rattle.refined_text.specs.declared.lines.keyword.RefinedKeyword.TheVariants as key
use Rattle.refined_text.specs.lines.Spelling.{member_word, member_words, refined_spelling, IsMember, IsRefinedLine}
use Rattle.refined_text.specs.lines.Steps.{key_of, first_word, further_words}
use Rattle.refined_text.proofs.LinesKeyLemmas.{refined_spelled, further_break, first_whole, first_letters, refined_cut}
use Rattle.refined_text.proofs.LinesKeyLemmas.{same_key, only_title, only_plain, only_cap, only_group, only_offset}
use Rattle.refined_text.proofs.LinesKeyLemmas.{only_clique}
use Rattle.refined_text.proofs.LinesMemberLemmas.{members_break, members_once}

plain_same : (a b : CertificateLine) → IsLine a → IsLine b → keyword_text (keyword_of a) ≡ keyword_text (keyword_of b)
    → operands a ≡ operands b → Plain a ≡ Plain b
plain_same a b h g k e =
    let same : spelling a ≡ spelling b = spelled a
    ∙ ap (λ (xs : List ℕ). xs ++ operands a) k
    ∙ ap (λ (xs : List ℕ). keyword_text (keyword_of b) ++ xs) e
    ∙ sym (spelled b) in
    ap (λ (x : CertificateLine). Plain x) (one_line a b h g same)

-- two lines that begin and go on alike
same_behind : (a b : RefinedLine) → IsRefinedLine a → IsRefinedLine b → first_word a ≡ first_word b
    → key_of b ≡ key_of a → further_words a ≡ further_words b → a ≡ b
same_behind Title b h g w k e = only_title b k (λ x. Title ≡ x) refl
same_behind (Plain a) b h g w k e =
    only_plain b k (λ x. IsRefinedLine x → first_word (Plain a) ≡ first_word x
    → further_words (Plain a) ≡ further_words x → Plain a ≡ x)
    (λ of l v f. plain_same a of h.1 l.1 v f) g w e
same_behind Cap b h g w k e = only_cap b k (λ x. Cap ≡ x) refl
same_behind (Group t members) b h g w k e =
    only_group b k (λ x. IsRefinedLine x → further_words (Group t members) ≡ further_words x → Group t members ≡ x)
    (λ u others l f.
    let first = word_once t u (member_words members) (member_words others) h.0 l.0 (members_break members)
    (members_break others) f in
    let later = members_once members others h.1 l.1 first.1 in
    λ i. Group (first.0 i) (later i)) g e
same_behind (Offset t i g v) b h f w k e =
    only_offset b k (λ x. IsRefinedLine x → further_words (Offset t i g v) ≡ further_words x → Offset t i g v ≡ x)
    (λ u j o z l m.
    let first = word_once t u (words (i ∷ g ∷ v ∷ [])) (words (j ∷ o ∷ z ∷ [])) h.0 l.0 refl refl m in
    let s = three_once i g v j o z (h.1, h.2, h.3) (l.1, l.2, l.3) first.1 in
    λ n. Offset (first.0 n) (s.0 n) (s.1 n) (s.2 n)) f e
same_behind (Clique t v members) b h g w k e =
    only_clique b k
    (λ x. IsRefinedLine x → further_words (Clique t v members) ≡ further_words x → Clique t v members ≡ x)
    (λ u z others l f.
    let first = word_once t u (words (v ∷ members)) (words (z ∷ others)) h.0 l.0 refl refl f in
    let second = word_once v z (words members) (words others) h.1 l.1 (words_break members) (words_break others)
    first.1 in
    let later = words_once members others h.2 l.2 second.1 in
    λ i. Clique (first.0 i) (second.0 i) (later i)) g e

pub one_refined : (a b : RefinedLine) → IsRefinedLine a → IsRefinedLine b → refined_spelling a ≡ refined_spelling b
    → a ≡ b
one_refined a b h g e =
    let cut = refined_cut b (refined_spelling a) (first_word a) (further_words a) (refined_spelled a)
    (first_whole a) (further_break a) e in
    same_behind a b h g cut.0 (sym (same_key a b h g cut.0)) cut.1

-- ---- no line feed

one_above : (n : ℕ) → IsNumber n → All Above (word n)
one_above n small =
    subst (All Above) (append-nil (word n)) (words_above (n ∷ []) (All-cons IsNumber n [] small (All-nil IsNumber)))

members_above : (xs : List LineMember) → All IsMember xs → All Above (member_words xs)
members_above [] h = All-nil Above
members_above (x ∷ xs) h =
    let here : IsMember x = All-head IsMember x xs h in
    All-append Above (member_word x) (member_words xs)
    (All-append Above (word x.scenario) (word x.weight) (one_above x.scenario here.0) (one_above x.weight here.1))
    (members_above xs (All-tail IsMember x xs h))

four_above : (t i g v : ℕ) → IsNumber t × IsNumber i × IsNumber g × IsNumber v → All Above (words (t ∷ i ∷ g ∷ v ∷ []))
four_above t i g v h = words_above (t ∷ i ∷ g ∷ v ∷ []) (All-cons IsNumber t (i ∷ g ∷ v ∷ []) h.0
    (All-cons IsNumber i (g ∷ v ∷ []) h.1
    (All-cons IsNumber g (v ∷ []) h.2 (All-cons IsNumber v [] h.3 (All-nil IsNumber)))))

clique_above : (t v : ℕ) (members : List ℕ) → IsNumber t → IsNumber v → All IsNumber members
    → All Above (words (t ∷ v ∷ members))
clique_above t v members h g f =
    words_above (t ∷ v ∷ members) (All-cons IsNumber t (v ∷ members) h (All-cons IsNumber v members g f))

-- what follows a keyword of version 3's own
further_above : (a : RefinedLine) → IsRefinedLine a → (key_of a ≡ key.Other → ⊥) → All Above (further_words a)
further_above Title h own = All-from_recursion Above (codes " 3") (search rules)
further_above (Plain a) h own = absurd (own refl)
further_above Cap h own = All-nil Above
further_above (Group t members) h own =
    All-append Above (word t) (member_words members) (one_above t h.0) (members_above members h.1)
further_above (Offset t i g v) h own = four_above t i g v h
further_above (Clique t v members) h own = clique_above t v members h.0 h.1 h.2

own_feed : (a : RefinedLine) → IsRefinedLine a → (key_of a ≡ key.Other → ⊥) → All (λ b. b ≢ 10) (refined_spelling a)
own_feed a h own =
    let letters : All Above (first_word a) =
    All-weaker (λ b. 97 ≤ b) Above (λ b l. omega (arith, l)) (first_word a) (first_letters a) in
    let above : All Above (first_word a ++ further_words a) =
    All-append Above (first_word a) (further_words a) letters (further_above a h own) in
    All-weaker Above (λ b. b ≢ 10) (λ b l e. omega (arith, l, e)) (refined_spelling a)
    (subst (All Above) (sym (refined_spelled a)) above)

pub no_feed : (a : RefinedLine) → IsRefinedLine a → All (λ b. b ≢ 10) (refined_spelling a)
no_feed Title h = own_feed Title h (λ e. absurd (cc))
no_feed (Plain a) h = no_line_feed a h.1
no_feed Cap h = own_feed Cap h (λ e. absurd (cc))
no_feed (Group t members) h = own_feed (Group t members) h (λ e. absurd (cc))
no_feed (Offset t i g v) h = own_feed (Offset t i g v) h (λ e. absurd (cc))
no_feed (Clique t v members) h = own_feed (Clique t v members) h (λ e. absurd (cc))
