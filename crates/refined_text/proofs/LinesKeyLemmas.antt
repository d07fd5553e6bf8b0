-- A line by its keyword and what follows it.
use Rattle.std.proofs.Common.{◌≡◌, ◌≢◌, ℕ, ◌≤◌, cond, List, ◌++◌, codes, refl, sym, ◌∙◌, ap, subst}
use Rattle.std.proofs.Common.{rules, arith}
use Rattle.std.specs.List.{All}
use Rattle.std.specs.Str.{bytes_eq}
use Rattle.std.proofs.lemmas.List.Elements.{All-from_recursion, All-weaker}
use Rattle.certificate_lines.specs.declared.line.CertificateLine.{CertificateLine}
use Rattle.certificate_lines.specs.declared.line.CertificateLine.TheVariants as line
use Rattle.certificate_lines.specs.Steps.{IsBreak, keyword_text, keyword_of}
use Rattle.certificate_lines.proofs.KeywordLemmas.{keyword_letters}
use Rattle.certificate_lines.proofs.WordLemmas.{cut_behind}
use Rattle.certificate_lines.proofs.FormLemmas.{spelled, operands_break}
use Rattle.refined_text.specs.declared.lines.members.LineMember.{LineMember}
use Rattle.refined_text.specs.declared.lines.line.RefinedLine.{RefinedLine}
use Rattle.refined_text.specs.declared.lines.line.RefinedLine.TheVariants.{Title, Plain, Cap, Group, Offset, Clique}
use Rattle.refined_text.specs.declared.lines.keyword.RefinedKeyword.{RefinedKeyword}
use Rattle.refined_text.specs.declared.lines.keyword.RefinedKeyword.TheVariants as key
use Rattle.refined_text.specs.lines.Spelling.{refined_spelling, IsPlain, IsRefinedLine}
use Rattle.refined_text.specs.lines.Steps.{IsOther, IsKeywordOf, key_of, first_word, further_words}

-- a line is spelled by its keyword and what follows it
pub refined_spelled : (a : RefinedLine) → refined_spelling a ≡ first_word a ++ further_words a
refined_spelled Title = refl
refined_spelled (Plain a) = spelled a
refined_spelled Cap = refl
refined_spelled (Group t members) = refl
refined_spelled (Offset t i g v) = refl
refined_spelled (Clique t v members) = refl

-- what follows a keyword is empty or begins with a blank
pub further_break : (a : RefinedLine) → IsBreak (further_words a)
further_break Title = refl
further_break (Plain a) = operands_break a
further_break Cap = tt
further_break (Group t members) = refl
further_break (Offset t i g v) = refl
further_break (Clique t v members) = refl

-- a keyword has letters alone
pub first_letters : (a : RefinedLine) → All (λ b. 97 ≤ b) (first_word a)
first_letters Title = All-from_recursion (λ b. 97 ≤ b) (codes "mpcert") (search rules)
first_letters (Plain a) = keyword_letters (keyword_of a)
first_letters Cap = All-from_recursion (λ b. 97 ≤ b) (codes "cap") (search rules)
first_letters (Group t members) = All-from_recursion (λ b. 97 ≤ b) (codes "tail") (search rules)
first_letters (Offset t i g v) = All-from_recursion (λ b. 97 ≤ b) (codes "off") (search rules)
first_letters (Clique t v members) = All-from_recursion (λ b. 97 ≤ b) (codes "clq") (search rules)

pub first_whole : (a : RefinedLine) → All (λ b. b ≢ 32) (first_word a)
first_whole a =
    All-weaker (λ b. 97 ≤ b) (λ b. b ≢ 32) (λ b h e. omega (arith, h, e)) (first_word a) (first_letters a)

-- a text that spells a line is cut into its keyword and what follows it
pub refined_cut : (a : RefinedLine) (text first rest : List ℕ) → text ≡ first ++ rest → All (λ b. b ≢ 32) first
    → IsBreak rest → text ≡ refined_spelling a → (first ≡ first_word a) × (rest ≡ further_words a)
refined_cut a text first rest cut whole b e =
    cut_behind first rest (first_word a) (further_words a) whole (first_whole a) b (further_break a)
    (sym cut ∙ e ∙ refined_spelled a)

-- ---- keywords

-- the keyword that has these bytes
abbrev by_bytes : List ℕ → RefinedKeyword
by_bytes bytes = cond (bytes_eq bytes (codes "mpcert")) key.Title
    (cond (bytes_eq bytes (codes "cap")) key.Cap
    (cond (bytes_eq bytes (codes "tail")) key.Group
    (cond (bytes_eq bytes (codes "off")) key.Offset (cond (bytes_eq bytes (codes "clq")) key.Clique key.Other))))

plain_by_bytes : (a : CertificateLine) → IsPlain a → by_bytes (keyword_text (keyword_of a)) ≡ key.Other
plain_by_bytes (line.Title version) h = absurd h
plain_by_bytes (line.Bound bound) h = refl
plain_by_bytes (line.Lists count) h = refl
plain_by_bytes line.Prices h = refl
plain_by_bytes (line.Up c t v) h = refl
plain_by_bytes (line.Lo c t v) h = refl
plain_by_bytes (line.Tail t weight places) h = absurd h
plain_by_bytes (line.Ex e t v) h = refl
plain_by_bytes line.Tree h = refl
plain_by_bytes (line.Split i last) h = refl
plain_by_bytes (line.Cost list) h = refl
plain_by_bytes line.Point h = refl
plain_by_bytes (line.Band c t side) h = refl
plain_by_bytes (line.Excl e) h = refl
plain_by_bytes (line.Empty i) h = refl

its_bytes : (a : RefinedLine) → IsRefinedLine a → by_bytes (first_word a) ≡ key_of a
its_bytes Title h = refl
its_bytes (Plain a) h = plain_by_bytes a h.0
its_bytes Cap h = refl
its_bytes (Group t members) h = refl
its_bytes (Offset t i g v) h = refl
its_bytes (Clique t v members) h = refl

-- two lines that begin alike have one keyword
pub same_key : (a b : RefinedLine) → IsRefinedLine a → IsRefinedLine b → first_word a ≡ first_word b
    → key_of a ≡ key_of b
same_key a b h g e = sym (its_bytes a h) ∙ ap by_bytes e ∙ its_bytes b g

-- a line that begins with these bytes has their keyword
other_key : (a : RefinedLine) (first : List ℕ) → first ≡ first_word a → IsOther first → key_of a ≡ key.Other
other_key Title first e h = absurd (h.title e)
other_key (Plain a) first e h = refl
other_key Cap first e h = absurd (h.cap e)
other_key (Group t members) first e h = absurd (h.tail e)
other_key (Offset t i g v) first e h = absurd (h.offset e)
other_key (Clique t v members) first e h = absurd (h.clique e)

pub own_key : (a : RefinedLine) (keyword : RefinedKeyword) (first : List ℕ) → IsRefinedLine a → first ≡ first_word a
    → IsKeywordOf first keyword → key_of a ≡ keyword
own_key a key.Title first h e is = sym (its_bytes a h) ∙ ap by_bytes (sym e ∙ is)
own_key a key.Cap first h e is = sym (its_bytes a h) ∙ ap by_bytes (sym e ∙ is)
own_key a key.Group first h e is = sym (its_bytes a h) ∙ ap by_bytes (sym e ∙ is)
own_key a key.Offset first h e is = sym (its_bytes a h) ∙ ap by_bytes (sym e ∙ is)
own_key a key.Clique first h e is = sym (its_bytes a h) ∙ ap by_bytes (sym e ∙ is)
own_key a key.Other first h e is = other_key a first e is

-- the bytes of a keyword of its own begin a line of this keyword
pub own_first : (a : RefinedLine) (keyword : RefinedKeyword) (first : List ℕ) → (keyword ≡ key.Other → ⊥)
    → key_of a ≡ keyword → IsKeywordOf first keyword → first ≡ first_word a
own_first Title keyword first own is h = subst (IsKeywordOf first) (sym is) h
own_first (Plain a) keyword first own is h = absurd (own (sym is))
own_first Cap keyword first own is h = subst (IsKeywordOf first) (sym is) h
own_first (Group t members) keyword first own is h = subst (IsKeywordOf first) (sym is) h
own_first (Offset t i g v) keyword first own is h = subst (IsKeywordOf first) (sym is) h
own_first (Clique t v members) keyword first own is h = subst (IsKeywordOf first) (sym is) h

-- ---- forms

-- a line of this keyword has this form
pub only_title : (a : RefinedLine) → key_of a ≡ key.Title → (P : RefinedLine → Type 0) → P Title → P a
only_title Title is P h = h
only_title a is P h = absurd (cc)

pub only_plain : (a : RefinedLine) → key_of a ≡ key.Other → (P : RefinedLine → Type 0)
    → ((of : CertificateLine) → P (Plain of)) → P a
only_plain (Plain of) is P h = h of
only_plain a is P h = absurd (cc)

pub only_cap : (a : RefinedLine) → key_of a ≡ key.Cap → (P : RefinedLine → Type 0) → P Cap → P a
only_cap Cap is P h = h
only_cap a is P h = absurd (cc)

pub only_group : (a : RefinedLine) → key_of a ≡ key.Group → (P : RefinedLine → Type 0)
    → ((t : ℕ) (members : List LineMember) → P (Group t members)) → P a
only_group (Group t members) is P h = h t members
only_group a is P h = absurd (cc)

pub only_offset : (a : RefinedLine) → key_of a ≡ key.Offset → (P : RefinedLine → Type 0)
    → ((t i g v : ℕ) → P (Offset t i g v)) → P a
only_offset (Offset t i g v) is P h = h t i g v
only_offset a is P h = absurd (cc)

pub only_clique : (a : RefinedLine) → key_of a ≡ key.Clique → (P : RefinedLine → Type 0)
    → ((t v : ℕ) (members : List ℕ) → P (Clique t v members)) → P a
only_clique (Clique t v members) is P h = h t v members
only_clique a is P h = absurd (cc)
