-- A line by its keyword and what follows it.
use Rattle.std.proofs.Common.{◌≡◌, ◌≢◌, ℕ, List, [], ◌∷◌, ◌++◌, refl, sym, ◌∙◌, ap, append_assoc}
use Rattle.std.specs.List.{All}
use Rattle.certificate_lines.specs.declared.line.Version.{Version}
use Rattle.certificate_lines.specs.declared.line.Version.TheVariants.{One, Two}
use Rattle.certificate_lines.specs.declared.line.Bound.{Bound}
use Rattle.certificate_lines.specs.declared.line.Bound.TheVariants.{NoPlan, Least}
use Rattle.certificate_lines.specs.declared.line.Side.{Side}
use Rattle.certificate_lines.specs.declared.line.Side.TheVariants.{Over, Under}
use Rattle.certificate_lines.specs.declared.line.CertificateLine.{CertificateLine}
use Rattle.certificate_lines.specs.declared.line.CertificateLine.TheVariants as line
use Rattle.certificate_lines.specs.declared.keyword.Keyword.TheVariants as key
use Rattle.certificate_lines.specs.Spelling.{word, words, spelling}
use Rattle.certificate_lines.specs.Steps.{IsBreak, keyword_text, keyword_of, operands, side_text}
use Rattle.certificate_lines.proofs.WordLemmas.{cut_behind}
use Rattle.certificate_lines.proofs.KeywordLemmas.{keyword_whole}

-- a line is spelled by its keyword and what follows it
pub spelled : (line : CertificateLine) → spelling line ≡ keyword_text (keyword_of line) ++ operands line
spelled (line.Title One) = refl
spelled (line.Title Two) = refl
spelled (line.Bound NoPlan) = refl
spelled (line.Bound (Least n)) = refl
spelled (line.Lists count) = refl
spelled line.Prices = refl
spelled (line.Up c t v) = refl
spelled (line.Lo c t v) = refl
spelled (line.Tail t weight places) = refl
spelled (line.Ex e t v) = refl
spelled line.Tree = refl
spelled (line.Split i last) = refl
spelled (line.Cost list) = refl
spelled line.Point = refl
spelled (line.Band c t Over) = refl
spelled (line.Band c t Under) = refl
spelled (line.Excl e) = refl
spelled (line.Empty i) = refl

-- what follows a keyword is empty or begins with a blank
pub operands_break : (line : CertificateLine) → IsBreak (operands line)
operands_break (line.Title One) = refl
operands_break (line.Title Two) = refl
operands_break (line.Bound NoPlan) = refl
operands_break (line.Bound (Least n)) = refl
operands_break (line.Lists count) = refl
operands_break line.Prices = tt
operands_break (line.Up c t v) = refl
operands_break (line.Lo c t v) = refl
operands_break (line.Tail t weight places) = refl
operands_break (line.Ex e t v) = refl
operands_break line.Tree = tt
operands_break (line.Split i last) = refl
operands_break (line.Cost list) = refl
operands_break line.Point = tt
operands_break (line.Band c t Over) = refl
operands_break (line.Band c t Under) = refl
operands_break (line.Excl e) = refl
operands_break (line.Empty i) = refl

-- a line of this keyword has this form
pub only_title : (x : CertificateLine) → keyword_of x ≡ key.Title → (P : CertificateLine → Type 0)
    → ((version : Version) → P (line.Title version)) → P x
only_title (line.Title version) is P h = h version
only_title x is P h = absurd (cc)

pub only_bound : (x : CertificateLine) → keyword_of x ≡ key.Bound → (P : CertificateLine → Type 0)
    → ((bound : Bound) → P (line.Bound bound)) → P x
only_bound (line.Bound bound) is P h = h bound
only_bound x is P h = absurd (cc)

pub only_lists : (x : CertificateLine) → keyword_of x ≡ key.Lists → (P : CertificateLine → Type 0)
    → ((count : ℕ) → P (line.Lists count)) → P x
only_lists (line.Lists count) is P h = h count
only_lists x is P h = absurd (cc)

pub only_prices : (x : CertificateLine) → keyword_of x ≡ key.Prices
    → (P : CertificateLine → Type 0) → P line.Prices → P x
only_prices line.Prices is P h = h
only_prices x is P h = absurd (cc)

pub only_up : (x : CertificateLine) → keyword_of x ≡ key.Up → (P : CertificateLine → Type 0)
    → ((c : ℕ) (t : ℕ) (v : ℕ) → P (line.Up c t v)) → P x
only_up (line.Up c t v) is P h = h c t v
only_up x is P h = absurd (cc)

pub only_lo : (x : CertificateLine) → keyword_of x ≡ key.Lo → (P : CertificateLine → Type 0)
    → ((c : ℕ) (t : ℕ) (v : ℕ) → P (line.Lo c t v)) → P x
only_lo (line.Lo c t v) is P h = h c t v
only_lo x is P h = absurd (cc)

pub only_tail : (x : CertificateLine) → keyword_of x ≡ key.Tail → (P : CertificateLine → Type 0)
    → ((t : ℕ) (weight : ℕ) (places : List ℕ) → P (line.Tail t weight places)) → P x
only_tail (line.Tail t weight places) is P h = h t weight places
only_tail x is P h = absurd (cc)

pub only_ex : (x : CertificateLine) → keyword_of x ≡ key.Ex → (P : CertificateLine → Type 0)
    → ((e : ℕ) (t : ℕ) (v : ℕ) → P (line.Ex e t v)) → P x
only_ex (line.Ex e t v) is P h = h e t v
only_ex x is P h = absurd (cc)

pub only_tree : (x : CertificateLine) → keyword_of x ≡ key.Tree → (P : CertificateLine → Type 0) → P line.Tree → P x
only_tree line.Tree is P h = h
only_tree x is P h = absurd (cc)

pub only_split : (x : CertificateLine) → keyword_of x ≡ key.Split → (P : CertificateLine → Type 0)
    → ((i : ℕ) (last : ℕ) → P (line.Split i last)) → P x
only_split (line.Split i last) is P h = h i last
only_split x is P h = absurd (cc)

pub only_cost : (x : CertificateLine) → keyword_of x ≡ key.Cost → (P : CertificateLine → Type 0)
    → ((list : ℕ) → P (line.Cost list)) → P x
only_cost (line.Cost list) is P h = h list
only_cost x is P h = absurd (cc)

pub only_point : (x : CertificateLine) → keyword_of x ≡ key.Point → (P : CertificateLine → Type 0) → P line.Point → P x
only_point line.Point is P h = h
only_point x is P h = absurd (cc)

pub only_band : (x : CertificateLine) → keyword_of x ≡ key.Band → (P : CertificateLine → Type 0)
    → ((c : ℕ) (t : ℕ) (side : Side) → P (line.Band c t side)) → P x
only_band (line.Band c t side) is P h = h c t side
only_band x is P h = absurd (cc)

pub only_excl : (x : CertificateLine) → keyword_of x ≡ key.Excl → (P : CertificateLine → Type 0)
    → ((e : ℕ) → P (line.Excl e)) → P x
only_excl (line.Excl e) is P h = h e
only_excl x is P h = absurd (cc)

pub only_empty : (x : CertificateLine) → keyword_of x ≡ key.Empty → (P : CertificateLine → Type 0)
    → ((i : ℕ) → P (line.Empty i)) → P x
only_empty (line.Empty i) is P h = h i
only_empty x is P h = absurd (cc)

-- two numbers and what follows them
pub pair_pieces : (n m : ℕ) (end : List ℕ) → words (n ∷ m ∷ []) ++ end ≡ word n ++ (word m ++ end)
pair_pieces n m end = append_assoc (word n) (word m ++ []) end ∙ ap (λ xs. word n ++ xs) (append_assoc (word m) [] end)

pub side_break : (side : Side) → IsBreak (side_text side)
side_break Over = refl
side_break Under = refl

-- a text that spells a line is cut into its keyword and what follows it
pub line_cut : (line : CertificateLine) (text first rest : List ℕ) → text ≡ first ++ rest → All (λ b. b ≢ 32) first
    → IsBreak rest → text ≡ spelling line → (first ≡ keyword_text (keyword_of line)) × (rest ≡ operands line)
line_cut line text first rest cut whole b e =
    cut_behind first rest (keyword_text (keyword_of line)) (operands line) whole (keyword_whole (keyword_of line)) b
    (operands_break line) (sym cut ∙ e ∙ spelled line)
