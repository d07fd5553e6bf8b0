-- The keywords.
use Rattle.std.proofs.Common.{◌≡◌, ◌≢◌, ℕ, ◌<◌, ◌≤◌, cond, List, [], ◌∷◌, slice_index_or, refl, sym, ◌∙◌, ap, arith}
use Rattle.std.proofs.Common.{rules}
use Rattle.std.specs.List.{All}
use Rattle.std.specs.Str.{bytes_eq}
use Rattle.std.proofs.lemmas.List.Elements.{All-from_recursion, All-weaker}
use Rattle.certificate_lines.specs.declared.keyword.Keyword.{Keyword}
use Rattle.certificate_lines.specs.declared.keyword.Keyword.TheVariants.{Title, Bound, Lists, Prices, Up, Lo, Tail, Ex}
use Rattle.certificate_lines.specs.declared.keyword.Keyword.TheVariants.{Tree, Split, Cost, Point, Band, Excl, Empty}
use Rattle.certificate_lines.specs.Steps.{keyword_text}

-- every keyword, in order
abbrev pub all_keywords : List Keyword
all_keywords =
    Title ∷ Bound ∷ Lists ∷ Prices ∷ Up ∷ Lo ∷ Tail ∷ Ex ∷ Tree ∷ Split ∷ Cost ∷ Point ∷ Band ∷ Excl ∷ Empty ∷ []

-- its place among them
abbrev pub place_of : Keyword → ℕ
place_of Title = 0
place_of Bound = 1
place_of Lists = 2
place_of Prices = 3
place_of Up = 4
place_of Lo = 5
place_of Tail = 6
place_of Ex = 7
place_of Tree = 8
place_of Split = 9
place_of Cost = 10
place_of Point = 11
place_of Band = 12
place_of Excl = 13
place_of Empty = 14

pub at_place : (keyword : Keyword) → (place_of keyword < 15)
    × (slice_index_or all_keywords (place_of keyword) Title ≡ keyword)
at_place Title = (omega arith, refl)
at_place Bound = (omega arith, refl)
at_place Lists = (omega arith, refl)
at_place Prices = (omega arith, refl)
at_place Up = (omega arith, refl)
at_place Lo = (omega arith, refl)
at_place Tail = (omega arith, refl)
at_place Ex = (omega arith, refl)
at_place Tree = (omega arith, refl)
at_place Split = (omega arith, refl)
at_place Cost = (omega arith, refl)
at_place Point = (omega arith, refl)
at_place Band = (omega arith, refl)
at_place Excl = (omega arith, refl)
at_place Empty = (omega arith, refl)

-- the keyword that has these bytes
abbrev by_bytes : List ℕ → Keyword
by_bytes bytes = cond (bytes_eq bytes (keyword_text Bound)) Bound
    (cond (bytes_eq bytes (keyword_text Lists)) Lists
    (cond (bytes_eq bytes (keyword_text Prices)) Prices
    (cond (bytes_eq bytes (keyword_text Up)) Up
    (cond (bytes_eq bytes (keyword_text Lo)) Lo
    (cond (bytes_eq bytes (keyword_text Tail)) Tail
    (cond (bytes_eq bytes (keyword_text Ex)) Ex
    (cond (bytes_eq bytes (keyword_text Tree)) Tree
    (cond (bytes_eq bytes (keyword_text Split)) Split
    (cond (bytes_eq bytes (keyword_text Cost)) Cost
    (cond (bytes_eq bytes (keyword_text Point)) Point
    (cond (bytes_eq bytes (keyword_text Band)) Band
    (cond (bytes_eq bytes (keyword_text Excl)) Excl (cond (bytes_eq bytes (keyword_text Empty)) Empty Title)))))))))))))

by_its_bytes : (keyword : Keyword) → by_bytes (keyword_text keyword) ≡ keyword
by_its_bytes Title = refl
by_its_bytes Bound = refl
by_its_bytes Lists = refl
by_its_bytes Prices = refl
by_its_bytes Up = refl
by_its_bytes Lo = refl
by_its_bytes Tail = refl
by_its_bytes Ex = refl
by_its_bytes Tree = refl
by_its_bytes Split = refl
by_its_bytes Cost = refl
by_its_bytes Point = refl
by_its_bytes Band = refl
by_its_bytes Excl = refl
by_its_bytes Empty = refl

-- no two keywords have the same bytes
pub keyword_once : (a b : Keyword) → keyword_text a ≡ keyword_text b → a ≡ b
keyword_once a b e = sym (by_its_bytes a) ∙ ap by_bytes e ∙ by_its_bytes b

-- a keyword has letters alone
pub keyword_letters : (keyword : Keyword) → All (λ b. 97 ≤ b) (keyword_text keyword)
keyword_letters Title = All-from_recursion (λ b. 97 ≤ b) (keyword_text Title) (search rules)
keyword_letters Bound = All-from_recursion (λ b. 97 ≤ b) (keyword_text Bound) (search rules)
keyword_letters Lists = All-from_recursion (λ b. 97 ≤ b) (keyword_text Lists) (search rules)
keyword_letters Prices = All-from_recursion (λ b. 97 ≤ b) (keyword_text Prices) (search rules)
keyword_letters Up = All-from_recursion (λ b. 97 ≤ b) (keyword_text Up) (search rules)
keyword_letters Lo = All-from_recursion (λ b. 97 ≤ b) (keyword_text Lo) (search rules)
keyword_letters Tail = All-from_recursion (λ b. 97 ≤ b) (keyword_text Tail) (search rules)
keyword_letters Ex = All-from_recursion (λ b. 97 ≤ b) (keyword_text Ex) (search rules)
keyword_letters Tree = All-from_recursion (λ b. 97 ≤ b) (keyword_text Tree) (search rules)
keyword_letters Split = All-from_recursion (λ b. 97 ≤ b) (keyword_text Split) (search rules)
keyword_letters Cost = All-from_recursion (λ b. 97 ≤ b) (keyword_text Cost) (search rules)
keyword_letters Point = All-from_recursion (λ b. 97 ≤ b) (keyword_text Point) (search rules)
keyword_letters Band = All-from_recursion (λ b. 97 ≤ b) (keyword_text Band) (search rules)
keyword_letters Excl = All-from_recursion (λ b. 97 ≤ b) (keyword_text Excl) (search rules)
keyword_letters Empty = All-from_recursion (λ b. 97 ≤ b) (keyword_text Empty) (search rules)

pub keyword_whole : (keyword : Keyword) → All (λ b. b ≢ 32) (keyword_text keyword)
keyword_whole keyword = All-weaker (λ b. 97 ≤ b) (λ b. b ≢ 32) (λ b h e. omega (arith, h, e)) (keyword_text keyword)
    (keyword_letters keyword)
