-- A line that is written by pieces.
use Rattle.std.proofs.Common.{◌≡◌, ℕ, List, [], ◌∷◌, ◌++◌, codes, decimal, sym, ◌∙◌, ap, append_assoc}
use Rattle.plan_moves.specs.declared.change.Change.{Change}
use Rattle.plan_moves.specs.declared.change.Change.TheVariants.{Move, Swap}
use Rattle.move_script.specs.Spelling.{words_text, name_at, change_text}

-- a line of two words, piece by piece
pub words_line : (verb first second : List ℕ)
    → words_text verb first second ++ 10 ∷ [] ≡ verb ++ (first ++ (32 ∷ (second ++ 10 ∷ [])))
words_line verb first second =
    append_assoc verb (first ++ 32 ∷ second) (10 ∷ [])
    ∙ ap (λ xs. verb ++ xs) (append_assoc first (32 ∷ second) (10 ∷ []))

-- the words of a move, and of an exchange, are its line
pub move_words : (names : List (List ℕ)) (change : Change) (i s : ℕ) (name digits : List ℕ) → change ≡ Move i s
    → name_at names i ≡ name → digits ≡ decimal s → words_text (codes "move ") name digits ++ 10 ∷ []
    ≡ change_text names change
move_words names change i s name digits e f g =
    ap (λ x. words_text (codes "move ") name x ++ 10 ∷ []) g
    ∙ ap (λ x. words_text (codes "move ") x (decimal s) ++ 10 ∷ []) (sym f)
    ∙ ap (change_text names) (sym e)

pub swap_words : (names : List (List ℕ)) (change : Change) (i j : ℕ) (name other : List ℕ) → change ≡ Swap i j
    → name_at names i ≡ name → name_at names j ≡ other → words_text (codes "swap ") name other ++ 10 ∷ []
    ≡ change_text names change
swap_words names change i j name other e f g =
    ap (λ x. words_text (codes "swap ") name x ++ 10 ∷ []) (sym g)
    ∙ ap (λ x. words_text (codes "swap ") x (name_at names j) ++ 10 ∷ []) (sym f)
    ∙ ap (change_text names) (sym e)
