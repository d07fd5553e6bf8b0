-- The lines of a plan, one behind another.
use Rattle.std.proofs.Common.{◌≡◌, ℕ, zero, suc, ◌+◌, ◌<◌, List, [], ◌∷◌, ◌++◌, length, take, drop, slice_index}
use Rattle.std.proofs.Common.{slice_index_or, decimal, refl, sym, ◌∙◌, ap, arith, add-one}
use Rattle.std.proofs.lemmas.List.{append_assoc, append-nil}
use Rattle.plan_text.specs.Spelling.{line_text, plan_text}

-- the pieces of a line
pub line_pieces : (name digits : List ℕ) (start : ℕ) → digits ≡ decimal start
    → name ++ (32 ∷ (digits ++ 10 ∷ [])) ≡ line_text name start
line_pieces name digits start e =
    sym (append_assoc name (32 ∷ []) (digits ++ 10 ∷ []))
    ∙ sym (append_assoc (name ++ (32 ∷ [])) digits (10 ∷ []))
    ∙ ap (λ xs. (name ++ (32 ∷ []) ++ xs) ++ 10 ∷ []) e

-- no start is written for no start
pub plan_text-none : (names : List (List ℕ)) → plan_text names [] ≡ []
plan_text-none [] = refl
plan_text-none (name ∷ names) = refl

-- one start more is one line more
plan_text-more : (names : List (List ℕ)) (starts : List ℕ) (n : ℕ) → n < length names → n < length starts
    → plan_text names (take (suc n) starts) ≡ plan_text names (take n starts)
    ++ line_text (slice_index_or names n []) (slice_index starts n)
plan_text-more [] starts n l k = absurd (omega (arith, l))
plan_text-more (name ∷ names) [] n l k = absurd (omega (arith, k))
plan_text-more (name ∷ names) (start ∷ starts) zero l k =
    ap (λ xs. line_text name start ++ xs) (plan_text-none names) ∙ append-nil (line_text name start)
plan_text-more (name ∷ names) (start ∷ starts) (suc n) l k =
    ap (λ xs. line_text name start ++ xs) (plan_text-more names starts n (omega (arith, l)) (omega (arith, k)))
    ∙ sym (append_assoc (line_text name start) (plan_text names (take n starts))
    (line_text (slice_index_or names n []) (slice_index starts n)))

-- the text of all starts begins with that of the first
plan_text-split : (names : List (List ℕ)) (starts : List ℕ) (n : ℕ)
    → plan_text names starts ≡ plan_text names (take n starts) ++ plan_text (drop n names) (drop n starts)
plan_text-split names starts zero = ap (λ xs. xs ++ plan_text names starts) (sym (plan_text-none names))
plan_text-split [] starts (suc n) = refl
plan_text-split (name ∷ names) [] (suc n) = sym (plan_text-none (drop n names))
plan_text-split (name ∷ names) (start ∷ starts) (suc n) =
    ap (λ xs. line_text name start ++ xs) (plan_text-split names starts n)
    ∙ sym (append_assoc (line_text name start) (plan_text names (take n starts))
    (plan_text (drop n names) (drop n starts)))

-- the lines up to one, that one, and the rest
module _ (names : List (List ℕ)) (starts : List ℕ) (n : ℕ) (name : List ℕ) (low : n < length names)
    (fits : n < length starts) (named : slice_index_or names n [] ≡ name) where
  pub line_more : plan_text names (take (n + 1) starts) ≡ plan_text names (take n starts)
      ++ line_text name (slice_index starts n)
  line_more =
      ap (λ m. plan_text names (take m starts)) (add-one n)
      ∙ plan_text-more names starts n low fits
      ∙ ap (λ x. plan_text names (take n starts) ++ line_text x (slice_index starts n)) named

  pub line_rest : plan_text names starts ≡ plan_text names (take n starts)
      ++ (line_text name (slice_index starts n) ++ plan_text (drop (n + 1) names) (drop (n + 1) starts))
  line_rest =
      plan_text-split names starts (n + 1)
      ∙ ap (λ xs. xs ++ plan_text (drop (n + 1) names) (drop (n + 1) starts)) line_more
      ∙ append_assoc (plan_text names (take n starts)) (line_text name (slice_index starts n))
      (plan_text (drop (n + 1) names) (drop (n + 1) starts))
