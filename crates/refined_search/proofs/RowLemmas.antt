-- Two tables row by row.
use Rattle.std.proofs.Common.{◌≡◌, ℕ, ◌+◌, ◌<◌, ◌≤◌, ◌⊎◌, inl, inr, sym, ◌∙◌, ap, subst, arith, ℤ, List, [], length, get_or}
use Rattle.std.proofs.Common.{refl, map, Option, Some, None, Vec}
use Rattle.std.specs.Bool.{Decides}
use Rattle.std.specs.Option.{option_eq}
use Rattle.std.specs.Ordering.{int_eq}
use Rattle.std.proofs.lemmas.Bool.{false≢true}
use Rattle.std.proofs.lemmas.Bool.Decides.{Decides-int_eq}
use Rattle.std.proofs.Math.Nat.{eq-or-lt_of_le}
use Rattle.std.specs.declared.alloc.Global.{Global}
use Rattle.std.proofs.lemmas.List.{length-map, get_or-map, same_lists}

-- whether two entries are the same
pub entries_decide : (a b : Option ℤ) → Decides (option_eq int_eq a b) (a ≡ b)
entries_decide None None = (λ t. refl, λ e. refl)
entries_decide None (Some y) = (λ t. absurd (false≢true t), λ e. absurd (cc))
entries_decide (Some x) None = (λ t. absurd (false≢true t), λ e. absurd (cc))
entries_decide (Some x) (Some y) = (
  λ t. ap (λ (z : ℤ). Some z) ((Decides-int_eq x y).0 t),
  λ e. (Decides-int_eq x y).1 (some_same x y e),
)
  where
    some_same : (x y : ℤ) → ◌≡◌ {A = Option ℤ} (Some x) (Some y) → x ≡ y
    some_same x y e = cc

-- the rows of a table as the code has it
abbrev pub Row : Type 0
Row = Vec (Option ℤ) Global

abbrev pub Rows : Type 0
Rows = List Row

abbrev pub items : Rows → List (List (Option ℤ))
items rows = map (λ (row : Row). row.items) rows

-- the first k rows are the same
abbrev pub AreSameTo : Rows → Rows → ℕ → Type 0
AreSameTo a b k = (j : ℕ) (d : List (Option ℤ)) → j < k → get_or (items a) j d ≡ get_or (items b) j d

-- one of them
row_at : (rows : Rows) (k : ℕ) (x : Row) (d : List (Option ℤ)) → k < length rows → x ≡ get_or rows k x
    → get_or (items rows) k d ≡ x.items
row_at rows k x d l is =
    get_or-map (λ (row : Row). row.items) rows k x d l ∙ ap (λ (row : Row). row.items) (sym is)

module _ (a b : Rows) (k : ℕ) (x y : Row) (l : k < length a) (each : length a ≡ length b) (at_a : x ≡ get_or a k x)
    (at_b : y ≡ get_or b k y) where
  pub rows_more : x.items ≡ y.items → AreSameTo a b k → AreSameTo a b (k + 1)
  rows_more same h j d m = at (eq-or-lt_of_le n)
    where
      n : j ≤ k
      n = omega (arith, m)

      at : (j ≡ k) ⊎ (j < k) → get_or (items a) j d ≡ get_or (items b) j d
      at (inl e) = subst (λ (i : ℕ). get_or (items a) i d ≡ get_or (items b) i d) (sym e)
          (row_at a k x d l at_a ∙ same ∙ sym (row_at b k y d (omega (arith, l, each)) at_b))
      at (inr p) = h j d p

  pub row_same : items a ≡ items b → x.items ≡ y.items
  row_same e =
      sym (row_at a k x [] l at_a) ∙ ap (λ (rows : List (List (Option ℤ))). get_or rows k []) e
      ∙ row_at b k y [] (omega (arith, l, each)) at_b

-- all of them
pub same_rows : (a b : Rows) (k : ℕ) → length a ≡ length b → length a ≤ k → AreSameTo a b k → items a ≡ items b
same_rows a b k each all h =
    same_lists (items a) (items b)
    (length-map a (λ (row : Row). row.items) ∙ each ∙ sym (length-map b (λ (row : Row). row.items)))
    (λ j d l. h j d (omega (arith, l, all, length-map a (λ (row : Row). row.items))))
