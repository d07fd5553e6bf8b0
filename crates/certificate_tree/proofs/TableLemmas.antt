-- Tables of the price lists of a tree, one after another.
use Rattle.std.proofs.Common.{◌≡◌, ℕ, ◌+◌, ◌<◌, ◌⊎◌, inl, inr, refl, sym, ◌∙◌, ap, subst, arith, pos, List, []}
use Rattle.std.proofs.Common.{◌∷◌, ◌++◌, length, get_or, add-one}
use Rattle.std.proofs.Math.Nat.{eq-or-lt_of_le}
use Rattle.std.proofs.lemmas.List.{get_or_default, get_or_push, get_or_append_left, length_push}
use Rattle.std.proofs.lemmas.List.Elements.{All-nil, All-push}
use Rattle.instance_model.specs.Tables.{Tables}
use Rattle.lagrange_bound.specs.declared.span.Span.{Span}
use Rattle.lagrange_bound.specs.Prices.{PriceList, zero_list}
use Rattle.lagrange_bound.specs.Goals.{Bases}
use Rattle.lagrange_bound.specs.Boxes.{IsBox, HasStarts}
use Rattle.lagrange_bound.specs.Worth.{worth_of}
use Rattle.lagrange_bound.specs.Tabulated.{PriceRows, worth_in}
use Rattle.lagrange_bound.specs.PricedTables.{IsPricedTable}
use Rattle.certificate_tree.specs.Holding.{Worths, list_at, worth_by}
use Rattle.certificate_tree.specs.PriceTables.{AreTablesOf}

-- ---- price lists by number
pub list_zero : (inst : Tables) (lists : List PriceList) → list_at inst lists 0 ≡ zero_list inst
unfolding list_at
list_zero inst lists = refl

pub list_more : (inst : Tables) (lists : List PriceList) (k : ℕ) (prices : PriceList) → k < length lists
    → prices ≡ get_or lists k prices → prices ≡ list_at inst lists (k + 1)
unfolding list_at
list_more inst lists k prices l e = rw (add-one k) (e ∙ get_or_default lists k prices (zero_list inst) l)

-- ---- the table of a list
-- over each box with starts, the table gives the worth by list j
abbrev pub GivesWorths : Tables → Worths → ℕ → PriceRows → Type 0
GivesWorths inst worths j table = (box : List Span) → IsBox inst box → HasStarts inst box
    → worth_in table box ≡ worths box j

pub gives_by : (base : Bases) (inst : Tables) (lists : List PriceList) (j : ℕ) (prices : PriceList) (table : PriceRows)
    → prices ≡ list_at inst lists j
    → ((box : List Span) → IsBox inst box → HasStarts inst box
    → worth_in table box ≡ worth_of (base inst prices) inst prices box)
    → GivesWorths inst (worth_by base inst lists) j table
gives_by base inst lists j prices table e h box b s =
    h box b s ∙ ap (λ (p : PriceList). worth_of (base inst p) inst p box) e

-- ---- the table of list 0, and one more
pub first_table : (inst : Tables) (worths : Worths) (xs ys : List PriceRows) (x : PriceRows) → xs ≡ []
    → ys ≡ xs ++ x ∷ [] → IsPricedTable inst x → GivesWorths inst worths 0 x → AreTablesOf inst 0 worths ys
first_table inst worths xs ys x none e p g =
    let one : ys ≡ x ∷ [] = e ∙ ap (λ (zs : List PriceRows). zs ++ x ∷ []) none in
    subst (AreTablesOf inst 0 worths) (sym one)
    (record {
      each = omega arith;
      priced = All-push (IsPricedTable inst) [] x (All-nil (IsPricedTable inst)) p;
      same = λ box j l b s. let z : j ≡ 0 = omega (arith, l) in rw z (g box b s);
    })

pub next_table : (inst : Tables) (worths : Worths) (n : ℕ) (xs ys : List PriceRows) (x : PriceRows)
    → AreTablesOf inst n worths xs → ys ≡ xs ++ x ∷ [] → IsPricedTable inst x → GivesWorths inst worths (n + 1) x
    → AreTablesOf inst (n + 1) worths ys
next_table inst worths n xs ys x h e p g =
    subst (AreTablesOf inst (n + 1) worths) (sym e)
    (record {
      each = length_push xs x ∙ ap (λ (k : ℕ). k + 1) h.each;
      priced = All-push (IsPricedTable inst) xs x h.priced p;
      same = λ box j l b s. at box j b s (eq-or-lt_of_le l);
    })
  where
    none : PriceRows
    none = record { rows = []; fixed = pos 0 }

    at : (box : List Span) (j : ℕ) → IsBox inst box → HasStarts inst box → (j ≡ n + 1) ⊎ (j < n + 1)
        → worth_in (get_or (xs ++ x ∷ []) j none) box ≡ worths box j
    at box j b s (inl f) =
        ap (λ (t : PriceRows). worth_in t box) (get_or_push xs x none j (h.each ∙ sym f))
        ∙ g box b s ∙ ap (worths box) (sym f)
    at box j b s (inr l) =
        ap (λ (t : PriceRows). worth_in t box) (get_or_append_left xs (x ∷ []) none j (omega (arith, l, h.each)))
        ∙ h.same box j (omega (arith, l)) b s
