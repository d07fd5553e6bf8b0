-- Price lists in which one price of an exclusion is changed.
use Rattle.std.proofs.Common.{◌≡◌, ℕ, ◌≤◌, refl, sym, subst, arith, List, set, Bool, true, false, cond, eqb, ◌&&◌, not}
use Rattle.std.proofs.Common.{is_ok, Result, OnOk, Ok, Err, Option, ◌≢◌}
use Rattle.std.specs.List.{insert, remove}
use Rattle.std.proofs.lemmas.Bool.Decides.{nat_tests}
use Rattle.std.proofs.lemmas.List.Quantifiers.{all_pairs_remove}
use Rattle.instance_model.specs.Tables.{Tables}
use Rattle.lagrange_bound.specs.declared.ex_price.ExPrice.{ExPrice}
use Rattle.lagrange_bound.specs.declared.tail.Tail.{Tail}
use Rattle.lagrange_bound.specs.Prices.{PriceList, IsPriceList, IsExPrice, ExBefore, ex_of}
use Rattle.lagrange_bound.specs.Changes.{IsExSet, IsExPlace}
use Rattle.lagrange_bound.specs.ExLists.{StandsAt, BelongsAt}
use Rattle.lagrange_bound.proofs.ExListLemmas.{ex_of-insert, ex_of-set, ex_of-remove, stands_is, none_below_found}
use Rattle.lagrange_bound.proofs.ExListLemmas.{none_above_found, none_below_missing, missing_value, ascends_insert}
use Rattle.lagrange_bound.proofs.ExListLemmas.{ascends_set, insert_each, set_each, remove_each, ex_in_range}

-- the price that is written
abbrev pub price_at : ℕ → ℕ → ℕ → ExPrice
price_at e t v = record { exclusion = e; period = t; value = v }

price_at_place : (inst : Tables) (e t v : ℕ) → IsExPlace inst e t → v ≢ 0 → v ≤ 1_000_000_000
    → IsExPrice inst (price_at e t v)
price_at_place inst e t v h some small = record {
  number = h.number;
  from = h.from;
  to = h.to;
  season = h.season;
  some = omega arith;
  small = small;
}

-- the changed list is in range, and has the new price
pub record IsExChange (inst : Tables) (old : PriceList) (ex : List ExPrice) (e t v : ℕ) : Type 0 where
  pub changed : IsExSet old (record old { ex = ex }) e t v
  pub in_range : IsPriceList inst (record old { ex = ex })

pub ex_replaced : (inst : Tables) (old : PriceList) (ex : List ExPrice) (e t v k : ℕ) → IsPriceList inst old
    → IsExPlace inst e t → v ≤ 1_000_000_000 → StandsAt old.ex e t k
    → ex ≡ cond (eqb v 0) (remove old.ex k) (set old.ex k (price_at e t v)) → IsExChange inst old ex e t v
ex_replaced inst old ex e t v k h place small at is = by (eqb v 0) refl
  where
    d : ExPrice
    d = price_at 0 0 0

    by : (b : Bool) → eqb v 0 ≡ b → IsExChange inst old ex e t v
    by true q =
        let none : v ≡ 0 = grind (arith, nat_tests) in
        let new : ex ≡ remove old.ex k = rw q at is in
        subst (λ (xs : List ExPrice). IsExChange inst old xs e t v) (sym new)
        (subst (λ (n : ℕ). IsExChange inst old (remove old.ex k) e t n) (sym none) (record {
          changed = record {
            up = refl;
            lo = refl;
            tails = refl;
            ex = λ f u. ex_of-remove old.ex k e t f u d at.within
                (stands_is old.ex e t k d at) (none_below_found old.ex e t k h.ex_ascend at)
                (none_above_found old.ex e t k h.ex_ascend at);
          };
          in_range = ex_in_range inst old (remove old.ex k) h (remove_each inst old.ex k h.ex)
              (all_pairs_remove ExBefore old.ex k at.within h.ex_ascend);
        }))
    by false q =
        let some : v ≢ 0 = grind (arith, nat_tests) in
        let new : ex ≡ set old.ex k (price_at e t v) = rw q at is in
        subst (λ (xs : List ExPrice). IsExChange inst old xs e t v) (sym new) (record {
          changed = record {
            up = refl;
            lo = refl;
            tails = refl;
            ex = λ f u. ex_of-set old.ex k v e t f u d at.within
                (stands_is old.ex e t k d at) (none_below_found old.ex e t k h.ex_ascend at);
          };
          in_range = ex_in_range inst old (set old.ex k (price_at e t v)) h
              (set_each inst old.ex k (price_at e t v) h.ex (price_at_place inst e t v place some small))
              (ascends_set old.ex e t v k h.ex_ascend at);
        })

-- nothing changes where there is no price and none is set
unset : (xs : List ExPrice) (e t k f u : ℕ) → BelongsAt xs e t k
    → ex_of xs f u ≡ cond (eqb f e && eqb u t) 0 (ex_of xs f u)
unset xs e t k f u at = by (eqb f e && eqb u t) refl
  where
    by : (b : Bool) → eqb f e && eqb u t ≡ b → ex_of xs f u ≡ cond (eqb f e && eqb u t) 0 (ex_of xs f u)
    by true q =
        let a : f ≡ e = grind (arith, nat_tests) in
        let b : u ≡ t = grind (arith, nat_tests) in
        rw q (rw (a, b) (sym (missing_value xs e t k at)))
    by false q = rw q refl

pub ex_inserted : (inst : Tables) (old : PriceList) (ex : List ExPrice) (e t v k : ℕ) → IsPriceList inst old
    → IsExPlace inst e t → v ≤ 1_000_000_000 → BelongsAt old.ex e t k
    → ex ≡ cond (not (eqb v 0)) (insert old.ex k (price_at e t v)) old.ex → IsExChange inst old ex e t v
ex_inserted inst old ex e t v k h place small at is = by (eqb v 0) refl
  where
    by : (b : Bool) → eqb v 0 ≡ b → IsExChange inst old ex e t v
    by true q =
        let none : v ≡ 0 = grind (arith, nat_tests) in
        let new : ex ≡ old.ex = rw q at is in
        subst (λ (xs : List ExPrice). IsExChange inst old xs e t v) (sym new)
        (subst (λ (n : ℕ). IsExChange inst old old.ex e t n) (sym none) (record {
          changed = record { up = refl; lo = refl; tails = refl; ex = λ f u. unset old.ex e t k f u at };
          in_range = ex_in_range inst old old.ex h h.ex h.ex_ascend;
        }))
    by false q =
        let some : v ≢ 0 = grind (arith, nat_tests) in
        let new : ex ≡ insert old.ex k (price_at e t v) = rw q at is in
        subst (λ (xs : List ExPrice). IsExChange inst old xs e t v) (sym new) (record {
          changed = record {
            up = refl;
            lo = refl;
            tails = refl;
            ex = λ f u. ex_of-insert old.ex k v e t f u (none_below_missing old.ex e t k at);
          };
          in_range = ex_in_range inst old (insert old.ex k (price_at e t v)) h
              (insert_each inst old.ex k (price_at e t v) h.ex (price_at_place inst e t v place some small))
              (ascends_insert old.ex e t v k h.ex_ascend at);
        })

-- ---- over the fields as the code has them

-- the fields are those of a list
abbrev pub list_from : List ℕ → List ℕ → List (Option Tail) → List ExPrice → PriceList
list_from up lo tails ex = record { up = up; lo = lo; tails = tails; ex = ex }

pub changed_from : (inst : Tables) (old : PriceList) (up lo : List ℕ) (tails : List (Option Tail))
    (ex new : List ExPrice) (e t v : ℕ) → list_from up lo tails ex ≡ old
    → IsExChange inst (list_from up lo tails ex) new e t v → (IsExSet old (list_from up lo tails new) e t v)
    × (IsPriceList inst (list_from up lo tails new))
changed_from inst old up lo tails ex new e t v is h =
    (subst (λ (p : PriceList). IsExSet p (list_from up lo tails new) e t v) is h.changed, h.in_range)

pub on_ok : {X E : Type 0} (r : Result X E) (P : Type 0) → (is_ok r ≡ true → P) → OnOk r P
on_ok (Ok x) P h = h refl
on_ok (Err x) P h = tt

pub inserted_where : (b c : Bool) (xs ys zs : List ExPrice) → b ≡ true → xs ≡ cond (b && c) ys zs → xs ≡ cond c ys zs
inserted_where b c xs ys zs h e = rw h at e
