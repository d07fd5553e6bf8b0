-- Lists that are changed at one place: what is written back restores the list,
-- and the number that is written decides it.
use Rattle.std.proofs.Common.{◌≡◌, ℕ, ◌+◌, ◌-◌, ◌*◌, ◌<◌, ◌≤◌, refl, sym, ◌∙◌, ap, arith, List, [], ◌∷◌, length, get_or}
use Rattle.std.proofs.Common.{set, Bool, true, false, cond, eqb, ◌&&◌, Option, None, sum, sum_by}
use Rattle.std.proofs.lemmas.Bool.Decides.{nat_tests}
use Rattle.std.proofs.lemmas.List.Sums.{sum_by-set, sum_by-cons}
use Rattle.std.proofs.lemmas.List.{set-set, set-get_or}
use Rattle.std.proofs.lemmas.Nat.{mul-add-lt}
use Rattle.instance_model.specs.Tables.{Tables}
use Rattle.lagrange_bound.specs.declared.tail.Tail.{Tail}
use Rattle.lagrange_bound.specs.declared.ex_price.ExPrice.{ExPrice}
use Rattle.lagrange_bound.specs.Prices.{PriceList, IsPriceList, up_of, lo_of, tail_of, ex_of}
use Rattle.lagrange_bound.specs.Changes.{with_up, with_lo, with_tail, IsExSet, IsBandPlace}
use Rattle.lagrange_bound.specs.Worth.{ex_total, price_total}
use Rattle.lagrange_bound.proofs.LimitLemmas.{ex_total-sum_by}
use Rattle.price_ladder.specs.declared.place.Place.{Place}
use Rattle.price_ladder.specs.declared.place.Place.TheVariants.{Upper, Lower, Excluded}
use Rattle.price_ladder.specs.Places.{IsPlace, value_at, IsWithValue}
use Rattle.price_ladder.proofs.ExMaps.{ArePositive, Rising-from, ArePositive-from, same_prices, sum-changed}

-- ---- one place of the prices of exclusions

same_list : (p q : PriceList) → p.up ≡ q.up → p.lo ≡ q.lo → p.tails ≡ q.tails → p.ex ≡ q.ex → p ≡ q
same_list p q a b c d =
    ap (λ (xs : List ℕ). record p { up = xs }) a ∙ ap (λ (xs : List ℕ). record p { up = q.up; lo = xs }) b
    ∙ ap (λ (xs : List (Option Tail)). record p { up = q.up; lo = q.lo; tails = xs }) c
    ∙ ap (λ (xs : List ExPrice). record p { up = q.up; lo = q.lo; tails = q.tails; ex = xs }) d

same_ex : (inst : Tables) (p q : PriceList) → IsPriceList inst p → IsPriceList inst q
    → ((d u : ℕ) → ex_of p.ex d u ≡ ex_of q.ex d u) → p.ex ≡ q.ex
same_ex inst p q h k same =
    same_prices p.ex q.ex (Rising-from p.ex h.ex_ascend) (Rising-from q.ex k.ex_ascend)
    (ArePositive-from inst p.ex h.ex) (ArePositive-from inst q.ex k.ex) same

ex_set_same : (inst : Tables) (old p q : PriceList) (e t v : ℕ) → IsPriceList inst p → IsPriceList inst q
    → IsExSet old p e t v → IsExSet old q e t v → p ≡ q
ex_set_same inst old p q e t v h k a b =
    same_list p q (a.up ∙ sym b.up) (a.lo ∙ sym b.lo) (a.tails ∙ sym b.tails)
    (same_ex inst p q h k (λ d u. a.ex d u ∙ sym (b.ex d u)))

ex_set_back : (inst : Tables) (old mid new : PriceList) (e t v : ℕ) → IsPriceList inst old → IsPriceList inst new
    → IsExSet old mid e t v → IsExSet mid new e t (ex_of old.ex e t) → new ≡ old
ex_set_back inst old mid new e t v h k a b =
    same_list new old (b.up ∙ a.up) (b.lo ∙ a.lo) (b.tails ∙ a.tails)
    (same_ex inst new old k h (λ d u. b.ex d u ∙ ap (cond (eqb d e && eqb u t) (ex_of old.ex e t)) (a.ex d u)
    ∙ read d u (eqb d e && eqb u t) refl))
  where
    read : (d u : ℕ) (r : Bool) → eqb d e && eqb u t ≡ r
        → cond r (ex_of old.ex e t) (cond r v (ex_of old.ex d u)) ≡ ex_of old.ex d u
    read d u true q =
        let x : d ≡ e = grind (arith, nat_tests) in
        let y : u ≡ t = grind (arith, nat_tests) in
        rw (x, y) refl
    read d u false q = refl

-- ---- one place of a list

back_at : {A : Type 0} (xs : List A) (k : ℕ) (v d : A) → set (set xs k v) k (get_or xs k d) ≡ xs
back_at xs k v d = set-set xs k v (get_or xs k d) ∙ set-get_or xs k d

pub value_same : (inst : Tables) (old p q : PriceList) (place : Place) (v : ℕ) → IsPriceList inst p → IsPriceList inst q
    → IsWithValue inst old p place v → IsWithValue inst old q place v → p ≡ q
value_same inst old p q (Upper c t) v h k a b = a ∙ sym b
value_same inst old p q (Lower c t) v h k a b = a ∙ sym b
value_same inst old p q (Excluded e t) v h k a b = ex_set_same inst old p q e t v h k a b

pub value_back : (inst : Tables) (old mid new : PriceList) (place : Place) (v : ℕ) → IsPriceList inst old
    → IsPriceList inst new → IsWithValue inst old mid place v
    → IsWithValue inst mid new place (value_at inst old place) → new ≡ old
value_back inst old mid new (Upper c t) v h k a b =
    b ∙ ap (λ (p : PriceList). with_up inst p c t (up_of inst old c t)) a
    ∙ ap (λ (xs : List ℕ). record old { up = xs }) (back_at old.up (c * inst.periods + (t - 1)) v 0)
value_back inst old mid new (Lower c t) v h k a b =
    b ∙ ap (λ (p : PriceList). with_lo inst p c t (lo_of inst old c t)) a
    ∙ ap (λ (xs : List ℕ). record old { lo = xs }) (back_at old.lo (c * inst.periods + (t - 1)) v 0)
value_back inst old mid new (Excluded e t) v h k a b = ex_set_back inst old mid new e t v h k a b

pub tail_back : (old mid new : PriceList) (t : ℕ) (tail : Option Tail) → mid ≡ with_tail old t tail
    → new ≡ with_tail mid t (tail_of old t) → new ≡ old
tail_back old mid new t tail a b =
    b ∙ ap (λ (p : PriceList). with_tail p t (tail_of old t)) a
    ∙ ap (λ (xs : List (Option Tail)). record old { tails = xs }) (back_at old.tails (t - 1) tail None)

-- ---- sums over a list

pub band_within : (inst : Tables) (c t n : ℕ) → IsBandPlace inst c t → n ≡ length inst.resource_names * inst.periods
    → c * inst.periods + (t - 1) < n
band_within inst c t n h e = omega
    (arith, e, mul-add-lt c inst.periods (t - 1) (length inst.resource_names) h.resource (omega (arith, h.from, h.to)))

sum-set : (xs : List ℕ) (k v : ℕ) → k < length xs → sum (set xs k v) + get_or xs k 0 ≡ sum xs + v
sum-set xs k v l = sum_by-set (λ x. x) xs k v 0 l

ex_count : (xs : List ExPrice) → ArePositive xs → sum_by (λ x. cond (eqb x.value 0) 0 1) xs ≡ length xs
ex_count [] h = refl
ex_count (x ∷ xs) h = at (eqb x.value 0) refl (sum_by-cons (λ y. cond (eqb y.value 0) 0 1) x xs) (ex_count xs h.1)
  where
    at : (b : Bool) → eqb x.value 0 ≡ b → sum_by (λ y. cond (eqb y.value 0) 0 1) (x ∷ xs)
        ≡ cond b 0 1 + sum_by (λ y. cond (eqb y.value 0) 0 1) xs → sum_by (λ y. cond (eqb y.value 0) 0 1) xs ≡ length xs
        → sum_by (λ y. cond (eqb y.value 0) 0 1) (x ∷ xs) ≡ length (x ∷ xs)
    at true q s k = absurd (grind (arith, nat_tests, h.0))
    at false q s k = omega (arith, s, k)

-- the sum of all numbers, and how many prices of exclusions aren't 0, where the number at a place goes from u to v
pub record IsMoved (old new : PriceList) (u v : ℕ) : Type 0 where
  pub total : price_total new + u ≡ price_total old + v
  pub few : length new.ex ≤ length old.ex + 1

ex_moved : (inst : Tables) (old new : PriceList) (e t v : ℕ) → IsPriceList inst old → IsPriceList inst new
    → IsExSet old new e t v → IsMoved old new (ex_of old.ex e t) v
unfolding price_total
ex_moved inst old new e t v h k a =
    let rise = Rising-from old.ex h.ex_ascend in
    let rise' = Rising-from new.ex k.ex_ascend in
    let some = ArePositive-from inst old.ex h.ex in
    let some' = ArePositive-from inst new.ex k.ex in
    let s = sum-changed (λ x. x.value) e t v old.ex new.ex rise rise' some some' refl a.ex in
    let n = sum-changed (λ x. cond (eqb x.value 0) 0 1) e t v old.ex new.ex rise rise' some some' refl a.ex in
    let one = at_most_one (eqb v 0) in
    record {
      total = omega (arith, s, ex_total-sum_by old.ex, ex_total-sum_by new.ex, ap sum a.up, ap sum a.lo);
      few = omega (arith, n, ex_count old.ex some, ex_count new.ex some', one);
    }
  where
    at_most_one : (b : Bool) → cond b 0 1 ≤ 1
    at_most_one true = omega arith
    at_most_one false = omega arith

pub value_moved : (inst : Tables) (old new : PriceList) (place : Place) (v : ℕ) → IsPriceList inst old
    → IsPriceList inst new → IsPlace inst place → IsWithValue inst old new place v
    → IsMoved old new (value_at inst old place) v
unfolding price_total
value_moved inst old new (Upper c t) v h k w a =
    let s = sum-set old.up (c * inst.periods + (t - 1)) v (band_within inst c t (length old.up) w h.up_each) in
    record {
      total = omega (
        arith,
        s,
        ap (λ (p : PriceList). sum p.up) a,
        ap (λ (p : PriceList). sum p.lo) a,
        ap
            (λ (p : PriceList). ex_total p.ex) a,
      );
      few = omega (arith, ap (λ (p : PriceList). length p.ex) a);
    }
value_moved inst old new (Lower c t) v h k w a =
    let s = sum-set old.lo (c * inst.periods + (t - 1)) v (band_within inst c t (length old.lo) w h.lo_each) in
    record {
      total = omega (
        arith,
        s,
        ap (λ (p : PriceList). sum p.up) a,
        ap (λ (p : PriceList). sum p.lo) a,
        ap
            (λ (p : PriceList). ex_total p.ex) a,
      );
      few = omega (arith, ap (λ (p : PriceList). length p.ex) a);
    }
value_moved inst old new (Excluded e t) v h k w a = ex_moved inst old new e t v h k a

pub tail_moved : (old new : PriceList) (t : ℕ) (tail : Option Tail) → new ≡ with_tail old t tail → IsMoved old new 0 0
unfolding price_total
tail_moved old new t tail a = record {
  total = omega (
    arith,
    ap (λ (p : PriceList). sum p.up) a,
    ap (λ (p : PriceList). sum p.lo) a,
    ap
        (λ (p : PriceList). ex_total p.ex) a,
  );
  few = omega (arith, ap (λ (p : PriceList). length p.ex) a);
}
