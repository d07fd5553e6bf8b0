-- A price list as a refined one: it is in range and gives the same prices and the same constant.
use Rattle.std.proofs.Common.{◌≡◌, ℕ, ◌+◌, ◌-◌, ◌*◌, ◌≤◌, refl, sym, ◌∙◌, ap, subst, arith, ℤ, pos, ◌+ℤ◌, ◌-ℤ◌}
use Rattle.std.proofs.Common.{◌*ℤ◌, List, [], length, map, cond, Option, Some, None, option_map}
use Rattle.std.proofs.lemmas.List.{length-map, get_or-map, get_or-replicate, length-replicate}
use borrow.Author.Differences.{up, down, same_in, product_is}
use Rattle.fixed_num.specs.Sums.{sum_below}
use Rattle.fixed_num.proofs.SignedLemmas.{signed_arith}
use Rattle.fixed_num.proofs.SumLemmas.{sum_below_same}
use Rattle.instance_model.specs.Naturals.{count_sum}
use Rattle.instance_model.specs.Tables.{Tables, scenarios_of, rank_of, in_run}
use Rattle.instance_model.specs.Plans.{load_at}
use Rattle.lagrange_bound.specs.declared.tail.Tail.{Tail}
use Rattle.lagrange_bound.specs.Prices.{PriceList, IsPriceList, IsTail, up_of, lo_of, tail_of}
use Rattle.lagrange_bound.specs.Goals.{risk_base}
use Rattle.lagrange_bound.specs.Bases.{term_of, base_of}
use Rattle.lagrange_bound.specs.Worth.{band_share, band_part, ex_part, price_of, fixed_part}
use Rattle.refined_prices.specs.declared.group_tail.GroupTail.{GroupTail}
use Rattle.refined_prices.specs.Groups.{IsGroupTail, greatest_below}
use Rattle.refined_prices.specs.Offsets.{group_tail_at, group_count, offset_of}
use Rattle.refined_prices.specs.GroupBases.{group_term_of, group_base_of, offset_most, offset_cost}
use Rattle.refined_prices.specs.Caps.{counted_load}
use Rattle.refined_prices.specs.Cliques.{clique_part, clique_total}
use Rattle.refined_prices.specs.RefinedLists.{IsRefinedList}
use Rattle.refined_prices.specs.RefinedWorth.{counted_share, counted_part, limit_part, limit_constant, refined_price}
use Rattle.refined_prices.specs.RefinedWorth.{refined_constant}
use Rattle.refined_prices.proofs.GroupSizes.{count_sum_within, greatest_below_within}
use Rattle.refined_check.specs.Singles.{singles_of, refined_of, PriceListsAreRefined}
use Rattle.refined_check.proofs.SingleTails.{IsGroupTail-singles, group_term_of-singles}

-- ---- in range

tail_is : (inst : Tables) (prices : PriceList) (t : ℕ) → length prices.tails ≡ inst.periods → 1 ≤ t → t ≤ inst.periods
    → group_tail_at (map (option_map singles_of) prices.tails) t ≡ option_map singles_of (tail_of prices t)
tail_is inst prices t each one few =
    get_or-map (option_map singles_of) prices.tails (t - 1) None None (omega (arith, each, one, few))

-- a price list in range stays so without its tails
without_tails : (inst : Tables) (prices : PriceList) → IsPriceList inst prices
    → IsPriceList inst (refined_of inst prices).prices
without_tails inst prices ok = record {
  up_each = ok.up_each;
  lo_each = ok.lo_each;
  up_small = ok.up_small;
  lo_small = ok.lo_small;
  tails_each = length-replicate inst.periods None;
  tails = λ t one few x e. absurd (let z : Option Tail = None in
      let w = get_or-replicate inst.periods (t - 1) z z (omega (arith, one, few)) in none_some x (sym w ∙ e));
  ex = ok.ex;
  ex_ascend = ok.ex_ascend;
}
  where
    none_some : (x : Tail) → None ≡ Some x → ⊥
    none_some x e = cc

refined_in_range : (inst : Tables) (prices : PriceList) → IsPriceList inst prices
    → IsRefinedList inst (refined_of inst prices)
refined_in_range inst prices ok =
    record {
      prices = without_tails inst prices ok;
      no_tails = refl;
      tails_each = length-map prices.tails (option_map singles_of) ∙ ok.tails_each;
      tails = λ t one few tail e. at t (tail_of prices t) tail (ok.tails t one few)
          (sym (tail_is inst prices t ok.tails_each one few) ∙ e);
      offsets = tt;
      offsets_ascend = λ i j d l m. absurd (omega (arith, m));
      few_cliques = omega arith;
      cliques = tt;
      cliques_ascend = λ i j d l m. absurd (omega (arith, m));
    }
  where
    same : (x y : GroupTail) → Some x ≡ Some y → x ≡ y
    same x y e = cc

    at : (t : ℕ) (o : Option Tail) (tail : GroupTail) → ((x : Tail) → o ≡ Some x → IsTail inst t x)
        → option_map singles_of o ≡ Some tail → IsGroupTail (scenarios_of inst t) (rank_of inst t) tail
    at t None tail h e = absurd (grind (arith, e))
    at t (Some x) tail h e =
        subst (IsGroupTail (scenarios_of inst t) (rank_of inst t)) (same (singles_of x) tail e)
        (IsGroupTail-singles inst t x (h x refl))

-- ---- the same prices

base_same : (inst : Tables) (prices : PriceList) (i s : ℕ) → IsPriceList inst prices
    → group_base_of inst (map (option_map singles_of) prices.tails) [] i s ≡ base_of inst (tail_of prices) i s
unfolding group_base_of base_of offset_of
base_same inst prices i s ok =
    sum_below_same inst.periods
    (λ u. cond (in_run inst i s (u + 1))
    (group_term_of inst (group_tail_at (map (option_map singles_of) prices.tails) (u + 1)) (λ g. 0) i s (u + 1))
    (pos 0))
    (λ u. cond (in_run inst i s (u + 1)) (term_of inst (tail_of prices (u + 1)) i s (u + 1)) (pos 0))
    (λ u l. ap (λ (z : ℤ). cond (in_run inst i s (u + 1)) z (pos 0))
    (ap (λ (o : Option GroupTail). group_term_of inst o (λ g. 0) i s (u + 1))
    (tail_is inst prices (u + 1) ok.tails_each (omega arith) (omega (arith, l)))
    ∙ group_term_of-singles inst (tail_of prices (u + 1)) i s (u + 1)))

-- a product of a difference
gap_times : (u v : ℕ) (z : ℤ) → (pos u *ℤ z) -ℤ (pos v *ℤ z) ≡ (pos u -ℤ pos v) *ℤ z
gap_times u v z =
    let s : up (pos u -ℤ pos v) + v ≡ down (pos u -ℤ pos v) + u = omega (arith, signed_arith) in
    let a = ap (λ (t : ℕ). t * up z) s in
    let b = ap (λ (t : ℕ). t * down z) s in
    let x = product_is (pos u -ℤ pos v) z in
    let y = product_is (pos u) z in
    let w = product_is (pos v) z in
    same_in (pos u *ℤ z -ℤ pos v *ℤ z) ((pos u -ℤ pos v) *ℤ z)
    (omega (arith, a, b, x, y, w, difference (pos u *ℤ z) (pos v *ℤ z)))
  where
    difference : (a b : ℤ) → up (a -ℤ b) + down a + up b ≡ down (a -ℤ b) + up a + down b
    difference a b = omega (arith, signed_arith)

bands_same : (inst : Tables) (prices : PriceList) (i s : ℕ)
    → counted_part inst (refined_of inst prices) i s ≡ band_part inst prices i s
unfolding counted_part band_part counted_load
bands_same inst prices i s =
    sum_below_same (length inst.resource_names)
    (λ c. sum_below inst.periods (λ u. counted_share inst (refined_of inst prices) i s c (u + 1)))
    (λ c. sum_below inst.periods (λ u. band_share inst prices i s c (u + 1)))
    (λ c l. sum_below_same inst.periods (λ u. counted_share inst (refined_of inst prices) i s c (u + 1))
    (λ u. band_share inst prices i s c (u + 1))
    (λ u m. gap_times (up_of inst prices c (u + 1)) (lo_of inst prices c (u + 1)) (load_at inst c (u + 1) i (Some s))))

price_same : (inst : Tables) (prices : PriceList) (i s : ℕ) → IsPriceList inst prices
    → refined_price inst (refined_of inst prices) i s ≡ price_of (risk_base inst prices) inst prices i s
unfolding refined_price limit_part clique_part price_of
price_same inst prices i s ok =
    let paid = ex_part inst prices.ex i s in
    ap (λ (z : ℤ). z +ℤ (counted_part inst (refined_of inst prices) i s +ℤ pos (1_000_000_000_000 * (paid + 0))))
    (base_same inst prices i s ok)
    ∙ ap (λ (z : ℤ). base_of inst (tail_of prices) i s +ℤ (z +ℤ pos (1_000_000_000_000 * (paid + 0))))
    (bands_same inst prices i s)
    ∙ regroup (base_of inst (tail_of prices) i s) (band_part inst prices i s) paid
  where
    regroup : (x y : ℤ) (n : ℕ) → x +ℤ (y +ℤ pos (1_000_000_000_000 * (n + 0)))
        ≡ (x +ℤ y) +ℤ pos (1_000_000_000_000 * n)
    regroup x y n = omega (arith, signed_arith)

-- ---- the same constant

-- offsets that aren't there cost nothing
no_cost : (inst : Tables) (tails : List (Option GroupTail)) → offset_cost inst tails [] ≡ 0
unfolding offset_cost offset_most offset_of
no_cost inst tails =
    let none = count_sum_within inst.periods 0
    (λ u. (1_000_000 - inst.alpha) * 1_000_000_000
    * greatest_below (group_count (group_tail_at tails (u + 1))) (λ g. count_sum (length inst.names) (λ i. 0)))
    (λ u. nothing ((1_000_000 - inst.alpha) * 1_000_000_000)
    (greatest_below (group_count (group_tail_at tails (u + 1))) (λ g. count_sum (length inst.names) (λ i. 0)))
    (greatest_below_within (group_count (group_tail_at tails (u + 1))) 0
    (λ g. count_sum (length inst.names) (λ i. 0)) (λ g. zeros))) in
    last (offset_cost inst tails []) none
  where
    zeros : count_sum (length inst.names) (λ i. 0) ≤ 0
    zeros = let w = count_sum_within (length inst.names) 0 (λ i. 0) (λ k. omega arith) in omega (arith, w)

    nothing : (a b : ℕ) → b ≤ 0 → a * b ≤ 0
    nothing a b h = let e : b ≡ 0 = omega arith in rw e (omega arith)

    last : (c : ℕ) → c ≤ inst.periods * 0 → c ≡ 0
    last c h = omega arith

constant_same : (inst : Tables) (prices : PriceList)
    → refined_constant inst (refined_of inst prices) ≡ fixed_part inst prices
unfolding refined_constant limit_constant clique_total fixed_part
constant_same inst prices =
    ap (λ (n : ℕ). (fixed_part inst prices -ℤ pos (1_000_000_000_000 * 0)) -ℤ pos n)
    (no_cost inst (map (option_map singles_of) prices.tails)) ∙ nothing (fixed_part inst prices)
  where
    nothing : (z : ℤ) → (z -ℤ pos (1_000_000_000_000 * 0)) -ℤ pos 0 ≡ z
    nothing z = omega (arith, signed_arith)

pub PriceListsAreRefined-from : PriceListsAreRefined
PriceListsAreRefined-from inst prices ok =
    record {
      in_range = refined_in_range inst prices ok;
      prices_same = λ i s. price_same inst prices i s ok;
      constant_same = constant_same inst prices;
    }
