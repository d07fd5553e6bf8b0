-- A tail as groups of one scenario each, all of the same weight: it is in range and gives the same terms.
use Rattle.std.proofs.Common.{◌≡◌, ◌≢◌, ℕ, zero, suc, ◌+◌, ◌-◌, ◌*◌, ◌<◌, ◌≤◌, refl, sym, ◌∙◌, ap, subst, arith, ℤ, pos}
use Rattle.std.proofs.Common.{◌+ℤ◌, ◌-ℤ◌, ◌*ℤ◌, ◌≤ℤ◌, List, [], ◌∷◌, length, map, get_or, All, AllPairs, Option}
use Rattle.std.proofs.Common.{Some, None, option_map}
use Rattle.std.proofs.lemmas.List.{length-map, get_or-map}
use Rattle.std.proofs.lemmas.List.Elements.{All-cons, All-nil, All-from_get_or, All-get_or, Contains-get_or}
use Rattle.fixed_num.specs.Floors.{floor_of}
use Rattle.fixed_num.specs.Sums.{sum_below}
use Rattle.fixed_num.proofs.SignedLemmas.{signed_arith}
use Rattle.instance_model.specs.Tables.{Tables, scenarios_of, rank_of, risk_of}
use Rattle.instance_model.proofs.DeviationLemmas.{scale_mono, distribute}
use Rattle.lagrange_bound.specs.declared.tail.Tail.{Tail}
use Rattle.lagrange_bound.specs.Least.{least_over, AscendAbove}
use Rattle.lagrange_bound.specs.Prices.{IsTail}
use Rattle.lagrange_bound.specs.TailLemmas.{least_over_le, least_over_reached, above_all}
use Rattle.lagrange_bound.specs.TermLemmas.{scale-swap}
use Rattle.lagrange_bound.specs.Bases.{tail_part, weighed, term_of}
use Rattle.refined_prices.specs.declared.member.Member.{Member}
use Rattle.refined_prices.specs.Groups.{group_at, weight_in, IsGroup, AreDisjoint, IsGroupTail, weighted_sum}
use Rattle.refined_prices.specs.Groups.{least_below, least_group}
use Rattle.refined_prices.specs.GroupBases.{group_part, group_weighed, group_term_of}
use Rattle.refined_prices.proofs.GroupLemmas.{least_below-le, least_below_reached}
use Rattle.refined_prices.proofs.GroupTermLemmas.{mul-zero}
use Rattle.refined_check.specs.Singles.{single, singles_of}

group_is : (tail : Tail) (g d : ℕ) → g < length tail.places
    → group_at (singles_of tail) g ≡ single tail.weight (get_or tail.places g d)
group_is tail g d l = get_or-map (single tail.weight) tail.places g d [] l

-- ---- in range

-- a list that ascends has its members apart
ascend_pairs : (a : ℕ) (ks : List ℕ) → AscendAbove a ks → (i j d : ℕ) → i < j → j < length ks
    → get_or ks i d < get_or ks j d
ascend_pairs a [] up i j d l m = absurd (omega (arith, m))
ascend_pairs a (k ∷ ks) up zero zero d l m = absurd (omega (arith, l))
ascend_pairs a (k ∷ ks) up zero (suc j) d l m =
    above_all k ks up.1 (get_or ks j d) (Contains-get_or ks j d (omega (arith, m)))
ascend_pairs a (k ∷ ks) up (suc i) zero d l m = absurd (omega (arith, l))
ascend_pairs a (k ∷ ks) up (suc i) (suc j) d l m = ascend_pairs k ks up.1 i j d (omega (arith, l)) (omega (arith, m))

IsGroup-single : (n weight k : ℕ) → 1 ≤ weight → weight ≤ 1000 → 0 < k → k ≤ n → IsGroup n weight (single weight k)
unfolding weight_in
IsGroup-single n weight k some small above within =
    record {
      ascend = (above, tt);
      within = All-cons (λ j. j ≤ n) k [] within (All-nil (λ j. j ≤ n));
      some_weight = All-cons (λ x. 1 ≤ x.weight) (record { scenario = k; weight = weight }) [] some
          (All-nil (λ x. 1 ≤ x.weight));
      small_weight = All-cons (λ x. x.weight ≤ 1000) (record { scenario = k; weight = weight }) [] small
          (All-nil (λ x. x.weight ≤ 1000));
      adds_up = omega arith;
    }

AreDisjoint-single : (weight j k : ℕ) → j ≢ k → AreDisjoint (single weight j) (single weight k)
AreDisjoint-single weight j k h =
    All-cons (λ i. All (λ l. i ≢ l) (k ∷ [])) j [] (All-cons (λ l. j ≢ l) k [] h (All-nil (λ l. j ≢ l)))
    (All-nil (λ i. All (λ l. i ≢ l) (k ∷ [])))

-- a tail in range is, as groups of one scenario each, in range
pub IsGroupTail-singles : (inst : Tables) (t : ℕ) (tail : Tail) → IsTail inst t tail
    → IsGroupTail (scenarios_of inst t) (rank_of inst t) (singles_of tail)
IsGroupTail-singles inst t tail ok =
    record {
      some_weight = ok.some_weight;
      small_weight = ok.weight;
      enough = omega (arith, ok.enough, length-map tail.places (single tail.weight));
      groups = All-from_get_or (IsGroup n tail.weight) (map (single tail.weight) tail.places) []
          (λ g l. let m : g < length tail.places = omega (arith, l, length-map tail.places (single tail.weight)) in
          let k = get_or tail.places g 0 in
          rw (group_is tail g 0 m) (IsGroup-single n tail.weight k ok.some_weight ok.weight
          (above_all 0 tail.places ok.ascend k (Contains-get_or tail.places g 0 m))
          (All-get_or (λ j. j ≤ n) tail.places g 0 m ok.within)));
      apart = apart;
    }
  where
    n : ℕ
    n = scenarios_of inst t

    apart : AllPairs AreDisjoint (map (single tail.weight) tail.places)
    apart i j d l m =
        let high : j < length tail.places = omega (arith, m, length-map tail.places (single tail.weight)) in
        let low : i < length tail.places = omega (arith, l, high) in
        let up = ascend_pairs 0 tail.places ok.ascend i j 0 l high in
        rw (
          get_or-map (single tail.weight) tail.places i 0 d low,
          get_or-map (single tail.weight) tail.places j 0 d high,
        )
        (AreDisjoint-single tail.weight (get_or tail.places i 0) (get_or tail.places j 0) (omega (arith, up)))

-- ---- the same terms

-- the weighted sum of one scenario
single_sum : (f : ℕ → ℤ) (weight k : ℕ) → weighted_sum f (single weight k) +ℤ pos (1_000_000_000_000 * 0)
    ≡ pos weight *ℤ f k
unfolding weighted_sum
single_sum f weight k = nothing (pos weight *ℤ f k)
  where
    nothing : (z : ℤ) → (z +ℤ pos 0) +ℤ pos 0 ≡ z
    nothing z = omega (arith, signed_arith)

same_order : (x y : ℤ) → x ≤ℤ y → y ≤ℤ x → x ≡ y
same_order x y h k = omega (arith, signed_arith, h, k)

-- the weighted sum of each group
sum_at : (ℕ → ℤ) → ℕ → List ℕ → ℕ → ℤ
sum_at f weight ks g = weighted_sum f (get_or (map (single weight) ks) g []) +ℤ pos (1_000_000_000_000 * 0)

sum_at_is : (f : ℕ → ℤ) (weight : ℕ) (ks : List ℕ) (g d : ℕ) → g < length ks
    → sum_at f weight ks g ≡ pos weight *ℤ f (get_or ks g d)
unfolding sum_at
sum_at_is f weight ks g d l =
    ap (λ (x : List Member). weighted_sum f x +ℤ pos (1_000_000_000_000 * 0)) (get_or-map (single weight) ks g d [] l)
    ∙ single_sum f weight (get_or ks g d)

-- the least of them is the weight times the least over the places
least_singles : (f : ℕ → ℤ) (weight : ℕ) (ks : List ℕ)
    → least_below (length (map (single weight) ks)) (sum_at f weight ks) ≡ pos weight *ℤ least_over f ks
unfolding least_over
least_singles f weight [] = ap pos (sym (mul-zero weight))
least_singles f weight (k ∷ ks) =
    same_order (least_below (length (map (single weight) (k ∷ ks))) (sum_at f weight (k ∷ ks)))
    (pos weight *ℤ least_over f (k ∷ ks)) low high
  where
    count : length (map (single weight) (k ∷ ks)) ≡ length (k ∷ ks)
    count = length-map (k ∷ ks) (single weight)

    low : least_below (length (map (single weight) (k ∷ ks))) (sum_at f weight (k ∷ ks))
        ≤ℤ (pos weight *ℤ least_over f (k ∷ ks))
    low =
        let w = least_over_reached f (k ∷ ks) (omega arith) in
        let c = w.1 in
        let le = least_below-le (length (map (single weight) (k ∷ ks))) (sum_at f weight (k ∷ ks)) c.0
        (omega (arith, c.1, count)) in
        let e : sum_at f weight (k ∷ ks) c.0 ≡ pos weight *ℤ least_over f (k ∷ ks) =
        sum_at_is f weight (k ∷ ks) c.0 w.0 c.1 ∙ ap (λ (j : ℕ). pos weight *ℤ f j) c.2
        ∙ ap (λ (z : ℤ). pos weight *ℤ z) (sym w.2) in
        subst (λ (z : ℤ). least_below (length (map (single weight) (k ∷ ks))) (sum_at f weight (k ∷ ks)) ≤ℤ z) e le

    high : (pos weight *ℤ least_over f (k ∷ ks))
        ≤ℤ least_below (length (map (single weight) (k ∷ ks))) (sum_at f weight (k ∷ ks))
    high =
        let w = least_below_reached (length (map (single weight) (k ∷ ks))) (sum_at f weight (k ∷ ks))
        (omega (arith, count)) in
        let l : w.0 < length (k ∷ ks) = omega (arith, w.1, count) in
        let j = get_or (k ∷ ks) w.0 0 in
        let le = scale_mono weight (least_over f (k ∷ ks)) (f j) (least_over_le f (k ∷ ks) j
        (Contains-get_or (k ∷ ks) w.0 0 l)) in
        subst (λ (z : ℤ). (pos weight *ℤ least_over f (k ∷ ks)) ≤ℤ z)
        (sym (w.2 ∙ sum_at_is f weight (k ∷ ks) w.0 0 l)) le

least_group-singles : (f : ℕ → ℤ) (tail : Tail) → least_group f (λ g. 1_000_000_000_000 * 0) (singles_of tail)
    ≡ pos tail.weight *ℤ least_over f tail.places
unfolding least_group sum_at
least_group-singles f tail = least_singles f tail.weight tail.places

-- a tail adds the same
group_part-singles : (n : ℕ) (f : ℕ → ℤ) (tail : Option Tail)
    → group_part n f (λ g. 1_000_000_000_000 * 0) (option_map singles_of tail) ≡ tail_part n f tail
unfolding group_part tail_part
group_part-singles n f None = refl
group_part-singles n f (Some tail) =
    let w = tail.weight in
    let least = least_over f tail.places in
    let sums = sum_below n (λ k. f (k + 1)) in
    ap (λ (z : ℤ). (pos n *ℤ z) -ℤ (pos tail.weight *ℤ sum_below n (λ k. f (k + 1)))) (least_group-singles f tail)
    ∙ ap (λ (z : ℤ). z -ℤ (pos tail.weight *ℤ sum_below n (λ k. f (k + 1)))) (scale-swap n w least)
    ∙ sym (distribute w (pos n *ℤ least) sums)

-- a term is the same, without offsets
pub group_term_of-singles : (inst : Tables) (tail : Option Tail) (i s t : ℕ)
    → group_term_of inst (option_map singles_of tail) (λ g. 0) i s t ≡ term_of inst tail i s t
unfolding group_term_of term_of group_weighed weighed
group_term_of-singles inst tail i s t =
    ap (λ (z : ℤ). floor_of ((pos (1000 * inst.alpha)
    *ℤ sum_below (scenarios_of inst t) (λ k. risk_of inst i s t (k + 1))) +ℤ (pos (1_000_000 - inst.alpha) *ℤ z))
    (1000 * scenarios_of inst t)) (group_part-singles (scenarios_of inst t) (risk_of inst i s t) tail)
