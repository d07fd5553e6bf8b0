-- Over a plan that keeps the rules the prices on limits, exclusions and cliques add nothing, or less.
use Rattle.std.proofs.Common.{ℕ, ◌+◌, ◌*◌, ◌≤◌, sym, ap, arith, ℤ, pos, ◌+ℤ◌, ◌-ℤ◌, ◌*ℤ◌, ◌≤ℤ◌, List, length, map}
use Rattle.std.proofs.Common.{get_or, Some}
use Rattle.fixed_num.specs.Sums.{sum_below}
use Rattle.fixed_num.proofs.SignedLemmas.{signed_arith}
use Rattle.fixed_num.proofs.SumLemmas.{sum_below_same, sum_below-add, sum_below-scale}
use Rattle.instance_model.specs.Naturals.{count_sum}
use Rattle.instance_model.specs.Tables.{Tables, upper_of, lower_of}
use Rattle.instance_model.specs.Plans.{start_of, AreAllowedStarts, load_at, load_sum}
use Rattle.instance_model.specs.Rules.{IsWithinBand, KeepsRules}
use Rattle.instance_model.proofs.BoardLemmas.{start_of-starts}
use Rattle.instance_model.proofs.DeviationLemmas.{scale_mono}
use Rattle.lagrange_bound.specs.Prices.{up_of, lo_of}
use Rattle.lagrange_bound.specs.Worth.{ex_part, ex_total, limit_share, fixed_part}
use Rattle.lagrange_bound.proofs.ExLemmas.{count_sum-add, sum_below-pos, ex_part-le}
use Rattle.lagrange_bound.proofs.WorthLemmas.{starts_allowed, all_apart}
use Rattle.refined_prices.specs.Caps.{counted_load, counted_sum}
use Rattle.refined_prices.specs.Cliques.{clique_part, clique_total}
use Rattle.refined_prices.specs.RefinedLists.{RefinedList}
use Rattle.refined_prices.specs.RefinedWorth.{counted_share, counted_part, limit_part, limit_constant, LimitsAddNothing}
use Rattle.refined_prices.proofs.SumsApart.{sum_below-less, places-nothing}
use Rattle.refined_prices.proofs.CapLemmas.{CapKeepsLowerLimit-from}
use Rattle.refined_prices.proofs.CliqueLemmas.{cliques-le}

-- the prices on the limits of resource c in period t
one_limit : (inst : Tables) (list : RefinedList) (starts : List ℕ) (c t : ℕ) → AreAllowedStarts inst starts
    → IsWithinBand inst (map Some starts) c t
    → (sum_below (length inst.names) (λ i. counted_share inst list i (get_or starts i 0) c t)
    +ℤ limit_share inst list.prices c t) ≤ℤ pos 0
unfolding load_sum counted_sum
one_limit inst list starts c t a w =
    let n = length inst.names in
    let u = up_of inst list.prices c t in
    let v = lo_of inst list.prices c t in
    let load : ℕ → ℤ = λ i. load_at inst c t i (start_of (map Some starts) i) in
    let counted : ℕ → ℤ = λ i. counted_load inst list.capped c t i (start_of (map Some starts) i) in
    let same = sum_below_same n (λ i. counted_share inst list i (get_or starts i 0) c t)
    (λ i. pos u *ℤ load i -ℤ pos v *ℤ counted i)
    (λ i l.
    let e = sym (start_of-starts starts i (omega (arith, l, a.each))) in
    ap (λ o. pos u *ℤ load_at inst c t i o -ℤ pos v *ℤ counted_load inst list.capped c t i o) e) in
    let apart = sum_below-less n (λ i. pos u *ℤ load i) (λ i. pos v *ℤ counted i) in
    let ups = sum_below-scale n (pos u) load in
    let los = sum_below-scale n (pos v) counted in
    let high = scale_mono u (sum_below n load) (upper_of inst c t) w.not_above in
    let low = scale_mono v (lower_of inst c t) (sum_below n counted)
    (CapKeepsLowerLimit-from inst list.capped starts c t a w.not_below) in
    rw (same, apart, ups, los) (settle (pos u *ℤ sum_below n load) (pos v *ℤ sum_below n counted)
    (pos u *ℤ upper_of inst c t) (pos v *ℤ lower_of inst c t) high low)
  where
    settle : (x y upper lower : ℤ) → x ≤ℤ upper → lower ≤ℤ y → ((x -ℤ y) +ℤ (lower -ℤ upper)) ≤ℤ pos 0
    settle x y upper lower h k = omega (arith, signed_arith)

-- the prices on all limits
all_limits : (inst : Tables) (list : RefinedList) (starts : List ℕ) → AreAllowedStarts inst starts
    → KeepsRules inst (map Some starts)
    → (sum_below (length inst.names) (λ i. counted_part inst list i (get_or starts i 0))
    +ℤ sum_below (length inst.resource_names)
    (λ c. sum_below inst.periods (λ u. limit_share inst list.prices c (u + 1)))) ≤ℤ pos 0
unfolding counted_part
all_limits inst list starts a k =
    places-nothing (length inst.names) (length inst.resource_names) inst.periods
    (λ i c u. counted_share inst list i (get_or starts i 0) c (u + 1)) (λ c u. limit_share inst list.prices c (u + 1))
    (λ c u l m. one_limit inst list starts c (u + 1) a (k.loads c (u + 1) l (omega arith) (omega (arith, m))))

pub LimitsAddNothing-from : LimitsAddNothing
unfolding limit_part limit_constant fixed_part
LimitsAddNothing-from inst list starts f r each k =
    let n = length inst.names in
    let a = starts_allowed inst starts each k in
    let bands : ℕ → ℤ = λ i. counted_part inst list i (get_or starts i 0) in
    let ex : ℕ → ℕ = λ i. ex_part inst list.prices.ex i (get_or starts i 0) in
    let cliques : ℕ → ℕ = λ i. clique_part inst list.cliques i (get_or starts i 0) in
    let apart = sum_below-add n bands (λ i. pos (1_000_000_000_000 * (ex i + cliques i))) in
    let pieces = sum_below-pos 1_000_000_000_000 n (λ i. ex i + cliques i) in
    let counts = count_sum-add n ex cliques in
    let ex_few = ex_part-le inst n (λ i. get_or starts i 0) list.prices.ex
    (all_apart inst starts list.prices.ex f each k r.prices.ex) in
    let cliques_few = cliques-le inst starts list.cliques each k r.cliques in
    rw (apart, pieces) (settle (sum_below n bands)
    (sum_below (length inst.resource_names)
    (λ c. sum_below inst.periods (λ u. limit_share inst list.prices c (u + 1))))
    (count_sum n (λ i. ex i + cliques i)) (ex_total list.prices.ex) (clique_total list.cliques)
    (all_limits inst list starts a k) (omega (arith, counts, ex_few, cliques_few)))
  where
    settle : (x limits : ℤ) (paid ex cliques : ℕ) → (x +ℤ limits) ≤ℤ pos 0 → paid ≤ ex + cliques
        → ((x +ℤ pos (1_000_000_000_000 * paid))
        +ℤ ((limits -ℤ pos (1_000_000_000_000 * ex)) -ℤ pos (1_000_000_000_000 * cliques))) ≤ℤ pos 0
    settle x limits paid ex cliques h few = omega (arith, signed_arith)
