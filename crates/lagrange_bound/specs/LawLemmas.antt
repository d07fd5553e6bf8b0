-- The laws of the score: the bases of a plan's starts add up to at most its score, and both are small. They stand here,
-- with the lemmas that they rest on, since what an impl gives as a law may not come from proofs/.
use Rattle.std.proofs.Common.{◌≡◌, ℕ, ◌+◌, ◌*◌, ◌<◌, ◌≤◌, refl, sym, ◌∙◌, ap, subst, arith, ℤ, pos, ◌*ℤ◌, ◌≤ℤ◌, Bool}
use Rattle.std.proofs.Common.{true, false, cond, List, length, map, get_or, Option, Some, None}
use Rattle.std.proofs.lemmas.List.Elements.{All-contains}
use Rattle.fixed_num.specs.Floors.{floor_of}
use Rattle.fixed_num.specs.Sums.{sum_below}
use Rattle.fixed_num.proofs.SignedLemmas.{signed_arith}
use Rattle.fixed_num.proofs.FloorLemmas.{floor_of_mono, sum_below-floor_of}
use Rattle.fixed_num.proofs.SumLemmas.{sum_below_mono, sum_below_same, sum_below-swap, sum_below-none}
use Rattle.instance_model.specs.Tables.{Tables, scenarios_of, rank_of, in_run, risk_of}
use Rattle.instance_model.specs.Fitting.{IsFitting}
use Rattle.instance_model.specs.Plans.{start_of, risk_at, scenario_sum, scenario_sums}
use Rattle.instance_model.specs.Values.{numerator_of, sum_of_floors, score_of}
use Rattle.instance_model.proofs.FitLemmas.{scenarios_of_small, rank_of_from}
use Rattle.instance_model.proofs.BoardLemmas.{start_of-starts}
use Rattle.instance_model.proofs.ScoreSizeLemmas.{score_of_small}
use Rattle.lagrange_bound.specs.declared.tail.Tail.{Tail}
use Rattle.lagrange_bound.specs.Prices.{tail_of}
use Rattle.lagrange_bound.specs.Bases.{weighed, term_of, base_of}
use Rattle.lagrange_bound.specs.Goals.{BasesBoundValue, BasesAreSmall, ValuesAreSmall, risk_base, risk_value}
use Rattle.lagrange_bound.specs.TermLemmas.{IsTailOf, floor_of_scaled, weighed-sum, weighed-le, weighed_of_none}
use Rattle.lagrange_bound.specs.SizeLemmas.{base_of_small}

-- the base of an intervention in a plan: 0 where it has no start
base_at : Tables → (ℕ → Option Tail) → ℕ → Option ℕ → ℤ
base_at inst tails i None = pos 0
base_at inst tails i (Some s) = base_of inst tails i s

-- what an intervention adds in a period
cell : Tables → Option Tail → ℕ → ℕ → Option ℕ → ℤ
cell inst tail t i None = pos 0
cell inst tail t i (Some s) = cond (in_run inst i s t) (term_of inst tail i s t) (pos 0)

base_is : (inst : Tables) (tails : ℕ → Option Tail) (i : ℕ) (o : Option ℕ)
    → base_at inst tails i o ≡ sum_below inst.periods (λ u. cell inst (tails (u + 1)) (u + 1) i o)
unfolding base_at base_of cell
base_is inst tails i None = sym (sum_below-none inst.periods)
base_is inst tails i (Some s) = refl

-- a cell is one floor, of the risks that the intervention adds
cell_is : (inst : Tables) (tail : Option Tail) (t i : ℕ) (o : Option ℕ) → 0 < scenarios_of inst t
    → cell inst tail t i o ≡ floor_of (weighed inst.alpha (scenarios_of inst t) (λ k. risk_at inst t k i o) tail)
    (1000 * scenarios_of inst t)
unfolding cell risk_at term_of
cell_is inst tail t i o h = at o
  where
    nothing : floor_of (weighed inst.alpha (scenarios_of inst t) (λ k. pos 0) tail) (1000 * scenarios_of inst t) ≡ pos 0
    nothing = ap (λ (z : ℤ). floor_of z (1000 * scenarios_of inst t)) (weighed_of_none inst.alpha (scenarios_of inst t)
        tail) ∙ ap pos (omega arith)

    running : (s : ℕ) (b : Bool) → cond b (floor_of (weighed inst.alpha (scenarios_of inst t) (risk_of inst i s t) tail)
        (1000 * scenarios_of inst t)) (pos 0)
        ≡ floor_of (weighed inst.alpha (scenarios_of inst t) (λ k. cond b (risk_of inst i s t k) (pos 0)) tail)
        (1000 * scenarios_of inst t)
    running s true = refl
    running s false = sym nothing

    at : (o : Option ℕ) → cell inst tail t i o ≡ floor_of (weighed inst.alpha (scenarios_of inst t)
        (λ k. risk_at inst t k i o) tail) (1000 * scenarios_of inst t)
    at None = sym nothing
    at (Some s) = running s (in_run inst i s t)

trans : (a b c : ℤ) → a ≤ℤ b → b ≤ℤ c → a ≤ℤ c
trans a b c h k = omega (arith, signed_arith)

-- in each period the cells add up to at most the floor of the period's share of the score
period_le : (inst : Tables) (tail : Option Tail) (plan : List (Option ℕ)) (t : ℕ) → IsFitting inst → 1 ≤ t
    → t ≤ inst.periods → ((x : Tail) → tail ≡ Some x → IsTailOf (scenarios_of inst t) (rank_of inst t) x)
    → sum_below (length inst.names) (λ i. cell inst tail t i (start_of plan i))
    ≤ℤ floor_of (numerator_of inst plan t) (scenarios_of inst t)
unfolding scenario_sums scenario_sum
period_le inst tail plan t fit one few ok =
    let n = scenarios_of inst t in
    let m = length inst.names in
    let small = scenarios_of_small inst t fit one few in
    let rank = rank_of_from inst t fit one few in
    let some : 0 < 1000 * n = omega (arith, small) in
    let g : ℕ → ℕ → ℤ = λ i k. risk_at inst t k i (start_of plan i) in
    let added : ℕ → ℤ = λ k. sum_below (length inst.names) (λ i. risk_at inst t k i (start_of plan i)) in
    let v = numerator_of inst plan t in
    let fraction : ℕ → ℤ =
    λ i. weighed inst.alpha (scenarios_of inst t) (λ k. risk_at inst t k i (start_of plan i)) tail in
    let same = sum_below_same m (λ i. cell inst tail t i (start_of plan i)) (λ i. floor_of (fraction i) (1000 * n))
    (λ i l. cell_is inst tail t i (start_of plan i) (omega (arith, small))) in
    let floors = sum_below-floor_of m fraction (1000 * n) some in
    let sums = weighed-sum inst.alpha n m g tail (λ x e. let w = ok x e in omega (arith, w.enough, rank.1)) in
    let tails = weighed-le inst.alpha n (rank_of inst t) added tail rank.0 rank.1 ok in
    let below = floor_of_mono (sum_below m fraction) (pos 1000 *ℤ v) (1000 * n) some
    (trans (sum_below m fraction) (weighed inst.alpha n added tail) (pos 1000 *ℤ v) sums tails) in
    let last = subst (λ (q : ℤ). floor_of (sum_below m fraction) (1000 * n) ≤ℤ q)
    (floor_of_scaled 1000 v n (omega arith) (omega (arith, small))) below in
    subst (λ (q : ℤ). q ≤ℤ floor_of v n) (sym same) (trans (sum_below m (λ i. floor_of (fraction i) (1000 * n)))
    (floor_of (sum_below m fraction) (1000 * n)) (floor_of v n) floors last)

bases_le-score : (inst : Tables) (tails : ℕ → Option Tail) (plan : List (Option ℕ)) → IsFitting inst
    → ((t : ℕ) → 1 ≤ t → t ≤ inst.periods → (x : Tail) → tails t ≡ Some x
    → IsTailOf (scenarios_of inst t) (rank_of inst t) x)
    → sum_below (length inst.names) (λ i. base_at inst tails i (start_of plan i)) ≤ℤ score_of inst plan
unfolding sum_of_floors
bases_le-score inst tails plan fit ok =
    let m = length inst.names in
    let p = inst.periods in
    let cells : ℕ → ℕ → ℤ = λ i u. cell inst (tails (u + 1)) (u + 1) i (start_of plan i) in
    let floors : ℕ → ℤ = λ u. floor_of (numerator_of inst plan (u + 1)) (scenarios_of inst (u + 1)) in
    let same = sum_below_same m (λ i. base_at inst tails i (start_of plan i)) (λ i. sum_below p (cells i))
    (λ i l. base_is inst tails i (start_of plan i)) in
    let by_period = sum_below-swap m p cells in
    let each = sum_below_mono p (λ u. sum_below m (λ i. cells i u)) floors
    (λ u l. period_le inst (tails (u + 1)) plan (u + 1) fit (omega arith) (omega (arith, l))
    (ok (u + 1) (omega arith) (omega (arith, l)))) in
    subst (λ (q : ℤ). q ≤ℤ sum_below p floors) (sym (same ∙ by_period)) each

base_same : (inst : Tables) (tails : ℕ → Option Tail) (starts : List ℕ) (i : ℕ) → i < length starts
    → base_of inst tails i (get_or starts i 0) ≡ base_at inst tails i (start_of (map Some starts) i)
unfolding base_at
base_same inst tails starts i h = ap (base_at inst tails i) (sym (start_of-starts starts i h))

-- the score keeps the law
pub risk_law : BasesBoundValue risk_base risk_value
risk_law inst prices starts fit r a =
    let law = bases_le-score inst (tail_of prices) (map Some starts) fit
    (λ t one few x e. let k = r.tails t one few x e in record {
      weight = k.weight;
      enough = k.enough;
      ascend = k.ascend;
      within = λ j c. All-contains (λ (j : ℕ). j ≤ scenarios_of inst t) x.places j k.within c;
    }) in
    let same = sum_below_same (length inst.names) (λ i. risk_base inst prices i (get_or starts i 0))
    (λ i. base_at inst (tail_of prices) i (start_of (map Some starts) i))
    (λ i l. base_same inst (tail_of prices) starts i (omega (arith, l, a.each))) in
    subst (λ (z : ℤ). z ≤ℤ risk_value inst starts) (sym same) law

-- its bases are small
pub risk_bases_small : BasesAreSmall risk_base
risk_bases_small inst prices i s fit r l a =
    base_of_small inst (tail_of prices) i s fit (λ t one few x e. (r.tails t one few x e).weight)

-- and so is the score
pub risk_values_small : ValuesAreSmall risk_value
risk_values_small inst starts fit a = omega (arith, score_of_small inst (map Some starts) fit)
