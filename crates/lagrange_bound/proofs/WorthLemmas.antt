-- No feasible plan in a box has a value below the worth of the box.
use Rattle.std.proofs.Common.{◌≡◌, ℕ, zero, suc, ◌+◌, ◌-◌, ◌<◌, ◌≤◌, refl, sym, ◌∙◌, ap, subst, arith, ℤ, ◌+ℤ◌, ◌≤ℤ◌}
use Rattle.std.proofs.Common.{Bool, cond, true, false, List, [], ◌∷◌, length, get_or, map, Option, Some, IsTrue, Contains}
use Rattle.std.proofs.Common.{filter}
use Rattle.std.specs.List.{range_with_len, AllByRecursion}
use Rattle.std.proofs.lemmas.List.FromFn.{get_or-range_with_len, length-range_with_len}
use Rattle.fixed_num.specs.Sums.{sum_below}
use Rattle.fixed_num.proofs.SignedLemmas.{signed_arith}
use Rattle.fixed_num.proofs.SumLemmas.{sum_below_same, sum_below_mono}
use Rattle.instance_model.specs.Tables.{Tables, is_allowed, in_run, upper_of, lower_of, exclusion_of}
use Rattle.instance_model.specs.Fitting.{IsFitting}
use Rattle.instance_model.specs.Plans.{start_of, AreAllowedStarts, HasAllowedStart, runs_at, is_running, load_at}
use Rattle.instance_model.specs.Plans.{load_sum}
use Rattle.instance_model.specs.Rules.{IsWithinBand, KeepsRules}
use Rattle.instance_model.proofs.RuleLemmas.{KeepsRules-from}
use Rattle.instance_model.proofs.BoardLemmas.{start_of-starts}
use Rattle.lagrange_bound.specs.declared.ex_price.ExPrice.{ExPrice}
use Rattle.lagrange_bound.specs.declared.span.Span.{Span}
use Rattle.lagrange_bound.specs.Least.{least_over}
use Rattle.lagrange_bound.specs.TailLemmas.{least_over_le}
use Rattle.lagrange_bound.specs.Prices.{IsExPrice, up_of, lo_of}
use Rattle.lagrange_bound.specs.Goals.{Bases, PlanValue, BasesBoundValue}
use Rattle.lagrange_bound.specs.Boxes.{span_of, starts_in}
use Rattle.lagrange_bound.specs.Worth.{ex_part, ex_total, band_part, price_of, fixed_part, worth_of, WorthBoundsPlans}
use Rattle.lagrange_bound.specs.Pricings.{pricing_of, pricing_worth, PricesAreLawful, LawfulWorthsBoundPlans}
use Rattle.lagrange_bound.proofs.ExLemmas.{AreApart, ex_part-le}
use Rattle.lagrange_bound.proofs.DualityLemmas.{duality}

-- ---- the starts of a plan that keeps the rules
pub starts_allowed : (inst : Tables) (starts : List ℕ) → length starts ≡ length inst.names
    → KeepsRules inst (map Some starts) → AreAllowedStarts inst starts
starts_allowed inst starts each k =
    record { each = each; allowed = λ i l. at i l (k.starts i (omega (arith, l, each))) }
  where
    some : (a b : ℕ) → Some a ≡ Some b → a ≡ b
    some a b e = cc

    at : (i : ℕ) → i < length starts → HasAllowedStart inst (map Some starts) i
        → IsTrue (is_allowed inst i (get_or starts i 0))
    at i l w = subst (λ (s : ℕ). IsTrue (is_allowed inst i s))
        (some w.start (get_or starts i 0) (sym w.given ∙ start_of-starts starts i l)) w.allowed

-- an allowed start in an interval is among its allowed starts
pub in_starts : (inst : Tables) (i s : ℕ) (span : Span) → IsTrue (is_allowed inst i s) → span.from ≤ s → s ≤ span.to
    → Contains (starts_in inst i span) s
unfolding starts_in
in_starts inst i s span h l m =
    kept (is_allowed inst i) (range_with_len span.from (span.to + 1 - span.from)) s (
      s - span.from,
      rw (length-range_with_len span.from (span.to + 1 - span.from)) (omega (arith, l, m)),
      get_or-range_with_len span.from (span.to + 1 - span.from) (s - span.from) s (omega (arith, l, m)) ∙ back,
    ) h
  where
    back : span.from + (s - span.from) ≡ s
    back = omega (arith, l)

    kept : (p : ℕ → Bool) (xs : List ℕ) (x : ℕ) → Contains xs x → p x ≡ true → Contains (filter p xs) x
    kept p [] x (k, h, e) t = absurd (omega (arith, h))
    kept p (y ∷ xs) x (zero, h, e) t = subst (λ (z : ℕ). Contains (cond (p z) (z ∷ filter p xs) (filter p xs)) x)
        (sym e) (subst (λ (b : Bool). Contains (cond b (x ∷ filter p xs) (filter p xs)) x) (sym t)
        (zero, omega arith, refl))
    kept p (y ∷ xs) x (suc k, h, e) t = at (p y) (kept p xs x (k, omega (arith, h), e) t)
      where
        at : (b : Bool) → Contains (filter p xs) x → Contains (cond b (y ∷ filter p xs) (filter p xs)) x
        at true (j, l, e) = (suc j, omega (arith, l), e)
        at false c = c

-- ---- the interventions of each price keep apart
pub named : (inst : Tables) (e : ℕ) → IsFitting inst → e < length inst.exclusion_names
    → ((exclusion_of inst e).first < length inst.names) × ((exclusion_of inst e).second < length inst.names)
unfolding exclusion_of
named inst e f h = let w =
    f.excluded e (record { first = 0; second = 0; season = 0 }) (omega (arith, h, f.excluded_each)) in (w.0, w.1)

pub running : (inst : Tables) (starts : List ℕ) (i t : ℕ) → i < length starts
    → IsTrue (in_run inst i (get_or starts i 0) t) → IsTrue (is_running inst (map Some starts) i t)
running inst starts i t l h = subst (λ (o : Option ℕ). IsTrue (runs_at inst i t o)) (sym (start_of-starts starts i l)) h

pub apart : (inst : Tables) (starts : List ℕ) (x : ExPrice) → IsFitting inst → length starts ≡ length inst.names
    → KeepsRules inst (map Some starts) → IsExPrice inst x → AreApart inst (λ i. get_or starts i 0) x
apart inst starts x f each k w (a, b) =
    let e = exclusion_of inst x.exclusion in
    let bounds = named inst x.exclusion f w.number in
    let t = x.period in
    k.seasons x.exclusion x.period w.number w.from w.to w.season
    (running inst starts e.first t (rw each bounds.0) a, running inst starts e.second t (rw each bounds.1) b)

pub all_apart : (inst : Tables) (starts : List ℕ) (xs : List ExPrice) → IsFitting inst → length starts ≡ length inst.names
    → KeepsRules inst (map Some starts) → AllByRecursion (IsExPrice inst) xs
    → AllByRecursion (AreApart inst (λ i. get_or starts i 0)) xs
all_apart inst starts [] f each k h = tt
all_apart inst starts (x ∷ xs) f each k h = (apart inst starts x f each k h.0, all_apart inst starts xs f each k h.1)

-- ---- the loads are within their limits
pub load_of_starts : (inst : Tables) (starts : List ℕ) (c t : ℕ) → length starts ≡ length inst.names
    → load_sum inst (map Some starts) c t
    ≡ sum_below (length inst.names) (λ i. load_at inst c t i (Some (get_or starts i 0)))
unfolding load_sum
load_of_starts inst starts c t each = sum_below_same (length inst.names)
    (λ i. load_at inst c t i (start_of (map Some starts) i)) (λ i. load_at inst c t i (Some (get_or starts i 0)))
    (λ i l. ap (load_at inst c t i) (start_of-starts starts i (rw each l)))

pub within : (inst : Tables) (starts : List ℕ) (c t : ℕ) → length starts ≡ length inst.names
    → IsWithinBand inst (map Some starts) c t
    → (lower_of inst c t ≤ℤ sum_below (length inst.names) (λ i. load_at inst c t i (Some (get_or starts i 0))))
    × (sum_below (length inst.names) (λ i. load_at inst c t i (Some (get_or starts i 0))) ≤ℤ upper_of inst c t)
within inst starts c t each w =
    let e = load_of_starts inst starts c t each in
    (subst (λ (z : ℤ). lower_of inst c t ≤ℤ z) e w.not_below, subst (λ (z : ℤ). z ≤ℤ upper_of inst c t) e w.not_above)

-- ---- weak duality

-- over a feasible plan the prices of its starts, and what the prices add whatever the starts are, come to at most its
-- value
pub PricesAreLawful-from : (base : Bases) (value : PlanValue) → BasesBoundValue base value → PricesAreLawful base value
unfolding fixed_part price_of band_part
PricesAreLawful-from base value law inst prices f r starts each feasible =
    let k = KeepsRules-from inst (map Some starts) feasible in
    let s : ℕ → ℕ = λ i. get_or starts i 0 in
    duality (length inst.names) (length inst.resource_names) inst.periods 1_000_000_000_000
    (λ i. base inst prices i (s i))
    (λ i. price_of (base inst prices) inst prices i (s i))
    (λ i. ex_part inst prices.ex i (s i)) (ex_total prices.ex)
    (λ i c u. load_at inst c (u + 1) i (Some (get_or starts i 0)))
    (λ c u. up_of inst prices c (u + 1)) (λ c u. lo_of inst prices c (u + 1)) (λ c u. lower_of inst c (u + 1))
    (λ c u. upper_of inst c (u + 1))
    (value inst starts)
    (law inst prices starts f r (starts_allowed inst starts each k))
    (λ i l. itself (price_of (base inst prices) inst prices i (s i)))
    (ex_part-le inst (length inst.names) s prices.ex (all_apart inst starts prices.ex f each k r.ex))
    (λ c u l m. within inst starts c (u + 1) each (k.loads c (u + 1) l (omega arith) (omega (arith, m))))
  where
    itself : (z : ℤ) → z ≤ℤ z
    itself z = omega (arith, signed_arith)

-- so no feasible plan in a box has a value below the worth of the box
pub LawfulWorthsBoundPlans-from : LawfulWorthsBoundPlans
unfolding pricing_worth
LawfulWorthsBoundPlans-from value inst pricing box starts law p =
    let a = starts_allowed inst starts p.each (KeepsRules-from inst (map Some starts) p.feasible) in
    let s : ℕ → ℕ = λ i. get_or starts i 0 in
    let least : ℕ → ℤ = λ i. least_over (pricing.price i) (starts_in inst i (span_of box i)) in
    let each = sum_below_mono (length inst.names) least (λ i. pricing.price i (s i))
    (λ i l. least_over_le (pricing.price i) (starts_in inst i (span_of box i)) (s i)
    (in_starts inst i (s i) (span_of box i) (a.allowed i (rw p.each l)) (p.from i l) (p.to i l))) in
    finish (sum_below (length inst.names) least) (sum_below (length inst.names) (λ i. pricing.price i (s i)))
    pricing.constant (value inst starts) each (law starts p.each p.feasible)
  where
    finish : (x y z v : ℤ) → x ≤ℤ y → (y +ℤ z) ≤ℤ v → (x +ℤ z) ≤ℤ v
    finish x y z v h k = omega (arith, signed_arith)

-- whatever the prices are
pub WorthBoundsPlans-from : (base : Bases) (value : PlanValue) → BasesBoundValue base value
    → WorthBoundsPlans base value
unfolding worth_of pricing_worth
WorthBoundsPlans-from base value law inst prices box starts f r p =
    LawfulWorthsBoundPlans-from value inst (pricing_of (base inst prices) inst prices) box starts
    (PricesAreLawful-from base value law inst prices f r) p
