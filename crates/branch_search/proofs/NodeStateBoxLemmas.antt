-- What is kept of a box is right after one interval was changed; and which bands may then leave a limit.
use Rattle.std.proofs.Common.{◌≡◌, ◌≢◌, ℕ, zero, suc, ◌+◌, ◌-◌, ◌*◌, ◌/◌, ◌%◌, ◌<◌, ◌≤◌, refl, sym, ◌∙◌, ap, subst}
use Rattle.std.proofs.Common.{arith, ℤ}
use Rattle.std.proofs.Common.{pos, ◌+ℤ◌, ◌-ℤ◌, ◌<ℤ◌, Bool, true, false, eqb, List, [], ◌∷◌, length, get_or}
use Rattle.std.proofs.Common.{set, replicate, fold, map, filter, cond, ltb, IsTrue, Contains, unsigned_abs, Option}
use Rattle.std.proofs.Common.{Some, None}
use Rattle.std.proofs.Common.{IfSome, IfNone}
use Rattle.std.specs.List.{range_with_len}
use Rattle.std.specs.Int.{int_min, int_max}
use Rattle.std.proofs.lemmas.Bool.Decides.{nat_tests}
use Rattle.std.proofs.lemmas.List.{get_or-set_same, get_or-set_other, length-set, get_or-replicate, length-replicate}
use Rattle.std.proofs.lemmas.List.{same_lists, get_or_default}
use Rattle.std.proofs.lemmas.List.FromFn.{get_or-range_with_len, length-range_with_len}
use Rattle.fixed_num.proofs.SignedLemmas.{signed_arith}
use Rattle.fixed_num.proofs.SumLemmas.{sum_below_same, sum_below-none, sum_below-within, sum_below-set}
use Rattle.instance_model.specs.Tables.{Tables, tmax, is_allowed, in_run, upper_of, lower_of}
use Rattle.instance_model.specs.Fitting.{IsFitting}
use Rattle.instance_model.proofs.PlanLemmas.{load_at_small}
use Rattle.instance_model.proofs.BoardLemmas.{load_at-idle}
use Rattle.duration_calendar.specs.Calendar.{IsAllowedIn}
use Rattle.lagrange_bound.specs.declared.span.Span.{Span}
use Rattle.lagrange_bound.specs.Least.{least_over}
use Rattle.lagrange_bound.specs.Boxes.{span_of, starts_in, HasStarts}
use Rattle.certificate_lines.specs.declared.line.Side.{Side}
use Rattle.certificate_lines.specs.declared.line.Side.TheVariants.{Over, Under}
use Rattle.certificate_tree.specs.Loads.{greatest_over, load_by_start, least_load, greatest_load}
use Rattle.certificate_tree.specs.Extremes.{extreme_over, extreme_load}
use Rattle.certificate_tree.specs.Holding.{IsOffLimit}
use Rattle.certificate_tree.proofs.StartLemmas.{has_start_from, start_found}
use Rattle.branch_search.specs.declared.node_state.extent.Extent.{Extent}
use Rattle.branch_search.specs.declared.node_state.range.LoadRange.{LoadRange}
use Rattle.branch_search.specs.declared.node_state.band.Band.{Band}
use Rattle.branch_search.specs.node_state.KeptLoads.{KeptLoads, IsOver, IsRangeOf, place_of, no_load, kept_range}
use Rattle.branch_search.specs.node_state.Bands.{IsHoldingBand, NoBandHolds, IsPart}
use Rattle.branch_search.specs.node_state.Offs.{IsOff}
use Rattle.branch_search.specs.node_state.Extents.{extent_at, end_to, AreExtentsOf, range_end, IsSmallRange}
use Rattle.branch_search.specs.node_state.Extents.{end_replaced, replaced}
use Rattle.branch_search.specs.node_state.Extents.{empty_span}
use Rattle.branch_search.proofs.NodeStateWalkLemmas.{place_within, place_found}

-- ---- ranges by side
over_least : (inst : Tables) (box : List Span) (c t : ℕ) → extreme_load inst box c t Over ≡ least_load inst box c t
unfolding least_load
over_least inst box c t = refl

under_greatest : (inst : Tables) (box : List Span) (c t : ℕ)
    → extreme_load inst box c t Under ≡ greatest_load inst box c t
unfolding greatest_load
under_greatest inst box c t = refl

range_by_side : (inst : Tables) (box : List Span) (c t : ℕ) (range : LoadRange) → IsRangeOf inst box c t range
    → (side : Side) → range_end side range ≡ extreme_load inst box c t side
range_by_side inst box c t range h Over = h.least ∙ sym (over_least inst box c t)
range_by_side inst box c t range h Under = h.greatest ∙ sym (under_greatest inst box c t)

IsRangeOf-by_side : (inst : Tables) (box : List Span) (c t : ℕ) (range : LoadRange)
    → ((side : Side) → range_end side range ≡ extreme_load inst box c t side) → IsRangeOf inst box c t range
IsRangeOf-by_side inst box c t range h = record {
  least = h Over ∙ over_least inst box c t;
  greatest = h Under ∙ under_greatest inst box c t;
}

end_after : (side : Side) (range : LoadRange) (before : Extent) (n : ℕ) (after : Extent) (m : ℕ)
    → range_end side (replaced range before n after m) ≡ end_replaced side range before n after m
end_after Over range before n after m = refl
end_after Under range before n after m = refl

-- ---- how large a load can be
fold_min_within : (b : ℕ) (f : ℕ → ℤ) (z : ℤ) (ks : List ℕ) → unsigned_abs z ≤ b → ((k : ℕ) → unsigned_abs (f k) ≤ b)
    → unsigned_abs (fold int_min z (map f ks)) ≤ b
fold_min_within b f z [] h all = h
fold_min_within b f z (k ∷ ks) h all = fold_min_within b f (int_min z (f k)) ks (least h (all k)) all
  where
    least : unsigned_abs z ≤ b → unsigned_abs (f k) ≤ b → unsigned_abs (int_min z (f k)) ≤ b
    least p q = omega (arith, signed_arith)

fold_max_within : (b : ℕ) (f : ℕ → ℤ) (z : ℤ) (ks : List ℕ) → unsigned_abs z ≤ b → ((k : ℕ) → unsigned_abs (f k) ≤ b)
    → unsigned_abs (fold int_max z (map f ks)) ≤ b
fold_max_within b f z [] h all = h
fold_max_within b f z (k ∷ ks) h all = fold_max_within b f (int_max z (f k)) ks (greatest h (all k)) all
  where
    greatest : unsigned_abs z ≤ b → unsigned_abs (f k) ≤ b → unsigned_abs (int_max z (f k)) ≤ b
    greatest p q = omega (arith, signed_arith)

extreme_over_within : (side : Side) (b : ℕ) (f : ℕ → ℤ) (ks : List ℕ) → ((k : ℕ) → unsigned_abs (f k) ≤ b)
    → unsigned_abs (extreme_over side f ks) ≤ b
unfolding least_over greatest_over
extreme_over_within Over b f [] all = omega arith
extreme_over_within Over b f (k ∷ ks) all = fold_min_within b f (f k) ks (all k) all
extreme_over_within Under b f [] all = omega arith
extreme_over_within Under b f (k ∷ ks) all = fold_max_within b f (f k) ks (all k) all

extreme_load_small : (inst : Tables) (box : List Span) (c t : ℕ) (side : Side) → IsFitting inst
    → unsigned_abs (extreme_load inst box c t side) ≤ 1_000_000_000_000_000_000_000_000
extreme_load_small inst box c t side f =
    let few : length inst.names ≤ 1024 = f.names.few in
    let all = sum_below-within (length inst.names) 100_000_000_000_000_000_000
    (λ i. extreme_over side (load_by_start inst c t i) (starts_in inst i (span_of box i)))
    (λ i l. extreme_over_within side 100_000_000_000_000_000_000 (load_by_start inst c t i)
    (starts_in inst i (span_of box i)) (λ s. omega (arith, load_at_small inst c t i (Some s) f l))) in
    omega (arith, all, few)

pub ranges_small : (inst : Tables) (v : KeptLoads) (z : ℕ) → IsFitting inst → IsOver inst v → z < length v.loads
    → IsSmallRange (get_or v.loads z no_load)
ranges_small inst v z f over l side =
    let w = place_found inst z f.some_periods (omega (arith, l, over.places)) in
    let c = z / inst.periods in
    let t = z % inst.periods + 1 in
    let is = range_by_side inst v.spans c t (kept_range inst v c t) (over.loads c t w.resource w.from w.to) side in
    let small = extreme_load_small inst v.spans c t side f in
    subst (λ (p : ℕ). unsigned_abs (range_end side (get_or v.loads p no_load)) ≤ 1_000_000_000_000_000_000_000_000)
    w.place (rw is small)

-- ---- one interval is changed
load_after : (inst : Tables) (box : List Span) (c t : ℕ) (side : Side) (i : ℕ) (span : Span)
    → i < length inst.names → length box ≡ length inst.names
    → extreme_load inst (set box i span) c t side ≡ extreme_load inst box c t side
    +ℤ (extreme_over side (load_by_start inst c t i) (starts_in inst i span)
    -ℤ extreme_over side (load_by_start inst c t i) (starts_in inst i (span_of box i)))
load_after inst box c t side i span l each =
    sum_below-set (length inst.names) i box span (record { from = 0; to = 0 })
    (λ k x. extreme_over side (load_by_start inst c t k) (starts_in inst k x)) l (omega (arith, each))

-- the extents of an interval, and how many starts it has
pub record AreSpanExtents (inst : Tables) (i : ℕ) (span : Span) (extents : List Extent) (n : ℕ) : Type 0 where
  pub count : n ≡ length (starts_in inst i span)
  pub of_starts : AreExtentsOf inst i (starts_in inst i span) extents

span_end : (inst : Tables) (i : ℕ) (span : Span) (extents : List Extent) (n c t : ℕ) (side : Side)
    → AreSpanExtents inst i span extents n → c < length inst.resource_names → 1 ≤ t → t ≤ inst.periods
    → end_to side (extent_at extents (place_of inst c t)) n
    ≡ extreme_over side (load_by_start inst c t i) (starts_in inst i span)
span_end inst i span extents n c t side h l one few =
    ap (end_to side (extent_at extents (place_of inst c t))) h.count ∙ (h.of_starts.extent c t l one few).ends side

difference : (a b c p q r d z : ℤ) → z ≡ (a +ℤ b) -ℤ c → a ≡ p → b ≡ q → c ≡ r → d ≡ p +ℤ (q -ℤ r) → z ≡ d
difference a b c p q r d z e f g h k = omega (arith, signed_arith)

pub IsOver-after : (inst : Tables) (v : KeptLoads) (i : ℕ) (span : Span) (before : List Extent) (n : ℕ)
    (after : List Extent) (m : ℕ) (loads : List LoadRange) → IsOver inst v → i < length inst.names
    → span.to ≤ tmax inst i → AreSpanExtents inst i (span_of v.spans i) before n → AreSpanExtents inst i span after m
    → length loads ≡ length v.loads
    → ((z : ℕ) → z < length v.loads → get_or loads z no_load
    ≡ replaced (get_or v.loads z no_load) (extent_at before z) n (extent_at after z) m)
    → IsOver inst (record { spans = set v.spans i span; loads = loads })
IsOver-after inst v i span before n after m loads over l end b a each changed =
    record {
      each = length-set v.spans i span ∙ over.each;
      ends = λ k o. ends k o (eqb k i) refl;
      places = each ∙ over.places;
      loads = λ c t o one few. IsRangeOf-by_side inst (set v.spans i span) c t (get_or loads (place_of inst c t)
          no_load)
          (λ side. by_side c t o one few side);
    }
  where
    ends : (k : ℕ) → k < length inst.names → (e : Bool) → eqb k i ≡ e → (span_of (set v.spans i span) k).to ≤ tmax
        inst k
    ends k o true q =
        let here : i ≡ k = grind (arith, nat_tests) in
        let now : span_of (set v.spans i span) i ≡ span =
        get_or-set_same v.spans i span (record { from = 0; to = 0 }) (omega (arith, l, over.each)) in
        subst (λ (j : ℕ). (span_of (set v.spans i span) j).to ≤ tmax inst j) here (rw now end)
    ends k o false q =
        let other : k ≢ i = grind (arith, nat_tests) in
        rw (get_or-set_other v.spans i k span (record { from = 0; to = 0 }) other) (over.ends k o)

    by_side : (c t : ℕ) → c < length inst.resource_names → 1 ≤ t → t ≤ inst.periods → (side : Side)
        → range_end side (get_or loads (place_of inst c t) no_load) ≡ extreme_load inst (set v.spans i span) c t side
    by_side c t o one few side =
        let within : place_of inst c t < length v.loads =
        omega (arith, place_within inst c t o one few, over.places) in
        let was = range_by_side inst v.spans c t (kept_range inst v c t) (over.loads c t o one few) side in
        let goes = span_end inst i (span_of v.spans i) before n c t side b o one few in
        let comes = span_end inst i span after m c t side a o one few in
        let now = ap (range_end side) (changed (place_of inst c t) within)
        ∙ end_after side (kept_range inst v c t) (extent_at before (place_of inst c t)) n
        (extent_at after (place_of inst c t)) m in
        difference _ _ _ _ _ _ _ _ now was comes goes (load_after inst v.spans c t side i span l over.each)

-- ---- a box without a start
no_starts : (inst : Tables) (i : ℕ) → starts_in inst i empty_span ≡ []
unfolding starts_in
no_starts inst i = refl

extreme_over-none : (side : Side) (f : ℕ → ℤ) (ks : List ℕ) → ks ≡ [] → extreme_over side f ks ≡ pos 0
unfolding least_over greatest_over
extreme_over-none Over f ks e = rw e refl
extreme_over-none Under f ks e = rw e refl

empty_load : (inst : Tables) (c t : ℕ) (side : Side)
    → extreme_load inst (replicate (length inst.names) empty_span) c t side ≡ pos 0
empty_load inst c t side =
    sum_below_same (length inst.names)
    (λ i. extreme_over side (load_by_start inst c t i)
    (starts_in inst i (span_of (replicate (length inst.names) empty_span) i))) (λ i. pos 0)
    (λ i l. extreme_over-none side (load_by_start inst c t i)
    (starts_in inst i (span_of (replicate (length inst.names) empty_span) i))
    (ap (starts_in inst i) (get_or-replicate (length inst.names) i empty_span (record { from = 0; to = 0 }) l)
    ∙ no_starts inst i)) ∙ sum_below-none (length inst.names)

no_load_by_side : (side : Side) → range_end side no_load ≡ pos 0
no_load_by_side Over = refl
no_load_by_side Under = refl

pub IsOver-empty : (inst : Tables) (spans : List Span) (loads : List LoadRange)
    → spans ≡ replicate (length inst.names) empty_span
    → loads ≡ replicate (length inst.resource_names * inst.periods) no_load
    → IsOver inst (record { spans = spans; loads = loads })
IsOver-empty inst spans loads e g =
    rw (e, g) (record {
      each = length-replicate (length inst.names) empty_span;
      ends = λ i l. rw (get_or-replicate (length inst.names) i empty_span (record { from = 0; to = 0 }) l) (omega
          arith);
      places = length-replicate (length inst.resource_names * inst.periods) no_load;
      loads = λ c t l one few. IsRangeOf-by_side inst (replicate (length inst.names) empty_span) c t
          (get_or (replicate (length inst.resource_names * inst.periods) no_load) (place_of inst c t) no_load)
          (λ side. ap (range_end side) (get_or-replicate (length inst.resource_names * inst.periods)
          (place_of inst c t) no_load no_load (place_within inst c t l one few)) ∙ no_load_by_side side
          ∙ sym (empty_load inst c t side));
    })

-- ---- place by place

-- what stands before place z is changed by f, and the rest is as it was
pub record AreChangedTo (f : ℕ → LoadRange → LoadRange) (z : ℕ) (old new : List LoadRange) : Type 0 where
  pub each : length new ≡ length old
  pub done : (w : ℕ) → w < z → w < length old → get_or new w no_load ≡ f w (get_or old w no_load)
  pub kept : (w : ℕ) → z ≤ w → get_or new w no_load ≡ get_or old w no_load

pub AreChangedTo-none : (f : ℕ → LoadRange → LoadRange) (loads : List LoadRange) → AreChangedTo f 0 loads loads
AreChangedTo-none f loads = record { each = refl; done = λ w l m. absurd (omega (arith, l)); kept = λ w l. refl }

pub AreChangedTo-more : (f : ℕ → LoadRange → LoadRange) (z : ℕ) (old now : List LoadRange) (range : LoadRange)
    → AreChangedTo f z old now → z < length now → range ≡ f z (get_or now z no_load)
    → AreChangedTo f (z + 1) old (set now z range)
AreChangedTo-more f z old now range h l e =
    record {
      each = length-set now z range ∙ h.each;
      done = λ w m k. at w m k (eqb w z) refl;
      kept = λ w m. let other : w ≢ z = omega (arith, m) in
          get_or-set_other now z w range no_load other ∙ h.kept w (omega (arith, m));
    }
  where
    at : (w : ℕ) → w < z + 1 → w < length old → (b : Bool) → eqb w z ≡ b
        → get_or (set now z range) w no_load ≡ f w (get_or old w no_load)
    at w m k true q =
        let here : z ≡ w = grind (arith, nat_tests) in
        let one : get_or (set now z range) z no_load ≡ f z (get_or old z no_load) =
        get_or-set_same now z range no_load l ∙ e ∙ ap (f z) (h.kept z (omega arith)) in
        subst (λ (x : ℕ). get_or (set now z range) x no_load ≡ f x (get_or old x no_load)) here one
    at w m k false q =
        let other : w ≢ z = grind (arith, nat_tests) in
        get_or-set_other now z w range no_load other ∙ h.done w (omega (arith, m, other)) k

-- ---- interval by interval
pub record AreSpansTo (given : List Span) (i : ℕ) (spans : List Span) : Type 0 where
  pub each : length spans ≡ length given
  pub same : (k : ℕ) → k < i → k < length given → span_of spans k ≡ span_of given k

pub AreSpansTo-more : (given : List Span) (i : ℕ) (spans : List Span) (span : Span) → AreSpansTo given i spans
    → i < length given → span ≡ span_of given i → AreSpansTo given (i + 1) (set spans i span)
AreSpansTo-more given i spans span h within is =
    record { each = length-set spans i span ∙ h.each; same = λ k l m. at k l m (eqb k i) refl }
  where
    at : (k : ℕ) → k < i + 1 → k < length given → (b : Bool) → eqb k i ≡ b → span_of (set spans i span) k ≡ span_of
        given k
    at k l m true e =
        let here : i ≡ k = grind (arith, nat_tests) in
        let now : span_of (set spans i span) i ≡ span =
        get_or-set_same spans i span (record { from = 0; to = 0 }) (omega (arith, within, h.each)) in
        subst (λ (j : ℕ). span_of (set spans i span) j ≡ span_of given j) here (now ∙ is)
    at k l m false e =
        let other : k ≢ i = grind (arith, nat_tests) in
        get_or-set_other spans i k span (record { from = 0; to = 0 }) other ∙ h.same k (omega (arith, l, other)) m

pub AreSpansTo-all : (given : List Span) (i : ℕ) (spans : List Span) → AreSpansTo given i spans → length given ≤ i
    → spans ≡ given
AreSpansTo-all given i spans h past =
    same_lists spans given h.each (λ k d l.
    let within : k < length given = omega (arith, l, h.each) in
    get_or_default spans k d (record { from = 0; to = 0 }) l ∙ h.same k (omega (arith, within, past)) within
    ∙ get_or_default given k (record { from = 0; to = 0 }) d within)

-- ---- bands
-- an intervention has no load in a period in which none of its runs is in progress
min_zero : (f : ℕ → ℤ) (z : ℤ) (ks : List ℕ) → z ≡ pos 0 → ((k : ℕ) → Contains ks k → f k ≡ pos 0)
    → fold int_min z (map f ks) ≡ pos 0
min_zero f z [] e all = e
min_zero f z (k ∷ ks) e all = min_zero f (int_min z (f k)) ks (rw (e, all k (0, omega arith, refl)) refl)
    (λ j w. all j (suc w.0, omega (arith, w.1), w.2))

max_zero : (f : ℕ → ℤ) (z : ℤ) (ks : List ℕ) → z ≡ pos 0 → ((k : ℕ) → Contains ks k → f k ≡ pos 0)
    → fold int_max z (map f ks) ≡ pos 0
max_zero f z [] e all = e
max_zero f z (k ∷ ks) e all = max_zero f (int_max z (f k)) ks (rw (e, all k (0, omega arith, refl)) refl)
    (λ j w. all j (suc w.0, omega (arith, w.1), w.2))

idle_loads : (side : Side) (f : ℕ → ℤ) (ks : List ℕ) → ((k : ℕ) → Contains ks k → f k ≡ pos 0)
    → extreme_over side f ks ≡ pos 0
unfolding least_over greatest_over
idle_loads Over f [] h = refl
idle_loads Under f [] h = refl
idle_loads Over f (j ∷ js) h = min_zero f (f j) js (h j (0, omega arith, refl))
    (λ k w. h k (suc w.0, omega (arith, w.1), w.2))
idle_loads Under f (j ∷ js) h = max_zero f (f j) js (h j (0, omega arith, refl))
    (λ k w. h k (suc w.0, omega (arith, w.1), w.2))

-- the starts of an interval
filtered : (p : ℕ → Bool) (xs : List ℕ) (x : ℕ) → Contains (filter p xs) x → Contains xs x × (p x ≡ true)
filtered p [] x (k, h, e) = absurd (omega (arith, h))
filtered p (y ∷ xs) x c = at (p y) refl (filtered p xs x) c
  where
    at : (b : Bool) → p y ≡ b → (Contains (filter p xs) x → Contains xs x × (p x ≡ true))
        → Contains (cond b (y ∷ filter p xs) (filter p xs)) x → Contains (y ∷ xs) x × (p x ≡ true)
    at true e more (zero, h, q) = ((zero, omega arith, q), subst (λ (z : ℕ). p z ≡ true) q e)
    at true e more (suc k, h, q) =
        let w = more (k, omega (arith, h), q) in ((suc w.0.0, omega (arith, w.0.1), w.0.2), w.1)
    at false e more c = let w = more c in ((suc w.0.0, omega (arith, w.0.1), w.0.2), w.1)

allowed_in : (inst : Tables) (i : ℕ) (span : Span) (s : ℕ) → Contains (starts_in inst i span) s
    → IsAllowedIn inst i span.from span.to s
unfolding starts_in
allowed_in inst i span s c = at (filtered (is_allowed inst i) (range_with_len span.from (span.to + 1 - span.from)) s c)
  where
    at : Contains (range_with_len span.from (span.to + 1 - span.from)) s × (is_allowed inst i s ≡ true)
        → IsAllowedIn inst i span.from span.to s
    at ((k, l, e), a) =
        let m : k < span.to + 1 - span.from = rw (length-range_with_len span.from (span.to + 1 - span.from)) at l in
        let f : span.from + k ≡ s = sym (get_or-range_with_len span.from (span.to + 1 - span.from) k s m) ∙ e in
        record { from = omega (arith, f); to = omega (arith, f, m); allowed = a }

-- no run of an interval is in progress in period t
abbrev IsIdleIn : Tables → ℕ → Span → ℕ → Type 0
IsIdleIn inst i span t = (s : ℕ) → IsAllowedIn inst i span.from span.to s → in_run inst i s t ≡ false

idle_span : (inst : Tables) (i : ℕ) (span : Span) (c t : ℕ) (side : Side) → IsIdleIn inst i span t
    → extreme_over side (load_by_start inst c t i) (starts_in inst i span) ≡ pos 0
idle_span inst i span c t side h = idle_loads side (load_by_start inst c t i) (starts_in inst i span)
    (λ s w. load_at-idle inst c t i s (h s (allowed_in inst i span s w)))

idle_part : (inst : Tables) (i : ℕ) (part whole : Span) (t : ℕ) → IsPart part whole → IsIdleIn inst i whole t
    → IsIdleIn inst i part t
idle_part inst i part whole t p h s a =
    let from = p.from in
    let to = p.to in
    let first = a.from in
    let last = a.to in
    h s (record { from = omega (arith, from, first); to = omega (arith, to, last); allowed = a.allowed })

same_sum : (x a b y : ℤ) → y ≡ x +ℤ (a -ℤ b) → a ≡ pos 0 → b ≡ pos 0 → y ≡ x
same_sum x a b y e f g = omega (arith, signed_arith)

load_kept : (inst : Tables) (box : List Span) (c t : ℕ) (side : Side) (i : ℕ) (whole : Span) → i < length inst.names
    → length box ≡ length inst.names → IsPart (span_of box i) whole → IsIdleIn inst i whole t
    → extreme_load inst (set box i whole) c t side ≡ extreme_load inst box c t side
load_kept inst box c t side i whole l each p h =
    let none = idle_span inst i whole c t side h in
    let was = idle_span inst i (span_of box i) c t side (idle_part inst i (span_of box i) whole t p h) in
    same_sum _ _ _ _ (load_after inst box c t side i whole l each) none was

off_same : (inst : Tables) (a b : List Span) (c t : ℕ) (side : Side)
    → extreme_load inst a c t side ≡ extreme_load inst b c t side → IsOffLimit inst b c t side
    → IsOffLimit inst a c t side
off_same inst a b c t Over e h = subst (λ (z : ℤ). upper_of inst c t <ℤ z)
    (sym (over_least inst b c t) ∙ sym e ∙ over_least inst a c t) h
off_same inst a b c t Under e h = subst (λ (z : ℤ). z <ℤ lower_of inst c t)
    (sym (under_greatest inst b c t) ∙ sym e ∙ under_greatest inst a c t) h

starts_in_whole : (inst : Tables) (box : List Span) (i : ℕ) (whole : Span) → length box ≡ length inst.names
    → IsPart (span_of box i) whole → HasStarts inst box → HasStarts inst (set box i whole)
starts_in_whole inst box i whole each p h k l = at (eqb k i) refl
  where
    at : (b : Bool) → eqb k i ≡ b → 0 < length (starts_in inst k (span_of (set box i whole) k))
    at true e =
        let here : i ≡ k = grind (arith, nat_tests) in
        let now : span_of (set box i whole) k ≡ whole = subst (λ (j : ℕ). span_of (set box i whole) j ≡ whole) here
        (get_or-set_same box i whole (record { from = 0; to = 0 }) (omega (arith, l, each, here))) in
        let w = start_found inst k (span_of box k) (h k l) in
        let q = subst (λ (j : ℕ). IsPart (span_of box j) whole) here p in
        let from = q.from in
        let to = q.to in
        let first = w.1.from in
        let last = w.1.to in
        rw now (has_start_from inst k w.0 whole (record {
          from = omega (arith, from, first);
          to = omega (arith, to, last);
          allowed = w.1.allowed;
        }))
    at false e =
        let other : k ≢ i = grind (arith, nat_tests) in
        rw (get_or-set_other box i k whole (record { from = 0; to = 0 }) other) (h k l)

-- a band that holds now is one in a period of a run of the whole interval
pub no_band_by : (inst : Tables) (box : List Span) (i : ℕ) (whole : Span) (from past : ℕ)
    → length box ≡ length inst.names → i < length inst.names → HasStarts inst box → IsPart (span_of box i) whole
    → NoBandHolds inst (set box i whole)
    → ((s t : ℕ) → IsAllowedIn inst i whole.from whole.to s → IsTrue (in_run inst i s t) → (from ≤ t) × (t < past))
    → ((c t : ℕ) (side : Side) → c < length inst.resource_names → from ≤ t → t < past
    → ¬ IsOffLimit inst box c t side) → NoBandHolds inst box
no_band_by inst box i whole from past each l starts part before runs none c t side band holds =
    at (ltb t from) refl (ltb t past) refl
  where
    outside : ((from ≤ t) × (t < past) → ⊥) → ⊥
    outside out = before c t side band (record {
      starts = starts_in_whole inst box i whole each part starts;
      load = off_same inst (set box i whole) box c t side (load_kept inst box c t side i whole l each part idle)
          holds.load;
    })
      where
        idle : IsIdleIn inst i whole t
        idle s a = whether (in_run inst i s t) refl
          where
            whether : (b : Bool) → in_run inst i s t ≡ b → in_run inst i s t ≡ false
            whether true r = absurd (out (runs s t a r))
            whether false r = r

    at : (a : Bool) → ltb t from ≡ a → (b : Bool) → ltb t past ≡ b → ⊥
    at true p b q = let m : t < from = grind (arith, nat_tests) in outside (λ w. omega (arith, m, w.0))
    at false p false q = let m : past ≤ t = grind (arith, nat_tests) in outside (λ w. omega (arith, m, w.1))
    at false p true q =
        let m : from ≤ t = grind (arith, nat_tests) in
        let n : t < past = grind (arith, nat_tests) in
        none c t side band.resource m n holds.load

pub no_band_from : (inst : Tables) (box : List Span) (past : ℕ) → past ≡ inst.periods + 1
    → ((c t : ℕ) (side : Side) → c < length inst.resource_names → 1 ≤ t → t < past → ¬ IsOffLimit inst box c t side)
    → NoBandHolds inst box
no_band_from inst box past e none c t side band holds =
    let to = band.to in
    none c t side band.resource band.from (omega (arith, to, e)) holds.load

holding_from_off : (inst : Tables) (box : List Span) (band : Band) → HasStarts inst box → IsOff inst box band
    → IsHoldingBand inst box band
holding_from_off inst box band starts h =
    record { is_band = h.is_band; holds = record { starts = starts; load = h.load } }

pub holding_if : (inst : Tables) (box : List Span) (o : Option Band) → HasStarts inst box
    → IfSome o (IsOff inst box) → IfSome o (IsHoldingBand inst box)
holding_if inst box None starts h = h
holding_if inst box (Some band) starts h = holding_from_off inst box band starts h

pub none_if : {A B : Type 0} (o : Option Band) → (A → B) → IfNone o A → IfNone o B
none_if None f h = f h
none_if (Some band) f h = h
