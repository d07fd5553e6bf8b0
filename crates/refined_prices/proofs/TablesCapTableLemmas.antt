-- The cap table as the code makes it: the workloads of an intervention one by one, then row by row, then a cap.
use Rattle.std.proofs.Common.{◌≡◌, ◌≢◌, ℕ, zero, suc, ◌+◌, ◌-◌, ◌*◌, ◌<◌, ◌≤◌, ◌^◌, ◌⊎◌, inl, inr, refl, sym, ◌∙◌, ap}
use Rattle.std.proofs.Common.{subst, arith, ℤ, pos, ◌+ℤ◌, ◌-ℤ◌, ◌≤ℤ◌, Bool, true, false, List, [], ◌∷◌, length}
use Rattle.std.proofs.Common.{get_or, set, Some, find, unsigned_abs, FitsSigned, to_z-of_z, mul-le-mul_right}
use Rattle.std.specs.Int.{w128, int_max}
use Rattle.std.specs.Prelude.{slice_index_or, option_map, unwrap_or, replicate}
use Rattle.std.proofs.lemmas.Bool.{cases_eq, cases_lt}
use Rattle.std.proofs.lemmas.Bool.Decides.{nat_tests}
use Rattle.std.proofs.lemmas.Int.{fits_signed_from_abs}
use Rattle.std.proofs.lemmas.List.{get_or-set_same, get_or-set_other, get_or_past, get_or_default, get_or_read}
use Rattle.std.proofs.lemmas.List.{length-set}
use Rattle.std.proofs.lemmas.List.Elements.{All-get_or}
use Rattle.fixed_num.specs.Sums.{sum_below}
use Rattle.fixed_num.proofs.Bits.{by_bits}
use Rattle.fixed_num.proofs.SignedLemmas.{signed_arith, back_from_abs}
use Rattle.fixed_num.proofs.SumLemmas.{sum_below-zero, sum_below_more, sum_below-within, abs-sum}
use Rattle.instance_model.specs.declared.parts.LoadCell.{LoadCell}
use Rattle.instance_model.specs.Tables.{Tables, is_allowed, in_run, lower_of, is_cell_of, load_of}
use Rattle.instance_model.specs.Fitting.{IsFitting, AreCells, HasKey}
use Rattle.instance_model.specs.Plans.{load_at}
use Rattle.instance_model.proofs.CellLemmas.{load_found}
use Rattle.instance_model.proofs.EntryLemmas.{IsRunning-from}
use Rattle.instance_model.proofs.FitLemmas.{lower_of_small}
use Rattle.lagrange_bound.specs.Least.{least_over}
use Rattle.lagrange_bound.specs.TailLemmas.{least_over_le, least_over_reached}
use Rattle.refined_prices.specs.Caps.{allowed_starts, least_load, most_taken, cap_of}
use Rattle.refined_prices.specs.tables.CapTables.{band_place, AreByBand, IsCapTable}
use Rattle.refined_prices.proofs.CapLemmas.{in_allowed_starts}
use Rattle.refined_prices.proofs.SizeLemmas.{most_taken_small, cap_of_small}

-- ---- the workloads of one intervention

-- a workload of a list
abbrev pub cell_at : List LoadCell → ℕ → LoadCell
cell_at cells j = get_or cells j (record { start = 0; period = 0; resource = 0; load = pos 0 })

-- its place in a row
abbrev pub place_of : ℕ → LoadCell → ℕ
place_of periods cell = band_place periods cell.resource cell.period

-- z is the most that the first n workloads take away at place k
pub record IsMostTaken (periods : ℕ) (cells : List LoadCell) (n k : ℕ) (z : ℤ) : Type 0 where
  pub some : pos 0 ≤ℤ z
  pub each : (j : ℕ) → j < n → place_of periods (cell_at cells j) ≡ k → (pos 0 -ℤ (cell_at cells j).load) ≤ℤ z
  pub reached : (z ≡ pos 0)
      ⊎ ((j : ℕ) × (j < n) × (place_of periods (cell_at cells j) ≡ k) × (z ≡ pos 0 -ℤ (cell_at cells j).load))

pub IsMostTaken-none : (periods : ℕ) (cells : List LoadCell) (k : ℕ) (z : ℤ) → z ≡ pos 0
    → IsMostTaken periods cells 0 k z
IsMostTaken-none periods cells k z e = record {
  some = rw e (omega (arith, signed_arith));
  each = λ j l h. absurd (omega (arith, l));
  reached = inl e;
}

-- one workload more, at the same place or another
same_place : (periods : ℕ) (cells : List LoadCell) (n k : ℕ) (z : ℤ) → place_of periods (cell_at cells n) ≡ k
    → IsMostTaken periods cells n k z
    → IsMostTaken periods cells (n + 1) k (int_max z (pos 0 -ℤ (cell_at cells n).load))
same_place periods cells n k z here w =
    let x : ℤ = pos 0 -ℤ (cell_at cells n).load in
    record {
      some = let a = w.some in above z (pos 0 -ℤ (cell_at cells n).load) (pos 0) a;
      each = λ j l h. by j h (cases_eq j n) l;
      reached = at (greater z (pos 0 -ℤ (cell_at cells n).load)) w.reached;
    }
  where
    above : (z x y : ℤ) → y ≤ℤ z → y ≤ℤ int_max z x
    above z x y h = omega (arith, signed_arith)

    itself : (z x : ℤ) → x ≤ℤ int_max z x
    itself z x = omega (arith, signed_arith)

    greater : (z x : ℤ) → (int_max z x ≡ z) ⊎ (int_max z x ≡ x)
    greater z x = grind (arith, signed_arith)

    by : (j : ℕ) → place_of periods (cell_at cells j) ≡ k → (j ≡ n) ⊎ (j ≡ n → ⊥) → j < n + 1
        → (pos 0 -ℤ (cell_at cells j).load) ≤ℤ int_max z (pos 0 -ℤ (cell_at cells n).load)
    by j h (inl e) l = rw e (itself z (pos 0 -ℤ (cell_at cells n).load))
    by j h (inr e) l = above z (pos 0 -ℤ (cell_at cells n).load) (pos 0 -ℤ (cell_at cells j).load)
        (w.each j (omega (arith, l, e)) h)

    at : (int_max z (pos 0 -ℤ (cell_at cells n).load) ≡ z)
        ⊎ (int_max z (pos 0 -ℤ (cell_at cells n).load) ≡ pos 0 -ℤ (cell_at cells n).load)
        → (z ≡ pos 0)
        ⊎ ((j : ℕ) × (j < n) × (place_of periods (cell_at cells j) ≡ k) × (z ≡ pos 0 -ℤ (cell_at cells j).load))
        → (int_max z (pos 0 -ℤ (cell_at cells n).load) ≡ pos 0)
        ⊎ ((j : ℕ) × (j < n + 1) × (place_of periods (cell_at cells j) ≡ k)
        × (int_max z (pos 0 -ℤ (cell_at cells n).load) ≡ pos 0 -ℤ (cell_at cells j).load))
    at (inr e) r = inr (n, omega arith, here, e)
    at (inl e) (inl r) = inl (e ∙ r)
    at (inl e) (inr (j, l, h, r)) = inr (j, omega (arith, l), h, e ∙ r)

other_place : (periods : ℕ) (cells : List LoadCell) (n k : ℕ) (z : ℤ) → (place_of periods (cell_at cells n) ≡ k → ⊥)
    → IsMostTaken periods cells n k z → IsMostTaken periods cells (n + 1) k z
other_place periods cells n k z there w = record {
  some = w.some;
  each = λ j l h. by j h (cases_eq j n) l;
  reached = at w.reached;
}
  where
    by : (j : ℕ) → place_of periods (cell_at cells j) ≡ k → (j ≡ n) ⊎ (j ≡ n → ⊥) → j < n + 1
        → (pos 0 -ℤ (cell_at cells j).load) ≤ℤ z
    by j h (inl e) l = absurd (there (ap (λ (m : ℕ). place_of periods (cell_at cells m)) (sym e) ∙ h))
    by j h (inr e) l = w.each j (omega (arith, l, e)) h

    at : (z ≡ pos 0)
        ⊎ ((j : ℕ) × (j < n) × (place_of periods (cell_at cells j) ≡ k) × (z ≡ pos 0 -ℤ (cell_at cells j).load))
        → (z ≡ pos 0)
        ⊎ ((j : ℕ) × (j < n + 1) × (place_of periods (cell_at cells j) ≡ k) × (z ≡ pos 0 -ℤ (cell_at cells j).load))
    at (inl r) = inl r
    at (inr (j, l, h, r)) = inr (j, omega (arith, l), h, r)

-- a row in which the place of the next workload was raised
pub IsMostTaken-more : (periods : ℕ) (cells : List LoadCell) (n p : ℕ) (row : List ℤ) (y : ℤ)
    → p ≡ place_of periods (cell_at cells n) → p < length row
    → y ≡ int_max (get_or row p (pos 0)) (pos 0 -ℤ (cell_at cells n).load)
    → ((k : ℕ) → k < length row → IsMostTaken periods cells n k (get_or row k (pos 0)))
    → (k : ℕ) → k < length row → IsMostTaken periods cells (n + 1) k (get_or (set row p y) k (pos 0))
IsMostTaken-more periods cells n p row y is low value before k l = by (cases_eq p k)
  where
    by : (p ≡ k) ⊎ (p ≡ k → ⊥) → IsMostTaken periods cells (n + 1) k (get_or (set row p y) k (pos 0))
    by (inl e) =
        let here = same_place periods cells n p (get_or row p (pos 0)) (sym is) (before p low) in
        subst (λ (m : ℕ). IsMostTaken periods cells (n + 1) m (get_or (set row p y) m (pos 0))) e
        (subst (IsMostTaken periods cells (n + 1) p) (sym (get_or-set_same row p y (pos 0) low ∙ value)) here)
    by (inr e) =
        let other : k ≢ p = λ f. e (sym f) in
        subst (IsMostTaken periods cells (n + 1) k) (sym (get_or-set_other row p k y (pos 0) other))
        (other_place periods cells n k (get_or row k (pos 0)) (λ f. e (is ∙ f)) (before k l))

-- a workload stands in a period of the horizon
pub cell_period : (inst : Tables) (i k : ℕ) (cells : List LoadCell) (d : LoadCell) → AreCells inst i cells
    → k < length cells → (1 ≤ (get_or cells k d).period) × ((get_or cells k d).period ≤ inst.periods)
cell_period inst i k cells d w l =
    let cell = get_or cells k d in
    let allowed = All-get_or (λ x. is_allowed inst i x.start ≡ true) cells k d l w.allowed in
    let running = All-get_or (λ x. in_run inst i x.start x.period ≡ true) cells k d l w.running in
    let r = IsRunning-from inst i (get_or cells k d).start (get_or cells k d).period allowed running in
    let a = r.start in let b = r.from in let c = r.to in let e = r.ends in
    (omega (arith, a, b), omega (arith, c, e))

-- what is taken away at most is small
pub IsMostTaken-small : (inst : Tables) (i k : ℕ) (cells : List LoadCell) (z : ℤ) → AreCells inst i cells
    → IsMostTaken inst.periods cells (length cells) k z → unsigned_abs z ≤ 10 ^ 20
IsMostTaken-small inst i k cells z w h = at h.reached
  where
    at : (z ≡ pos 0) ⊎ ((j : ℕ) × (j < length cells) × (place_of inst.periods (cell_at cells j) ≡ k)
        × (z ≡ pos 0 -ℤ (cell_at cells j).load)) → unsigned_abs z ≤ 10 ^ 20
    at (inl e) = rw e (omega arith)
    at (inr (j, l, p, e)) =
        let small = All-get_or (λ cell. unsigned_abs cell.load < 10 ^ 20) cells j
        (record { start = 0; period = 0; resource = 0; load = pos 0 }) l w.small in
        rw e (turned (cell_at cells j).load small)
      where
        turned : (x : ℤ) → unsigned_abs x < 10 ^ 20 → unsigned_abs (pos 0 -ℤ x) ≤ 10 ^ 20
        turned x h = omega (arith, signed_arith, h)

-- ---- the row of an intervention

-- places of different resources or periods differ
same_band : (p c t d u : ℕ) → 1 ≤ t → t ≤ p → 1 ≤ u → u ≤ p → band_place p c t ≡ band_place p d u
    → (c ≡ d) × (t ≡ u)
same_band p c t d u one few one' few' e = at (cases_lt c d) (cases_lt d c)
  where
    behind : (a b x y : ℕ) → a < b → x < p → a * p + x ≡ b * p + y → ⊥
    behind a b x y l h e = let whole : (a + 1) * p ≤ b * p = mul-le-mul_right p (omega (arith, l)) in
        omega (arith, whole, h, e)

    at : (c < d) ⊎ (d ≤ c) → (d < c) ⊎ (c ≤ d) → (c ≡ d) × (t ≡ u)
    at (inl l) _ = absurd (behind c d (t - 1) (u - 1) l (omega (arith, one, few)) e)
    at (inr _) (inl l) = absurd (behind d c (u - 1) (t - 1) l (omega (arith, one', few')) (sym e))
    at (inr h) (inr k) =
        let same : c ≡ d = omega (arith, h, k) in
        let row : c * p ≡ d * p = ap (λ (n : ℕ). n * p) same in
        (same, omega (arith, row, e, one, one'))

-- a workload is 0, or that of a cell with its key
load_or_cell : (inst : Tables) (i s c t : ℕ) (cells : List LoadCell) → slice_index_or inst.loads i [] ≡ cells
    → (load_of inst i s c t ≡ pos 0) ⊎ ((j : ℕ) × (j < length cells)
    × (is_cell_of s t c (cell_at cells j) ≡ true) × (load_of inst i s c t ≡ (cell_at cells j).load))
unfolding load_of
load_or_cell inst i s c t cells row = rw row (search_in cells)
  where
    search_in : (xs : List LoadCell)
        → (unwrap_or (option_map (λ cell. cell.load) (find (is_cell_of s t c) xs)) (pos 0) ≡ pos 0)
        ⊎ ((j : ℕ) × (j < length xs) × (is_cell_of s t c (cell_at xs j) ≡ true)
        × (unwrap_or (option_map (λ cell. cell.load) (find (is_cell_of s t c) xs)) (pos 0) ≡ (cell_at xs j).load))
    search_in [] = inl refl
    search_in (x ∷ xs) = at (is_cell_of s t c x) refl (search_in xs)
      where
        at : (b : Bool) → is_cell_of s t c x ≡ b
            → (unwrap_or (option_map (λ cell. cell.load) (find (is_cell_of s t c) xs)) (pos 0) ≡ pos 0)
            ⊎ ((j : ℕ) × (j < length xs) × (is_cell_of s t c (cell_at xs j) ≡ true)
            × (unwrap_or (option_map (λ cell. cell.load) (find (is_cell_of s t c) xs)) (pos 0) ≡ (cell_at xs j).load))
            → (unwrap_or (option_map (λ cell. cell.load) (find (is_cell_of s t c) (x ∷ xs))) (pos 0) ≡ pos 0)
            ⊎ ((j : ℕ) × (j < length (x ∷ xs)) × (is_cell_of s t c (cell_at (x ∷ xs) j) ≡ true)
            × (unwrap_or (option_map (λ cell. cell.load) (find (is_cell_of s t c) (x ∷ xs))) (pos 0)
            ≡ (cell_at (x ∷ xs) j).load))
        at true e rest = inr (zero, omega arith, e, rw e refl)
        at false e (inl r) = inl (rw e r)
        at false e (inr (j, l, h, r)) = inr (suc j, omega (arith, l), h, rw e r)

-- a bound on all values is one on the least, and so is 0
least_reached : (f : ℕ → ℤ) (ks : List ℕ) (z : ℤ) → pos 0 ≤ℤ z → ((k : ℕ) → (pos 0 -ℤ f k) ≤ℤ z)
    → (pos 0 -ℤ least_over f ks) ≤ℤ z
unfolding least_over
least_reached f [] z some h = omega (arith, signed_arith)
least_reached f (k ∷ ks) z some h =
    let w = least_over_reached f (k ∷ ks) (omega arith) in
    subst (λ (x : ℤ). (pos 0 -ℤ x) ≤ℤ z) (sym w.2) (h w.0)

-- after all workloads: what the intervention takes away at most
pub IsMostTaken-all : (inst : Tables) (i c t : ℕ) (cells : List LoadCell) (z : ℤ) → AreCells inst i cells
    → slice_index_or inst.loads i [] ≡ cells → 1 ≤ t → t ≤ inst.periods
    → IsMostTaken inst.periods cells (length cells) (band_place inst.periods c t) z → z ≡ most_taken inst c t i
unfolding most_taken least_load load_at
IsMostTaken-all inst i c t cells z w row one few h =
    meet z (least_over f (allowed_starts inst i)) h.some low (high h.reached)
  where
    f : ℕ → ℤ
    f s = load_at inst c t i (Some s)

    d : LoadCell
    d = record { start = 0; period = 0; resource = 0; load = pos 0 }

    meet : (z x : ℤ) → pos 0 ≤ℤ z → (pos 0 -ℤ x) ≤ℤ z → z ≤ℤ int_max (pos 0) (pos 0 -ℤ x)
        → z ≡ int_max (pos 0) (pos 0 -ℤ x)
    meet z x some a b = omega (arith, signed_arith)

    -- no allowed start takes away more
    each_start : (s : ℕ) → (pos 0 -ℤ f s) ≤ℤ z
    each_start s = by (in_run inst i s t) refl
      where
        zero_case : (x : ℤ) → x ≡ pos 0 → (pos 0 -ℤ x) ≤ℤ z
        zero_case x e = let a = h.some in omega (arith, signed_arith)

        at : (load_of inst i s c t ≡ pos 0) ⊎ ((j : ℕ) × (j < length cells)
            × (is_cell_of s t c (cell_at cells j) ≡ true) × (load_of inst i s c t ≡ (cell_at cells j).load))
            → (pos 0 -ℤ load_of inst i s c t) ≤ℤ z
        at (inl e) = zero_case (load_of inst i s c t) e
        at (inr (j, l, k, e)) =
            let period : (cell_at cells j).period ≡ t = grind (arith, nat_tests) in
            let resource : (cell_at cells j).resource ≡ c = grind (arith, nat_tests) in
            rw e (h.each j l (rw (period, resource) refl))

        by : (b : Bool) → in_run inst i s t ≡ b → (pos 0 -ℤ f s) ≤ℤ z
        by true e = rw e (at (load_or_cell inst i s c t cells row))
        by false e = rw e (zero_case (pos 0) refl)

    low : (pos 0 -ℤ least_over f (allowed_starts inst i)) ≤ℤ z
    low = least_reached f (allowed_starts inst i) z h.some each_start

    high : (z ≡ pos 0) ⊎ ((j : ℕ) × (j < length cells)
        × (place_of inst.periods (cell_at cells j) ≡ band_place inst.periods c t)
        × (z ≡ pos 0 -ℤ (cell_at cells j).load))
        → z ≤ℤ int_max (pos 0) (pos 0 -ℤ least_over f (allowed_starts inst i))
    high (inl e) = rw e (zero_below (least_over f (allowed_starts inst i)))
      where
        zero_below : (x : ℤ) → pos 0 ≤ℤ int_max (pos 0) (pos 0 -ℤ x)
        zero_below x = omega (arith, signed_arith)
    high (inr (j, l, p, e)) =
        let s = (cell_at cells j).start in
        let bounds = cell_period inst i j cells d w l in
        let same = same_band inst.periods (cell_at cells j).resource (cell_at cells j).period c t bounds.0 bounds.1 one
        few p in
        let allowed = All-get_or (λ x. is_allowed inst i x.start ≡ true) cells j d l w.allowed in
        let running = All-get_or (λ x. in_run inst i x.start x.period ≡ true) cells j d l w.running in
        let runs : in_run inst i (cell_at cells j).start t ≡ true =
        subst (λ (u : ℕ). in_run inst i (cell_at cells j).start u ≡ true) same.1 running in
        let found = load_found inst i (cell_at cells j).start c t j cells d row w.ordered l
        (λ x. key (get_or_default cells j d x l) same.0 same.1) in
        let here : f (cell_at cells j).start ≡ (cell_at cells j).load = rw runs (sym found) in
        let least = least_over_le f (allowed_starts inst i) (cell_at cells j).start
        (in_allowed_starts inst i (cell_at cells j).start allowed) in
        reach z (cell_at cells j).load (least_over f (allowed_starts inst i)) e
        (subst (λ (x : ℤ). least_over f (allowed_starts inst i) ≤ℤ x) here least)
      where
        reach : (z x y : ℤ) → z ≡ pos 0 -ℤ x → y ≤ℤ x → z ≤ℤ int_max (pos 0) (pos 0 -ℤ y)
        reach z x y e h = omega (arith, signed_arith)

        key : {x : LoadCell} → cell_at cells j ≡ x → (cell_at cells j).resource ≡ c → (cell_at cells j).period ≡ t
            → HasKey (cell_at cells j).start t c x
        key {x} e r q = subst (HasKey (cell_at cells j).start t c) e
            (record { start = refl; period = q; resource = r })

-- the row has the most of each place
pub AreByBand-taken : (inst : Tables) (i n : ℕ) (cells : List LoadCell) (row : List ℤ) → AreCells inst i cells
    → slice_index_or inst.loads i [] ≡ cells → n ≡ length cells
    → length row ≡ length inst.resource_names * inst.periods
    → ((k : ℕ) → k < length row → IsMostTaken inst.periods cells n k (get_or row k (pos 0)))
    → AreByBand inst (λ c t. most_taken inst c t i) row
AreByBand-taken inst i n cells row w is all each h = record {
  each = each;
  at = λ c t l one few.
      let low : band_place inst.periods c t < length row = within c t l one few in
      IsMostTaken-all inst i c t cells (get_or row (band_place inst.periods c t) (pos 0)) w is one few
      (subst (λ (m : ℕ). IsMostTaken inst.periods cells m (band_place inst.periods c t)
      (get_or row (band_place inst.periods c t) (pos 0))) all (h (band_place inst.periods c t) low));
}
  where
    within : (c t : ℕ) → c < length inst.resource_names → 1 ≤ t → t ≤ inst.periods
        → band_place inst.periods c t < length row
    within c t l one few =
        let whole : (c + 1) * inst.periods ≤ length inst.resource_names * inst.periods =
        mul-le-mul_right inst.periods (omega (arith, l)) in
        omega (arith, whole, one, few, each)

-- and each number of it is small
pub row_small : (inst : Tables) (i n : ℕ) (cells : List LoadCell) (row : List ℤ) → AreCells inst i cells
    → n ≡ length cells → ((k : ℕ) → k < length row → IsMostTaken inst.periods cells n k (get_or row k (pos 0)))
    → (k : ℕ) → unsigned_abs (get_or row k (pos 0)) ≤ 10 ^ 20
row_small inst i n cells row w all h k = by (cases_lt k (length row))
  where
    by : (k < length row) ⊎ (length row ≤ k) → unsigned_abs (get_or row k (pos 0)) ≤ 10 ^ 20
    by (inl l) = IsMostTaken-small inst i k cells (get_or row k (pos 0)) w
        (subst (λ (m : ℕ). IsMostTaken inst.periods cells m k (get_or row k (pos 0))) all (h k l))
    by (inr l) = rw (get_or_past row k (pos 0) l) (omega arith)

-- ---- row by row

zeros_at : (n k : ℕ) → get_or (replicate {A = ℤ} n (pos 0)) k (pos 0) ≡ pos 0
zeros_at zero k = refl
zeros_at (suc n) zero = refl
zeros_at (suc n) (suc k) = zeros_at n k

length-zeros : (n : ℕ) → length (replicate {A = ℤ} n (pos 0)) ≡ n
length-zeros zero = refl
length-zeros (suc n) = ap suc (length-zeros n)

pub IsCapTable-none : (inst : Tables) (n : ℕ) (numbers : List ℤ) → numbers ≡ replicate {A = ℤ} n (pos 0)
    → n ≡ length inst.resource_names * inst.periods
    → AreByBand inst (λ c t. sum_below 0 (most_taken inst c t)) numbers
IsCapTable-none inst n numbers is e = record {
  each = ap length is ∙ length-zeros n ∙ e;
  at = λ c t l one few. ap (λ (xs : List ℤ). get_or xs (band_place inst.periods c t) (pos 0)) is
      ∙ zeros_at n (band_place inst.periods c t) ∙ sym (sum_below-zero (most_taken inst c t));
}

pub IsCapTable-more : (inst : Tables) (i : ℕ) (old new row : List ℤ)
    → AreByBand inst (λ c t. sum_below i (most_taken inst c t)) old
    → AreByBand inst (λ c t. most_taken inst c t i) row → length new ≡ length old
    → ((k : ℕ) → k < length old → get_or new k (pos 0) ≡ get_or old k (pos 0) +ℤ get_or row k (pos 0))
    → AreByBand inst (λ c t. sum_below (i + 1) (most_taken inst c t)) new
IsCapTable-more inst i old new row w r same added = record {
  each = same ∙ w.each;
  at = λ c t l one few.
      let k = band_place inst.periods c t in
      added (band_place inst.periods c t) (within c t l one few)
      ∙ ap (λ (x : ℤ). x +ℤ get_or row (band_place inst.periods c t) (pos 0)) (w.at c t l one few)
      ∙ ap (λ (x : ℤ). sum_below i (most_taken inst c t) +ℤ x) (r.at c t l one few)
      ∙ sym (sum_below_more i (most_taken inst c t));
}
  where
    within : (c t : ℕ) → c < length inst.resource_names → 1 ≤ t → t ≤ inst.periods
        → band_place inst.periods c t < length old
    within c t l one few =
        let whole : (c + 1) * inst.periods ≤ length inst.resource_names * inst.periods =
        mul-le-mul_right inst.periods (omega (arith, l)) in
        let each = w.each in
        omega (arith, whole, one, few, each)

-- sums of small numbers are small
pub sums_small-more : (i : ℕ) (old new row : List ℤ) → length new ≡ length old
    → ((k : ℕ) → k < length old → get_or new k (pos 0) ≡ get_or old k (pos 0) +ℤ get_or row k (pos 0))
    → ((k : ℕ) → unsigned_abs (get_or old k (pos 0)) ≤ i * 100_000_000_000_000_000_000)
    → ((k : ℕ) → unsigned_abs (get_or row k (pos 0)) ≤ 10 ^ 20)
    → (k : ℕ) → unsigned_abs (get_or new k (pos 0)) ≤ (i + 1) * 100_000_000_000_000_000_000
sums_small-more i old new row same added small each k = by (cases_lt k (length old))
  where
    by : (k < length old) ⊎ (length old ≤ k)
        → unsigned_abs (get_or new k (pos 0)) ≤ (i + 1) * 100_000_000_000_000_000_000
    by (inl l) = rw (added k l) (omega (arith, abs-sum (get_or old k (pos 0)) (get_or row k (pos 0)), small k, each k))
    by (inr l) = rw (get_or_past new k (pos 0) (omega (arith, same, l))) (omega arith)

pub zeros_small : (n k : ℕ) (xs : List ℤ) → xs ≡ replicate {A = ℤ} n (pos 0)
    → unsigned_abs (get_or xs k (pos 0)) ≤ 0
zeros_small n k xs is = rw is (rw (zeros_at n k) (omega arith))

-- ---- a cap that is read

pub record IsCapRead (inst : Tables) (c t : ℕ) (x y : ℤ) : Type 0 where
  pub fits : FitsSigned w128 (by_bits x +ℤ by_bits y)
  pub value : by_bits (by_bits x +ℤ by_bits y) ≡ cap_of inst c t

pub IsCapRead-from : (inst : Tables) (c t : ℕ) (x y : ℤ) → IsFitting inst → x ≡ int_max (pos 0) (lower_of inst c t)
    → y ≡ sum_below (length inst.names) (most_taken inst c t) → IsCapRead inst c t x y
unfolding cap_of
IsCapRead-from inst c t x y f p q =
    let cap = (cap_of_small inst c t f).1 in
    let taken = sum_below-within (length inst.names) 100_000_000_000_000_000_000 (most_taken inst c t)
    (λ i l. (most_taken_small inst c t i f l).1) in
    let few = f.names.few in
    let limit = above_zero (lower_of inst c t) (lower_of_small inst c t f) in
    let a : by_bits (int_max (pos 0) (lower_of inst c t)) ≡ int_max (pos 0) (lower_of inst c t) =
    back_from_abs (int_max (pos 0) (lower_of inst c t)) (omega (arith, limit)) in
    let b : by_bits (sum_below (length inst.names) (most_taken inst c t))
    ≡ sum_below (length inst.names) (most_taken inst c t) =
    back_from_abs (sum_below (length inst.names) (most_taken inst c t)) (omega (arith, taken, few)) in
    rw (p, q) (record {
      fits = rw (a, b) (fits_signed_from_abs w128
          (int_max (pos 0) (lower_of inst c t) +ℤ sum_below (length inst.names) (most_taken inst c t))
          (omega (arith, cap)));
      value = rw (a, b) (back_from_abs
          (int_max (pos 0) (lower_of inst c t) +ℤ sum_below (length inst.names) (most_taken inst c t))
          (omega (arith, cap)));
    })
  where
    above_zero : (z : ℤ) → unsigned_abs z < 2 * 10 ^ 20 → unsigned_abs (int_max (pos 0) z) < 2 * 10 ^ 20
    above_zero z h = omega (arith, signed_arith, h)

pub limit_above_zero : (m z l : ℤ) → m ≡ int_max (by_bits z) (pos 0) → z ≡ l → unsigned_abs z < 2 * 10 ^ 20
    → m ≡ int_max (pos 0) l
limit_above_zero m z l e same h =
    let b : by_bits z ≡ z = back_from_abs z (omega (arith, h)) in
    e ∙ ap (λ (x : ℤ). int_max x (pos 0)) (b ∙ same) ∙ turned l
  where
    turned : (x : ℤ) → int_max x (pos 0) ≡ int_max (pos 0) x
    turned x = omega (arith, signed_arith)

pub table_read : (inst : Tables) (c t k : ℕ) (xs ys : List ℤ) (y : ℤ) → xs ≡ ys → IsCapTable inst ys
    → k ≡ band_place inst.periods c t → k < length inst.resource_names * inst.periods → y ≡ get_or xs k y
    → c < length inst.resource_names → 1 ≤ t → t ≤ inst.periods
    → y ≡ sum_below (length inst.names) (most_taken inst c t)
table_read inst c t k xs ys y same w place low read l one few =
    let each = w.each in
    let within : k < length xs = rw same (omega (arith, low, each)) in
    get_or_read xs k y within read (pos 0) ∙ ap (λ (zs : List ℤ). get_or zs k (pos 0)) same
    ∙ ap (λ (j : ℕ). get_or ys j (pos 0)) place ∙ w.at c t l one few

-- ---- a row as the code has it

pub taken_step : (periods : ℕ) (cells : List LoadCell) (n p : ℕ) (row : List ℤ) (x y : ℤ) (item : LoadCell)
    → item ≡ get_or cells n item → n < length cells → p ≡ place_of periods item → p < length row
    → x ≡ get_or row p x → y ≡ int_max (by_bits x) (pos 0 -ℤ item.load) → FitsSigned w128 x → FitsSigned w128 y
    → ((k : ℕ) → k < length row → IsMostTaken periods cells n k (get_or row k (pos 0)))
    → (k : ℕ) → k < length (set row p (by_bits y))
    → IsMostTaken periods cells (n + 1) k (get_or (set row p (by_bits y)) k (pos 0))
taken_step periods cells n p row x y item is l place low read value fits fits' before k h =
    let here : item ≡ cell_at cells n =
    get_or_read cells n item l is (record { start = 0; period = 0; resource = 0; load = pos 0 }) in
    let old : by_bits x ≡ get_or row p (pos 0) = to_z-of_z fits ∙ get_or_read row p x low read (pos 0) in
    let new : by_bits y ≡ y = to_z-of_z fits' in
    IsMostTaken-more periods cells n p row (by_bits y) (place ∙ ap (place_of periods) here) low
    (new ∙ value ∙ ap (λ (z : ℤ). int_max z (pos 0 -ℤ item.load)) old
    ∙ ap (λ (cell : LoadCell). int_max (get_or row p (pos 0)) (pos 0 -ℤ cell.load)) here) before k
    (omega (arith, h, length-set row p (by_bits y)))
