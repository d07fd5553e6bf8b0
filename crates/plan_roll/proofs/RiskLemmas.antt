-- Risks and soft flags of the rolled instance: how many there are, and where those of a start stand.
use Rattle.std.proofs.Common.{◌^◌, ◌≡◌, ℕ, zero, suc, ◌+◌, ◌-◌, ◌<◌, ◌≤◌, ◌⊎◌, inl, inr, refl, sym, ◌∙◌, ap, arith, ℤ}
use Rattle.std.proofs.Common.{pos, Bool, true, false, cond, List, [], ◌++◌, length, get_or, drop, Option}
use Rattle.std.proofs.Common.{unsigned_abs, All}
use Rattle.std.proofs.lemmas.Bool.{cases_lt}
use Rattle.std.proofs.lemmas.List.{get_or_append_left, get_or-append-add, length-take-le, length-drop, get_or-take}
use Rattle.std.proofs.lemmas.List.{get_or-drop}
use Rattle.std.proofs.lemmas.List.Elements.{All-take, All-drop}
use Rattle.instance_model.specs.Naturals.{count_sum}
use Rattle.instance_model.specs.Tables.{Tables, scenarios_of, tmax, delta_of, is_allowed, in_run, entries_at}
use Rattle.instance_model.specs.Tables.{entries_of, all_entries, entries_before, entry_place, scenarios_before}
use Rattle.instance_model.specs.Tables.{risk_place, risk_of}
use Rattle.instance_model.specs.Fitting.{IsFitting}
use Rattle.instance_model.proofs.EntryLemmas.{count_sum_le, count_sum_more, count_sum_same, entries_at-allowed}
use Rattle.instance_model.proofs.EntryLemmas.{entries_at-refused, entries_before_more, entries_before_end}
use Rattle.instance_model.proofs.EntryLemmas.{IsRunning-from, is_allowed_facts, scenarios_before_rises}
use Rattle.instance_model.proofs.EntryLemmas.{scenarios_before_more}
use Rattle.instance_shape.specs.FileTables.{lists_below}
use Rattle.instance_shape.proofs.CountSums.{count_sum_below}
use Rattle.instance_shape.proofs.ListsBelow.{length-lists_below, all_lists, all_cond}
use Rattle.plan_roll.specs.Rolled.{is_left, start_risks, rolled_risks, rolled}
use Rattle.plan_roll.proofs.StartLemmas.{IsLeftStart, IsLeftStart-from, is_left_is, tmax_is}

-- ---- lists one after another

within_sum : (i n : ℕ) (g : ℕ → ℕ) → i < n → count_sum i g + g i ≤ count_sum n g
within_sum i n g h = omega (arith, count_sum_more i g, count_sum_le (i + 1) n g (omega arith))

-- element q of list i stands behind the lists before it
list_at : {A : Type 0} (n i q : ℕ) (f : ℕ → List A) (d : A) → i < n → q < length (f i)
    → get_or (lists_below n f) (count_sum i (λ k. length (f k)) + q) d ≡ get_or (f i) q d
list_at zero i q f d h l = absurd (omega arith)
list_at (suc n) i q f d h l = by (cases_lt i n) (λ m. list_at n i q f d m l)
  where
    by : (i < n) ⊎ (n ≤ i)
        → (i < n → get_or (lists_below n f) (count_sum i (λ k. length (f k)) + q) d ≡ get_or (f i) q d)
        → get_or (lists_below n f ++ f n) (count_sum i (λ k. length (f k)) + q) d ≡ get_or (f i) q d
    by (inl m) r =
        get_or_append_left (lists_below n f) (f n) d (count_sum i (λ k. length (f k)) + q)
        (omega (arith, length-lists_below n f, within_sum i n (λ k. length (f k)) m))
        ∙ r m
    by (inr m) r =
        let same : i ≡ n = omega arith in
        ap (λ p. get_or (lists_below n f ++ f n) p d)
        (omega (arith, length-lists_below n f, ap (λ k. count_sum k (λ j. length (f j))) same))
        ∙ get_or-append-add (lists_below n f) (f n) q d
        ∙ ap (λ k. get_or (f k) q d) (sym same)

-- ---- the entries of a start

-- how many scenarios stand before a period
pub before_is : (inst : Tables) (plan : List (Option ℕ)) (period t : ℕ)
    → scenarios_before (rolled inst plan period) t ≡ scenarios_before inst t
unfolding scenarios_before
before_is inst plan period t = refl

-- a start that is left has as many entries as before
entries_left : (inst : Tables) (plan : List (Option ℕ)) (period : ℕ) (before : ℕ → ℕ) (i s : ℕ)
    → i < length inst.names → is_allowed (rolled inst plan period) i s ≡ true
    → entries_at (rolled inst plan period) before i s ≡ entries_at inst before i s
entries_left inst plan period before i s h a =
    let left = IsLeftStart-from inst plan period i s h a in
    entries_at-allowed (rolled inst plan period) before i s a
    ∙ ap (λ d. before (s + d) - before s) left.same
    ∙ sym (entries_at-allowed inst before i s left.allowed)

pub entries_at_fewer : (inst : Tables) (plan : List (Option ℕ)) (period : ℕ) (before : ℕ → ℕ) (i s : ℕ)
    → i < length inst.names → entries_at (rolled inst plan period) before i s ≤ entries_at inst before i s
entries_at_fewer inst plan period before i s h = by (is_allowed (rolled inst plan period) i s) refl
  where
    by : (b : Bool) → is_allowed (rolled inst plan period) i s ≡ b
        → entries_at (rolled inst plan period) before i s ≤ entries_at inst before i s
    by true a = omega (arith, entries_left inst plan period before i s h a)
    by false a = omega (arith, entries_at-refused (rolled inst plan period) before i s a)

entries_of_fewer : (inst : Tables) (plan : List (Option ℕ)) (period : ℕ) (before : ℕ → ℕ) (i : ℕ)
    → i < length inst.names → entries_of (rolled inst plan period) before i ≤ entries_of inst before i
unfolding entries_of
entries_of_fewer inst plan period before i h =
    let n = tmax_is inst plan period i h in
    omega (
      arith,
      ap (λ n. count_sum n (λ k. entries_at (rolled inst plan period) before i (k + 1))) n,
      count_sum_below (tmax inst i) (λ k. entries_at (rolled inst plan period) before i (k + 1))
          (λ k. entries_at inst before i (k + 1)) (λ k l. entries_at_fewer inst plan period before i (k + 1) h),
    )

pub all_entries_fewer : (inst : Tables) (plan : List (Option ℕ)) (period : ℕ) (before : ℕ → ℕ)
    → all_entries (rolled inst plan period) before ≤ all_entries inst before
unfolding all_entries
all_entries_fewer inst plan period before =
    count_sum_below (length inst.names) (entries_of (rolled inst plan period) before) (entries_of inst before)
    (λ i h. entries_of_fewer inst plan period before i h)

-- the entries of a start are among all
entries_before_rises : (inst : Tables) (before : ℕ → ℕ) (i s u : ℕ) → s ≤ u
    → entries_before inst before i s ≤ entries_before inst before i u
unfolding entries_before
entries_before_rises inst before i s u h =
    omega (arith, count_sum_le (s - 1) (u - 1) (λ k. entries_at inst before i (k + 1)) (omega arith))

start_within : (inst : Tables) (before : ℕ → ℕ) (i k : ℕ) → i < length inst.names → k < tmax inst i
    → entries_before inst before i (k + 1) + entries_at inst before i (k + 1) ≤ all_entries inst before
unfolding all_entries
start_within inst before i k h l =
    omega (
      arith,
      entries_before_more inst before i k,
      entries_before_rises inst before i (k + 1 + 1) (tmax inst i + 1) (omega arith),
      entries_before_end inst before i,
      count_sum_le (i + 1) (length inst.names) (entries_of inst before) (omega arith),
    )

-- ---- the lists of risks

length-start_risks : (inst : Tables) (i k : ℕ) → IsFitting inst → i < length inst.names → k < tmax inst i
    → length (start_risks inst i (k + 1)) ≡ entries_at inst (scenarios_before inst) i (k + 1)
unfolding start_risks
length-start_risks inst i k f h l =
    let before = scenarios_before inst in
    length-take-le (entries_at inst before i (k + 1)) (drop (entries_before inst before i (k + 1)) inst.risks)
    (omega (
      arith,
      length-drop (entries_before inst before i (k + 1)) inst.risks,
      f.risks_each,
      start_within inst before i k h l,
    ))

-- the risks of start k + 1, if it is left
abbrev left_risks : Tables → List (Option ℕ) → ℕ → ℕ → ℕ → List ℤ
left_risks inst plan period i k = cond (is_left inst plan period i (k + 1)) (start_risks inst i (k + 1)) []

length-left_risks : (inst : Tables) (plan : List (Option ℕ)) (period i k : ℕ) → IsFitting inst
    → i < length inst.names → k < tmax inst i → length (left_risks inst plan period i k)
    ≡ entries_at (rolled inst plan period) (scenarios_before inst) i (k + 1)
length-left_risks inst plan period i k f h l =
    by (is_left inst plan period i (k + 1)) (sym (is_left_is inst plan period i (k + 1)))
  where
    before : ℕ → ℕ
    before = scenarios_before inst

    by : (b : Bool) → is_allowed (rolled inst plan period) i (k + 1) ≡ b
        → length (cond b (start_risks inst i (k + 1)) [])
        ≡ entries_at (rolled inst plan period) before i (k + 1)
    by true a = length-start_risks inst i k f h l ∙ sym (entries_left inst plan period before i (k + 1) h a)
    by false a = sym (entries_at-refused (rolled inst plan period) before i (k + 1) a)

length-rolled_risks : (inst : Tables) (plan : List (Option ℕ)) (period i : ℕ) → IsFitting inst
    → i < length inst.names → length (rolled_risks inst plan period i)
    ≡ entries_of (rolled inst plan period) (scenarios_before inst) i
unfolding rolled_risks entries_of
length-rolled_risks inst plan period i f h =
    length-lists_below (tmax inst i) (left_risks inst plan period i)
    ∙ count_sum_same (tmax inst i) (λ k. length (left_risks inst plan period i k))
    (λ k. entries_at (rolled inst plan period) (scenarios_before inst) i (k + 1))
    (λ k l. length-left_risks inst plan period i k f h l)
    ∙ ap (λ n. count_sum n (λ k. entries_at (rolled inst plan period) (scenarios_before inst) i (k + 1)))
    (sym (tmax_is inst plan period i h))

pub length-risks : (inst : Tables) (plan : List (Option ℕ)) (period : ℕ) → IsFitting inst
    → length (rolled inst plan period).risks ≡ all_entries (rolled inst plan period) (scenarios_before inst)
unfolding all_entries
length-risks inst plan period f =
    length-lists_below (length inst.names) (rolled_risks inst plan period)
    ∙ count_sum_same (length inst.names) (λ i. length (rolled_risks inst plan period i))
    (entries_of (rolled inst plan period) (scenarios_before inst))
    (λ i h. length-rolled_risks inst plan period i f h)

pub risks_small : (inst : Tables) (plan : List (Option ℕ)) (period : ℕ) → IsFitting inst
    → All (λ z. unsigned_abs z < 10 ^ 20) (rolled inst plan period).risks
unfolding rolled_risks start_risks
risks_small inst plan period f =
    let P : ℤ → Type 0 = λ z. unsigned_abs z < 10 ^ 20 in
    let before = scenarios_before inst in
    all_lists P (length inst.names) (rolled_risks inst plan period)
    (λ i h. all_lists P (tmax inst i) (left_risks inst plan period i)
    (λ k l. all_cond P (is_left inst plan period i (k + 1)) (start_risks inst i (k + 1))
    (λ e. All-take P (entries_at inst before i (k + 1)) (drop (entries_before inst before i (k + 1)) inst.risks)
    (All-drop P (entries_before inst before i (k + 1)) inst.risks f.risks_small))))

-- ---- the risk of a start that is left

-- the place of a risk among those of its start
abbrev inner_place : Tables → ℕ → ℕ → ℕ → ℕ
inner_place inst s t k = (scenarios_before inst t - scenarios_before inst s) + (k - 1)

inner_within : (inst : Tables) (i s t k : ℕ) → IsFitting inst → is_allowed inst i s ≡ true → in_run inst i s t ≡ true
    → 1 ≤ k → k ≤ scenarios_of inst t → inner_place inst s t k < entries_at inst (scenarios_before inst) i s
inner_within inst i s t k f a r one few =
    let run = IsRunning-from inst i s t a r in
    let before = scenarios_before inst in
    omega (
      arith,
      entries_at-allowed inst before i s a,
      scenarios_before_more inst t f.scenarios_each (omega (arith, run.start, run.from))
          (omega (arith, run.to, run.ends)),
      scenarios_before_rises inst s t run.from,
      scenarios_before_rises inst (t + 1) (s + delta_of inst i s) (omega (arith, run.to)),
    )

old_at : (inst : Tables) (i s t k : ℕ) → inner_place inst s t k < entries_at inst (scenarios_before inst) i s
    → get_or (start_risks inst i s) (inner_place inst s t k) (pos 0) ≡ risk_of inst i s t k
unfolding start_risks risk_of risk_place entry_place
old_at inst i s t k h =
    let before = scenarios_before inst in
    let place : entries_before inst before i s + inner_place inst s t k ≡ entries_before inst before i s
    + (before t - before s) + (k - 1) = omega arith in
    get_or-take (entries_at inst before i s) (drop (entries_before inst before i s) inst.risks)
    (inner_place inst s t k) (pos 0) h
    ∙ get_or-drop (entries_before inst before i s) inst.risks (inner_place inst s t k) (pos 0)
    ∙ ap (λ p. get_or inst.risks p (pos 0)) place

new_place : (inst : Tables) (plan : List (Option ℕ)) (period i m t k : ℕ) → IsFitting inst → i < length inst.names
    → m < tmax inst i → risk_place (rolled inst plan period) i (m + 1) t k
    ≡ count_sum i (λ j. length (rolled_risks inst plan period j))
    + (count_sum m (λ j. length (left_risks inst plan period i j)) + inner_place inst (m + 1) t k)
unfolding risk_place entry_place entries_before scenarios_before
new_place inst plan period i m t k f h l =
    let before = scenarios_before inst in
    let R = rolled inst plan period in
    let same : m + 1 - 1 ≡ m = omega arith in
    omega (
      arith,
      count_sum_same i (λ j. length (rolled_risks inst plan period j)) (entries_of R before)
          (λ j q. length-rolled_risks inst plan period j f (omega (arith, q, h))),
      ap (λ n. count_sum n (λ j. entries_at R before i (j + 1))) same,
      count_sum_same m (λ j. length (left_risks inst plan period i j)) (λ j. entries_at R before i (j + 1))
          (λ j q. length-left_risks inst plan period i j f h (omega (arith, q, l))),
    )

risk_at_start : (inst : Tables) (plan : List (Option ℕ)) (period i m t k : ℕ) → IsFitting inst → i < length inst.names
    → m < tmax inst i → is_allowed (rolled inst plan period) i (m + 1) ≡ true
    → inner_place inst (m + 1) t k < entries_at inst (scenarios_before inst) i (m + 1)
    → risk_of (rolled inst plan period) i (m + 1) t k ≡ risk_of inst i (m + 1) t k
unfolding risk_of rolled_risks
risk_at_start inst plan period i m t k f h l a w =
    let q = inner_place inst (m + 1) t k in
    let left : is_left inst plan period i (m + 1) ≡ true = is_left_is inst plan period i (m + 1) ∙ a in
    let here : q < length (left_risks inst plan period i m) =
    omega (
      arith,
      w,
      length-left_risks inst plan period i m f h l,
      entries_left inst plan period (scenarios_before inst) i (m + 1) h a,
    ) in
    let row = count_sum m (λ j. length (left_risks inst plan period i j)) + q in
    let within : row < length (rolled_risks inst plan period i) =
    omega (
      arith,
      here,
      length-lists_below (tmax inst i) (left_risks inst plan period i),
      within_sum m (tmax inst i) (λ j. length (left_risks inst plan period i j)) l,
    ) in
    ap (λ p. get_or (rolled inst plan period).risks p (pos 0)) (new_place inst plan period i m t k f h l)
    ∙ list_at (length inst.names) i row (rolled_risks inst plan period) (pos 0) h within
    ∙ list_at (tmax inst i) m q (left_risks inst plan period i) (pos 0) l here
    ∙ ap (λ b. get_or (cond b (start_risks inst i (m + 1)) []) q (pos 0)) left
    ∙ old_at inst i (m + 1) t k w

pub risk_is : (inst : Tables) (plan : List (Option ℕ)) (period i s t k : ℕ) → IsFitting inst → i < length inst.names
    → is_allowed (rolled inst plan period) i s ≡ true → in_run inst i s t ≡ true → 1 ≤ k → k ≤ scenarios_of inst t
    → risk_of (rolled inst plan period) i s t k ≡ risk_of inst i s t k
risk_is inst plan period i s t k f h a r one few =
    let left = IsLeftStart-from inst plan period i s h a in
    let facts = is_allowed_facts inst i s left.allowed in
    at (s - 1) (omega arith) left facts.1
  where
    at : (m : ℕ) → s ≡ m + 1 → IsLeftStart inst plan period i s → s ≤ tmax inst i
        → risk_of (rolled inst plan period) i s t k ≡ risk_of inst i s t k
    at m e left among =
        let inner = inner_within inst i s t k f left.allowed r one few in
        rw e (risk_at_start inst plan period i m t k f h (omega arith) (rw e at a) (rw e at inner))
