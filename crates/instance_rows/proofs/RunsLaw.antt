-- The lists that an order takes are those of the allowed runs, each with a number for each scenario.
use Rattle.std.proofs.Common.{◌≡◌, ℕ, zero, suc, ◌+◌, ◌-◌, ◌<◌, ◌≤◌, ◌⊎◌, inl, inr, Bool, true, false, cond, List}
use Rattle.std.proofs.Common.{[], ◌∷◌, ◌++◌, map, length, get_or, Option, Some, None, refl, sym, ◌∙◌, ap, subst, arith}
use Rattle.std.proofs.Common.{ℤ}
use Rattle.std.specs.Prelude.{find, slice_index, slice_index_or, ◌==◌}
use Rattle.std.proofs.Math.Nat.{eq-or-lt_of_le}
use Rattle.std.proofs.lemmas.Bool.Decides.{nat_tests}
use Rattle.std.proofs.lemmas.List.{get_or_append_left, get_or-append-add, get_or-map, length-map}
use Rattle.instance_model.specs.Naturals.{count_sum}
use Rattle.instance_model.specs.RiskLists.{RiskRow}
use Rattle.instance_model.specs.RunRisks.{no_list, list_place, AreRuns, AreAllRuns}
use Rattle.instance_model.specs.Tables.{Tables, allowed_of, durations, tmax, delta_of, is_allowed, scenarios_of}
use Rattle.instance_model.specs.Tables.{entries_at, entries_of, periods_before}
use Rattle.instance_model.proofs.EntryLemmas.{count_sum_more, count_sum_le, count_sum_same, entries_at-refused}
use Rattle.instance_model.proofs.EntryLemmas.{is_allowed_facts}
use Rattle.instance_model.proofs.RunLemmas.{periods_of_run}
use Rattle.instance_shape.specs.CrossFaults.{CrossFault, unless, first_in}
use Rattle.instance_shape.specs.FileTables.{lists_below}
use Rattle.instance_shape.proofs.ListsBelow.{length-lists_below}
use Rattle.instance_rows.specs.FileRows.{FileRows}
use Rattle.instance_rows.specs.Filled.{lists_taken}
use Rattle.instance_rows.specs.Grid.{place_of, one_or_none}
use Rattle.instance_rows.specs.RowFaults.{no_work, used_durations, is_list_at, list_fault, run_fault, runs_fault}
use Rattle.instance_rows.specs.RowFaults.{tmax_fault, delta_fault, workload_fault, work_fault, work_fault_at}
use Rattle.instance_rows.specs.RowFaults.{works_fault}
use Rattle.instance_rows.specs.RowTables.{rows_tables}
use Rattle.instance_rows.specs.Sound.{AreSound}
use Rattle.instance_rows.proofs.Firsts.{first_none, or_else_both}
use Rattle.instance_rows.proofs.Places.{place_none, place_some, StandsAt}

-- ---- lists one after another

-- element j of list m
at_lists : {A : Type 0} (n m j : ℕ) (f : ℕ → List A) (d : A) → m < n → j < length (f m)
    → get_or (lists_below n f) (count_sum m (λ k. length (f k)) + j) d ≡ get_or (f m) j d
at_lists zero m j f d l i = absurd (omega arith)
at_lists {A} (suc n) m j f d l i = by (eq-or-lt_of_le before) (λ k. at_lists n m j f d k i)
  where
    before : m ≤ n
    before = omega arith

    by : (m ≡ n) ⊎ (m < n)
        → (m < n → get_or (lists_below n f) (count_sum m (λ k. length (f k)) + j) d ≡ get_or (f m) j d)
        → get_or (lists_below n f ++ f n) (count_sum m (λ k. length (f k)) + j) d ≡ get_or (f m) j d
    by (inl e) r =
        let here : count_sum m (λ k. length (f k)) ≡ length (lists_below n f) =
        ap (λ z. count_sum z (λ k. length (f k))) e ∙ sym (length-lists_below n f) in
        ap (λ z. get_or (lists_below n f ++ f n) (z + j) d) here
        ∙ get_or-append-add (lists_below n f) (f n) j d ∙ ap (λ z. get_or (f z) j d) (sym e)
    by (inr k) r =
        let more = count_sum_more m (λ k. length (f k)) in
        let le = count_sum_le (m + 1) n (λ k. length (f k)) (omega arith) in
        get_or_append_left (lists_below n f) (f n) d (count_sum m (λ k. length (f k)) + j)
        (omega (arith, length-lists_below n f, more, le, i))
        ∙ r k

ones : (n : ℕ) (f : ℕ → ℕ) → ((j : ℕ) → j < n → f j ≡ 1) → count_sum n f ≡ n
unfolding count_sum
ones zero f h = refl
ones (suc n) f h = omega (arith, ones n f (λ j l. h j (omega arith)), h n (omega arith))

-- ---- the lists of a run

-- a list of risks that the run at start s takes in period t
record IsTaken (counts : List ℕ) (rs : List RiskRow) (s t : ℕ) : Type 0 where
  place : ℕ
  found : place_of rs s t ≡ Some place
  count : length (get_or rs place no_list).values ≡ slice_index counts (t - 1)

-- the allowed runs take lists
abbrev AreTaken : ℕ → List ℕ → List ℕ → List RiskRow → Type 0
AreTaken periods counts ds rs = (k j : ℕ) → k < length ds → allowed_of periods ds (k + 1) ≡ true
    → j < slice_index ds k → IsTaken counts rs (k + 1) (k + 1 + j)

as_many : (a b : ℕ) (f : CrossFault) → unless (a == b) f ≡ None → a ≡ b
as_many a b f h = by (a == b) refl h
  where
    by : (c : Bool) → (a == b) ≡ c → unless c f ≡ None → a ≡ b
    by true e g = grind (arith, nat_tests)
    by false e g = cc

taken_at : (counts name : List ℕ) (rs : List RiskRow) (s t : ℕ) (o : Option ℕ) → place_of rs s t ≡ o
    → list_fault counts name t s (find (is_list_at t s) rs) ≡ None → IsTaken counts rs s t
taken_at counts name rs s t None e h =
    absurd (none (find (is_list_at t s) rs) (place_none (is_list_at t s) 0 rs e) h)
  where
    none : (o : Option RiskRow) → o ≡ None → list_fault counts name t s o ≡ None → ⊥
    none None e h = cc
    none (Some r) e h = cc
taken_at counts name rs s t (Some k) e h =
    let at : StandsAt (is_list_at t s) rs k = place_some (is_list_at t s) rs k e in
    record { place = k; found = e; count = some (find (is_list_at t s) rs) (at.first no_list) h }
  where
    some : (o : Option RiskRow) → o ≡ Some (get_or rs k no_list) → list_fault counts name t s o ≡ None
        → length (get_or rs k no_list).values ≡ slice_index counts (t - 1)
    some None f g = cc
    some (Some r) f g =
        let same : r ≡ get_or rs k no_list = cc in
        ap (λ (z : RiskRow). length z.values) (sym same) ∙ as_many (length r.values) (slice_index counts (t - 1)) _ g

are_taken : (periods : ℕ) (counts name ds : List ℕ) (rs : List RiskRow) → runs_fault periods counts name ds rs ≡ None
    → AreTaken periods counts ds rs
are_taken periods counts name ds rs h k j l a m =
    let start : run_fault counts name rs (k + 1) (slice_index ds k) ≡ None =
    sym (ap (λ b. cond b (run_fault counts name rs (k + 1) (slice_index ds k)) None) a)
    ∙ first_none (length ds)
    (λ k. cond (allowed_of periods ds (k + 1)) (run_fault counts name rs (k + 1) (slice_index ds k)) None) h k l in
    taken_at counts name rs (k + 1) (k + 1 + j) (place_of rs (k + 1) (k + 1 + j)) refl
    (first_none (slice_index ds k)
    (λ j. list_fault counts name (k + 1 + j) (k + 1) (find (is_list_at (k + 1 + j) (k + 1)) rs)) start j m)

-- the numbers of the lists of one period, of one start
abbrev list_number : List RiskRow → ℕ → ℕ → List ℕ
list_number rs k j = one_or_none (place_of rs (k + 1) (k + 1 + j))

abbrev start_numbers : ℕ → List ℕ → List RiskRow → ℕ → List ℕ
start_numbers periods ds rs k =
    cond (allowed_of periods ds (k + 1)) (lists_below (slice_index ds k) (list_number rs k)) []

one : (counts : List ℕ) (rs : List RiskRow) (k j : ℕ) → (t : IsTaken counts rs (k + 1) (k + 1 + j))
    → list_number rs k j ≡ t.place ∷ []
one counts rs k j t = ap one_or_none t.found

run_length : (counts : List ℕ) (rs : List RiskRow) (k d : ℕ)
    → ((j : ℕ) → j < d → IsTaken counts rs (k + 1) (k + 1 + j)) → length (lists_below d (list_number rs k)) ≡ d
run_length counts rs k d h = length-lists_below d (list_number rs k)
    ∙ ones d (λ j. length (list_number rs k j)) (λ j l. ap length (one counts rs k j (h j l)))

run_at : (counts : List ℕ) (rs : List RiskRow) (k d j : ℕ)
    → (h : (j : ℕ) → j < d → IsTaken counts rs (k + 1) (k + 1 + j)) → (l : j < d)
    → get_or (lists_below d (list_number rs k)) j 0 ≡ (h j l).place
run_at counts rs k d j h l =
    let e = one counts rs k j (h j l) in
    let before : count_sum j (λ i. length (list_number rs k i)) ≡ j =
    ones j (λ i. length (list_number rs k i)) (λ i m. ap length (one counts rs k i (h i (omega arith)))) in
    let here : j ≡ count_sum j (λ i. length (list_number rs k i)) + 0 = omega (arith, before) in
    let some : 0 < length (list_number rs k j) = omega (arith, ap length e) in
    ap (λ z. get_or (lists_below d (list_number rs k)) z 0) here ∙ at_lists d j 0 (list_number rs k) 0 l some
    ∙ ap (λ z. get_or z 0 0) e

-- ---- the lists of an intervention, beside the tables of the instance

-- what the tables have of an intervention
record Has (inst : Tables) (i : ℕ) (counts ds : List ℕ) : Type 0 where
  own : durations inst i ≡ ds
  scenarios : inst.scenarios ≡ counts

allowed_as : (inst : Tables) (i : ℕ) (counts ds : List ℕ) (k : ℕ) → Has inst i counts ds
    → is_allowed inst i (k + 1) ≡ allowed_of inst.periods ds (k + 1)
unfolding is_allowed
allowed_as inst i counts ds k h = ap (λ z. allowed_of inst.periods z (k + 1)) h.own

delta_as : (inst : Tables) (i : ℕ) (counts ds : List ℕ) (k : ℕ) → Has inst i counts ds
    → delta_of inst i (k + 1) ≡ slice_index ds k
unfolding delta_of
delta_as inst i counts ds k h =
    let e : k + 1 - 1 ≡ k = omega arith in
    ap (λ z. slice_index z (k + 1 - 1)) h.own ∙ ap (slice_index ds) e

tmax_as : (inst : Tables) (i : ℕ) (counts ds : List ℕ) → Has inst i counts ds → tmax inst i ≡ length ds
unfolding tmax
tmax_as inst i counts ds h = ap length h.own

start_length : (inst : Tables) (i : ℕ) (counts ds : List ℕ) (rs : List RiskRow) (k : ℕ) → Has inst i counts ds
    → AreTaken inst.periods counts ds rs → k < length ds
    → length (start_numbers inst.periods ds rs k) ≡ entries_at inst periods_before i (k + 1)
start_length inst i counts ds rs k h t l = by (allowed_of inst.periods ds (k + 1)) refl
  where
    by : (b : Bool) → allowed_of inst.periods ds (k + 1) ≡ b
        → length (cond b (lists_below (slice_index ds k) (list_number rs k)) [])
        ≡ entries_at inst periods_before i (k + 1)
    by true a = run_length counts rs k (slice_index ds k) (λ j m. t k j l a m) ∙ sym (delta_as inst i counts ds k h)
        ∙ sym (periods_of_run inst i (k + 1) (allowed_as inst i counts ds k h ∙ a))
    by false a = sym (entries_at-refused inst periods_before i (k + 1) (allowed_as inst i counts ds k h ∙ a))

orders_length : (inst : Tables) (i n : ℕ) (counts ds : List ℕ) (rs : List RiskRow) → Has inst i counts ds
    → AreTaken inst.periods counts ds rs → n ≤ length ds
    → count_sum n (λ k. length (start_numbers inst.periods ds rs k))
    ≡ count_sum n (λ k. entries_at inst periods_before i (k + 1))
orders_length inst i n counts ds rs h t l =
    count_sum_same n (λ k. length (start_numbers inst.periods ds rs k)) (λ k. entries_at inst periods_before i (k + 1))
    (λ k m. start_length inst i counts ds rs k h t (omega arith))

list_place_as : (inst : Tables) (i s t : ℕ) → list_place inst i s t
    ≡ count_sum (s - 1) (λ k. entries_at inst periods_before i (k + 1)) + (t - s)
unfolding list_place
list_place_as inst i s t = refl

entries_of_as : (inst : Tables) (i : ℕ) → entries_of inst periods_before i
    ≡ count_sum (tmax inst i) (λ k. entries_at inst periods_before i (k + 1))
unfolding entries_of
entries_of_as inst i = refl

scenarios_as : (inst : Tables) (i : ℕ) (counts ds : List ℕ) (t : ℕ) → Has inst i counts ds
    → scenarios_of inst t ≡ slice_index counts (t - 1)
unfolding scenarios_of
scenarios_as inst i counts ds t h = ap (λ z. slice_index z (t - 1)) h.scenarios

-- the list at a place of the order
place_taken : (inst : Tables) (i m j : ℕ) (counts ds : List ℕ) (rs : List RiskRow) → Has inst i counts ds
    → (t : AreTaken inst.periods counts ds rs) → (l : m < length ds) → (a : allowed_of inst.periods ds (m + 1) ≡ true)
    → (d : j < slice_index ds m)
    → get_or (lists_below (length ds) (start_numbers inst.periods ds rs)) (list_place inst i (m + 1) (m + 1 + j)) 0
    ≡ (t m j l a d).place
place_taken inst i m j counts ds rs h t l a d =
    let starts = start_numbers inst.periods ds rs in
    let own : starts m ≡ lists_below (slice_index ds m) (list_number rs m) =
    ap (λ b. cond b (lists_below (slice_index ds m) (list_number rs m)) []) a in
    let each : (j : ℕ) → j < slice_index ds m → IsTaken counts rs (m + 1) (m + 1 + j) = λ j n. t m j l a n in
    let e : m + 1 - 1 ≡ m = omega arith in
    let f : m + 1 + j - (m + 1) ≡ j = omega arith in
    let before = orders_length inst i m counts ds rs h t (omega arith) in
    let place : list_place inst i (m + 1) (m + 1 + j) ≡ count_sum m (λ k. length (starts k)) + j =
    list_place_as inst i (m + 1) (m + 1 + j)
    ∙ ap (λ z. count_sum z (λ k. entries_at inst periods_before i (k + 1)) + (m + 1 + j - (m + 1))) e
    ∙ omega (arith, before, f) in
    ap (λ z. get_or (lists_below (length ds) starts) z 0) place
    ∙ at_lists (length ds) m j starts 0 l
    (omega (arith, ap length own, run_length counts rs m (slice_index ds m) each, d))
    ∙ ap (λ z. get_or z j 0) own ∙ run_at counts rs m (slice_index ds m) j each d

place_within : (inst : Tables) (i m j : ℕ) (counts ds : List ℕ) (rs : List RiskRow) → Has inst i counts ds
    → AreTaken inst.periods counts ds rs → m < length ds → allowed_of inst.periods ds (m + 1) ≡ true
    → j < slice_index ds m
    → list_place inst i (m + 1) (m + 1 + j) < length (lists_below (length ds) (start_numbers inst.periods ds rs))
place_within inst i m j counts ds rs h t l a d =
    let f : ℕ → ℕ = λ k. entries_at inst periods_before i (k + 1) in
    let e : m + 1 - 1 ≡ m = omega arith in
    let place : list_place inst i (m + 1) (m + 1 + j) ≡ count_sum m f + j =
    list_place_as inst i (m + 1) (m + 1 + j)
    ∙ ap (λ z. count_sum z f + (m + 1 + j - (m + 1))) e ∙ omega arith in
    let next = count_sum_more m f in
    let all = count_sum_le (m + 1) (length ds) f (omega arith) in
    let here : f m ≡ slice_index ds m =
    periods_of_run inst i (m + 1) (allowed_as inst i counts ds m h ∙ a) ∙ delta_as inst i counts ds m h in
    let whole = length-lists_below (length ds) (start_numbers inst.periods ds rs)
    ∙ orders_length inst i (length ds) counts ds rs h t (omega arith) in
    omega (arith, place, next, all, here, whole, d)

-- the lists that an order takes, of tables that have the intervention
work_runs : (inst : Tables) (i : ℕ) (counts ds : List ℕ) (rs : List RiskRow) → Has inst i counts ds
    → AreTaken inst.periods counts ds rs
    → AreRuns inst i (map (λ k. get_or rs k no_list) (lists_below (length ds) (start_numbers inst.periods ds rs)))
work_runs inst i counts ds rs h t =
    let order = lists_below (length ds) (start_numbers inst.periods ds rs) in
    record {
      each = length-map order (λ k. get_or rs k no_list)
          ∙ length-lists_below (length ds) (start_numbers inst.periods ds rs)
          ∙ orders_length inst i (length ds) counts ds rs h t (omega arith)
          ∙ ap (λ n. count_sum n (λ k. entries_at inst periods_before i (k + 1))) (sym (tmax_as inst i counts ds h))
          ∙ sym (entries_of_as inst i);
      counts = λ s p al from to.
          let facts = is_allowed_facts inst i s al in
          let m = s - 1 in
          let j = p - s in
          let se : s ≡ m + 1 = omega (arith, facts.0) in
          let pe : p ≡ m + 1 + j = omega (arith, facts.0, from) in
          let here : is_allowed inst i (m + 1) ≡ true = subst (λ z. is_allowed inst i z ≡ true) se al in
          let a : allowed_of inst.periods ds (m + 1) ≡ true = sym (allowed_as inst i counts ds m h) ∙ here in
          let l : m < length ds = omega (arith, facts.1, tmax_as inst i counts ds h, facts.0) in
          let d : j < slice_index ds m =
          omega (arith, ap (delta_of inst i) se, delta_as inst i counts ds m h, from, to) in
          let same : list_place inst i s p ≡ list_place inst i (m + 1) (m + 1 + j) =
          ap (λ z. list_place inst i z p) se ∙ ap (list_place inst i (m + 1)) pe in
          let within = place_within inst i m j counts ds rs h t l a d in
          let q = t m j l a d in
          ap (λ z. length (get_or (map (λ k. get_or rs k no_list) order) z no_list).values) same
          ∙ ap (λ (r : RiskRow). length r.values)
          (get_or-map (λ k. get_or rs k no_list) order (list_place inst i (m + 1) (m + 1 + j)) 0 no_list within)
          ∙ ap (λ k. length (get_or rs k no_list).values) (place_taken inst i m j counts ds rs h t l a d)
          ∙ q.count ∙ ap (λ z. slice_index counts (z - 1)) (sym pe) ∙ sym (scenarios_as inst i counts ds p h);
    }

-- ---- of a file

durations_as : (slack : ℤ) (rows : FileRows) (i : ℕ) → i < length rows.works
    → durations (rows_tables slack rows) i ≡ used_durations (get_or rows.works i no_work)
unfolding durations
durations_as slack rows i l = get_or-map used_durations rows.works i no_work [] l

pub runs_law : (slack : ℤ) (rows : FileRows) → AreSound rows → works_fault rows ≡ None
    → AreAllRuns (rows_tables slack rows) (map (lists_taken rows.periods) rows.works)
runs_law slack rows s h = record {
  works = length-map rows.works (lists_taken rows.periods) ∙ s.works;
  runs = λ i l.
      let low : i < length rows.works = omega (arith, l, s.works) in
      let w = get_or rows.works i no_work in
      let name = slice_index_or rows.interventions i [] in
      let one : work_fault rows name w ≡ None = first_none (length rows.works) (work_fault_at rows) h i low in
      let two = or_else_both (tmax_fault rows.periods name w) _ one in
      let three = or_else_both (delta_fault name w) _ two.1 in
      let four = or_else_both (first_in (workload_fault rows.resources) w.workloads) _ three.1 in
      let has : Has (rows_tables slack rows) i rows.scenarios (used_durations w) =
      record { own = durations_as slack rows i low; scenarios = refl } in
      subst (AreRuns (rows_tables slack rows) i)
      (sym (get_or-map (lists_taken rows.periods) rows.works i no_work [] low))
      (work_runs (rows_tables slack rows) i rows.scenarios (used_durations w) w.risks has
      (are_taken rows.periods rows.scenarios name (used_durations w) w.risks four.1));
}
