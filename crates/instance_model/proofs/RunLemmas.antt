-- Where the lists that were read stand in the tables of risks and of soft flags.
use Rattle.std.proofs.Common.{◌≡◌, ℕ, zero, suc, ◌+◌, ◌-◌, ◌<◌, ◌≤◌, refl, sym, ◌∙◌, ap, subst, arith, List, [], ◌∷◌}
use Rattle.std.proofs.Common.{◌++◌, length, get_or, take, drop, Bool, true, false, pos, length-append, flat_map}
use Rattle.std.proofs.Math.Seq.{take-add, drop-cons}
use Rattle.std.proofs.lemmas.List.{take_all, length-map, get_or-map}
use Rattle.std.proofs.lemmas.List.Folds.{length-flat_map-take}
use Rattle.std.proofs.lemmas.List.Concat.{get_or-flat_map}
use Rattle.std.proofs.lemmas.Grind.{flat_map-append}
use Rattle.instance_model.specs.Naturals.{count_sum}
use Rattle.instance_model.specs.Tables.{Tables, scenarios_of, tmax, delta_of, is_allowed, entries_at, entries_of}
use Rattle.instance_model.specs.Tables.{all_entries, entries_before, entry_place, scenarios_before, periods_before}
use Rattle.instance_model.specs.Fitting.{IsFitting}
use Rattle.instance_model.specs.RiskLists.{RiskRow}
use Rattle.instance_model.specs.RunRisks.{no_list, values_of, flags_of, list_place, AreRuns, AreAllRuns}
use Rattle.instance_model.proofs.EntryLemmas.{count_sum-zero, count_sum_more, count_sum_le, is_allowed_facts}
use Rattle.instance_model.proofs.EntryLemmas.{entries_at-allowed, entries_at-refused, scenarios_before_rises}
use Rattle.instance_model.proofs.EntryLemmas.{scenarios_before_more, IsRunning}
use Rattle.instance_model.proofs.FitLemmas.{scenarios_of_small}

-- ---- there are fewer lists than numbers

periods_between : (a b : ℕ) → 1 ≤ a → periods_before (a + b) - periods_before a ≡ b
unfolding periods_before
periods_between a b h = omega arith

pub periods_of_run : (inst : Tables) (i s : ℕ) → is_allowed inst i s ≡ true
    → entries_at inst periods_before i s ≡ delta_of inst i s
periods_of_run inst i s a =
    entries_at-allowed inst periods_before i s a
    ∙ periods_between s (delta_of inst i s) (is_allowed_facts inst i s a).0

sum_fewer : (n : ℕ) (f g : ℕ → ℕ) → ((k : ℕ) → k < n → f k ≤ g k) → count_sum n f ≤ count_sum n g
unfolding count_sum
sum_fewer zero f g h = omega arith
sum_fewer (suc n) f g h = omega (arith, sum_fewer n f g (λ k l. h k (omega arith)), h n (omega arith))

run_fewer : (inst : Tables) (i s j : ℕ) → IsFitting inst → is_allowed inst i s ≡ true → j ≤ delta_of inst i s
    → scenarios_before inst s + j ≤ scenarios_before inst (s + j)
run_fewer inst i s zero f a l = let e : s + zero ≡ s = omega arith in rw e (omega arith)
run_fewer inst i s (suc j) f a l =
    let facts = is_allowed_facts inst i s a in
    let before = run_fewer inst i s j f a (omega arith) in
    let next = scenarios_before_more inst (s + j) f.scenarios_each (omega (arith, facts.0)) (omega (arith, facts.2)) in
    let some = scenarios_of_small inst (s + j) f (omega (arith, facts.0)) (omega (arith, facts.2)) in
    let e : s + suc j ≡ s + j + 1 = omega arith in
    rw e (omega (arith, before, next, some.0))

start_fewer : (inst : Tables) (i s : ℕ) → IsFitting inst
    → entries_at inst periods_before i s ≤ entries_at inst (scenarios_before inst) i s
start_fewer inst i s f = by (is_allowed inst i s) refl
  where
    by : (b : Bool) → is_allowed inst i s ≡ b
        → entries_at inst periods_before i s ≤ entries_at inst (scenarios_before inst) i s
    by true a = omega (
      arith,
      periods_of_run inst i s a,
      entries_at-allowed inst (scenarios_before inst) i s a,
      run_fewer inst i s (delta_of inst i s) f a (omega arith),
    )
    by false a = omega (arith, entries_at-refused inst periods_before i s a)

-- there are not more flags than risks
pub flags_few : (inst : Tables) → IsFitting inst → length inst.soft ≤ length inst.risks
unfolding all_entries entries_of
flags_few inst f =
    let g : ℕ → ℕ = λ i. count_sum (tmax inst i) (λ k. entries_at inst periods_before i (k + 1)) in
    let h : ℕ → ℕ = λ i. count_sum (tmax inst i) (λ k. entries_at inst (scenarios_before inst) i (k + 1)) in
    let all = sum_fewer (length inst.names) g h (λ i l. sum_fewer (tmax inst i)
    (λ k. entries_at inst periods_before i (k + 1)) (λ k. entries_at inst (scenarios_before inst) i (k + 1))
    (λ k m. start_fewer inst i (k + 1) f)) in
    omega (arith, all, f.risks_each, f.soft_each)

-- ---- pieces one behind another

one_taken : {A : Type 0} (xs : List A) (n : ℕ) (d : A) → n < length xs → take 1 (drop n xs) ≡ get_or xs n d ∷ []
one_taken xs n d h = ap (take 1) (drop-cons xs n d h)

-- one piece more
pub pieces_more : {A B : Type 0} (f : A → List B) (xs : List A) (n : ℕ) (d : A) → n < length xs
    → length (flat_map f (take (n + 1) xs)) ≡ length (flat_map f (take n xs)) + length (f (get_or xs n d))
pieces_more f xs n d h =
    let e = take-add n 1 xs ∙ ap (λ z. take n xs ++ z) (one_taken xs n d h) in
    let x = get_or xs n d in
    ap (λ z. length (flat_map f z)) e ∙ ap length (flat_map-append f (take n xs) (x ∷ []))
    ∙ length-append (flat_map f (take n xs)) (flat_map f (x ∷ []))
    ∙ ap (λ k. length (flat_map f (take n xs)) + k) (let l = length-append (f x) [] in omega (arith, l))

-- ---- the numbers of an intervention

-- how many numbers the first n lists have
abbrev numbers_before : List RiskRow → ℕ → ℕ
numbers_before rows n = length (flat_map (λ (r : RiskRow). r.values) (take n rows))

-- how many lists, and how many numbers, stand before the start behind m others
abbrev lists_to : Tables → ℕ → ℕ → ℕ
lists_to inst i m = count_sum m (λ k. entries_at inst periods_before i (k + 1))

abbrev numbers_to : Tables → ℕ → ℕ → ℕ
numbers_to inst i m = count_sum m (λ k. entries_at inst (scenarios_before inst) i (k + 1))

list_place_is : (inst : Tables) (i m j : ℕ) → list_place inst i (m + 1) (m + 1 + j) ≡ lists_to inst i m + j
unfolding list_place
list_place_is inst i m j =
    let e : m + 1 - 1 ≡ m = omega arith in
    let f : m + 1 + j - (m + 1) ≡ j = omega arith in
    rw (e, f) refl

in_lists : (inst : Tables) (i m j : ℕ) (rows : List RiskRow) → AreRuns inst i rows → is_allowed inst i (m + 1) ≡ true
    → j < delta_of inst i (m + 1) → lists_to inst i m + j < length rows
unfolding entries_of
in_lists inst i m j rows h a l =
    let f : ℕ → ℕ = λ k. entries_at inst periods_before i (k + 1) in
    let next = count_sum_more m f in
    let d = periods_of_run inst i (m + 1) a in
    let all = count_sum_le (m + 1) (tmax inst i) f (is_allowed_facts inst i (m + 1) a).1 in
    omega (arith, next, d, all, h.each, l)

-- the lists of the first periods of a run
run_numbers : (inst : Tables) (i m j : ℕ) (rows : List RiskRow) → IsFitting inst → AreRuns inst i rows
    → is_allowed inst i (m + 1) ≡ true → j ≤ delta_of inst i (m + 1)
    → numbers_before rows (lists_to inst i m + j)
    ≡ numbers_before rows (lists_to inst i m) + (scenarios_before inst (m + 1 + j) - scenarios_before inst (m + 1))
run_numbers inst i m zero rows f h a l =
    let e : lists_to inst i m + zero ≡ lists_to inst i m = omega arith in
    let g : m + 1 + zero ≡ m + 1 = omega arith in
    rw (e, g) (omega arith)
run_numbers inst i m (suc j) rows f h a l =
    let p = lists_to inst i m in
    let before = run_numbers inst i m j rows f h a (omega arith) in
    let more = pieces_more (λ (r : RiskRow). r.values) rows (p + j) no_list (in_lists inst i m j rows h a (omega
    arith)) in
    let count : length (get_or rows (p + j) no_list).values ≡ scenarios_of inst (m + 1 + j) =
    subst (λ (n : ℕ). length (get_or rows n no_list).values ≡ scenarios_of inst (m + 1 + j)) (list_place_is inst i m j)
    (h.counts (m + 1) (m + 1 + j) a (omega arith) (omega arith)) in
    let next = scenarios_before_more inst (m + 1 + j) f.scenarios_each (omega arith)
    (omega (arith, (is_allowed_facts inst i (m + 1) a).2)) in
    let up = scenarios_before_rises inst (m + 1) (m + 1 + j) (omega arith) in
    let e : p + suc j ≡ p + j + 1 = omega arith in
    let g : m + 1 + suc j ≡ m + 1 + j + 1 = omega arith in
    rw (e, g) (omega (arith, before, more, count, next, up))

-- the lists of the first starts
start_numbers : (inst : Tables) (i m : ℕ) (rows : List RiskRow) → IsFitting inst → AreRuns inst i rows
    → numbers_before rows (lists_to inst i m) ≡ numbers_to inst i m
start_numbers inst i zero rows f h = rw (
  count_sum-zero (λ k. entries_at inst periods_before i (k + 1)),
  count_sum-zero (λ k. entries_at inst (scenarios_before inst) i (k + 1)),
) refl
start_numbers inst i (suc m) rows f h = by (is_allowed inst i (m + 1)) refl (start_numbers inst i m rows f h)
  where
    lists_more : lists_to inst i (suc m) ≡ lists_to inst i m + entries_at inst periods_before i (m + 1)
    lists_more = ap (lists_to inst i) (omega arith) ∙ count_sum_more m (λ k. entries_at inst periods_before i (k + 1))

    numbers_more : numbers_to inst i (suc m) ≡ numbers_to inst i m + entries_at inst (scenarios_before inst) i (m + 1)
    numbers_more = ap (numbers_to inst i) (omega arith)
        ∙ count_sum_more m (λ k. entries_at inst (scenarios_before inst) i (k + 1))

    by : (b : Bool) → is_allowed inst i (m + 1) ≡ b
        → numbers_before rows (lists_to inst i m) ≡ numbers_to inst i m
        → numbers_before rows (lists_to inst i (suc m)) ≡ numbers_to inst i (suc m)
    by true a q =
        let d = periods_of_run inst i (m + 1) a in
        let run = run_numbers inst i m (delta_of inst i (m + 1)) rows f h a (omega arith) in
        let e = entries_at-allowed inst (scenarios_before inst) i (m + 1) a in
        ap (numbers_before rows) (lists_more ∙ ap (λ k. lists_to inst i m + k) d) ∙ omega (
          arith,
          run,
          e,
          q,
          numbers_more,
        )
    by false a q =
        let d = entries_at-refused inst periods_before i (m + 1) a in
        let e = entries_at-refused inst (scenarios_before inst) i (m + 1) a in
        let same : lists_to inst i (suc m) ≡ lists_to inst i m = omega (arith, lists_more, d) in
        ap (numbers_before rows) same ∙ omega (arith, e, q, numbers_more)

-- all lists of an intervention
whole_numbers : (inst : Tables) (i : ℕ) (rows : List RiskRow) → IsFitting inst → AreRuns inst i rows
    → length (values_of rows) ≡ entries_of inst (scenarios_before inst) i
unfolding entries_of
whole_numbers inst i rows f h =
    ap (λ z. length (values_of z)) (sym (take_all (length rows) rows (omega arith)))
    ∙ ap (numbers_before rows) h.each ∙ start_numbers inst i (tmax inst i) rows f h

-- ---- the lists of all interventions

numbers_of_works : (inst : Tables) (rows : List (List RiskRow)) (i : ℕ) → IsFitting inst → AreAllRuns inst rows
    → i ≤ length inst.names
    → length (flat_map values_of (take i rows)) ≡ count_sum i (entries_of inst (scenarios_before inst))
numbers_of_works inst rows zero f h l = rw (count_sum-zero (entries_of inst (scenarios_before inst))) refl
numbers_of_works inst rows (suc i) f h l =
    let before = numbers_of_works inst rows i f h (omega arith) in
    let more = pieces_more values_of rows i [] (omega (arith, h.works)) in
    let here = whole_numbers inst i (get_or rows i []) f (h.runs i (omega arith)) in
    let next = count_sum_more i (entries_of inst (scenarios_before inst)) in
    let e : suc i ≡ i + 1 = omega arith in
    rw e (omega (arith, before, more, here, next))

lists_of_works : (inst : Tables) (rows : List (List RiskRow)) (i : ℕ) → AreAllRuns inst rows → i ≤ length inst.names
    → length (flat_map flags_of (take i rows)) ≡ count_sum i (entries_of inst periods_before)
lists_of_works inst rows zero h l = rw (count_sum-zero (entries_of inst periods_before)) refl
lists_of_works inst rows (suc i) h l =
    let before = lists_of_works inst rows i h (omega arith) in
    let more = pieces_more flags_of rows i [] (omega (arith, h.works)) in
    let here = length-map (get_or rows i []) (λ (r : RiskRow). r.soft) in
    let each = (h.runs i (omega arith)).each in
    let next = count_sum_more i (entries_of inst periods_before) in
    let e : suc i ≡ i + 1 = omega arith in
    rw e (omega (arith, before, more, here, each, next))

-- a start and a period of its run, by how many starts and periods stand before
record Stands (inst : Tables) (i s t : ℕ) : Type 0 where
  m : ℕ
  j : ℕ
  start : s ≡ m + 1
  period : t ≡ m + 1 + j
  within : j < delta_of inst i (m + 1)
  allowed : is_allowed inst i (m + 1) ≡ true

stands : (inst : Tables) (i s t : ℕ) → is_allowed inst i s ≡ true → IsRunning inst i s t → Stands inst i s t
stands inst i s t a r =
    let e : s ≡ s - 1 + 1 = omega (arith, r.start) in
    record {
      m = s - 1;
      j = t - s;
      start = e;
      period = omega (arith, r.start, r.from);
      within = subst (λ z. t - s < delta_of inst i z) e (omega (arith, r.from, r.to));
      allowed = subst (λ z. is_allowed inst i z ≡ true) e a;
    }

-- a list of a run is one of its intervention's
pub place_in_lists : (inst : Tables) (i s t : ℕ) (rows : List RiskRow) → AreRuns inst i rows → is_allowed inst i s ≡
    true
    → IsRunning inst i s t → list_place inst i s t < length rows
place_in_lists inst i s t rows h a r =
    let q = stands inst i s t a r in
    subst (λ n. n < length rows)
    (sym (ap (λ z. list_place inst i z t) q.start ∙ ap (list_place inst i (q.m + 1)) q.period
    ∙ list_place_is inst i q.m q.j))
    (in_lists inst i q.m q.j rows h q.allowed q.within)

numbers_at : (inst : Tables) (i s t : ℕ) (rows : List RiskRow) → IsFitting inst → AreRuns inst i rows
    → is_allowed inst i s ≡ true → IsRunning inst i s t
    → count_sum i (entries_of inst (scenarios_before inst)) + numbers_before rows (list_place inst i s t)
    ≡ entry_place inst (scenarios_before inst) i s t
unfolding entry_place entries_before
numbers_at inst i s t rows f h a r =
    let q = stands inst i s t a r in
    let n : list_place inst i s t ≡ lists_to inst i q.m + q.j =
    ap (λ z. list_place inst i z t) q.start ∙ ap (list_place inst i (q.m + 1)) q.period ∙ list_place_is inst i q.m q.j
    in
    let run = run_numbers inst i q.m q.j rows f h q.allowed (omega (arith, q.within)) in
    let before = start_numbers inst i q.m rows f h in
    let e : s - 1 ≡ q.m = omega (arith, q.start) in
    let back : numbers_to inst i (s - 1) ≡ numbers_to inst i q.m = ap (numbers_to inst i) e in
    let there : scenarios_before inst t ≡ scenarios_before inst (q.m + 1 + q.j) = ap (scenarios_before inst) q.period in
    let here : scenarios_before inst s ≡ scenarios_before inst (q.m + 1) = ap (scenarios_before inst) q.start in
    omega (arith, ap (numbers_before rows) n, run, before, back, there, here)

-- the number of a list in the table of risks
pub list_number : (inst : Tables) (rows : List (List RiskRow)) (i s t k : ℕ) → IsFitting inst → AreAllRuns inst rows
    → i < length inst.names → is_allowed inst i s ≡ true → IsRunning inst i s t → k < scenarios_of inst t
    → get_or (flat_map values_of rows) (entry_place inst (scenarios_before inst) i s t + k) (pos 0)
    ≡ get_or (get_or (get_or rows i []) (list_place inst i s t) no_list).values k (pos 0)
list_number inst rows i s t k f h number a r few =
    let own = get_or rows i [] in
    let runs = h.runs i number in
    let n = list_place inst i s t in
    let low = place_in_lists inst i s t own runs a r in
    let count = runs.counts s t a r.from r.to in
    let inner = get_or-flat_map (λ (x : RiskRow). x.values) own n k no_list (pos 0) low (omega (arith, count)) in
    let room = length-flat_map-take (λ (x : RiskRow). x.values) own n no_list low in
    let outer = get_or-flat_map values_of rows i (numbers_before own n + k) [] (pos 0) (omega (arith, h.works))
    (omega (arith, room, count)) in
    let place = numbers_at inst i s t own f runs a r in
    let works = numbers_of_works inst rows i f h (omega arith) in
    ap (λ (z : ℕ). get_or (flat_map values_of rows) z (pos 0)) (omega (arith, place, works)) ∙ outer ∙ inner

lists_at : (inst : Tables) (i s t : ℕ) → 1 ≤ s → s ≤ t
    → count_sum i (entries_of inst periods_before) + list_place inst i s t ≡ entry_place inst periods_before i s t
unfolding entry_place entries_before list_place periods_before
lists_at inst i s t h l = omega arith

-- the flag of a list in the table of flags
pub list_flag : (inst : Tables) (rows : List (List RiskRow)) (i s t : ℕ) → AreAllRuns inst rows
    → i < length inst.names → is_allowed inst i s ≡ true → IsRunning inst i s t
    → get_or (flat_map flags_of rows) (entry_place inst periods_before i s t) false
    ≡ (get_or (get_or rows i []) (list_place inst i s t) no_list).soft
list_flag inst rows i s t h number a r =
    let own = get_or rows i [] in
    let n = list_place inst i s t in
    let low = place_in_lists inst i s t own (h.runs i number) a r in
    let each = length-map own (λ (x : RiskRow). x.soft) in
    let outer = get_or-flat_map flags_of rows i n [] false (omega (arith, h.works)) (omega (arith, each, low)) in
    let works = lists_of_works inst rows i h (omega arith) in
    let place = lists_at inst i s t r.start r.from in
    ap (λ (z : ℕ). get_or (flat_map flags_of rows) z false) (omega (arith, place, works)) ∙ outer
    ∙ get_or-map (λ (x : RiskRow). x.soft) own n no_list false low
