-- The tables of a drawn instance fit.
use Rattle.std.proofs.Common.{arith, ◌≡◌, ℕ, ◌+◌, ◌-◌, ◌*◌, ◌/◌, ◌%◌, ◌^◌, ◌<◌, ◌≤◌, ◌∙◌, ap}
use Rattle.std.proofs.Common.{sym, refl, ℤ, true, false, ◌&&◌, List, [], ◌++◌, length, length-append}
use Rattle.std.proofs.Common.{All, get_or, sum, unsigned_abs, IsTrue, codes}
use Rattle.std.specs.Prelude.{slice_index, nat_le, nat_lt}
use Rattle.std.proofs.lemmas.Bool.{le-leb, lt-ltb}
use Rattle.std.proofs.lemmas.List.{length-replicate, take-replicate}
use Rattle.std.proofs.lemmas.List.Folds.{sum_by-replicate}
use Rattle.std.proofs.lemmas.List.Elements.{All-nil, All-cons, All-append, All-replicate, All-from_get_or, All-weaker}
use Rattle.std.proofs.lemmas.List.FromFn.{length-map-range_with_len, get_or-map-range_with_len}
use Rattle.instance_model.specs.declared.parts.Exclusion.{Exclusion}
use Rattle.instance_model.specs.Naturals.{count_sum}
use Rattle.instance_model.specs.Tables.{is_allowed, allowed_of, in_run, durations, tmax, delta_of, entries_at}
use Rattle.instance_model.specs.Tables.{entries_of, all_entries, scenarios_before, periods_before}
use Rattle.instance_model.specs.Fitting.{IsFitting, AreCells}
use Rattle.instance_model.proofs.EntryLemmas.{count_sum_same, entries_at-allowed}
use Rattle.instance_gen.specs.Drawing.{whole, interventions_of}
use Rattle.instance_gen.specs.Drawn.{drawn_exclusion, drawn_exclusions, drawn_tables, level_limits, level_scenarios}
use Rattle.instance_gen.specs.Drawn.{season_from}
use Rattle.instance_gen.proofs.DurationLemmas.{IsShort, short-at}
use Rattle.instance_gen.proofs.RunLemmas.{IsSmallWhole, small_whole, IsPlaced}
use Rattle.instance_gen.proofs.DrawnLemmas.{row_of, row_cells, length-delta, length-loads, length-risks, risks-small}
use Rattle.instance_gen.proofs.DrawnLemmas.{run_periods, times_each, count_sum_few, few_periods, few_cells}
use Rattle.instance_gen.proofs.NameLemmas.{IsLetter, IsPrinted, names_fit, length-names}

-- ---- the lists that don't depend on draws

length-scenarios : (periods scenarios : ℕ) → length (level_scenarios periods scenarios) ≡ periods
unfolding level_scenarios
length-scenarios periods scenarios = length-replicate periods scenarios

all_scenarios : (P : ℕ → Type 0) (periods scenarios : ℕ) → P scenarios → All P (level_scenarios periods scenarios)
unfolding level_scenarios
all_scenarios P periods scenarios h = All-replicate P periods scenarios h

length-limits : (periods limit : ℕ) → length (level_limits periods limit) ≡ periods
unfolding level_limits
length-limits periods limit = length-replicate periods (whole limit)

pub limits-whole : (periods limit : ℕ) → limit < 1000 → All IsSmallWhole (level_limits periods limit)
unfolding level_limits
limits-whole periods limit h = All-replicate IsSmallWhole periods (whole limit) (small_whole limit h)

length-season : (periods a b : ℕ) → length (season_from periods a b) ≡ periods
unfolding season_from
length-season periods a b = length-map-range_with_len (λ t. nat_le a t && nat_le t b) 1 periods

length-exclusions : (n : ℕ) → length (drawn_exclusions n) ≡ n
unfolding drawn_exclusions
length-exclusions n = length-map-range_with_len drawn_exclusion 0 n

exclusion_at : (n k : ℕ) (d : Exclusion) → k < n → get_or (drawn_exclusions n) k d ≡ drawn_exclusion k
unfolding drawn_exclusions
exclusion_at n k d h = get_or-map-range_with_len drawn_exclusion 0 n k k d h (omega arith)

whole_small : (z : ℤ) → IsSmallWhole z → unsigned_abs z < 10 ^ 20
whole_small z h =
    let small = h.small in
    rw (h.same) (omega (arith, small))

all_small : (zs : List ℤ) → All IsSmallWhole zs → All (λ z. unsigned_abs z < 10 ^ 20) zs
all_small zs h = All-weaker IsSmallWhole (λ z. unsigned_abs z < 10 ^ 20) whole_small zs h

below_twice : (zs : List ℤ) → All IsSmallWhole zs → All (λ z. unsigned_abs z < 2 * 10 ^ 20) zs
below_twice zs h =
    All-weaker IsSmallWhole (λ z. unsigned_abs z < 2 * 10 ^ 20)
    (λ z w. let small = whole_small z w in omega (arith, small)) zs h

pub c_letter : IsLetter (codes "c")
c_letter = record { one = refl; printed = All-cons IsPrinted 99 [] (omega arith, omega arith) (All-nil IsPrinted) }

pub s_letter : IsLetter (codes "s")
s_letter = record { one = refl; printed = All-cons IsPrinted 115 [] (omega arith, omega arith) (All-nil IsPrinted) }

pub i_letter : IsLetter (codes "I")
i_letter = record { one = refl; printed = All-cons IsPrinted 73 [] (omega arith, omega arith) (All-nil IsPrinted) }

pub e_letter : IsLetter (codes "E")
e_letter = record { one = refl; printed = All-cons IsPrinted 69 [] (omega arith, omega arith) (All-nil IsPrinted) }

-- ---- starts

allowed_from : (ds : List ℕ) (s : ℕ) → length ds ≡ 50 → All IsShort ds → 1 ≤ s → s ≤ 50 → allowed_of 53 ds s ≡ true
unfolding allowed_of
allowed_from ds s many short from to =
    let here = short-at ds short (s - 1) in
    let one : nat_le 1 s ≡ true = le-leb 1 s from in
    let two : nat_le s (length ds) ≡ true = le-leb s (length ds) (omega (arith, many, to)) in
    let three : nat_le (s + slice_index ds (s - 1)) (53 + 1) ≡ true =
    le-leb (s + slice_index ds (s - 1)) (53 + 1) (omega (arith, here, to)) in
    rw (one, two, three) refl

pub durations_are : (seed n i : ℕ) → durations (drawn_tables seed n) i ≡ get_or (interventions_of seed n).delta i []
unfolding durations drawn_tables
durations_are seed n i = refl

pub names-count : (seed n : ℕ) → length (drawn_tables seed n).names ≡ n
unfolding drawn_tables
names-count seed n = length-names (codes "I") n

pub starts-count : (seed n i : ℕ) → i < n → tmax (drawn_tables seed n) i ≡ 50
unfolding tmax
starts-count seed n i h = ap length (durations_are seed n i) ∙ (row_of seed n i h).starts

periods_are : (seed n : ℕ) → (drawn_tables seed n).periods ≡ 53
unfolding drawn_tables
periods_are seed n = refl

pub start-allowed : (seed n i s : ℕ) → i < n → 1 ≤ s → s ≤ 50 → is_allowed (drawn_tables seed n) i s ≡ true
unfolding is_allowed
start-allowed seed n i s h from to =
    let row = row_of seed n i h in
    ap (λ (p : ℕ). allowed_of p (durations (drawn_tables seed n) i) s) (periods_are seed n)
    ∙ ap (λ (ds : List ℕ). allowed_of 53 ds s) (durations_are seed n i)
    ∙ allowed_from (get_or (interventions_of seed n).delta i []) s row.starts row.short from to

pub delta_is : (seed n i s : ℕ) → delta_of (drawn_tables seed n) i s
    ≡ slice_index (get_or (interventions_of seed n).delta i []) (s - 1)
unfolding delta_of
delta_is seed n i s = ap (λ (ds : List ℕ). slice_index ds (s - 1)) (durations_are seed n i)

-- ---- load cells

resources-count : (seed n : ℕ) → length (drawn_tables seed n).resource_names ≡ 2
unfolding drawn_tables
resources-count seed n = length-names (codes "c") 2

cells_fit : (seed n i : ℕ) → i < n
    → AreCells (drawn_tables seed n) i (get_or (interventions_of seed n).loads i [])
unfolding in_run
cells_fit seed n i h =
    let inst = drawn_tables seed n in
    let ds = get_or (interventions_of seed n).delta i [] in
    let cells = get_or (interventions_of seed n).loads i [] in
    let row = row_of seed n i h in
    let before = row_cells ds cells row in
    let starts = row.starts in
    record {
      ordered = before.ordered;
      allowed = All-weaker (IsPlaced ds) (λ x. IsTrue (is_allowed inst i x.start))
          (λ x p. start-allowed seed n i x.start h p.from (omega (arith, p.to, starts))) cells before.placed;
      running = All-weaker (IsPlaced ds) (λ x. IsTrue (in_run inst i x.start x.period)) (λ x p.
          let began : nat_le x.start x.period ≡ true = le-leb x.start x.period p.began in
          let ends : nat_lt x.period (x.start + delta_of inst i x.start) ≡ true =
          lt-ltb x.period (x.start + delta_of inst i x.start) (omega (arith, p.ends, delta_is seed n i x.start)) in
          rw (began, ends) refl) cells before.placed;
      resources = All-weaker (IsPlaced ds) (λ x. x.resource < length inst.resource_names)
          (λ x p. omega (arith, p.resource, resources-count seed n)) cells before.placed;
      small = All-weaker (IsPlaced ds) (λ x. unsigned_abs x.load < 10 ^ 20) (λ x p. whole_small x.load p.load) cells
          before.placed;
    }

-- ---- how many entries

-- each period stands before as many entries more
abbrev pub IsEven : (ℕ → ℕ) → ℕ → Type 0
IsEven before each = (t : ℕ) → 1 ≤ t → t ≤ 54 → before t ≡ each * (t - 1)

entries_at_start : (seed n i k each : ℕ) (before : ℕ → ℕ) → IsEven before each → i < n → k < 50
    → entries_at (drawn_tables seed n) before i (k + 1)
    ≡ each * slice_index (get_or (interventions_of seed n).delta i []) k
entries_at_start seed n i k each before even h l =
    let inst = drawn_tables seed n in
    let ds = get_or (interventions_of seed n).delta i [] in
    let row = row_of seed n i h in
    let short = short-at ds row.short k in
    let back : k + 1 - 1 ≡ k = omega arith in
    let long : delta_of inst i (k + 1) ≡ slice_index ds k =
    delta_is seed n i (k + 1) ∙ ap (λ (m : ℕ). slice_index ds m) back in
    let d = slice_index ds k in
    let ends = even (k + 1 + d) (omega arith) (omega (arith, short)) in
    let begins = even (k + 1) (omega arith) (omega arith) in
    entries_at-allowed inst before i (k + 1) (start-allowed seed n i (k + 1) h (omega arith) (omega arith))
    ∙ ap (λ (m : ℕ). before (k + 1 + m) - before (k + 1)) long
    ∙ ap (λ (m : ℕ). m - before (k + 1)) ends
    ∙ ap (λ (m : ℕ). each * (k + 1 + d - 1) - m) begins
    ∙ taken each k d
  where
    taken : (each k d : ℕ) → each * (k + 1 + d - 1) - each * (k + 1 - 1) ≡ each * d
    taken each k d =
        let e : k + 1 + d - 1 ≡ k + d = omega arith in
        let f : k + 1 - 1 ≡ k = omega arith in
        rw (e, f) (omega arith)

entries_are : (seed n i each : ℕ) (before : ℕ → ℕ) → IsEven before each → i < n
    → entries_of (drawn_tables seed n) before i ≡ each * run_periods (get_or (interventions_of seed n).delta i [])
unfolding entries_of
entries_are seed n i each before even h =
    let inst = drawn_tables seed n in
    let ds = get_or (interventions_of seed n).delta i [] in
    ap (λ (m : ℕ). count_sum m (λ k. entries_at inst before i (k + 1))) (starts-count seed n i h)
    ∙ count_sum_same 50 (λ k. entries_at inst before i (k + 1)) (λ k. each * slice_index ds k)
    (λ k l. entries_at_start seed n i k each before even h l)
    ∙ times_each 50 each (λ k. slice_index ds k)

-- how many periods all runs have
abbrev pub all_runs : (seed n : ℕ) → ℕ
all_runs seed n = count_sum n (λ i. run_periods (get_or (interventions_of seed n).delta i []))

all_entries_are : (seed n each : ℕ) (before : ℕ → ℕ) → IsEven before each
    → all_entries (drawn_tables seed n) before ≡ each * all_runs seed n
unfolding all_entries
all_entries_are seed n each before even =
    let inst = drawn_tables seed n in
    ap (λ (m : ℕ). count_sum m (entries_of inst before)) (names-count seed n)
    ∙ count_sum_same n (entries_of inst before)
    (λ i. each * run_periods (get_or (interventions_of seed n).delta i []))
    (λ i l. entries_are seed n i each before even l)
    ∙ times_each n each (λ i. run_periods (get_or (interventions_of seed n).delta i []))

scenarios_even : (seed n : ℕ) → IsEven (scenarios_before (drawn_tables seed n)) 8
unfolding scenarios_before drawn_tables level_scenarios
scenarios_even seed n = λ t from to.
    ap sum (take-replicate (t - 1) 53 8 (omega arith))
    ∙ sum_by-replicate (λ x. x) (t - 1) 8
    ∙ omega arith

periods_even : IsEven periods_before 1
unfolding periods_before
periods_even = λ t from to. omega arith

eighth : (n m : ℕ) → n ≡ 8 * m → n / 8 ≡ m
eighth n m h = omega (arith, h)

-- ---- all of it

pub fitting : (seed n : ℕ) → n ≤ 200 → IsFitting (drawn_tables seed n)
unfolding drawn_tables
fitting seed n few =
    let drawn = interventions_of seed n in
    let rows = length-delta seed n in
    let works = length-loads seed n in
    let quarter : n / 4 ≤ 50 = omega arith in
    let names = length-names (codes "I") n in
    let exclusions = length-exclusions (n / 4) in
    let excluded_names = length-names (codes "E") (n / 4) in
    let resources = length-names (codes "c") 2 in
    let seasons = length-names (codes "s") 2 in
    let scenarios = length-scenarios 53 8 in
    let upper = length-append (level_limits 53 (n / 2 + 9)) (level_limits 53 (n / 4 + 5)) in
    let lower = length-append (level_limits 53 0) (level_limits 53 0) in
    let in_season = length-append (season_from 53 1 13) (season_from 53 27 39) in
    let first = length-limits 53 (n / 2 + 9) in
    let second = length-limits 53 (n / 4 + 5) in
    let least = length-limits 53 0 in
    let spring = length-season 53 1 13 in
    let autumn = length-season 53 27 39 in
    let limits = All-append IsSmallWhole (level_limits 53 (n / 2 + 9)) (level_limits 53 (n / 4 + 5))
    (limits-whole 53 (n / 2 + 9) (omega arith)) (limits-whole 53 (n / 4 + 5) (omega arith)) in
    let zeros = All-append IsSmallWhole (level_limits 53 0) (level_limits 53 0)
    (limits-whole 53 0 (omega arith)) (limits-whole 53 0 (omega arith)) in
    let risks = length-risks seed n in
    let runs = count_sum_few n 200 (λ i. run_periods (get_or drawn.delta i []))
    (λ i l. few_periods (get_or drawn.delta i []) (row_of seed n i l).short) in
    let work = count_sum_few n 400 (λ i. length (get_or drawn.loads i []))
    (λ i l. few_cells (get_or drawn.delta i []) (get_or drawn.loads i []) (row_of seed n i l)) in
    record {
      some_periods = omega arith;
      few_periods = omega arith;
      alpha = omega arith;
      some_quantile = omega arith;
      quantile = omega arith;
      scenarios_each = scenarios;
      scenarios_few = all_scenarios (λ k. (1 ≤ k) × (k ≤ 1024)) 53 8 (omega arith, omega arith);
      resources = names_fit (codes "c") 32 2 c_letter (omega arith) (omega arith);
      upper_each = upper ∙ omega (arith, first, second, resources);
      lower_each = lower ∙ omega (arith, least, resources);
      upper_small = below_twice (level_limits 53 (n / 2 + 9) ++ level_limits 53 (n / 4 + 5)) limits;
      lower_small = below_twice (level_limits 53 0 ++ level_limits 53 0) zeros;
      seasons = names_fit (codes "s") 64 2 s_letter (omega arith) (omega arith);
      season_each = in_season ∙ omega (arith, spring, autumn, seasons);
      names = names_fit (codes "I") 1024 n i_letter (omega (arith, few)) (omega (arith, few));
      delta_each = rows ∙ sym names;
      delta_some = All-from_get_or (λ ds. (1 ≤ length ds) × (length ds ≤ 53)) drawn.delta []
          (λ i l. (let row = row_of seed n i (omega (arith, l, rows)) in
          let many = row.starts in
          (omega (arith, many), omega (arith, many))));
      delta_small = All-from_get_or (λ ds. All (λ d. d < 1_000_000_000) ds) drawn.delta []
          (λ i l. (let row = row_of seed n i (omega (arith, l, rows)) in
          All-weaker IsShort (λ d. d < 1_000_000_000) (λ d p. omega (arith, p.1)) (get_or drawn.delta i []) row.short));
      exclusions = names_fit (codes "E") 65_536 (n / 4) e_letter (omega arith) (omega arith);
      excluded_each = exclusions ∙ sym excluded_names;
      excluded = λ k d l.
          let within : k < n / 4 = omega (arith, l, exclusions) in
          let turn : k % 2 < 2 = omega arith in
          rw (exclusion_at (n / 4) k d within)
          (omega (arith, within, names), omega (arith, within, names), omega (arith, turn, seasons));
      loads_each = works ∙ sym names;
      cells = λ i l. cells_fit seed n i (omega (arith, l, names));
      loads_few = rw names (omega (arith, work, few));
      risks_each = risks ∙ sym (all_entries_are seed n 8 (scenarios_before (drawn_tables seed n)) (scenarios_even seed
          n));
      risks_few = omega (arith, risks, runs, few);
      risks_small = all_small drawn.risks (risks-small seed n);
      soft_each = length-replicate (length drawn.risks / 8) false
          ∙ eighth (length drawn.risks) (all_runs seed n) risks
          ∙ sym (all_entries_are seed n 1 periods_before periods_even ∙ omega arith);
    }
