-- What is drawn of all interventions: how many rows, each one's durations and load cells, and the risks.
use Rattle.std.proofs.Common.{arith, inl, inr, ◌≡◌, ℕ, zero, suc, ◌+◌, ◌*◌, ◌<◌, ◌≤◌, ◌∙◌, ap, sym, refl, subst}
use Rattle.std.proofs.Common.{ℤ, List, [], ◌∷◌, ◌++◌, length, length-append, All, get_or}
use Rattle.std.specs.Prelude.{slice_index}
use Rattle.std.proofs.lemmas.Bool.{cases_lt}
use Rattle.std.proofs.lemmas.List.{get_or_append_left, get_or-append-add}
use Rattle.std.proofs.lemmas.List.Elements.{All-nil}
use Rattle.rand_pcg.specs.Lcg.{Lcg}
use Rattle.instance_model.specs.declared.parts.LoadCell.{LoadCell}
use Rattle.instance_model.specs.Naturals.{count_sum}
use Rattle.instance_model.proofs.EntryLemmas.{count_sum_same}
use Rattle.instance_gen.specs.Drawing.{Runs, Drawn, with_starts, with_intervention, interventions_of, nothing_drawn}
use Rattle.instance_gen.proofs.DurationLemmas.{IsShort, drawn_durations, length-drawn_durations, drawn_durations-short}
use Rattle.instance_gen.proofs.DurationLemmas.{short-at}
use Rattle.instance_gen.proofs.RunLemmas.{IsSmallWhole, AreBefore, starts-length, starts-small, starts-count}
use Rattle.instance_gen.proofs.RunLemmas.{starts-before}

-- the durations and load cells of one intervention
pub record IsRow (ds : List ℕ) (cells : List LoadCell) : Type 0 where
  pub starts : length ds ≡ 50
  pub short : All IsShort ds
  pub source : Lcg
  pub risks : List ℤ
  pub drawn : cells ≡ (with_starts ds 50 (record { source = source; cells = []; risks = risks })).cells

-- what is drawn of the next intervention, after its durations
abbrev pub next_runs : Drawn → Runs
next_runs d =
    with_starts (drawn_durations d.source).durations 50
    (record { source = (drawn_durations d.source).source; cells = []; risks = d.risks })

next_row : (d : Drawn) → IsRow (drawn_durations d.source).durations (next_runs d).cells
next_row d = record {
  starts = length-drawn_durations d.source;
  short = drawn_durations-short d.source;
  source = (drawn_durations d.source).source;
  risks = d.risks;
  drawn = refl;
}

next_delta : (d : Drawn) → (with_intervention d).delta ≡ d.delta ++ (drawn_durations d.source).durations ∷ []
unfolding with_intervention
next_delta d = refl

next_loads : (d : Drawn) → (with_intervention d).loads ≡ d.loads ++ (next_runs d).cells ∷ []
unfolding with_intervention
next_loads d = refl

next_risks : (d : Drawn) → (with_intervention d).risks ≡ (next_runs d).risks
unfolding with_intervention
next_risks d = refl

pub length-delta : (seed n : ℕ) → length (interventions_of seed n).delta ≡ n
unfolding interventions_of nothing_drawn
length-delta seed zero = refl
length-delta seed (suc n) =
    let before = interventions_of seed n in
    let e = length-delta seed n in
    ap length (next_delta before)
    ∙ length-append before.delta ((drawn_durations before.source).durations ∷ [])
    ∙ omega (arith, e)

pub length-loads : (seed n : ℕ) → length (interventions_of seed n).loads ≡ n
unfolding interventions_of nothing_drawn
length-loads seed zero = refl
length-loads seed (suc n) =
    let before = interventions_of seed n in
    let e = length-loads seed n in
    ap length (next_loads before)
    ∙ length-append before.loads ((next_runs before).cells ∷ [])
    ∙ omega (arith, e)

-- the element behind a list
last : {X : Type 0} (xs : List X) (x d : X) (i : ℕ) → length xs ≡ i → get_or (xs ++ x ∷ []) i d ≡ x
last xs x d i e =
    let k : i ≡ length xs + 0 = omega (arith, e) in
    rw k (get_or-append-add xs (x ∷ []) 0 d)

earlier_delta : (seed n i : ℕ) → i < n
    → get_or (interventions_of seed (suc n)).delta i [] ≡ get_or (interventions_of seed n).delta i []
unfolding interventions_of
earlier_delta seed n i h =
    let before = interventions_of seed n in
    let e = length-delta seed n in
    ap (λ (rows : List (List ℕ)). get_or rows i []) (next_delta before)
    ∙ get_or_append_left before.delta ((drawn_durations before.source).durations ∷ []) [] i (omega (arith, e))

earlier_loads : (seed n i : ℕ) → i < n
    → get_or (interventions_of seed (suc n)).loads i [] ≡ get_or (interventions_of seed n).loads i []
unfolding interventions_of
earlier_loads seed n i h =
    let before = interventions_of seed n in
    let e = length-loads seed n in
    ap (λ (rows : List (List LoadCell)). get_or rows i []) (next_loads before)
    ∙ get_or_append_left before.loads ((next_runs before).cells ∷ []) [] i (omega (arith, e))

last_delta : (seed n : ℕ) → get_or (interventions_of seed (suc n)).delta n []
    ≡ (drawn_durations (interventions_of seed n).source).durations
unfolding interventions_of
last_delta seed n =
    let before = interventions_of seed n in
    ap (λ (rows : List (List ℕ)). get_or rows n []) (next_delta before)
    ∙ last before.delta (drawn_durations before.source).durations [] n (length-delta seed n)

last_loads : (seed n : ℕ) → get_or (interventions_of seed (suc n)).loads n [] ≡ (next_runs (interventions_of seed
    n)).cells
unfolding interventions_of
last_loads seed n =
    let before = interventions_of seed n in
    ap (λ (rows : List (List LoadCell)). get_or rows n []) (next_loads before)
    ∙ last before.loads (next_runs before).cells [] n (length-loads seed n)

-- the row of intervention i
pub row_of : (seed n i : ℕ) → i < n
    → IsRow (get_or (interventions_of seed n).delta i []) (get_or (interventions_of seed n).loads i [])
row_of seed zero i h = absurd (omega (arith, h))
row_of seed (suc n) i h =
    elim (cases_lt i n) [
      | inl below ↦
          subst (λ (ds : List ℕ). IsRow ds (get_or (interventions_of seed (suc n)).loads i []))
          (sym (earlier_delta seed n i below))
          (subst (λ (cells : List LoadCell). IsRow (get_or (interventions_of seed n).delta i []) cells)
          (sym (earlier_loads seed n i below)) (row_of seed n i below))
      | inr past ↦
          let e : n ≡ i = omega (arith, h, past) in
          subst (λ (k : ℕ). IsRow (get_or (interventions_of seed (suc n)).delta k [])
          (get_or (interventions_of seed (suc n)).loads k [])) e
          (subst (λ (ds : List ℕ). IsRow ds (get_or (interventions_of seed (suc n)).loads n []))
          (sym (last_delta seed n))
          (subst (λ (cells : List LoadCell). IsRow (drawn_durations (interventions_of seed n).source).durations cells)
          (sym (last_loads seed n)) (next_row (interventions_of seed n))))
    ]

-- ---- the risks

pub risks-small : (seed n : ℕ) → All IsSmallWhole (interventions_of seed n).risks
unfolding interventions_of nothing_drawn
risks-small seed zero = All-nil IsSmallWhole
risks-small seed (suc n) =
    let before = interventions_of seed n in
    subst (All IsSmallWhole) (sym (next_risks before))
    (starts-small (drawn_durations before.source).durations 50
    (record { source = (drawn_durations before.source).source; cells = []; risks = before.risks }) (risks-small seed n))

-- how many periods all runs of an intervention have, where its durations are given
abbrev pub run_periods : List ℕ → ℕ
run_periods ds = count_sum 50 (λ k. slice_index ds k)

pub times_each : (n each : ℕ) (f : ℕ → ℕ) → count_sum n (λ k. each * f k) ≡ each * count_sum n f
unfolding count_sum
times_each zero each f = omega arith
times_each (suc n) each f =
    let e = times_each n each f in
    ap (λ (m : ℕ). m + each * f n) e ∙ omega arith

pub length-risks : (seed n : ℕ) → length (interventions_of seed n).risks
    ≡ 8 * count_sum n (λ i. run_periods (get_or (interventions_of seed n).delta i []))
unfolding interventions_of nothing_drawn count_sum
length-risks seed zero = refl
length-risks seed (suc n) =
    let before = interventions_of seed n in
    let ds = (drawn_durations before.source).durations in
    let e = length-risks seed n in
    let more = starts-length ds 50
    (record { source = (drawn_durations before.source).source; cells = []; risks = before.risks }) in
    let eight = times_each 50 8 (λ k. slice_index ds k) in
    let last : run_periods (get_or (interventions_of seed (suc n)).delta n []) ≡ run_periods ds =
    ap run_periods (last_delta seed n) in
    let front = count_sum_same n (λ i. run_periods (get_or (interventions_of seed (suc n)).delta i []))
    (λ i. run_periods (get_or before.delta i [])) (λ k l. ap run_periods (earlier_delta seed n k l)) in
    let step : length (interventions_of seed (suc n)).risks ≡ length before.risks + 8 * run_periods ds =
    ap length (next_risks before) ∙ more ∙ omega (arith, eight) in
    omega (arith, e, step, last, front)

-- a sum of small numbers is small
pub count_sum_few : (n most : ℕ) (f : ℕ → ℕ) → ((k : ℕ) → k < n → f k ≤ most) → count_sum n f ≤ n * most
unfolding count_sum
count_sum_few zero most f h = omega arith
count_sum_few (suc n) most f h =
    let e = count_sum_few n most f (λ k l. h k (omega (arith, l))) in
    let here = h n (omega arith) in
    omega (arith, e, here)

pub few_periods : (ds : List ℕ) → All IsShort ds → run_periods ds ≤ 200
few_periods ds short = count_sum_few 50 4 (λ k. slice_index ds k) (λ k l. short-at ds short k)

pub few_cells : (ds : List ℕ) (cells : List LoadCell) → IsRow ds cells → length cells ≤ 400
few_cells ds cells row =
    let none : Runs = record { source = row.source; cells = []; risks = row.risks } in
    let most = count_sum_few 50 8 (λ k. 2 * slice_index ds k)
    (λ k l. (let here = short-at ds row.short k in omega (arith, here))) in
    let many : length cells ≡ 0 + count_sum 50 (λ k. 2 * slice_index ds k) =
    ap length row.drawn ∙ starts-count ds 50 none in
    omega (arith, most, many)

-- the cells of one intervention stand in order, each in a run
pub row_cells : (ds : List ℕ) (cells : List LoadCell) → IsRow ds cells → AreBefore ds 51 51 0 cells
row_cells ds cells row =
    let none : Runs = record { source = row.source; cells = []; risks = row.risks } in
    let empty : AreBefore ds 1 1 0 [] = record {
      ordered = λ i j d l m. absurd (omega (arith, m));
      below = All-nil _;
      placed = All-nil _;
    } in
    let starts = row.starts in
    subst (AreBefore ds 51 51 0) (sym row.drawn) (starts-before ds 50 none (omega (arith, starts)) empty)
