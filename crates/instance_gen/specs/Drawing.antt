-- Defines what is drawn of an instance, in the order of the draws: each function draws on from what was drawn before
-- it, with the next words of the generator, and leaves out none.
use Rattle.std.specs.Prelude.{ℕ, zero, suc, ◌+◌, ◌*◌, ◌%◌, ◌^◌, ℤ, pos, List, [], ◌∷◌, ◌++◌, slice_index}
use Rattle.rand_core.specs.Pcg32Seed.{pcg32_seed}
use Rattle.rand_pcg.specs.Lcg.{Lcg}
use Rattle.rand_pcg.specs.Pcg.{pcg32, pcg32_of_seed}
use Rattle.instance_model.specs.declared.parts.LoadCell.{LoadCell}

-- the generator that a number gives, before its first word
unfoldable pub generator_of : ℕ → Lcg
generator_of seed = pcg32_of_seed (pcg32_seed 16 seed)

-- the next word modulo m, and the generator after it
unfoldable pub draw : ℕ → Lcg → ℕ × Lcg
draw m source = ((pcg32 source).0 % m, (pcg32 source).1)

-- the count of 10^-12 that a whole number is
abbrev pub whole : ℕ → ℤ
whole n = pos (n * 10 ^ 12)

-- ---- the durations of an intervention

-- the durations so far, by start, and the generator that gives the next word
pub record Durations : Type 0 where
  pub source : Lcg
  pub durations : List ℕ

-- one more: from 1 to 4
abbrev pub with_duration : Durations → Durations
with_duration d =
    let next = draw 4 d.source in
    record { source = next.1; durations = d.durations ++ (1 + next.0) ∷ [] }

-- n more
unfoldable pub with_durations : ℕ → Durations → Durations
with_durations zero d = d
with_durations (suc n) d = with_duration (with_durations n d)

-- ---- its loads and risks, by start, period of the run, and resource or scenario

-- the load cells of the intervention so far, the risks of all interventions so far, and the generator
pub record Runs : Type 0 where
  pub source : Lcg
  pub cells : List LoadCell
  pub risks : List ℤ

-- at start s in period t the load of resource 0, from 1 to 9
abbrev pub with_first_load : ℕ → ℕ → Runs → Runs
with_first_load s t d =
    let next = draw 9 d.source in
    record {
      source = next.1;
      cells = d.cells ++ record { start = s; period = t; resource = 0; load = whole (1 + next.0) } ∷ [];
      risks = d.risks;
    }

-- the load of resource 1, from 0 to 4
abbrev pub with_second_load : ℕ → ℕ → Runs → Runs
with_second_load s t d =
    let next = draw 5 d.source in
    record {
      source = next.1;
      cells = d.cells ++ record { start = s; period = t; resource = 1; load = whole next.0 } ∷ [];
      risks = d.risks;
    }

-- the risk in one more scenario, from 0 to 99
abbrev pub with_risk : Runs → Runs
with_risk d =
    let next = draw 100 d.source in
    record { source = next.1; cells = d.cells; risks = d.risks ++ whole next.0 ∷ [] }

-- the risks in n more
unfoldable pub with_risks : ℕ → Runs → Runs
with_risks zero d = d
with_risks (suc n) d = with_risk (with_risks n d)

-- period t of the run at start s: both loads, then 8 risks
unfoldable pub with_period : ℕ → ℕ → Runs → Runs
with_period s t d = with_risks 8 (with_second_load s t (with_first_load s t d))

-- the first n periods of the run at start s
unfoldable pub with_run : ℕ → ℕ → Runs → Runs
with_run s zero d = d
with_run s (suc n) d = with_period s (s + n) (with_run s n d)

-- the runs at the first n starts, of these durations
unfoldable pub with_starts : List ℕ → ℕ → Runs → Runs
with_starts durations zero d = d
with_starts durations (suc n) d =
    with_run (n + 1) (slice_index durations n) (with_starts durations n d)

-- ---- all interventions

-- the durations and load cells by intervention so far, all risks so far, and the generator
pub record Drawn : Type 0 where
  pub source : Lcg
  pub delta : List (List ℕ)
  pub loads : List (List LoadCell)
  pub risks : List ℤ

-- before the first draw
unfoldable pub nothing_drawn : ℕ → Drawn
nothing_drawn seed = record { source = generator_of seed; delta = []; loads = []; risks = [] }

-- one more intervention: the durations at its 50 starts, then the loads and risks of its runs
unfoldable pub with_intervention : Drawn → Drawn
with_intervention d =
    let first = with_durations 50 (record { source = d.source; durations = [] }) in
    let then = with_starts first.durations 50 (record { source = first.source; cells = []; risks = d.risks }) in
    record {
      source = then.source;
      delta = d.delta ++ first.durations ∷ [];
      loads = d.loads ++ then.cells ∷ [];
      risks = then.risks;
    }

-- n interventions
unfoldable pub interventions_of : (seed n : ℕ) → Drawn
interventions_of seed zero = nothing_drawn seed
interventions_of seed (suc n) = with_intervention (interventions_of seed n)
