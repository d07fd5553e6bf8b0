-- What has been drawn after one step more.
use Rattle.std.proofs.Common.{◌≡◌, ℕ, ◌+◌, ◌∙◌, ap, add-one, List, [], ◌∷◌, ◌++◌, slice_index}
use Rattle.instance_gen.specs.Drawing.{Durations, Runs, Drawn, with_duration, with_durations, with_risk, with_risks}
use Rattle.instance_gen.specs.Drawing.{with_period, with_run, with_starts, with_intervention, interventions_of}

pub duration-more : (n : ℕ) (d : Durations) → with_durations (n + 1) d ≡ with_duration (with_durations n d)
unfolding with_durations
duration-more n d = ap (λ (k : ℕ). with_durations k d) (add-one n)

pub risk-more : (n : ℕ) (d : Runs) → with_risks (n + 1) d ≡ with_risk (with_risks n d)
unfolding with_risks
risk-more n d = ap (λ (k : ℕ). with_risks k d) (add-one n)

pub run-more : (s n : ℕ) (d : Runs) → with_run s (n + 1) d ≡ with_period s (s + n) (with_run s n d)
unfolding with_run
run-more s n d = ap (λ (k : ℕ). with_run s k d) (add-one n)

pub start-more : (durations : List ℕ) (n : ℕ) (d : Runs)
    → with_starts durations (n + 1) d
    ≡ with_run (n + 1) (slice_index durations n) (with_starts durations n d)
unfolding with_starts
start-more durations n d = ap (λ (k : ℕ). with_starts durations k d) (add-one n)

pub intervention-more : (seed n : ℕ)
    → interventions_of seed (n + 1) ≡ with_intervention (interventions_of seed n)
unfolding interventions_of
intervention-more seed n = ap (λ (k : ℕ). interventions_of seed k) (add-one n)

pub intervention-from : (d : Drawn) (first : Durations) (runs : Runs)
    → first ≡ with_durations 50 (record { source = d.source; durations = [] })
    → runs ≡ with_starts first.durations 50 (record { source = first.source; cells = []; risks = d.risks })
    → record {
      source = runs.source;
      delta = d.delta ++ first.durations ∷ [];
      loads = d.loads ++ runs.cells ∷ [];
      risks = runs.risks;
    } ≡ with_intervention d
unfolding with_intervention
intervention-from d first runs e f =
    let shape : Durations → Runs → Drawn = λ x y. record {
      source = y.source;
      delta = d.delta ++ x.durations ∷ [];
      loads = d.loads ++ y.cells ∷ [];
      risks = y.risks;
    } in
    ap (shape first) f
    ∙ ap (λ (x : Durations).
    shape x (with_starts x.durations 50 (record { source = x.source; cells = []; risks = d.risks }))) e
