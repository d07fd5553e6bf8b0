-- Starts and workloads, as the search reads them.
use Rattle.std.proofs.Common.{◌≡◌, ℕ, ◌+◌, ◌<◌, ◌≤◌, arith, subst, List, length, get_or, true}
use Rattle.std.proofs.lemmas.Bool.Decides.{nat_tests}
use Rattle.std.proofs.lemmas.List.Elements.{All-get_or}
use Rattle.instance_model.specs.declared.parts.LoadCell.{LoadCell}
use Rattle.instance_model.specs.Tables.{Tables, is_allowed, in_run, delta_of}
use Rattle.instance_model.specs.Fitting.{AreCells}
use Rattle.instance_model.proofs.EntryLemmas.{is_allowed_facts}
use Rattle.lagrange_bound.specs.Changes.{IsBandPlace}
use Rattle.season_exclusion.specs.Broken.{naming_of}
use Rattle.season_exclusion.proofs.NamedLemmas.{IsOneNaming, naming_to-names}

-- each period of a run is one of the instance
run_within : (inst : Tables) (i s t : ℕ) → is_allowed inst i s ≡ true → in_run inst i s t ≡ true
    → (1 ≤ t) × (t ≤ inst.periods)
unfolding in_run
run_within inst i s t a r =
    let facts = is_allowed_facts inst i s a in
    let from : s ≤ t = grind (arith, nat_tests) in
    let to : t < s + delta_of inst i s = grind (arith, nat_tests) in
    (omega (arith, facts.0, from), omega (arith, facts.2, to))

-- a workload is that of a band
pub cell_band : (inst : Tables) (i : ℕ) (cells : List LoadCell) (k : ℕ) (d : LoadCell) → AreCells inst i cells
    → k < length cells → IsBandPlace inst (get_or cells k d).resource (get_or cells k d).period
cell_band inst i cells k d c l =
    let t = run_within inst i (get_or cells k d).start (get_or cells k d).period (c.allowed k d l) (c.running k d l) in
    record { resource = c.resources k d l; from = t.0; to = t.1 }

-- an exclusion that names an intervention is known
pub named_number : (inst : Tables) (i k : ℕ) (xs : List ℕ) → xs ≡ naming_of inst i → k < length xs
    → get_or xs k 0 < length inst.exclusion_names
named_number inst i k xs e l =
    let all = naming_to-names inst (length inst.exclusion_names) i in
    let low : k < length (naming_of inst i) = subst (λ (ys : List ℕ). k < length ys) e l in
    rw e (All-get_or (IsOneNaming inst (length inst.exclusion_names) i) (naming_of inst i) k 0 low all).within
