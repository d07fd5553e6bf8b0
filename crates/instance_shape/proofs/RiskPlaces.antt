-- What stands in the tables of risks and soft flags at a start, a period and a scenario.
use Rattle.std.proofs.Common.{◌≡◌, ℕ, ◌+◌, ◌-◌, ◌<◌, true, false, List, [], length, get_or, None, refl, sym, ◌∙◌, ap}
use Rattle.std.proofs.Common.{arith, ℤ, pos, unwrap_or}
use Rattle.std.specs.Prelude.{slice_index, slice_index_or}
use Rattle.std.proofs.lemmas.List.{get_or-map, length-map}
use Rattle.json_grammar.specs.Tree.{Tree, tree, Node}
use Rattle.instance_model.specs.Tables as model
use Rattle.instance_model.specs.Tables.{allowed_of, entry_place, risk_place, risk_of, soft_of, is_allowed, in_run}
use Rattle.instance_model.specs.Tables.{scenarios_of, scenarios_before, periods_before}
use Rattle.instance_model.proofs.EntryLemmas.{IsRunning, IsRunning-from, entry_place_below, scenarios_before_rises}
use Rattle.instance_model.proofs.EntryLemmas.{scenarios_before_more}
use Rattle.instance_model.proofs.FitLemmas.{is_allowed_is, delta_of_is, tmax_is}
use Rattle.instance_shape.specs.CrossFaults.{cross_fault}
use Rattle.instance_shape.specs.FileTables.{tables, some_differs, soft_at}
use Rattle.instance_shape.specs.LookUp.{Entry, count_at, risk_list, durations, periods, interventions}
use Rattle.instance_shape.specs.OwnNumbers.{each_at, each_risk}
use Rattle.instance_shape.proofs.NoCrossFault.{scenarios_each}
use Rattle.instance_shape.proofs.Places.{IsInRun, table_at}
use Rattle.instance_shape.proofs.RunLengths.{durations_are, table_length, all_grow, soft_grow}

-- the risk numbers of an intervention in period k + 1 + j at start k + 1
abbrev pub numbers_of : Tree → ℕ → ℕ → List Tree
numbers_of v k j = unwrap_or (risk_list v (k + 1 + j) (k + 1)) []

-- stands for an entry past the last one
abbrev pub no_entry : Entry
no_entry = record { key = []; value = tree 0 0 Node.null }

-- intervention i
abbrev pub intervention : Tree → ℕ → Tree
intervention root i = (slice_index_or (interventions root) i no_entry).value

-- ---- each entry is the one of the file under these keys

-- the table of risks is the counts of the risk numbers
risks_are : (slack : ℤ) (root : Tree) → (tables slack root).risks ≡ each_risk count_at root
risks_are slack root = refl

pub each_risk_at : {A : Type 0} (slack : ℤ) (root : Tree) (g : Tree → A) (i k j q : ℕ) (d : A) (x : Tree)
    → cross_fault root ≡ None → i < length (interventions root) → IsInRun root (intervention root i) k j
    → q < length (numbers_of (intervention root i) k j)
    → get_or (each_risk g root) (risk_place (tables slack root) i (k + 1) (k + 1 + j) (q + 1)) d
    ≡ g (get_or (numbers_of (intervention root i) k j) q x)
unfolding risk_place
each_risk_at slack root g i k j q d x h l r m =
    let v = intervention root i in
    let place : entry_place (tables slack root) (scenarios_before (tables slack root)) i (k + 1) (k + 1 + j) + (q + 1
    - 1) ≡ entry_place (tables slack root) (scenarios_before (tables slack root)) i (k + 1) (k + 1 + j) + q =
    omega arith in
    ap (λ p. get_or (each_risk g root) p d) place
    ∙ table_at slack root (each_at g) (scenarios_before (tables slack root)) i k j q no_entry d
    (all_grow slack root g h) l r (omega (arith, m, length-map (numbers_of v k j) g))
    ∙ get_or-map g (numbers_of v k j) q x d m

-- the risk of the tables is the count of the number
pub risk_is : (slack : ℤ) (root : Tree) (i k j q : ℕ) (x : Tree) → cross_fault root ≡ None
    → i < length (interventions root) → IsInRun root (intervention root i) k j
    → q < length (numbers_of (intervention root i) k j)
    → risk_of (tables slack root) i (k + 1) (k + 1 + j) (q + 1)
    ≡ count_at (get_or (numbers_of (intervention root i) k j) q x)
unfolding risk_of
risk_is slack root i k j q x h l r m = each_risk_at slack root count_at i k j q (pos 0) x h l r m

-- the soft flag is whether one of the numbers differs from its count
pub soft_is : (slack : ℤ) (root : Tree) (i k j : ℕ) → i < length (interventions root)
    → IsInRun root (intervention root i) k j → soft_of (tables slack root) i (k + 1) (k + 1 + j)
    ≡ some_differs (numbers_of (intervention root i) k j)
unfolding soft_of
soft_is slack root i k j l r =
    let first : entry_place (tables slack root) periods_before i (k + 1) (k + 1 + j) ≡ entry_place (tables slack
    root) periods_before i (k + 1) (k + 1 + j) + 0 = omega arith in
    ap (λ p. get_or (tables slack root).soft p false) first
    ∙ table_at slack root soft_at periods_before i k j 0 no_entry false (soft_grow root) l r (omega arith)

-- ---- starts, periods and places

pub in_run_is : (slack : ℤ) (root : Tree) (i k j : ℕ) → i < length (interventions root)
    → is_allowed (tables slack root) i (k + 1) ≡ true → in_run (tables slack root) i (k + 1) (k + 1 + j) ≡ true
    → IsInRun root (intervention root i) k j
in_run_is slack root i k j l a r =
    let inst = tables slack root in
    let ds = durations (intervention root i) in
    let d : model.durations inst i ≡ ds = durations_are slack root i no_entry l in
    let runs : IsRunning inst i (k + 1) (k + 1 + j) = IsRunning-from inst i (k + 1) (k + 1 + j) a r in
    let same : k + 1 - 1 ≡ k = omega arith in
    record {
      among = omega (arith, runs.among, tmax_is inst i ds d);
      allowed = sym (is_allowed_is inst i (k + 1) ds (allowed_of (periods root) ds (k + 1)) d refl) ∙ a;
      within = omega (arith, runs.to, delta_of_is inst i (k + 1) ds d, ap (slice_index ds) same);
    }

-- the place of a risk is one of the table's
pub place_below : {A : Type 0} (slack : ℤ) (root : Tree) (g : Tree → A) (i k j q : ℕ) → cross_fault root ≡ None
    → i < length (interventions root) → is_allowed (tables slack root) i (k + 1) ≡ true
    → in_run (tables slack root) i (k + 1) (k + 1 + j) ≡ true → q < scenarios_of (tables slack root) (k + 1 + j)
    → risk_place (tables slack root) i (k + 1) (k + 1 + j) (q + 1) < length (each_risk g root)
unfolding risk_place
place_below slack root g i k j q h l a r m =
    let inst = tables slack root in
    let runs : IsRunning inst i (k + 1) (k + 1 + j) = IsRunning-from inst i (k + 1) (k + 1 + j) a r in
    omega (
      arith,
      m,
      table_length slack root (each_at g) (scenarios_before inst) (all_grow slack root g h),
      entry_place_below inst (scenarios_before inst) i (k + 1) (k + 1 + j) (scenarios_before_rises inst)
          (omega (arith, l, length-map (interventions root) (λ (e : Entry). e.key))) a runs,
      scenarios_before_more inst (k + 1 + j) (scenarios_each root h) (omega arith) (omega (arith, runs.to, runs.ends)),
    )
