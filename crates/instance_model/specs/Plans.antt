-- Plans, what is in progress under one, and what it adds up. A plan gives each intervention, in file order, one start
-- or none. Runs on board, where only some interventions have a start, are such a list too.
use Rattle.std.specs.Prelude.{◌*◌, ◌^◌, ◌≡◌, ℕ, ◌+◌, ◌<◌, ◌≤◌, ℤ, pos, Bool, false, ◌&&◌, List, length, Option, Some}
use Rattle.std.specs.Prelude.{None, slice_index, slice_index_or, unsigned_abs, IfSome, IsTrue, if◌then◌else◌}
use Rattle.fixed_num.specs.Sums.{sum_below, list_of}
use Rattle.instance_model.specs.Naturals.{count_sum}
use Rattle.instance_model.specs.Tables.{Tables, is_allowed, scenarios_of, in_run, risk_of, soft_of, load_of}

-- the start of intervention i
abbrev pub start_of : List (Option ℕ) → ℕ → Option ℕ
start_of plan i = slice_index_or plan i None

-- each start that the plan gives is allowed
unfoldable pub RunsAreAllowed : Tables → List (Option ℕ) → Type 0
RunsAreAllowed inst plan = (i : ℕ) → i < length plan → IfSome (start_of plan i) (λ s. IsTrue (is_allowed inst i s))

-- intervention i has a start, and it is allowed
pub record HasAllowedStart (inst : Tables) (plan : List (Option ℕ)) (i : ℕ) : Type 0 where
  pub start : ℕ
  pub given : start_of plan i ≡ Some start
  pub allowed : IsTrue (is_allowed inst i start)

-- one allowed start for each intervention
pub record AreAllowedStarts (inst : Tables) (starts : List ℕ) : Type 0 where
  pub each : length starts ≡ length inst.names
  pub allowed : (i : ℕ) → i < length starts → IsTrue (is_allowed inst i (slice_index starts i))

-- an intervention with this start, or none, is in progress in period t
abbrev pub runs_at : Tables → ℕ → ℕ → Option ℕ → Bool
runs_at inst i t None = false
runs_at inst i t (Some s) = in_run inst i s t

-- intervention i is in progress in period t
abbrev pub is_running : Tables → List (Option ℕ) → ℕ → ℕ → Bool
is_running inst plan i t = runs_at inst i t (start_of plan i)

-- ---- loads

-- the workload of resource c in period t that an intervention adds at a start
unfoldable pub load_at : Tables → ℕ → ℕ → ℕ → Option ℕ → ℤ
load_at inst c t i None = pos 0
load_at inst c t i (Some s) = if in_run inst i s t then load_of inst i s c t else pos 0

-- the load of resource c in period t: the sum of the workloads of the interventions in progress, in counts of 10^-12
unfoldable pub load_sum : Tables → List (Option ℕ) → ℕ → ℕ → ℤ
load_sum inst plan c t = sum_below (length inst.names) (λ i. load_at inst c t i (start_of plan i))

-- ---- risks

-- the risk of scenario k in period t that an intervention adds at a start
unfoldable pub risk_at : Tables → ℕ → ℕ → ℕ → Option ℕ → ℤ
risk_at inst t k i None = pos 0
risk_at inst t k i (Some s) = if in_run inst i s t then risk_of inst i s t k else pos 0

-- the sum of scenario k in period t: of the risks of the interventions in progress, in counts of 10^-12
unfoldable pub scenario_sum : Tables → List (Option ℕ) → ℕ → ℕ → ℤ
scenario_sum inst plan t k = sum_below (length inst.names) (λ i. risk_at inst t k i (start_of plan i))

-- the scenario sums of period t, in the order of the scenarios
unfoldable pub scenario_sums : Tables → List (Option ℕ) → ℕ → List ℤ
scenario_sums inst plan t = list_of (scenarios_of inst t) (λ k. scenario_sum inst plan t (k + 1))

-- the scenario sums of period t over the interventions before i
unfoldable pub sums_before : Tables → List (Option ℕ) → ℕ → ℕ → List ℤ
sums_before inst plan t i =
    list_of (scenarios_of inst t) (λ k. sum_below i (λ j. risk_at inst t (k + 1) j (start_of plan j)))

-- a whole number is at most as large as a scenario sum of 1,024 risks can be
pub record IsSmallSum (z : ℤ) : Type 0 where
  pub small : unsigned_abs z ≤ 1024 * 10 ^ 20

-- 1 where an intervention is in progress in period t and its start is soft there, and else 0
unfoldable pub soft_at : Tables → ℕ → ℕ → Option ℕ → ℕ
soft_at inst t i None = 0
soft_at inst t i (Some s) = if in_run inst i s t && soft_of inst i s t then 1 else 0

-- how many interventions are in progress in period t at a start that is soft there
unfoldable pub soft_count : Tables → List (Option ℕ) → ℕ → ℕ
soft_count inst plan t = count_sum (length inst.names) (λ i. soft_at inst t i (start_of plan i))
