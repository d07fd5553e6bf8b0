-- Defines what is seen of an instance: its tables, with other durations, and with what these leave of its risks and
-- load cells.
use Rattle.std.specs.Prelude.{◌≡◌, ℕ, ◌<◌, ◌≤◌, ℤ, [], Option, IsSome, IsTrue, length, find}
use Rattle.std.specs.Prelude.{option_map, slice_index_or}
use Rattle.instance_model.specs.Tables.{Tables, tmax, delta_of, is_allowed, in_run, scenarios_of, risk_of, is_cell_of}
use Rattle.instance_model.specs.Fitting.{IsFitting}

-- the workload of the load cell of intervention i at start s, of resource c in period t, where there is one
abbrev pub cell_load : Tables → ℕ → ℕ → ℕ → ℕ → Option ℤ
cell_load inst i s c t = option_map (λ cell. cell.load) (find (is_cell_of s t c) (slice_index_or inst.loads i []))

-- The view has the tables of the instance but for durations, loads, risks and what is said of rounding. It has as many
-- starts, at each start that it allows the instance's duration and risks, and its tables fit too.
pub record IsViewOf (inst view : Tables) : Type 0 where
  pub same : view ≡ record inst {
    delta = view.delta;
    loads = view.loads;
    risks = view.risks;
    soft = view.soft;
    rounded = view.rounded;
  }
  pub starts : (i : ℕ) → i < length inst.names → tmax view i ≡ tmax inst i
  pub durations : (i s : ℕ) → i < length inst.names → IsTrue (is_allowed view i s)
      → delta_of view i s ≡ delta_of inst i s
  pub risks : (i s t k : ℕ) → i < length inst.names → IsTrue (is_allowed view i s) → IsTrue (in_run view i s t) → 1 ≤ k
      → k ≤ scenarios_of inst t → risk_of view i s t k ≡ risk_of inst i s t k
  pub fits : IsFitting view

-- Each resource has a load cell in each period of the run at each start that is allowed.
abbrev pub HasEachCell : Tables → Type 0
HasEachCell inst = (i s c t : ℕ) → i < length inst.names → c < length inst.resource_names
    → IsTrue (is_allowed inst i s) → IsTrue (in_run inst i s t) → IsSome (cell_load inst i s c t)
