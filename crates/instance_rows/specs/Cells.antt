-- Defines which workloads of an intervention become load cells, before these are put in order.
use Rattle.std.specs.Prelude.{ℕ, ◌+◌, ◌-◌, Bool, ◌&&◌, ◌||◌, ◌==◌, cond, List, [], ◌∷◌, ◌++◌, Option, Some, None}
use Rattle.std.specs.Prelude.{nat_le, nat_lt, position, bytes_eq, slice_index}
use Rattle.instance_model.specs.declared.parts.LoadCell.{LoadCell}
use Rattle.instance_model.specs.Tables.{allowed_of}
use Rattle.instance_rows.specs.FileRows.{LoadRow, WorkloadRow}

-- start s is allowed, and its run has period t
abbrev pub runs_in : ℕ → List ℕ → ℕ → ℕ → Bool
runs_in periods ds s t = allowed_of periods ds s && (nat_le s t && nat_lt t (s + slice_index ds (s - 1)))

-- the load cell of a workload of resource c
abbrev pub load_cell : ℕ → LoadRow → LoadCell
load_cell c l = record { start = l.start; period = l.period; resource = c; load = l.load }

-- the load cells of resource c among some workloads
abbrev pub kept : ℕ → List ℕ → ℕ → List LoadRow → List LoadCell
kept periods ds c [] = []
kept periods ds c (l ∷ ls) = cond (runs_in periods ds l.start l.period) (load_cell c l ∷ []) [] ++ kept periods ds c ls

-- those of a resource, if there is one of the name
abbrev pub kept_of : ℕ → List ℕ → Option ℕ → List LoadRow → List LoadCell
kept_of periods ds None ls = []
kept_of periods ds (Some c) ls = kept periods ds c ls

-- those of all resources
abbrev pub all_kept : ℕ → List ℕ → List (List ℕ) → List WorkloadRow → List LoadCell
all_kept periods ds resources [] = []
all_kept periods ds resources (w ∷ ws) =
    kept_of periods ds (position (bytes_eq w.resource) resources) w.loads ++ all_kept periods ds resources ws

-- a cell stands before another, by start, then period, then resource
abbrev pub precedes : LoadCell → LoadCell → Bool
precedes a b =
    nat_lt a.start b.start
    || ((a.start == b.start) && (nat_lt a.period b.period || ((a.period == b.period) && nat_lt a.resource b.resource)))
