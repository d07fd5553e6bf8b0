-- Defines the rolled instance: what is left of a year from a period on, where interventions that begin before it keep
-- their starts and the others may only start in that period or later.
--
-- `plan` has the starts so far, where an intervention may have none.
use Rattle.std.specs.Prelude.{ℕ, ◌+◌, ℤ, pos, Bool, false, not, ◌&&◌, ◌==◌, List, [], Option, Some, None, length}
use Rattle.std.specs.Prelude.{map, filter, take, drop, replicate, nat_le, nat_lt, slice_index_or, if◌then◌else◌}
use Rattle.std.specs.Ordering.{int_eq}
use Rattle.std.specs.List.{range_with_len}
use Rattle.instance_model.specs.declared.parts.LoadCell.{LoadCell}
use Rattle.instance_model.specs.Tables.{Tables, tmax, delta_of, is_allowed, all_entries, entries_at, entries_before}
use Rattle.instance_model.specs.Tables.{scenarios_before, periods_before}
use Rattle.instance_model.specs.Plans.{start_of}
use Rattle.instance_shape.specs.FileTables.{lists_below}

-- ---- starts that are left

-- a start before the period is kept
unfoldable pub is_kept : ℕ → Option ℕ → Bool
is_kept period None = false
is_kept period (Some s) = nat_lt s period

-- an intervention with this start so far, or none, may start at s: a kept start stays, any other one is from the period
-- on
unfoldable pub may_start : ℕ → Option ℕ → ℕ → Bool
may_start period None s = nat_le period s
may_start period (Some begun) s = if nat_lt begun period then s == begun else nat_le period s

-- ---- durations

-- the duration of intervention i at start s, which past the horizon for a start that isn't left
unfoldable pub rolled_delta : Tables → List (Option ℕ) → ℕ → ℕ → ℕ → ℕ
rolled_delta inst plan period i s =
    if may_start period (start_of plan i) s then delta_of inst i s else inst.periods + 1

-- the durations of intervention i, by start
unfoldable pub rolled_durations : Tables → List (Option ℕ) → ℕ → ℕ → List ℕ
rolled_durations inst plan period i =
    map (λ k. rolled_delta inst plan period i (k + 1)) (range_with_len 0 (tmax inst i))

-- the instance with these durations
abbrev pub with_rolled_durations : Tables → List (Option ℕ) → ℕ → Tables
with_rolled_durations inst plan period =
    record inst { delta = map (rolled_durations inst plan period) (range_with_len 0 (length inst.names)) }

-- ---- what is left of loads, risks and soft flags

-- intervention i may start at s in the rolled instance
unfoldable pub is_left : Tables → List (Option ℕ) → ℕ → ℕ → ℕ → Bool
is_left inst plan period i s = is_allowed (with_rolled_durations inst plan period) i s

-- a load cell of intervention i is left: that of a start that is, unless its load is 0
abbrev pub keeps_cell : Tables → List (Option ℕ) → ℕ → ℕ → LoadCell → Bool
keeps_cell inst plan period i cell = is_left inst plan period i cell.start && not (int_eq cell.load (pos 0))

-- the load cells of intervention i
unfoldable pub rolled_cells : Tables → List (Option ℕ) → ℕ → ℕ → List LoadCell
rolled_cells inst plan period i = filter (keeps_cell inst plan period i) (slice_index_or inst.loads i [])

-- the risks of intervention i at start s, by period of the run, then scenario
unfoldable pub start_risks : Tables → ℕ → ℕ → List ℤ
start_risks inst i s =
    take (entries_at inst (scenarios_before inst) i s)
    (drop (entries_before inst (scenarios_before inst) i s) inst.risks)

-- the risks of intervention i at the starts that are left
unfoldable pub rolled_risks : Tables → List (Option ℕ) → ℕ → ℕ → List ℤ
rolled_risks inst plan period i =
    lists_below (tmax inst i) (λ k. if is_left inst plan period i (k + 1) then start_risks inst i (k + 1) else [])

-- ---- the instance

-- the rolled instance: the same tables but for durations, and for loads, risks and soft flags, which are those of the
-- starts that are left; loads of 0 are left out, and nothing counts as rounded
abbrev pub rolled : Tables → List (Option ℕ) → ℕ → Tables
rolled inst plan period = record (with_rolled_durations inst plan period) {
  loads = map (rolled_cells inst plan period) (range_with_len 0 (length inst.names));
  risks = lists_below (length inst.names) (rolled_risks inst plan period);
  soft = replicate (all_entries (with_rolled_durations inst plan period) periods_before) false;
  rounded = 0;
}
