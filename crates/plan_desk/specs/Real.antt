-- Real files and standard output: what a desk of them tells.
use Rattle.std.specs.Prelude.{Bool, None}
use Rattle.plan_desk.specs.declared.fault.FaultCounts.{FaultCounts}
use Rattle.plan_desk.specs.Desk.{Shown}

-- whether a file is taken in, whether one is open for writing, and the counts of faults
pub record RealState : Type 0 where
  pub taken : Bool
  pub opened : Bool
  pub faults : FaultCounts

-- it tells nothing else
abbrev pub real_shows : RealState → Shown
real_shows d = record {
  input = record { taken = d.taken; name = None; unread = None };
  output = record { opened = d.opened; name = None; holds = None; written = None };
  said = None;
  faults = record { count = d.faults.count; of_say = d.faults.of_say; last = None };
}
