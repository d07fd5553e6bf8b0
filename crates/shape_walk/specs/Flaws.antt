-- The flaw of a first fault, and the fault that it is at a place. Not part of
-- any promise: only private functions cite it.
use Rattle.std.specs.Prelude.{ℕ, List, [], ◌∷◌, Option, Some, None}
use Rattle.instance_shape.specs.declared.fault.Flaw.{Flaw}
use Rattle.instance_shape.specs.declared.fault.Fault.{Fault}

abbrev pub first_flaw : List Fault → Option Flaw
first_flaw [] = None
first_flaw (f ∷ fs) = Some f.flaw

abbrev pub flaw_at : ℕ → Option Flaw → Option Fault
flaw_at at None = None
flaw_at at (Some f) = Some (record { at = at; flaw = f })
