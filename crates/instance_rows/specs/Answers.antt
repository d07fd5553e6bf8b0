-- Defines which fault across a file a Rust fault is, and what a part of the work answers about the first one.
use Rattle.std.specs.Prelude.{◌≡◌, Option, Some, None, Result, Ok, Err, string_bytes}
use Rattle.instance_shape.specs.CrossFaults as file
use Rattle.instance_rows.specs.declared.fault.CrossFault.{CrossFault}
use Rattle.instance_rows.specs.declared.fault.CrossFault.TheVariants.{ScenarioList, BandLength, BadTmax, NoDelta}
use Rattle.instance_rows.specs.declared.fault.CrossFault.TheVariants.{Unknown, NoRisk, ScenarioCount}
use Rattle.instance_rows.specs.declared.fault.RowsFault.{RowsFault}
use Rattle.instance_rows.specs.declared.fault.RowsFault.TheVariants.{Across, Memory}

abbrev pub fault_view : CrossFault → file.CrossFault
fault_view ScenarioList = file.scenario_list
fault_view (BandLength resource) = file.band_length (string_bytes resource)
fault_view (BadTmax intervention) = file.bad_tmax (string_bytes intervention)
fault_view (NoDelta intervention) = file.no_delta (string_bytes intervention)
fault_view (Unknown name) = file.unknown (string_bytes name)
fault_view (NoRisk intervention period start) = file.no_risk (string_bytes intervention) period start
fault_view (ScenarioCount intervention period start) = file.scenario_count (string_bytes intervention) period start

-- a fault is the one that there is; memory may run out at any time
abbrev pub TellsFault : Option file.CrossFault → RowsFault → Type 0
TellsFault o (Across f) = o ≡ Some (fault_view f)
TellsFault o Memory = Unit {0}

-- a result is there only where there is no fault
abbrev pub Tells : {A : Type 0} → Option file.CrossFault → Result A RowsFault → Type 0
Tells o (Ok x) = o ≡ None
Tells o (Err e) = TellsFault o e
