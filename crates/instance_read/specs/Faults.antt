-- The fault of a file that an answer tells.
use Rattle.std.specs.Prelude.{Option, Some, None}
use Rattle.instance_shape.specs.declared.fault.Flaw.TheVariants as flaw
use Rattle.instance_shape.specs.FileFaults.{FileFault, syntax, too_deep, shape, across}
use Rattle.instance_shape.specs.CrossFaults as cross
use Rattle.instance_read.specs.declared.fault.InstanceFault.{InstanceFault}
use Rattle.instance_read.specs.declared.fault.InstanceFault.TheVariants.{Syntax, TooDeep, Double, BadName, Missing}
use Rattle.instance_read.specs.declared.fault.InstanceFault.TheVariants.{Shape, TooLarge, Limit, ScenarioList}
use Rattle.instance_read.specs.declared.fault.InstanceFault.TheVariants.{BandLength, BadTmax, NoDelta, Unknown, NoRisk}
use Rattle.instance_read.specs.declared.fault.InstanceFault.TheVariants.{ScenarioCount, Memory}

-- none where memory ran out
abbrev pub fault_of : InstanceFault → Option FileFault
fault_of (Syntax at) = Some (syntax at)
fault_of (TooDeep at) = Some (too_deep at)
fault_of (Double at) = Some (shape (record { at = at; flaw = flaw.Double }))
fault_of (BadName at) = Some (shape (record { at = at; flaw = flaw.BadName }))
fault_of (Missing at key) = Some (shape (record { at = at; flaw = flaw.Missing key }))
fault_of (Shape at) = Some (shape (record { at = at; flaw = flaw.Shape }))
fault_of (TooLarge at) = Some (shape (record { at = at; flaw = flaw.TooLarge }))
fault_of (Limit at which) = Some (shape (record { at = at; flaw = flaw.Limit which }))
fault_of ScenarioList = Some (across cross.scenario_list)
fault_of (BandLength resource) = Some (across (cross.band_length resource))
fault_of (BadTmax intervention) = Some (across (cross.bad_tmax intervention))
fault_of (NoDelta intervention) = Some (across (cross.no_delta intervention))
fault_of (Unknown name) = Some (across (cross.unknown name))
fault_of (NoRisk intervention period start) = Some (across (cross.no_risk intervention period start))
fault_of (ScenarioCount intervention period start) = Some (across (cross.scenario_count intervention period start))
fault_of Memory = None
