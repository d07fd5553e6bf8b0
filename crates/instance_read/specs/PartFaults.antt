-- The fault of a file that a fault of a part of the reading is. Not part of
-- any promise: only private functions cite it.
use Rattle.std.specs.Prelude.{◌≡◌, ◌≢◌, Option, Some, None}
use Rattle.json_grammar.specs.declared.fault.TextFault.{TextFault}
use Rattle.json_grammar.specs.declared.fault.TextFault.TheVariants as text
use Rattle.instance_rows.specs.Answers.{fault_view}
use Rattle.instance_rows.specs.declared.fault.RowsFault.{RowsFault}
use Rattle.instance_rows.specs.declared.fault.RowsFault.TheVariants as rows
use Rattle.instance_read.specs.Faults.{fault_of}
use Rattle.instance_read.specs.declared.fault.InstanceFault.{InstanceFault}
use Rattle.instance_read.specs.declared.fault.StreamFault.{StreamFault}
use Rattle.instance_read.specs.declared.fault.StreamFault.TheVariants as stream
use Rattle.instance_shape.specs.FileFaults.{FileFault, syntax, too_deep, across}

-- none where memory ran out
abbrev pub of_text : TextFault → Option FileFault
of_text (text.Syntax at) = Some (syntax at)
of_text (text.TooDeep at) = Some (too_deep at)
of_text text.Memory = None

abbrev pub of_rows : RowsFault → Option FileFault
of_rows (rows.Across f) = Some (across (fault_view f))
of_rows rows.Memory = None

-- a fault of a device's file is this fault of its bytes, and none only where memory ran out
abbrev pub IsOfBytes : InstanceFault → StreamFault → Type 0
IsOfBytes fault (stream.Text told) = (told ≡ fault) × (fault_of told ≢ None)
IsOfBytes fault stream.Memory = Unit {0}
IsOfBytes fault stream.Failed = ⊥
IsOfBytes fault stream.TooLong = ⊥
