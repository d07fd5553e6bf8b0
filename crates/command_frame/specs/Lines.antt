-- The lines of refusals, each with its line feed.
use Rattle.std.specs.Prelude.{ℕ, List, [], ◌++◌, codes, decimal}
use Rattle.instance_shape.specs.declared.fault.Which.{Which}
use Rattle.instance_shape.specs.declared.fault.Which.TheVariants as which
use Rattle.instance_shape.specs.declared.fault.Flaw.{Flaw}
use Rattle.instance_shape.specs.declared.fault.Flaw.TheVariants as flaw
use Rattle.instance_shape.specs.Keys.{text_of}
use Rattle.instance_shape.specs.CrossFaults.{CrossFault, scenario_list, band_length, bad_tmax, no_delta, unknown}
use Rattle.instance_shape.specs.CrossFaults.{no_risk, scenario_count}
use Rattle.instance_shape.specs.FileFaults.{FileFault, syntax, too_deep, shape, across}
use Rattle.plan_text.specs.declared.fault.PlanFault.{PlanFault}
use Rattle.plan_text.specs.declared.fault.PlanFault.TheVariants.{BadLine, UnknownName, Twice, Memory}
use Rattle.move_script.specs.declared.fault.ScriptFault.{ScriptFault}
use Rattle.move_script.specs.declared.fault.ScriptFault.TheVariants as script
use Rattle.certificate_text.specs.declared.read.fault.CertFault.{CertFault}
use Rattle.certificate_text.specs.declared.read.fault.CertFault.TheVariants as cert

-- the words are not in the grammar
abbrev pub words_line : List ℕ
words_line = codes "refused words\n"

-- memory ran out
abbrev pub memory_line : List ℕ
memory_line = codes "refused memory\n"

-- a line that ends with a number
abbrev pub numbered_line : List ℕ → ℕ → List ℕ
numbered_line words n = words ++ decimal n ++ codes "\n"

-- the file of this word could not be read
abbrev pub read_line : ℕ → List ℕ
read_line word = numbered_line (codes "refused read ") word

-- the file of this word could not be written whole
abbrev pub write_line : ℕ → List ℕ
write_line word = numbered_line (codes "refused write ") word

-- the instance file has too many bytes
abbrev pub long_instance_line : List ℕ
long_instance_line = codes "refused instance too long\n"

-- a blank, and a number
abbrev pub then_number : ℕ → List ℕ
then_number n = codes " " ++ decimal n

-- a blank, and a text
abbrev pub then_text : List ℕ → List ℕ
then_text text = codes " " ++ text

-- how a limit is called
abbrev pub limit_word : Which → List ℕ
limit_word which.Periods = codes "periods"
limit_word which.Scenarios = codes "scenarios"
limit_word which.Resources = codes "resources"
limit_word which.Interventions = codes "interventions"
limit_word which.Seasons = codes "seasons"
limit_word which.Exclusions = codes "exclusions"
limit_word which.RiskCells = codes "risk-cells"
limit_word which.WorkloadEntries = codes "workload-entries"

-- a fault of shape: its words, and where it is
abbrev pub flaw_words : Flaw → List ℕ
flaw_words flaw.Double = codes "double"
flaw_words flaw.BadName = codes "bad name"
flaw_words (flaw.Missing key) = codes "missing"
flaw_words flaw.Shape = codes "shape"
flaw_words flaw.TooLarge = codes "too large"
flaw_words (flaw.Limit limit) = codes "limit"

abbrev pub flaw_place : ℕ → Flaw → List ℕ
flaw_place at (flaw.Missing key) = then_number at ++ then_text (text_of key)
flaw_place at (flaw.Limit limit) = then_number at ++ then_text (limit_word limit)
flaw_place at _ = then_number at

-- a fault across the file: its words, and what it is at
abbrev pub across_words : CrossFault → List ℕ
across_words scenario_list = codes "scenario list"
across_words (band_length resource) = codes "band length"
across_words (bad_tmax intervention) = codes "bad tmax"
across_words (no_delta intervention) = codes "no delta"
across_words (unknown name) = codes "unknown"
across_words (no_risk intervention period start) = codes "no risk"
across_words (scenario_count intervention period start) = codes "scenario count"

abbrev pub across_place : CrossFault → List ℕ
across_place scenario_list = []
across_place (band_length resource) = then_text resource
across_place (bad_tmax intervention) = then_text intervention
across_place (no_delta intervention) = then_text intervention
across_place (unknown name) = then_text name
across_place (no_risk intervention period start) = then_text intervention ++ (then_number period ++ then_number start)
across_place (scenario_count intervention period start) =
    then_text intervention ++ (then_number period ++ then_number start)

-- the fault of an instance file: its words, and where it is
abbrev pub fault_words : FileFault → List ℕ
fault_words (syntax at) = codes "syntax"
fault_words (too_deep at) = codes "too deep"
fault_words (shape fault) = flaw_words fault.flaw
fault_words (across fault) = across_words fault

abbrev pub fault_place : FileFault → List ℕ
fault_place (syntax at) = then_number at
fault_place (too_deep at) = then_number at
fault_place (shape fault) = flaw_place fault.at fault.flaw
fault_place (across fault) = across_place fault

abbrev pub instance_fault_line : FileFault → List ℕ
instance_fault_line fault = codes "refused instance " ++ (fault_words fault ++ (fault_place fault ++ codes "\n"))

-- the plan file has too many bytes
abbrev pub long_plan_line : List ℕ
long_plan_line = codes "refused plan too long\n"

-- the first faulty line of a plan text
abbrev pub plan_fault_line : PlanFault → List ℕ
plan_fault_line (BadLine n) = numbered_line (codes "refused plan bad line ") n
plan_fault_line (UnknownName n) = numbered_line (codes "refused plan unknown name ") n
plan_fault_line (Twice n) = numbered_line (codes "refused plan twice ") n
plan_fault_line Memory = memory_line

-- the script file has too many bytes
abbrev pub long_script_line : List ℕ
long_script_line = codes "refused script too long\n"

-- the first faulty line of a script's text
abbrev pub script_fault_line : ScriptFault → List ℕ
script_fault_line (script.BadLine n) = numbered_line (codes "refused script bad line ") n
script_fault_line (script.UnknownName n) = numbered_line (codes "refused script unknown name ") n
script_fault_line script.Memory = memory_line

-- line n of a script sets a start that isn't allowed
abbrev pub not_allowed_line : ℕ → List ℕ
not_allowed_line n = numbered_line (codes "refused script not allowed ") n

-- line n of a script undoes where there is no plan but the opening
abbrev pub nothing_to_undo_line : ℕ → List ℕ
nothing_to_undo_line n = numbered_line (codes "refused script nothing to undo ") n

-- all lines of a script are done: their number
abbrev pub end_line : ℕ → List ℕ
end_line n = numbered_line (codes "end ") n

-- the certificate file has too many bytes
abbrev pub long_certificate_line : List ℕ
long_certificate_line = codes "refused certificate too long\n"

-- the first faulty line of a certificate's text
abbrev pub certificate_fault_line : CertFault → List ℕ
certificate_fault_line (cert.Cut n) = numbered_line (codes "refused certificate cut ") n
certificate_fault_line (cert.BadLine n) = numbered_line (codes "refused certificate bad line ") n
certificate_fault_line (cert.Bounds n) = numbered_line (codes "refused certificate bounds ") n
certificate_fault_line cert.Memory = memory_line

-- leaf n of a certificate's tree doesn't hold
abbrev pub failing_leaf_line : ℕ → List ℕ
failing_leaf_line n = numbered_line (codes "refused certificate leaf ") n
