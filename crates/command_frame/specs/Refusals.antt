-- The status and the line of a refusal, and how what is due is said. No part of any promise.
use Rattle.std.specs.Prelude.{◌≡◌, ◌≢◌, ◌⊎◌, ℕ, ◌<◌, ⊤, false, List, [], length, take, Option, Some, None, Result, Ok}
use Rattle.std.specs.Prelude.{Err}
use Rattle.plan_desk.specs.Desk.{Shown, ShowsSame, after_take_in}
use Rattle.plan_desk.specs.Faults.{OneFails, SayFails}
use Rattle.plan_desk.specs.Contents.{WhereToldHolds, Says}
use Rattle.instance_model.specs.declared.limits.Limits.{Limits}
use Rattle.instance_model.specs.Tables.{Tables}
use Rattle.instance_shape.specs.FileFaults.{FileFault}
use Rattle.instance_read.specs.Faults.{fault_of}
use Rattle.command_frame.specs.declared.refusal.Refusal.{Refusal}
use Rattle.command_frame.specs.declared.refusal.Refusal.TheVariants.{Unread, LongInstance, Instance, LongPlan, Plan}
use Rattle.command_frame.specs.declared.refusal.Refusal.TheVariants.{LongScript, Script, LongCertificate, Certificate}
use Rattle.command_frame.specs.declared.refusal.Refusal.TheVariants.{Memory}
use Rattle.command_frame.specs.declared.report.Report.{Report}
use Rattle.command_frame.specs.Lines.{memory_line, read_line, long_instance_line, instance_fault_line, long_plan_line}
use Rattle.command_frame.specs.Lines.{plan_fault_line, long_script_line, script_fault_line, long_certificate_line}
use Rattle.command_frame.specs.Lines.{certificate_fault_line}
use Rattle.command_frame.specs.Ending.{Answer, reply}
use Rattle.command_frame.specs.Bytes.{IsLongInstance, IsOneFault, IsLongPlan, HasFault, IsLongScript, HasFaultyLine}
use Rattle.command_frame.specs.Bytes.{CertificateTexts, IsLongCertificate, HasOneFaultBy, plain_texts}
use Rattle.command_frame.specs.Files.{ReadFails, ReadsSuch}

-- ---- refusals

abbrev pub status_of : Refusal → ℕ
status_of LongInstance = 3
status_of (Instance fault) = 3
status_of LongPlan = 4
status_of (Plan fault) = 4
status_of LongScript = 6
status_of (Script fault) = 6
status_of LongCertificate = 5
status_of (Certificate fault) = 5
status_of (Unread word) = 7
status_of Memory = 11

-- the line of a fault of an instance file; where there is none, memory ran out
abbrev pub line_or_memory : Option FileFault → List ℕ
line_or_memory None = memory_line
line_or_memory (Some fault) = instance_fault_line fault

abbrev pub line_of : Refusal → List ℕ
line_of LongInstance = long_instance_line
line_of (Instance fault) = line_or_memory (fault_of fault)
line_of LongPlan = long_plan_line
line_of (Plan fault) = plan_fault_line fault
line_of LongScript = long_script_line
line_of (Script fault) = script_fault_line fault
line_of LongCertificate = long_certificate_line
line_of (Certificate fault) = certificate_fault_line fault
line_of (Unread word) = read_line word
line_of Memory = memory_line

-- no call failed, but one where a file could not be read, which was no `say`
abbrev pub CountsRefusal : (old new : Shown) → Refusal → Type 0
CountsRefusal old new (Unread word) = OneFails false old new
CountsRefusal old new _ = new.faults ≡ old.faults

-- it comes without a call that failed
abbrev pub IsWithoutFailure : Refusal → Type 0
IsWithoutFailure (Unread word) = ⊥
IsWithoutFailure _ = ⊤

-- why the bytes of the file of this name, which is this word of the command line, are not read: a desk failed, there
-- are more than `most`, or memory ran out
pub data IsReadCause (name : List ℕ) (word most : ℕ) (long : Refusal) (old new : Shown) : Refusal → Type 0 where
  unread : ReadFails name old new → IsReadCause name word most long old new (Unread word)
  too_long : WhereToldHolds old name (λ held. most < length held) → IsReadCause name word most long old new long
  no_memory : IsReadCause name word most long old new Memory

-- why the instance file of this name, which is this word, is refused
abbrev pub IsInstanceCause : Limits → ℕ → List ℕ → (old new : Shown) → Refusal → Type 0
IsInstanceCause limits at name old new (Unread word) = (word ≡ at) × ReadFails name old new
IsInstanceCause limits at name old new LongInstance = WhereToldHolds old name (IsLongInstance limits)
IsInstanceCause limits at name old new (Instance fault) = (told : FileFault) × (fault_of fault ≡ Some told)
    × ReadsSuch name old (λ bytes. IsOneFault limits bytes told)
IsInstanceCause limits at name old new Memory = ⊤
IsInstanceCause limits at name old new _ = ⊥

-- why the plan file of this name, which is this word, is refused for an instance
abbrev pub IsPlanCause : Limits → ℕ → List ℕ → Tables → (old new : Shown) → Refusal → Type 0
IsPlanCause limits at name inst old new (Unread word) = (word ≡ at) × ReadFails name old new
IsPlanCause limits at name inst old new LongPlan = WhereToldHolds old name (IsLongPlan limits)
IsPlanCause limits at name inst old new (Plan fault) = ReadsSuch name old (λ bytes. HasFault limits inst bytes fault)
IsPlanCause limits at name inst old new Memory = ⊤
IsPlanCause limits at name inst old new _ = ⊥

-- why the script file of this name, which is this word, is refused for an instance
abbrev pub IsScriptCause : Limits → ℕ → List ℕ → Tables → (old new : Shown) → Refusal → Type 0
IsScriptCause limits at name inst old new (Unread word) = (word ≡ at) × ReadFails name old new
IsScriptCause limits at name inst old new LongScript = WhereToldHolds old name (IsLongScript limits)
IsScriptCause limits at name inst old new (Script fault) =
    ReadsSuch name old (λ bytes. HasFaultyLine limits inst bytes fault)
IsScriptCause limits at name inst old new Memory = ⊤
IsScriptCause limits at name inst old new _ = ⊥

-- why the certificate file of this name, which is this word, is refused for an instance
abbrev pub IsCertificateCauseBy : {C : Type 0} → CertificateTexts C → Limits → ℕ → List ℕ → Tables
    → (old new : Shown) → Refusal → Type 0
IsCertificateCauseBy texts limits at name inst old new (Unread word) = (word ≡ at) × ReadFails name old new
IsCertificateCauseBy texts limits at name inst old new LongCertificate =
    WhereToldHolds old name (IsLongCertificate limits)
IsCertificateCauseBy texts limits at name inst old new (Certificate fault) =
    ReadsSuch name old (λ bytes. HasOneFaultBy texts limits inst bytes fault)
IsCertificateCauseBy texts limits at name inst old new Memory = ⊤
IsCertificateCauseBy texts limits at name inst old new _ = ⊥

-- of version 1 or 2
abbrev pub IsCertificateCause : Limits → ℕ → List ℕ → Tables → (old new : Shown) → Refusal → Type 0
IsCertificateCause = IsCertificateCauseBy plain_texts

-- why the plan file of a check is refused, if a plan is given
abbrev pub IsGivenCause : Limits → ℕ → Option (List ℕ) → Tables → (old new : Shown) → Refusal → Type 0
IsGivenCause limits at None inst old new refusal = ⊥
IsGivenCause limits at (Some name) inst old new refusal = IsPlanCause limits at name inst old new refusal

-- what is shown after the plan file was read, if a plan is given
abbrev pub AfterGiven : Option (List ℕ) → (old new : Shown) → Type 0
AfterGiven None old new = new ≡ old
AfterGiven (Some name) old new = ShowsSame new (after_take_in name [] old)

-- a refusal is due, or memory ran out
abbrev pub IsDueAs : (Answer → Type 0) → Refusal → Type 0
IsDueAs Answers refusal = (refusal ≡ Memory) ⊎ Answers (reply (status_of refusal) (line_of refusal))

-- ---- what is due is said

-- this status and text
pub record IsReport (status : ℕ) (text : List ℕ) (report : Report) : Type 0 where
  pub status_is : report.status ≡ status
  pub text_is : report.text ≡ text

-- the text was said, and the status is the one that is due with it
pub record SaysAll (due : ℕ) (text : List ℕ) (old new : Shown) (status : ℕ) : Type 0 where
  pub status_is : status ≡ due
  pub says : Says text old new
  pub same : new.faults ≡ old.faults

-- saying the text failed after a first part of it, which is not all
pub record SaysSome (text : List ℕ) (old new : Shown) (status : ℕ) : Type 0 where
  pub status_is : status ≡ 8
  pub part : ℕ
  pub within : part < length text
  pub says : Says (take part text) old new
  pub fails : SayFails old new

abbrev pub SaysOrFails : ℕ → List ℕ → (old new : Shown) → ℕ → Type 0
SaysOrFails due text old new status = SaysAll due text old new status ⊎ SaysSome text old new status

-- an answer that writes no file was said, or that memory ran out, or saying it failed
abbrev pub SaysAnswer : (Answer → Type 0) → (old new : Shown) → ℕ → Type 0
SaysAnswer Answers old new status =
    ((due : ℕ) × (text : List ℕ) × Answers (reply due text) × SaysOrFails due text old new status)
    ⊎ SaysOrFails 11 memory_line old new status

-- the line of a refusal was said, or that memory ran out for that line, or saying it failed; that a file could not be
-- read is said without memory
abbrev pub SaysRefused : Refusal → (old new : Shown) → ℕ → Type 0
SaysRefused refusal old new status = SaysOrFails (status_of refusal) (line_of refusal) old new status
    ⊎ ((status_of refusal ≢ 7) × SaysOrFails 11 memory_line old new status)

-- a report was said, or why there is none
abbrev pub SaysReport : Result Report Refusal → (old new : Shown) → ℕ → Type 0
SaysReport (Ok report) old new status = SaysOrFails report.status report.text old new status
SaysReport (Err refusal) old new status = SaysRefused refusal old new status
