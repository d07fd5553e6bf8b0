-- What the bytes of each kind of file stand for, and which bytes are refused.
use Rattle.std.specs.Prelude.{◌≡◌, ◌⊎◌, ℕ, pos, ◌<◌, ◌≤◌, List, length, Option}
use Rattle.instance_model.specs.declared.limits.Limits.{Limits}
use Rattle.instance_model.specs.Tables.{Tables}
use Rattle.instance_shape.specs.Defined.{Defines}
use Rattle.instance_shape.specs.FileFaults.{FileFault, HasFileFault}
use Rattle.plan_text.specs.Spelling.{IsPlan}
use Rattle.plan_text.specs.FirstFault.{HasPlanFault}
use Rattle.plan_text.specs.declared.fault.PlanFault.{PlanFault}
use Rattle.plan_moves.specs.declared.script_line.ScriptLine.{ScriptLine}
use Rattle.move_script.specs.Spelling.{IsScript}
use Rattle.move_script.specs.FirstFault.{HasScriptFault}
use Rattle.move_script.specs.declared.fault.ScriptFault.{ScriptFault}
use Rattle.certificate_tree.specs.declared.certificate.Certificate.{Certificate}
use Rattle.certificate_text.specs.declared.read.fault.CertFault.{CertFault}
use Rattle.certificate_text.specs.read.Faults.{IsTextOf, HasCertFault}
use Rattle.command_frame.specs.Ending.{Answer, reply}
use Rattle.command_frame.specs.Lines.{long_instance_line, instance_fault_line, long_plan_line, plan_fault_line}
use Rattle.command_frame.specs.Lines.{long_script_line, script_fault_line, long_certificate_line}
use Rattle.command_frame.specs.Lines.{certificate_fault_line}

-- ---- an instance

-- the bytes, within the limit, stand for this instance, whose bands are widened by so many 10^-12
pub record Takes (limits : Limits) (slack : ℕ) (bytes : List ℕ) (inst : Tables) : Type 0 where
  pub within : length bytes ≤ limits.instance_bytes
  pub defines : Defines limits (pos slack) bytes inst

-- they stand for this instance and for no other
pub record TakesOne (limits : Limits) (slack : ℕ) (bytes : List ℕ) (inst : Tables) : Type 0 where
  pub takes : Takes limits slack bytes inst
  pub only : (other : Tables) → Takes limits slack bytes other → other ≡ inst

-- they are too many
abbrev pub IsLongInstance : Limits → List ℕ → Type 0
IsLongInstance limits bytes = limits.instance_bytes < length bytes

-- they, within the limit, have this fault
pub record IsFaulty (limits : Limits) (bytes : List ℕ) (fault : FileFault) : Type 0 where
  pub within : length bytes ≤ limits.instance_bytes
  pub has : HasFileFault limits bytes fault

-- they have this fault and no other
pub record IsOneFault (limits : Limits) (bytes : List ℕ) (fault : FileFault) : Type 0 where
  pub faulty : IsFaulty limits bytes fault
  pub only : (other : FileFault) → IsFaulty limits bytes other → other ≡ fault

-- the bytes of an instance file are refused with this answer
pub data RefusesInstance (limits : Limits) (bytes : List ℕ) : Answer → Type 0 where
  long_instance : IsLongInstance limits bytes → RefusesInstance limits bytes (reply 3 long_instance_line)
  faulty_instance : (fault : FileFault) → IsOneFault limits bytes fault
      → RefusesInstance limits bytes (reply 3 (instance_fault_line fault))

-- they are too many, or have a fault
abbrev pub IsRefusedInstance : Limits → List ℕ → Type 0
IsRefusedInstance limits bytes = IsLongInstance limits bytes ⊎ ((fault : FileFault) × IsFaulty limits bytes fault)

-- ---- a plan of an instance

-- the bytes, within the limit, spell this plan
pub record Spells (limits : Limits) (inst : Tables) (bytes : List ℕ) (plan : List (Option ℕ)) : Type 0 where
  pub within : length bytes ≤ limits.plan_bytes
  pub plan_is : IsPlan inst.names bytes plan

-- they are too many
abbrev pub IsLongPlan : Limits → List ℕ → Type 0
IsLongPlan limits bytes = limits.plan_bytes < length bytes

-- they, within the limit, have this first fault
pub record HasFault (limits : Limits) (inst : Tables) (bytes : List ℕ) (fault : PlanFault) : Type 0 where
  pub within : length bytes ≤ limits.plan_bytes
  pub fault_is : HasPlanFault inst.names bytes fault

-- the bytes of a plan file are refused with this answer
pub data RefusesPlan (limits : Limits) (inst : Tables) (bytes : List ℕ) : Answer → Type 0 where
  long_plan : IsLongPlan limits bytes → RefusesPlan limits inst bytes (reply 4 long_plan_line)
  faulty_plan : (fault : PlanFault) → HasFault limits inst bytes fault
      → RefusesPlan limits inst bytes (reply 4 (plan_fault_line fault))

-- they are too many, or have a fault
abbrev pub IsRefusedPlan : Limits → Tables → List ℕ → Type 0
IsRefusedPlan limits inst bytes = IsLongPlan limits bytes ⊎ ((fault : PlanFault) × HasFault limits inst bytes fault)

-- ---- a script of an instance

-- the bytes, within the limit, spell this script
pub record SpellsScript (limits : Limits) (inst : Tables) (bytes : List ℕ) (script : List ScriptLine) : Type 0 where
  pub within : length bytes ≤ limits.script_bytes
  pub script_is : IsScript inst.names bytes script

-- they are too many
abbrev pub IsLongScript : Limits → List ℕ → Type 0
IsLongScript limits bytes = limits.script_bytes < length bytes

-- they, within the limit, have this first fault
pub record HasFaultyLine (limits : Limits) (inst : Tables) (bytes : List ℕ) (fault : ScriptFault) : Type 0 where
  pub within : length bytes ≤ limits.script_bytes
  pub fault_is : HasScriptFault inst.names bytes fault

-- the bytes of a script file are refused with this answer
pub data RefusesScript (limits : Limits) (inst : Tables) (bytes : List ℕ) : Answer → Type 0 where
  long_script : IsLongScript limits bytes → RefusesScript limits inst bytes (reply 6 long_script_line)
  faulty_script : (fault : ScriptFault) → HasFaultyLine limits inst bytes fault
      → RefusesScript limits inst bytes (reply 6 (script_fault_line fault))

-- they are too many, or have a fault
abbrev pub IsRefusedScript : Limits → Tables → List ℕ → Type 0
IsRefusedScript limits inst bytes =
    IsLongScript limits bytes ⊎ ((fault : ScriptFault) × HasFaultyLine limits inst bytes fault)

-- ---- a certificate of an instance

-- which bytes are the text of a certificate of one kind, and which fault others have
pub record CertificateTexts (C : Type 0) : Type 1 where
  pub is_text : Tables → List ℕ → C → Type 0
  pub has_fault : Tables → List ℕ → CertFault → Type 0

-- the bytes, within the limit, are the text of this certificate
pub record SpellsCertificateBy {C : Type 0} (texts : CertificateTexts C) (limits : Limits) (inst : Tables)
    (bytes : List ℕ) (cert : C) : Type 0 where
  pub within : length bytes ≤ limits.certificate_bytes
  pub text_of : texts.is_text inst bytes cert

-- they are too many
abbrev pub IsLongCertificate : Limits → List ℕ → Type 0
IsLongCertificate limits bytes = limits.certificate_bytes < length bytes

-- they, within the limit, have this fault, which is that of their first faulty line
pub record HasFaultyTextBy {C : Type 0} (texts : CertificateTexts C) (limits : Limits) (inst : Tables)
    (bytes : List ℕ) (fault : CertFault) : Type 0 where
  pub within : length bytes ≤ limits.certificate_bytes
  pub fault_is : texts.has_fault inst bytes fault

-- they are the text of this certificate and of no other, and have no fault
pub record SpellsOneBy {C : Type 0} (texts : CertificateTexts C) (limits : Limits) (inst : Tables) (bytes : List ℕ)
    (cert : C) : Type 0 where
  pub spells : SpellsCertificateBy texts limits inst bytes cert
  pub only : (other : C) → texts.is_text inst bytes other → other ≡ cert
  pub sound : (fault : CertFault) → texts.has_fault inst bytes fault → ⊥

-- they have this fault and no other, and are the text of no certificate
pub record HasOneFaultBy {C : Type 0} (texts : CertificateTexts C) (limits : Limits) (inst : Tables) (bytes : List ℕ)
    (fault : CertFault) : Type 0 where
  pub has : HasFaultyTextBy texts limits inst bytes fault
  pub only : (other : CertFault) → texts.has_fault inst bytes other → other ≡ fault
  pub unspelled : (cert : C) → texts.is_text inst bytes cert → ⊥

-- the bytes of a certificate file are refused with this answer
pub data RefusesCertificateBy {C : Type 0} (texts : CertificateTexts C) (limits : Limits) (inst : Tables)
    (bytes : List ℕ) : Answer → Type 0 where
  long_certificate : IsLongCertificate limits bytes
      → RefusesCertificateBy texts limits inst bytes (reply 5 long_certificate_line)
  faulty_certificate : (fault : CertFault) → HasOneFaultBy texts limits inst bytes fault
      → RefusesCertificateBy texts limits inst bytes (reply 5 (certificate_fault_line fault))

-- they are too many, or have a fault
abbrev pub IsRefusedCertificateBy : {C : Type 0} → CertificateTexts C → Limits → Tables → List ℕ → Type 0
IsRefusedCertificateBy texts limits inst bytes =
    IsLongCertificate limits bytes ⊎ ((fault : CertFault) × HasFaultyTextBy texts limits inst bytes fault)

-- ---- a certificate of version 1 or 2

-- their texts
abbrev pub plain_texts : CertificateTexts Certificate
plain_texts = record { is_text = IsTextOf; has_fault = HasCertFault }

-- the bytes, within the limit, are the text of this certificate
abbrev pub SpellsCertificate : Limits → Tables → List ℕ → Certificate → Type 0
SpellsCertificate = SpellsCertificateBy plain_texts

-- they are the text of this certificate and of no other, and have no fault
abbrev pub SpellsOne : Limits → Tables → List ℕ → Certificate → Type 0
SpellsOne = SpellsOneBy plain_texts

-- the bytes of a certificate file are refused with this answer
abbrev pub RefusesCertificate : Limits → Tables → List ℕ → Answer → Type 0
RefusesCertificate = RefusesCertificateBy plain_texts

-- they are too many, or have a fault
abbrev pub IsRefusedCertificate : Limits → Tables → List ℕ → Type 0
IsRefusedCertificate = IsRefusedCertificateBy plain_texts
