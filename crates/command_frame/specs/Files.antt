-- How the files of a command are met, and what is then answered: one combinator for each kind of file.
--
-- The files are read, and refused, in the order of the words: the answer to a later file stands beside what was read of
-- the ones before. Of a desk that leaves its contents untold, a file still was read as some bytes for which the rest is
-- right. `old` and `new` are what the desk shows before and after.
use Rattle.std.specs.Prelude.{◌≡◌, ℕ, ⊤, false, List, Option, Some, None, IsSomeAnd}
use Rattle.plan_desk.specs.Desk.{Shown}
use Rattle.plan_desk.specs.Faults.{FailsOnce, IsReadFaultOf}
use Rattle.plan_desk.specs.Contents.{WhereToldHolds, TellsSuch, Says}
use Rattle.plan_moves.specs.declared.script_line.ScriptLine.{ScriptLine}
use Rattle.instance_model.specs.declared.limits.Limits.{Limits}
use Rattle.instance_model.specs.Tables.{Tables}
use Rattle.certificate_tree.specs.declared.certificate.Certificate.{Certificate}
use Rattle.command_frame.specs.Sources.{Source}
use Rattle.command_frame.specs.Lines.{read_line}
use Rattle.command_frame.specs.Ending.{Answer, reply}
use Rattle.command_frame.specs.Bytes.{Takes, TakesOne, RefusesInstance, Spells, RefusesPlan, SpellsScript}
use Rattle.command_frame.specs.Bytes.{RefusesScript, CertificateTexts, SpellsCertificateBy, SpellsOneBy}
use Rattle.command_frame.specs.Bytes.{RefusesCertificateBy, plain_texts}

-- ---- how files are met

-- what could not be read, and with which bytes the rest is met
pub record Meeting : Type 1 where
  pub fails : List ℕ → Type 0
  pub holds : List ℕ → List ℕ → Type 0

-- one call failed, a `take_in` or a `read` of the file of this name
abbrev pub ReadFails : List ℕ → (old new : Shown) → Type 0
ReadFails name = FailsOnce false (IsReadFaultOf name)

-- these are the bytes that the file of this name holds, where that is told
abbrev pub ReadsBytes : List ℕ → Shown → List ℕ → Type 0
ReadsBytes name old bytes = WhereToldHolds old name (λ held. held ≡ bytes)

-- files of these names, read between `old` and `new`
abbrev pub reading : (old new : Shown) → Meeting
reading old new = record { fails = λ name. ReadFails name old new; holds = λ name bytes. ReadsBytes name old bytes }

-- bytes in the place of names
abbrev pub by_bytes : Meeting
by_bytes = record { fails = λ _. ⊥; holds = λ held bytes. held ≡ bytes }

-- ---- what is answered to a file

-- The file of this name, which is this word, could not be read; or its bytes are refused; or they stand for something,
-- and the answer is the next one, which is for that.
pub data OnFile {A : Type 0} (met : Meeting) (word : ℕ) (name : List ℕ) (Refuses : List ℕ → Answer → Type 0)
    (Stands : List ℕ → A → Type 0) (Next : A → Answer → Type 0) : Answer → Type 0 where
  unread : met.fails name → OnFile met word name Refuses Stands Next (reply 7 (read_line word))
  refused : (bytes : List ℕ) (a : Answer) → met.holds name bytes → Refuses bytes a
      → OnFile met word name Refuses Stands Next a
  stands : (bytes : List ℕ) (x : A) (a : Answer) → met.holds name bytes → Stands bytes x → Next x a
      → OnFile met word name Refuses Stands Next a

-- an instance file, with a slack in 10^-12
abbrev pub OnInstance : Limits → ℕ → Meeting → ℕ → List ℕ → (Tables → Answer → Type 0) → Answer → Type 0
OnInstance limits slack met word name = OnFile met word name (RefusesInstance limits) (TakesOne limits slack)

-- a plan file of an instance
abbrev pub OnPlan : Limits → Tables → Meeting → ℕ → List ℕ → (List (Option ℕ) → Answer → Type 0) → Answer → Type 0
OnPlan limits inst met word name = OnFile met word name (RefusesPlan limits inst) (Spells limits inst)

-- a plan file that may be left out
abbrev pub OnGiven : Limits → Tables → Meeting → ℕ → Option (List ℕ)
    → (Option (List (Option ℕ)) → Answer → Type 0) → Answer → Type 0
OnGiven limits inst met word None Next = Next None
OnGiven limits inst met word (Some name) Next = OnPlan limits inst met word name (λ plan. Next (Some plan))

-- a script file of an instance
abbrev pub OnScript : Limits → Tables → Meeting → ℕ → List ℕ → (List ScriptLine → Answer → Type 0) → Answer → Type 0
OnScript limits inst met word name = OnFile met word name (RefusesScript limits inst) (SpellsScript limits inst)

-- a certificate file of an instance
abbrev pub OnCertificateBy : {C : Type 0} → CertificateTexts C → Limits → Tables → Meeting → ℕ → List ℕ
    → (C → Answer → Type 0) → Answer → Type 0
OnCertificateBy texts limits inst met word name =
    OnFile met word name (RefusesCertificateBy texts limits inst) (SpellsOneBy texts limits inst)

-- of version 1 or 2
abbrev pub OnCertificate : Limits → Tables → Meeting → ℕ → List ℕ → (Certificate → Answer → Type 0) → Answer → Type 0
OnCertificate = OnCertificateBy plain_texts

-- ---- what was read

-- the file of this name was read, and its bytes are such
pub record ReadsSuch (name : List ℕ) (old : Shown) (P : List ℕ → Type 0) : Type 0 where
  pub bytes : List ℕ
  pub held : ReadsBytes name old bytes
  pub such : P bytes

-- the instance file was read, and its bytes stand for this instance and for no other
abbrev pub ReadsInstance : Limits → Source → Shown → Tables → Type 0
ReadsInstance limits source old inst = ReadsSuch source.instance old (λ bytes. TakesOne limits source.slack bytes inst)

-- the plan file of this name was read, and its bytes spell this plan
abbrev pub ReadsPlan : Limits → List ℕ → Tables → Shown → List (Option ℕ) → Type 0
ReadsPlan limits name inst old plan = ReadsSuch name old (λ bytes. Spells limits inst bytes plan)

-- no plan was given; or the plan file of this name was read, and its bytes spell this plan
abbrev pub ReadsGiven : Limits → Option (List ℕ) → Tables → Shown → Option (List (Option ℕ)) → Type 0
ReadsGiven limits None inst old None = ⊤
ReadsGiven limits (Some name) inst old (Some plan) = ReadsPlan limits name inst old plan
ReadsGiven _ _ _ _ _ = ⊥

-- the script file of this name was read, and its bytes spell this script
abbrev pub ReadsScript : Limits → List ℕ → Tables → Shown → List ScriptLine → Type 0
ReadsScript limits name inst old script = ReadsSuch name old (λ bytes. SpellsScript limits inst bytes script)

-- the certificate file of this name was read, and its bytes are the text of this certificate and of no other
abbrev pub ReadsCertificateBy : {C : Type 0} → CertificateTexts C → Limits → List ℕ → Tables → Shown → C → Type 0
ReadsCertificateBy texts limits name inst old cert =
    ReadsSuch name old (λ bytes. SpellsOneBy texts limits inst bytes cert)

-- of version 1 or 2
abbrev pub ReadsCertificate : Limits → List ℕ → Tables → Shown → Certificate → Type 0
ReadsCertificate = ReadsCertificateBy plain_texts

-- ---- what was said of a file

-- the file of this name, which is this word, could not be read, and this was said
pub record SaysUnread (word : ℕ) (name : List ℕ) (old new : Shown) : Type 0 where
  pub fails : ReadFails name old new
  pub says : Says (read_line word) old new

-- the bytes of the file of this name are refused, and this was said
pub record SaysRefusal (name : List ℕ) (Refuses : List ℕ → Answer → Type 0) (old new : Shown) : Type 0 where
  pub answer : Answer
  pub refused : ReadsSuch name old (λ bytes. Refuses bytes answer)
  pub says : Says answer.text old new

-- ---- what files are told to hold, as premises: a desk that leaves its contents untold meets none of them

-- it is told what is read and what files hold, and there is no file of this name
abbrev pub TellsMissing : Shown → List ℕ → Type 0
TellsMissing s name = IsSomeAnd s.input.unread (λ _. IsSomeAnd s.output.holds (λ holds. holds name ≡ None))

-- it is told that the file of this name holds just these bytes
abbrev pub TellsBytes : Shown → List ℕ → List ℕ → Type 0
TellsBytes s name bytes = TellsSuch s name (λ held. held ≡ bytes)

-- no plan is given; or it is told that the plan file holds just these bytes
abbrev pub TellsGivenBytes : Shown → Option (List ℕ) → Option (List ℕ) → Type 0
TellsGivenBytes s None None = ⊤
TellsGivenBytes s (Some name) (Some bytes) = TellsBytes s name bytes
TellsGivenBytes _ _ _ = ⊥

-- it is told that the bytes of the instance file stand for this instance
abbrev pub TellsInstance : Limits → Shown → Source → Tables → Type 0
TellsInstance limits s source inst = TellsSuch s source.instance (λ held. Takes limits source.slack held inst)

-- it is told that the bytes of the plan file spell this plan
abbrev pub TellsPlan : Limits → Shown → List ℕ → Tables → List (Option ℕ) → Type 0
TellsPlan limits s name inst plan = TellsSuch s name (λ held. Spells limits inst held plan)

-- no plan is given; or it is told that the bytes of the plan file spell this plan
abbrev pub TellsGiven : Limits → Shown → Option (List ℕ) → Tables → Option (List (Option ℕ)) → Type 0
TellsGiven limits s None inst None = ⊤
TellsGiven limits s (Some name) inst (Some plan) = TellsPlan limits s name inst plan
TellsGiven _ _ _ _ _ = ⊥

-- it is told that the bytes of the script file spell this script
abbrev pub TellsScript : Limits → Shown → List ℕ → Tables → List ScriptLine → Type 0
TellsScript limits s name inst script = TellsSuch s name (λ held. SpellsScript limits inst held script)

-- it is told that the bytes of the certificate file are the text of this certificate
abbrev pub TellsCertificateBy : {C : Type 0} → CertificateTexts C → Limits → Shown → List ℕ → Tables → C → Type 0
TellsCertificateBy texts limits s name inst cert =
    TellsSuch s name (λ held. SpellsCertificateBy texts limits inst held cert)

-- of version 1 or 2
abbrev pub TellsCertificate : Limits → Shown → List ℕ → Tables → Certificate → Type 0
TellsCertificate = TellsCertificateBy plain_texts
