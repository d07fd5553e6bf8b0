-- What was read of the files of a command.
use Rattle.std.proofs.Common.{◌≡◌, ℕ, ◌<◌, inl, inr, List, length, Option, Some, refl, sym, ◌∙◌, ap, subst}
use Rattle.std.specs.Prelude.{ℤ, pos}
use Rattle.plan_desk.specs.Desk.{Shown}
use Rattle.plan_desk.specs.Contents.{WhereToldHolds}
use Rattle.plan_desk.proofs.Composed.{one_since}
use Rattle.plan_moves.specs.declared.script_line.ScriptLine.{ScriptLine}
use Rattle.instance_model.specs.declared.limits.Limits.{Limits}
use Rattle.instance_model.specs.Tables.{Tables}
use Rattle.instance_shape.specs.Defined.{Defines}
use Rattle.instance_shape.specs.FileFaults.{FileFault, HasFileFault}
use Rattle.instance_shape.proofs.OneAnswer.{one_answer}
use Rattle.instance_read.specs.Faults.{fault_of}
use Rattle.instance_read.specs.Reading.{ReadsFile}
use Rattle.instance_read.specs.declared.fault.InstanceFault.{InstanceFault}
use Rattle.command_frame.specs.Sources.{Source}
use Rattle.command_frame.specs.Lines.{read_line}
use Rattle.command_frame.specs.Ending.{Answer, reply}
use Rattle.command_frame.specs.Bytes.{TakesOne, IsOneFault, RefusesInstance, Spells, RefusesPlan, SpellsScript}
use Rattle.command_frame.specs.Bytes.{RefusesScript}
use Rattle.command_frame.specs.Bytes.RefusesInstance.{long_instance, faulty_instance}
use Rattle.command_frame.specs.Bytes.RefusesPlan.{long_plan, faulty_plan}
use Rattle.command_frame.specs.Bytes.RefusesScript.{long_script, faulty_script}
use Rattle.command_frame.specs.Files.{reading, OnFile, OnInstance, OnPlan, OnScript, ReadsSuch, ReadsInstance}
use Rattle.command_frame.specs.Files.{ReadsPlan}
use Rattle.command_frame.specs.Files.OnFile.{unread, refused, stands}
use Rattle.command_frame.specs.declared.refusal.Refusal.{Refusal}
use Rattle.command_frame.specs.declared.refusal.Refusal.TheVariants as refusal
use Rattle.command_frame.specs.Refusals.{CountsRefusal, IsWithoutFailure, IsInstanceCause, IsPlanCause}
use Rattle.command_frame.specs.Refusals.{IsScriptCause, IsDueAs, line_or_memory}
use Rattle.command_frame.proofs.ToldLemmas.{long_held}
use Rattle.command_frame.proofs.FileLemmas.{on_other, IsRead, before_reading, reads_before}

-- ---- the instance

pub reads_instance : (source : Source) (old : Shown) (limits : Limits) (slack : ℤ) (inst : Tables)
    → slack ≡ pos source.slack
    → ReadsFile source.instance limits.instance_bytes old (λ bytes. Defines limits slack bytes inst)
    → ReadsInstance limits source old inst
reads_instance source old limits slack inst same read =
    let here : Defines limits (pos source.slack) read.bytes inst = subst
    (λ (z : ℤ). Defines limits z read.bytes inst) same read.such in
    record {
      bytes = read.bytes;
      held = read.held;
      such = record {
        takes = record { within = read.within; defines = here };
        only = λ other takes. (one_answer limits (pos source.slack) read.bytes).instance other inst takes.defines here;
      };
    }

-- the fault of an instance file is the only one
pub reads_faulty : (name : List ℕ) (old : Shown) (limits : Limits) (fault : InstanceFault)
    → ReadsFile name limits.instance_bytes old
    (λ bytes. (told : FileFault) × (fault_of fault ≡ Some told) × HasFileFault limits bytes told)
    → (told : FileFault) × (fault_of fault ≡ Some told)
    × ReadsSuch name old (λ bytes. IsOneFault limits bytes told)
reads_faulty name old limits fault read = (
  read.such.0,
  read.such.1,
  record {
    bytes = read.bytes;
    held = read.held;
    such = record {
      faulty = record { within = read.within; has = read.such.2 };
      only = λ other faulty. (one_answer limits (pos 0) read.bytes).fault other read.such.0 faulty.has
          read.such.2;
    };
  },
)

-- ---- a refusal is due

-- the file of a refusal is too long
pub long_refused : {A : Type 0} (word : ℕ) (name : List ℕ) (old new : Shown) (R : List ℕ → Answer → Type 0)
    (S : List ℕ → A → Type 0) (Next : A → Answer → Type 0) (a : Answer) (most : ℕ)
    → ((bytes : List ℕ) → most < length bytes → R bytes a) → WhereToldHolds old name (λ held. most < length held)
    → OnFile (reading old new) word name R S Next a
long_refused word name old new R S Next a most f held =
    let some = long_held old name most held in refused some.0 a some.1 (f some.0 some.2)

pub instance_cause_due : (limits : Limits) (word slack : ℕ) (name : List ℕ) (old new : Shown)
    (Next : Tables → Answer → Type 0) (r : Refusal)
    → IsInstanceCause limits word name old new r
    → IsDueAs (OnInstance limits slack (reading old new) word name Next) r
instance_cause_due limits word slack name old new Next (refusal.Unread w) (is, fails) =
    inr (subst (λ (n : ℕ). OnInstance limits slack (reading old new) word name Next (reply 7 (read_line n)))
    (sym is) (unread fails))
instance_cause_due limits word slack name old new Next refusal.LongInstance held =
    inr (long_refused word name old new (RefusesInstance limits)
    (TakesOne limits slack) Next _ limits.instance_bytes (λ bytes l. long_instance l) held)
instance_cause_due limits word slack name old new Next (refusal.Instance fault) (told, is, reads) =
    inr (subst (λ (f : Option FileFault). OnInstance limits slack (reading old new) word name Next
    (reply 3 (line_or_memory f))) (sym is)
    (refused reads.bytes _ reads.held (faulty_instance told reads.such)))
instance_cause_due limits word slack name old new Next refusal.Memory cause = inl refl
instance_cause_due limits word slack name old new Next refusal.LongPlan cause = absurd cause
instance_cause_due limits word slack name old new Next (refusal.Plan fault) cause = absurd cause
instance_cause_due limits word slack name old new Next refusal.LongScript cause = absurd cause
instance_cause_due limits word slack name old new Next (refusal.Script fault) cause = absurd cause
instance_cause_due limits word slack name old new Next refusal.LongCertificate cause = absurd cause
instance_cause_due limits word slack name old new Next (refusal.Certificate fault) cause = absurd cause

pub plan_cause_due : (limits : Limits) (word : ℕ) (name : List ℕ) (inst : Tables) (old new : Shown)
    (Next : List (Option ℕ) → Answer → Type 0) (r : Refusal)
    → IsPlanCause limits word name inst old new r
    → IsDueAs (OnPlan limits inst (reading old new) word name Next) r
plan_cause_due limits word name inst old new Next (refusal.Unread w) (is, fails) =
    inr (subst (λ (n : ℕ). OnPlan limits inst (reading old new) word name Next (reply 7 (read_line n)))
    (sym is) (unread fails))
plan_cause_due limits word name inst old new Next refusal.LongPlan held =
    inr (long_refused word name old new (RefusesPlan limits inst)
    (Spells limits inst) Next _ limits.plan_bytes (λ bytes l. long_plan l) held)
plan_cause_due limits word name inst old new Next (refusal.Plan fault) reads =
    inr (refused reads.bytes _ reads.held (faulty_plan fault reads.such))
plan_cause_due limits word name inst old new Next refusal.Memory cause = inl refl
plan_cause_due limits word name inst old new Next refusal.LongInstance cause = absurd cause
plan_cause_due limits word name inst old new Next (refusal.Instance fault) cause = absurd cause
plan_cause_due limits word name inst old new Next refusal.LongScript cause = absurd cause
plan_cause_due limits word name inst old new Next (refusal.Script fault) cause = absurd cause
plan_cause_due limits word name inst old new Next refusal.LongCertificate cause = absurd cause
plan_cause_due limits word name inst old new Next (refusal.Certificate fault) cause = absurd cause

pub script_cause_due : (limits : Limits) (word : ℕ) (name : List ℕ) (inst : Tables) (old new : Shown)
    (Next : List ScriptLine → Answer → Type 0) (r : Refusal)
    → IsScriptCause limits word name inst old new r
    → IsDueAs (OnScript limits inst (reading old new) word name Next) r
script_cause_due limits word name inst old new Next (refusal.Unread w) (is, fails) =
    inr (subst (λ (n : ℕ). OnScript limits inst (reading old new) word name Next (reply 7 (read_line n)))
    (sym is) (unread fails))
script_cause_due limits word name inst old new Next refusal.LongScript held =
    inr (long_refused word name old new (RefusesScript limits inst)
    (SpellsScript limits inst) Next _ limits.script_bytes (λ bytes l. long_script l) held)
script_cause_due limits word name inst old new Next (refusal.Script fault) reads =
    inr (refused reads.bytes _ reads.held (faulty_script fault reads.such))
script_cause_due limits word name inst old new Next refusal.Memory cause = inl refl
script_cause_due limits word name inst old new Next refusal.LongInstance cause = absurd cause
script_cause_due limits word name inst old new Next (refusal.Instance fault) cause = absurd cause
script_cause_due limits word name inst old new Next refusal.LongPlan cause = absurd cause
script_cause_due limits word name inst old new Next (refusal.Plan fault) cause = absurd cause
script_cause_due limits word name inst old new Next refusal.LongCertificate cause = absurd cause
script_cause_due limits word name inst old new Next (refusal.Certificate fault) cause = absurd cause

pub due_within : (Inner Outer : Answer → Type 0) (r : Refusal) → ((a : Answer) → Inner a → Outer a) → IsDueAs Inner r
    → IsDueAs Outer r
due_within Inner Outer r f (inl memory) = inl memory
due_within Inner Outer r f (inr due) = inr (f _ due)

-- a refusal that comes without a failure counts none
pub counts_none : (old new : Shown) (r : Refusal) → IsWithoutFailure r → new.faults ≡ old.faults
    → CountsRefusal old new r
counts_none old new (refusal.Unread w) without same = absurd without
counts_none old new refusal.LongInstance without same = same
counts_none old new (refusal.Instance fault) without same = same
counts_none old new refusal.LongPlan without same = same
counts_none old new (refusal.Plan fault) without same = same
counts_none old new refusal.LongScript without same = same
counts_none old new (refusal.Script fault) without same = same
counts_none old new refusal.LongCertificate without same = same
counts_none old new (refusal.Certificate fault) without same = same
counts_none old new refusal.Memory without same = same

-- what failed since earlier files were read failed since before them
pub kept_before : (old mid new : Shown) (r : Refusal) → mid.faults ≡ old.faults → CountsRefusal mid new r
    → CountsRefusal old new r
kept_before old mid new (refusal.Unread w) same kept = one_since old mid new same kept
kept_before old mid new refusal.LongInstance same kept = kept ∙ same
kept_before old mid new (refusal.Instance fault) same kept = kept ∙ same
kept_before old mid new refusal.LongPlan same kept = kept ∙ same
kept_before old mid new (refusal.Plan fault) same kept = kept ∙ same
kept_before old mid new refusal.LongScript same kept = kept ∙ same
kept_before old mid new (refusal.Script fault) same kept = kept ∙ same
kept_before old mid new refusal.LongCertificate same kept = kept ∙ same
kept_before old mid new (refusal.Certificate fault) same kept = kept ∙ same
kept_before old mid new refusal.Memory same kept = kept ∙ same

-- ---- what is due for a command, where a later file comes after ones that were read

-- the instance was read, and then the next answer is due
pub after_instance : (limits : Limits) (source : Source) (old new : Shown) (inst : Tables)
    (Next : Tables → Answer → Type 0) (a : Answer)
    → ReadsInstance limits source old inst → Next inst a
    → OnInstance limits source.slack (reading old new) 2 source.instance Next a
after_instance limits source old new inst Next a reads next = stands reads.bytes inst a reads.held reads.such next

-- so was the plan
pub after_plan : (limits : Limits) (name : List ℕ) (old mid new : Shown) (inst : Tables) (plan : List (Option ℕ))
    (Next : List (Option ℕ) → Answer → Type 0) (a : Answer)
    → IsRead old mid
    → ReadsPlan limits name inst mid plan → Next plan a
    → OnPlan limits inst (reading old new) 3 name Next a
after_plan limits name old mid new inst plan Next a read reads next =
    let here = reads_before name old mid
    (λ bytes. Spells limits inst bytes plan) read reads in stands here.bytes plan a here.held here.such
    next

pub refuses_instance : (limits : Limits) (source : Source) (old new : Shown) (Next : Tables → Answer → Type 0)
    (r : Refusal)
    → IsInstanceCause limits 2 source.instance old new r
    → IsDueAs (OnInstance limits source.slack (reading old new) 2 source.instance Next) r
refuses_instance limits source old new Next r cause =
    instance_cause_due limits 2 source.slack source.instance old new Next r cause

pub refuses_plan : (limits : Limits) (source : Source) (name : List ℕ) (old mid new : Shown) (inst : Tables)
    (Next : Tables → List (Option ℕ) → Answer → Type 0) (r : Refusal)
    → ReadsInstance limits source old inst
    → IsRead old mid → IsPlanCause limits 3 name inst mid new r
    → IsDueAs (OnInstance limits source.slack (reading old new) 2 source.instance
    (λ i. OnPlan limits i (reading old new) 3 name (Next i))) r
refuses_plan limits source name old mid new inst Next r reads read cause =
    due_within (OnPlan limits inst (reading mid new) 3 name (Next inst))
    (OnInstance limits source.slack (reading old new) 2 source.instance
    (λ i. OnPlan limits i (reading old new) 3 name (Next i))) r
    (λ a due. after_instance limits source old new inst
    (λ i. OnPlan limits i (reading old new) 3 name (Next i)) a reads
    (on_other (reading mid new) (reading old new) 3 name name (RefusesPlan limits inst)
    (Spells limits inst) (Next inst) (Next inst) a (before_reading name old mid new read) (λ x b n. n) due))
    (plan_cause_due limits 3 name inst mid new (Next inst) r cause)
