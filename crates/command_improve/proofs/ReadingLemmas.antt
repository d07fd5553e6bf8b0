-- What was read of the files of an improvement.
use Rattle.std.proofs.Common.{◌≡◌, ℕ, inl, inr, List, length, Option}
use Rattle.std.specs.Prelude.{IfSome}
use Rattle.plan_desk.specs.Desk.{Shown}
use Rattle.instance_model.specs.Limits.{standard_limits}
use Rattle.instance_model.specs.declared.limits.Limits.{Limits}
use Rattle.instance_model.specs.Tables.{Tables}
use Rattle.command_frame.specs.Sources.{Source}
use Rattle.command_frame.specs.Ending.{Answer}
use Rattle.command_frame.specs.Files.{reading, OnGiven, ReadsInstance, ReadsGiven}
use Rattle.command_frame.specs.declared.refusal.Refusal.{Refusal}
use Rattle.command_frame.specs.Refusals.{IsDueAs}
use Rattle.command_frame.proofs.FileLemmas.{on_given_other, IsRead, is_read, before_given}
use Rattle.command_frame.proofs.ReadLemmas.{due_within, after_instance, refuses_instance}
use Rattle.command_frame.proofs.CertificateLemmas.{given_cause_due}
use Rattle.command_improve.specs.Improving.{Improves, AnswersImprove}
use Rattle.command_improve.specs.Made.{AreRead, IsReadCause}
use Rattle.command_improve.proofs.GivenLemmas.{given_before}

-- what is answered to the plan, if one is given
abbrev Planned : Option (List ℕ) → List ℕ → ℕ → (old new : Shown) → Tables → Answer → Type 0
Planned name out turns old new inst =
    OnGiven standard_limits inst (reading old new) 3 name (λ given. Improves standard_limits inst given out turns)

pub read_cause_due : (source : Source) (name : Option (List ℕ)) (out : List ℕ) (turns : ℕ) (old new : Shown)
    (r : Refusal) → IsReadCause standard_limits source name old new r
    → IsDueAs (AnswersImprove standard_limits (reading old new) source.slack source.instance name out turns) r
read_cause_due source name out turns old new r (inl cause) =
    refuses_instance standard_limits source old new (Planned name out turns old new) r cause
read_cause_due source name out turns old new r (inr plan) =
    due_within (Planned name out turns plan.at new plan.inst)
    (AnswersImprove standard_limits (reading old new) source.slack source.instance name out turns) r
    (λ a due. after_instance standard_limits source old new plan.inst (Planned name out turns old new) a plan.reads
    (on_given_other standard_limits plan.inst (reading plan.at new) (reading old new) 3 name name
    (λ given. Improves standard_limits plan.inst given out turns)
    (λ given. Improves standard_limits plan.inst given out turns) a
    (before_given name old plan.at new (is_read source.instance old plan.at plan.read plan.same)) (λ x b n. n) due))
    (given_cause_due standard_limits 3 name plan.inst plan.at new
    (λ given. Improves standard_limits plan.inst given out turns) r plan.cause)

pub both_read : (limits : Limits) (source : Source) (name : Option (List ℕ)) (old mid : Shown) (inst : Tables)
    (plan : Option (List (Option ℕ))) → ReadsInstance limits source old inst → IsRead old mid
    → ReadsGiven limits name inst mid plan → IfSome plan (λ p. length p ≡ length inst.names)
    → AreRead limits source name old inst plan
both_read limits source name old mid inst plan reads read reads_plan each = record {
  reads = reads;
  reads_plan = given_before limits inst name old mid plan read reads_plan;
  each = each;
}
