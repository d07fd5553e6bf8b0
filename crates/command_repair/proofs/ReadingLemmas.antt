-- What was read of the files of a repair.
use Rattle.std.proofs.Common.{ℕ, inl, inr, List, Option}
use Rattle.plan_desk.specs.Desk.{Shown}
use Rattle.instance_model.specs.Limits.{standard_limits}
use Rattle.instance_model.specs.declared.limits.Limits.{Limits}
use Rattle.instance_model.specs.Tables.{Tables}
use Rattle.command_frame.specs.Sources.{Source}
use Rattle.command_frame.specs.Bytes.{Spells}
use Rattle.command_frame.specs.Files.{reading, OnPlan, ReadsInstance, ReadsPlan}
use Rattle.command_frame.specs.declared.refusal.Refusal.{Refusal}
use Rattle.command_frame.specs.Refusals.{IsDueAs}
use Rattle.command_frame.proofs.FileLemmas.{IsRead, is_read, reads_before}
use Rattle.command_frame.proofs.ReadLemmas.{refuses_instance, refuses_plan}
use Rattle.command_repair.specs.Repairing.{RepairFiles, Repairs, AnswersRepair}
use Rattle.command_repair.specs.Made.{AreRead, IsReadCause}

pub read_cause_due : (source : Source) (name : List ℕ) (files : RepairFiles) (turns : ℕ) (old new : Shown) (r : Refusal)
    → IsReadCause standard_limits source name old new r
    → IsDueAs (AnswersRepair standard_limits (reading old new) source.slack source.instance name files turns) r
read_cause_due source name files turns old new r (inl cause) =
    refuses_instance standard_limits source old new
    (λ i. OnPlan standard_limits i (reading old new) 3 name (λ p. Repairs standard_limits i p files turns)) r cause
read_cause_due source name files turns old new r (inr plan) =
    refuses_plan standard_limits source name old plan.at new plan.inst (λ i p. Repairs standard_limits i p files
    turns) r
    plan.reads (is_read source.instance old plan.at plan.read plan.same) plan.cause

pub both_read : (limits : Limits) (source : Source) (name : List ℕ) (old mid : Shown) (inst : Tables)
    (plan : List (Option ℕ))
    → ReadsInstance limits source old inst → IsRead old mid → ReadsPlan limits name inst mid plan
    → AreRead limits source name old inst plan
both_read limits source name old mid inst plan reads read reads_plan = record {
  reads = reads;
  reads_plan = reads_before name old mid (λ bytes. Spells limits inst bytes plan) read reads_plan;
}
