-- `repair` with an instance and a plan that are read: 0, 9, 10 or 11, and no 9 with turns for a tree of single plans.
use Rattle.std.proofs.Common.{ℕ, inl, inr, List, [], ◌∷◌, Option, refl}
use Rattle.plan_desk.specs.Desk.{Shown}
use Rattle.instance_model.specs.Limits.{standard_limits}
use Rattle.instance_model.specs.Tables.{Tables}
use Rattle.command_frame.specs.Sources.{Source}
use Rattle.command_frame.specs.Ending.{Answer, IsOneOf, NoFault}
use Rattle.command_frame.specs.Files.{by_bytes, OnPlan}
use Rattle.branch_search.specs.Turns.{AreEnough}
use Rattle.command_repair.specs.Repairing.{RepairFiles, TellsRepair, Repairs, AnswersRepair, RunsRepair}
use Rattle.command_repair.specs.Repairing.Repairs.{repaired, nothing, none, no_start}
use Rattle.command_frame.specs.Completing.{Completes}
use Rattle.command_frame.proofs.CompleteReads.{told_instance, told_plan, on_instance, on_plan}
use Rattle.command_frame.proofs.CompleteLemmas.{completes}

module _ (source : Source) (name : List ℕ) (files : RepairFiles) (turns : ℕ) (inst : Tables) (plan : List (Option ℕ))
    (old new : Shown) (status : ℕ) (run : RunsRepair standard_limits source name files turns old new status)
    (tells : TellsRepair standard_limits old source name inst plan) (calm : NoFault old new) where
  abbrev Own : Answer → Type 0
  Own = Repairs standard_limits inst plan files turns

  statuses : (a : Answer) → Own a → IsOneOf (0 ∷ 9 ∷ 10 ∷ []) a.status
  statuses a (repaired starts bound cert made is auditable readable) = inl refl
  statuses a (nothing bound cert made is auditable) = inr (inl refl)
  statuses a (none cert made is auditable) = inr (inr (inl refl))
  statuses a (no_start i without auditable) = inr (inr (inl refl))

  statuses_enough : AreEnough inst turns → (a : Answer) → Own a → IsOneOf (0 ∷ 10 ∷ []) a.status
  statuses_enough enough a (repaired starts bound cert made is auditable readable) = inl refl
  statuses_enough enough a (nothing bound cert made is auditable) = absurd (is.too_few enough)
  statuses_enough enough a (none cert made is auditable) = inr (inl refl)
  statuses_enough enough a (no_start i without auditable) = inr (inl refl)

  among : (list : List ℕ) → ((a : Answer) → Own a → IsOneOf list a.status) → Completes list Own old new status
  among list one =
      let i = told_instance standard_limits old source inst tells.instance in
      let p = told_plan standard_limits old name inst plan tells.plan_told in
      completes list (AnswersRepair standard_limits by_bytes source.slack i.bytes p.bytes files turns) Own old new
      status
      (λ a due. on_plan standard_limits inst 3 p.bytes plan (λ q. Repairs standard_limits inst q files turns) a p.such
      (on_instance standard_limits source.slack 2 i.bytes inst
      (λ x. OnPlan standard_limits x by_bytes 3 p.bytes (λ q. Repairs standard_limits x q files turns)) a i.such due))
      one (run.exact i.bytes p.bytes i.tells p.tells calm)

  pub repair_completes : Completes (0 ∷ 9 ∷ 10 ∷ []) Own old new status
  repair_completes = among (0 ∷ 9 ∷ 10 ∷ []) statuses

  pub repair_completes_enough : AreEnough inst turns → Completes (0 ∷ 10 ∷ []) Own old new status
  repair_completes_enough enough = among (0 ∷ 10 ∷ []) (statuses_enough enough)
