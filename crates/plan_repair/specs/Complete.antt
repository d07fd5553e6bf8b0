-- What a run gives where nothing is wrong: which statuses, and the command's own answer to what its files stand for.
--
-- Of each file that the command reads it is told that it holds bytes, within the limit of such files, which are read:
-- as an instance, or as a plan or a certificate of that instance. And no fault rose. So the words, the texts and the
-- desk leave nothing to refuse, and the status is one of the command's own, or 11. `old` and `new` are what the desk
-- shows before and after a run.
use Rattle.std.specs.Prelude.{ℕ, List, [], ◌∷◌, Option}
use Rattle.plan_desk.specs.Desk.{Shown}
use Rattle.instance_model.specs.Limits.{standard_limits}
use Rattle.instance_model.specs.Tables.{Tables}
use Rattle.command_frame.specs.Sources.{Source}
use Rattle.command_audit.specs.Auditing.{AuditedFiles, TellsAudited}
use Rattle.command_answers.specs.Audit.{Audits}
use Rattle.branch_search.specs.Turns.{AreEnough}
use Rattle.command_repair.specs.Repairing.{RepairFiles, TellsRepair, Repairs}
use Rattle.command_frame.specs.Completing.{Completes}
use Rattle.plan_repair.specs.Words.{audit, repair}
use Rattle.plan_repair.specs.Outcome.{Asks}

-- after a run in which no fault rose: for each command, which statuses come, 11 aside
pub record IsComplete (words : List (List ℕ)) (old new : Shown) (status : ℕ) : Type 0 where
  -- 0: the certificate is valid. 5: a leaf doesn't hold.
  pub audits : (source : Source) (name cert_name : List ℕ) (files : AuditedFiles)
      → Asks words (audit source name cert_name) → TellsAudited standard_limits old source name cert_name files
      → Completes (0 ∷ 5 ∷ []) (Audits files.inst files.plan files.cert) old new status
  -- 0: a plan was found. 9: none was found, and there may be one. 10: there is none.
  pub repairs : (source : Source) (name : List ℕ) (files : RepairFiles) (turns : ℕ) (inst : Tables)
      (plan : List (Option ℕ))
      → Asks words (repair source name files turns) → TellsRepair standard_limits old source name inst plan
      → Completes (0 ∷ 9 ∷ 10 ∷ []) (Repairs standard_limits inst plan files turns) old new status
  -- with turns for a tree of single plans there is no 9
  pub repairs_enough : (source : Source) (name : List ℕ) (files : RepairFiles) (turns : ℕ) (inst : Tables)
      (plan : List (Option ℕ))
      → Asks words (repair source name files turns) → TellsRepair standard_limits old source name inst plan
      → AreEnough inst turns → Completes (0 ∷ 10 ∷ []) (Repairs standard_limits inst plan files turns) old new status
