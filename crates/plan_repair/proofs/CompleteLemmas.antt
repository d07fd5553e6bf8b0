-- Runs are complete, command by command.
use Rattle.std.proofs.Common.{ℕ, List}
use Rattle.plan_desk.specs.Desk.{Shown}
use Rattle.command_frame.specs.Ending.{NoFault}
use Rattle.plan_repair.specs.Outcome.{Outcome}
use Rattle.plan_repair.specs.Complete.{IsComplete}
use Rattle.plan_repair.proofs.AuditComplete.{audit_completes}
use Rattle.plan_repair.proofs.RepairComplete.{repair_completes, repair_completes_enough}

pub runs_complete : (words : List (List ℕ)) (old new : Shown) (status : ℕ) → Outcome words old new status
    → NoFault old new → IsComplete words old new status
runs_complete words old new status run calm =
    record {
      audits = λ source name cert_name files asks tells.
          audit_completes source name cert_name files old new status (run.audits source name cert_name asks) tells calm;
      repairs = λ source name files turns inst plan asks tells.
          repair_completes source name files turns inst plan old new status
          (run.repairs source name files turns asks) tells calm;
      repairs_enough = λ source name files turns inst plan asks tells enough.
          repair_completes_enough source name files turns inst plan old new status
          (run.repairs source name files turns asks) tells calm enough;
    }
