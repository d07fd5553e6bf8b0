-- Runs are complete, command by command.
use Rattle.std.proofs.Common.{ℕ, List}
use Rattle.plan_desk.specs.Desk.{Shown}
use Rattle.instance_model.specs.Limits.{standard_limits}
use Rattle.refined_files.specs.RefinedKind.{refined_kind}
use Rattle.command_frame.specs.Ending.{NoFault}
use Rattle.command_check.proofs.CheckComplete.{check_completes}
use Rattle.command_rebound.proofs.ReboundComplete.{rebound_completes}
use Rattle.command_improve.proofs.ImproveComplete.{improve_completes}
use Rattle.plan_refine.specs.Outcome.{Outcome}
use Rattle.plan_refine.specs.Complete.{IsComplete}
use Rattle.plan_refine.proofs.BoundComplete.{bound_completes}

pub runs_complete : (words : List (List ℕ)) (old new : Shown) (status : ℕ) → Outcome words old new status
    → NoFault old new → IsComplete words old new status
runs_complete words old new status run calm =
    record {
      checks = λ source name cert_name files asks tells.
          check_completes refined_kind standard_limits source name cert_name files old new status
          (run.checks source name cert_name asks) tells calm;
      rebounds = λ source cert_name out inst cert asks tells tells_cert.
          rebound_completes refined_kind standard_limits source cert_name out inst cert old new status
          (run.rebounds source cert_name out asks) tells tells_cert calm;
      bounds = λ source name cert_name out turns part files asks tells.
          bound_completes source name cert_name out turns part files old new status
          (run.bounds source name cert_name out turns part asks) tells calm;
      improves = λ source name out turns seed inst plan asks tells.
          improve_completes standard_limits source name out turns seed inst plan old new status
          (run.improves source name out turns seed asks) tells calm;
    }
