-- Runs are complete, command by command.
use Rattle.std.proofs.Common.{ℕ, List}
use Rattle.plan_desk.specs.Desk.{Shown}
use Rattle.instance_model.specs.declared.limits.Limits.{Limits}
use Rattle.command_frame.specs.Ending.{NoFault}
use Rattle.command_frame.specs.Kinds.{plain_kind}
use Rattle.command_check.proofs.CheckComplete.{check_completes}
use Rattle.command_rebound.proofs.ReboundComplete.{rebound_completes}
use Rattle.planner_cli.specs.Outcome.{Outcome}
use Rattle.planner_cli.specs.Complete.{IsComplete}
use Rattle.planner_cli.proofs.EvaluateComplete.{evaluate_completes}
use Rattle.planner_cli.proofs.ReplayComplete.{replay_completes}
use Rattle.planner_cli.proofs.SolveComplete.{solve_completes, solve_completes_enough}
use Rattle.planner_cli.proofs.TableComplete.{table_completes}
use Rattle.planner_cli.proofs.RollComplete.{roll_completes}
use Rattle.planner_cli.proofs.RehearseComplete.{rehearse_completes}

pub runs_complete : (limits : Limits) (words : List (List ℕ)) (old new : Shown) (status : ℕ)
    → Outcome limits words old new status → NoFault old new → IsComplete limits words old new status
runs_complete limits words old new status run calm =
    record {
      evaluates = λ source name inst plan asks tells tells_plan.
          evaluate_completes limits source name inst plan old new status (run.evaluates source name asks) tells
          tells_plan calm;
      replays = λ source name script_name files asks tells.
          replay_completes limits source name script_name files old new status
          (run.replays source name script_name asks) tells calm;
      checks = λ source name cert_name files asks tells.
          check_completes plain_kind limits source name cert_name files old new status
          (run.checks source name cert_name asks) tells calm;
      solves = λ source files turns inst asks tells.
          solve_completes limits source files turns inst old new status (run.solves source files turns asks) tells
          calm;
      solves_enough = λ source files turns inst asks tells enough.
          solve_completes_enough limits source files turns inst old new status (run.solves source files turns asks)
          tells calm enough;
      tabulates = λ source name from to inst plan asks tells tells_plan.
          table_completes limits source name from to inst plan old new status (run.tabulates source name from to asks)
          tells tells_plan calm;
      rebounds = λ source cert_name out inst cert asks tells tells_cert.
          rebound_completes plain_kind limits source cert_name out inst cert old new status
          (run.rebounds source cert_name out asks) tells tells_cert calm;
      rolls = λ files period inst plan asks tells tells_plan.
          roll_completes limits files period inst plan old new status (run.rolls files period asks) tells tells_plan
          calm;
      rehearses = λ seed count asks.
          rehearse_completes seed count old new status (run.rehearses seed count asks) calm;
    }
