-- What holds of a feasible plan and of its text.
use Rattle.std.proofs.Common.{ℕ, refl, List, map, Some}
use Rattle.instance_model.specs.Limits.{standard_limits}
use Rattle.instance_model.specs.Tables.{Tables}
use Rattle.instance_model.specs.Fitting.{IsFitting}
use Rattle.instance_model.proofs.RuleLemmas.{KeepsRules-from}
use Rattle.plan_text.specs.Spelling.{plan_text}
use Rattle.branch_search.specs.Best.{IsFeasiblePlan}
use Rattle.command_frame.specs.Files.OnFile.{stands}
use Rattle.command_answers.specs.Evaluate.{EnclosesEveryReading}
use Rattle.command_answers.specs.Evaluate.Judges.{feasible}
use Rattle.command_solve.specs.Solving.{IsEvaluable}
use Rattle.command_frame.proofs.PlanWrites.{writable_plan, spelled_plan}

-- `evaluate` finds it feasible
pub evaluable : (inst : Tables) (plan : List ℕ) → IsFitting inst → IsFeasiblePlan inst plan
    → EnclosesEveryReading inst (map Some plan) → IsEvaluable standard_limits inst plan
evaluable inst plan fit good encloses =
    let keeps = KeepsRules-from inst (map Some plan) good.feasible in
    let writable = writable_plan inst plan fit good.each good.feasible in
    record {
      keeps = keeps;
      judged = stands (plan_text inst.names plan) (map Some plan) _ refl (spelled_plan inst plan fit writable)
          (feasible keeps encloses);
    }
