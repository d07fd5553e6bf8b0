use Rattle.std.proofs.Common.{◌≡◌, ℤ, subst, rules}
use Rattle.std.proofs.lemmas.Int.{to_z-of_z}
use mir.Syntax.{w128}
use mir.Val.{SFits}
use Rattle.plan_improvement.specs.Improving.{IsImprovement}
use Rattle.command_improve.specs.Improving.{nothing_report}
use Rattle.command_improve.proofs.SolutionLemmas.{nothing_solution, none_solution}
use Rattle.command_improve.proofs.solution.solution_of.Goals as goal

pub returns-in_ok-nothing_text-in-Nothing : goal.returns-in_ok-nothing_text-in-Nothing
returns-in_ok-nothing_text-in-Nothing g c =
    let inst = c.args.inst.now in
    let seen = c.old_starts.result.now in
    let violation = c.in-Nothing.violation in
    let text = c.in_ok-nothing_text-in-Nothing.field-0 in
    let fits : SFits w128 violation = search rules in
    nothing_solution inst c.args.given.now c.args.turns seen violation text c.old_starts.ensures
    (subst (IsImprovement inst seen c.args.turns) c.in-Nothing.is c.in_ok-found.ensures)
    (subst (λ (z : ℤ). text ≡ nothing_report inst z) (to_z-of_z w128 violation fits)
    c.in_ok-nothing_text-in-Nothing.ensures)

pub returns-in_ok-none_text-in-Without : goal.returns-in_ok-none_text-in-Without
returns-in_ok-none_text-in-Without g c =
    let inst = c.args.inst.now in
    none_solution inst c.args.given.now c.args.turns c.in-Without.i c.in_ok-none_text-in-Without.field-0
    (subst (IsImprovement inst c.old_starts.result.now c.args.turns) c.in-Without.is c.in_ok-found.ensures)
    c.in_ok-none_text-in-Without.ensures
