use Rattle.std.proofs.Common.{◌≡◌, subst, arith, ℕ, Option, Some, None, get_or, IsTrue}
use Rattle.std.specs.Prelude.{IfSome}
use Rattle.std.proofs.lemmas.Grind.{common_steps}
use Rattle.instance_model.specs.Tables.{is_allowed}
use Rattle.instance_model.specs.Plans.{RunsAreAllowed}
use Rattle.scenario_rows.proofs.risk_rows.RiskRows.take_run.Goals as goal

pub change_run-requires-clause-allowed : goal.change_run-requires-clause-allowed
unfolding RunsAreAllowed
change_run-requires-clause-allowed g c =
    let e : get_or c.args.self.now.board c.args.i None ≡ Some c.in-Some.s = grind (arith, common_steps) in
    subst (λ (o : Option ℕ). IfSome o (λ s. IsTrue (is_allowed c.args.inst.now c.args.i s))) e
    (c.requires.over.allowed c.args.i (omega (arith, c.requires.over.each, c.requires.number)))
