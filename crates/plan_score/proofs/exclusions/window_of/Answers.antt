use Rattle.std.proofs.Common.{IfSome, IsTrue, Option, arith, subst, ℕ}
use Rattle.instance_model.specs.Plans.{RunsAreAllowed}
use Rattle.instance_model.specs.Tables.{is_allowed}
use Rattle.plan_score.proofs.exclusions.window_of.Goals as goal

pub run-requires-clause-allowed : goal.run-requires-clause-allowed
unfolding RunsAreAllowed
run-requires-clause-allowed c =
    subst (λ (o : Option ℕ). IfSome o (λ s. IsTrue (is_allowed c.args.inst.now c.args.i s))) c.in_ok-s.was
    (c.requires.allowed c.args.i (omega arith))
