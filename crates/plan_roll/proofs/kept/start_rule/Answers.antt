use Rattle.std.proofs.Common.{◌∙◌, sym, arith}
use Rattle.plan_roll.proofs.BegunLemmas.{past_by_refused, none_by_allowed}
use Rattle.plan_roll.proofs.kept.start_rule.Goals as goal

pub returns-then-allowed : goal.returns-then-allowed
returns-then-allowed c =
    sym (none_by_allowed c.args.inst.now c.args.i c.args.s (sym c.allowed.ensures ∙ c.if-allowed.true))

pub returns-else-allowed : goal.returns-else-allowed
returns-else-allowed c =
    sym (past_by_refused c.args.inst.now c.args.i c.args.s (omega arith) (omega arith)
    (sym c.allowed.ensures ∙ c.if-allowed.false))
