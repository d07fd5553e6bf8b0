use Rattle.std.proofs.Common.{◌≡◌, None}
use Rattle.instance_model.specs.Rules.{first_of}
use Rattle.plan_roll.specs.Begun.{kept_rule_at}
use Rattle.plan_roll.proofs.kept.kept_fault.Given as goal

abbrev pub invariant-loop-i : goal.invariant-loop-i
invariant-loop-i l = first_of l.i (kept_rule_at l.inst l.plan l.period) ≡ None
