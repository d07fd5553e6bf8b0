use Rattle.std.proofs.Common.{◌≡◌, None}
use Rattle.instance_model.specs.Plans.{start_of}
use Rattle.instance_model.specs.Rules.{first_of, start_rule_at}
use Rattle.plan_score.proofs.starts.broken_start.Given as goal

abbrev pub invariant-loop-i : goal.invariant-loop-i
invariant-loop-i l = first_of l.i (λ j. start_rule_at l.inst j (start_of l.plan j)) ≡ None
