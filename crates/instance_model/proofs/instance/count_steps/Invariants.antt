use Rattle.std.proofs.Common.{◌≡◌, ◌+◌}
use Rattle.instance_model.proofs.instance.count_steps.Given as goal

abbrev pub invariant-loop-k : goal.invariant-loop-k
invariant-loop-k g l = l.steps ≡ l.fn.steps + l.k
