use Rattle.std.proofs.Common.{◌≡◌, ◌+◌, map, Some}
use Rattle.fixed_num.specs.Sums.{list_of}
use Rattle.instance_model.specs.Plans.{scenario_sum}
use Rattle.price_ladder.proofs.plan_tail.scenario_sums.Given as goal

abbrev pub invariant-loop-k : goal.invariant-loop-k
invariant-loop-k g l = l.sums.items ≡ list_of l.k (λ k. scenario_sum l.inst (map Some l.starts) l.t (k + 1))
