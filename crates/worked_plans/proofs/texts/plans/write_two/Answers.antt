use Rattle.std.proofs.Common.{ap}
use Rattle.worked_plans.proofs.texts.plans.write_two.Goals as goal

pub write_plan-requires-clause-opened : goal.write_plan-requires-clause-opened
write_plan-requires-clause-opened g c = ap (λ o. o.opened) c.in_ok-put_out.ensures.ok.output
