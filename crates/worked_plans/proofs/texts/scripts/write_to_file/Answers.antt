use Rattle.std.proofs.Common.{ap}
use Rattle.worked_plans.proofs.texts.scripts.write_to_file.Goals as goal

pub write_moves-requires-clause-opened : goal.write_moves-requires-clause-opened
write_moves-requires-clause-opened g c = ap (λ o. o.opened) c.in_ok-put_out.ensures.ok.output
