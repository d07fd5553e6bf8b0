use Rattle.std.proofs.Common.{subst}
use Rattle.plan_moves.specs.Changing.{CanChange}
use Rattle.plan_moves.proofs.violations.Violations.change.Goals as goal

pub set_start-requires-clause-number : goal.set_start-requires-clause-number
set_start-requires-clause-number c =
    (subst (CanChange c.args.self.now.instance c.args.self.now.starts) c.in-Move.is c.requires).0

pub set_start-requires-clause-allowed : goal.set_start-requires-clause-allowed
set_start-requires-clause-allowed c =
    (subst (CanChange c.args.self.now.instance c.args.self.now.starts) c.in-Move.is c.requires).1

pub exchange-requires-clause-first : goal.exchange-requires-clause-first
exchange-requires-clause-first c =
    (subst (CanChange c.args.self.now.instance c.args.self.now.starts) c.in-Swap.is c.requires).0

pub exchange-requires-clause-second : goal.exchange-requires-clause-second
exchange-requires-clause-second c =
    (subst (CanChange c.args.self.now.instance c.args.self.now.starts) c.in-Swap.is c.requires).1

pub exchange-requires-clause-first_allowed : goal.exchange-requires-clause-first_allowed
exchange-requires-clause-first_allowed c =
    (subst (CanChange c.args.self.now.instance c.args.self.now.starts) c.in-Swap.is c.requires).2

pub exchange-requires-clause-second_allowed : goal.exchange-requires-clause-second_allowed
exchange-requires-clause-second_allowed c =
    (subst (CanChange c.args.self.now.instance c.args.self.now.starts) c.in-Swap.is c.requires).3
