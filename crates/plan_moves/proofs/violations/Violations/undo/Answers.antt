use Rattle.plan_moves.specs.Trails.{undone, NamesBelow}
use Rattle.std.proofs.Common.{length, subst}
use Rattle.undo_trail.specs.declared.Step.{Step}
use Rattle.instance_model.specs.Plans.{AreAllowedStarts}
use Rattle.plan_moves.proofs.BoardLemmas.{allowed_before-move, allowed_before-first, allowed_before-second}
use Rattle.plan_moves.proofs.violations.Violations.undo.Goals as goal

pub set_start-requires-clause-allowed : goal.set_start-requires-clause-allowed
set_start-requires-clause-allowed c =
    let inst = c.args.self.now.instance in
    let starts = c.args.self.now.starts in
    let named = subst (NamesBelow (length inst.names)) c.in-Move.is c.requires.named in
    let allowed = subst (λ (s : Step). AreAllowedStarts inst (undone s starts)) c.in-Move.is c.requires.allowed in
    allowed_before-move inst starts c.in-Move.i c.in-Move.from named allowed

pub exchange-requires-clause-first_allowed : goal.exchange-requires-clause-first_allowed
exchange-requires-clause-first_allowed c =
    let inst = c.args.self.now.instance in
    let starts = c.args.self.now.starts in
    let named = subst (NamesBelow (length inst.names)) c.in-Swap.is c.requires.named in
    let allowed = subst (λ (s : Step). AreAllowedStarts inst (undone s starts)) c.in-Swap.is c.requires.allowed in
    allowed_before-first inst starts c.in-Swap.i c.in-Swap.j named.0 named.1 allowed

pub exchange-requires-clause-second_allowed : goal.exchange-requires-clause-second_allowed
exchange-requires-clause-second_allowed c =
    let inst = c.args.self.now.instance in
    let starts = c.args.self.now.starts in
    let named = subst (NamesBelow (length inst.names)) c.in-Swap.is c.requires.named in
    let allowed = subst (λ (s : Step). AreAllowedStarts inst (undone s starts)) c.in-Swap.is c.requires.allowed in
    allowed_before-second inst starts c.in-Swap.i c.in-Swap.j named.0 named.1 allowed
