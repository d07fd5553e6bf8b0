use Rattle.std.proofs.Common.{◌<◌, ◌∙◌, sym, ap, subst, arith, length, IsTrue}
use Rattle.instance_model.specs.Tables.{is_allowed}
use Rattle.plan_moves.specs.Boards.{Board}
use Rattle.plan_moves.proofs.BoardLemmas.{is_on_board, AreViolationsOf-set}
use Rattle.plan_moves.proofs.violations.Violations.set_start.Goals as goal

pub move_load-requires-clause-on_board : goal.move_load-requires-clause-on_board
move_load-requires-clause-on_board c =
    let within : c.args.i < length c.self.inside.starts.items = omega (
      arith,
      c.self.invariant.allowed.each,
      ap (λ (b : Board). length b.instance.names)
          c.self.view_is,
      c.requires.number,
    ) in
    is_on_board c.self.inside.loads.board c.self.inside.starts.items c.args.i c.self.invariant.loads_board within

pub invariant_of-self : goal.invariant_of-self
invariant_of-self c =
    let allowed =
    subst (λ (b : Board). IsTrue (is_allowed b.instance c.args.i c.args.s)) (sym c.self.view_is) c.requires.allowed in
    AreViolationsOf-set c.self.inside.inst.now c.self.inside.starts.items c.self.inside.loads c.move_load.new.loads
    c.self.inside.clashes c.reset_for.new.self c.args.i c.args.s c.self.invariant allowed
    c.move_load.ensures.over c.move_load.ensures.board c.reset_for.ensures.over
    (c.reset_for.ensures.starts ∙ c.as_slice.ensures.value)
