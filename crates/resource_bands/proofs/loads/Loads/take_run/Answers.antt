use Rattle.std.proofs.Common.{◌≡◌, ◌∙◌, sym, subst, arith, Some, None}
use Rattle.std.proofs.lemmas.List.{get_or_default}
use Rattle.instance_model.specs.Plans.{start_of}
use Rattle.resource_bands.specs.BoardLoads.{BoardLoads, IsOver}
use Rattle.resource_bands.proofs.OverLemmas.{allowed_on_board}
use Rattle.resource_bands.proofs.loads.Loads.take_run.Goals as goal

pub change_run-requires-clause-allowed : goal.change_run-requires-clause-allowed
change_run-requires-clause-allowed c =
    let board = c.self.inside.board.items in
    let over = subst (λ (v : BoardLoads). IsOver c.args.inst.now v) (sym c.self.view_is) c.requires.over in
    let start : start_of board c.args.i ≡ Some c.in-Some.s = sym (get_or_default board c.args.i c.index.result.now None
    (omega (arith, over.each))) ∙ sym c.index.ensures ∙ c.in-Some.is in
    allowed_on_board c.args.inst.now _ c.args.i c.in-Some.s over c.requires.number start

pub change_run-requires-clause-start : goal.change_run-requires-clause-start
change_run-requires-clause-start c =
    let board = c.self.inside.board.items in
    let over = subst (λ (v : BoardLoads). IsOver c.args.inst.now v) (sym c.self.view_is) c.requires.over in
    let start : start_of board c.args.i ≡ Some c.in-Some.s = sym (get_or_default board c.args.i c.index.result.now None
    (omega (arith, over.each))) ∙ sym c.index.ensures ∙ c.in-Some.is in
    subst (λ (v : BoardLoads). start_of v.board c.args.i ≡ Some c.in-Some.s) c.self.view_is start
