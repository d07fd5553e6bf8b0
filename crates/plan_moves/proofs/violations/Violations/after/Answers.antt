use Rattle.std.proofs.Common.{◌∙◌, sym, ap, subst, arith, ℕ, List, length, map, Some}
use Rattle.fixed_num.proofs.SignedLemmas.{back_from_abs}
use Rattle.undo_trail.specs.declared.Step.{Step}
use Rattle.instance_model.specs.Plans.{AreAllowedStarts}
use Rattle.instance_model.specs.Keys.{violation_of}
use Rattle.plan_moves.specs.Boards.{Board}
use Rattle.plan_moves.specs.Changing.{after_change}
use Rattle.plan_moves.specs.Trails.{undone, NamesBelow}
use Rattle.plan_moves.proofs.ChangingLemmas.{named-step_back, undone-step_back}
use Rattle.plan_moves.proofs.violations.Violations.after.Goals as goal

pub undo-requires-clause-named : goal.undo-requires-clause-named
undo-requires-clause-named c =
    let board = c.args.self.now in
    let step = subst (NamesBelow (length board.instance.names)) (sym c.change-back.ensures.back)
    (named-step_back board.instance board.starts c.args.change c.requires) in
    subst (λ (b : Board). NamesBelow (length b.instance.names) c.change-back.result)
    (sym c.change-back.ensures.starts) step

pub undo-requires-clause-allowed : goal.undo-requires-clause-allowed
undo-requires-clause-allowed c =
    let board = c.args.self.now in
    let back = undone-step_back board.instance board.starts c.args.change c.allowed.ensures c.requires in
    let step = subst
    (λ (s : Step). AreAllowedStarts board.instance (undone s (after_change c.args.change board.starts)))
    (sym c.change-back.ensures.back) (subst (AreAllowedStarts board.instance) (sym back) c.allowed.ensures) in
    subst (λ (b : Board). AreAllowedStarts b.instance (undone c.change-back.result b.starts))
    (sym c.change-back.ensures.starts) step

pub returns-clause-value : goal.returns-clause-value
returns-clause-value c =
    back_from_abs c.violation-violation.result (omega (arith, c.violation-violation.ensures.small))
    ∙ c.violation-violation.ensures.value
    ∙ ap (λ (b : Board). violation_of b.instance (map Some b.starts)) c.change-back.ensures.starts

pub returns-clause-same : goal.returns-clause-same
returns-clause-same c =
    let board = c.args.self.now in
    c.undo.ensures
    ∙ ap (λ (b : Board). record { instance = b.instance; starts = undone c.change-back.result b.starts })
    c.change-back.ensures.starts
    ∙ ap (λ (s : Step). record {
      instance = board.instance;
      starts =
          undone s (after_change c.args.change board.starts);
    }) c.change-back.ensures.back
    ∙ ap (λ (l : List ℕ). record { instance = board.instance; starts = l })
    (undone-step_back board.instance board.starts c.args.change c.allowed.ensures c.requires)
