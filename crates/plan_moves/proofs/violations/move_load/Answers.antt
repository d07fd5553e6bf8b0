use Rattle.std.proofs.Common.{◌∙◌, ap, List, Option, ℕ, None, Some, set}
use Rattle.std.proofs.lemmas.List.{set-set}
use Rattle.plan_moves.proofs.violations.move_load.Goals as goal

pub returns-clause-board : goal.returns-clause-board
returns-clause-board c =
    c.add_run.ensures.board ∙ ap (λ (b : List (Option ℕ)). set b c.args.i (Some c.args.s)) c.take_run.ensures.board
    ∙ set-set c.args.loads.now.board c.args.i None (Some c.args.s)
