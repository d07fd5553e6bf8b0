use Rattle.std.proofs.Common.{◌∙◌, ap, ℕ, List, set}
use Rattle.plan_moves.specs.Boards.{Board}
use Rattle.plan_moves.proofs.BoardLemmas.{swapped}
use Rattle.plan_moves.proofs.board.Board.exchange.Goals as goal

pub returns-clause-starts : goal.returns-clause-starts
returns-clause-starts g c =
    let inst = c.args.self.now.instance in
    let first = c.set_start-first.result in
    c.set_start.ensures.starts
    ∙ ap (λ (b : Board). record { instance = b.instance; starts = set b.starts c.args.j first })
    c.set_start-first.ensures.starts
    ∙ ap (λ (l : List ℕ). record { instance = inst; starts = l })
    (swapped c.args.self.now.starts c.args.i c.args.j first c.start_of-second.result
    c.set_start-first.ensures.within c.start_of-second.ensures.within c.set_start-first.ensures.before
    c.start_of-second.ensures.value)
