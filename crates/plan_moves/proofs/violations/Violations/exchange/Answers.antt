use Rattle.std.proofs.Common.{◌∙◌, ap, ℕ, List, set}
use Rattle.plan_moves.specs.Boards.{Board}
use Rattle.plan_moves.proofs.BoardLemmas.{swapped}
use Rattle.plan_moves.proofs.violations.Violations.exchange.Goals as goal

pub returns : goal.returns
returns c =
    let inst = c.args.self.now.instance in
    let first = c.start_of-first.result in
    c.set_start-2.ensures
    ∙ ap (λ (b : Board). record { instance = b.instance; starts = set b.starts c.args.j first }) c.set_start.ensures
    ∙ ap (λ (l : List ℕ). record { instance = inst; starts = l })
    (swapped c.args.self.now.starts c.args.i c.args.j first c.start_of-second.result c.start_of-first.ensures.within
    c.start_of-second.ensures.within c.start_of-first.ensures.value c.start_of-second.ensures.value)
