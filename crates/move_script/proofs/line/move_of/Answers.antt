use Rattle.std.proofs.Common.{codes}
use Rattle.text_lines.proofs.CutLemmas.{not_cut}
use Rattle.move_script.proofs.LineLemmas.{behind, no_move, no_start}
use Rattle.move_script.proofs.line.move_of.Goals as goal

pub returns-in_err-name-clause-none : goal.returns-in_err-name-clause-none
returns-in_err-name-clause-none c =
    let words = c.in_ok-words.words in
    rw c.from_residual-in_err-name.ensures
    (no_move c.args.line.now words.now (behind c.args.line.now (codes "move ") words c.in_ok-words.ensures.cases)
    (λ name start word small e. not_cut 32 words.now name _ e c.in_err-name.ensures.none))

pub returns-in_err-start-clause-none : goal.returns-in_err-start-clause-none
returns-in_err-start-clause-none c =
    let words = c.in_ok-words.words in
    rw c.from_residual-in_err-start.ensures
    (no_move c.args.line.now words.now (behind c.args.line.now (codes "move ") words c.in_ok-words.ensures.cases)
    (no_start words.now c.in_ok-name.name.now c.in_ok-name.digits.now c.in_ok-name.ensures.cut
    c.in_ok-name.ensures.first c.in_err-start.ensures.none))
