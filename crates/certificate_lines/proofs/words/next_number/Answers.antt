use Rattle.std.proofs.Common.{codes}
use Rattle.certificate_lines.proofs.WordLemmas.{no_number, behind_prefix}
use Rattle.certificate_lines.proofs.words.next_number.Goals as goal

pub returns-in_err-n-clause-none : goal.returns-in_err-n-clause-none
returns-in_err-n-clause-none c =
    let text = c.args.text.now in
    let behind = c.in_ok-behind.behind in
    rw c.from_residual-in_err-n.ensures
    (no_number text behind.now c.cut_word.result.0.now c.cut_word.result.1.now
    (behind_prefix text (codes " ") behind c.in_ok-behind.ensures.cases)
    c.cut_word.ensures.cut c.cut_word.ensures.whole c.cut_word.ensures.rest c.in_err-n.ensures.none)
