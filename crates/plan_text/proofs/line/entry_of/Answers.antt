use Rattle.std.proofs.Common.{rules}
use Rattle.plan_text.proofs.GiveLemmas.{cut_line, joined_line}
use Rattle.plan_text.proofs.line.entry_of.Goals as goal

pub returns-in_err-start-clause-none : goal.returns-in_err-start-clause-none
returns-in_err-start-clause-none c =
    rw c.from_residual.ensures (λ name start g.
    c.in_err-start.ensures.none start
    (cut_line c.args.line.now _ _ _ _ name start c.split_name.ensures c.split_blanks.ensures g).1)

pub returns-clause-found : goal.returns-clause-found
returns-clause-found c =
    joined_line c.args.line.now _ _ _ _ _ c.split_name.ensures c.split_blanks.ensures (search rules)
    c.in_ok-start.ensures.found
