use Rattle.std.proofs.Common.{◌≡◌, ◌<◌, [], length, ap, arith, rules}
use Rattle.certificate_lines.proofs.WordLemmas.{behind_number}
use Rattle.certificate_lines.proofs.words.one.Goals as goal

pub returns-then-not-is_empty-clause-none : goal.returns-then-not-is_empty-clause-none
returns-then-not-is_empty-clause-none c = λ n small e.
    let read = c.in_ok-n in
    let none : read.rest.now ≡ [] = behind_number c.args.text.now read.rest.now [] read.n n read.ensures.found
    read.ensures.small read.ensures.rest small tt e in
    let some : 0 < length read.rest.now = search rules in
    omega (arith, some, ap length none)
