use Rattle.std.proofs.Common.{◌<◌, ◌∙◌, sym, ap, arith}
use Rattle.certificate_lines.specs.Steps.{keyword_text}
use Rattle.certificate_lines.proofs.KeywordLemmas.{place_of, at_place}
use Rattle.certificate_lines.proofs.keyword.Keyword.find.Goals as goal

pub returns-clause-none : goal.returns-clause-none
returns-clause-none c = λ keyword e.
    let at = at_place keyword in
    let within : place_of keyword < c.loop-keyword.keyword-index = omega (arith, at.0, c.loop-keyword-test.false) in
    c.loop-keyword.invariant (place_of keyword) within (ap keyword_text at.1 ∙ sym e)
