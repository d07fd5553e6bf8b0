use Rattle.std.proofs.Common.{◌≡◌}
use Rattle.std.proofs.lemmas.Result.{err_from_is_err_and}
use Rattle.certificate_text.proofs.ReadEntryLemmas.{not_told, below_told}
use Rattle.refined_text.specs.declared.lines.line.RefinedLine.TheVariants as refined
use Rattle.refined_text.specs.grammar.Grammar.{start}
use Rattle.refined_text.proofs.ReadStepLemmas.{fails_no_line}
use Rattle.refined_text.proofs.ReadHeaderLemmas.{title_read, title_refused}
use Rattle.refined_text.proofs.read.header.read_title.Goals as goal

pub returns-in_err-line-clause-err : goal.returns-in_err-line-clause-err
returns-in_err-line-clause-err c = λ inst.
    let p = err_from_is_err_and c.from_residual.result c.from_residual.ensures.1 in
    rw (p.1, p.2) (fails_no_line inst start c.args.lines.now c.in_err-line.field-0.0 (λ z. z) c.in_err-line.ensures.err)

pub returns-then-not-is_title-clause-err : goal.returns-then-not-is_title-clause-err
returns-then-not-is_title-clause-err c = λ inst.
    title_refused inst c.args.lines.now _ c.in_ok-line.line _ c.fault.ensures c.in_ok-line.ensures.ok
    (not_told c.is_title.result (c.in_ok-line.line ≡ refined.Title) c.is_title.ensures c.if-not-is_title.true)

pub returns-clause-ok : goal.returns-clause-ok
returns-clause-ok c = λ inst.
    title_read inst c.args.lines.now _ c.in_ok-line.line c.in_ok-line.ensures.ok
    (below_told c.is_title.result (c.in_ok-line.line ≡ refined.Title) c.is_title.ensures c.if-not-is_title.false)
