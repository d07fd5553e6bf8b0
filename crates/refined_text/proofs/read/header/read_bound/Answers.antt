use Rattle.std.proofs.lemmas.Result.{err_from_is_err_and}
use Rattle.certificate_lines.specs.declared.line.Version.TheVariants.{Two}
use Rattle.certificate_text.specs.Grammar.{bound}
use Rattle.refined_text.specs.grammar.Further.{no_further}
use Rattle.refined_text.specs.grammar.Grammar.{within}
use Rattle.refined_text.proofs.ReadStepLemmas.{fails_no_line, fails_told}
use Rattle.refined_text.proofs.ReadHeaderLemmas.{bound_read}
use Rattle.refined_text.proofs.read.header.read_bound.Goals as goal

pub returns-in_err-line-clause-err : goal.returns-in_err-line-clause-err
returns-in_err-line-clause-err c = λ inst.
    let p = err_from_is_err_and c.from_residual.result c.from_residual.ensures.1 in
    rw (p.1, p.2) (fails_no_line inst (within (bound Two) (no_further inst)) c.args.lines.now c.in_err-line.field-0.0
    (λ z. z) c.in_err-line.ensures.err)

pub returns-in-Ok-clause-ok : goal.returns-in-Ok-clause-ok
returns-in-Ok-clause-ok c = λ inst.
    bound_read inst c.args.lines.now _ c.in_ok-line.line c.in-Ok.bound c.in_ok-line.ensures.ok c.in-Ok.ensures.ok.0
    c.in-Ok.ensures.ok.1

pub returns-clause-err : goal.returns-clause-err
returns-clause-err c = λ inst. fails_told inst (within (bound Two) (no_further inst)) c.args.lines.now _
    c.in_ok-line.line c.in-Err.refusal _ c.fault.ensures (λ z. z) c.in_ok-line.ensures.ok (c.in-Err.ensures.err inst)
