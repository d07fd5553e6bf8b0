use Rattle.certificate_lines.specs.declared.keyword.Keyword.TheVariants.{Ex}
use Rattle.certificate_lines.specs.declared.line.CertificateLine.{CertificateLine}
use Rattle.certificate_lines.specs.Steps.{Follows}
use Rattle.certificate_lines.proofs.FormLemmas.{only_ex}
use Rattle.certificate_lines.proofs.operands.ex.Goals as goal

pub returns-in_err-e : goal.returns-in_err-e
returns-in_err-e c =
    rw c.from_residual.ensures
    (λ line f. only_ex line f.begins (λ (x : CertificateLine). Follows Ex c.args.rest.now x → ⊥)
    (λ n m k g. c.in_err-e.ensures.none n m k g.form.0 g.form.1 g.form.2 g.spelled) f)
