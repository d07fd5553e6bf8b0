use Rattle.certificate_lines.specs.declared.keyword.Keyword.TheVariants.{Excl}
use Rattle.certificate_lines.specs.declared.line.CertificateLine.{CertificateLine}
use Rattle.certificate_lines.specs.Steps.{Follows}
use Rattle.certificate_lines.proofs.FormLemmas.{only_excl}
use Rattle.certificate_lines.proofs.operands.excl.Goals as goal

pub returns-in_err-e : goal.returns-in_err-e
returns-in_err-e c =
    rw c.from_residual.ensures
    (λ line f. only_excl line f.begins (λ (x : CertificateLine). Follows Excl c.args.rest.now x → ⊥)
    (λ n g. c.in_err-e.ensures.none n g.form g.spelled) f)
