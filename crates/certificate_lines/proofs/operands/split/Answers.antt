use Rattle.certificate_lines.specs.declared.keyword.Keyword.TheVariants.{Split}
use Rattle.certificate_lines.specs.declared.line.CertificateLine.{CertificateLine}
use Rattle.certificate_lines.specs.Steps.{Follows}
use Rattle.certificate_lines.proofs.FormLemmas.{only_split}
use Rattle.certificate_lines.proofs.operands.split.Goals as goal

pub returns-in_err-i : goal.returns-in_err-i
returns-in_err-i c =
    rw c.from_residual.ensures
    (λ line f. only_split line f.begins (λ (x : CertificateLine). Follows Split c.args.rest.now x → ⊥)
    (λ n m g. c.in_err-i.ensures.none n m g.form.0 g.form.1 g.spelled) f)
