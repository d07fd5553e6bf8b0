use Rattle.certificate_lines.specs.declared.keyword.Keyword.TheVariants.{Empty}
use Rattle.certificate_lines.specs.declared.line.CertificateLine.{CertificateLine}
use Rattle.certificate_lines.specs.Steps.{Follows}
use Rattle.certificate_lines.proofs.FormLemmas.{only_empty}
use Rattle.certificate_lines.proofs.operands.empty.Goals as goal

pub returns-in_err-i : goal.returns-in_err-i
returns-in_err-i c =
    rw c.from_residual.ensures
    (λ line f. only_empty line f.begins (λ (x : CertificateLine). Follows Empty c.args.rest.now x → ⊥)
    (λ n g. c.in_err-i.ensures.none n g.form g.spelled) f)
