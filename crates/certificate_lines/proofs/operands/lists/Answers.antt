use Rattle.certificate_lines.specs.declared.keyword.Keyword.TheVariants.{Lists}
use Rattle.certificate_lines.specs.declared.line.CertificateLine.{CertificateLine}
use Rattle.certificate_lines.specs.Steps.{Follows}
use Rattle.certificate_lines.proofs.FormLemmas.{only_lists}
use Rattle.certificate_lines.proofs.operands.lists.Goals as goal

pub returns-in_err-count : goal.returns-in_err-count
returns-in_err-count c =
    rw c.from_residual.ensures
    (λ line f. only_lists line f.begins (λ (x : CertificateLine). Follows Lists c.args.rest.now x → ⊥)
    (λ n g. c.in_err-count.ensures.none n g.form g.spelled) f)
