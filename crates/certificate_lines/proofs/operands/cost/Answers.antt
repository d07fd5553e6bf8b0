use Rattle.certificate_lines.specs.declared.keyword.Keyword.TheVariants.{Cost}
use Rattle.certificate_lines.specs.declared.line.CertificateLine.{CertificateLine}
use Rattle.certificate_lines.specs.Steps.{Follows}
use Rattle.certificate_lines.proofs.FormLemmas.{only_cost}
use Rattle.certificate_lines.proofs.operands.cost.Goals as goal

pub returns-in_err-list : goal.returns-in_err-list
returns-in_err-list c =
    rw c.from_residual.ensures
    (λ line f. only_cost line f.begins (λ (x : CertificateLine). Follows Cost c.args.rest.now x → ⊥)
    (λ n g. c.in_err-list.ensures.none n g.form g.spelled) f)
