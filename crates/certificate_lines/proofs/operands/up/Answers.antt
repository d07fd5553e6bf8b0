use Rattle.certificate_lines.specs.declared.keyword.Keyword.TheVariants.{Up}
use Rattle.certificate_lines.specs.declared.line.CertificateLine.{CertificateLine}
use Rattle.certificate_lines.specs.Steps.{Follows}
use Rattle.certificate_lines.proofs.FormLemmas.{only_up}
use Rattle.certificate_lines.proofs.operands.up.Goals as goal

pub returns-in_err-c : goal.returns-in_err-c
returns-in_err-c c =
    rw c.from_residual.ensures
    (λ line f. only_up line f.begins (λ (x : CertificateLine). Follows Up c.args.rest.now x → ⊥)
    (λ n m k g. c.in_err-c.ensures.none n m k g.form.0 g.form.1 g.form.2 g.spelled) f)
