use Rattle.std.proofs.Common.{◌<◌, length, ap, arith, rules}
use Rattle.certificate_lines.specs.declared.keyword.Keyword.TheVariants.{Point}
use Rattle.certificate_lines.specs.declared.line.CertificateLine.{CertificateLine}
use Rattle.certificate_lines.specs.Steps.{Follows}
use Rattle.certificate_lines.proofs.FormLemmas.{only_point}
use Rattle.certificate_lines.proofs.operands.point.Goals as goal

pub returns-then-not-is_empty : goal.returns-then-not-is_empty
returns-then-not-is_empty c = λ line f.
    let some : 0 < length c.args.rest.now = search rules in
    only_point line f.begins (λ (x : CertificateLine). Follows Point c.args.rest.now x → ⊥)
    (λ g. omega (arith, some, ap length g.spelled)) f
