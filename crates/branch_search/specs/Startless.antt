-- The certificate where an intervention has no allowed start.
use Rattle.std.specs.Prelude.{ℕ, [], ◌∷◌}
use Rattle.certificate_lines.specs.declared.line.Bound.TheVariants.{NoPlan}
use Rattle.certificate_lines.specs.declared.line.Version.TheVariants.{Two}
use Rattle.certificate_tree.specs.declared.node.Node.TheVariants.{Empty}
use Rattle.certificate_tree.specs.declared.certificate.Certificate.{Certificate}

-- the certificate of one leaf, which says that intervention i has no allowed start
abbrev pub empty_certificate : ℕ → Certificate
empty_certificate i = record { version = Two; bound = NoPlan; lists = []; nodes = Empty i ∷ [] }
