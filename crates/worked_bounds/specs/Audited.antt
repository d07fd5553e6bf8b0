-- What an audited certificate says, in the words of the subject.
use Rattle.std.specs.Prelude.{◌≡◌, ℕ, ⊤, List, length, map, Some}
use Rattle.instance_model.specs.Tables.{Tables}
use Rattle.instance_model.specs.Values.{score_of}
use Rattle.instance_model.specs.Rules.{KeepsRules}
use Rattle.certificate_lines.specs.declared.line.Bound.{Bound}
use Rattle.certificate_tree.specs.Holding.{IsAtLeast}
use Rattle.worked_bounds.specs.declared.certificates.audit.Audit.{Audit}
use Rattle.worked_bounds.specs.declared.certificates.audit.Audit.TheVariants.{Proved, LeafFails}

-- every plan that keeps the rules has a score of at least the bound; where that is none, no plan keeps them
abbrev pub BoundsKeptPlans : Tables → Bound → Type 0
BoundsKeptPlans inst bound =
    (starts : List ℕ) → length starts ≡ length inst.names → KeepsRules inst (map Some starts)
    → IsAtLeast bound (score_of inst (map Some starts))

-- what is proved of a bound, if one is
abbrev pub IfProved : Audit → (Bound → Type 0) → Type 0
IfProved (Proved bound) P = P bound
IfProved (LeafFails n) P = ⊤
