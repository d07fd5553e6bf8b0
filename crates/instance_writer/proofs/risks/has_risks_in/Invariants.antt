use Rattle.std.proofs.Common.{[], ◌≡◌}
use Rattle.instance_writer.specs.text.Styles.{Style}
use Rattle.instance_writer.specs.text.Written.{numbered, risks_of}
use Rattle.instance_writer.proofs.risks.has_risks_in.Given as goal

abbrev pub invariant-loop-k : goal.invariant-loop-k
invariant-loop-k g l =
    (style : Style) → numbered l.k (risks_of style (g.V.InstanceView.tables l.view) l.i l.t) ≡ []
