use Rattle.std.proofs.Common.{[], ◌≡◌}
use Rattle.instance_writer.specs.text.Styles.{Style}
use Rattle.instance_writer.specs.text.Written.{numbered}
use Rattle.instance_writer.specs.Steps.{period_loads}
use Rattle.instance_writer.proofs.loads.has_load.Given as goal

abbrev pub invariant-loop-k : goal.invariant-loop-k
invariant-loop-k g l =
    (style : Style) → numbered l.k (period_loads style (g.V.InstanceView.tables l.view) l.i l.c) ≡ []
