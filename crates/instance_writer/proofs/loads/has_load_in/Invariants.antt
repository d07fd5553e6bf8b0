use Rattle.std.proofs.Common.{[], ◌≡◌}
use Rattle.instance_writer.specs.text.Styles.{Style}
use Rattle.instance_writer.specs.text.Written.{numbered}
use Rattle.instance_writer.specs.Steps.{start_load}
use Rattle.instance_writer.proofs.loads.has_load_in.Given as goal

abbrev pub invariant-loop-k : goal.invariant-loop-k
invariant-loop-k g l =
    (style : Style) → numbered l.k (start_load style (g.V.InstanceView.tables l.view) l.i l.c l.t) ≡ []
