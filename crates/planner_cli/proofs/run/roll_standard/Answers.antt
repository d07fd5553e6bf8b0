-- The limits are the standard ones.
use Rattle.std.proofs.Common.{map, string_bytes, subst}
use Rattle.instance_model.specs.declared.limits.Limits.{Limits}
use Rattle.planner_cli.specs.Outcome.{Outcome}
use Rattle.planner_cli.proofs.run.roll_standard.Goals as goal

pub returns : goal.returns
returns g c =
    let old = g.D.Desk.shows c.args.desk.now in
    let new = g.D.Desk.shows c.roll_within.new.desk in
    subst (λ (l : Limits). Outcome l (map string_bytes c.args.words.now) old new c.roll_within.result)
    c.standard-limits.ensures c.roll_within.ensures
