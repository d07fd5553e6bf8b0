use Rattle.std.proofs.Common.{List, sym, ap, subst}
use Rattle.std.specs.List.{All}
use Rattle.instance_model.specs.Tables.{Tables}
use Rattle.plan_moves.specs.declared.script_line.ScriptLine.{ScriptLine}
use Rattle.plan_moves.specs.KeptPlans.{KeptPlans, present}
use Rattle.plan_moves.specs.Scripts.{NamesKnown}
use Rattle.move_script.specs.Replays.{FailsByStart, FailsByUndo}
use Rattle.move_script.proofs.replaying.replay.Goals as goal

pub replay_lines-requires-clause-known : goal.replay_lines-requires-clause-known
replay_lines-requires-clause-known g c =
    subst (λ (inst : Tables). All (NamesKnown inst) c.as_slice-lines.result.now)
    (sym (ap (λ (kept : KeptPlans). kept.instance) c.in_ok-kept.ensures))
    (subst (All (NamesKnown c.args.inst.now)) (sym c.as_slice-lines.ensures) c.requires.known)

pub returns-clause-not_allowed : goal.returns-clause-not_allowed
returns-clause-not_allowed g c = λ n e.
    subst (λ (kept : KeptPlans). FailsByStart kept.instance (present kept.plans) c.args.script.now n)
    c.in_ok-kept.ensures
    (subst (λ (lines : List ScriptLine). FailsByStart c.in_ok-kept.kept.instance (present c.in_ok-kept.kept.plans) lines
    n) c.as_slice-lines.ensures (c.replay_lines.ensures.not_allowed n e))

pub returns-clause-nothing_to_undo : goal.returns-clause-nothing_to_undo
returns-clause-nothing_to_undo g c = λ n e.
    subst (λ (kept : KeptPlans). FailsByUndo kept.instance (present kept.plans) c.args.script.now n)
    c.in_ok-kept.ensures
    (subst (λ (lines : List ScriptLine). FailsByUndo c.in_ok-kept.kept.instance (present c.in_ok-kept.kept.plans) lines
    n) c.as_slice-lines.ensures (c.replay_lines.ensures.nothing_to_undo n e))
