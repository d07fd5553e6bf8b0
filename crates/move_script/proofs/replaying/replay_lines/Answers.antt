use Rattle.std.proofs.Common.{◌≡◌, ◌+◌, ◌<◌, ◌∙◌, length, get_or, refl, sym, ap, subst, arith, rules}
use Rattle.std.proofs.lemmas.Result.{err_from_is_err_and}
use Rattle.plan_moves.specs.declared.script_line.ScriptLine.TheVariants.{Move}
use Rattle.plan_moves.specs.KeptPlans.{present}
use Rattle.move_script.specs.declared.replay_fault.ReplayFault.TheVariants.{NotAllowed, NothingToUndo}
use Rattle.move_script.specs.LineFaults.{line_fault}
use Rattle.move_script.specs.Replays.{replay_text}
use Rattle.move_script.proofs.ReplayLemmas.{Reaches, reaches_none, reaches_more, fails_next, succeeds_at, said_none}
use Rattle.move_script.proofs.ReplayLemmas.{said_more, said_part, said_whole, fails_by_start, fails_by_undo}
use Rattle.move_script.proofs.ReplayLemmas.{says_before, one_answer}
use Rattle.move_script.proofs.replaying.replay_lines.Goals as goal

pub returns-in_err-say_key-clause-said : goal.returns-in_err-say_key-clause-said
returns-in_err-say_key-clause-said g c =
    let inst = c.args.kept.now.instance in
    let plans = c.args.kept.now.plans in
    let opening = present plans in
    let script = c.args.script.now in
    let old = g.D.Desk.shows c.args.desk.now in
    let new = g.D.Desk.shows c.say_key.new.desk in
    let here = subst (Reaches inst opening script 0) (sym c.requires.alone) (reaches_none inst opening script) in
    let p = err_from_is_err_and c.from_residual.result c.from_residual.ensures.1 in
    rw (p.1, p.2) (said_part inst opening script 0 plans inst c.key.result old old new refl c.key.ensures.value here
    (said_none inst opening script old) c.in_err-say_key.ensures.err)

pub loop-i-init : goal.loop-i-init
loop-i-init g c =
    let inst = c.args.kept.now.instance in
    let plans = c.args.kept.now.plans in
    let opening = present plans in
    let script = c.args.script.now in
    let old = g.D.Desk.shows c.args.desk.now in
    let new = g.D.Desk.shows c.say_key.new.desk in
    let here = subst (Reaches inst opening script 0) (sym c.requires.alone) (reaches_none inst opening script) in
    record {
      instance = refl;
      reached = here;
      room = search rules;
      said = said_more inst opening script 0 plans inst c.key.result old old new refl c.key.ensures.value here
          (said_none inst opening script old) c.in_ok-say_key.ensures.ok;
      same = search rules;
    }

pub returns-in_err-follow-clause-not_allowed : goal.returns-in_err-follow-clause-not_allowed
returns-in_err-follow-clause-not_allowed g c = λ n e.
    let inst = c.args.kept.now.instance in
    let opening = present c.args.kept.now.plans in
    let script = c.args.script.now in
    let lt : c.loop-i.i < length script = omega arith in
    let p = err_from_is_err_and c.from_residual-in_err-follow.result c.from_residual-in_err-follow.ensures.1 in
    fails_by_start inst opening script c.loop-i.i n (Move 0 0) lt
    (fails_next inst opening script c.loop-i.i c.loop-i.kept.plans (Move 0 0) c.loop-i.kept.instance
    c.loop-i.invariant.instance c.loop-i.invariant.reached lt c.in_err-follow.ensures.err)
    (one_answer c.from_residual-in_err-follow.result p.0 c.in_err-follow.field-0.0
    (line_fault (get_or script c.loop-i.i (Move 0 0)) (c.loop-i.i + 1)) (NotAllowed n) p.1 p.2
    c.in_err-follow.ensures.fault e)

pub returns-in_err-follow-clause-nothing_to_undo : goal.returns-in_err-follow-clause-nothing_to_undo
returns-in_err-follow-clause-nothing_to_undo g c = λ n e.
    let inst = c.args.kept.now.instance in
    let opening = present c.args.kept.now.plans in
    let script = c.args.script.now in
    let lt : c.loop-i.i < length script = omega arith in
    let p = err_from_is_err_and c.from_residual-in_err-follow.result c.from_residual-in_err-follow.ensures.1 in
    fails_by_undo inst opening script c.loop-i.i n (Move 0 0) lt
    (fails_next inst opening script c.loop-i.i c.loop-i.kept.plans (Move 0 0) c.loop-i.kept.instance
    c.loop-i.invariant.instance c.loop-i.invariant.reached lt c.in_err-follow.ensures.err)
    (one_answer c.from_residual-in_err-follow.result p.0 c.in_err-follow.field-0.0
    (line_fault (get_or script c.loop-i.i (Move 0 0)) (c.loop-i.i + 1)) (NothingToUndo n) p.1 p.2
    c.in_err-follow.ensures.fault e)

pub returns-in_err-follow-clause-said : goal.returns-in_err-follow-clause-said
returns-in_err-follow-clause-said g c =
    let inst = c.args.kept.now.instance in
    let opening = present c.args.kept.now.plans in
    let script = c.args.script.now in
    let old = g.D.Desk.shows c.args.desk.now in
    let new = g.D.Desk.shows c.loop-i.desk in
    let fails = fails_next inst opening script c.loop-i.i c.loop-i.kept.plans (Move 0 0) c.loop-i.kept.instance
    c.loop-i.invariant.instance c.loop-i.invariant.reached (omega arith) c.in_err-follow.ensures.err in
    let p = err_from_is_err_and c.from_residual-in_err-follow.result c.from_residual-in_err-follow.ensures.1 in
    rw (p.1, p.2, c.in_err-follow.ensures.fault)
    (says_before (get_or script c.loop-i.i (Move 0 0)) (c.loop-i.i + 1) (replay_text inst opening script) old new
    (said_whole inst opening script (c.loop-i.i + 1) old new fails.reached c.loop-i.invariant.said))

pub returns-in_err-say_key-2-clause-said : goal.returns-in_err-say_key-2-clause-said
returns-in_err-say_key-2-clause-said g c =
    let inst = c.args.kept.now.instance in
    let plans = c.follow.new.kept.plans in
    let opening = present c.args.kept.now.plans in
    let script = c.args.script.now in
    let old = g.D.Desk.shows c.args.desk.now in
    let mid = g.D.Desk.shows c.loop-i.desk in
    let new = g.D.Desk.shows c.say_key-in-loop-i.new.desk in
    let here = reaches_more inst opening script c.loop-i.i c.loop-i.kept.plans plans (Move 0 0) c.loop-i.kept.instance
    c.loop-i.invariant.instance c.loop-i.invariant.reached (omega arith) c.in_ok-follow.ensures.ok in
    let p = err_from_is_err_and c.from_residual-in_err-say_key-2.result c.from_residual-in_err-say_key-2.ensures.1 in
    rw (p.1, p.2) (said_part inst opening script (c.loop-i.i + 1) plans c.follow.new.kept.instance
    c.key-key.result old mid new
    (c.in_ok-follow.ensures.instance ∙ c.loop-i.invariant.instance) c.key-key.ensures.value here c.loop-i.invariant.said
    c.in_err-say_key-2.ensures.err)

pub loop-i-preserved : goal.loop-i-preserved
loop-i-preserved g c =
    let inst = c.args.kept.now.instance in
    let plans = c.follow.new.kept.plans in
    let opening = present c.args.kept.now.plans in
    let script = c.args.script.now in
    let old = g.D.Desk.shows c.args.desk.now in
    let mid = g.D.Desk.shows c.loop-i.desk in
    let new = g.D.Desk.shows c.say_key-in-loop-i.new.desk in
    let same = c.in_ok-follow.ensures.instance ∙ c.loop-i.invariant.instance in
    let here = reaches_more inst opening script c.loop-i.i c.loop-i.kept.plans plans (Move 0 0) c.loop-i.kept.instance
    c.loop-i.invariant.instance c.loop-i.invariant.reached (omega arith) c.in_ok-follow.ensures.ok in
    record {
      instance = same;
      reached = here;
      room = omega (arith, c.in_ok-follow.ensures.spare, c.loop-i.invariant.room);
      said = said_more inst opening script (c.loop-i.i + 1) plans c.follow.new.kept.instance c.key-key.result old mid
          new same c.key-key.ensures.value here c.loop-i.invariant.said c.in_ok-say_key-2.ensures.ok;
      same = search rules;
    }

pub returns-clause-ok : goal.returns-clause-ok
returns-clause-ok g c = succeeds_at c.args.kept.now.instance (present c.args.kept.now.plans) c.args.script.now
    c.loop-i.i c.loop-i.kept.plans c.loop-i.invariant.reached (omega arith)

pub returns-clause-said : goal.returns-clause-said
returns-clause-said g c =
    let inst = c.args.kept.now.instance in
    let opening = present c.args.kept.now.plans in
    let script = c.args.script.now in
    let done : c.loop-i.i ≡ length script = omega arith in
    said_whole inst opening script (c.loop-i.i + 1) (g.D.Desk.shows c.args.desk.now) (g.D.Desk.shows c.loop-i.desk)
    (succeeds_at inst opening script c.loop-i.i c.loop-i.kept.plans c.loop-i.invariant.reached done
    ∙ ap (λ n. n + 1) (sym done)) c.loop-i.invariant.said
