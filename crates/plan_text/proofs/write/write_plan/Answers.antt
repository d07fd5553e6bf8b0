use Rattle.std.proofs.Common.{[], ℕ, List, ◌+◌, drop, sym, subst, arith, rules}
use Rattle.std.proofs.lemmas.Option.{get_or_from_slice_get}
use Rattle.plan_desk.specs.Written.{HasPut}
use Rattle.plan_desk.specs.Written.Way.{writing}
use Rattle.plan_desk.proofs.Written.{begins, grows, fails}
use Rattle.plan_text.specs.Spelling.{plan_text}
use Rattle.plan_text.proofs.PieceLemmas.{plan_text-none, line_more, line_rest}
use Rattle.plan_text.proofs.WrittenLemmas.{plan_text_spells}
use Rattle.plan_text.proofs.write.write_plan.Goals as goal

pub loop-i-init : goal.loop-i-init
loop-i-init g c =
    let old = g.D.Desk.shows c.args.desk.now in
    subst (λ (text : List ℕ). HasPut writing text old old)
    (sym (plan_text-none c.args.inst.now.names)) (begins writing old)

pub returns-in_err-write_line-clause-written : goal.returns-in_err-write_line-clause-written
returns-in_err-write_line-clause-written g c =
    let names = c.args.inst.now.names in
    let starts = c.args.starts.now in
    fails writing c.from_residual.result (search rules)
    (plan_text (drop (c.loop-i.i + 1) names) (drop (c.loop-i.i + 1) starts))
    (line_rest names starts c.loop-i.i _ (omega arith) (omega arith)
    (get_or_from_slice_get names c.loop-i.i _ [] c.name.ensures.value)) c.loop-i.invariant
    c.in_err-write_line.ensures

pub returns-in_err-write_line-clause-spelled : goal.returns-in_err-write_line-clause-spelled
returns-in_err-write_line-clause-spelled g c =
    plan_text_spells _ c.args.inst.now.names c.args.starts.now c.fits.ensures.names c.requires.each c.requires.small

pub loop-i-preserved : goal.loop-i-preserved
loop-i-preserved g c =
    let names = c.args.inst.now.names in
    grows writing
    (line_more names c.args.starts.now c.loop-i.i _ (omega arith) (omega arith)
    (get_or_from_slice_get names c.loop-i.i _ [] c.name.ensures.value)) c.loop-i.invariant
    c.in_ok-write_line.ensures

pub returns-clause-spelled : goal.returns-clause-spelled
returns-clause-spelled g c =
    plan_text_spells _ c.args.inst.now.names c.args.starts.now c.fits.ensures.names c.requires.each c.requires.small
