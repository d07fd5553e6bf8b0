use Rattle.std.proofs.Common.{refl, ◌∙◌, sym, arith}
use Rattle.std.proofs.lemmas.List.{get_or_default}
use Rattle.plan_changes.proofs.TrialLemmas.{stays_trial, goes_trial, cannot_go}
use Rattle.plan_changes.proofs.trial.put_back.Goals as goal

pub returns-then-is_some-clause-trial : goal.returns-then-is_some-clause-trial
returns-then-is_some-clause-trial c =
    stays_trial c.args.inst.now c.args.trial.now.starts.items c.args.trial.now.plan.items _ c.args.i c.args.s
    c.index-start.result.now c.requires.trial.same c.requires.trial.each c.requires.trial.feasible
    (c.index-start.ensures
    ∙ get_or_default c.args.trial.now.starts.items c.args.i c.index-start.result.now 0
    (omega (arith, c.requires.number, c.requires.trial.each))) refl

pub returns-then-is_some-clause-cannot : goal.returns-then-is_some-clause-cannot
returns-then-is_some-clause-cannot c =
    cannot_go c.args.inst.now c.args.trial.now.starts.items c.args.trial.now.plan.items c.as_slice.result.now c.args.i
    c.args.s c.broken_rule.result c.requires.trial.same c.as_slice.ensures.value c.broken_rule.ensures
    (sym c.is_some.ensures ∙ c.if-is_some.true)

pub returns-clause-trial : goal.returns-clause-trial
returns-clause-trial c =
    goes_trial c.args.inst.now c.args.trial.now.starts.items c.args.trial.now.plan.items c.as_slice.result.now c.args.i
    c.args.s c.broken_rule.result c.requires.trial.same c.requires.trial.each c.as_slice.ensures.value
    c.broken_rule.ensures (sym c.is_some.ensures ∙ c.if-is_some.false)
