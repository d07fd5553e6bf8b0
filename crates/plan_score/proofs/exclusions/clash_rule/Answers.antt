use Rattle.plan_score.proofs.ClashLemmas.{clash_found, clash_missing, first_idle, second_idle}
use Rattle.plan_score.proofs.exclusions.clash_rule.Goals as goal

pub returns-in_err-first : goal.returns-in_err-first
returns-in_err-first c = rw c.from_residual.ensures
    (first_idle c.args.inst.now c.args.plan.now c.args.e c.exclusion-exclusion.result
    c.exclusion-exclusion.ensures.value c.in_err-first.ensures.none)

pub returns-in_err-second : goal.returns-in_err-second
returns-in_err-second c = rw c.from_residual-in_err-second.ensures (second_idle c.args.inst.now c.args.plan.now c.args.e
    c.exclusion-exclusion.result c.exclusion-exclusion.ensures.value c.in_err-second.ensures.none)

pub returns-in_err-t : goal.returns-in_err-t
returns-in_err-t c =
    rw c.from_residual-in_err-t.ensures
    (clash_missing c.args.inst.now c.args.plan.now c.args.e c.exclusion-exclusion.result c.in_ok-first.first
    c.in_ok-second.second c.exclusion-exclusion.ensures.value (record { periods = c.in_ok-first.ensures.periods })
    (record { periods = c.in_ok-second.ensures.periods }) c.in_err-t.ensures.none)

pub returns : goal.returns
returns c =
    clash_found c.args.inst.now c.args.plan.now c.args.e c.in_ok-t.t c.exclusion-exclusion.result c.in_ok-first.first
    c.in_ok-second.second c.exclusion-exclusion.ensures.value (record { periods = c.in_ok-first.ensures.periods })
    (record { periods = c.in_ok-second.ensures.periods }) c.in_ok-first.ensures.horizon c.in_ok-t.ensures.found
