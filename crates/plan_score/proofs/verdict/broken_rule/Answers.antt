use Rattle.std.proofs.Common.{◌≡◌, ◌∙◌, sym, refl, None, Some}
use Rattle.instance_model.specs.Rules.{first_rule, first_start_rule, first_band_rule}
use Rattle.instance_model.proofs.PlanLemmas.{RunsAreAllowed-from_none}
use Rattle.plan_score.proofs.verdict.broken_rule.Goals as goal

pub returns-in-Some : goal.returns-in-Some
unfolding first_rule
returns-in-Some c =
    let starts : first_start_rule c.args.inst.now c.args.plan.now ≡ Some c.in-Some.rule =
    sym c.broken_start.ensures ∙ c.in-Some.is in
    rw starts refl

pub broken_band-requires-clause-allowed : goal.broken_band-requires-clause-allowed
broken_band-requires-clause-allowed c =
    RunsAreAllowed-from_none c.args.inst.now c.args.plan.now c.requires (sym c.broken_start.ensures ∙ c.in_default.is)

pub returns-in-Some-broken_band : goal.returns-in-Some-broken_band
unfolding first_rule
returns-in-Some-broken_band c =
    let starts : first_start_rule c.args.inst.now c.args.plan.now ≡ None =
    sym c.broken_start.ensures ∙ c.in_default.is in
    let bands : first_band_rule c.args.inst.now c.args.plan.now ≡ Some c.in-Some-broken_band.rule =
    sym c.broken_band.ensures ∙ c.in-Some-broken_band.is in
    rw (starts, bands) refl

pub broken_exclusion-requires-clause-allowed : goal.broken_exclusion-requires-clause-allowed
broken_exclusion-requires-clause-allowed c =
    RunsAreAllowed-from_none c.args.inst.now c.args.plan.now c.requires (sym c.broken_start.ensures ∙ c.in_default.is)

pub returns : goal.returns
unfolding first_rule
returns c =
    let starts : first_start_rule c.args.inst.now c.args.plan.now ≡ None =
    sym c.broken_start.ensures ∙ c.in_default.is in
    let bands : first_band_rule c.args.inst.now c.args.plan.now ≡ None =
    sym c.broken_band.ensures ∙ c.in_default-broken_band.is in
    rw (starts, bands) c.broken_exclusion.ensures
