use Rattle.std.proofs.Common.{◌-◌, ◌∷◌, ◌++◌, [], ℕ, List, length, take, sym, ◌∙◌, ap, arith}
use Rattle.std.proofs.lemmas.List.{take_more, take_all}
use Rattle.instance_model.specs.Tables.{Tables}
use Rattle.plan_moves.specs.KeptPlans.{present}
use Rattle.local_search.proofs.ending.present_starts.Goals as goal

pub returns : goal.returns
returns g c =
    let plans = c.args.kept.now.plans in
    let kept = c.allowed.ensures in
    let each = (kept.allowed (length plans - 1) [] (omega (arith, kept.some))).each in
    let names = ap (λ (inst : Tables). length inst.names) c.requires in
    c.from_vec.ensures
    ∙ c.loop-i.invariant
    ∙ take_all c.loop-i.i (present plans)
    (omega (arith, each, names, c.loop-i-test.false, c.interventions-i-end.ensures.value))

pub loop-i-preserved : goal.loop-i-preserved
loop-i-preserved g c =
    let plans = c.args.kept.now.plans in
    let kept = c.allowed.ensures in
    let each = (kept.allowed (length plans - 1) [] (omega (arith, kept.some))).each in
    let names = ap (λ (inst : Tables). length inst.names) c.requires in
    c.in_ok-push.ensures.items
    ∙ ap (λ (starts : List ℕ). starts ++ c.start_of.result ∷ []) c.loop-i.invariant
    ∙ ap (λ (s : ℕ). take c.loop-i.i (present plans) ++ s ∷ []) c.start_of.ensures.value
    ∙ sym (take_more (present plans) c.loop-i.i 0
    (omega (arith, each, names, c.loop-i-test.true, c.interventions-i-end.ensures.value)))
