use Rattle.std.proofs.Common.{ℕ, List, length, map, Some, ◌∙◌, sym, ap, subst}
use Rattle.instance_model.specs.Rules.{IsFeasible}
use Rattle.fewest_changes.proofs.IncumbentLemmas.{opens_given, not_opens, not_given, end_given}
use Rattle.fewest_changes.proofs.incumbent.incumbent_of.Goals as goal

pub returns-then-not-is_broken : goal.returns-then-not-is_broken
returns-then-not-is_broken g c =
    opens_given c.args.inst.now c.args.old.now c.args.turns c.args.opening.now c.from_vec.result c.as_slice.result.now
    c.broken_rule.result (c.as_slice.ensures.value ∙ c.in_ok-plan.ensures) c.broken_rule.ensures
    (sym c.is_some-is_broken.ensures ∙ c.if-not-is_broken.true) (c.from_vec.ensures ∙ c.in_ok-starts.ensures.items)

pub returns-then-not-descended : goal.returns-then-not-descended
returns-then-not-descended g c =
    not_given c.args.inst.now c.args.old.now c.args.turns c.args.opening.now c.in_ok-descended.descended
    (not_opens c.args.inst.now c.args.opening.now c.as_slice.result.now c.broken_rule.result
    (c.as_slice.ensures.value ∙ c.in_ok-plan.ensures) c.broken_rule.ensures
    (sym c.is_some-is_broken.ensures ∙ c.if-not-is_broken.false)) c.in_ok-descended.ensures
    c.if-not-descended.true

pub give_back-requires-clause-each : goal.give_back-requires-clause-each
give_back-requires-clause-each g c =
    ap (λ (xs : List ℕ). length xs) c.as_slice-end.ensures ∙ c.in_ok-descended.ensures.allowed.each

pub give_back-requires-clause-feasible : goal.give_back-requires-clause-feasible
give_back-requires-clause-feasible g c =
    subst (λ (xs : List ℕ). IsFeasible c.args.inst.now (map Some xs)) (sym c.as_slice-end.ensures)
    (c.in_ok-descended.ensures.feasible.0 c.if-not-descended.false)

pub returns : goal.returns
returns g c =
    end_given c.args.inst.now c.args.old.now c.args.turns c.args.opening.now c.in_ok-descended.descended
    c.as_slice-end.result.now c.in_ok-given.given
    (not_opens c.args.inst.now c.args.opening.now c.as_slice.result.now c.broken_rule.result
    (c.as_slice.ensures.value ∙ c.in_ok-plan.ensures) c.broken_rule.ensures
    (sym c.is_some-is_broken.ensures ∙ c.if-not-is_broken.false)) c.in_ok-descended.ensures c.if-not-descended.false
    c.as_slice-end.ensures
    (record {
      plan = record { each = c.in_ok-given.ensures.each; feasible = c.in_ok-given.ensures.feasible };
      either = c.in_ok-given.ensures.either;
      few = c.in_ok-given.ensures.few;
      none_left = c.in_ok-given.ensures.none_left;
    })
