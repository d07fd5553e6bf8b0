-- A rehearsal from what each of its calls says.
use Rattle.std.proofs.Common.{◌≡◌, ◌↔◌, ℕ, List, length, map, Some, pos, refl, ◌∙◌, ap, subst, arith}
use Rattle.instance_model.specs.declared.key.Key.{Key}
use Rattle.instance_model.specs.Rules.{IsFeasible}
use Rattle.plan_moves.specs.declared.change.Change.{Change}
use Rattle.plan_moves.specs.KeptPlans.{KeptPlans, present}
use Rattle.certificate_tree.specs.declared.node.Node.{Node}
use Rattle.branch_search.specs.Splits.{split_count}
use Rattle.local_search.specs.Ends.{end_of}
use Rattle.local_search.proofs.EndLemmas.{end_is, instance_is, is_trail, present_feasible}
use Rattle.command_rehearse.specs.Rehearsed.{IsBounded}
use Rattle.command_rehearse.proofs.RehearsalLemmas.{key_is, all_count, first_left}
use Rattle.command_rehearse.proofs.rehearsal.rehearse.Goals as goal

pub undo_all-requires : goal.undo_all-requires
undo_all-requires g c =
    let moves = c.in_ok-descent.descent.moves in
    let count = all_count c.args.inst.now c.args.opening.now c.in_ok-kept.kept c.descend.new.kept 40 moves
    c.in_ok-descent.descent.spent c.in_ok-kept.ensures c.in_ok-descent.ensures.ok in
    let made : length c.as_slice-changes.result.now ≡ length moves = ap (λ (cs : List Change). length cs)
    c.as_slice-changes.ensures in
    omega (arith, count, made)

pub returns : goal.returns
returns g c =
    let inst = c.args.inst.now in
    let opening = c.args.opening.now in
    let old = c.in_ok-kept.kept in
    let new = c.descend.new.kept in
    let back = c.undo_all.new.kept in
    let moves = c.in_ok-descent.descent.moves in
    let spent = c.in_ok-descent.descent.spent in
    let first = c.in_ok-kept.ensures in
    let descent = c.in_ok-descent.ensures.ok in
    let same = instance_is inst opening old new 40 moves spent first descent in
    let end = end_is inst opening old new 40 moves spent first descent in
    let answer = c.in_ok-answer.answer in
    let violation = c.key-descended.result.violation in
    record {
      opening = opening;
      changes = moves;
      trail = is_trail inst opening old new 40 moves spent first descent c.requires;
      answer = answer;
      bounded = subst (λ (plan : List ℕ). IsBounded inst plan answer) end c.in_ok-answer.ensures;
      given_at_zero = subst (λ (plan : List ℕ). (violation ≡ pos 0) ↔ IsFeasible inst (map Some plan)) end
          (present_feasible inst new same c.allowed.ensures c.no_violation_means_feasible.ensures violation
          (ap (λ (key : Key). key.violation) c.key-descended.ensures.value));
      opening_is = key_is inst old opening c.key-opened.result (ap (λ (kept : KeptPlans). kept.instance) first)
          (ap (λ (kept : KeptPlans). present kept.plans) first) c.key-opened.ensures.value;
      descent_is = key_is inst new (end_of opening moves) c.key-descended.result same end
          c.key-descended.ensures.value;
      undone_is = key_is inst back opening c.key.result (c.undo_all.ensures.instance ∙ same)
          (first_left inst opening old new 40 moves spent first descent back.plans c.undo_all.ensures.first)
          c.key.ensures.value;
      moves_are = ap (λ (cs : List Change). length cs) c.as_slice-changes.ensures;
      bound_is = refl;
      splits_are = c.split_count.ensures ∙ ap (λ (nodes : List Node). split_count nodes) c.as_slice.ensures;
      interventions_are = c.interventions.ensures.value;
      rounded_are = c.rounded.ensures;
    }
