use Rattle.std.proofs.Common.{List, Option, ℕ, subst}
use Rattle.certificate_tree.specs.Laws.{ValidBoundsPlans}
use Rattle.plan_changes.specs.Changes.{change_base, change_value}
use Rattle.fewest_changes.proofs.IncumbentLemmas.{given_plan}
use Rattle.fewest_changes.proofs.MadeLemmas.{found_for, is_made}
use Rattle.fewest_changes.proofs.repairing.make_repair.Goals as goal

pub lent-requires : goal.lent-requires
lent-requires g c =
    given_plan c.args.inst.now c.args.old.now c.args.turns c.args.opening.now c.in_ok-given.given
    c.requires.opening.each c.in_ok-given.ensures

pub returns : goal.returns
returns g c =
    let old = c.args.old.now in
    let a = c.in_ok-answer.ensures in
    is_made c.args.inst.now c.fits.ensures old c.args.turns c.args.opening.now c.requires.opening
    c.in_ok-given.given c.in_ok-given.ensures c.in_ok-answer.answer
    (found_for c.args.inst.now old c.in_ok-goal.goal c.args.turns c.in_ok-given.given _ c.in_ok-answer.answer
    c.in_ok-goal.ensures c.lent.ensures.starts a.searched a.valid (a.small tt) a.nodes a.enough)
    (record {
      counts = c.bounds_count_changes.ensures;
      unchanged = c.old_starts_are_no_changes.ensures;
      bounds = subst (λ (o : List (Option ℕ)). ValidBoundsPlans (change_base o) (change_value o)) c.in_ok-goal.ensures
          c.valid_bounds_plans.ensures;
    }) c.in_ok-plan.plan c.in_ok-plan.ensures
