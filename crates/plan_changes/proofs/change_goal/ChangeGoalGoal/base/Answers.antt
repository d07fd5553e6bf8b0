use Rattle.std.proofs.Common.{◌∙◌, ap, sym, Bool, cond, pos, ℕ, List, Option}
use Rattle.instance_model.specs.Plans.{start_of}
use Rattle.plan_changes.specs.Changes.{is_changed, change_base}
use Rattle.plan_changes.proofs.change_goal.ChangeGoalGoal.base.Goals as goal

pub returns-then-is_changed-clause-value : goal.returns-then-is_changed-clause-value
unfolding change_base
returns-then-is_changed-clause-value c =
    ap (λ (b : Bool). cond b (pos 1_000_000_000_000_000_000) (pos 0))
    (sym c.if-is_changed.true
    ∙ c.is_changed.ensures
    ∙ ap (λ (o : Option ℕ). is_changed o c.args.s) c.old_start.ensures
    ∙ ap (λ (old : List (Option ℕ)). is_changed (start_of old c.args.i) c.args.s)
    (c.as_slice.ensures.value ∙ c.self.view_is))

pub returns-else-is_changed-clause-value : goal.returns-else-is_changed-clause-value
unfolding change_base
returns-else-is_changed-clause-value c =
    ap (λ (b : Bool). cond b (pos 1_000_000_000_000_000_000) (pos 0))
    (sym c.if-is_changed.false
    ∙ c.is_changed.ensures
    ∙ ap (λ (o : Option ℕ). is_changed o c.args.s) c.old_start.ensures
    ∙ ap (λ (old : List (Option ℕ)). is_changed (start_of old c.args.i) c.args.s)
    (c.as_slice.ensures.value ∙ c.self.view_is))
