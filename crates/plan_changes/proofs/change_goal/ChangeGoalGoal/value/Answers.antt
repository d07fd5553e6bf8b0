use Rattle.std.proofs.Common.{◌≡◌, ◌*◌, ◌^◌, ◌<◌, ◌∙◌, ap, sym, arith, ℕ, ℤ, pos, ◌*ℤ◌, List, Option}
use mir.Syntax.{w128}
use mir.Val.{of_z, to_z}
use Rattle.fixed_num.proofs.SignedLemmas.{back_from_abs}
use Rattle.plan_changes.specs.Changes.{changes_of, change_value}
use Rattle.plan_changes.proofs.LeastLemmas.{product_is}
use Rattle.plan_changes.proofs.change_goal.ChangeGoalGoal.value.Goals as goal

-- the value as it is computed
computed : (z : ℤ) (n : ℕ) → z ≡ pos n → n < 2 ^ 64
    → to_z w128 (of_z w128 (pos 1_000_000_000_000_000_000 *ℤ to_z w128 (of_z w128 z)))
    ≡ pos (1_000_000_000_000_000_000 * n)
computed z n is few =
    ap (λ (x : ℤ). to_z w128 (of_z w128 (pos 1_000_000_000_000_000_000 *ℤ to_z w128 (of_z w128 x)))) is
    ∙ ap (λ (x : ℤ). to_z w128 (of_z w128 (pos 1_000_000_000_000_000_000 *ℤ x))) (back_from_abs (pos n) (omega arith))
    ∙ ap (λ (x : ℤ). to_z w128 (of_z w128 x)) (sym (product_is n))
    ∙ back_from_abs (pos (1_000_000_000_000_000_000 * n)) (omega arith)

pub returns-clause-value : goal.returns-clause-value
unfolding change_value
returns-clause-value c =
    computed c.from.result c.changes.result c.from.ensures (omega (arith, c.changes.type_inv))
    ∙ ap (λ (n : ℕ). pos (1_000_000_000_000_000_000 * n))
    (c.changes.ensures.value
    ∙ ap (λ (old : List (Option ℕ)). changes_of old c.args.starts.now) (c.as_slice.ensures.value ∙ c.self.view_is))
