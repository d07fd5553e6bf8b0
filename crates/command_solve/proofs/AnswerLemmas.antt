-- What the answer of a search comes to, by its best plan and its bound.
use Rattle.std.proofs.Common.{◌≡◌, ℕ, ◌⊎◌, inl, inr, refl, sym, ◌∙◌, ap, subst, arith, ℤ, ◌<ℤ◌, List}
use Rattle.std.proofs.Common.{zero-add, Option, Some, None, Any, Bool, true, false, IsTrue, map}
use Rattle.std.specs.Bool.{OnFalse}
use Rattle.fixed_num.proofs.SignedLemmas.{signed_arith}
use Rattle.instance_model.specs.Tables.{Tables}
use Rattle.instance_model.specs.Rules.{IsFeasible}
use Rattle.lagrange_bound.specs.Prices.{PriceList}
use Rattle.lagrange_bound.specs.Goals.{risk_base, risk_value}
use Rattle.certificate_lines.specs.declared.line.Bound.TheVariants.{NoPlan, Least}
use Rattle.certificate_tree.specs.Trees.{leaves, root_box}
use Rattle.certificate_tree.specs.Holding.{worth_by}
use Rattle.plan_moves.specs.declared.change.Change.{Change}
use Rattle.branch_search.specs.Best.{IsFeasiblePlan, IsBestOver, IsNoWorse, bound_of}
use Rattle.branch_search.specs.Searched.{IsAmong, IsLeastOf, IsUnfinishedLeaf, IsSearched}
use Rattle.branch_search.specs.declared.tree_end.TreeEnd.{TreeEnd}
use Rattle.command_solve.specs.Solved.{IsSolved, IsNothing}
use Rattle.local_search.specs.Ends.{end_of}
use Rattle.branch_search.specs.Given.{IsGiven}
use Rattle.branch_search.specs.Splits.{split_count}
use Rattle.branch_search.specs.Turns.{AreEnough}
use Rattle.branch_search.proofs.SplitCountLemmas.{splits_are}

least_same : (a b : ℤ) → Least a ≡ Least b → a ≡ b
least_same a b e = cc

least_or_none : (b : ℤ) → Least b ≡ NoPlan → ⊥
least_or_none b e = cc

none_or_some : (plan : List ℕ) → None ≡ Some plan → ⊥
none_or_some plan e = cc

not_below_itself : (a b : ℤ) → a ≡ b → a <ℤ b → ⊥
not_below_itself a b e l = omega (arith, signed_arith)

module _ (inst : Tables) (prices : PriceList) (given : Option (List ℕ)) (turns : ℕ) (answer : TreeEnd)
    (searched : IsSearched risk_base risk_value inst (Some prices) given turns answer) where
  -- where there is a best plan, the bound is a number
  pub some_has_bound : (plan : List ℕ) → answer.best ≡ Some plan → answer.cert.bound ≡ NoPlan → ⊥
  some_has_bound plan is bound =
      subst (IsLeastOf (IsAmong risk_value inst (worth_by risk_base inst answer.cert.lists) answer.best
      (leaves (root_box inst) searched.by.tree))) bound searched.by.bound (risk_value inst plan) (inl (plan, is, refl))

  -- the best plan is feasible
  pub best_feasible : (plan : List ℕ) → answer.best ≡ Some plan → IsFeasiblePlan inst plan
  best_feasible plan is =
      let best_is : IsNoWorse risk_value inst given plan =
      subst (IsBestOver risk_value inst given) is searched.by.best in
      best_is.feasible

  -- a search that is finished has the bound that says so
  finished : answer.unfinished ≡ false → answer.cert.bound ≡ bound_of risk_value inst answer.best
  finished is =
      subst (λ (b : Bool). OnFalse b (answer.cert.bound ≡ bound_of risk_value inst answer.best)) is searched.by.finished

  -- the search is finished, or has made as many splits as turns
  all_or_spent : (answer.cert.bound ≡ bound_of risk_value inst answer.best)
      ⊎ ((split_count answer.cert.nodes ≡ turns) × IsTrue answer.unfinished)
  all_or_spent = at answer.unfinished refl
    where
      at : (b : Bool) → answer.unfinished ≡ b → (answer.cert.bound ≡ bound_of risk_value inst answer.best)
          ⊎ ((split_count answer.cert.nodes ≡ turns) × IsTrue answer.unfinished)
      at true e = inr (
        splits_are inst answer.cert searched.by.tree searched.by.of_nodes ∙ searched.by.spent e ∙ zero-add turns,
        e,
      )
      at false e = inl (finished e)

  module _ (plan : List ℕ) (is : answer.best ≡ Some plan) (b : ℤ) (bound : answer.cert.bound ≡ Least b) where
    -- a finished search has the value of its best plan as its bound
    met : answer.cert.bound ≡ bound_of risk_value inst answer.best → risk_value inst plan ≡ b
    met e = least_same (risk_value inst plan) b
        (sym (e ∙ ap (λ (best : Option (List ℕ)). bound_of risk_value inst best) is) ∙ bound)

    pub gap_is_spent : b <ℤ risk_value inst plan → split_count answer.cert.nodes ≡ turns
    gap_is_spent gap = at all_or_spent
      where
        at : (answer.cert.bound ≡ bound_of risk_value inst answer.best)
            ⊎ ((split_count answer.cert.nodes ≡ turns) × IsTrue answer.unfinished)
            → split_count answer.cert.nodes ≡ turns
        at (inl e) = absurd (not_below_itself b (risk_value inst plan) (sym (met e)) gap)
        at (inr (spent, more)) = spent

    pub enough_meets : answer.unfinished ≡ false → risk_value inst plan ≡ b
    enough_meets e = met (finished e)

  module _ (is : answer.best ≡ None) (b : ℤ) (bound : answer.cert.bound ≡ Least b) where
    -- a finished search without a plan has no number as its bound
    unmet : answer.cert.bound ≡ bound_of risk_value inst answer.best → ⊥
    unmet e = least_or_none b
        (sym bound ∙ e ∙ ap (λ (best : Option (List ℕ)). bound_of risk_value inst best) is)

    pub nothing_is_spent : (split_count answer.cert.nodes ≡ turns) × IsTrue answer.unfinished
    nothing_is_spent = at all_or_spent
      where
        at : (answer.cert.bound ≡ bound_of risk_value inst answer.best)
            ⊎ ((split_count answer.cert.nodes ≡ turns) × IsTrue answer.unfinished)
            → (split_count answer.cert.nodes ≡ turns) × IsTrue answer.unfinished
        at (inl e) = absurd (unmet e)
        at (inr spent) = spent

    pub nothing_is_few : answer.unfinished ≡ false → ⊥
    nothing_is_few e = unmet (finished e)

-- no plan was handed in where none is best
none_given : (inst : Tables) (end : List ℕ) (given : Option (List ℕ)) → given ≡ None → IsGiven inst end given
    → IsFeasible inst (map Some end) → ⊥
none_given inst end given is g = subst (IsGiven inst end) is g

pub is_nothing : (inst : Tables) (turns : ℕ) (changes : List Change) (answer : TreeEnd) (b : ℤ)
    (solved : IsSolved inst turns changes answer) → (AreEnough inst turns → answer.unfinished ≡ false)
    → answer.best ≡ None → answer.cert.bound ≡ Least b → IsNothing inst turns changes answer b solved
is_nothing inst turns changes answer b solved enough best bound =
    let s = solved.searched in
    let spent = nothing_is_spent inst solved.prices solved.given turns answer s best b bound in
    record {
      best = best;
      bound_is = bound;
      spent = spent.0;
      too_few = λ are.
          nothing_is_few inst solved.prices solved.given turns answer s best b bound (enough are);
      end_infeasible = none_given inst (end_of solved.opening changes) solved.given
          (subst (IsBestOver risk_value inst solved.given) best s.by.best) solved.is_given;
      left = subst (λ (o : Option (List ℕ)).
          Any (IsUnfinishedLeaf risk_value inst (worth_by risk_base inst answer.cert.lists) o)
          (leaves (root_box inst) s.by.tree)) best
          (s.by.unfinished.0 spent.1);
    }
