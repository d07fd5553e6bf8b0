-- A bound holds for every plan that keeps the rules, and one that a plan meets makes this the best.
use Rattle.std.proofs.Common.{◌≡◌, ℕ, ◌*◌, ◌≤◌, ℤ, pos, ◌+ℤ◌, ◌-ℤ◌, ◌*ℤ◌, ◌≤ℤ◌, ◌<ℤ◌, sym, ◌∙◌, ap, subst, arith, List}
use Rattle.std.proofs.Common.{map, Option, Some}
use Rattle.std.proofs.Math.Nat.{mul_comm}
use borrow.Author.Differences.{same_in, product_is}
use Rattle.fixed_num.proofs.SignedLemmas.{signed_arith}
use Rattle.fixed_num.proofs.SumLemmas.{*ℤ-+ℤ}
use Rattle.instance_model.specs.Tables.{Tables}
use Rattle.instance_model.specs.Values.{score_of}
use Rattle.instance_model.specs.Exact.{scenario_product}
use Rattle.instance_model.specs.Rules.{IsFeasible}
use Rattle.instance_model.proofs.DeviationLemmas.{scale_mono}
use Rattle.instance_model.proofs.QuotientLemmas.{turn}
use Rattle.instance_model.proofs.RuleLemmas.{first_start_rule-none, IsFeasible-from}
use Rattle.lagrange_bound.specs.Goals.{risk_value}
use Rattle.certificate_lines.specs.declared.line.Bound.{Bound}
use Rattle.certificate_lines.specs.declared.line.Bound.TheVariants.{Least}
use Rattle.certificate_tree.specs.Holding.{IsAtLeast}
use Rattle.certificate_tree.specs.Validity.{Claim, BoundsPlans}
use Rattle.plan_changes.specs.Changes.{changes_of, change_value, BoundsCountChanges}
use Rattle.command_frame.proofs.OpeningLemmas.{opening_from}
use Rattle.command_answers.specs.Check.{IsKeptPlan, BoundsEveryPlan, exact_cost, IsBest, IsAcceptedClaim}
use Rattle.command_answers.specs.Audit.{BoundsEveryRepair}

-- ---- scores

bounds_plan : (inst : Tables) (bound : Bound) (plan : List (Option ℕ)) → BoundsPlans risk_value inst bound
    → IsKeptPlan inst plan → IsAtLeast bound (score_of inst plan)
bounds_plan inst bound plan bounds kept =
    let opens = opening_from inst plan kept.each (first_start_rule-none inst plan kept.keeps.starts) in
    let feasible = subst (IsFeasible inst) opens.starts (IsFeasible-from inst plan kept.keeps) in
    subst (λ (p : List (Option ℕ)). IsAtLeast bound (score_of inst p)) (sym opens.starts)
    (bounds _ opens.allowed.each feasible)

pub bounds_every : (inst : Tables) (bound : Bound) → BoundsPlans risk_value inst bound → BoundsEveryPlan inst bound
bounds_every inst bound bounds =
    record {
      least = λ b is plan kept. subst (λ (x : Bound). IsAtLeast x (score_of inst plan)) is
          (bounds_plan inst bound plan bounds kept);
      none = λ is plan kept. subst (λ (x : Bound). IsAtLeast x (score_of inst plan)) is
          (bounds_plan inst bound plan bounds kept);
    }

at_least : (a b c : ℤ) → a -ℤ b ≡ pos 0 → b ≤ℤ c → a ≤ℤ c
at_least a b c e h = omega (arith, signed_arith, e, h)

pub best_plan : (inst : Tables) (given : Option (List (Option ℕ))) (claim : Claim) (plan : List (Option ℕ)) (b : ℤ)
    → IsAcceptedClaim inst given claim → claim.bound ≡ Least b → score_of inst plan -ℤ b ≡ pos 0 → IsBest inst plan
best_plan inst given claim plan b all is zero =
    record {
      score = λ other kept. at_least (score_of inst plan) b (score_of inst other) zero
          (all.bounds.least b is other kept);
      cost = λ other kept.
          cheaper (score_of inst plan) (score_of inst other) (exact_cost inst plan) (exact_cost inst other) inst.periods
          (scenario_product inst)
          (at_least (score_of inst plan) b (score_of inst other) zero (all.bounds.least b is other kept))
          (all.costs plan).most (all.costs other).least;
    }
  where
    chain : (x y a c : ℤ) (n : ℕ) → x <ℤ (a +ℤ pos n) → a ≤ℤ c → c ≤ℤ y → x <ℤ (y +ℤ pos n)
    chain x y a c n h k l = omega (arith, signed_arith, h, k, l)

    counts : (p t : ℕ) → pos p *ℤ pos t ≡ pos (t * p)
    counts p t = same_in (pos p *ℤ pos t) (pos (t * p)) (omega (arith, product_is (pos p) (pos t), mul_comm p t))

    cheaper : (a c x y : ℤ) (t p : ℕ) → a ≤ℤ c → x <ℤ ((a +ℤ pos t) *ℤ pos p) → (c *ℤ pos p) ≤ℤ y
        → x <ℤ (y +ℤ pos (t * p))
    cheaper a c x y t p h k l =
        let parts : (a +ℤ pos t) *ℤ pos p ≡ pos p *ℤ a +ℤ pos (t * p) = sym (turn (a +ℤ pos t) p) ∙ *ℤ-+ℤ (pos p) a
        (pos t) ∙ ap (λ (z : ℤ). pos p *ℤ a +ℤ z) (counts p t) in
        chain x y (pos p *ℤ a) (pos p *ℤ c) (t * p) (subst (λ (z : ℤ). x <ℤ z) parts k) (scale_mono p a c h)
        (subst (λ (z : ℤ). z ≤ℤ y) (sym (turn c p)) l)

-- ---- changes

pub bounds_every_repair : (inst : Tables) (old : List (Option ℕ)) (bound : Bound) → BoundsCountChanges
    → BoundsPlans (change_value old) inst bound → BoundsEveryRepair inst old bound
unfolding change_value
bounds_every_repair inst old bound counts bounds =
    record {
      least = λ b is starts kept.
          let at_least : b ≤ℤ pos (1_000_000_000_000_000_000 * changes_of old starts) = subst
          (λ (x : Bound). IsAtLeast x (change_value old inst starts)) is
          (bounds starts kept.each (IsFeasible-from inst (map Some starts) kept.keeps)) in
          (counts b (changes_of old starts)).0 at_least;
      none = λ is starts kept. subst (λ (x : Bound). IsAtLeast x (change_value old inst starts)) is
          (bounds starts kept.each (IsFeasible-from inst (map Some starts) kept.keeps));
    }
