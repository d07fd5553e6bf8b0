-- What a repair makes.
use Rattle.std.proofs.Common.{◌≡◌, ℕ, ◌+◌, ◌*◌, ◌<◌, ◌≤◌, refl, sym, ◌∙◌, ap, subst, arith, List, length, get_or, map}
use Rattle.std.proofs.Common.{Option, Some, None, false}
use Rattle.std.specs.Prelude.{IfSome}
use Rattle.std.proofs.lemmas.List.{length-map, ext_get_or}
use Rattle.instance_model.specs.Tables.{Tables}
use Rattle.instance_model.specs.Fitting.{IsFitting}
use Rattle.instance_model.specs.Rules.{IsFeasible, KeepsRules}
use Rattle.instance_model.proofs.BoardLemmas.{start_of-starts}
use Rattle.instance_model.proofs.RuleLemmas.{KeepsRules-from}
use Rattle.plan_moves.specs.declared.change.Change.{Change}
use Rattle.certificate_lines.specs.declared.line.Bound.{Bound}
use Rattle.certificate_lines.specs.declared.line.Bound.TheVariants.{NoPlan, Least}
use Rattle.certificate_tree.specs.Ranges.{IsInRange}
use Rattle.certificate_tree.specs.Validity.{IsValid, BoundsPlans}
use Rattle.certificate_tree.specs.Laws.{ValidBoundsPlans}
use Rattle.branch_search.specs.declared.tree_end.TreeEnd.{TreeEnd}
use Rattle.branch_search.specs.Best.{IsFeasiblePlan, IsBestOver, IsNoWorse}
use Rattle.branch_search.specs.Searched.{IsSearched}
use Rattle.plan_changes.specs.Changes.{changes_of, change_base, change_value, BoundsCountChanges, OldStartsAreNoChanges}
use Rattle.local_search.specs.Ends.{end_of, IsDescentFrom}
use Rattle.branch_search.specs.Turns.{AreEnough}
use Rattle.fewest_changes.specs.Openings.{IsKeptOpening}
use Rattle.fewest_changes.specs.Incumbents.{IsBackFrom, IsIncumbent}
use Rattle.fewest_changes.specs.Incumbents.IsIncumbent.{opens, descends, nothing}
use Rattle.fewest_changes.specs.Repaired.{IsRepairTree, IsRepairOf, ComesTo, IsMadeRepair, IsBackOf}
use Rattle.fewest_changes.proofs.RepairLemmas.{fewer_le, found_tree, none_never, repaired, no_tree, none_given, unmet}
use Rattle.fewest_changes.proofs.RepairLemmas.{nothing_spent, nothing_left}

-- ---- an old plan that is feasible

-- the opening is the old plan
opening_is : (inst : Tables) (old : List (Option ℕ)) (opening : List ℕ) → length old ≡ length inst.names
    → KeepsRules inst old → IsKeptOpening inst old opening → map Some opening ≡ old
opening_is inst old opening each keeps is =
    ext_get_or None (map Some opening) old (length-map opening Some ∙ is.each ∙ sym each)
    (λ i low.
    let here : i < length opening = omega (arith, low, length-map opening Some) in
    let number : i < length inst.names = omega (arith, here, is.each) in
    let start = keeps.starts i number in
    let same : get_or opening i 0 ≡ start.start =
    (is.at i number).kept start.start (record { given = start.given; allowed = start.allowed }) in
    start_of-starts opening i here ∙ ap Some same ∙ sym start.given)

-- the search was given it
given_opening : (inst : Tables) (old : List (Option ℕ)) (turns : ℕ) (opening : List ℕ) (given : Option (List ℕ))
    → IsFeasible inst (map Some opening) → IsIncumbent inst old turns opening given → given ≡ Some opening
given_opening inst old turns opening given feasible (opens f) = refl
given_opening inst old turns opening given feasible (descends changes plan not d f back) = absurd (not feasible)
given_opening inst old turns opening given feasible (nothing changes not d f) = absurd (not feasible)

-- so the plan that is answered has no change
pub unchanged_plan : (inst : Tables) (old : List (Option ℕ)) (turns : ℕ) (opening : List ℕ) (given : Option (List ℕ))
    (plan : List ℕ)
    → OldStartsAreNoChanges → IsKeptOpening inst old opening → IsIncumbent inst old turns opening given
    → IsNoWorse (change_value old) inst given plan → length old ≡ length inst.names → IsFeasible inst old
    → changes_of old plan ≡ 0
unchanged_plan inst old turns opening given plan law is is_given no_worse each feasible =
    let same : map Some opening ≡ old = opening_is inst old opening each (KeepsRules-from inst old feasible) is in
    let here : IsFeasible inst (map Some opening) = subst (IsFeasible inst) (sym same) feasible in
    let fewer = fewer_le old inst plan opening
    (no_worse.at_most opening (given_opening inst old turns opening given here is_given)) in
    let none : changes_of old opening ≡ 0 =
    subst (λ (o : List (Option ℕ)). changes_of o opening ≡ 0) same (law opening) in
    omega (arith, fewer, none)

-- ---- where nothing was found

-- the opening isn't feasible, nor is the end of a descent
pub record IsStuck (inst : Tables) (turns : ℕ) (opening : List ℕ) : Type 0 where
  pub opening_infeasible : IsFeasible inst (map Some opening) → ⊥
  pub changes : List Change
  pub descent : IsDescentFrom inst turns opening changes
  pub end_infeasible : IsFeasible inst (map Some (end_of opening changes)) → ⊥

stuck : (inst : Tables) (old : List (Option ℕ)) (turns : ℕ) (opening : List ℕ) (given : Option (List ℕ))
    → IsIncumbent inst old turns opening given → given ≡ None → IsStuck inst turns opening
stuck inst old turns opening given (opens f) e = absurd (apart e)
  where
    apart : Some opening ≡ None → ⊥
    apart h = cc
stuck inst old turns opening given (descends changes plan not d f back) e = absurd (apart e)
  where
    apart : Some plan ≡ None → ⊥
    apart h = cc
stuck inst old turns opening given (nothing changes not d f) e = record {
  opening_infeasible = not;
  changes = changes;
  descent = d;
  end_infeasible = f;
}

-- ---- the whole

-- what `search` says of its answer
pub record AreFound (inst : Tables) (old : List (Option ℕ)) (turns : ℕ) (given : Option (List ℕ)) (answer : TreeEnd)
    : Type 0 where
  pub searched : IsSearched (change_base old) (change_value old) inst None given turns answer
  pub valid : IsValid (change_base old) (change_value old) inst answer.cert
  pub in_range : IsInRange inst answer.cert
  pub nodes : length answer.cert.nodes ≤ 2 * turns + 1
  pub enough : AreEnough inst turns → answer.unfinished ≡ false

-- the laws that are used
pub record Laws (old : List (Option ℕ)) : Type 0 where
  pub counts : BoundsCountChanges
  pub unchanged : OldStartsAreNoChanges
  pub bounds : ValidBoundsPlans (change_base old) (change_value old)

module _ (inst : Tables) (fit : IsFitting inst) (old : List (Option ℕ)) (turns : ℕ) (opening : List ℕ)
    (is_opening : IsKeptOpening inst old opening) (given : Option (List ℕ))
    (is_given : IsIncumbent inst old turns opening given) (answer : TreeEnd)
    (are : AreFound inst old turns given answer) (laws : Laws old) where
  bounded : BoundsPlans (change_value old) inst answer.cert.bound
  bounded = laws.bounds inst answer.cert fit are.in_range are.valid

  abbrev made_of : (plan : Option (List ℕ)) → IsRepairTree inst old turns given plan answer.cert
      → IsRepairOf inst old turns plan answer.cert
  made_of plan tree = record {
    opening = opening;
    opens = is_opening;
    given = given;
    is_given = is_given;
    found = tree;
  }

  at_some : (best plan : List ℕ) → answer.best ≡ Some best → IsBackFrom inst old best plan
      → (made : IsRepairOf inst old turns (Some plan) answer.cert) × ComesTo inst old turns (Some plan)
      answer.cert.bound answer.cert made
  at_some best plan is back = (made_of (Some plan) tree, comes answer.cert.bound refl)
    where
      tree : IsRepairTree inst old turns given (Some plan) answer.cert
      tree = found_tree inst old turns given answer are.searched best plan is back bounded

      comes : (b : Bound) → answer.cert.bound ≡ b
          → ComesTo inst old turns (Some plan) b answer.cert (made_of (Some plan) tree)
      comes (Least b) e =
          repaired inst old turns given answer are.searched best plan is back bounded laws.counts b e
          (unchanged_plan inst old turns opening given plan laws.unchanged is_opening is_given tree.no_worse) are.enough
      comes NoPlan e = none_never inst old turns given answer are.searched best plan is back bounded e

  at_none : answer.best ≡ None
      → (made : IsRepairOf inst old turns None answer.cert) × ComesTo inst old turns None answer.cert.bound answer.cert
      made
  at_none is = (made_of None tree, comes answer.cert.bound refl)
    where
      tree : IsRepairTree inst old turns given None answer.cert
      tree = no_tree inst old turns given answer are.searched is

      comes : (b : Bound) → answer.cert.bound ≡ b
          → ComesTo inst old turns None b answer.cert (made_of None tree)
      comes (Least b) e =
          let s = stuck inst old turns opening given is_given
          (none_given inst old turns given answer are.searched is) in
          record {
            bound_is = e;
            spent = (nothing_spent inst old turns given answer are.searched is b e).0;
            too_few = λ enough. unmet inst old turns given answer are.searched is b e (are.enough enough);
            left = nothing_left inst old turns given answer are.searched is b e;
            opening_infeasible = s.opening_infeasible;
            changes = s.changes;
            descent = s.descent;
            end_infeasible = s.end_infeasible;
          }
      comes NoPlan e = tt

  both : (best plan : Option (List ℕ)) → answer.best ≡ best → IsBackOf inst old best plan
      → (made : IsRepairOf inst old turns plan answer.cert) × ComesTo inst old turns plan answer.cert.bound answer.cert
      made
  both None None is back = at_none is
  both (Some best) (Some plan) is back = at_some best plan is back
  both None (Some plan) is back = absurd back
  both (Some best) None is back = absurd back

  pub is_made : (plan : Option (List ℕ)) → IsBackOf inst old answer.best plan
      → IsMadeRepair inst old turns (record { certificate = answer.cert; plan = plan })
  is_made plan back =
      let m = both answer.best plan refl back in
      record {
        made = m.0;
        comes_to = m.1;
        valid = are.valid;
        in_range = are.in_range;
        nodes = are.nodes;
      }

-- ---- what the search says

-- the same for the old starts that the goal was made of, and for the plan that was lent
pub found_for : (inst : Tables) (old goal : List (Option ℕ)) (turns : ℕ) (given lent : Option (List ℕ)) (answer :
    TreeEnd)
    → goal ≡ old → lent ≡ given
    → IsSearched (change_base goal) (change_value goal) inst None lent turns answer
    → IsValid (change_base goal) (change_value goal) inst answer.cert → IsInRange inst answer.cert
    → length answer.cert.nodes ≤ 2 * turns + 1 → (AreEnough inst turns → answer.unfinished ≡ false)
    → AreFound inst old turns given answer
found_for inst old goal turns given lent answer same also searched valid in_range nodes enough =
    subst (λ (o : List (Option ℕ)). AreFound inst o turns given answer) same
    (subst (λ (l : Option (List ℕ)). AreFound inst goal turns l answer) also (record {
      searched = searched;
      valid = valid;
      in_range = in_range;
      nodes = nodes;
      enough = enough;
    }))

-- the best plan is feasible
pub best_feasible : (inst : Tables) (old : List (Option ℕ)) (given best : Option (List ℕ))
    → IsBestOver (change_value old) inst given best → IfSome best (IsFeasiblePlan inst)
best_feasible inst old given None over = tt
best_feasible inst old given (Some plan) over = over.feasible
