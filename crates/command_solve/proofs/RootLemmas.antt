-- The bound of a search is at least the worth of its list over all starts.
use Rattle.std.proofs.Common.{◌≡◌, ℕ, zero, suc, ◌≤◌, inl, inr, sym, ap, subst, arith, ℤ, ◌≤ℤ◌, List, []}
use Rattle.std.proofs.Common.{◌∷◌, ◌++◌, length, get_or, map, Option, Some, All}
use Rattle.std.proofs.lemmas.List.Elements.{All-head}
use Rattle.instance_model.specs.Tables.{Tables}
use Rattle.instance_model.specs.Fitting.{IsFitting}
use Rattle.instance_model.specs.Rules.{IsFeasible}
use Rattle.instance_model.proofs.EntryLemmas.{is_allowed_facts}
use Rattle.lagrange_bound.specs.Prices.{PriceList, IsPriceList}
use Rattle.lagrange_bound.specs.Goals.{risk_base, risk_value}
use Rattle.lagrange_bound.specs.Boxes.{IsPlanIn}
use Rattle.lagrange_bound.specs.Worth.{WorthBoundsPlans}
use Rattle.certificate_lines.specs.declared.line.Bound.TheVariants.{Least}
use Rattle.certificate_tree.specs.declared.node.Node.{Node}
use Rattle.certificate_tree.specs.declared.node.Node.TheVariants.{Cost}
use Rattle.certificate_tree.specs.declared.certificate.Certificate.{Certificate}
use Rattle.certificate_tree.specs.Trees.{Tree, leaf, split, leaves, below, above, root_box}
use Rattle.certificate_tree.specs.Holding.{Worths, list_at, worth_by}
use Rattle.certificate_tree.proofs.RootLemmas.{root_at}
use Rattle.certificate_tree.proofs.Refuting.{feasible_allowed}
use Rattle.branch_search.specs.Splits.{split_boxes}
use Rattle.branch_search.specs.Best.{IsBestOver, IsNumber}
use Rattle.branch_search.specs.Searched.{IsSplitBox, IsCostLeaf, IsBounding, IsCostOf, IsAmong, IsLeastOf, IsSearched}
use Rattle.price_ladder.specs.Raised.{root_worth}
use Rattle.branch_search.specs.declared.tree_end.TreeEnd.{TreeEnd}

-- every feasible plan is in the box of all starts
root_plan : (inst : Tables) (starts : List ℕ) → length starts ≡ length inst.names → IsFeasible inst (map Some starts)
    → IsPlanIn inst (root_box inst) starts
root_plan inst starts each feasible = record {
  each = each;
  feasible = feasible;
  from = λ i h. rw (root_at inst i h)
      ((is_allowed_facts inst i (get_or starts i 0) (feasible_allowed inst starts each feasible i h)).0);
  to = λ i h. rw (root_at inst i h)
      ((is_allowed_facts inst i (get_or starts i 0) (feasible_allowed inst starts each feasible i h)).1);
}

module _ (inst : Tables) (prices : PriceList) (given best : Option (List ℕ)) (cert : Certificate)
    (one : cert.lists ≡ prices ∷ []) (b : ℤ) (bound : cert.bound ≡ Least b) where
  abbrev worths : Worths
  worths = worth_by risk_base inst cert.lists

  -- the worth of the box of all starts by the only list
  by_one : worths (root_box inst) 1 ≡ root_worth inst prices
  unfolding list_at
  by_one = ap (λ (lists : List PriceList). worth_by risk_base inst lists (root_box inst) 1) one

  first : 1 ≤ length cert.lists
  first = omega (arith, ap (λ (lists : List PriceList). length lists) one)

  -- the one leaf is a `cost` leaf, which names a list of greatest worth
  under_cost : (n : Node) (list : ℕ) → n ≡ Cost list
      → IsBounding risk_value inst (length cert.lists) worths best (root_box inst) n
      → worths (root_box inst) list ≡ b → root_worth inst prices ≤ℤ b
  under_cost n list is bounding worth =
      let here : IsCostLeaf risk_value inst (length cert.lists) worths best (root_box inst) list =
      subst (IsBounding risk_value inst (length cert.lists) worths best (root_box inst)) is bounding in
      rw (sym by_one, sym worth) (here.list.greatest 1 first)

  -- the bound is the value of the best plan
  under_best : WorthBoundsPlans risk_base risk_value → IsFitting inst → IsPriceList inst prices
      → IsBestOver risk_value inst given best → (plan : List ℕ) → best ≡ Some plan → risk_value inst plan ≡ b
      → root_worth inst prices ≤ℤ b
  under_best law fit range over plan is value =
      let best_is = subst (IsBestOver risk_value inst given) is over in
      subst (λ (z : ℤ). root_worth inst prices ≤ℤ z) value
      (law inst prices (root_box inst) plan fit range
      (root_plan inst plan best_is.feasible.each best_is.feasible.feasible))

  only_leaf : WorthBoundsPlans risk_base risk_value → IsFitting inst → IsPriceList inst prices
      → IsBestOver risk_value inst given best → (n : Node)
      → IsBounding risk_value inst (length cert.lists) worths best (root_box inst) n
      → IsAmong risk_value inst worths best ((record { box = root_box inst; node = n }) ∷ []) b
      → root_worth inst prices ≤ℤ b
  only_leaf law fit range over n bounding (inl (plan, is, value)) = under_best law fit range over plan is value
  only_leaf law fit range over n bounding (inr (zero, x, low, is, cost)) =
      let here = subst (IsCostOf worths b) (sym is) cost in
      under_cost n here.list here.node bounding here.worth
  only_leaf law fit range over n bounding (inr (suc k, x, low, is, cost)) = absurd (omega (arith, low))

  tree_above : WorthBoundsPlans risk_base risk_value → IsFitting inst → IsPriceList inst prices
      → IsBestOver risk_value inst given best → (t : Tree)
      → All (IsSplitBox risk_value inst (length cert.lists) worths given (IsNumber cert.bound))
      (split_boxes (root_box inst) t)
      → All (λ leaf. IsBounding risk_value inst (length cert.lists) worths best leaf.box leaf.node)
      (leaves (root_box inst) t)
      → IsLeastOf (IsAmong risk_value inst worths best (leaves (root_box inst) t)) cert.bound
      → root_worth inst prices ≤ℤ b
  tree_above law fit range over (leaf n) splits bounding least =
      only_leaf law fit range over n
      (All-head (λ leaf. IsBounding risk_value inst (length cert.lists) worths best leaf.box leaf.node)
      (record { box = root_box inst; node = n }) [] bounding)
      ((subst (IsLeastOf (IsAmong risk_value inst worths best
      ((record { box = root_box inst; node = n }) ∷ []))) bound least).0)
  tree_above law fit range over (split i m l r) splits bounding least =
      let here = All-head (IsSplitBox risk_value inst (length cert.lists) worths given (IsNumber cert.bound))
      (root_box inst)
      (split_boxes (below (root_box inst) i m) l ++ split_boxes (above (root_box inst) i m) r) splits in
      rw (sym by_one) (here.at_most 1 b first bound)

pub above_root : (inst : Tables) (prices : PriceList) (given : Option (List ℕ)) (turns : ℕ) (answer : TreeEnd)
    → WorthBoundsPlans risk_base risk_value → IsFitting inst → IsPriceList inst prices
    → IsSearched risk_base risk_value inst (Some prices) given turns answer → (b : ℤ) → answer.cert.bound ≡ Least b
    → root_worth inst prices ≤ℤ b
above_root inst prices given turns answer law fit range searched b bound =
    tree_above inst prices given answer.best answer.cert searched.lists b bound law fit range searched.by.best
    searched.by.tree searched.splits searched.by.bounding searched.by.bound
