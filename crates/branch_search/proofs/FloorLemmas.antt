-- The bound of a search is none, or at least each worth of the box of all starts.
use Rattle.std.proofs.Common.{◌≡◌, ℕ, ◌≤◌, inl, inr, subst, ℤ, ◌≤ℤ◌, List, [], length, get_or, map, All}
use Rattle.std.proofs.Common.{Option, Some}
use Rattle.std.proofs.lemmas.List.Elements.{All-nil, All-cons, All-append}
use Rattle.instance_model.specs.Tables.{Tables}
use Rattle.instance_model.specs.Fitting.{IsFitting}
use Rattle.instance_model.specs.Rules.{IsFeasible}
use Rattle.instance_model.proofs.EntryLemmas.{is_allowed_facts}
use Rattle.lagrange_bound.specs.declared.span.Span.{Span}
use Rattle.lagrange_bound.specs.Goals.{PlanValue}
use Rattle.lagrange_bound.specs.Boxes.{IsPlanIn}
use Rattle.certificate_lines.specs.declared.line.Bound.{Bound}
use Rattle.certificate_lines.specs.declared.line.Bound.TheVariants.{NoPlan, Least}
use Rattle.certificate_tree.specs.Trees.{Tree, leaf, split, Leaf, leaves, root_box, below, above}
use Rattle.certificate_tree.specs.Ranges.{IsTreeInRange}
use Rattle.certificate_tree.specs.Holding.{Worths}
use Rattle.certificate_tree.specs.Validity.{BoundBoxes}
use Rattle.certificate_tree.proofs.RootLemmas.{root_is_box}
use Rattle.certificate_tree.proofs.LeafLemmas.{IsLeafOver, leaves_in_range, root_holds_starts}
use Rattle.certificate_tree.proofs.Refuting.{feasible_allowed}
use Rattle.branch_search.specs.declared.search_end.SearchEnd.{SearchEnd}
use Rattle.branch_search.specs.Best.{IsBestOver, Reaches}
use Rattle.branch_search.specs.Searched.{IsCostLeaf, IsBounding, IsAmong, IsLeastOf, IsSearchedBy}
use Rattle.branch_search.proofs.WorthLemmas.{IsPart, GrowInParts, itself_is_part, part_of_part, below_is_part}
use Rattle.branch_search.proofs.WorthLemmas.{above_is_part}
use Rattle.branch_search.proofs.LeafLemmas.{at_most_trans}
use Rattle.branch_search.proofs.SettleLemmas.{plan_within}

-- the box of a leaf is a part of that of its tree
leaves_are_parts : (inst : Tables) (lists : ℕ) (box : List Span) (t : Tree) → IsTreeInRange inst lists box t
    → All (λ x. IsPart x.box box) (leaves box t)
leaves_are_parts inst lists box (leaf n) r = All-cons (λ (x : Leaf). IsPart x.box box) (record { box = box; node = n })
    [] (itself_is_part box) (All-nil (λ (x : Leaf). IsPart x.box box))
leaves_are_parts inst lists box (split i m l x) r =
    All-append (λ (x : Leaf). IsPart x.box box) (leaves (below box i m) l) (leaves (above box i m) x)
    (λ k d n. part_of_part (get_or (leaves (below box i m) l) k d).box (below box i m) box
    (leaves_are_parts inst lists (below box i m) l r.1 k d n) (below_is_part box i m r.0))
    (λ k d n. part_of_part (get_or (leaves (above box i m) x) k d).box (above box i m) box
    (leaves_are_parts inst lists (above box i m) x r.2 k d n) (above_is_part box i m r.0))

root_holds_plan : (inst : Tables) (plan : List ℕ) → IsFitting inst → length plan ≡ length inst.names
    → IsFeasible inst (map Some plan) → IsPlanIn inst (root_box inst) plan
root_holds_plan inst plan fits each feasible = plan_within inst (root_box inst) plan (root_is_box inst fits)
    (root_holds_starts inst plan each (λ i l. let w = is_allowed_facts inst i (get_or plan i 0)
    (feasible_allowed inst plan each feasible i l) in (w.0, w.1))) feasible

pub root_floor : (value : PlanValue) (inst : Tables) (lists : ℕ) (worths : Worths) (incumbent : Option (List ℕ))
    (before turns : ℕ) (answer : SearchEnd) → IsFitting inst → BoundBoxes value inst lists worths
    → GrowInParts inst lists worths → IsSearchedBy value inst lists worths incumbent before turns answer
    → (j : ℕ) → j ≤ lists → Reaches answer.bound (worths (root_box inst) j)
root_floor value inst lists worths incumbent before turns answer fits law grow h j l = at answer.bound h.bound
  where
    under_best : (best : Option (List ℕ)) (plan : List ℕ) → IsBestOver value inst incumbent best → best ≡ Some plan
        → worths (root_box inst) j ≤ℤ value inst plan
    under_best best plan b e =
        let w = subst (IsBestOver value inst incumbent) e b in
        law (root_box inst) plan j l (root_is_box inst fits)
        (root_holds_plan inst plan fits w.feasible.each w.feasible.feasible)

    under_cost : (x : Leaf) (list : ℕ) → IsLeafOver inst lists x → IsPart x.box (root_box inst)
        → IsCostLeaf value inst lists worths answer.best x.box list
        → worths (root_box inst) j ≤ℤ worths x.box list
    under_cost x list over part w = at_most_trans (worths (root_box inst) j) (worths x.box j) (worths x.box list)
        (grow x.box (root_box inst) j l over.is_box w.unrefuted.starts part) (w.list.greatest j l)

    among : (z : ℤ) → IsAmong value inst worths answer.best (leaves (root_box inst) h.tree) z
        → worths (root_box inst) j ≤ℤ z
    among z (inl (plan, e, v)) = subst (λ (y : ℤ). worths (root_box inst) j ≤ℤ y) v
        (under_best answer.best plan h.best e)
    among z (inr (k, x, n, e, c)) = subst (λ (y : ℤ). worths (root_box inst) j ≤ℤ y) c.worth
        (under_cost x c.list
        (subst (IsLeafOver inst lists) e (leaves_in_range inst lists (root_box inst) h.tree (root_is_box inst fits)
        h.of_nodes.in_range k x n))
        (subst (λ (y : Leaf). IsPart y.box (root_box inst)) e (leaves_are_parts inst lists (root_box inst) h.tree
        h.of_nodes.in_range k x n))
        (subst (IsBounding value inst lists worths answer.best x.box) c.node
        (subst (λ (y : Leaf). IsBounding value inst lists worths answer.best y.box y.node) e (h.bounding k x n))))

    at : (bound : Bound) → IsLeastOf (IsAmong value inst worths answer.best (leaves (root_box inst) h.tree)) bound
        → Reaches bound (worths (root_box inst) j)
    at NoPlan w = tt
    at (Least b) w = among b w.0
