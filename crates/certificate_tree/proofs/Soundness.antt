-- A proved claim bounds every feasible plan, and so does a valid certificate.
use Rattle.std.proofs.Common.{◌≡◌, ℕ, zero, suc, ◌≤◌, sym, subst, arith, ℤ, ◌≤ℤ◌, List, length}
use Rattle.std.proofs.Common.{get_or, map, Some, All}
use Rattle.std.specs.List.{Any}
use Rattle.fixed_num.proofs.SignedLemmas.{signed_arith}
use Rattle.instance_model.specs.Tables.{Tables}
use Rattle.instance_model.specs.Fitting.{IsFitting}
use Rattle.instance_model.specs.Rules.{IsFeasible}
use Rattle.instance_model.proofs.EntryLemmas.{is_allowed_facts}
use Rattle.lagrange_bound.specs.declared.span.Span.{Span}
use Rattle.lagrange_bound.specs.Prices.{PriceList, IsPriceList, zero_list}
use Rattle.lagrange_bound.specs.Goals.{Bases, PlanValue}
use Rattle.lagrange_bound.specs.Boxes.{span_of, IsBox, HasStarts, IsPlanIn}
use Rattle.lagrange_bound.specs.Worth.{WorthBoundsPlans}
use Rattle.lagrange_bound.proofs.PriceLemmas.{zero_in_range}
use Rattle.certificate_lines.specs.declared.line.Bound.{Bound}
use Rattle.certificate_lines.specs.declared.line.Bound.TheVariants.{NoPlan, Least}
use Rattle.certificate_tree.specs.declared.node.Node.{Node}
use Rattle.certificate_tree.specs.declared.node.Node.TheVariants.{Split, Cost, Point, Band, Excl, Empty}
use Rattle.certificate_tree.specs.Trees.{leaves, root_box, AreStartsIn}
use Rattle.certificate_tree.specs.Ranges.{IsLeafInRange}
use Rattle.certificate_tree.specs.Holding.{Worths, IsAtLeast, list_at, LeafHolds}
use Rattle.certificate_tree.specs.Validity.{claim_of, ClaimLeafHolds, BoundBoxes}
use Rattle.certificate_tree.specs.Laws.{ValidBoundsPlans, ProvedBoundsPlans, ListsBoundBoxes, TablesBoundBoxes}
use Rattle.certificate_tree.proofs.RootLemmas.{root_is_box}
use Rattle.certificate_tree.proofs.StartLemmas.{has_start_from}
use Rattle.certificate_tree.proofs.Refuting.{band_refutes, excl_refutes, start_in, single_plan, feasible_allowed}
use Rattle.certificate_tree.proofs.LeafLemmas.{IsLeafOver, leaves_in_range, leaves_hold_starts, root_holds_starts}
use Rattle.certificate_tree.proofs.LeafLemmas.{empty_refutes}

at_most_trans : (a b c : ℤ) → a ≤ℤ b → b ≤ℤ c → a ≤ℤ c
at_most_trans a b c h k = omega (arith, signed_arith)

at_least_more : (bound : Bound) (x y : ℤ) → IsAtLeast bound x → x ≤ℤ y → IsAtLeast bound y
at_least_more NoPlan x y h l = absurd h
at_least_more (Least b) x y h l = at_most_trans b x y h l

-- ---- the lists are in range
pub list_in_range : (inst : Tables) (lists : List PriceList) (j : ℕ) → j ≤ length lists → All (IsPriceList inst) lists
    → IsPriceList inst (list_at inst lists j)
unfolding list_at
list_in_range inst lists zero l h = zero_in_range inst
list_in_range inst lists (suc j) l h = h j (zero_list inst) (omega (arith, l))

-- ---- worths that bound the plans of boxes
pub lists_bound_boxes : (base : Bases) (value : PlanValue) → WorthBoundsPlans base value → ListsBoundBoxes base value
lists_bound_boxes base value law inst lists f r box starts j l b p =
    law inst (list_at inst lists j) box starts f (list_in_range inst lists j l r) p

plan_has_starts : (inst : Tables) (box : List Span) (starts : List ℕ) → IsPlanIn inst box starts → HasStarts inst box
plan_has_starts inst box starts p i l =
    has_start_from inst i (get_or starts i 0) (span_of box i) (start_in inst box starts i p l)

pub tables_bound_boxes : TablesBoundBoxes
tables_bound_boxes value inst lists worths tables t b box starts j l h p =
    let small : j ≤ lists = omega (arith, l, t.each) in
    subst (λ (z : ℤ). z ≤ℤ value inst starts) (sym (t.same box j small h (plan_has_starts inst box starts p)))
    (b box starts j small h p)

-- ---- a leaf
leaf_sound : (value : PlanValue) (inst : Tables) (bound : Bound) (lists : ℕ) (worths : Worths) (box : List Span)
    (starts : List ℕ) (n : Node) → IsFitting inst → BoundBoxes value inst lists worths → IsBox inst box
    → IsLeafInRange inst lists n → IsPlanIn inst box starts → LeafHolds value inst bound worths box n
    → IsAtLeast bound (value inst starts)
leaf_sound value inst bound lists worths box starts (Split i m) f b q k p h = absurd h
leaf_sound value inst bound lists worths box starts (Cost j) f b q k p h =
    at_least_more bound (worths box j) (value inst starts) h.worth (b box starts j k q p)
leaf_sound value inst bound lists worths box starts Point f b q k p h =
    let e = single_plan inst box starts q.each p h.single in
    subst (λ (xs : List ℕ). IsAtLeast bound (value inst xs)) e
    (h.bounded (subst (λ (xs : List ℕ). IsFeasible inst (map Some xs)) (sym e) p.feasible))
leaf_sound value inst bound lists worths box starts (Band c t side) f b q k p h =
    absurd (band_refutes inst box starts c t side p k.0 k.1 k.2 h)
leaf_sound value inst bound lists worths box starts (Excl e) f b q k p h =
    absurd (excl_refutes inst box starts e f p k h)
leaf_sound value inst bound lists worths box starts (Empty i) f b q k p h =
    absurd (empty_refutes inst box i k h starts p)

-- ---- a tree: every feasible plan lies in the box of all starts, and so in that of a leaf
root_holds_plan : (inst : Tables) (starts : List ℕ) → length starts ≡ length inst.names
    → IsFeasible inst (map Some starts) → AreStartsIn (root_box inst) starts
root_holds_plan inst starts each feasible =
    root_holds_starts inst starts each
    (λ i h. let w = is_allowed_facts inst i (get_or starts i 0) (feasible_allowed inst starts each feasible i h) in
    (w.0, w.1))

plan_in : (inst : Tables) (box : List Span) (starts : List ℕ) → IsBox inst box → length starts ≡ length inst.names
    → IsFeasible inst (map Some starts) → AreStartsIn box starts → IsPlanIn inst box starts
plan_in inst box starts b each feasible p = record {
  each = each;
  feasible = feasible;
  from = λ i l. p.from i (omega (arith, l, b.each));
  to = λ i l. p.to i (omega (arith, l, b.each));
}

pub proved_bounds_plans : ProvedBoundsPlans
proved_bounds_plans value inst claim f b v starts each feasible =
    at (leaves_hold_starts inst claim.lists (root_box inst) v.tree starts v.of_nodes.in_range
    (root_holds_plan inst starts each feasible))
  where
    at : Any (λ x. AreStartsIn x.box starts) (leaves (root_box inst) v.tree)
        → IsAtLeast claim.bound (value inst starts)
    at (k, x, l, e, p) =
        let over = subst (IsLeafOver inst claim.lists) e (leaves_in_range inst claim.lists (root_box inst) v.tree
        (root_is_box inst f) v.of_nodes.in_range k x l) in
        leaf_sound value inst claim.bound claim.lists claim.worths x.box starts x.node f b over.is_box over.in_range
        (plan_in inst x.box starts over.is_box each feasible p)
        (subst (ClaimLeafHolds value inst claim) e (v.holds k x l))

pub valid_bounds_plans : (base : Bases) (value : PlanValue) → WorthBoundsPlans base value → ValidBoundsPlans base value
valid_bounds_plans base value law inst cert f r v =
    proved_bounds_plans value inst (claim_of base inst cert) f
    (lists_bound_boxes base value law inst cert.lists f r.lists) v
