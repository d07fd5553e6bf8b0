-- Trees of more price lists, bounds that are cut, and how many leaves a tree has.
use Rattle.std.proofs.Common.{◌≡◌, inl, inr, ℕ, ◌+◌, ◌*◌, ◌≤◌, ◌^◌, refl, ap, subst, arith}
use Rattle.std.proofs.Common.{ℤ, pos, ◌-ℤ◌, ◌≤ℤ◌, unsigned_abs, List, length, length-append, get_or}
use Rattle.std.proofs.Common.{map}
use Rattle.std.specs.Int.{int_min}
use Rattle.fixed_num.proofs.SignedLemmas.{signed_arith}
use Rattle.instance_model.specs.Tables.{Tables}
use Rattle.lagrange_bound.specs.declared.span.Span.{Span}
use Rattle.lagrange_bound.specs.Goals.{PlanValue}
use Rattle.certificate_lines.specs.declared.line.Bound.{Bound}
use Rattle.certificate_lines.specs.declared.line.Bound.TheVariants.{NoPlan, Least}
use Rattle.certificate_tree.specs.declared.node.Node.{Node}
use Rattle.certificate_tree.specs.declared.node.Node.TheVariants.{Split, Cost, Point, Band, Excl, Empty}
use Rattle.certificate_tree.specs.Trees.{Tree, leaf, split, pre_order, leaves, root_box, below, above}
use Rattle.certificate_tree.specs.Ranges.{AreNodesOf, IsLeafInRange, IsTreeInRange}
use Rattle.certificate_tree.specs.Holding.{Worths, IsAtLeast, LeafHolds}
use Rattle.certificate_tree.specs.Validity.{Claim, IsProved}
use Rattle.branch_search.specs.Best.{Reaches}
use Rattle.branch_search.specs.Splits.{split_count}
use Rattle.branch_search.proofs.SplitLemmas.{given_nodes}
use Rattle.band_rebound.specs.Rebinding.{IsNoLower, LeafCounts, CountsLeaf, Counts}
use Rattle.refined_search.specs.Raising.{most_bound, within_range}

-- ---- a tree in range for some lists is in range for more

leaf_wider : (inst : Tables) (lists more : ℕ) (n : Node) → lists ≤ more → IsLeafInRange inst lists n
    → IsLeafInRange inst more n
leaf_wider inst lists more (Split i m) l h = h
leaf_wider inst lists more (Cost j) l h = omega (arith, l, h)
leaf_wider inst lists more Point l h = h
leaf_wider inst lists more (Band c t side) l h = h
leaf_wider inst lists more (Excl e) l h = h
leaf_wider inst lists more (Empty i) l h = h

tree_wider : (inst : Tables) (lists more : ℕ) (box : List Span) (t : Tree) → lists ≤ more
    → IsTreeInRange inst lists box t → IsTreeInRange inst more box t
tree_wider inst lists more box (leaf n) l h = leaf_wider inst lists more n l h
tree_wider inst lists more box (split i m a b) l h =
    (h.0, tree_wider inst lists more (below box i m) a l h.1, tree_wider inst lists more (above box i m) b l h.2)

pub nodes_wider : (inst : Tables) (lists more : ℕ) (box : List Span) (t : Tree) (nodes : List Node) → lists ≤ more
    → AreNodesOf inst lists box t nodes → AreNodesOf inst more box t nodes
nodes_wider inst lists more box t nodes l h =
    record { order = h.order; in_range = tree_wider inst lists more box t l h.in_range }

-- ---- a bound that is cut

min_at_most : (b z : ℤ) → b ≤ℤ z → int_min b most_bound ≤ℤ z
min_at_most b z l = omega (arith, signed_arith, l)

pub min_within : (b : ℤ) → (pos 0 -ℤ pos (10 ^ 36)) ≤ℤ b → unsigned_abs (int_min b most_bound) ≤ 10 ^ 36
min_within b l = omega (arith, signed_arith, l)

pub min_small : (b : ℤ) → b ≤ℤ most_bound → int_min b most_bound ≡ b
min_small b l = omega (arith, signed_arith, l)

pub min_reaches : (a b : ℤ) → a ≤ℤ b → int_min a most_bound ≤ℤ int_min b most_bound
min_reaches a b l = omega (arith, signed_arith, l)

cut_at_least : (bound : Bound) (z : ℤ) → IsAtLeast bound z → IsAtLeast (within_range bound) z
cut_at_least NoPlan z h = h
cut_at_least (Least b) z h = min_at_most b z h

cut_leaf : (value : PlanValue) (inst : Tables) (bound : Bound) (worths : Worths) (box : List Span) (n : Node)
    → LeafHolds value inst bound worths box n → LeafHolds value inst (within_range bound) worths box n
cut_leaf value inst bound worths box (Split i m) h = h
cut_leaf value inst bound worths box (Cost j) h =
    record { starts = h.starts; worth = cut_at_least bound (worths box j) h.worth }
cut_leaf value inst bound worths box Point h =
    record { single = h.single; bounded = λ f. cut_at_least bound (value inst (map (λ span. span.from) box)) (h.bounded f) }
cut_leaf value inst bound worths box (Band c t side) h = h
cut_leaf value inst bound worths box (Excl e) h = h
cut_leaf value inst bound worths box (Empty i) h = h

-- what is proved stays so with the bound that is cut
pub cut_proved : (value : PlanValue) (inst : Tables) (claim : Claim) → IsProved value inst claim
    → IsProved value inst (record claim { bound = within_range claim.bound })
cut_proved value inst claim h = record {
  tree = h.tree;
  of_nodes = h.of_nodes;
  holds = λ k d l. let x = get_or (leaves (root_box inst) h.tree) k d in
      cut_leaf value inst claim.bound claim.worths x.box x.node (h.holds k d l);
}

pub cut_reaches : (bound : Bound) (z : ℤ) → Reaches bound z → Reaches (within_range bound) (int_min z most_bound)
cut_reaches NoPlan z h = tt
cut_reaches (Least b) z h = min_reaches z b h

pub cut_no_lower : (old bound : Bound) → ((b : ℤ) → old ≡ Least b → b ≤ℤ most_bound) → IsNoLower old bound
    → IsNoLower old (within_range bound)
cut_no_lower old NoPlan small h = tt
cut_no_lower NoPlan (Least b) small h = absurd h
cut_no_lower (Least a) (Least b) small h =
    subst (λ (z : ℤ). z ≤ℤ int_min b most_bound) (min_small a (small a refl)) (min_reaches a b h)

-- ---- leaves

one_leaf : (a b : Node) (counts : LeafCounts) → CountsLeaf a b counts → counts.kept + counts.changed ≡ 1
one_leaf a b counts (inl (e, f)) = ap (λ (c : LeafCounts). c.kept + c.changed) f
one_leaf a b counts (inr (e, f)) = ap (λ (c : LeafCounts). c.kept + c.changed) f

-- each leaf is counted
counted_leaves : (old new : Tree) (counts : LeafCounts) → Counts old new counts
    → 2 * (counts.kept + counts.changed) ≡ length (pre_order old) + 1
counted_leaves (leaf a) (leaf b) counts h = let e = one_leaf a b counts h in omega (arith, e)
counted_leaves (leaf a) (split j n k q) counts h = absurd h
counted_leaves (split i m l r) (leaf b) counts h = absurd h
counted_leaves (split i m l r) (split j n k q) counts (left, (right, x, y, e)) =
    let a = counted_leaves l k left x in
    let b = counted_leaves r q right y in
    let kept : counts.kept ≡ left.kept + right.kept = ap (λ (c : LeafCounts). c.kept) e in
    let changed : counts.changed ≡ left.changed + right.changed = ap (λ (c : LeafCounts). c.changed) e in
    omega (arith, a, b, kept, changed, length-append (pre_order l) (pre_order r))

pub leaves_counted : (inst : Tables) (lists : ℕ) (box : List Span) (old new : Tree) (nodes : List Node) (kept changed : ℕ)
    → AreNodesOf inst lists box old nodes → Counts old new (record { kept = kept; changed = changed })
    → kept + changed + split_count nodes ≡ length nodes
leaves_counted inst lists box old new nodes kept changed are h =
    let each = counted_leaves old new (record { kept = kept; changed = changed }) h in
    let same : length (pre_order old) ≡ length nodes = ap length are.order in
    let two = given_nodes inst lists box old nodes are in
    omega (arith, each, same, two)
