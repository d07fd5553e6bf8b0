-- One step of a search: the leaf of least worth is split.
use Rattle.std.proofs.Common.{◌≡◌, ℕ, ◌+◌, ◌<◌, ◌≤◌, inl, inr, sym, ◌∙◌, ap, subst, arith, ℤ, ◌≤ℤ◌, List, ◌∷◌, length, All}
use Rattle.std.proofs.Common.{◌++◌, get_or, Option, Some, None}
use Rattle.std.specs.Prelude.{IsPermutation}
use Rattle.std.proofs.lemmas.List.Elements.{All-contains}
use Rattle.std.proofs.lemmas.List.Sorted.{IsPermutation-append_left}
use Rattle.lagrange_bound.specs.declared.span.Span.{Span}
use Rattle.lagrange_bound.specs.Boxes.{IsBox}
use Rattle.certificate_lines.specs.declared.line.Bound.{Bound}
use Rattle.certificate_lines.specs.declared.line.Bound.TheVariants.{Least}
use Rattle.certificate_tree.specs.declared.node.Node.{Node}
use Rattle.certificate_tree.specs.declared.node.Node.TheVariants.{Split, Cost}
use Rattle.certificate_tree.specs.Trees.{Tree, below, above, IsSplit}
use Rattle.certificate_tree.specs.Holding.{IsAtLeast}
use Rattle.certificate_tree.specs.Validity.{BoundBoxes}
use Rattle.certificate_tree.proofs.RootLemmas.{parts_are_boxes}
use Rattle.branch_search.specs.declared.tree.cell.Cell.{Cell}
use Rattle.branch_search.specs.declared.splitting.settling.Settled.{Settled}
use Rattle.branch_search.specs.Best.{IsShort, IsBestOver}
use Rattle.branch_search.specs.Tasks.{Task, freed, IsBelowGiven}
use Rattle.branch_search.specs.Growing.{node_at, box_at, IsLeafNode, split_cells, split_list}
use Rattle.branch_search.specs.Shapes.{grown}
use Rattle.branch_search.specs.Settled.{IsWaitingBox, IsSettled, IsImprovedIn, IsLeafOf, ArePartsOf}
use Rattle.branch_search.specs.Entries.{with_entry}
use Rattle.branch_search.specs.States.{IsEntry, IsFloor, IsUnder, IsOpened, IsGrown}
use Rattle.branch_search.proofs.CellLemmas.{length_split, at_split, at_other, at_left, at_right, box_before, box_left}
use Rattle.branch_search.proofs.CellLemmas.{box_right, are_boxes_more, cost_is_no_split, Where}
use Rattle.branch_search.proofs.CellLemmas.{where_is}
use Rattle.branch_search.proofs.ShapeLemmas.{shape_more, forks_more}
use Rattle.branch_search.proofs.WorthLemmas.{IsPart, GrowInParts, below_is_part, above_is_part}
use Rattle.branch_search.proofs.LeafLemmas.{at_most_trans, below_at_most, at_most_below, below_is_at_most}
use Rattle.branch_search.proofs.LeafLemmas.{none_is_not_some, some_is, at_least_more, leaf_for, still_settled}
use Rattle.branch_search.proofs.LeafLemmas.{still_best}
use Rattle.branch_search.proofs.EntryLemmas.{all_back, all_with, cost_of_worth, entries_more, popped}
use Rattle.branch_search.proofs.AsideLemmas.{more_wait}
use Rattle.branch_search.proofs.PartLemmas.{continues_grown, waits_after, waited}

-- what a part waits with is at least the worth of the box
pub part_waits : (task : Task) (part box : List Span) (q j : ℕ) → GrowInParts task.inst task.lists task.worths
    → IsBox task.inst part → IsPart part box → q ≤ task.lists → IsWaitingBox task part j
    → task.worths box q ≤ℤ task.worths part j
part_waits task part box q j grow b p l h = at_most_trans (task.worths box q) (task.worths part q)
    (task.worths part j) (grow part box q l b h.unrefuted.starts p) (h.list.greatest q l)

pub waits_at : (task : Task) (best : Option (List ℕ)) (box : List Span) (node : Node) (j : ℕ) → node ≡ Cost j
    → IsSettled task best box node → IsWaitingBox task box j
waits_at task best box node j e h = subst (IsSettled task best box) e h

leaf_of_cost : (node : Node) (j : ℕ) → node ≡ Cost j → IsLeafNode node
leaf_of_cost node j e = subst IsLeafNode (sym e) tt

-- ---- floors
short_floor : (task : Task) (best : Option (List ℕ)) (z : ℤ) → IsShort task.value task.inst best z
    → (plan : List ℕ) → best ≡ Some plan → z ≤ℤ task.value task.inst plan
short_floor task best z h plan e =
    below_is_at_most z (task.value task.inst plan) (subst (λ (o : Option (List ℕ)). IsShort task.value task.inst o z)
    e h)

-- ---- below the plan handed in
below_given : (task : Task) (best : Option (List ℕ)) (box : List Span) (z : ℤ)
    → ((j : ℕ) → j ≤ task.lists → task.worths box j ≤ℤ z) → IsShort task.value task.inst best z
    → IsBestOver task.value task.inst task.incumbent best → IsBelowGiven task box
below_given task None box z h s b j given l e = absurd (none_is_not_some given (sym b ∙ e))
below_given task (Some plan) box z h s b j given l e = at_most_below (task.worths box j) z
    (task.value task.inst given) (h j l)
    (below_at_most z (task.value task.inst plan) (task.value task.inst given) s (b.at_most given e))

-- ---- the step
module _ (task : Task) (may : ℕ → Type 0) (given : Tree) (cells : List Cell) (n i m : ℕ) (left right : Settled)
    (old new : Option (List ℕ)) (z : ℤ) (before rest mid after aside : List (ℤ × ℕ)) (seen splits : ℕ)
    (g : IsGrown task may given cells before aside old seen splits)
    (p : IsPermutation before ((z, n) ∷ rest)) (least : All (λ e. z ≤ℤ e.0) rest)
    (short : IsShort task.value task.inst old z) where
  all_popped : IsPermutation (before ++ aside) ((z, n) ∷ (rest ++ aside))
  all_popped = IsPermutation-append_left aside before ((z, n) ∷ rest) p

  pub entry : IsEntry task cells g.boxes (z, n)
  entry = All-contains (IsEntry task cells g.boxes) (before ++ aside) (z, n) g.waits.sound
      (popped (before ++ aside) (rest ++ aside) (z, n) all_popped)

  pub waiting : IsWaitingBox task (box_at g.boxes n) entry.list
  waiting = waits_at task old (box_at g.boxes n) (node_at cells n) entry.list entry.node (g.settled n entry.within)

  leaf : IsLeafNode (node_at cells n)
  leaf = leaf_of_cost (node_at cells n) entry.list entry.node

  set_aside : All (IsEntry task cells g.boxes) aside
  set_aside = all_back (IsEntry task cells g.boxes) before aside g.waits.sound

  worths_at_most : (j : ℕ) → j ≤ task.lists → task.worths (box_at g.boxes n) j ≤ℤ z
  worths_at_most j l = subst (λ (y : ℤ). task.worths (box_at g.boxes n) j ≤ℤ y) (sym entry.worth)
      (waiting.list.greatest j l)

  module _ (law : BoundBoxes task.value task.inst task.lists task.worths)
      (grow : GrowInParts task.inst task.lists task.worths) (split : IsSplit (box_at g.boxes n) i m)
      (parts : ArePartsOf (freed task) (box_at g.boxes n) i m old new left right)
      (pl : IsPermutation (with_entry left.worth (length cells) rest) mid)
      (pr : IsPermutation (with_entry right.worth (length cells + 1) mid) after) where
    one : IsLeafOf task new (below (box_at g.boxes n) i m) left
    one = leaf_for task new (below (box_at g.boxes n) i m) left parts.left_is

    two : IsLeafOf task new (above (box_at g.boxes n) i m) right
    two = leaf_for task new (above (box_at g.boxes n) i m) right parts.right_is

    improved : IsImprovedIn task.value task.inst (box_at g.boxes n) old new
    improved = parts.improved

    each : length g.boxes ≡ length cells
    each = g.are_boxes.each

    -- ---- what is settled
    settled_at : (k : ℕ) → Where (length cells) n k → IsSettled task new (box_at (split_list g.boxes n i m) k)
        (node_at (split_cells cells n i m left.node right.node) k)
    settled_at k (inl e) = subst
        (λ (t : ℕ). IsSettled task new (box_at (split_list g.boxes n i m) t)
        (node_at (split_cells cells n i m left.node right.node) t)) (sym e)
        (subst (λ (c : Cell). IsSettled task new (box_at (split_list g.boxes n i m) n) c.node)
        (sym (at_split cells n i m left.node right.node entry.within))
        (subst (λ (b : List Span). IsSettled task new b (Split i m))
        (sym (box_before g.boxes n i m n (omega (arith, entry.within, each))))
        tt))
    settled_at k (inr (inl (l, d))) = subst
        (λ (c : Cell). IsSettled task new (box_at (split_list g.boxes n i m) k) c.node)
        (sym (at_other cells n i m left.node right.node entry.within k l d))
        (subst (λ (b : List Span). IsSettled task new b (node_at cells k))
        (sym (box_before g.boxes n i m k (omega (arith, l, each))))
        (still_settled task (box_at g.boxes n) old new (box_at g.boxes k) (node_at cells k) improved (g.settled k l)))
    settled_at k (inr (inr (inl q))) = subst
        (λ (c : Cell). IsSettled task new (box_at (split_list g.boxes n i m) k) c.node)
        (sym (at_left cells n i m left.node right.node entry.within k q))
        (subst (λ (b : List Span). IsSettled task new b left.node) (sym (box_left g.boxes n i m k (each ∙ q)))
        one.settled)
    settled_at k (inr (inr (inr q))) = subst
        (λ (c : Cell). IsSettled task new (box_at (split_list g.boxes n i m) k) c.node)
        (sym (at_right cells n i m left.node right.node entry.within k q))
        (subst (λ (b : List Span). IsSettled task new b right.node)
        (sym (box_right g.boxes n i m k (ap (λ (t : ℕ). t + 1) each ∙ q))) two.settled)

    -- ---- floors
    best_floor : (bound : Bound) → IsAtLeast bound z
        → ((plan : List ℕ) → old ≡ Some plan → IsAtLeast bound (task.value task.inst plan)) → (plan : List ℕ)
        → new ≡ Some plan → IsAtLeast bound (task.value task.inst plan)
    best_floor bound l under plan e = at improved
      where
        at : IsImprovedIn task.value task.inst (box_at g.boxes n) old new → IsAtLeast bound (task.value task.inst plan)
        at (inl f) = under plan (sym f ∙ e)
        at (inr (other, f, b)) =
            let s = some_is other plan (sym f ∙ e) in
            let l_other = law (box_at g.boxes n) other entry.list waiting.list.number
            (g.are_boxes.boxed n entry.within) b.inside in
            subst (λ (x : List ℕ). IsAtLeast bound (task.value task.inst x)) s
            (at_least_more bound z (task.value task.inst other) l
            (subst (λ (x : ℤ). x ≤ℤ task.value task.inst other) (sym entry.worth) l_other))

    boxes_of_parts : IsBox task.inst (below (box_at g.boxes n) i m) × IsBox task.inst (above (box_at g.boxes n) i m)
    boxes_of_parts = parts_are_boxes task.inst (box_at g.boxes n) i m (g.are_boxes.boxed n entry.within) split

    part_floor : (part : List Span) (node : Node) (j : ℕ) (bound : Bound) → IsAtLeast bound z → IsBox task.inst part
        → IsPart part (box_at g.boxes n) → node ≡ Cost j → IsSettled task new part node
        → IsAtLeast bound (task.worths part j)
    part_floor part node j bound l b q e h = at_least_more bound z (task.worths part j) l
        (subst (λ (x : ℤ). x ≤ℤ task.worths part j) (sym entry.worth)
        (part_waits task part (box_at g.boxes n) entry.list j grow b q waiting.list.number
        (waits_at task new part node j e h)))

    cost_floor : (bound : Bound) → IsAtLeast bound z → IsFloor task cells g.boxes old bound → (k j : ℕ)
        → node_at (split_cells cells n i m left.node right.node) k ≡ Cost j → Where (length cells) n k
        → IsAtLeast bound (task.worths (box_at (split_list g.boxes n i m) k) j)
    cost_floor bound l h k j e (inl q) = absurd (cost_is_no_split
        (node_at (split_cells cells n i m left.node right.node) k) i m j
        (ap (λ (t : ℕ). node_at (split_cells cells n i m left.node right.node) t) q
        ∙ ap (λ (c : Cell). c.node) (at_split cells n i m left.node right.node entry.within)) e)
    cost_floor bound l h k j e (inr (inl (s, d))) = subst (λ (b : List Span). IsAtLeast bound (task.worths b j))
        (sym (box_before g.boxes n i m k (omega (arith, s, each))))
        (h.under_costs k j s (sym (ap (λ (c : Cell). c.node)
        (at_other cells n i m left.node right.node entry.within k s d)) ∙ e))
    cost_floor bound l h k j e (inr (inr (inl q))) = subst (λ (b : List Span). IsAtLeast bound (task.worths b j))
        (sym (box_left g.boxes n i m k (each ∙ q)))
        (part_floor (below (box_at g.boxes n) i m) left.node j bound l boxes_of_parts.0
        (below_is_part (box_at g.boxes n) i m split)
        (sym (ap (λ (c : Cell). c.node) (at_left cells n i m left.node right.node entry.within k q)) ∙ e) one.settled)
    cost_floor bound l h k j e (inr (inr (inr q))) = subst (λ (b : List Span). IsAtLeast bound (task.worths b j))
        (sym (box_right g.boxes n i m k (ap (λ (t : ℕ). t + 1) each ∙ q)))
        (part_floor (above (box_at g.boxes n) i m) right.node j bound l boxes_of_parts.1
        (above_is_part (box_at g.boxes n) i m split)
        (sym (ap (λ (c : Cell). c.node) (at_right cells n i m left.node right.node entry.within k q)) ∙ e) two.settled)

    floor_more : (bound : Bound) → IsAtLeast bound z → IsFloor task cells g.boxes old bound
        → IsFloor task (split_cells cells n i m left.node right.node) (split_list g.boxes n i m) new bound
    floor_more bound l h = record {
      under_best = best_floor bound l h.under_best;
      under_costs = λ k j s e. cost_floor bound l h k j e (where_is (length cells) n k
          (omega (arith, s, length_split cells n i m left.node right.node entry.within)));
    }

    -- what was a floor before is at most the worth of the box
    floor_reaches : (bound : Bound) → IsFloor task cells g.boxes old bound → IsAtLeast bound z
    floor_reaches bound h =
        subst (IsAtLeast bound) (sym entry.worth) (h.under_costs n entry.list entry.within entry.node)

    -- ---- what is at most the worth of the box
    part_under : (y : ℤ) → y ≤ℤ z → (part : List Span) (leaf : Settled) → IsBox task.inst part
        → IsPart part (box_at g.boxes n) → IsLeafOf task new part leaf → (x : ℤ) → leaf.worth ≡ Some x → y ≤ℤ x
    part_under y l part leaf b q h x e =
        let c = cost_of_worth task part leaf.node leaf.worth x e h.worth in
        subst (λ (w : ℤ). y ≤ℤ w) (sym c.2)
        (part_floor part leaf.node c.0 (Least y) l b q c.1 h.settled)

    waiting_under : (y : ℤ) → y ≤ℤ z → All (λ (e : ℤ × ℕ). y ≤ℤ e.0) after
    waiting_under y l =
        all_with (λ (e : ℤ × ℕ). y ≤ℤ e.0) right.worth (length cells + 1) mid after pr
        (part_under y l (above (box_at g.boxes n) i m) right boxes_of_parts.1 (above_is_part (box_at g.boxes n) i m
        split) two)
        (all_with (λ (e : ℤ × ℕ). y ≤ℤ e.0) left.worth (length cells) rest mid pl
        (part_under y l (below (box_at g.boxes n) i m) left boxes_of_parts.0 (below_is_part (box_at g.boxes n) i m
        split) one)
        (λ k d s. at_most_trans y z (get_or rest k d).0 l (least k d s)))

    under_more : (y : ℤ) → y ≤ℤ z → ((plan : List ℕ) → old ≡ Some plan → y ≤ℤ task.value task.inst plan)
        → IsUnder task new after y
    under_more y l under = record {
      under_best = best_floor (Least y) l under;
      under_waiting = waiting_under y l;
    }

    -- ---- the boxes that were split
    still_opened : (k : ℕ) → k < length cells → IsOpened task old before (box_at g.boxes k)
        → IsOpened task new after (box_at (split_list g.boxes n i m) k)
    still_opened k l h = subst (IsOpened task new after) (sym (box_before g.boxes n i m k (omega (arith, l, each))))
        (record {
          unrefuted = h.unrefuted;
          below_given = h.below_given;
          under = λ j s. let u = h.under j s in
              under_more (task.worths (box_at g.boxes k) j)
              (All-contains (λ (e : ℤ × ℕ). task.worths (box_at g.boxes k) j ≤ℤ e.0) before (z, n) u.under_waiting
              (popped before rest (z, n) p)) u.under_best;
        })

    now_opened : IsOpened task new after (box_at (split_list g.boxes n i m) n)
    now_opened = subst (IsOpened task new after)
        (sym (box_before g.boxes n i m n (omega (arith, entry.within, each))))
        (record {
          unrefuted = waiting.unrefuted;
          below_given = below_given task old (box_at g.boxes n) z worths_at_most short g.best_is;
          under = λ j s. under_more (task.worths (box_at g.boxes n) j) (worths_at_most j s)
              (λ plan e. at_most_trans (task.worths (box_at g.boxes n) j) z (task.value task.inst plan)
              (worths_at_most j s) (short_floor task old z short plan e));
        })

    pub grown_more : IsGrown task may given (split_cells cells n i m left.node right.node) after aside new seen
        (splits + 1)
    grown_more = record {
      boxes = split_list g.boxes n i m;
      shape = grown n (length cells) g.shape;
      are_boxes = are_boxes_more task.inst cells g.boxes n i m left.node right.node g.are_boxes entry.within leaf split
          one.no_split two.no_split;
      is_shape = shape_more cells n i m left.node right.node entry.within leaf one.no_split two.no_split g.shape
          g.is_shape;
      splits_are =
          let f = forks_more cells n i m left.node right.node entry.within leaf one.no_split two.no_split g.shape
          g.is_shape in
          omega (arith, f, g.splits_are);
      settled = λ k l. settled_at k (where_is (length cells) n k
          (omega (arith, l, length_split cells n i m left.node right.node entry.within)));
      floors = λ bound h. let f = g.floors bound h in floor_more bound (floor_reaches bound f) f;
      waits = entries_more task cells g.boxes n i m left.node right.node entry.within each z left.worth right.worth
          (before ++ aside) (rest ++ aside) (mid ++ aside) (after ++ aside) g.waits all_popped one.worth one.small
          two.worth two.small (more_wait left.worth (length cells) rest mid aside pl)
          (more_wait right.worth (length cells + 1) mid after aside pr);
      continues = continues_grown may cells n i m left.node right.node entry.within leaf before after aside seen
          (λ k l. waits_after (length cells) n k z left.worth right.worth before rest mid after l p pl pr)
          (waited n z before rest p) (λ k d l. (set_aside k d l).within)
          (λ k. IsOpened task old before (box_at g.boxes k))
          (λ k. IsOpened task new after (box_at (split_list g.boxes n i m) k)) still_opened now_opened 0 given g.shape
          g.is_shape.within g.continues;
      best_is = still_best task (box_at g.boxes n) old new improved g.best_is;
    }
