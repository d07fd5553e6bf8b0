-- The walk that lays out the tree that a search goes on from.
use Rattle.std.proofs.Common.{◌≡◌, ℕ, zero, suc, ◌+◌, ◌<◌, ◌≤◌, ◌⊎◌, inl, inr, refl, sym, ◌∙◌, ap, subst, arith, ℤ}
use Rattle.std.proofs.Common.{◌≤ℤ◌, List, [], ◌∷◌, ◌++◌, append_assoc, add-one, drop, drop-cons}
use Rattle.std.proofs.Common.{length, get_or, map, reverse, All}
use Rattle.std.proofs.Common.{Bool, IsTrue, Option, Some, None, IfSome, Bor}
use Rattle.std.specs.Prelude.{option_map, ◌↔◌}
use Rattle.std.proofs.lemmas.Bool.{cases_eq}
use Rattle.std.proofs.lemmas.List.{drop_all, reverse-append}
use Rattle.std.proofs.lemmas.List.Elements.{All-nil, All-head}
use Rattle.std.proofs.lemmas.List.Sorted.{IsPermutation-refl}
use Rattle.fixed_num.proofs.SignedLemmas.{signed_arith}
use Rattle.instance_model.specs.Tables.{Tables}
use Rattle.instance_model.specs.Fitting.{IsFitting}
use Rattle.lagrange_bound.specs.declared.span.Span.{Span}
use Rattle.lagrange_bound.specs.Boxes.{IsBox}
use Rattle.certificate_lines.specs.declared.line.Bound.{Bound}
use Rattle.certificate_tree.specs.declared.node.Node.{Node}
use Rattle.certificate_tree.specs.declared.node.Node.TheVariants.{Split, Cost, Point, Band, Excl, Empty}
use Rattle.certificate_tree.specs.Trees.{Tree, leaf, split, pre_order, leaves, root_box, below, above, IsSplit}
use Rattle.certificate_tree.specs.Ranges.{AreNodesOf, IsLeafInRange, IsTreeInRange}
use Rattle.certificate_tree.specs.Holding.{IsAtLeast, LeafHolds}
use Rattle.certificate_tree.specs.Validity.{IsProved, ClaimLeafHolds, BoundBoxes}
use Rattle.certificate_tree.specs.Laws.{NodesAreOneTree}
use Rattle.certificate_tree.proofs.RootLemmas.{root_is_box}
use Rattle.certificate_tree.proofs.Soundness.{proved_bounds_plans}
use Rattle.branch_search.specs.declared.splitting.settling.Settled.{Settled}
use Rattle.branch_search.specs.declared.tree.cell.Cell.{Cell}
use Rattle.branch_search.specs.Best.{IsFeasiblePlan, IsBestOver}
use Rattle.branch_search.specs.Splits.{split_count}
use Rattle.branch_search.specs.Tasks.{Task, given_claim, freed}
use Rattle.branch_search.specs.Growing.{cell_at, node_at, box_at, IsLeafNode, IsLinked, AreBoxesOf, split_cells}
use Rattle.branch_search.specs.Growing.{split_list}
use Rattle.branch_search.specs.Shapes.{Shape, tip, forks, times, IsShapeOf, grown}
use Rattle.branch_search.specs.Settled.{IsWaitingBox, IsSettled, IsWorthOf, IsImprovedIn, IsLeafOf}
use Rattle.branch_search.specs.States.{entries_of, AreEntries, IsFloor, IsOpened, IsGrown}
use Rattle.branch_search.specs.Aside.{IsFiled}
use Rattle.branch_search.specs.Parted.{Place, IsApart, IsNoEntry, Stage, Continues}
use Rattle.branch_search.specs.Begun.{with_leaf, nodes_at, AreApart, IsOneOf, IsOpen, AreOpen, IsBegun}
use Rattle.branch_search.proofs.SplitLemmas.{leaf_count}
use Rattle.branch_search.proofs.CellLemmas.{length_split, at_split, at_left, at_right, box_left, box_right}
use Rattle.branch_search.proofs.CellLemmas.{leaf_linked, are_boxes_more, split_is_no_leaf, cost_is_no_split, Where}
use Rattle.branch_search.proofs.CellLemmas.{where_is}
use Rattle.branch_search.proofs.ShapeLemmas.{same_is, shape_more, forks_more}
use Rattle.branch_search.proofs.LeafLemmas.{leaf_for, still_best, some_is, still_settled, given_under}
use Rattle.branch_search.proofs.ChangeLemmas.{IsChangedAt, point_is_no_cost, length_leaf, at_leaf, leaf_changes}
use Rattle.branch_search.proofs.ChangeLemmas.{shape_leaf, boxes_leaf, split_changes, entries_changed}
use Rattle.branch_search.proofs.EntryLemmas.{all_front, all_back}
use Rattle.branch_search.proofs.AsideLemmas.{aside_after, filed_all, filed_waits, filed_stays, filed_here}
use Rattle.branch_search.proofs.PartLemmas.{place_continues, continues_with, continues_laid, continues_split}

-- the plan handed in is no worse than itself
pub best_at_first : (task : Task) (best : Option (List ℕ)) → best ≡ task.incumbent
    → IfSome best (IsFeasiblePlan task.inst) → IsBestOver task.value task.inst task.incumbent best
best_at_first task None e h = sym e
best_at_first task (Some plan) e h = record {
  feasible = h;
  at_most = λ given f. subst (λ (x : List ℕ). task.value task.inst plan ≤ℤ task.value task.inst x)
      (some_is plan given (e ∙ f)) (omega (arith, signed_arith));
}

-- ---- lists
reversed : {A : Type 0} (xs : List A) (x : A) → reverse (xs ++ x ∷ []) ≡ x ∷ reverse xs
reversed xs x = reverse-append xs (x ∷ [])

head_is : {A : Type 0} (x y : A) (xs ys : List A) → x ∷ xs ≡ y ∷ ys → x ≡ y
head_is x y xs ys e = cc

tail_is : {A : Type 0} (x y : A) (xs ys : List A) → x ∷ xs ≡ y ∷ ys → xs ≡ ys
tail_is x y xs ys e = cc

some_are_none : {A : Type 0} (x : A) (xs : List A) → x ∷ xs ≡ [] → ⊥
some_are_none x xs e = cc

-- ---- places
apart_of_open : (task : Task) (cells : List Cell) (boxes : List (List Span)) (n : ℕ) (places : List Place)
    → length cells ≤ n → AreOpen task cells boxes places → IsApart n places
apart_of_open task cells boxes n [] l h = tt
apart_of_open task cells boxes n (p ∷ ps) l h =
    (λ e. omega (arith, e, h.0.known, l), apart_of_open task cells boxes n ps l h.1)

not_one_of : (k : ℕ) (places : List Place) → IsApart k places → IsOneOf k places → ⊥
not_one_of k [] a o = o
not_one_of k (p ∷ ps) a (inl e) = a.0 e
not_one_of k (p ∷ ps) a (inr o) = not_one_of k ps a.1 o

pub open_stays : (task : Task) (cells more : List Cell) (boxes wider : List (List Span)) (k : ℕ) (places : List Place)
    → IsChangedAt cells more boxes wider k → IsApart k places → AreOpen task cells boxes places
    → AreOpen task more wider places
open_stays task cells more boxes wider k [] change apart h = tt
open_stays task cells more boxes wider k (p ∷ ps) change apart h = (
  record {
    known = omega (arith, h.0.known, change.longer);
    node = ap (λ (c : Cell). c.node) (change.same p.number h.0.known apart.0) ∙ h.0.node;
    in_range = subst (λ (b : List Span). IsTreeInRange task.inst task.lists b p.tree)
        (sym (change.box p.number h.0.known)) h.0.in_range;
    holds = λ bound proved. subst (λ (b : List Span). All (ClaimLeafHolds task.value task.inst (given_claim task bound))
        (leaves b p.tree)) (sym (change.box p.number h.0.known)) (h.0.holds bound proved);
  },
  open_stays task cells more boxes wider k ps change apart.1 h.1,
)

-- ---- the best plan
best_under : (task : Task) (bound : Bound) (best : Option (List ℕ)) (plan : List ℕ) → IsFitting task.inst
    → BoundBoxes task.value task.inst task.lists task.worths
    → IsProved task.value task.inst (given_claim task bound) → IsBestOver task.value task.inst task.incumbent best
    → best ≡ Some plan → IsAtLeast bound (task.value task.inst plan)
best_under task bound best plan fits law h b e =
    let w = subst (IsBestOver task.value task.inst task.incumbent) e b in
    proved_bounds_plans task.value task.inst (given_claim task bound) fits law h plan w.feasible.each
    w.feasible.feasible

-- ---- the first state
-- the only number there is
only : (P : ℕ → Type 0) (k : ℕ) → k < 1 → P 0 → P k
only P zero l h = h
only P (suc k) l h = absurd (omega (arith, l))

root_boxes : (inst : Tables) (node : Node) → IsFitting inst → IsLeafNode node
    → AreBoxesOf inst ((record { node = node; parent = 0; left = 0 }) ∷ []) (root_box inst ∷ [])
root_boxes inst node fits plain = record {
  each = refl;
  some = omega arith;
  root = refl;
  boxed = λ k l. only (λ k. IsBox inst (box_at (root_box inst ∷ []) k)) k l (root_is_box inst fits);
  linked = λ k l. only (λ k. IsLinked 1 (root_box inst ∷ []) (box_at (root_box inst ∷ []) k)
      (cell_at ((record { node = node; parent = 0; left = 0 }) ∷ []) k).left
      (node_at ((record { node = node; parent = 0; left = 0 }) ∷ []) k)) k l
      (leaf_linked 1 (root_box inst ∷ []) (root_box inst) 0 node plain);
  parts = λ k some l. absurd (omega (arith, some, l));
}

root_shape : (node : Node) → IsLeafNode node → IsShapeOf ((record { node = node; parent = 0; left = 0 }) ∷ []) (tip 0)
root_shape node plain = record {
  stands = plain;
  root = refl;
  once = λ k l. only (λ k. times k (tip 0) ≡ 1) k l (same_is 0);
  within = omega arith;
  count = refl;
}

pub begun_first : (task : Task) (may : ℕ → Type 0) (best : Option (List ℕ)) (t : Tree) (stack : List ℕ)
    → IsFitting task.inst
    → NodesAreOneTree → AreNodesOf task.inst task.lists (root_box task.inst) t task.given
    → BoundBoxes task.value task.inst task.lists task.worths
    → IsBestOver task.value task.inst task.incumbent best → stack ≡ 0 ∷ []
    → IsBegun task may t ((record { node = Point; parent = 0; left = 0 }) ∷ []) [] [] best stack 0 task.given
begun_first task may best t stack fits one nodes law best_is is = record {
  boxes = root_box task.inst ∷ [];
  shape = tip 0;
  are_boxes = root_boxes task.inst Point fits tt;
  is_shape = root_shape Point tt;
  places = (record { number = 0; tree = t }) ∷ [];
  stack_is = ap reverse is;
  rest_is = append_nil (pre_order t) ∙ nodes.order;
  open_are = (
    record {
      known = omega arith;
      node = refl;
      in_range = nodes.in_range;
      holds = λ bound h. subst
          (λ (u : Tree). All (ClaimLeafHolds task.value task.inst (given_claim task bound)) (leaves (root_box task.inst)
          u)) (one task.inst task.lists (root_box task.inst) task.given h.tree t h.of_nodes nodes) h.holds;
    },
    tt,
  );
  apart = (tt, tt);
  splits_are = omega arith;
  settled = λ k l. only (λ k. IsOneOf k ((record { number = 0; tree = t }) ∷ [])
      ⊎ IsSettled task best (box_at (root_box task.inst ∷ []) k)
      (node_at ((record { node = Point; parent = 0; left = 0 }) ∷ []) k)) k l (inl (inl refl));
  waits = record {
    sound = All-nil _;
    complete = λ k j l e. absurd (only (λ k. node_at ((record { node = Point; parent = 0; left = 0 }) ∷ []) k ≡ Cost j
        → ⊥) k l (λ f. point_is_no_cost Point j refl f) e);
    once = λ k. let e : entries_of k [] ≡ 0 = refl in omega (arith, e);
  };
  continues = place_continues (record {
    may = may;
    was_split = λ j. ⊥;
    cells = (record { node = Point; parent = 0; left = 0 }) ∷ [];
    waiting = [];
    aside = [];
    next = 0;
    places = (record { number = 0; tree = t }) ∷ [];
  }) 0 t 0 (inl (refl, refl, refl));
  best_is = best_is;
  floors = λ bound h. record {
    under_best = λ plan e. best_under task bound best plan fits law h best_is e;
    under_costs = λ k j l e. absurd (only (λ k. node_at ((record { node = Point; parent = 0; left = 0 }) ∷ []) k
        ≡ Cost j → ⊥) k l (λ f. point_is_no_cost Point j refl f) e);
  };
}
  where
    append_nil : (xs : List Node) → xs ++ [] ≡ xs
    append_nil [] = refl
    append_nil (x ∷ xs) = ap (λ (ys : List Node). x ∷ ys) (append_nil xs)

-- ---- the number that is taken from the stack
pub leaf_from : (node : Node) → ((i m : ℕ) → node ≡ Split i m → ⊥) → IsLeafNode node
leaf_from (Split i m) h = h i m refl
leaf_from (Cost j) h = tt
leaf_from Point h = tt
leaf_from (Band c t s) h = tt
leaf_from (Excl e) h = tt
leaf_from (Empty i) h = tt

pub record IsTop (task : Task) (may : ℕ → Type 0) (given : Tree) (cells : List Cell) (waiting aside : List (ℤ × ℕ))
    (best : Option (List ℕ)) (under : List ℕ) (k seen : ℕ) (rest : List Node) : Type 0 where
  pub boxes : List (List Span)
  pub shape : Shape
  pub are_boxes : AreBoxesOf task.inst cells boxes
  pub is_shape : IsShapeOf cells shape
  pub first : Tree
  pub others : List Place
  pub under_is : reverse under ≡ map (λ place. place.number) others
  pub rest_is : pre_order first ++ nodes_at others ≡ rest
  pub open_first : IsOpen task cells boxes (record { number = k; tree = first })
  pub open_others : AreOpen task cells boxes others
  pub apart_first : IsApart k others
  pub apart_others : AreApart others
  pub splits_are : forks shape + split_count rest ≡ split_count task.given
  pub settled : (j : ℕ) → j < length cells
      → (k ≡ j) ⊎ IsOneOf j others ⊎ IsSettled task best (box_at boxes j) (node_at cells j)
  pub waits : AreEntries task cells boxes (waiting ++ aside)
  pub continues : Continues (record {
    may = may;
    was_split = λ j. ⊥;
    cells = cells;
    waiting = waiting;
    aside = aside;
    next = seen;
    places = (record { number = k; tree = first }) ∷ others;
  }) 0 given shape
  pub best_is : IsBestOver task.value task.inst task.incumbent best
  pub floors : (bound : Bound) → IsProved task.value task.inst (given_claim task bound)
      → IsFloor task cells boxes best bound

abbrev stage_at : (may : ℕ → Type 0) (cells : List Cell) (waiting aside : List (ℤ × ℕ)) (seen : ℕ) → List Place → Stage
stage_at may cells waiting aside seen places =
    record {
      may = may;
      was_split = λ j. ⊥;
      cells = cells;
      waiting = waiting;
      aside = aside;
      next = seen;
      places = places;
    }

pub at_top : (task : Task) (may : ℕ → Type 0) (given : Tree) (cells : List Cell) (waiting aside : List (ℤ × ℕ))
    (best : Option (List ℕ)) (stack under : List ℕ) (k seen : ℕ) (rest : List Node)
    → IsBegun task may given cells waiting aside best stack seen rest → stack ≡ under ++ k ∷ []
    → IsTop task may given cells waiting aside best under k seen rest
at_top task may given cells waiting aside best stack under k seen rest h e =
    at h.places (sym (reversed under k) ∙ ap reverse (sym e) ∙ h.stack_is) h.rest_is h.open_are h.apart h.settled
    h.continues
  where
    at : (places : List Place) → k ∷ reverse under ≡ map (λ place. place.number) places → nodes_at places ≡ rest
        → AreOpen task cells h.boxes places → AreApart places
        → ((j : ℕ) → j < length cells → IsOneOf j places ⊎ IsSettled task best (box_at h.boxes j) (node_at cells j))
        → Continues (stage_at may cells waiting aside seen places) 0 given h.shape
        → IsTop task may given cells waiting aside best under k seen rest
    at [] f r o a s c = absurd (some_are_none k (reverse under) f)
    at (p ∷ ps) f r o a s c =
        let is : p.number ≡ k = sym (head_is k p.number (reverse under) (map (λ place. place.number) ps) f) in
        record {
          boxes = h.boxes;
          shape = h.shape;
          are_boxes = h.are_boxes;
          is_shape = h.is_shape;
          first = p.tree;
          others = ps;
          under_is = tail_is k p.number (reverse under) (map (λ place. place.number) ps) f;
          rest_is = r;
          open_first = subst (λ (n : ℕ). IsOpen task cells h.boxes (record { number = n; tree = p.tree })) is o.0;
          open_others = o.1;
          apart_first = subst (λ (n : ℕ). IsApart n ps) is a.0;
          apart_others = a.1;
          splits_are = h.splits_are;
          settled = λ j l. settled j (s j l) is;
          waits = h.waits;
          continues = subst (λ (n : ℕ). Continues (stage_at may cells waiting aside seen
              ((record { number = n; tree = p.tree }) ∷ ps)) 0 given
              h.shape) is c;
          best_is = h.best_is;
          floors = h.floors;
        }
      where
        settled : (j : ℕ) → IsOneOf j (p ∷ ps) ⊎ IsSettled task best (box_at h.boxes j) (node_at cells j)
            → p.number ≡ k → (k ≡ j) ⊎ IsOneOf j ps ⊎ IsSettled task best (box_at h.boxes j) (node_at cells j)
        settled j (inl (inl q)) is = inl (sym is ∙ q)
        settled j (inl (inr o)) is = inr (inl o)
        settled j (inr t) is = inr (inr t)

-- ---- what stands there
pub record IsLeafAt (inst : Tables) (lists : ℕ) (box : List Span) (first : Tree) (others : List Place) (node : Node)
    (after : List Node) : Type 0 where
  pub is : first ≡ leaf node
  pub rest_is : nodes_at others ≡ after
  pub in_range : IsLeafInRange inst lists node

pub leaf_first : (inst : Tables) (lists : ℕ) (box : List Span) (first : Tree) (others : List Place) (node : Node)
    (after : List Node) → pre_order first ++ nodes_at others ≡ node ∷ after → IsLeafNode node
    → IsTreeInRange inst lists box first → IsLeafAt inst lists box first others node after
leaf_first inst lists box (leaf n) others node after e l r = record {
  is = ap leaf (head_is n node (nodes_at others) after e);
  rest_is = tail_is n node (nodes_at others) after e;
  in_range = subst (IsLeafInRange inst lists) (head_is n node (nodes_at others) after e) r;
}
leaf_first inst lists box (split i m a b) others node after e l r =
    absurd (split_is_no_leaf node i m (sym (head_is (Split i m) node ((pre_order a ++ pre_order b) ++ nodes_at others)
    after e)) l)

pub record IsSplitFirst (inst : Tables) (lists : ℕ) (box : List Span) (first : Tree) (others : List Place) (i m : ℕ)
    (after : List Node) : Type 0 where
  pub left : Tree
  pub right : Tree
  pub is : first ≡ split i m left right
  pub rest_is : pre_order left ++ (pre_order right ++ nodes_at others) ≡ after
  pub splits : IsSplit box i m
  pub left_in_range : IsTreeInRange inst lists (below box i m) left
  pub right_in_range : IsTreeInRange inst lists (above box i m) right

same_split : (i m j n : ℕ) (a b : Tree) → Split i m ≡ Split j n → split i m a b ≡ split j n a b
same_split i m j n a b e = cc

pub split_first : (inst : Tables) (lists : ℕ) (box : List Span) (first : Tree) (others : List Place) (i m : ℕ)
    (after : List Node) → pre_order first ++ nodes_at others ≡ Split i m ∷ after → IsTreeInRange inst lists box first
    → IsSplitFirst inst lists box first others i m after
split_first inst lists box (leaf n) others i m after e r =
    absurd (subst (IsLeafInRange inst lists) (head_is n (Split i m) (nodes_at others) after e) r)
split_first inst lists box (split j n a b) others i m after e r =
    let is = same_split j n i m a b
    (head_is (Split j n) (Split i m) ((pre_order a ++ pre_order b) ++ nodes_at others) after e) in
    let q = subst (IsTreeInRange inst lists box) is r in
    record {
      left = a;
      right = b;
      is = is;
      rest_is = sym (append_assoc (pre_order a) (pre_order b) (nodes_at others))
          ∙ tail_is (Split j n) (Split i m) ((pre_order a ++ pre_order b) ++ nodes_at others) after e;
      splits = q.0;
      left_in_range = q.1;
      right_in_range = q.2;
    }

-- ---- a leaf is laid
module _ (task : Task) (may : ℕ → Type 0) (given : Tree) (cells : List Cell) (old new aside : List (ℤ × ℕ))
    (best next : Option (List ℕ)) (under : List ℕ) (k seen : ℕ) (node : Node) (after : List Node) (here : Settled)
    (may_split : Bool) (kept more : Option ℤ) (fits : IsFitting task.inst)
    (law : BoundBoxes task.value task.inst task.lists task.worths) (plain : IsLeafNode node)
    (g : IsTop task may given cells old aside best under k seen (node ∷ after))
    (laid : IsLeafOf (freed task) next (box_at g.boxes k) here)
    (improved : IsImprovedIn task.value task.inst (box_at g.boxes k) best next)
    (own : IsTrue may_split ↔ may seen) (filed : IsFiled may_split here.worth k old new kept more) where
  known : k < length cells
  known = g.open_first.known

  at : IsLeafAt task.inst task.lists (box_at g.boxes k) g.first g.others node after
  at = leaf_first task.inst task.lists (box_at g.boxes k) g.first g.others node after g.rest_is plain
      g.open_first.in_range

  one : IsLeafOf task next (box_at g.boxes k) here
  one = leaf_for task next (box_at g.boxes k) here laid

  open_leaf : IsLeafNode (node_at cells k)
  open_leaf = subst IsLeafNode (sym g.open_first.node) tt

  change : IsChangedAt cells (with_leaf cells k here.node) g.boxes g.boxes k
  change = leaf_changes cells k here.node known g.boxes

  settled_at : (j : ℕ) → j < length cells → (j ≡ k) ⊎ (j ≡ k → ⊥)
      → IsOneOf j g.others ⊎ IsSettled task next (box_at g.boxes j) (node_at (with_leaf cells k here.node) j)
  settled_at j l (inl e) = inr (subst
      (λ (t : ℕ). IsSettled task next (box_at g.boxes t) (node_at (with_leaf cells k here.node) t)) (sym e)
      (subst (λ (c : Cell). IsSettled task next (box_at g.boxes k) c.node) (sym (at_leaf cells k here.node known))
      one.settled))
  settled_at j l (inr d) = other (g.settled j l)
    where
      other : (k ≡ j) ⊎ IsOneOf j g.others ⊎ IsSettled task best (box_at g.boxes j) (node_at cells j)
          → IsOneOf j g.others ⊎ IsSettled task next (box_at g.boxes j) (node_at (with_leaf cells k here.node) j)
      other (inl e) = absurd (d (sym e))
      other (inr (inl o)) = inl o
      other (inr (inr h)) = inr (subst (λ (c : Cell). IsSettled task next (box_at g.boxes j) c.node)
          (sym (change.same j l d))
          (still_settled task (box_at g.boxes k) best next (box_at g.boxes j) (node_at cells j) improved h))

  best_next : IsBestOver task.value task.inst task.incumbent next
  best_next = still_best task (box_at g.boxes k) best next improved g.best_is

  -- the given leaf holds, and so the new one waits with no less
  holds_at : (bound : Bound) → IsProved task.value task.inst (given_claim task bound)
      → LeafHolds task.value task.inst bound task.worths (box_at g.boxes k) node
  holds_at bound h = All-head (ClaimLeafHolds task.value task.inst (given_claim task bound))
      (record { box = box_at g.boxes k; node = node }) []
      (subst (λ (t : Tree). All (ClaimLeafHolds task.value task.inst (given_claim task bound))
      (leaves (box_at g.boxes k) t)) at.is (g.open_first.holds bound h))

  cost_at : (bound : Bound) → IsProved task.value task.inst (given_claim task bound) → (j list : ℕ)
      → j < length cells → node_at (with_leaf cells k here.node) j ≡ Cost list → (j ≡ k) ⊎ (j ≡ k → ⊥)
      → IsAtLeast bound (task.worths (box_at g.boxes j) list)
  cost_at bound h j list l e (inl q) =
      let f : here.node ≡ Cost list = sym (ap (λ (c : Cell). c.node) (at_leaf cells k here.node known))
      ∙ ap (node_at (with_leaf cells k here.node)) (sym q) ∙ e in
      let w : IsWaitingBox task (box_at g.boxes k) list =
      subst (IsSettled task next (box_at g.boxes k)) f one.settled in
      subst (λ (t : ℕ). IsAtLeast bound (task.worths (box_at g.boxes t) list)) (sym q)
      (given_under task bound (box_at g.boxes k) node list at.in_range (holds_at bound h) w)
  cost_at bound h j list l e (inr d) = (g.floors bound h).under_costs j list l
      (sym (ap (λ (c : Cell). c.node) (change.same j l d)) ∙ e)

  -- no entry so far has the number
  no_entry : IsNoEntry (old ++ aside) k
  no_entry i d l e =
      let h = g.waits.sound i d l in
      point_is_no_cost (node_at cells k) h.list g.open_first.node
      (subst (λ (j : ℕ). node_at cells j ≡ Cost h.list) e h.node)

  still_continues : Continues (record {
    may = may;
    was_split = λ j. ⊥;
    cells = with_leaf cells k here.node;
    waiting = new;
    aside = aside_after may_split here.worth k aside;
    next = seen + 1;
    places = g.others;
  }) 0 given g.shape
  still_continues =
      continues_laid may cells k here.node node known g.open_first.node old new aside
      (aside_after may_split here.worth k aside) seen g.others g.apart_first
      (filed_waits may_split here.worth k old new kept more filed) (filed_stays may_split here.worth k aside)
      (filed_here may_split (may seen) here.worth k old new aside kept more own filed
      (all_front (λ (e : ℤ × ℕ). e.1 ≡ k → ⊥) old aside no_entry)
      (all_back (λ (e : ℤ × ℕ). e.1 ≡ k → ⊥) old aside no_entry)) 0 given g.shape
      (subst (λ (t : Tree). Continues (record {
        may = may;
        was_split = λ j. ⊥;
        cells = cells;
        waiting = old;
        aside = aside;
        next = seen;
        places = (record { number = k; tree = t }) ∷ g.others;
      }) 0 given g.shape) at.is g.continues)

  pub leaf_laid : IsBegun task may given (with_leaf cells k here.node) new (aside_after may_split here.worth k aside)
      next under (seen + 1) after
  leaf_laid = record {
    boxes = g.boxes;
    shape = g.shape;
    are_boxes = boxes_leaf cells k here.node known open_leaf one.no_split task.inst g.boxes g.are_boxes;
    is_shape = shape_leaf cells k here.node known open_leaf one.no_split g.shape g.is_shape;
    places = g.others;
    stack_is = g.under_is;
    rest_is = at.rest_is;
    open_are = open_stays task cells (with_leaf cells k here.node) g.boxes g.boxes k g.others change g.apart_first
        g.open_others;
    apart = g.apart_others;
    splits_are = let z = leaf_count node after plain in let s = g.splits_are in omega (arith, z, s);
    settled = λ j l. settled_at j (omega (arith, l, length_leaf cells k here.node known)) (cases_eq j k);
    waits = entries_changed task cells (with_leaf cells k here.node) g.boxes g.boxes k known g.open_first.node change
        (old ++ aside) g.waits here.worth (new ++ aside_after may_split here.worth k aside)
        (subst (λ (c : Cell). IsWorthOf task (box_at g.boxes k) c.node here.worth)
        (sym (at_leaf cells k here.node known)) one.worth) one.small
        (filed_all may_split here.worth k old new kept more aside filed);
    continues = still_continues;
    best_is = best_next;
    floors = λ bound h. record {
      under_best = λ plan e. best_under task bound next plan fits law h best_next e;
      under_costs = λ j list l e. cost_at bound h j list (omega (arith, l, length_leaf cells k here.node known)) e
          (cases_eq j k);
    };
  }

-- ---- a split is laid
module _ (task : Task) (may : ℕ → Type 0) (given : Tree) (cells : List Cell) (waiting aside : List (ℤ × ℕ))
    (best : Option (List ℕ)) (under stack : List ℕ) (k i m seen : ℕ) (after : List Node)
    (g : IsTop task may given cells waiting aside best under k seen (Split i m ∷ after)) where
  split_known : k < length cells
  split_known = g.open_first.known

  pub first : IsSplitFirst task.inst task.lists (box_at g.boxes k) g.first g.others i m after
  first = split_first task.inst task.lists (box_at g.boxes k) g.first g.others i m after g.rest_is
      g.open_first.in_range

  split_leaf : IsLeafNode (node_at cells k)
  split_leaf = subst IsLeafNode (sym g.open_first.node) tt

  each : length g.boxes ≡ length cells
  each = g.are_boxes.each

  split_change : IsChangedAt cells (split_cells cells k i m Point Point) g.boxes (split_list g.boxes k i m) k
  split_change = split_changes cells g.boxes k i m split_known each

  parts_hold : (bound : Bound) → IsProved task.value task.inst (given_claim task bound)
      → All (ClaimLeafHolds task.value task.inst (given_claim task bound))
      (leaves (below (box_at g.boxes k) i m) first.left ++ leaves (above (box_at g.boxes k) i m) first.right)
  parts_hold bound h = subst (λ (t : Tree). All (ClaimLeafHolds task.value task.inst (given_claim task bound))
      (leaves (box_at g.boxes k) t)) first.is (g.open_first.holds bound h)

  left_open : IsOpen task (split_cells cells k i m Point Point) (split_list g.boxes k i m)
      (record { number = length cells; tree = first.left })
  left_open = record {
    known = omega (arith, length_split cells k i m Point Point split_known);
    node = ap (λ (c : Cell). c.node) (at_left cells k i m Point Point split_known (length cells) refl);
    in_range = subst (λ (b : List Span). IsTreeInRange task.inst task.lists b first.left)
        (sym (box_left g.boxes k i m (length cells) each)) first.left_in_range;
    holds = λ bound h. subst (λ (b : List Span). All (ClaimLeafHolds task.value task.inst (given_claim task bound))
        (leaves b first.left)) (sym (box_left g.boxes k i m (length cells) each))
        (all_front (ClaimLeafHolds task.value task.inst (given_claim task bound))
        (leaves (below (box_at g.boxes k) i m) first.left) (leaves (above (box_at g.boxes k) i m) first.right)
        (parts_hold bound h));
  }

  right_box : box_at (split_list g.boxes k i m) (length cells + 1) ≡ above (box_at g.boxes k) i m
  right_box = box_right g.boxes k i m (length cells + 1) (ap (λ (n : ℕ). n + 1) each)

  right_open : IsOpen task (split_cells cells k i m Point Point) (split_list g.boxes k i m)
      (record { number = length cells + 1; tree = first.right })
  right_open = record {
    known = omega (arith, length_split cells k i m Point Point split_known);
    node = ap (λ (c : Cell). c.node) (at_right cells k i m Point Point split_known (length cells + 1) refl);
    in_range = subst (λ (b : List Span). IsTreeInRange task.inst task.lists b first.right) (sym right_box)
        first.right_in_range;
    holds = λ bound h. subst (λ (b : List Span). All (ClaimLeafHolds task.value task.inst (given_claim task bound))
        (leaves b first.right)) (sym right_box)
        (all_back (ClaimLeafHolds task.value task.inst (given_claim task bound))
        (leaves (below (box_at g.boxes k) i m) first.left) (leaves (above (box_at g.boxes k) i m) first.right)
        (parts_hold bound h));
  }

  abbrev split_places : List Place
  split_places = (record { number = length cells; tree = first.left })
      ∷ (record { number = length cells + 1; tree = first.right }) ∷ g.others

  split_settled : (j : ℕ) → Where (length cells) k j → IsOneOf j split_places
      ⊎ IsSettled task best (box_at (split_list g.boxes k i m) j) (node_at (split_cells cells k i m Point Point) j)
  split_settled j (inl e) = inr (subst
      (λ (t : ℕ). IsSettled task best (box_at (split_list g.boxes k i m) t)
      (node_at (split_cells cells k i m Point Point) t)) (sym e)
      (subst (λ (c : Cell). IsSettled task best (box_at (split_list g.boxes k i m) k) c.node)
      (sym (at_split cells k i m Point Point split_known))
      tt))
  split_settled j (inr (inl (l, d))) = other (g.settled j l)
    where
      other : (k ≡ j) ⊎ IsOneOf j g.others ⊎ IsSettled task best (box_at g.boxes j) (node_at cells j)
          → IsOneOf j split_places ⊎ IsSettled task best (box_at (split_list g.boxes k i m) j)
          (node_at (split_cells cells k i m Point Point) j)
      other (inl e) = absurd (d (sym e))
      other (inr (inl o)) = inl (inr (inr o))
      other (inr (inr h)) = inr (subst
          (λ (c : Cell). IsSettled task best (box_at (split_list g.boxes k i m) j) c.node)
          (sym (split_change.same j l d))
          (subst (λ (b : List Span). IsSettled task best b (node_at cells j)) (sym (split_change.box j l)) h))
  split_settled j (inr (inr (inl e))) = inl (inl e)
  split_settled j (inr (inr (inr e))) = inl (inr (inl e))

  split_cost : (bound : Bound) → IsProved task.value task.inst (given_claim task bound) → (j list : ℕ)
      → node_at (split_cells cells k i m Point Point) j ≡ Cost list → Where (length cells) k j
      → IsAtLeast bound (task.worths (box_at (split_list g.boxes k i m) j) list)
  split_cost bound h j list e (inl q) = absurd (cost_is_no_split
      (node_at (split_cells cells k i m Point Point) j) i m list
      (ap (λ (t : ℕ). node_at (split_cells cells k i m Point Point) t) q
      ∙ ap (λ (c : Cell). c.node) (at_split cells k i m Point Point split_known)) e)
  split_cost bound h j list e (inr (inl (l, d))) = subst (λ (b : List Span). IsAtLeast bound (task.worths b list))
      (sym (split_change.box j l)) ((g.floors bound h).under_costs j list l
      (sym (ap (λ (c : Cell). c.node) (split_change.same j l d)) ∙ e))
  split_cost bound h j list e (inr (inr (inl q))) = absurd (point_is_no_cost
      (node_at (split_cells cells k i m Point Point) j) list
      (ap (λ (c : Cell). c.node) (at_left cells k i m Point Point split_known j q)) e)
  split_cost bound h j list e (inr (inr (inr q))) = absurd (point_is_no_cost
      (node_at (split_cells cells k i m Point Point) j) list
      (ap (λ (c : Cell). c.node) (at_right cells k i m Point Point split_known j q)) e)

  pub split_laid : stack ≡ (under ++ (length cells + 1) ∷ []) ++ length cells ∷ []
      → IsBegun task may given (split_cells cells k i m Point Point) waiting aside best stack seen after
  split_laid is = record {
    boxes = split_list g.boxes k i m;
    shape = grown k (length cells) g.shape;
    are_boxes = are_boxes_more task.inst cells g.boxes k i m Point Point g.are_boxes split_known split_leaf
        first.splits tt tt;
    is_shape = shape_more cells k i m Point Point split_known split_leaf tt tt g.shape g.is_shape;
    places = split_places;
    stack_is = ap reverse is ∙ reversed (under ++ (length cells + 1) ∷ []) (length cells)
        ∙ ap (λ (xs : List ℕ). length cells ∷ xs) (reversed under (length cells + 1)
        ∙ ap (λ (xs : List ℕ). (length cells + 1) ∷ xs) g.under_is);
    rest_is = first.rest_is;
    open_are = (
      left_open,
      (
        right_open,
        open_stays task cells (split_cells cells k i m Point Point) g.boxes (split_list g.boxes k i m) k g.others
            split_change g.apart_first g.open_others,
      ),
    );
    apart = (
      (
        λ e. omega (arith, e),
        apart_of_open task cells g.boxes (length cells) g.others (omega arith) g.open_others,
      ),
      (apart_of_open task cells g.boxes (length cells + 1) g.others (omega arith) g.open_others, g.apart_others),
    );
    splits_are = let s = g.splits_are in
        let f = forks_more cells k i m Point Point split_known split_leaf tt tt g.shape g.is_shape in
        omega (arith, s, f);
    settled = λ j l. split_settled j (where_is (length cells) k j
        (omega (arith, l, length_split cells k i m Point Point split_known)));
    waits = entries_changed task cells (split_cells cells k i m Point Point) g.boxes (split_list g.boxes k i m) k
        split_known g.open_first.node split_change (waiting ++ aside) g.waits None (waiting ++ aside)
        (subst (λ (c : Cell). IsWorthOf task (box_at (split_list g.boxes k i m) k) c.node None)
        (sym (at_split cells k i m Point Point split_known)) refl) tt (IsPermutation-refl (waiting ++ aside));
    continues = continues_split may cells k i m split_known g.open_first.node waiting aside seen first.left first.right
        g.others g.apart_first 0 given g.shape g.is_shape.within
        (subst (λ (t : Tree). Continues (record {
          may = may;
          was_split = λ j. ⊥;
          cells = cells;
          waiting = waiting;
          aside = aside;
          next = seen;
          places = (record { number = k; tree = t }) ∷ g.others;
        }) 0 given g.shape) first.is g.continues);
    best_is = g.best_is;
    floors = λ bound h. record {
      under_best = (g.floors bound h).under_best;
      under_costs = λ j list l e. split_cost bound h j list e (where_is (length cells) k j
          (omega (arith, l, length_split cells k i m Point Point split_known)));
    };
  }

-- ---- the end of the walk
nodes_are_some : (t : Tree) (ns : List Node) → pre_order t ++ ns ≡ [] → ⊥
nodes_are_some (leaf n) ns e = some_are_none n ns e
nodes_are_some (split i m l r) ns e = some_are_none (Split i m) ((pre_order l ++ pre_order r) ++ ns) e

no_places : (places : List Place) → nodes_at places ≡ [] → places ≡ []
no_places [] e = refl
no_places (p ∷ ps) e = absurd (nodes_are_some p.tree (nodes_at ps) e)

module _ (task : Task) (may : ℕ → Type 0) (given : Tree) (cells : List Cell) (waiting aside : List (ℤ × ℕ))
    (best : Option (List ℕ)) (stack : List ℕ) (seen : ℕ) where
  begun_end : IsBegun task may given cells waiting aside best stack seen []
      → IsGrown task may given cells waiting aside best seen 0
  begun_end h = record {
    boxes = h.boxes;
    shape = h.shape;
    are_boxes = h.are_boxes;
    is_shape = h.is_shape;
    splits_are = let s = h.splits_are in omega (arith, s);
    settled = λ k l. settled k h.places h.rest_is (h.settled k l);
    floors = h.floors;
    waits = h.waits;
    continues = continues_with may (λ j. ⊥) (λ k. IsOpened task best waiting (box_at h.boxes k)) cells waiting aside
        seen [] (λ k o. absurd o) 0 given h.shape
        (subst (λ (places : List Place). Continues (stage_at may cells waiting aside seen places) 0 given h.shape)
        (no_places h.places h.rest_is) h.continues);
    best_is = h.best_is;
  }
    where
      settled : (k : ℕ) (places : List Place) → nodes_at places ≡ []
          → IsOneOf k places ⊎ IsSettled task best (box_at h.boxes k) (node_at cells k)
          → IsSettled task best (box_at h.boxes k) (node_at cells k)
      settled k places e (inr t) = t
      settled k [] e (inl o) = absurd o
      settled k (p ∷ ps) e (inl o) = absurd (nodes_are_some p.tree (nodes_at ps) e)

  -- the next node
  pub begun_at : (nodes : List Node) (n : ℕ) → n < length nodes
      → IsBegun task may given cells waiting aside best stack seen (drop n nodes)
      → IsBegun task may given cells waiting aside best stack seen (get_or nodes n (Split 0 0) ∷ drop (n + 1) nodes)
  begun_at nodes n l h =
      subst (IsBegun task may given cells waiting aside best stack seen)
      (drop-cons nodes n (Split 0 0) l ∙ ap (λ (k : ℕ). get_or nodes n (Split 0 0) ∷ drop k nodes) (sym (add-one n))) h

  -- a number is left as long as a node is to come
  some_top : (node : Node) (after : List Node)
      → IsBegun task may given cells waiting aside best stack seen (node ∷ after) → stack ≡ [] → ⊥
  some_top node after h e =
      at h.places (ap reverse (sym e) ∙ h.stack_is) h.rest_is
    where
      at : (places : List Place) → [] ≡ map (λ place. place.number) places → nodes_at places ≡ node ∷ after → ⊥
      at [] f r = some_are_none node after (sym r)
      at (p ∷ ps) f r = some_are_none p.number (map (λ place. place.number) ps) (sym f)

  -- no node is to come, or no number is left
  pub begun_done : (nodes : List Node) (n : ℕ)
      → IsBegun task may given cells waiting aside best stack seen (drop n nodes)
      → (length nodes ≤ n) ⊎ ((n < length nodes) × (stack ≡ []))
      → IsGrown task may given cells waiting aside best seen 0
  begun_done nodes n h (inl l) =
      begun_end (subst (IsBegun task may given cells waiting aside best stack seen) (drop_all n nodes l) h)
  begun_done nodes n h (inr (l, e)) =
      absurd (some_top (get_or nodes n (Split 0 0)) (drop (n + 1) nodes) (begun_at nodes n l h) e)

-- the plan handed in, as it is kept
pub given_feasible : (inst : Tables) (incumbent : Option (Bor (List ℕ))) (best : Option (List ℕ))
    → best ≡ option_map (λ given. given.now) incumbent → IfSome incumbent (λ given. IsFeasiblePlan inst given.now)
    → IfSome best (IsFeasiblePlan inst)
given_feasible inst None best e h = subst (λ (o : Option (List ℕ)). IfSome o (IsFeasiblePlan inst)) (sym e) tt
given_feasible inst (Some given) best e h = subst (λ (o : Option (List ℕ)). IfSome o (IsFeasiblePlan inst)) (sym e) h
