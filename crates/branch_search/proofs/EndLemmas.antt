-- What the last state of a search shows: the statement.
use Rattle.std.proofs.Common.{◌≡◌, ℕ, ◌+◌, ◌<◌, ◌≤◌, inl, inr, refl, sym, ◌∙◌, ap, subst, arith, ℤ, ◌≤ℤ◌, ◌<ℤ◌}
use Rattle.std.proofs.Common.{List, ◌++◌, length, map, All, Contains, Option, Some, None, IfSome, IfNone, IsTrue}
use Rattle.std.proofs.Common.{is_some}
use Rattle.std.proofs.Common.{Bool}
use Rattle.std.specs.Prelude.{Any}
use Rattle.std.specs.Bool.{OnFalse}
use Rattle.std.proofs.lemmas.Bool.{false≢true}
use Rattle.std.proofs.lemmas.Int.{by_lt_z}
use Rattle.std.proofs.lemmas.List.Elements.{All-contains}
use Rattle.fixed_num.proofs.SignedLemmas.{signed_arith}
use Rattle.instance_model.specs.Tables.{Tables}
use Rattle.lagrange_bound.specs.declared.span.Span.{Span}
use Rattle.lagrange_bound.specs.Goals.{PlanValue}
use Rattle.certificate_lines.specs.declared.line.Bound.{Bound}
use Rattle.certificate_lines.specs.declared.line.Bound.TheVariants.{NoPlan, Least}
use Rattle.certificate_tree.specs.declared.node.Node.{Node}
use Rattle.certificate_tree.specs.declared.node.Node.TheVariants.{Split, Cost, Point, Band, Excl, Empty}
use Rattle.certificate_tree.specs.Trees.{Leaf, leaves, root_box}
use Rattle.certificate_tree.specs.Holding.{IsAtLeast, LeafHolds, first_starts}
use Rattle.certificate_tree.specs.Ranges.{AreNodesOf, IsLeafInRange, IsTreeInRange}
use Rattle.certificate_tree.specs.Validity.{IsProved}
use Rattle.branch_search.specs.declared.part.Part.{Part}
use Rattle.branch_search.specs.declared.best.Best.{Best}
use Rattle.branch_search.specs.declared.tree.growth.Growth.{Growth}
use Rattle.branch_search.specs.declared.search_end.SearchEnd.{SearchEnd}
use Rattle.branch_search.specs.Splits.{split_boxes}
use Rattle.branch_search.specs.Best.{IsReached, IsShort, bound_of, Reaches}
use Rattle.branch_search.specs.Searched.{IsBounding, IsCostOf, IsAmong, IsLeastOf, IsUnfinishedLeaf}
use Rattle.branch_search.specs.Searched.{IsSearchedBy}
use Rattle.branch_search.specs.Tasks.{Task, splits_before, given_claim}
use Rattle.branch_search.specs.Growing.{node_at, box_at, IsLeafNode}
use Rattle.branch_search.specs.Shapes.{top, numbers, tree_of}
use Rattle.branch_search.specs.Settled.{IsSettled}
use Rattle.branch_search.specs.Valued.{plan_in, IsBelow, IsValued}
use Rattle.branch_search.specs.States.{IsGrowth, IsEntry, IsFloor, IsLeftWorth, NoneIsLeft, bound_with}
use Rattle.branch_search.proofs.TreeLemmas.{order_is, in_range, each_leaf, some_leaf, splits_are}
use Rattle.branch_search.proofs.LeafLemmas.{at_most_trans, below_is_at_most}

-- ---- the kept value
pub short_below : (value : PlanValue) (inst : Tables) (best : Option Best) (z : ℤ) → IsValued value inst best
    → IsShort value inst (plan_in best) z → IsBelow best z
short_below value inst None z v h = h
short_below value inst (Some b) z v h = subst (λ (x : ℤ). z <ℤ x) (sym v.is) h

pub below_short : (value : PlanValue) (inst : Tables) (best : Option Best) (z : ℤ) → IsValued value inst best
    → IsBelow best z → IsShort value inst (plan_in best) z
below_short value inst None z v h = h
below_short value inst (Some b) z v h = subst (λ (x : ℤ). z <ℤ x) v.is h

not_below : (a b : ℤ) → (a <ℤ b → ⊥) → b ≤ℤ a
not_below a b h = by_lt_z a b (λ l. absurd (h l)) (λ l. l)

-- ---- the bound is at most what it is to be at most
cost_reaches : (best : Option Best) (left : Option ℤ) (entries : List (ℤ × ℕ)) (w : ℤ) (k : ℕ)
    → IfSome left (IsLeftWorth best entries) → IfNone left (NoneIsLeft best entries) → Contains entries (w, k)
    → IsAtLeast (bound_with left best) w
cost_reaches best (Some z) entries w k some none c =
    All-contains (λ (e : ℤ × ℕ). z ≤ℤ e.0) entries (w, k) some.least c
cost_reaches None None entries w k some none c =
    absurd (All-contains (λ (e : ℤ × ℕ). ¬ IsBelow None e.0) entries (w, k) none c tt)
cost_reaches (Some b) None entries w k some none c = not_below w b.value
    (All-contains (λ (e : ℤ × ℕ). ¬ IsBelow (Some b) e.0) entries (w, k) none c)

value_reaches : (value : PlanValue) (inst : Tables) (best : Option Best) (left : Option ℤ) (entries : List (ℤ × ℕ))
    (v : ℤ) → IfSome left (IsLeftWorth best entries) → IsValued value inst best
    → IsReached value inst (plan_in best) v → IsAtLeast (bound_with left best) v
value_reaches value inst None left entries v some valued h = absurd h
value_reaches value inst (Some b) (Some z) entries v some valued h = at_most_trans z b.value v
    (below_is_at_most z b.value some.below) (subst (λ (x : ℤ). x ≤ℤ v) (sym valued.is) h)
value_reaches value inst (Some b) None entries v some valued h = subst (λ (x : ℤ). x ≤ℤ v) (sym valued.is) h

-- where nothing is left, a worth that waits isn't short
pub none_short : (value : PlanValue) (inst : Tables) (best : Option Best) (entries : List (ℤ × ℕ)) (w : ℤ) (k : ℕ)
    → NoneIsLeft best entries → IsValued value inst best → Contains entries (w, k)
    → IsShort value inst (plan_in best) w → ⊥
none_short value inst best entries w k none valued c h =
    All-contains (λ (e : ℤ × ℕ). ¬ IsBelow best e.0) entries (w, k) none c (short_below value inst best w valued h)

-- ---- the last state
module _ (task : Task) (part : Part) (growth : Growth) (g : IsGrowth task part growth) (left : Option ℤ)
    (some : IfSome left (IsLeftWorth growth.best (growth.waiting ++ g.aside)))
    (none : IfNone left (NoneIsLeft growth.best (growth.waiting ++ g.aside))) where
  waits : (k j : ℕ) → k < length growth.cells.items → node_at growth.cells.items k ≡ Cost j
      → Contains (growth.waiting ++ g.aside) (task.worths (box_at g.state.boxes k) j, k)
  waits = g.state.waits.complete

  -- a leaf holds, for the bound
  holds_at : (k : ℕ) (node : Node) → k < length growth.cells.items → node_at growth.cells.items k ≡ node
      → IsLeafNode node → IsSettled task (plan_in growth.best) (box_at g.state.boxes k) node
      → LeafHolds task.value task.inst (bound_with left growth.best) task.worths (box_at g.state.boxes k) node
  holds_at k (Split i m) l e leaf h = absurd leaf
  holds_at k (Cost j) l e leaf h = record {
    starts = h.unrefuted.starts;
    worth = cost_reaches growth.best left (growth.waiting ++ g.aside) (task.worths (box_at g.state.boxes k) j) k some
        none
        (waits k j l e);
  }
  holds_at k Point l e leaf h = record {
    single = h.0;
    bounded = λ f. value_reaches task.value task.inst growth.best left (growth.waiting ++ g.aside)
        (task.value task.inst (first_starts (box_at g.state.boxes k))) some g.valued (h.1 f);
  }
  holds_at k (Band c t s) l e leaf h = h.1
  holds_at k (Excl x) l e leaf h = h.1
  holds_at k (Empty i) l e leaf h = h.1

  bounding_at : (box : List Span) (node : Node) → IsSettled task (plan_in growth.best) box node
      → IsBounding task.value task.inst task.lists task.worths (plan_in growth.best) box node
  bounding_at box (Split i m) h = tt
  bounding_at box (Cost j) h = record { unrefuted = h.unrefuted; list = h.list; single = λ s. absurd (h.several s) }
  bounding_at box Point h = h.1
  bounding_at box (Band c t s) h = tt
  bounding_at box (Excl x) h = tt
  bounding_at box (Empty i) h = tt

  range_at : (best : Option (List ℕ)) (box : List Span) (node : Node) → IsLeafNode node → IsSettled task best box node
      → IsLeafInRange task.inst task.lists node
  range_at best box (Split i m) leaf h = leaf
  range_at best box (Cost j) leaf h = h.list.number
  range_at best box Point leaf h = tt
  range_at best box (Band c t s) leaf h = h.0
  range_at best box (Excl x) leaf h = h.0
  range_at best box (Empty i) leaf h = h.0

  -- the tree stands over the box of all starts
  pub root_is : box_at g.state.boxes (top g.state.shape) ≡ root_box task.inst
  root_is = ap (box_at g.state.boxes) g.state.is_shape.root ∙ g.state.are_boxes.root

  each : (P : Leaf → Type 0)
      → ((k : ℕ) → k < length growth.cells.items → IsLeafNode (node_at growth.cells.items k)
      → P (record { box = box_at g.state.boxes k; node = node_at growth.cells.items k }))
      → All P (leaves (root_box task.inst) (tree_of growth.cells.items g.state.shape))
  each P h = subst (λ (b : List Span). All P (leaves b (tree_of growth.cells.items g.state.shape))) root_is
      (each_leaf task.inst growth.cells.items g.state.boxes g.state.are_boxes P h g.state.shape
      g.state.is_shape.stands g.state.is_shape.within)

  -- a `cost` leaf among them
  one_of : (P : Leaf → Type 0) (k j : ℕ) → k < length growth.cells.items → node_at growth.cells.items k ≡ Cost j
      → P (record { box = box_at g.state.boxes k; node = node_at growth.cells.items k })
      → Any P (leaves (root_box task.inst) (tree_of growth.cells.items g.state.shape))
  one_of P k j l e h = subst (λ (b : List Span). Any P (leaves b (tree_of growth.cells.items g.state.shape))) root_is
      (some_leaf task.inst growth.cells.items g.state.boxes g.state.are_boxes P k
      (subst IsLeafNode (sym e) tt) h g.state.shape g.state.is_shape.stands g.state.is_shape.within
      (omega (arith, g.state.is_shape.once k l)))

  -- a `cost` leaf is one that waits
  each_cost : All (λ leaf. (j : ℕ) → leaf.node ≡ Cost j
      → (k : ℕ) × Contains (growth.waiting ++ g.aside) (task.worths leaf.box j, k))
      (leaves (root_box task.inst) (tree_of growth.cells.items g.state.shape))
  each_cost = each (λ leaf. (j : ℕ) → leaf.node ≡ Cost j
      → (k : ℕ) × Contains (growth.waiting ++ g.aside) (task.worths leaf.box j, k))
      (λ k l leaf j e. (k, waits k j l e))

  among_reaches : (y : ℤ) → IsAmong task.value task.inst task.worths (plan_in growth.best)
      (leaves (root_box task.inst) (tree_of growth.cells.items g.state.shape)) y → IsAtLeast (bound_with left
      growth.best) y
  among_reaches y (inl (plan, e, v)) = value_reaches task.value task.inst growth.best left (growth.waiting ++ g.aside)
      y some
      g.valued
      (subst (λ (o : Option (List ℕ)). IsReached task.value task.inst o y) (sym e)
      (subst (λ (x : ℤ). task.value task.inst plan ≤ℤ x) v (omega (arith, signed_arith))))
  among_reaches y (inr (k, leaf, l, e, w)) =
      let c = subst (λ (x : Leaf). (j : ℕ) → x.node ≡ Cost j
      → (k : ℕ) × Contains (growth.waiting ++ g.aside) (task.worths x.box j, k)) e
      (each_cost k leaf l) w.list w.node in
      subst (IsAtLeast (bound_with left growth.best)) w.worth
      (cost_reaches growth.best left (growth.waiting ++ g.aside) (task.worths leaf.box w.list) c.0
      some none c.1)

  -- the leaf that is left
  left_leaf : (z : ℤ) → IsLeftWorth growth.best (growth.waiting ++ g.aside) z → (P : Leaf → Type 0)
      → ((k j : ℕ) → k < length growth.cells.items → node_at growth.cells.items k ≡ Cost j
      → z ≡ task.worths (box_at g.state.boxes k) j
      → P (record { box = box_at g.state.boxes k; node = node_at growth.cells.items k }))
      → Any P (leaves (root_box task.inst) (tree_of growth.cells.items g.state.shape))
  left_leaf z w P h =
      let s = All-contains (λ (e : ℤ × ℕ). IsEntry task growth.cells.items g.state.boxes e) (growth.waiting ++ g.aside)
      (z, w.number) g.state.waits.sound w.member in
      one_of P w.number s.list s.within s.node (h w.number s.list s.within s.node s.worth)

  -- its nodes
  pub of_tree : AreNodesOf task.inst task.lists (root_box task.inst) (tree_of growth.cells.items g.state.shape)
      (map (node_at growth.cells.items) (numbers g.state.shape))
  of_tree = record {
    order = order_is growth.cells.items g.state.shape g.state.is_shape.stands;
    in_range = subst
        (λ (b : List Span). IsTreeInRange task.inst task.lists b (tree_of growth.cells.items g.state.shape)) root_is
        (in_range task.inst growth.cells.items g.state.boxes g.state.are_boxes task.lists
        (λ k l leaf. range_at (plan_in growth.best) (box_at g.state.boxes k) (node_at growth.cells.items k) leaf
        (g.state.settled k l)) g.state.shape g.state.is_shape.stands g.state.is_shape.within);
  }

  pub few_of : length (split_boxes (root_box task.inst) (tree_of growth.cells.items g.state.shape))
      ≡ splits_before task + growth.splits
  few_of = splits_are growth.cells.items (root_box task.inst) g.state.shape ∙ g.state.splits_are

-- ---- the bound
abbrev AmongOf : Task → Option Best → List Leaf → ℤ → Type 0
AmongOf task best ls = IsAmong task.value task.inst task.worths (plan_in best) ls

least_of : (task : Task) (best : Option Best) (left : Option ℤ) (ls : List Leaf)
    → IsValued task.value task.inst best
    → ((z : ℤ) → left ≡ Some z → Any (IsCostOf task.worths z) ls)
    → ((y : ℤ) → AmongOf task best ls y → IsAtLeast (bound_with left best) y)
    → IsLeastOf (AmongOf task best ls) (bound_with left best)
least_of task best (Some z) ls v some h = (inr (some z refl), h)
least_of task None None ls v some h = h
least_of task (Some b) None ls v some h = (inl (b.starts, refl, sym v.is), h)

finished_of : (value : PlanValue) (inst : Tables) (best : Option Best) (left : Option ℤ) → IsValued value inst best
    → OnFalse (is_some left) (bound_with left best ≡ bound_of value inst (plan_in best))
finished_of value inst best (Some z) v = tt
finished_of value inst None None v = refl
finished_of value inst (Some b) None v = ap Least v.is

spent_of : (left : Option ℤ) (P : Type 0) → ((z : ℤ) → left ≡ Some z → P) → IsTrue (is_some left) → P
spent_of (Some z) P h t = h z refl
spent_of None P h t = absurd (false≢true t)

left_of : (left : Option ℤ) (P : ℤ → Type 0) (z : ℤ) → left ≡ Some z → IfSome left P → P z
left_of left P z e h = subst (λ (o : Option ℤ). IfSome o P) e h

unfinished_of : (left : Option ℤ) (P Q : Type 0) → IfNone left Q → (Q → P → ⊥) → P → IsTrue (is_some left)
unfinished_of (Some z) P Q none h p = refl
unfinished_of None P Q none h p = absurd (h none p)

-- ---- a floor of the last state
reaches_floor : (task : Task) (growth : Growth) (boxes : List (List Span)) (left : Option ℤ) (b : ℤ)
    → IsValued task.value task.inst growth.best
    → IsFloor task growth.cells.items boxes (plan_in growth.best) (Least b)
    → ((z : ℤ) → left ≡ Some z → b ≤ℤ z) → Reaches (bound_with left growth.best) b
reaches_floor task growth boxes left b v h some =
    at growth.best left v h.under_best some
  where
    at : (best : Option Best) (left : Option ℤ) → IsValued task.value task.inst best
        → ((plan : List ℕ) → plan_in best ≡ Some plan → b ≤ℤ task.value task.inst plan)
        → ((z : ℤ) → left ≡ Some z → b ≤ℤ z) → Reaches (bound_with left best) b
    at best (Some z) v h some = some z refl
    at None None v h some = tt
    at (Some best) None v h some = subst (λ (x : ℤ). b ≤ℤ x) (sym v.is) (h best.starts refl)

none_is_floor : (task : Task) (growth : Growth) (boxes : List (List Span)) (left : Option ℤ)
    → IsFloor task growth.cells.items boxes (plan_in growth.best) NoPlan
    → ((z : ℤ) → left ≡ Some z → ⊥) → bound_with left growth.best ≡ NoPlan
none_is_floor task growth boxes left h some = at growth.best left h.under_best some
  where
    at : (best : Option Best) (left : Option ℤ)
        → ((plan : List ℕ) → plan_in best ≡ Some plan → ⊥) → ((z : ℤ) → left ≡ Some z → ⊥)
        → bound_with left best ≡ NoPlan
    at best (Some z) h some = absurd (some z refl)
    at None None h some = refl
    at (Some best) None h some = absurd (h best.starts refl)

-- ---- the answer of these parts
abbrev answer_of : Bound → List Node → Option (List ℕ) → Bool → SearchEnd
answer_of b n p u = record { bound = b; nodes = n; best = p; unfinished = u }

module _ (task : Task) (part : Part) (growth : Growth) (g : IsGrowth task part growth) (left : Option ℤ)
    (some : IfSome left (IsLeftWorth growth.best (growth.waiting ++ g.aside)))
    (none : IfNone left (NoneIsLeft growth.best (growth.waiting ++ g.aside))) where
  left_floor : (bound : Bound) (z : ℤ) → IsLeftWorth growth.best (growth.waiting ++ g.aside) z
      → IsFloor task growth.cells.items g.state.boxes (plan_in growth.best) bound → IsAtLeast bound z
  left_floor bound z w h =
      let s = All-contains (λ (e : ℤ × ℕ). IsEntry task growth.cells.items g.state.boxes e) (growth.waiting ++ g.aside)
      (z, w.number) g.state.waits.sound w.member in
      subst (IsAtLeast bound) (sym s.worth) (h.under_costs w.number s.list s.within s.node)

  -- the bound is no lower than one that the given tree proves
  pub no_lower : (b : ℤ) → IsProved task.value task.inst (given_claim task (Least b))
      → Reaches (bound_with left growth.best) b
  no_lower b h =
      let floor = g.state.floors (Least b) h in
      reaches_floor task growth g.state.boxes left b g.valued floor
      (λ z e. left_floor (Least b) z (left_of left (IsLeftWorth growth.best (growth.waiting ++ g.aside)) z e some)
      floor)

  pub no_plan : IsProved task.value task.inst (given_claim task NoPlan) → bound_with left growth.best ≡ NoPlan
  no_plan h =
      let floor = g.state.floors NoPlan h in
      none_is_floor task growth g.state.boxes left floor
      (λ z e. left_floor NoPlan z (left_of left (IsLeftWorth growth.best (growth.waiting ++ g.aside)) z e some) floor)

  module _ (turns : ℕ) (few : growth.splits ≤ turns)
      (spent : (z : ℤ) → IsLeftWorth growth.best (growth.waiting ++ g.aside) z → growth.splits ≡ turns) where
    searched_of : IsSearchedBy task.value task.inst task.lists task.worths task.incumbent (splits_before task) turns
        (answer_of (bound_with left growth.best) (map (node_at growth.cells.items) (numbers g.state.shape))
        (plan_in growth.best) (is_some left))
    searched_of = record {
      tree = tree_of growth.cells.items g.state.shape;
      of_nodes = of_tree task part growth g left some none;
      holds = each task part growth g left some none
          (λ leaf. LeafHolds task.value task.inst (bound_with left growth.best) task.worths leaf.box leaf.node)
          (λ k l leaf. holds_at task part growth g left some none k (node_at growth.cells.items k) l refl leaf
          (g.state.settled k l));
      stay = omega (arith, few_of task part growth g left some none);
      few = omega (arith, few, few_of task part growth g left some none);
      bounding = each task part growth g left some none
          (λ leaf. IsBounding task.value task.inst task.lists task.worths (plan_in growth.best) leaf.box leaf.node)
          (λ k l leaf. bounding_at task part growth g left some none (box_at g.state.boxes k)
          (node_at growth.cells.items k) (g.state.settled k l));
      best = g.state.best_is;
      bound = least_of task growth.best left (leaves (root_box task.inst) (tree_of growth.cells.items g.state.shape))
          g.valued
          (λ z e. left_leaf task part growth g left some none z
          (left_of left (IsLeftWorth growth.best (growth.waiting ++ g.aside)) z e some)
          (IsCostOf task.worths z)
          (λ k j l f s. record { list = j; node = f; worth = sym s }))
          (among_reaches task part growth g left some none);
      unfinished = (
        λ t. spent_of left (Any (IsUnfinishedLeaf task.value task.inst task.worths (plan_in growth.best))
            (leaves (root_box task.inst) (tree_of growth.cells.items g.state.shape))) (λ z e.
            let w = left_of left (IsLeftWorth growth.best (growth.waiting ++ g.aside)) z e some in
            left_leaf task part growth g left some none z w
            (IsUnfinishedLeaf task.value task.inst task.worths (plan_in growth.best))
            (λ k j l f s. record {
              list = j;
              node = f;
              several = (subst (IsSettled task (plan_in growth.best) (box_at g.state.boxes k)) f
                  (g.state.settled k l)).several;
              short = subst (IsShort task.value task.inst (plan_in growth.best)) s
                  (below_short task.value task.inst growth.best z g.valued w.below);
            })) t,
        unfinished_of left (Any (IsUnfinishedLeaf task.value task.inst task.worths (plan_in growth.best))
            (leaves (root_box task.inst) (tree_of growth.cells.items g.state.shape))) (NoneIsLeft growth.best
            (growth.waiting ++ g.aside)) none
            (λ q u. none_unfinished q u),
      );
      spent = spent_of left (length (split_boxes (root_box task.inst) (tree_of growth.cells.items g.state.shape))
          ≡ splits_before task + turns)
          (λ z e. few_of task part growth g left some none ∙ ap (λ (n : ℕ). splits_before task + n)
          (spent z (left_of left (IsLeftWorth growth.best (growth.waiting ++ g.aside)) z e some)));
      finished = finished_of task.value task.inst growth.best left g.valued;
    }
      where
        none_unfinished : NoneIsLeft growth.best (growth.waiting ++ g.aside)
            → Any (IsUnfinishedLeaf task.value task.inst task.worths (plan_in growth.best))
            (leaves (root_box task.inst) (tree_of growth.cells.items g.state.shape)) → ⊥
        none_unfinished q (k, leaf, l, e, u) =
            let c = subst (λ (x : Leaf). (j : ℕ) → x.node ≡ Cost j
            → (k : ℕ) × Contains (growth.waiting ++ g.aside) (task.worths x.box j, k)) e
            (each_cost task part growth g left some none k leaf l) u.list u.node in
            none_short task.value task.inst growth.best (growth.waiting ++ g.aside) (task.worths leaf.box u.list) c.0 q
            g.valued c.1
            u.short

    pub searched : (answer : SearchEnd) → answer.bound ≡ bound_with left growth.best
        → answer.nodes ≡ map (node_at growth.cells.items) (numbers g.state.shape)
        → answer.best ≡ plan_in growth.best → answer.unfinished ≡ is_some left
        → IsSearchedBy task.value task.inst task.lists task.worths task.incumbent (splits_before task) turns answer
    searched answer b n p u = subst
        (IsSearchedBy task.value task.inst task.lists task.worths task.incumbent (splits_before task) turns)
        (sym same) searched_of
      where
        same : answer ≡ answer_of (bound_with left growth.best)
            (map (node_at growth.cells.items) (numbers g.state.shape)) (plan_in growth.best) (is_some left)
        same = ap (λ (x : Bound). answer_of x answer.nodes answer.best answer.unfinished) b
            ∙ ap (λ (x : List Node). answer_of (bound_with left growth.best) x answer.best answer.unfinished) n
            ∙ ap (λ (x : Option (List ℕ)). answer_of (bound_with left growth.best)
            (map (node_at growth.cells.items) (numbers g.state.shape)) x answer.unfinished) p
            ∙ ap (λ (x : Bool). answer_of (bound_with left growth.best)
            (map (node_at growth.cells.items) (numbers g.state.shape)) (plan_in growth.best) x) u
