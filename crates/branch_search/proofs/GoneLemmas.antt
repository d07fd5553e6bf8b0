-- What the last state shows of the part that was searched: the statement.
use Rattle.std.proofs.Common.{◌≡◌, ℕ, ◌+◌, ◌%◌, ◌<◌, ◌≤◌, ◌⊎◌, inl, inr, refl, sym, ◌∙◌, ap, subst, arith, ℤ}
use Rattle.std.proofs.Common.{List, ◌∷◌, ◌++◌, length, All, Contains, Option, IsTrue, true, false, ◌≤ℤ◌}
use Rattle.std.specs.Prelude.{Any}
use Rattle.std.proofs.Math.Nat.{mod-lt}
use Rattle.std.proofs.lemmas.Bool.{cases_Bool, cases_lt}
use Rattle.std.proofs.lemmas.List.Elements.{All-contains, Contains-append_cases}
use Rattle.instance_model.specs.Naturals.{count_product}
use Rattle.instance_model.specs.Tables.{Tables, tmax}
use Rattle.instance_model.specs.Fitting.{IsFitting}
use Rattle.lagrange_bound.specs.declared.span.Span.{Span}
use Rattle.lagrange_bound.specs.Goals.{PlanValue}
use Rattle.certificate_tree.specs.declared.node.Node.{Node}
use Rattle.certificate_tree.specs.declared.node.Node.TheVariants.{Split, Cost}
use Rattle.certificate_tree.specs.Trees.{Tree, leaf, split, pre_order, Leaf, leaves, root_box, below, above}
use Rattle.certificate_tree.specs.Ranges.{AreNodesOf}
use Rattle.certificate_tree.specs.Holding.{Worths}
use Rattle.certificate_tree.proofs.OneTree.{nodes_are_one_tree}
use Rattle.branch_search.specs.declared.part.Part.{Part}
use Rattle.branch_search.specs.declared.tree.growth.Growth.{Growth}
use Rattle.branch_search.specs.declared.search_end.SearchEnd.{SearchEnd}
use Rattle.branch_search.specs.Splits.{split_boxes, split_count}
use Rattle.branch_search.specs.Best.{IsNumber}
use Rattle.branch_search.specs.Searched.{IsSplitBox, IsCostOf, IsAmong, IsLeastOf, IsUnfinishedLeaf, IsSearchedBy}
use Rattle.branch_search.specs.Tasks.{Task, splits_before}
use Rattle.branch_search.specs.Parts.{IsOfPart, whole_part, leaf_total, GoesOnFrom, AnyBeneath, IsLeftToOthers}
use Rattle.branch_search.specs.Parts.{AllSplitBeneath, IsAmongPart, IsGoneOnBy}
use Rattle.branch_search.specs.Growing.{node_at, box_at, IsLeafNode}
use Rattle.branch_search.specs.Shapes.{tree_of}
use Rattle.branch_search.specs.Valued.{plan_in}
use Rattle.branch_search.specs.Parted.{IsNoEntry}
use Rattle.branch_search.specs.States.{IsUnder, IsOpened, IsGrowth, NoneIsLeft, IsAnswerOf}
use Rattle.branch_search.proofs.VolumeLemmas.{any_parts, too_few}
use Rattle.branch_search.proofs.EndLemmas.{none_short, of_tree, root_is, few_of, searched}
use Rattle.branch_search.proofs.PartLemmas.{goes_on, of_beneath, split_beneath}

-- ---- the one part of all leaves

pub all_of_one : (part : Part) → part.number < part.count → part.count ≤ 1 → (n : ℕ) → IsOfPart part n
all_of_one part l m n = let h : n % part.count < part.count = mod-lt n (omega (arith, l)) in omega (arith, l, m, h)

-- where each leaf may be split, a leaf of the tree stands beneath one
pub beneath_any : (may : ℕ → Type 0) (Such : Leaf → Type 0) (n : ℕ) (box : List Span) (t u : Tree)
    → ((k : ℕ) → may k) → GoesOnFrom may n t u → Any Such (leaves box u) → AnyBeneath may Such n box t u
beneath_any may Such n box (leaf a) u m g h = (m n, h)
beneath_any may Such n box (split i q l r) (leaf b) m g h = absurd g
beneath_any may Such n box (split i q l r) (split j k x y) m g h =
    at (λ o. beneath_any may Such n (below box j k) l x m g.2 o)
    (λ o. beneath_any may Such (n + leaf_total l) (above box j k) r y m g.3 o)
    (any_parts Such (leaves (below box j k) x) (leaves (above box j k) y) h)
  where
    at : (Any Such (leaves (below box j k) x) → AnyBeneath may Such n (below box j k) l x)
        → (Any Such (leaves (above box j k) y) → AnyBeneath may Such (n + leaf_total l) (above box j k) r y)
        → Any Such (leaves (below box j k) x) ⊎ Any Such (leaves (above box j k) y)
        → AnyBeneath may Such n (below box j k) l x ⊎ AnyBeneath may Such (n + leaf_total l) (above box j k) r y
    at il ir (inl o) = inl (il o)
    at il ir (inr o) = inr (ir o)

-- a tree without splits has only new ones
all_beneath : (P : List Span → Type 0) (box : List Span) (t u : Tree) → split_count (pre_order t) ≡ 0
    → AllSplitBeneath P box t u → All P (split_boxes box u)
all_beneath P box (leaf a) u e h = h
all_beneath P box (split i m l r) u e h =
    absurd (let z : split_count (Split i m ∷ (pre_order l ++ pre_order r)) ≡ 0 = e in omega (arith, z))

-- ---- the last state

module _ (task : Task) (part : Part) (growth : Growth) (g : IsGrowth task part growth) (turns : ℕ) (answer : SearchEnd)
    (fits : IsFitting task.inst) (some : part.number < part.count) (a : IsAnswerOf growth g.aside answer)
    (few : growth.splits ≤ turns) (spent : (growth.splits ≡ turns) ⊎ NoneIsLeft growth.best growth.waiting) where
  by : IsSearchedBy task.value task.inst task.lists task.worths task.incumbent (splits_before task) growth.splits answer
  by = searched task part growth g a.left a.some a.none growth.splits (omega arith) (λ z w. refl) answer a.bound
      (a.nodes g.state.shape g.state.is_shape) a.best a.unfinished

  abbrev tree : Tree
  tree = tree_of growth.cells.items g.state.shape

  tree_is : tree ≡ by.tree
  tree_is = nodes_are_one_tree task.inst task.lists (root_box task.inst) answer.nodes tree by.tree
      (subst (λ (ns : List Node). AreNodesOf task.inst task.lists (root_box task.inst) tree ns)
      (sym (a.nodes g.state.shape g.state.is_shape)) (of_tree task part growth g a.left a.some a.none)) by.of_nodes

  made : length (split_boxes (root_box task.inst) by.tree) ≡ splits_before task + growth.splits
  made = subst (λ (t : Tree). length (split_boxes (root_box task.inst) t) ≡ splits_before task + growth.splits) tree_is
      (few_of task part growth g a.left a.some a.none)

  -- what is known of a number that was split
  abbrev was_split : ℕ → Type 0
  was_split k = IsOpened task (plan_in growth.best) growth.waiting (box_at g.state.boxes k)

  stays : GoesOnFrom (IsOfPart part) 0 g.given by.tree
  stays = subst (GoesOnFrom (IsOfPart part) 0 g.given) tree_is
      (goes_on (IsOfPart part) was_split growth.cells.items growth.waiting g.aside g.seen 0 g.given g.state.shape
      g.state.continues)

  -- a leaf whose number is not set aside waits
  waits : (k : ℕ) → k < length growth.cells.items → IsLeafNode (node_at growth.cells.items k) → IsNoEntry g.aside k
      → (j : ℕ) → node_at growth.cells.items k ≡ Cost j
      → (n : ℕ) × Contains growth.waiting (task.worths (box_at g.state.boxes k) j, n)
  waits k l plain apart j e = at (Contains-append_cases growth.waiting g.aside
      (task.worths (box_at g.state.boxes k) j, k) (g.state.waits.complete k j l e))
    where
      at : Contains growth.waiting (task.worths (box_at g.state.boxes k) j, k)
          ⊎ Contains g.aside (task.worths (box_at g.state.boxes k) j, k)
          → (n : ℕ) × Contains growth.waiting (task.worths (box_at g.state.boxes k) j, n)
      at (inl c) = (k, c)
      at (inr c) = absurd (All-contains (λ (x : ℤ × ℕ). x.1 ≡ k → ⊥) g.aside
          (task.worths (box_at g.state.boxes k) j, k) apart c refl)

  abbrev Unfinished : Option (List ℕ) → Leaf → Type 0
  Unfinished best = IsUnfinishedLeaf task.value task.inst task.worths best

  none_beneath : NoneIsLeft growth.best growth.waiting
      → AnyBeneath (IsOfPart part) (Unfinished (plan_in growth.best)) 0 (root_box task.inst) g.given tree → ⊥
  none_beneath none h =
      of_beneath (IsOfPart part) was_split growth.cells.items growth.waiting g.aside g.seen task.inst g.state.boxes
      g.state.are_boxes
      (λ (x : Leaf). (j : ℕ) → x.node ≡ Cost j → (n : ℕ) × Contains growth.waiting (task.worths x.box j, n))
      waits ⊥ (Unfinished (plan_in growth.best))
      (λ x u c. let w = c u.list u.node in none_short task.value task.inst growth.best growth.waiting
      (task.worths x.box u.list) w.0 none g.valued w.1 u.short)
      0 g.given g.state.shape g.state.is_shape.stands g.state.is_shape.within g.state.continues
      (subst (λ (b : List Span). AnyBeneath (IsOfPart part) (Unfinished (plan_in growth.best)) 0 b g.given tree)
      (sym (root_is task part growth g a.left a.some a.none)) h)

  done : NoneIsLeft growth.best growth.waiting
      → AnyBeneath (IsOfPart part) (Unfinished answer.best) 0 (root_box task.inst) g.given by.tree → ⊥
  done none h = none_beneath none
      (subst (λ (t : Tree). AnyBeneath (IsOfPart part) (Unfinished (plan_in growth.best)) 0 (root_box task.inst) g.given
      t) (sym tree_is)
      (subst (λ (b : Option (List ℕ)). AnyBeneath (IsOfPart part) (Unfinished b) 0 (root_box task.inst) g.given by.tree)
      a.best h))

  others : NoneIsLeft growth.best growth.waiting → IsTrue answer.unfinished → 1 < part.count
  others none still = at (cases_lt 1 part.count)
    where
      at : (1 < part.count) ⊎ (part.count ≤ 1) → 1 < part.count
      at (inl l) = l
      at (inr l) = absurd (done none (beneath_any (IsOfPart part) (Unfinished answer.best) 0 (root_box task.inst)
          g.given
          by.tree (all_of_one part some l) stays (by.unfinished.0 still)))

  -- ---- the boxes that were split

  -- z is the value of a best plan, or the worth of a `cost` leaf of the part, in a tree that goes on from the given one
  abbrev Among : Option (List ℕ) → Tree → ℤ → Type 0
  Among best t = IsAmongPart task.value task.inst task.worths best part g.given t

  abbrev SplitBoxOf : (ℤ → Type 0) → List Span → Type 0
  SplitBoxOf among = IsSplitBox task.value task.inst task.lists task.worths task.incumbent among

  under_among : (z y : ℤ) → IsUnder task (plan_in growth.best) growth.waiting y → Among (plan_in growth.best) tree z
      → y ≤ℤ z
  under_among z y h (inl (plan, e, v)) = subst (λ (x : ℤ). y ≤ℤ x) v (h.under_best plan e)
  under_among z y h (inr u) =
      of_beneath (IsOfPart part) was_split growth.cells.items growth.waiting g.aside g.seen task.inst g.state.boxes
      g.state.are_boxes
      (λ (x : Leaf). (j : ℕ) → x.node ≡ Cost j → (n : ℕ) × Contains growth.waiting (task.worths x.box j, n))
      waits (y ≤ℤ z) (IsCostOf task.worths z)
      (λ x c w. let found = w c.list c.node in subst (λ (b : ℤ). y ≤ℤ b) c.worth
      (All-contains (λ (e : ℤ × ℕ). y ≤ℤ e.0) growth.waiting (task.worths x.box c.list, found.0) h.under_waiting
      found.1))
      0 g.given g.state.shape g.state.is_shape.stands g.state.is_shape.within g.state.continues
      (subst (λ (b : List Span). AnyBeneath (IsOfPart part) (IsCostOf task.worths z) 0 b g.given tree)
      (sym (root_is task part growth g a.left a.some a.none)) u)

  splits_beneath : AllSplitBeneath (SplitBoxOf (Among (plan_in growth.best) tree)) (root_box task.inst) g.given tree
  splits_beneath = subst
      (λ (b : List Span). AllSplitBeneath (SplitBoxOf (Among (plan_in growth.best) tree)) b g.given tree)
      (root_is task part growth g a.left a.some a.none)
      (split_beneath (IsOfPart part) was_split growth.cells.items growth.waiting g.aside g.seen task.inst g.state.boxes
      g.state.are_boxes (SplitBoxOf (Among (plan_in growth.best) tree))
      (λ k l h. record {
        unrefuted = h.unrefuted;
        below_given = h.below_given;
        at_most = λ j z s w. under_among z (task.worths (box_at g.state.boxes k) j) (h.under j s) w;
      })
      0 g.given g.state.shape g.state.is_shape.stands g.state.is_shape.within g.state.continues)

  new_splits : AllSplitBeneath (SplitBoxOf (Among answer.best by.tree)) (root_box task.inst) g.given by.tree
  new_splits = subst
      (λ (b : Option (List ℕ)). AllSplitBeneath (SplitBoxOf (Among b by.tree)) (root_box task.inst) g.given by.tree)
      (sym a.best)
      (subst (λ (t : Tree). AllSplitBeneath (SplitBoxOf (Among (plan_in growth.best) t)) (root_box task.inst) g.given
      t) tree_is splits_beneath)

  -- ---- when the search stopped

  when_spent : IsTrue answer.unfinished → (growth.splits ≡ turns)
      ⊎ IsLeftToOthers task.value task.inst task.worths answer.best part g.given by.tree
  when_spent still = at spent
    where
      at : (growth.splits ≡ turns) ⊎ NoneIsLeft growth.best growth.waiting → (growth.splits ≡ turns)
          ⊎ IsLeftToOthers task.value task.inst task.worths answer.best part g.given by.tree
      at (inl e) = inl e
      at (inr none) = inr (record { others = others none still; done = done none })

  when_enough : count_product (length task.inst.names) (tmax task.inst) ≤ splits_before task + turns + 1
      → IsTrue answer.unfinished
      → IsLeftToOthers task.value task.inst task.worths answer.best part g.given by.tree
  when_enough enough still = at (when_spent still)
    where
      at : (growth.splits ≡ turns) ⊎ IsLeftToOthers task.value task.inst task.worths answer.best part g.given by.tree
          → IsLeftToOthers task.value task.inst task.worths answer.best part g.given by.tree
      at (inl e) =
          let w = by.unfinished.0 still in
          let v = too_few task.inst task.lists by.tree fits by.of_nodes.in_range (w.0, w.1, w.2, w.3, w.4.several) in
          absurd (omega (arith, v, made, e, enough))
      at (inr o) = o

  pub gone_on : IsGoneOnBy task.value task.inst task.lists task.worths task.incumbent task.given part turns answer
  gone_on = record {
    splits = growth.splits;
    by = by;
    made = made;
    few = few;
    given = g.given;
    of_nodes = g.of_nodes;
    stays = stays;
    new_splits = new_splits;
    spent = when_spent;
    enough = when_enough;
  }

-- ---- where each leaf may be split

module _ (value : PlanValue) (inst : Tables) (lists : ℕ) (worths : Worths) (incumbent : Option (List ℕ))
    (nodes : List Node) (turns : ℕ) (answer : SearchEnd)
    (h : IsGoneOnBy value inst lists worths incumbent nodes whole_part turns answer) where
  pub no_others : IsLeftToOthers value inst worths answer.best whole_part h.given h.by.tree → ⊥
  no_others o = let l = o.others in omega (arith, l)

  abbrev pub whole_searched : IsSearchedBy value inst lists worths incumbent (split_count nodes) turns answer
  whole_searched = record {
    tree = h.by.tree;
    of_nodes = h.by.of_nodes;
    holds = h.by.holds;
    stay = h.by.stay;
    few = let m = h.made in let f = h.few in omega (arith, m, f);
    bounding = h.by.bounding;
    best = h.by.best;
    bound = h.by.bound;
    unfinished = h.by.unfinished;
    spent = λ still. at (h.spent still);
    finished = h.by.finished;
  }
    where
      at : (h.splits ≡ turns) ⊎ IsLeftToOthers value inst worths answer.best whole_part h.given h.by.tree
          → length (split_boxes (root_box inst) h.by.tree) ≡ split_count nodes + turns
      at (inl e) = h.made ∙ ap (λ (n : ℕ). split_count nodes + n) e
      at (inr o) = absurd (no_others o)

  -- of a tree of one leaf each split is a new one, and no worth of it is above the bound
  pub whole_splits : split_count nodes ≡ 0
      → All (IsSplitBox value inst lists worths incumbent (IsNumber answer.bound)) (split_boxes (root_box inst)
      h.by.tree)
  whole_splits none k d l =
      let here = all_beneath (IsSplitBox value inst lists worths incumbent
      (IsAmongPart value inst worths answer.best whole_part h.given h.by.tree)) (root_box inst) h.given h.by.tree
      (ap split_count h.of_nodes.order ∙ none) h.new_splits k d l in
      record {
        unrefuted = here.unrefuted;
        below_given = here.below_given;
        at_most = λ j z s e. here.at_most j z s (among z (subst (IsLeastOf (IsAmong value inst worths answer.best
            (leaves (root_box inst) h.by.tree))) e h.by.bound).0);
      }
    where
      among : (z : ℤ) → IsAmong value inst worths answer.best (leaves (root_box inst) h.by.tree) z
          → IsAmongPart value inst worths answer.best whole_part h.given h.by.tree z
      among z (inl w) = inl w
      among z (inr w) = inr (beneath_any (IsOfPart whole_part) (IsCostOf worths z) 0 (root_box inst) h.given h.by.tree
          (all_of_one whole_part (omega arith) (omega arith)) h.stays w)

  pub whole_enough : count_product (length inst.names) (tmax inst) ≤ split_count nodes + turns + 1
      → answer.unfinished ≡ false
  whole_enough enough = at (cases_Bool answer.unfinished)
    where
      at : (answer.unfinished ≡ true) ⊎ (answer.unfinished ≡ false) → answer.unfinished ≡ false
      at (inl still) = absurd (no_others (h.enough enough still))
      at (inr e) = e
