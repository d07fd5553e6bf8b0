-- What is searched of a part by some worths is searched of it by the same ones.
use Rattle.std.proofs.Common.{◌≡◌, ◌∙◌, ℕ, ◌+◌, ◌⊎◌, inl, inr, sym, subst, ℤ, ◌<ℤ◌, ◌≤ℤ◌, List, ◌++◌, length, get_or}
use Rattle.std.proofs.Common.{All, Option, IsTrue}
use Rattle.std.proofs.lemmas.List.Elements.{All-nil, All-cons, All-append}
use Rattle.instance_model.specs.Tables.{Tables}
use Rattle.instance_model.specs.Fitting.{IsFitting}
use Rattle.lagrange_bound.specs.declared.span.Span.{Span}
use Rattle.lagrange_bound.specs.Goals.{PlanValue}
use Rattle.lagrange_bound.specs.Boxes.{IsBox}
use Rattle.certificate_tree.specs.declared.node.Node.{Node}
use Rattle.certificate_tree.specs.Trees.{Tree, leaf, split, Leaf, leaves, root_box, below, above}
use Rattle.certificate_tree.specs.Ranges.{IsTreeInRange}
use Rattle.certificate_tree.specs.Holding.{Worths}
use Rattle.certificate_tree.specs.Validity.{AreSameWorths}
use Rattle.certificate_tree.proofs.RootLemmas.{root_is_box, parts_are_boxes}
use Rattle.certificate_tree.proofs.OneTree.{nodes_are_one_tree}
use Rattle.certificate_tree.proofs.LeafLemmas.{leaves_in_range}
use Rattle.branch_search.specs.declared.part.Part.{Part}
use Rattle.branch_search.specs.declared.search_end.SearchEnd.{SearchEnd}
use Rattle.branch_search.specs.Splits.{split_boxes, split_count}
use Rattle.branch_search.specs.Best.{IsShort}
use Rattle.branch_search.specs.Searched.{IsSplitBox, IsBounding, IsCostOf, IsUnfinishedLeaf, IsSearchedBy}
use Rattle.branch_search.specs.Parts.{IsOfPart, leaf_total, GoesOnFrom, AnyBeneath, AllSplitBeneath, IsAmongPart}
use Rattle.branch_search.specs.Parts.{IsLeftToOthers, IsGoneOnBy}
use Rattle.branch_search.proofs.EntryLemmas.{all_front, all_back}
use Rattle.branch_search.proofs.SameLemmas.{same_named, searched_same}

-- the boxes of splits are boxes of the instance
splits_are_boxes : (inst : Tables) (lists : ℕ) (box : List Span) (t : Tree) → IsBox inst box
    → IsTreeInRange inst lists box t → All (IsBox inst) (split_boxes box t)
splits_are_boxes inst lists box (leaf n) b r = All-nil (IsBox inst)
splits_are_boxes inst lists box (split i m l x) b r =
    let parts = parts_are_boxes inst box i m b r.0 in
    All-cons (IsBox inst) box (split_boxes (below box i m) l ++ split_boxes (above box i m) x) b
    (All-append (IsBox inst) (split_boxes (below box i m) l) (split_boxes (above box i m) x)
    (splits_are_boxes inst lists (below box i m) l parts.0 r.1)
    (splits_are_boxes inst lists (above box i m) x parts.1 r.2))

-- one leaf beneath stays one, where each leaf of one kind that meets what all meet is one of the other
beneath_more : (may : ℕ → Type 0) (Such Also Other : Leaf → Type 0) (n : ℕ) (box : List Span) (t u : Tree)
    → ((x : Leaf) → Also x → Such x → Other x) → All Also (leaves box u) → AnyBeneath may Such n box t u
    → AnyBeneath may Other n box t u
beneath_more may Such Also Other n box (leaf a) u so all (m, (k, x, l, e, s)) =
    (m, (k, x, l, e, so x (subst Also e (all k x l)) s))
beneath_more may Such Also Other n box (split i q l r) (leaf b) so all h = absurd h
beneath_more may Such Also Other n box (split i q l r) (split j k x y) so all (inl h) =
    inl (beneath_more may Such Also Other n (below box j k) l x so
    (all_front Also (leaves (below box j k) x) (leaves (above box j k) y) all) h)
beneath_more may Such Also Other n box (split i q l r) (split j k x y) so all (inr h) =
    inr (beneath_more may Such Also Other (n + leaf_total l) (above box j k) r y so
    (all_back Also (leaves (below box j k) x) (leaves (above box j k) y) all) h)

-- what boxes of new splits are, they are in another way too
splits_more : (inst : Tables) (lists : ℕ) (Such Other : List Span → Type 0) (box : List Span) (t u : Tree)
    → ((b : List Span) → IsBox inst b → Such b → Other b) → IsBox inst box → IsTreeInRange inst lists box u
    → AllSplitBeneath Such box t u → AllSplitBeneath Other box t u
splits_more inst lists Such Other box (leaf a) u so b r h = λ k d l.
    so (get_or (split_boxes box u) k d) (splits_are_boxes inst lists box u b r k d l) (h k d l)
splits_more inst lists Such Other box (split i q l x) (leaf c) so b r h = absurd h
splits_more inst lists Such Other box (split i q l x) (split j k y z) so b r h =
    let parts = parts_are_boxes inst box j k b r.0 in (
      splits_more inst lists Such Other (below box j k) l y so parts.0 r.1 h.0,
      splits_more inst lists Such Other
          (above box j k) x z so parts.1 r.2 h.1,
    )

module _ (value : PlanValue) (inst : Tables) (lists : ℕ) (worths others : Worths) (incumbent : Option (List ℕ))
    (nodes : List Node) (part : Part) (turns : ℕ) (answer : SearchEnd) (fits : IsFitting inst)
    (same : AreSameWorths inst lists worths others)
    (h : IsGoneOnBy value inst lists worths incumbent nodes part turns answer) where
  by : IsSearchedBy value inst lists others incumbent (split_count nodes) h.splits answer
  by = searched_same value inst lists worths others incumbent (split_count nodes) h.splits answer fits same h.by

  tree_is : h.by.tree ≡ by.tree
  tree_is = nodes_are_one_tree inst lists (root_box inst) answer.nodes h.by.tree by.tree h.by.of_nodes by.of_nodes

  -- a box of the instance, of which is said what is said of leaves
  abbrev IsKnown : Leaf → Type 0
  IsKnown x = IsBox inst x.box × IsBounding value inst lists others answer.best x.box x.node

  are_known : All IsKnown (leaves (root_box inst) by.tree)
  are_known k d l = (
    (leaves_in_range inst lists (root_box inst) by.tree (root_is_box inst fits) by.of_nodes.in_range k d l).is_box,
    by.bounding k d l,
  )

  still_unfinished : (x : Leaf) → IsKnown x → IsUnfinishedLeaf value inst others answer.best x
      → IsUnfinishedLeaf value inst worths answer.best x
  still_unfinished x w u = record {
    list = u.list;
    node = u.node;
    several = u.several;
    short = subst (IsShort value inst answer.best)
        (same_named value inst lists others worths answer.best x u.list (λ box j l b s. sym (same box j l b s)) w.0 w.1
        u.node) u.short;
  }

  -- a `cost` leaf of a worth by the others has it by these
  still_cost : (z : ℤ) (x : Leaf) → IsKnown x → IsCostOf others z x → IsCostOf worths z x
  still_cost z x w c = record {
    list = c.list;
    node = c.node;
    worth = sym (same_named value inst lists others worths answer.best x c.list (λ box j l b s. sym (same box j l b s))
        w.0 w.1 c.node) ∙ c.worth;
  }

  abbrev AmongBy : Worths → Tree → ℤ → Type 0
  AmongBy ws t = IsAmongPart value inst ws answer.best part h.given t

  still_among : (z : ℤ) → AmongBy others by.tree z → AmongBy worths by.tree z
  still_among z (inl w) = inl w
  still_among z (inr w) = inr (beneath_more (IsOfPart part) (IsCostOf others z) IsKnown (IsCostOf worths z) 0
      (root_box inst) h.given by.tree (still_cost z) are_known w)

  still_split : (b : List Span) → IsBox inst b → IsSplitBox value inst lists worths incumbent (AmongBy worths by.tree) b
      → IsSplitBox value inst lists others incumbent (AmongBy others by.tree) b
  still_split b is_box s = record {
    unrefuted = s.unrefuted;
    below_given = λ j plan l e. subst (λ (z : ℤ). z <ℤ value inst plan) (same b j l is_box s.unrefuted.starts)
        (s.below_given j plan l e);
    at_most = λ j z l among. subst (λ (y : ℤ). y ≤ℤ z) (same b j l is_box s.unrefuted.starts)
        (s.at_most j z l (still_among z among));
  }

  new_splits : AllSplitBeneath (IsSplitBox value inst lists others incumbent (AmongBy others by.tree)) (root_box inst)
      h.given by.tree
  new_splits = splits_more inst lists (IsSplitBox value inst lists worths incumbent (AmongBy worths by.tree))
      (IsSplitBox value inst lists others incumbent (AmongBy others by.tree)) (root_box inst) h.given by.tree
      still_split (root_is_box inst fits) by.of_nodes.in_range
      (subst (λ (t : Tree). AllSplitBeneath (IsSplitBox value inst lists worths incumbent (AmongBy worths t))
      (root_box inst) h.given t) tree_is h.new_splits)

  still_left : IsLeftToOthers value inst worths answer.best part h.given h.by.tree
      → IsLeftToOthers value inst others answer.best part h.given by.tree
  still_left o = record {
    others = o.others;
    done = λ b. o.done (subst (λ (t : Tree). AnyBeneath (IsOfPart part) (IsUnfinishedLeaf value inst worths answer.best)
        0 (root_box inst) h.given t) (sym tree_is)
        (beneath_more (IsOfPart part) (IsUnfinishedLeaf value inst others answer.best) IsKnown
        (IsUnfinishedLeaf value inst worths answer.best) 0 (root_box inst) h.given by.tree still_unfinished are_known
        b));
  }

  spent : IsTrue answer.unfinished
      → (h.splits ≡ turns) ⊎ IsLeftToOthers value inst others answer.best part h.given by.tree
  spent still = at (h.spent still)
    where
      at : (h.splits ≡ turns) ⊎ IsLeftToOthers value inst worths answer.best part h.given h.by.tree
          → (h.splits ≡ turns) ⊎ IsLeftToOthers value inst others answer.best part h.given by.tree
      at (inl e) = inl e
      at (inr o) = inr (still_left o)

  pub gone_on_same : IsGoneOnBy value inst lists others incumbent nodes part turns answer
  gone_on_same = record {
    splits = h.splits;
    by = by;
    made = subst (λ (t : Tree). length (split_boxes (root_box inst) t) ≡ split_count nodes + h.splits) tree_is h.made;
    few = h.few;
    given = h.given;
    of_nodes = h.of_nodes;
    stays = subst (GoesOnFrom (IsOfPart part) 0 h.given) tree_is h.stays;
    new_splits = new_splits;
    spent = spent;
    enough = λ enough still. still_left (h.enough enough still);
  }
