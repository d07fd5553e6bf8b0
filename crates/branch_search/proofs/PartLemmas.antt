-- How the tree under construction goes on from the given one, of which the leaves of a part may be split.
use Rattle.std.proofs.Common.{◌≡◌, ℕ, suc, ◌+◌, ◌<◌, ◌≤◌, ◌⊎◌, inl, inr, refl, sym, ◌∙◌, ap, subst, arith, ℤ}
use Rattle.std.proofs.Common.{List, [], ◌∷◌, ◌++◌, length, All, Bool, true, false, cond, eqb, Option}
use Rattle.std.specs.Prelude.{IsPermutation}
use Rattle.std.proofs.lemmas.Bool.{eq-eqb, ne_eqb, cases_eq}
use Rattle.std.proofs.lemmas.List.Elements.{All-nil, All-cons, All-tail, All-append, All-contains}
use Rattle.std.proofs.lemmas.List.Sorted.{All-permutation}
use Rattle.instance_model.specs.Tables.{Tables}
use Rattle.lagrange_bound.specs.declared.span.Span.{Span}
use Rattle.certificate_tree.specs.declared.node.Node.{Node}
use Rattle.certificate_tree.specs.declared.node.Node.TheVariants.{Split, Point}
use Rattle.certificate_tree.specs.Trees.{Tree, leaf, split, Leaf, leaves, below, above}
use Rattle.branch_search.specs.declared.tree.cell.Cell.{Cell}
use Rattle.branch_search.specs.Splits.{split_boxes}
use Rattle.branch_search.specs.Parts.{leaf_total, GoesOnFrom, AnyBeneath, AllSplitBeneath}
use Rattle.branch_search.specs.Growing.{node_at, box_at, IsLeafNode, AreBoxesOf, split_cells}
use Rattle.branch_search.specs.Shapes.{Shape, tip, fork, top, IsWithin, IsForkAt, Stands, tree_of}
use Rattle.branch_search.specs.Shapes.{number_of, last_of, grown}
use Rattle.branch_search.specs.Entries.{with_entry}
use Rattle.branch_search.specs.Parted.{Place, IsApart, IsPlaceOf, IsNoEntry, AllTips, AllForks, Stage, IsLeftLeaf}
use Rattle.branch_search.specs.Parted.{Continues}
use Rattle.branch_search.specs.Begun.{with_leaf}
use Rattle.branch_search.proofs.CellLemmas.{at_split, at_other, split_is_no_leaf}
use Rattle.branch_search.proofs.TreeLemmas.{parting}
use Rattle.branch_search.proofs.EntryLemmas.{all_with, popped}
use Rattle.branch_search.proofs.ChangeLemmas.{off_leaf}

-- ---- numbers of a shape that grows

tips_grown : (Such : ℕ → Type 0) (n a : ℕ) (s : Shape) → AllTips Such s → Such a → Such (suc a)
    → AllTips Such (grown n a s)
tips_grown Such n a (tip k) h x y = at (eqb k n)
  where
    at : (b : Bool) → AllTips Such (cond b (fork n (tip a) (tip (suc a))) (tip k))
    at true = (x, y)
    at false = h
tips_grown Such n a (fork k l r) h x y = (tips_grown Such n a l h.0 x y, tips_grown Such n a r h.1 x y)

forks_grown : (Such Other : ℕ → Type 0) (n a count : ℕ) (s : Shape) → ((k : ℕ) → k < count → Such k → Other k)
    → Other n → IsWithin count s → AllForks Such s → AllForks Other (grown n a s)
forks_grown Such Other n a count (tip k) so x w h = at (eqb k n)
  where
    at : (b : Bool) → AllForks Other (cond b (fork n (tip a) (tip (suc a))) (tip k))
    at true = (x, tt, tt)
    at false = tt
forks_grown Such Other n a count (fork k l r) so x w h = (
  so k w.0 h.0,
  forks_grown Such Other n a count l so x w.1 h.1,
  forks_grown Such Other n a count r so x w.2 h.2,
)

grown_at : (n a k : ℕ) → k ≡ n → fork n (tip a) (tip (suc a)) ≡ grown n a (tip k)
grown_at n a k e = sym (ap (λ (b : Bool). cond b (fork n (tip a) (tip (suc a))) (tip k)) (eq-eqb k n e))

grown_off : (n a k : ℕ) → (k ≡ n → ⊥) → tip k ≡ grown n a (tip k)
grown_off n a k d = sym (ap (λ (b : Bool). cond b (fork n (tip a) (tip (suc a))) (tip k)) (ne_eqb k n d))

-- ---- nodes

split_is_no_point : (node : Node) (i m : ℕ) → node ≡ Split i m → node ≡ Point → ⊥
split_is_no_point node i m e f = cc

leaf_is_no_split : (n : Node) (i m : ℕ) (l r : Tree) → leaf n ≡ split i m l r → ⊥
leaf_is_no_split n i m l r e = cc

no_place_left : (p : Place) (ps : List Place) → p ∷ ps ≡ [] → ⊥
no_place_left p ps e = cc

-- ---- places

pub no_place : (next : ℕ) (places : List Place) (k n : ℕ) (t : Tree) → IsApart k places → IsPlaceOf next places k n t
    → ⊥
no_place next [] k n t a p = p
no_place next (x ∷ xs) k n t a (inl p) = a.0 p.0
no_place next (x ∷ xs) k n t a (inr p) = no_place (next + leaf_total x.tree) xs k n t a.1 p

pub place_continues : (stage : Stage) (n : ℕ) (t : Tree) (k : ℕ) → IsPlaceOf stage.next stage.places k n t
    → Continues stage n t (tip k)
place_continues stage n (leaf a) k p = inl p
place_continues stage n (split i m l r) k p = p

-- what is known of numbers that were split, where more is known of each
forks_with : (Such Other : ℕ → Type 0) → ((k : ℕ) → Such k → Other k) → (s : Shape) → AllForks Such s
    → AllForks Other s
forks_with Such Other so (tip k) h = tt
forks_with Such Other so (fork k l r) h =
    (so k h.0, forks_with Such Other so l h.1, forks_with Such Other so r h.2)

pub continues_with : (may Such Other : ℕ → Type 0) (cells : List Cell) (waiting aside : List (ℤ × ℕ)) (next : ℕ)
    (places : List Place) → ((k : ℕ) → Such k → Other k) → (n : ℕ) (t : Tree) (s : Shape)
    → Continues (record {
      may = may;
      was_split = Such;
      cells = cells;
      waiting = waiting;
      aside = aside;
      next = next;
      places = places;
    }) n t s
    → Continues (record {
      may = may;
      was_split = Other;
      cells = cells;
      waiting = waiting;
      aside = aside;
      next = next;
      places = places;
    }) n t s
continues_with may Such Other cells waiting aside next places so n (leaf a) (tip k) h = h
continues_with may Such Other cells waiting aside next places so n (leaf a) (fork k l r) h =
    (h.0, h.1, forks_with Such Other so (fork k l r) h.2, h.3, h.4)
continues_with may Such Other cells waiting aside next places so n (split i m a b) (tip k) h = h
continues_with may Such Other cells waiting aside next places so n (split i m a b) (fork k l r) h = (
  h.0,
  continues_with may Such Other cells waiting aside next places so n a l h.1,
  continues_with may Such Other cells waiting aside next places so (n + leaf_total a) b r h.2,
)

-- ---- a leaf is laid

module _ (may : ℕ → Type 0) (cells : List Cell) (k : ℕ) (node given : Node) (known : k < length cells)
    (free : node_at cells k ≡ Point) (old new aside after : List (ℤ × ℕ)) (seen : ℕ) (others : List Place)
    (apart : IsApart k others) (waits : (j : ℕ) → (j ≡ k → ⊥) → IsNoEntry old j → IsNoEntry new j)
    (stays : (j : ℕ) → (j ≡ k → ⊥) → IsNoEntry aside j → IsNoEntry after j)
    (here : (may seen × IsNoEntry after k) ⊎ ((may seen → ⊥) × IsNoEntry new k)) where
  abbrev before_leaf : Stage
  before_leaf = record {
    may = may;
    was_split = λ j. ⊥;
    cells = cells;
    waiting = old;
    aside = aside;
    next = seen;
    places = (record { number = k; tree = leaf given }) ∷ others;
  }

  abbrev after_leaf : Stage
  after_leaf = record {
    may = may;
    was_split = λ j. ⊥;
    cells = with_leaf cells k node;
    waiting = new;
    aside = after;
    next = seen + 1;
    places = others;
  }

  left_still : (x j : ℕ) → IsLeftLeaf before_leaf x j → IsLeftLeaf after_leaf x j
  left_still x j h = (h.0.1, at h.1)
    where
      apart_from : j ≡ k → ⊥
      apart_from e = h.0.0 (sym e)

      at : (may x × IsNoEntry aside j) ⊎ ((may x → ⊥) × IsNoEntry old j)
          → (may x × IsNoEntry after j) ⊎ ((may x → ⊥) × IsNoEntry new j)
      at (inl w) = inl (w.0, stays j apart_from w.1)
      at (inr w) = inr (w.0, waits j apart_from w.1)

  left_here : (x j : ℕ) → k ≡ j → seen ≡ x → IsLeftLeaf after_leaf x j
  left_here x j e f = subst (λ (y : ℕ). IsLeftLeaf after_leaf y j) f
      (subst (λ (i : ℕ). IsLeftLeaf after_leaf seen i) e (apart, here))

  pub continues_laid : (x : ℕ) (t : Tree) (s : Shape) → Continues before_leaf x t s → Continues after_leaf x t s
  continues_laid x (leaf c) (tip j) (inl (inl p)) = inr (left_here x j p.0 p.1)
  continues_laid x (leaf c) (tip j) (inl (inr p)) = inl p
  continues_laid x (leaf c) (tip j) (inr h) = inr (left_still x j h)
  continues_laid x (leaf c) (fork j l r) h =
      absurd (no_place_left (record { number = k; tree = leaf given }) others h.0)
  continues_laid x (split i m a b) (tip j) (inl p) = absurd (leaf_is_no_split given i m a b p.2)
  continues_laid x (split i m a b) (tip j) (inr p) = p
  continues_laid x (split i m a b) (fork j l r) h = (
    ap (λ (c : Cell). c.node) (off_leaf cells k node known j (λ e. split_is_no_point (node_at cells j) i m h.0
        (ap (node_at cells) e ∙ free))) ∙ h.0,
    continues_laid x a l h.1,
    continues_laid (x + leaf_total a) b r h.2,
  )

-- ---- a split is laid

module _ (may : ℕ → Type 0) (cells : List Cell) (k i m : ℕ) (known : k < length cells)
    (free : node_at cells k ≡ Point) (waiting aside : List (ℤ × ℕ)) (seen : ℕ) (left right : Tree)
    (others : List Place) (apart : IsApart k others) where
  abbrev before_split : Stage
  before_split = record {
    may = may;
    was_split = λ j. ⊥;
    cells = cells;
    waiting = waiting;
    aside = aside;
    next = seen;
    places = (record { number = k; tree = split i m left right }) ∷ others;
  }

  abbrev after_split : Stage
  after_split = record {
    may = may;
    was_split = λ j. ⊥;
    cells = split_cells cells k i m Point Point;
    waiting = waiting;
    aside = aside;
    next = seen;
    places = (record { number = length cells; tree = left })
        ∷ (record { number = length cells + 1; tree = right }) ∷ others;
  }

  first_part : Continues after_split seen left (tip (length cells))
  first_part = place_continues after_split seen left (length cells) (inl (refl, refl, refl))

  second_part : Continues after_split (seen + leaf_total left) right (tip (suc (length cells)))
  second_part = place_continues after_split (seen + leaf_total left) right (suc (length cells))
      (inr (inl (omega arith, refl, refl)))

  -- what stands there
  parted_here : Continues after_split seen (split i m left right)
      (fork k (tip (length cells)) (tip (suc (length cells))))
  parted_here = (
    ap (λ (c : Cell). c.node) (at_split cells k i m Point Point known),
    first_part,
    second_part,
  )

  parted : (x j : ℕ) (t : Tree) → k ≡ j → seen ≡ x → split i m left right ≡ t
      → Continues after_split x t (grown k (length cells) (tip j))
  parted x j t e f g = subst (Continues after_split x t) (grown_at k (length cells) j (sym e))
      (subst (λ (y : ℕ). Continues after_split y t (fork k (tip (length cells)) (tip (suc (length cells))))) f
      (subst (λ (u : Tree). Continues after_split seen u (fork k (tip (length cells)) (tip (suc (length cells))))) g
      parted_here))

  -- the other places
  other_place : (x j : ℕ) (t : Tree) → IsPlaceOf (seen + leaf_total (split i m left right)) others j x t
      → Continues after_split x t (grown k (length cells) (tip j))
  other_place x j t p = subst (Continues after_split x t)
      (grown_off k (length cells) j (λ e. no_place (seen + leaf_total (split i m left right)) others k x t apart
      (subst (λ (y : ℕ). IsPlaceOf (seen + leaf_total (split i m left right)) others y x t) e p)))
      (place_continues after_split x t j (inr (inr
      (subst (λ (y : ℕ). IsPlaceOf y others j x t) (omega arith) p))))

  left_apart : (x j : ℕ) (c : Node) → j < length cells → IsLeftLeaf before_split x j
      → Continues after_split x (leaf c) (grown k (length cells) (tip j))
  left_apart x j c l h = subst (Continues after_split x (leaf c))
      (grown_off k (length cells) j (λ e. h.0.0 (sym e)))
      (inr ((λ e. omega (arith, e, l), (λ e. omega (arith, e, l), h.0.1)), h.1))

  pub continues_split : (x : ℕ) (t : Tree) (s : Shape) → IsWithin (length cells) s → Continues before_split x t s
      → Continues after_split x t (grown k (length cells) s)
  continues_split x (leaf c) (tip j) w (inl (inl p)) = absurd (leaf_is_no_split c i m left right (sym p.2))
  continues_split x (leaf c) (tip j) w (inl (inr p)) = other_place x j (leaf c) p
  continues_split x (leaf c) (tip j) w (inr h) = left_apart x j c w h
  continues_split x (leaf c) (fork j l r) w h =
      absurd (no_place_left (record { number = k; tree = split i m left right }) others h.0)
  continues_split x (split p q a b) (tip j) w (inl h) = parted x j (split p q a b) h.0 h.1 h.2
  continues_split x (split p q a b) (tip j) w (inr h) = other_place x j (split p q a b) h
  continues_split x (split p q a b) (fork j l r) w h = (
    ap (λ (c : Cell). c.node) (at_other cells k i m Point Point known j w.0
        (λ e. split_is_no_point (node_at cells j) p q h.0 (ap (node_at cells) e ∙ free))) ∙ h.0,
    continues_split x a l w.1 h.1,
    continues_split (x + leaf_total a) b r w.2 h.2,
  )

-- ---- a number that waits is split

module _ (may : ℕ → Type 0) (cells : List Cell) (n i m : ℕ) (a b : Node) (known : n < length cells)
    (plain : IsLeafNode (node_at cells n)) (old new aside : List (ℤ × ℕ)) (seen : ℕ)
    (waits : (k : ℕ) → k < length cells → IsNoEntry old k → IsNoEntry new k)
    (waited : IsNoEntry old n → ⊥) (within : All (λ (e : ℤ × ℕ). e.1 < length cells) aside)
    (Such Other : ℕ → Type 0) (still_split : (k : ℕ) → k < length cells → Such k → Other k) (now_split : Other n) where
  abbrev before_step : Stage
  before_step = record {
    may = may;
    was_split = Such;
    cells = cells;
    waiting = old;
    aside = aside;
    next = seen;
    places = [];
  }

  abbrev after_step : Stage
  after_step = record {
    may = may;
    was_split = Other;
    cells = split_cells cells n i m a b;
    waiting = new;
    aside = aside;
    next = seen;
    places = [];
  }

  new_number : (k : ℕ) → length cells ≤ k → IsNoEntry aside k
  new_number k l j d q e = let h = within j d q in omega (arith, e, l, h)

  leaf_split : (x k : ℕ) (c : Node) → k < length cells
      → (may x × IsNoEntry aside k) ⊎ ((may x → ⊥) × IsNoEntry old k)
      → Continues after_step x (leaf c) (grown n (length cells) (tip k))
  leaf_split x k c l h = at (cases_eq k n) h
    where
      at : (k ≡ n) ⊎ (k ≡ n → ⊥) → (may x × IsNoEntry aside k) ⊎ ((may x → ⊥) × IsNoEntry old k)
          → Continues after_step x (leaf c) (grown n (length cells) (tip k))
      at (inl e) (inl w) = subst (Continues after_step x (leaf c)) (grown_at n (length cells) k e) (
        refl,
        w.0,
        (now_split, tt, tt),
        new_number (length cells) (omega arith),
        new_number (suc (length cells)) (omega arith),
      )
      at (inl e) (inr w) = absurd (waited (subst (IsNoEntry old) e w.1))
      at (inr d) (inl w) = subst (Continues after_step x (leaf c)) (grown_off n (length cells) k d) (inr (tt, inl w))
      at (inr d) (inr w) = subst (Continues after_step x (leaf c)) (grown_off n (length cells) k d)
          (inr (tt, inr (w.0, waits k l w.1)))

  pub continues_grown : (x : ℕ) (t : Tree) (s : Shape) → IsWithin (length cells) s → Continues before_step x t s
      → Continues after_step x t (grown n (length cells) s)
  continues_grown x (leaf c) (tip k) w (inl h) = absurd h
  continues_grown x (leaf c) (tip k) w (inr h) = leaf_split x k c w h.1
  continues_grown x (leaf c) (fork k l r) w h = (
    h.0,
    h.1,
    forks_grown Such Other n (length cells) (length cells) (fork k l r) still_split now_split w h.2,
    tips_grown (IsNoEntry aside) n (length cells) l h.3 (new_number (length cells) (omega arith))
        (new_number (suc (length cells)) (omega arith)),
    tips_grown (IsNoEntry aside) n (length cells) r h.4 (new_number (length cells) (omega arith))
        (new_number (suc (length cells)) (omega arith)),
  )
  continues_grown x (split j q t u) (tip k) w h = absurd h
  continues_grown x (split j q t u) (fork k l r) w h = (
    ap (λ (c : Cell). c.node) (at_other cells n i m a b known k w.0 (λ e. split_is_no_leaf (node_at cells n) j q
        (subst (λ (y : ℕ). node_at cells y ≡ Split j q) e h.0) plain)) ∙ h.0,
    continues_grown x t l w.1 h.1,
    continues_grown (x + leaf_total t) u r w.2 h.2,
  )

-- the numbers that wait then are of those that waited, and new ones
pub waits_after : (count n k : ℕ) (z : ℤ) (left right : Option ℤ) (old rest mid new : List (ℤ × ℕ)) → k < count
    → IsPermutation old ((z, n) ∷ rest) → IsPermutation (with_entry left count rest) mid
    → IsPermutation (with_entry right (count + 1) mid) new → IsNoEntry old k → IsNoEntry new k
waits_after count n k z left right old rest mid new l p pl pr h =
    all_with (λ (e : ℤ × ℕ). e.1 ≡ k → ⊥) right (count + 1) mid new pr (λ y f e. omega (arith, e, l))
    (all_with (λ (e : ℤ × ℕ). e.1 ≡ k → ⊥) left count rest mid pl (λ y f e. omega (arith, e, l))
    (All-tail (λ (e : ℤ × ℕ). e.1 ≡ k → ⊥) (z, n) rest
    (All-permutation (λ (e : ℤ × ℕ). e.1 ≡ k → ⊥) old ((z, n) ∷ rest) p h)))

-- and the number that is split waited
pub waited : (n : ℕ) (z : ℤ) (old rest : List (ℤ × ℕ)) → IsPermutation old ((z, n) ∷ rest) → IsNoEntry old n → ⊥
waited n z old rest p h =
    All-contains (λ (e : ℤ × ℕ). e.1 ≡ n → ⊥) old (z, n) h (popped old rest (z, n) p) refl

-- ---- the tree at last

module _ (may was_split : ℕ → Type 0) (cells : List Cell) (waiting aside : List (ℤ × ℕ)) (seen : ℕ) where
  abbrev at_last : Stage
  at_last = record {
    may = may;
    was_split = was_split;
    cells = cells;
    waiting = waiting;
    aside = aside;
    next = seen;
    places = [];
  }

  -- where one number is split, its leaf may be
  beneath_leaf : (x : ℕ) (c : Node) (s : Shape) → may x → Continues at_last x (leaf c) s → AllTips (IsNoEntry aside) s
  beneath_leaf x c (tip k) m (inl h) = absurd h
  beneath_leaf x c (tip k) m (inr (u, inl h)) = h.1
  beneath_leaf x c (tip k) m (inr (u, inr h)) = absurd (h.0 m)
  beneath_leaf x c (fork k l r) m h = (h.3, h.4)

  pub goes_on : (x : ℕ) (t : Tree) (s : Shape) → Continues at_last x t s → GoesOnFrom may x t (tree_of cells s)
  goes_on x (leaf c) (tip k) h = tt
  goes_on x (leaf c) (fork k l r) h = h.1
  goes_on x (split i m a b) (tip k) h = absurd h
  goes_on x (split i m a b) (fork k l r) h = (
    sym (ap number_of h.0),
    sym (ap last_of h.0),
    goes_on x a l h.1,
    goes_on (x + leaf_total a) b r h.2,
  )

  module _ (inst : Tables) (boxes : List (List Span)) (w : AreBoxesOf inst cells boxes) where
    left_box : (k : ℕ) (l r : Shape) → k < length cells → IsForkAt cells k (top l) (top r)
        → box_at boxes (top l) ≡ below (box_at boxes k) (number_of (node_at cells k)) (last_of (node_at cells k))
    left_box k l r n h =
        let p = parting inst cells boxes k (top l) (top r) w n h in
        p.left_is ∙ ap (λ (x : Node). below (box_at boxes k) (number_of x) (last_of x)) (sym h.node)

    right_box : (k : ℕ) (l r : Shape) → k < length cells → IsForkAt cells k (top l) (top r)
        → box_at boxes (top r) ≡ above (box_at boxes k) (number_of (node_at cells k)) (last_of (node_at cells k))
    right_box k l r n h =
        let p = parting inst cells boxes k (top l) (top r) w n h in
        p.right_is ∙ ap (λ (x : Node). above (box_at boxes k) (number_of x) (last_of x)) (sym h.node)

    module _ (P : Leaf → Type 0)
        (each : (k : ℕ) → k < length cells → IsLeafNode (node_at cells k) → IsNoEntry aside k
        → P (record { box = box_at boxes k; node = node_at cells k })) where
      -- what holds of each leaf whose number is not set aside
      each_tip : (s : Shape) → Stands cells s → IsWithin (length cells) s → AllTips (IsNoEntry aside) s
          → All P (leaves (box_at boxes (top s)) (tree_of cells s))
      each_tip (tip k) h l t = All-cons P (record { box = box_at boxes k; node = node_at cells k }) [] (each k l h t)
          (All-nil P)
      each_tip (fork k l r) h v t =
          All-append P
          (leaves (below (box_at boxes k) (number_of (node_at cells k)) (last_of (node_at cells k))) (tree_of cells l))
          (leaves (above (box_at boxes k) (number_of (node_at cells k)) (last_of (node_at cells k))) (tree_of cells r))
          (subst (λ (b : List Span). All P (leaves b (tree_of cells l))) (left_box k l r v.0 h.0)
          (each_tip l h.1 v.1 t.0))
          (subst (λ (b : List Span). All P (leaves b (tree_of cells r))) (right_box k l r v.0 h.0)
          (each_tip r h.2 v.2 t.1))

      -- so it holds of one beneath a leaf that may be split
      pub of_beneath : (R : Type 0) (Such : Leaf → Type 0) → ((x : Leaf) → Such x → P x → R) → (n : ℕ) (t : Tree)
          (s : Shape) → Stands cells s → IsWithin (length cells) s → Continues at_last n t s
          → AnyBeneath may Such n (box_at boxes (top s)) t (tree_of cells s) → R
      of_beneath R Such so n (leaf c) s h v g (m, (k, x, l, e, u)) = so x u
          (subst P e (each_tip s h v (beneath_leaf n c s m g) k x l))
      of_beneath R Such so n (split i m a b) (tip k) h v g u = absurd u
      of_beneath R Such so n (split i m a b) (fork k l r) h v g (inl u) =
          of_beneath R Such so n a l h.1 v.1 g.1
          (subst (λ (x : List Span). AnyBeneath may Such n x a (tree_of cells l)) (sym (left_box k l r v.0 h.0)) u)
      of_beneath R Such so n (split i m a b) (fork k l r) h v g (inr u) =
          of_beneath R Such so (n + leaf_total a) b r h.2 v.2 g.2
          (subst (λ (x : List Span). AnyBeneath may Such (n + leaf_total a) x b (tree_of cells r))
          (sym (right_box k l r v.0 h.0)) u)

    -- what holds of each box that was split beneath a leaf of the given tree
    module _ (P : List Span → Type 0) (each : (k : ℕ) → k < length cells → was_split k → P (box_at boxes k)) where
      each_fork : (s : Shape) → Stands cells s → IsWithin (length cells) s → AllForks was_split s
          → All P (split_boxes (box_at boxes (top s)) (tree_of cells s))
      each_fork (tip k) h v f = All-nil P
      each_fork (fork k l r) h v f =
          All-cons P (box_at boxes k)
          (split_boxes (below (box_at boxes k) (number_of (node_at cells k)) (last_of (node_at cells k)))
          (tree_of cells l)
          ++ split_boxes (above (box_at boxes k) (number_of (node_at cells k)) (last_of (node_at cells k)))
          (tree_of cells r)) (each k v.0 f.0)
          (All-append P
          (split_boxes (below (box_at boxes k) (number_of (node_at cells k)) (last_of (node_at cells k)))
          (tree_of cells l))
          (split_boxes (above (box_at boxes k) (number_of (node_at cells k)) (last_of (node_at cells k)))
          (tree_of cells r))
          (subst (λ (b : List Span). All P (split_boxes b (tree_of cells l))) (left_box k l r v.0 h.0)
          (each_fork l h.1 v.1 f.1))
          (subst (λ (b : List Span). All P (split_boxes b (tree_of cells r))) (right_box k l r v.0 h.0)
          (each_fork r h.2 v.2 f.2)))

      pub split_beneath : (n : ℕ) (t : Tree) (s : Shape) → Stands cells s → IsWithin (length cells) s
          → Continues at_last n t s → AllSplitBeneath P (box_at boxes (top s)) t (tree_of cells s)
      split_beneath n (leaf c) (tip k) h v g = All-nil P
      split_beneath n (leaf c) (fork k l r) h v g = each_fork (fork k l r) h v g.2
      split_beneath n (split i m a b) (tip k) h v g = absurd g
      split_beneath n (split i m a b) (fork k l r) h v g = (
        subst (λ (x : List Span). AllSplitBeneath P x a (tree_of cells l)) (left_box k l r v.0 h.0)
            (split_beneath n a l h.1 v.1 g.1),
        subst (λ (x : List Span). AllSplitBeneath P x b (tree_of cells r)) (right_box k l r v.0 h.0)
            (split_beneath (n + leaf_total a) b r h.2 v.2 g.2),
      )
