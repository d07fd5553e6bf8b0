-- Trees that go on with parts of one tree: the leaves that stay, and the trees put together.
use Rattle.std.proofs.Common.{◌≡◌, ℕ, zero, suc, ◌+◌, ◌-◌, ◌%◌, ◌<◌, ◌≤◌, ◌⊎◌, inl, inr, refl, sym, ◌∙◌, ap, subst, arith}
use Rattle.std.proofs.Common.{List, ◌++◌, length, length-append, get_or, All}
use Rattle.std.specs.Prelude.{Any}
use Rattle.std.proofs.Math.Nat.{mod-lt}
use Rattle.std.proofs.lemmas.Bool.{cases_lt}
use Rattle.std.proofs.lemmas.List.{get_or_append_left, get_or-append-add}
use Rattle.std.proofs.lemmas.List.Elements.{All-append}
use Rattle.instance_model.specs.Tables.{Tables}
use Rattle.lagrange_bound.specs.declared.span.Span.{Span}
use Rattle.certificate_tree.specs.Trees.{Tree, leaf, split, Leaf, leaves, root_box, below, above, IsSplit}
use Rattle.certificate_tree.specs.Ranges.{IsTreeInRange}
use Rattle.certificate_tree.specs.Holding.{LeafHolds}
use Rattle.branch_search.specs.Parts.{IsOfPart, leaf_total, GoesOnFrom}
use Rattle.branch_search.specs.Joining.{OthersStay, left_of, right_of, joined, AllBeneath, PartsJoin}
use Rattle.branch_search.proofs.TreeLemmas.{any_left, any_right}

-- ---- the leaves of other parts

leaves_counted : (box : List Span) (t : Tree) → length (leaves box t) ≡ leaf_total t
leaves_counted box (leaf a) = refl
leaves_counted box (split i m l r) =
    let left = leaves_counted (below box i m) l in
    let right = leaves_counted (above box i m) r in
    let both = length-append (leaves (below box i m) l) (leaves (above box i m) r) in
    omega (arith, left, right, both)

-- a leaf has the box of another
abbrev HasBoxOf : Leaf → Leaf → Type 0
HasBoxOf x other = other.box ≡ x.box

-- of two lists that are given, and two that stand for them
both_stay : (may : ℕ → Type 0) (n count : ℕ) (xs ys us vs : List Leaf) → length xs ≡ count
    → ((k : ℕ) (d : Leaf) → k < length xs → (may (n + k) → ⊥) → Any (HasBoxOf (get_or xs k d)) us)
    → ((k : ℕ) (d : Leaf) → k < length ys → (may (n + count + k) → ⊥) → Any (HasBoxOf (get_or ys k d)) vs)
    → (k : ℕ) (d : Leaf) → k < length (xs ++ ys) → (may (n + k) → ⊥)
    → Any (HasBoxOf (get_or (xs ++ ys) k d)) (us ++ vs)
both_stay may n count xs ys us vs each left right k d l other = at (cases_lt k (length xs))
  where
    at : (k < length xs) ⊎ (length xs ≤ k) → Any (HasBoxOf (get_or (xs ++ ys) k d)) (us ++ vs)
    at (inl h) = subst (λ (x : Leaf). Any (HasBoxOf x) (us ++ vs)) (sym (get_or_append_left xs ys d k h))
        (any_left (HasBoxOf (get_or xs k d)) us vs (left k d h other))
    at (inr h) =
        let back : length xs + (k - length xs) ≡ k = omega (arith, h) in
        let number : n + count + (k - length xs) ≡ n + k = omega (arith, h, each) in
        let few : k - length xs < length ys = omega (arith, h, l, length-append xs ys) in
        subst (λ (x : Leaf). Any (HasBoxOf x) (us ++ vs))
        (sym (ap (λ (i : ℕ). get_or (xs ++ ys) i d) (sym back) ∙ get_or-append-add xs ys (k - length xs) d))
        (any_right (HasBoxOf (get_or ys (k - length xs) d)) us vs
        (right (k - length xs) d few (λ m. other (subst may number m))))

-- a leaf that may not be split has one over its box
stays_at : (may : ℕ → Type 0) (n : ℕ) (box : List Span) (t u : Tree) → GoesOnFrom may n t u → (k : ℕ) (d : Leaf)
    → k < length (leaves box t) → (may (n + k) → ⊥) → Any (HasBoxOf (get_or (leaves box t) k d)) (leaves box u)
stays_at may n box (leaf a) (leaf b) g zero d l other =
    (0, record { box = box; node = b }, omega arith, refl, refl)
stays_at may n box (leaf a) (leaf b) g (suc k) d l other = absurd (omega (arith, l))
stays_at may n box (leaf a) (split j q x y) g zero d l other =
    absurd (other (let e : n ≡ n + 0 = omega arith in subst may e g))
stays_at may n box (leaf a) (split j q x y) g (suc k) d l other = absurd (omega (arith, l))
stays_at may n box (split i m a b) (leaf c) g k d l other = absurd g
stays_at may n box (split i m a b) (split j q x y) g k d l other =
    subst (λ (v : ℕ). Any (HasBoxOf (get_or (leaves (below box i m) a ++ leaves (above box i m) b) k d))
    (leaves (below box v q) x ++ leaves (above box v q) y)) g.0
    (subst (λ (v : ℕ). Any (HasBoxOf (get_or (leaves (below box i m) a ++ leaves (above box i m) b) k d))
    (leaves (below box i v) x ++ leaves (above box i v) y)) g.1
    (both_stay may n (leaf_total a) (leaves (below box i m) a) (leaves (above box i m) b) (leaves (below box i m) x)
    (leaves (above box i m) y) (leaves_counted (below box i m) a)
    (λ e c h o. stays_at may n (below box i m) a x g.2 e c h o)
    (λ e c h o. stays_at may (n + leaf_total a) (above box i m) b y g.3 e c h o) k d l other))

pub others_stay : OthersStay
others_stay part box given tree g k d l other =
    stays_at (IsOfPart part) 0 box given tree g k d l
    (λ m. other (let e : 0 + k ≡ k = omega arith in subst (IsOfPart part) e m))

-- ---- parts that are put together

module _ (inst : Tables) (lists : ℕ) (Such : Leaf → Type 0) where
  -- a tree goes on with the leaves of a given one that may be split, and those beneath them are such
  record IsOwn (may : ℕ → Type 0) (n : ℕ) (box : List Span) (given tree : Tree) : Type 0 where
    goes : GoesOnFrom may n given tree
    range : IsTreeInRange inst lists box tree
    holds : AllBeneath may Such n box given tree

  -- so do both parts of a split
  record AreOwn (may : ℕ → Type 0) (n : ℕ) (box : List Span) (i m : ℕ) (l r x y : Tree) : Type 0 where
    is_split : IsSplit box i m
    left_own : IsOwn may n (below box i m) l x
    right_own : IsOwn may (n + leaf_total l) (above box i m) r y

  are_own : (may : ℕ → Type 0) (n : ℕ) (box : List Span) (i m : ℕ) (l r u : Tree)
      → IsOwn may n box (split i m l r) u → AreOwn may n box i m l r (left_of u) (right_of u)
  are_own may n box i m l r (leaf a) h = absurd h.goes
  are_own may n box i m l r (split j q x y) h =
      subst (λ (v : ℕ). AreOwn may n box v m l r x y) (sym h.goes.0)
      (subst (λ (v : ℕ). AreOwn may n box j v l r x y) (sym h.goes.1) (record {
        is_split = h.range.0;
        left_own = record { goes = h.goes.2; range = h.range.1; holds = h.holds.0 };
        right_own = record { goes = h.goes.3; range = h.range.2; holds = h.holds.1 };
      }))

  -- the leaves of part k of so many
  abbrev OfPart : (count k n : ℕ) → Type 0
  OfPart count k n = IsOfPart (record { number = k; count = count }) n

  joins : (count : ℕ) → 0 < count → (n : ℕ) (box : List Span) (t : Tree) (trees : ℕ → Tree)
      → ((k : ℕ) → k < count → IsOwn (OfPart count k) n box t (trees k))
      → IsTreeInRange inst lists box (joined count n t trees) × All Such (leaves box (joined count n t trees))
  joins count some n box (leaf a) trees own =
      let h = own (n % count) (mod-lt n some) in (h.range, h.holds refl)
  joins count some n box (split i m l r) trees own =
      let first = are_own (OfPart count 0) n box i m l r (trees 0) (own 0 some) in
      let left = joins count some n (below box i m) l (λ k. left_of (trees k))
      (λ k c. (are_own (OfPart count k) n box i m l r (trees k) (own k c)).left_own) in
      let right = joins count some (n + leaf_total l) (above box i m) r (λ k. right_of (trees k))
      (λ k c. (are_own (OfPart count k) n box i m l r (trees k) (own k c)).right_own) in (
        (first.is_split, left.0, right.0),
        All-append Such (leaves (below box i m) (joined count n l (λ k. left_of (trees k))))
            (leaves (above box i m) (joined count (n + leaf_total l) r (λ k. right_of (trees k)))) left.1 right.1,
      )

pub parts_join : PartsJoin
parts_join value inst lists worths bound given count trees some own =
    let both = joins inst lists (λ (x : Leaf). LeafHolds value inst bound worths x.box x.node) count some 0
    (root_box inst) given trees
    (λ k c. let h = own k c in record { goes = h.stays; range = h.in_range; holds = h.holds }) in
    record {
      tree = joined count 0 given trees;
      of_nodes = record { order = refl; in_range = both.0 };
      holds = both.1;
    }
