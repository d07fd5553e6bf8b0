-- What a tree of boxes becomes: it is in range, its leaves hold, and it is one tree.
use Rattle.std.proofs.Common.{◌≡◌, inl, inr, ℕ, ◌<◌, ◌^◌, refl, sym, ◌∙◌, ap, subst, arith, ℤ, pos, ◌-ℤ◌, ◌≤ℤ◌}
use Rattle.std.proofs.Common.{List, [], ◌∷◌, ◌++◌, length, map, All, unsigned_abs, Some, Bool, true, false}
use Rattle.std.specs.Prelude.{is_some, if◌then◌else◌}
use Rattle.std.proofs.lemmas.Bool.{false≢true}
use Rattle.std.proofs.lemmas.List.Elements.{All-nil, All-cons, All-head, All-tail, All-append}
use Rattle.fixed_num.proofs.SignedLemmas.{signed_arith}
use Rattle.instance_model.specs.Tables.{Tables}
use Rattle.instance_model.specs.Fitting.{IsFitting}
use Rattle.instance_model.specs.Plans.{AreAllowedStarts}
use Rattle.instance_model.specs.Rules.{first_rule, IsFeasible}
use Rattle.lagrange_bound.specs.declared.span.Span.{Span}
use Rattle.lagrange_bound.specs.Goals.{risk_value, ValuesAreSmall}
use Rattle.lagrange_bound.specs.Boxes.{IsBox, HasStarts}
use Rattle.certificate_lines.specs.declared.line.Bound.{Bound}
use Rattle.certificate_lines.specs.declared.line.Bound.TheVariants.{NoPlan, Least}
use Rattle.certificate_tree.specs.declared.node.Node.{Node}
use Rattle.certificate_tree.specs.declared.node.Node.TheVariants.{Split, Cost, Point, Band, Excl, Empty}
use Rattle.certificate_tree.specs.Trees.{Tree, leaf, split, Leaf, leaves, below, above}
use Rattle.certificate_tree.specs.Ranges.{IsLeafInRange, IsTreeInRange}
use Rattle.certificate_tree.specs.Holding.{Worths, IsGreatest, IsAtLeast, IsSingle, first_starts, LeafHolds}
use Rattle.certificate_tree.specs.Validity.{BoundsPlans}
use Rattle.certificate_tree.proofs.RootLemmas.{parts_are_boxes}
use Rattle.certificate_tree.proofs.Refuting.{feasible_allowed, length-first_starts}
use Rattle.band_rebound.specs.Rebinding.{IsHeld, Becomes, TreeBecomes, worths_at, tree_worths, ReachLeastBound}
use Rattle.band_rebound.specs.Rebinding.{LeafCounts, sum_of, CountsLeaf, Counts}
use Rattle.band_rebound.specs.Rebinding.Becomes.{empty, same, point, cost}
use Rattle.band_rebound.proofs.LeafLemmas.{not_empty, one_leaf, held_none}
use Rattle.band_rebound.proofs.BoundLemmas.{AreHigh}

-- ---- lists

front : {A : Type 0} (P : A → Type 0) (xs ys : List A) → All P (xs ++ ys) → All P xs
front P [] ys h = All-nil P
front P (x ∷ xs) ys h =
    All-cons P x xs (All-head P x (xs ++ ys) h) (front P xs ys (All-tail P x (xs ++ ys) h))

back : {A : Type 0} (P : A → Type 0) (xs ys : List A) → All P (xs ++ ys) → All P ys
back P [] ys h = h
back P (x ∷ xs) ys h = back P xs ys (All-tail P x (xs ++ ys) h)

only : {A : Type 0} (P : A → Type 0) (x : A) → P x → All P (x ∷ [])
only P x h = All-cons P x [] h (All-nil P)

-- a fact on the numbers of a split
pub along : (P : ℕ → ℕ → Type 0) (i j m n : ℕ) → i ≡ j → m ≡ n → P i m → P j n
along P i j m n e f h = subst (λ (x : ℕ). P x n) e (subst (λ (y : ℕ). P i y) f h)

-- ---- what single leaves are worth

-- a `point` whose plan is feasible is worth its score
pub point_worth : (P : ℤ → Type 0) (inst : Tables) (box : List Span) (worths : Worths)
    → All P (worths_at inst worths box Point) → IsFeasible inst (map Some (first_starts box))
    → P (risk_value inst (first_starts box))
point_worth P inst box worths all feasible =
    at (is_some (first_rule inst (map Some (first_starts box)))) feasible all
  where
    at : (b : Bool) → b ≡ false → All P (if b then [] else risk_value inst (first_starts box) ∷ [])
        → P (risk_value inst (first_starts box))
    at true e all = absurd (false≢true (sym e))
    at false e all = All-head P (risk_value inst (first_starts box)) [] all

-- and where that has a fact, all that it is worth has it
pub point_worths : (P : ℤ → Type 0) (inst : Tables) (box : List Span) (worths : Worths)
    → (IsFeasible inst (map Some (first_starts box)) → P (risk_value inst (first_starts box)))
    → All P (worths_at inst worths box Point)
point_worths P inst box worths f = at (is_some (first_rule inst (map Some (first_starts box)))) f
  where
    at : (b : Bool) → (b ≡ false → P (risk_value inst (first_starts box)))
        → All P (if b then [] else risk_value inst (first_starts box) ∷ [])
    at true f = All-nil P
    at false f = only P (risk_value inst (first_starts box)) (f refl)

-- a `band` and an `excl` are worth nothing
held_worths : (P : ℤ → Type 0) (inst : Tables) (worths : Worths) (box : List Span) (n : Node)
    → IsHeld inst box n → All P (worths_at inst worths box n)
held_worths P inst worths box n h =
    subst (λ (zs : List ℤ). All P zs) (sym (held_none inst worths box n h)) (All-nil P)

-- a leaf holds on its box
abbrev pub Holds : Tables → Bound → Worths → Leaf → Type 0
Holds inst bound worths x = LeafHolds risk_value inst bound worths x.box x.node

held_holds : (inst : Tables) (bound : Bound) (worths : Worths) (box : List Span) (n : Node) → IsHeld inst box n
    → LeafHolds risk_value inst bound worths box n
held_holds inst bound worths box (Split i m) h = absurd h
held_holds inst bound worths box (Cost j) h = absurd h
held_holds inst bound worths box Point h = absurd h
held_holds inst bound worths box (Band c t side) h = h
held_holds inst bound worths box (Excl e) h = h
held_holds inst bound worths box (Empty i) h = absurd h

at_least_more : (bound : Bound) (x y : ℤ) → IsAtLeast bound x → x ≤ℤ y → IsAtLeast bound y
at_least_more NoPlan x y h l = absurd h
at_least_more (Least b) x y h l = omega (arith, signed_arith)

module _ (inst : Tables) (lists : ℕ) (worths : Worths) where
  -- ---- in range

  leaf_in_range : (box : List Span) (old new : Node) → IsLeafInRange inst lists old
      → Becomes inst lists worths box old new → IsLeafInRange inst lists new
  leaf_in_range box old new range (empty i f) = f.number
  leaf_in_range box old new range (same s h) = range
  leaf_in_range box old new range (point s n o) = tt
  leaf_in_range box old new range (cost j s n o g) = g.number

  pub tree_in_range : (box : List Span) (old new : Tree) → IsTreeInRange inst lists box old
      → TreeBecomes inst lists worths box old new → IsTreeInRange inst lists box new
  tree_in_range box (leaf a) (leaf b) range h = leaf_in_range box a b range h
  tree_in_range box (leaf a) (split j n k q) range h = absurd h
  tree_in_range box (split i m l r) (leaf b) range h = absurd h
  tree_in_range box (split i m l r) (split j n k q) (splits, left, right) (e, f, x, y) =
      along (λ a b. IsTreeInRange inst lists box (split a b k q)) i j m n e f
      (splits, tree_in_range (below box i m) l k left x, tree_in_range (above box i m) r q right y)

  -- ---- the leaves hold

  leaf_holds : (bound : Bound) (box : List Span) (old new : Node)
      → All (IsAtLeast bound) (worths_at inst worths box new)
      → Becomes inst lists worths box old new → LeafHolds risk_value inst bound worths box new
  leaf_holds bound box old new all (empty i f) = f.none
  leaf_holds bound box old new all (same s h) = held_holds inst bound worths box old h
  leaf_holds bound box old new all (point s n o) =
      record { single = o; bounded = point_worth (IsAtLeast bound) inst box worths all }
  leaf_holds bound box old new all (cost j s n o g) =
      record { starts = s; worth = All-head (IsAtLeast bound) (worths box j) [] all }

  pub leaves_hold : (bound : Bound) (box : List Span) (old new : Tree)
      → All (IsAtLeast bound) (tree_worths inst worths box new) → TreeBecomes inst lists worths box old new
      → All (Holds inst bound worths) (leaves box new)
  leaves_hold bound box (leaf a) (leaf b) all h =
      only (Holds inst bound worths) (record { box = box; node = b }) (leaf_holds bound box a b all h)
  leaves_hold bound box (leaf a) (split j n k q) all h = absurd h
  leaves_hold bound box (split i m l r) (leaf b) all h = absurd h
  leaves_hold bound box (split i m l r) (split j n k q) all (e, f, x, y) =
      along (λ a b. All (IsAtLeast bound) (tree_worths inst worths box (split a b k q))
      → All (Holds inst bound worths) (leaves box (split a b k q))) i j m n e f
      (λ here. All-append (Holds inst bound worths) (leaves (below box i m) k) (leaves (above box i m) q)
      (leaves_hold bound (below box i m) l k
      (front (IsAtLeast bound) (tree_worths inst worths (below box i m) k) (tree_worths inst worths (above box i m) q)
      here) x)
      (leaves_hold bound (above box i m) r q
      (back (IsAtLeast bound) (tree_worths inst worths (below box i m) k) (tree_worths inst worths (above box i m) q)
      here) y)) all

  -- ---- there is one tree

  pub one_tree : (box : List Span) (old a b : Tree) → TreeBecomes inst lists worths box old a
      → TreeBecomes inst lists worths box old b → a ≡ b
  one_tree box (leaf n) (leaf a) (leaf b) h k = ap leaf (one_leaf inst lists worths box n a b h k)
  one_tree box (leaf n) (leaf a) (split j m p q) h k = absurd k
  one_tree box (leaf n) (split j m p q) b h k = absurd h
  one_tree box (split i m l r) (leaf a) b h k = absurd h
  one_tree box (split i m l r) (split j n p q) (leaf b) h k = absurd k
  one_tree box (split i m l r) (split j n p q) (split f g u v) (a, b, x, y) (c, d, z, w) =
      same_split j f n g p u q v (sym a ∙ c) (sym b ∙ d) (one_tree (below box i m) l p u x z)
      (one_tree (above box i m) r q v y w)
    where
      same_split : (j f n g : ℕ) (p u q v : Tree) → j ≡ f → n ≡ g → p ≡ u → q ≡ v → split j n p q ≡ split f g u v
      same_split j f n g p u q v a b c d = cc

-- ---- a fact of the worths of all leaves of a tree over a box, where each new leaf has it

module _ (inst : Tables) (lists : ℕ) (worths : Worths) (P : ℤ → Type 0) (Q : List Span → Node → Type 0)
    (one : (box : List Span) (old new : Node) → IsBox inst box → IsLeafInRange inst lists old → Q box old
    → Becomes inst lists worths box old new → All P (worths_at inst worths box new)) where
  pub all_worths : (box : List Span) (old new : Tree) → IsBox inst box → IsTreeInRange inst lists box old
      → All (λ x. Q x.box x.node) (leaves box old) → TreeBecomes inst lists worths box old new
      → All P (tree_worths inst worths box new)
  all_worths box (leaf a) (leaf b) is_box range here h =
      one box a b is_box range (All-head (λ x. Q x.box x.node) (record { box = box; node = a }) [] here) h
  all_worths box (leaf a) (split j n k q) is_box range here h = absurd h
  all_worths box (split i m l r) (leaf b) is_box range here h = absurd h
  all_worths box (split i m l r) (split j n k q) is_box (splits, left, right) here (e, f, x, y) =
      let parts = parts_are_boxes inst box i m is_box splits in
      along (λ a b. All P (tree_worths inst worths box (split a b k q))) i j m n e f
      (All-append P (tree_worths inst worths (below box i m) k) (tree_worths inst worths (above box i m) q)
      (all_worths (below box i m) l k parts.0 left
      (front (λ x. Q x.box x.node) (leaves (below box i m) l) (leaves (above box i m) r) here) x)
      (all_worths (above box i m) r q parts.1 right
      (back (λ x. Q x.box x.node) (leaves (below box i m) l) (leaves (above box i m) r) here) y))

-- ---- a bound that was proved before

module _ (inst : Tables) (lists : ℕ) (worths : Worths) (bound : Bound)
    (bounds : BoundsPlans risk_value inst bound) where
  cost_above : (box : List Span) (old : Node) (j : ℕ) → IsLeafInRange inst lists old
      → LeafHolds risk_value inst bound worths box old → HasStarts inst box → (IsHeld inst box old → ⊥)
      → (IsSingle box → ⊥) → IsGreatest (worths box) lists j → IsAtLeast bound (worths box j)
  cost_above box (Split i m) j range holds s n o g = absurd range
  cost_above box (Cost k) j range holds s n o g =
      at_least_more bound (worths box k) (worths box j) holds.worth (g.greatest k range)
  cost_above box Point j range holds s n o g = absurd (o holds.single)
  cost_above box (Band c t side) j range holds s n o g = absurd (n holds)
  cost_above box (Excl e) j range holds s n o g = absurd (n holds)
  cost_above box (Empty i) j range holds s n o g = absurd (not_empty inst box i s range holds)

  leaf_above : (box : List Span) (old new : Node) → IsBox inst box → IsLeafInRange inst lists old
      → LeafHolds risk_value inst bound worths box old → Becomes inst lists worths box old new
      → All (IsAtLeast bound) (worths_at inst worths box new)
  leaf_above box old new is_box range holds (empty i f) = All-nil (IsAtLeast bound)
  leaf_above box old new is_box range holds (same s h) = held_worths (IsAtLeast bound) inst worths box old h
  leaf_above box old new is_box range holds (point s n o) =
      point_worths (IsAtLeast bound) inst box worths
      (λ feasible. bounds (first_starts box) (length-first_starts box ∙ is_box.each) feasible)
  leaf_above box old new is_box range holds (cost j s n o g) =
      only (IsAtLeast bound) (worths box j) (cost_above box old j range holds s n o g)

  -- where all leaves of a tree hold, what the new leaves are worth is at least its bound
  pub worths_above : (box : List Span) (old new : Tree) → IsBox inst box → IsTreeInRange inst lists box old
      → All (Holds inst bound worths) (leaves box old) → TreeBecomes inst lists worths box old new
      → All (IsAtLeast bound) (tree_worths inst worths box new)
  worths_above =
      all_worths inst lists worths (IsAtLeast bound) (λ box n. LeafHolds risk_value inst bound worths box n) leaf_above

-- ---- what leaves are worth is from -10^36 on

from_least : (z : ℤ) → unsigned_abs z < 10 ^ 36 → (pos 0 -ℤ pos (10 ^ 36)) ≤ℤ z
from_least z h = omega (arith, signed_arith)

and_more : (z w : ℤ) → (pos 0 -ℤ pos (10 ^ 36)) ≤ℤ z → z ≤ℤ w → (pos 0 -ℤ pos (10 ^ 36)) ≤ℤ w
and_more z w h l = omega (arith, signed_arith)

-- a feasible plan has allowed starts
pub feasible_starts : (inst : Tables) (starts : List ℕ) → length starts ≡ length inst.names
    → IsFeasible inst (map Some starts) → AreAllowedStarts inst starts
feasible_starts inst starts each feasible = record {
  each = each;
  allowed = λ i l. feasible_allowed inst starts each feasible i (omega (arith, l, each));
}

nothing_more : (ls : List Leaf) → All (λ x. Unit {0}) ls
nothing_more ls i d l = tt

module _ (inst : Tables) (lists : ℕ) (worths : Worths) (fit : IsFitting inst) (values : ValuesAreSmall risk_value)
    (low : ReachLeastBound inst worths) where
  leaf_high : (box : List Span) (old new : Node) → IsBox inst box → IsLeafInRange inst lists old → Unit {0}
      → Becomes inst lists worths box old new → AreHigh (worths_at inst worths box new)
  leaf_high box old new is_box range u (empty i f) = All-nil (λ z. (pos 0 -ℤ pos (10 ^ 36)) ≤ℤ z)
  leaf_high box old new is_box range u (same s h) =
      held_worths (λ z. (pos 0 -ℤ pos (10 ^ 36)) ≤ℤ z) inst worths box old h
  leaf_high box old new is_box range u (point s n o) =
      point_worths (λ z. (pos 0 -ℤ pos (10 ^ 36)) ≤ℤ z) inst box worths
      (λ feasible. from_least (risk_value inst (first_starts box)) (values inst (first_starts box) fit
      (feasible_starts inst (first_starts box) (length-first_starts box ∙ is_box.each) feasible)))
  leaf_high box old new is_box range u (cost j s n o g) =
      only (λ z. (pos 0 -ℤ pos (10 ^ 36)) ≤ℤ z) (worths box j)
      (and_more (worths box 0) (worths box j) (low box is_box s) (g.greatest 0 (omega arith)))

  pub worths_high : (box : List Span) (old new : Tree) → IsBox inst box → IsTreeInRange inst lists box old
      → TreeBecomes inst lists worths box old new → AreHigh (tree_worths inst worths box new)
  worths_high box old new is_box range h =
      all_worths inst lists worths (λ z. (pos 0 -ℤ pos (10 ^ 36)) ≤ℤ z) (λ box n. Unit {0}) leaf_high box old new is_box
      range (nothing_more (leaves box old)) h

-- ---- leaves are counted in one way

one_count : (old new : Node) (a b : LeafCounts) → CountsLeaf old new a → CountsLeaf old new b → a ≡ b
one_count old new a b (inl (e, f)) (inl (g, h)) = f ∙ sym h
one_count old new a b (inl (e, f)) (inr (g, h)) = absurd (g e)
one_count old new a b (inr (e, f)) (inl (g, h)) = absurd (e g)
one_count old new a b (inr (e, f)) (inr (g, h)) = f ∙ sym h

pub one_counting : (old new : Tree) (a b : LeafCounts) → Counts old new a → Counts old new b → a ≡ b
one_counting (leaf n) (leaf m) a b h k = one_count n m a b h k
one_counting (leaf n) (split j m p q) a b h k = absurd h
one_counting (split i m l r) (leaf n) a b h k = absurd h
one_counting (split i m l r) (split j n p q) a b (x, (y, left, right, e)) (z, (w, more, rest, f)) =
    e ∙ ap (λ (c : LeafCounts). sum_of c y) (one_counting l p x z left more)
    ∙ ap (λ (c : LeafCounts). sum_of z c) (one_counting r q y w right rest) ∙ sym f
