-- The same nodes are those of one tree.
use Rattle.std.proofs.Common.{◌≡◌, ℕ, refl, sym, ◌∙◌, ap, subst, List, [], ◌∷◌, ◌++◌, append_assoc}
use Rattle.instance_model.specs.Tables.{Tables}
use Rattle.lagrange_bound.specs.declared.span.Span.{Span}
use Rattle.certificate_tree.specs.declared.node.Node.{Node}
use Rattle.certificate_tree.specs.declared.node.Node.TheVariants.{Split}
use Rattle.certificate_tree.specs.Trees.{Tree, leaf, split, pre_order, below, above}
use Rattle.certificate_tree.specs.Ranges.{IsLeafInRange, IsTreeInRange, AreNodesOf}

head_same : {A : Type 0} (x y : A) (xs ys : List A) → x ∷ xs ≡ y ∷ ys → x ≡ y
head_same x y xs ys e = cc

tail_same : {A : Type 0} (x y : A) (xs ys : List A) → x ∷ xs ≡ y ∷ ys → xs ≡ ys
tail_same x y xs ys e = cc

no_split : (inst : Tables) (lists : ℕ) (n : Node) (i m : ℕ) → n ≡ Split i m → IsLeafInRange inst lists n → ⊥
no_split inst lists n i m e h = subst (IsLeafInRange inst lists) e h

split_number : (i m j k : ℕ) → Split i m ≡ Split j k → i ≡ j
split_number i m j k e = cc

split_last : (i m j k : ℕ) → Split i m ≡ Split j k → m ≡ k
split_last i m j k e = cc

one_tree : (inst : Tables) (lists : ℕ) (a b : List Span) (t u : Tree) (xs ys : List Node) → IsTreeInRange inst lists a t
    → IsTreeInRange inst lists b u → pre_order t ++ xs ≡ pre_order u ++ ys → (t ≡ u) × (xs ≡ ys)
one_tree inst lists a b (leaf n) (leaf k) xs ys p q e = (ap leaf (head_same n k xs ys e), tail_same n k xs ys e)
one_tree inst lists a b (leaf n) (split i m l r) xs ys p q e =
    absurd (no_split inst lists n i m (head_same n (Split i m) xs ((pre_order l ++ pre_order r) ++ ys) e) p)
one_tree inst lists a b (split i m l r) (leaf n) xs ys p q e =
    absurd (no_split inst lists n i m (sym (head_same (Split i m) n ((pre_order l ++ pre_order r) ++ xs) ys e)) q)
one_tree inst lists a b (split i m l r) (split j k v w) xs ys p q e =
    let h =
    head_same (Split i m) (Split j k) ((pre_order l ++ pre_order r) ++ xs) ((pre_order v ++ pre_order w) ++ ys) e in
    let f =
    tail_same (Split i m) (Split j k) ((pre_order l ++ pre_order r) ++ xs) ((pre_order v ++ pre_order w) ++ ys) e in
    let g = sym (append_assoc (pre_order l) (pre_order r) xs) ∙ f ∙ append_assoc (pre_order v) (pre_order w) ys in
    let one = one_tree inst lists (below a i m) (below b j k) l v (pre_order r ++ xs) (pre_order w ++ ys) p.1 q.1 g in
    let two = one_tree inst lists (above a i m) (above b j k) r w xs ys p.2 q.2 one.1 in
    (same_split (split_number i m j k h) (split_last i m j k h) one.0 two.0, two.1)
  where
    same_split : {i j m k : ℕ} {l v r w : Tree} → i ≡ j → m ≡ k → l ≡ v → r ≡ w → split i m l r ≡ split j k v w
    same_split a b c d = cc

append-nil : {A : Type 0} (xs : List A) → xs ++ [] ≡ xs
append-nil [] = refl
append-nil (x ∷ xs) = ap (λ (ys : List _). x ∷ ys) (append-nil xs)

pub nodes_are_one_tree : (inst : Tables) (lists : ℕ) (box : List Span) (nodes : List Node) (t u : Tree)
    → AreNodesOf inst lists box t nodes → AreNodesOf inst lists box u nodes → t ≡ u
nodes_are_one_tree inst lists box nodes t u p q = (one_tree inst lists box box t u [] [] p.in_range q.in_range
    (append-nil (pre_order t) ∙ p.order ∙ sym q.order ∙ sym (append-nil (pre_order u)))).0
