-- The shape of a tree under construction, once a node is split.
use Rattle.std.proofs.Common.{◌≡◌, ℕ, suc, ◌+◌, ◌*◌, ◌<◌, ◌≤◌, refl, sym, ◌∙◌, ap, subst, arith, Bool, true, false}
use Rattle.std.proofs.Common.{cond, List, length, eqb, inl, inr}
use Rattle.std.proofs.lemmas.Bool.{eqb-true, eqb-false, eq-eqb, ne_eqb}
use Rattle.certificate_tree.specs.declared.node.Node.{Node}
use Rattle.certificate_tree.specs.declared.node.Node.TheVariants.{Split}
use Rattle.branch_search.specs.declared.tree.cell.Cell.{Cell}
use Rattle.branch_search.specs.Growing.{node_at, IsLeafNode, split_cells}
use Rattle.branch_search.specs.Shapes.{Shape, tip, fork, top, forks, size, same, times, tips, IsWithin, IsForkAt}
use Rattle.branch_search.specs.Shapes.{Stands}
use Rattle.branch_search.specs.Shapes.{IsShapeOf, grown}
use Rattle.branch_search.proofs.CellLemmas.{length_split, at_split, at_other, at_left, at_right, split_is_no_leaf}
use Rattle.branch_search.proofs.CellLemmas.{Where, where_is}

pub same_is : (k : ℕ) → same k k ≡ 1
same_is k = ap (λ (b : Bool). cond b 1 0) (eq-eqb k k refl)

pub same_not : (k j : ℕ) → (k ≡ j → ⊥) → same k j ≡ 0
same_not k j d = ap (λ (b : Bool). cond b 1 0) (ne_eqb k j d)

-- a split among the numbers is not n, where that is a leaf
pub fork_apart : (cells : List Cell) (n k a b : ℕ) → IsLeafNode (node_at cells n) → IsForkAt cells k a b → k ≡ n → ⊥
fork_apart cells n k a b leaf h e = split_is_no_leaf (node_at cells n) h.number h.last
    (subst (λ (j : ℕ). node_at cells j ≡ Split h.number h.last) e h.node) leaf

pub tips_are : (cells : List Cell) (n : ℕ) (s : Shape) → IsLeafNode (node_at cells n) → Stands cells s
    → tips n s ≡ times n s
tips_are cells n (tip k) leaf h = refl
tips_are cells n (fork k l r) leaf h =
    let z = same_not k n (fork_apart cells n k (top l) (top r) leaf h.0) in
    let x = tips_are cells n l leaf h.1 in
    let y = tips_are cells n r leaf h.2 in
    omega (arith, z, x, y)

pub times_none : (n j : ℕ) (s : Shape) → IsWithin n s → n ≤ j → times j s ≡ 0
times_none n j (tip k) h l = same_not k j (λ e. omega (arith, e, h, l))
times_none n j (fork k l r) h m =
    let z = same_not k j (λ e. omega (arith, e, h.0, m)) in
    let x = times_none n j l h.1 m in
    let y = times_none n j r h.2 m in
    omega (arith, z, x, y)

-- ---- growth
pub top-grown : (n a : ℕ) (s : Shape) → top (grown n a s) ≡ top s
top-grown n a (tip k) = at (eqb k n) refl
  where
    at : (b : Bool) → eqb k n ≡ b → top (cond b (fork n (tip a) (tip (suc a))) (tip k)) ≡ k
    at true e = sym (eqb-true k n e)
    at false e = refl
top-grown n a (fork k l r) = refl

forks-grown : (n a : ℕ) (s : Shape) → forks (grown n a s) ≡ forks s + tips n s
forks-grown n a (tip k) = at (eqb k n)
  where
    at : (b : Bool) → forks (cond b (fork n (tip a) (tip (suc a))) (tip k)) ≡ 0 + cond b 1 0
    at true = omega arith
    at false = omega arith
forks-grown n a (fork k l r) =
    let x = forks-grown n a l in
    let y = forks-grown n a r in
    omega (arith, x, y)

size-grown : (n a : ℕ) (s : Shape) → size (grown n a s) ≡ size s + 2 * tips n s
size-grown n a (tip k) = at (eqb k n)
  where
    at : (b : Bool) → size (cond b (fork n (tip a) (tip (suc a))) (tip k)) ≡ 1 + 2 * cond b 1 0
    at true = omega arith
    at false = omega arith
size-grown n a (fork k l r) =
    let x = size-grown n a l in
    let y = size-grown n a r in
    omega (arith, x, y)

times-grown : (n a j : ℕ) (s : Shape)
    → times j (grown n a s) ≡ times j s + tips n s * (same a j + same (suc a) j)
times-grown n a j (tip k) = at (eqb k n) refl
  where
    at : (b : Bool) → eqb k n ≡ b → times j (cond b (fork n (tip a) (tip (suc a))) (tip k))
        ≡ same k j + cond b 1 0 * (same a j + same (suc a) j)
    at true e = let f = ap (λ (i : ℕ). same i j) (eqb-true k n e) in omega (arith, f)
    at false e = omega arith
times-grown n a j (fork k l r) =
    let x = times-grown n a j l in
    let y = times-grown n a j r in
    omega (arith, x, y)

within-grown : (n a c : ℕ) (s : Shape) → IsWithin c s → n < c → c ≡ a → IsWithin (c + 2) (grown n a s)
within-grown n a c (tip k) h l e = at (eqb k n)
  where
    at : (b : Bool) → IsWithin (c + 2) (cond b (fork n (tip a) (tip (suc a))) (tip k))
    at true = (omega (arith, l), omega (arith, e), omega (arith, e))
    at false = omega (arith, h)
within-grown n a c (fork k l r) h m e =
    (omega (arith, h.0), within-grown n a c l h.1 m e, within-grown n a c r h.2 m e)

module _ (cells : List Cell) (n i m : ℕ) (a b : Node) (known : n < length cells)
    (leaf : IsLeafNode (node_at cells n)) (la : IsLeafNode a) (lb : IsLeafNode b) where
  stands-grown : (s : Shape) → Stands cells s → IsWithin (length cells) s
      → Stands (split_cells cells n i m a b) (grown n (length cells) s)
  stands-grown (tip k) h w = at (eqb k n) refl
    where
      split_stands : Stands (split_cells cells n i m a b) (fork n (tip (length cells)) (tip (suc (length cells))))
      split_stands =
          let e = at_split cells n i m a b known in (
            record {
              number = i;
              last = m;
              node = ap (λ (c : Cell). c.node) e;
              left = sym (ap (λ (c : Cell). c.left) e);
              right = let f = ap (λ (c : Cell). c.left) e in omega (arith, f);
            },
            subst (λ (c : Cell). IsLeafNode c.node) (sym (at_left cells n i m a b known (length cells) refl)) la,
            subst (λ (c : Cell). IsLeafNode c.node)
                (sym (at_right cells n i m a b known (suc (length cells)) (omega arith))) lb,
          )

      at : (t : Bool) → eqb k n ≡ t → Stands (split_cells cells n i m a b)
          (cond t (fork n (tip (length cells)) (tip (suc (length cells)))) (tip k))
      at true e = split_stands
      at false e = subst (λ (c : Cell). IsLeafNode c.node)
          (sym (at_other cells n i m a b known k w (eqb-false k n e))) h
  stands-grown (fork k l r) h w =
      let e = at_other cells n i m a b known k w.0 (fork_apart cells n k (top l) (top r) leaf h.0) in (
        record {
          number = h.0.number;
          last = h.0.last;
          node = ap (λ (c : Cell). c.node) e ∙ h.0.node;
          left = top-grown n (length cells) l ∙ h.0.left ∙ sym (ap (λ (c : Cell). c.left) e);
          right = top-grown n (length cells) r ∙ h.0.right ∙ sym (ap (λ (c : Cell). c.left + 1) e);
        },
        stands-grown l h.1 w.1,
        stands-grown r h.2 w.2,
      )

  pub one_tip : (s : Shape) → IsShapeOf cells s → tips n s ≡ 1
  one_tip s h = tips_are cells n s leaf h.stands ∙ h.once n known

  pub forks_more : (s : Shape) → IsShapeOf cells s → forks (grown n (length cells) s) ≡ forks s + 1
  forks_more s h = let t = one_tip s h in let f = forks-grown n (length cells) s in omega (arith, t, f)

  pub shape_more : (s : Shape) → IsShapeOf cells s
      → IsShapeOf (split_cells cells n i m a b) (grown n (length cells) s)
  shape_more s h =
      let e = length_split cells n i m a b known in
      record {
        stands = stands-grown s h.stands h.within;
        root = top-grown n (length cells) s ∙ h.root;
        once = λ k l. once k (where_is (length cells) n k (omega (arith, l, e)));
        within = subst (λ (c : ℕ). IsWithin c (grown n (length cells) s)) (sym e)
            (within-grown n (length cells) (length cells) s h.within known refl);
        count = let t = one_tip s h in let f = size-grown n (length cells) s in let c = h.count in
            omega (arith, e, t, f, c);
      }
    where
      -- what a number is counted: before, and among the two new ones
      counted : (k u v w : ℕ) → times k s ≡ u → same (length cells) k ≡ v → same (suc (length cells)) k ≡ w
          → times k (grown n (length cells) s) ≡ u + 1 * (v + w)
      counted k u v w p q r = times-grown n (length cells) k s
          ∙ ap (λ (x : ℕ). x + tips n s * (same (length cells) k + same (suc (length cells)) k)) p
          ∙ ap (λ (x : ℕ). u + x * (same (length cells) k + same (suc (length cells)) k)) (one_tip s h)
          ∙ ap (λ (x : ℕ). u + 1 * (x + same (suc (length cells)) k)) q
          ∙ ap (λ (x : ℕ). u + 1 * (v + x)) r

      old : (k : ℕ) → k < length cells → times k (grown n (length cells) s) ≡ 1
      old k l = counted k 1 0 0 (h.once k l) (same_not (length cells) k (λ e. omega (arith, e, l)))
          (same_not (suc (length cells)) k (λ e. omega (arith, e, l)))

      once : (k : ℕ) → Where (length cells) n k → times k (grown n (length cells) s) ≡ 1
      once k (inl e) = old k (omega (arith, e, known))
      once k (inr (inl (l, d))) = old k l
      once k (inr (inr (inl e))) = counted k 0 1 0 (times_none (length cells) k s h.within (omega (arith, e)))
          (ap (same (length cells)) (sym e) ∙ same_is (length cells))
          (same_not (suc (length cells)) k (λ f. omega (arith, e, f)))
      once k (inr (inr (inr e))) = counted k 0 0 1 (times_none (length cells) k s h.within (omega (arith, e)))
          (same_not (length cells) k (λ f. omega (arith, e, f)))
          (let f : k ≡ suc (length cells) = omega (arith, e) in
          ap (same (suc (length cells))) f ∙ same_is (suc (length cells)))
