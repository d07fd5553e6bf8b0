-- The nodes of a tree under construction, listed one after another.
use Rattle.std.proofs.Common.{◌≡◌, ℕ, ◌+◌, ◌<◌, ◌≤◌, ◌⊎◌, inl, inr, refl, sym, ◌∙◌, ap, subst, arith, List, [], ◌∷◌}
use Rattle.std.proofs.Common.{◌++◌, length, map, reverse, append_assoc}
use Rattle.std.proofs.lemmas.List.{append-nil, length-append, length-map, reverse-append, nil_from_length}
use Rattle.certificate_tree.specs.declared.node.Node.{Node}
use Rattle.certificate_tree.specs.declared.node.Node.TheVariants.{Split}
use Rattle.branch_search.specs.declared.tree.cell.Cell.{Cell}
use Rattle.branch_search.specs.Growing.{cell_at, node_at}
use Rattle.branch_search.specs.Shapes.{Shape, tip, fork, top, numbers, size, IsWithin, Stands, IsShapeOf}
use Rattle.branch_search.specs.Listing.{all_numbers, AllStand, AllWithinOf, IsListed}
use Rattle.branch_search.proofs.CellLemmas.{split_is_no_leaf}

pub length-numbers : (s : Shape) → length (numbers s) ≡ size s
length-numbers (tip k) = refl
length-numbers (fork k l r) =
    let e = length-append (numbers l) (numbers r) in
    let f = length-numbers l in
    let g = length-numbers r in
    omega (arith, e, f, g)

pub top_within : (n : ℕ) (s : Shape) → IsWithin n s → top s < n
top_within n (tip k) h = h
top_within n (fork k l r) h = h.0

-- ---- the first one
pub list_start : (cells : List Cell) (shape : Shape) → IsShapeOf cells shape → IsListed cells shape [] (0 ∷ [])
list_start cells shape h = record {
  left = shape ∷ [];
  tops = ap (λ (k : ℕ). k ∷ []) (sym h.root);
  stand = (h.stands, tt);
  within = (h.within, tt);
  whole = ap (map (node_at cells)) (append-nil (numbers shape));
}

-- ---- one more
reversed : {A : Type 0} (xs : List A) (x : A) → reverse (xs ++ x ∷ []) ≡ x ∷ reverse xs
reversed xs x = reverse-append xs (x ∷ [])

head_is : (x y : ℕ) (xs ys : List ℕ) → x ∷ xs ≡ y ∷ ys → x ≡ y
head_is x y xs ys e = cc

tail_is : (x y : ℕ) (xs ys : List ℕ) → x ∷ xs ≡ y ∷ ys → xs ≡ ys
tail_is x y xs ys e = cc

some_left : (x : ℕ) (xs : List ℕ) → x ∷ xs ≡ [] → ⊥
some_left x xs e = cc

nothing_left : (x : ℕ) (xs : List ℕ) → [] ≡ x ∷ xs → ⊥
nothing_left x xs e = cc

-- the shape at the top of the stack, and those behind it
pub record IsAtTop (cells : List Cell) (shape : Shape) (nodes : List Node) (rest : List ℕ) (k : ℕ) : Type 0 where
  pub first : Shape
  pub others : List Shape
  pub top_is : top first ≡ k
  pub tops : reverse rest ≡ map top others
  pub stands : Stands cells first
  pub stand : AllStand cells others
  pub first_within : IsWithin (length cells) first
  pub within : AllWithinOf (length cells) others
  pub whole : nodes ++ map (node_at cells) (numbers first ++ all_numbers others) ≡ map (node_at cells) (numbers shape)

pub at_top : (cells : List Cell) (shape : Shape) (nodes : List Node) (stack rest : List ℕ) (k : ℕ)
    → IsListed cells shape nodes stack → stack ≡ rest ++ k ∷ [] → IsAtTop cells shape nodes rest k
at_top cells shape nodes stack rest k h e =
    at h.left (sym (reversed rest k) ∙ ap reverse (sym e) ∙ h.tops) h.stand h.within h.whole
  where
    at : (left : List Shape) → k ∷ reverse rest ≡ map top left → AllStand cells left → AllWithinOf (length cells) left
        → nodes ++ map (node_at cells) (all_numbers left) ≡ map (node_at cells) (numbers shape)
        → IsAtTop cells shape nodes rest k
    at [] f s w q = absurd (some_left k (reverse rest) f)
    at (first ∷ others) f s w q = record {
      first = first;
      others = others;
      top_is = sym (head_is k (top first) (reverse rest) (map top others) f);
      tops = tail_is k (top first) (reverse rest) (map top others) f;
      stands = s.0;
      stand = s.1;
      first_within = w.0;
      within = w.1;
      whole = q;
    }

pub top_known : (cells : List Cell) (shape : Shape) (nodes : List Node) (rest : List ℕ) (k : ℕ)
    → IsAtTop cells shape nodes rest k → k < length cells
top_known cells shape nodes rest k h = subst (λ (j : ℕ). j < length cells) h.top_is
    (top_within (length cells) h.first h.first_within)

one_more : (nodes : List Node) (n : Node) (xs : List Node) → (nodes ++ n ∷ []) ++ xs ≡ nodes ++ (n ∷ xs)
one_more nodes n xs = append_assoc nodes (n ∷ []) xs

-- a leaf is listed
pub leaf_listed : (cells : List Cell) (shape : Shape) (nodes : List Node) (rest : List ℕ) (k : ℕ)
    → IsAtTop cells shape nodes rest k → ((i m : ℕ) → node_at cells k ≡ Split i m → ⊥)
    → IsListed cells shape (nodes ++ node_at cells k ∷ []) rest
leaf_listed cells shape nodes rest k h apart = at h.first h.top_is h.stands h.whole
  where
    at : (first : Shape) → top first ≡ k → Stands cells first
        → nodes ++ map (node_at cells) (numbers first ++ all_numbers h.others) ≡ map (node_at cells) (numbers shape)
        → IsListed cells shape (nodes ++ node_at cells k ∷ []) rest
    at (tip j) e s q = record {
      left = h.others;
      tops = h.tops;
      stand = h.stand;
      within = h.within;
      whole = one_more nodes (node_at cells k) (map (node_at cells) (all_numbers h.others))
          ∙ ap (λ (t : ℕ). nodes ++ (node_at cells t ∷ map (node_at cells) (all_numbers h.others))) (sym e) ∙ q;
    }
    at (fork j l r) e s q = absurd (apart s.0.number s.0.last (ap (node_at cells) (sym e) ∙ s.0.node))

-- the parts of a split at the top
pub record ArePartsAt (cells : List Cell) (shape : Shape) (nodes : List Node) (rest : List ℕ) (k : ℕ) : Type 0 where
  pub known : (cell_at cells k).left + 1 < length cells
  pub listed : IsListed cells shape (nodes ++ node_at cells k ∷ [])
      ((rest ++ ((cell_at cells k).left + 1) ∷ []) ++ (cell_at cells k).left ∷ [])

pub split_listed : (cells : List Cell) (shape : Shape) (nodes : List Node) (rest : List ℕ) (k i m : ℕ)
    → IsAtTop cells shape nodes rest k → node_at cells k ≡ Split i m → ArePartsAt cells shape nodes rest k
split_listed cells shape nodes rest k i m h node = at h.first h.top_is h.stands h.first_within h.whole
  where
    at : (first : Shape) → top first ≡ k → Stands cells first → IsWithin (length cells) first
        → nodes ++ map (node_at cells) (numbers first ++ all_numbers h.others) ≡ map (node_at cells) (numbers shape)
        → ArePartsAt cells shape nodes rest k
    at (tip j) e s w q = absurd (split_is_no_leaf (node_at cells j) i m (ap (node_at cells) e ∙ node) s)
    at (fork j l r) e s w q =
        let a = s.0.left ∙ ap (λ (t : ℕ). (cell_at cells t).left) e in
        let b = s.0.right ∙ ap (λ (t : ℕ). (cell_at cells t).left + 1) e in
        let c = top_within (length cells) r w.2 in
        record {
          known = subst (λ (t : ℕ). t < length cells) b c;
          listed = record {
            left = l ∷ r ∷ h.others;
            tops = reversed (rest ++ ((cell_at cells k).left + 1) ∷ []) (cell_at cells k).left
                ∙ ap (λ (xs : List ℕ). (cell_at cells k).left ∷ xs) (reversed rest ((cell_at cells k).left + 1))
                ∙ ap (λ (x : ℕ). x ∷ ((cell_at cells k).left + 1) ∷ reverse rest) (sym a)
                ∙ ap (λ (x : ℕ). top l ∷ x ∷ reverse rest) (sym b)
                ∙ ap (λ (xs : List ℕ). top l ∷ top r ∷ xs) h.tops;
            stand = (s.1, (s.2, h.stand));
            within = (w.1, (w.2, h.within));
            whole = one_more nodes (node_at cells k)
                (map (node_at cells) (numbers l ++ (numbers r ++ all_numbers h.others)))
                ∙ ap (λ (t : ℕ). nodes ++ (node_at cells t
                ∷ map (node_at cells) (numbers l ++ (numbers r ++ all_numbers h.others)))) (sym e)
                ∙ ap (λ (xs : List ℕ). nodes ++ (node_at cells j ∷ map (node_at cells) xs))
                (sym (append_assoc (numbers l) (numbers r) (all_numbers h.others))) ∙ q;
          };
        }

-- ---- all
pub list_end : (cells : List Cell) (shape : Shape) (nodes : List Node) (stack : List ℕ) → IsShapeOf cells shape
    → IsListed cells shape nodes stack → (stack ≡ []) ⊎ (length cells ≤ length nodes)
    → nodes ≡ map (node_at cells) (numbers shape)
list_end cells shape nodes stack s h (inl e) = at h.left (ap reverse (sym e) ∙ h.tops) h.whole
  where
    at : (left : List Shape) → [] ≡ map top left
        → nodes ++ map (node_at cells) (all_numbers left) ≡ map (node_at cells) (numbers shape)
        → nodes ≡ map (node_at cells) (numbers shape)
    at [] f q = sym (append-nil nodes) ∙ q
    at (first ∷ others) f q = absurd (nothing_left (top first) (map top others) f)
list_end cells shape nodes stack s h (inr l) =
    let a = length-append nodes (map (node_at cells) (all_numbers h.left)) in
    let b = ap (λ (xs : List Node). length xs) h.whole in
    let c = length-map (numbers shape) (node_at cells) in
    let d = length-numbers shape in
    let none = nil_from_length (map (node_at cells) (all_numbers h.left)) (omega (arith, a, b, c, d, s.count, l)) in
    sym (append-nil nodes) ∙ ap (λ (xs : List Node). nodes ++ xs) (sym none) ∙ h.whole
