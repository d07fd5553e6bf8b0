-- The walk over the nodes of a tree: the parts of it that are still to come.
use Rattle.std.proofs.Common.{◌≡◌, ℕ, zero, suc, ◌+◌, ◌<◌, ◌≤◌, inl, inr, refl, sym, ◌∙◌, ap, subst, arith, ℤ, List, []}
use Rattle.std.proofs.Common.{◌∷◌, ◌++◌, length, get_or, drop, add-one, append_assoc}
use Rattle.std.specs.Prelude.{⊤}
use Rattle.std.proofs.lemmas.List.{append-nil}
use Rattle.instance_model.specs.Tables.{Tables}
use Rattle.instance_model.specs.Fitting.{IsFitting}
use Rattle.lagrange_bound.specs.declared.span.Span.{Span}
use Rattle.lagrange_bound.specs.Boxes.{IsBox}
use Rattle.certificate_lines.specs.declared.line.Bound.{Bound}
use Rattle.certificate_tree.specs.declared.node.Node.{Node}
use Rattle.certificate_tree.specs.declared.node.Node.TheVariants.{Split}
use Rattle.certificate_tree.specs.Trees.{Tree, leaf, split, pre_order, root_box, below, above, IsSplit}
use Rattle.certificate_tree.specs.Ranges.{IsLeafInRange, IsTreeInRange, AreNodesOf}
use Rattle.certificate_tree.specs.Holding.{Worths}
use Rattle.certificate_tree.specs.Walk.{first_box, other_boxes}
use Rattle.certificate_tree.proofs.RootLemmas.{parts_are_boxes, root_is_box}
use Rattle.band_rebound.specs.declared.growth.Growth.{Growth}
use Rattle.band_rebound.specs.declared.leaf.NewLeaf.{NewLeaf}
use Rattle.band_rebound.specs.Rebinding.{TreeBecomes, worths_at, tree_worths, IsBoundOf, LeafCounts, sum_of, CountsLeaf}
use Rattle.band_rebound.specs.Rebinding.{Counts}
use Rattle.band_rebound.proofs.TreeLemmas.{along}
use Rattle.band_rebound.specs.Steps.{some_worth, IsNewLeaf, counts_of, TakesLeaf, IsGrown}

-- ---- the parts of a tree that are still to come

-- a tree over a box
pub record Part : Type 0 where
  pub box : List Span
  pub tree : Tree

abbrev pub boxes_of : List Part → List (List Span)
boxes_of [] = []
boxes_of (p ∷ ps) = p.box ∷ boxes_of ps

abbrev pub nodes_of : List Part → List Node
nodes_of [] = []
nodes_of (p ∷ ps) = pre_order p.tree ++ nodes_of ps

abbrev pub AreInRange : Tables → ℕ → List Part → Type 0
AreInRange inst lists [] = ⊤
AreInRange inst lists (p ∷ ps) = IsBox inst p.box × IsTreeInRange inst lists p.box p.tree × AreInRange inst lists ps

-- what they become
abbrev pub AllBecome : Tables → ℕ → Worths → List Part → List Tree → Type 0
AllBecome inst lists worths [] [] = ⊤
AllBecome inst lists worths [] (t ∷ ts) = ⊥
AllBecome inst lists worths (p ∷ ps) [] = ⊥
AllBecome inst lists worths (p ∷ ps) (t ∷ ts) =
    TreeBecomes inst lists worths p.box p.tree t × AllBecome inst lists worths ps ts

abbrev pub new_nodes : List Tree → List Node
new_nodes [] = []
new_nodes (t ∷ ts) = pre_order t ++ new_nodes ts

abbrev pub new_worths : Tables → Worths → List Part → List Tree → List ℤ
new_worths inst worths [] ts = []
new_worths inst worths (p ∷ ps) [] = []
new_worths inst worths (p ∷ ps) (t ∷ ts) = tree_worths inst worths p.box t ++ new_worths inst worths ps ts

abbrev pub no_leaves : LeafCounts
no_leaves = record { kept = 0; changed = 0 }

abbrev pub AllCount : List Part → List Tree → LeafCounts → Type 0
AllCount [] ts counts = counts ≡ no_leaves
AllCount (p ∷ ps) [] counts = ⊥
AllCount (p ∷ ps) (t ∷ ts) counts =
    (one : LeafCounts) × ((rest : LeafCounts) × Counts p.tree t one × AllCount ps ts rest × (counts ≡ sum_of one rest))

-- what the whole tree over its box becomes, with these nodes, numbers and counts
pub record Whole (inst : Tables) (lists : ℕ) (worths : Worths) (box : List Span) (tree : Tree) (nodes : List Node)
    (numbers : List ℤ) (counts : LeafCounts) : Type 0 where
  pub new : Tree
  pub order : pre_order new ≡ nodes
  pub becomes : TreeBecomes inst lists worths box tree new
  pub numbers_are : tree_worths inst worths box new ≡ numbers
  pub counted : Counts tree new counts

-- where the walk is: the parts that are still to come, what was made so far, and what comes of both
pub record IsAt (inst : Tables) (lists : ℕ) (worths : Worths) (box : List Span) (tree : Tree) (nodes : List Node)
    (k : ℕ) (path : List (List Span)) (made : List Node) (bound : Bound) (counts : LeafCounts) : Type 0 where
  pub parts : List Part
  pub left : drop k nodes ≡ nodes_of parts
  pub boxes : path ≡ boxes_of parts
  pub in_range : AreInRange inst lists parts
  pub few : counts.kept + counts.changed ≤ k
  pub numbers : List ℤ
  pub bound_is : IsBoundOf numbers bound
  pub whole : (news : List Tree) (more : LeafCounts) → AllBecome inst lists worths parts news → AllCount parts news more
      → Whole inst lists worths box tree (made ++ new_nodes news) (numbers ++ new_worths inst worths parts news)
      (sum_of counts more)

-- ---- sums of counts

sum_nothing : (c : LeafCounts) → sum_of no_leaves c ≡ c
sum_nothing c = same_counts (omega arith) (omega arith)
  where
    same_counts : 0 + c.kept ≡ c.kept → 0 + c.changed ≡ c.changed → sum_of no_leaves c ≡ c
    same_counts e f = ap (λ (n : ℕ). record { kept = n; changed = 0 + c.changed }) e
        ∙ ap (λ (n : ℕ). record { kept = c.kept; changed = n }) f

nothing_sum : (c : LeafCounts) → sum_of c no_leaves ≡ c
nothing_sum c = same_counts (omega arith) (omega arith)
  where
    same_counts : c.kept + 0 ≡ c.kept → c.changed + 0 ≡ c.changed → sum_of c no_leaves ≡ c
    same_counts e f = ap (λ (n : ℕ). record { kept = n; changed = c.changed + 0 }) e
        ∙ ap (λ (n : ℕ). record { kept = c.kept; changed = n }) f

sum_assoc : (a b c : LeafCounts) → sum_of (sum_of a b) c ≡ sum_of a (sum_of b c)
sum_assoc a b c = same_counts (omega arith) (omega arith)
  where
    same_counts : (a.kept + b.kept) + c.kept ≡ a.kept + (b.kept + c.kept)
        → (a.changed + b.changed) + c.changed ≡ a.changed + (b.changed + c.changed)
        → sum_of (sum_of a b) c ≡ sum_of a (sum_of b c)
    same_counts e f = ap (λ (n : ℕ). record { kept = n; changed = (a.changed + b.changed) + c.changed }) e
        ∙ ap (λ (n : ℕ). record { kept = a.kept + (b.kept + c.kept); changed = n }) f

-- ---- the beginning

pub start_at : (inst : Tables) (lists : ℕ) (worths : Worths) (nodes : List Node) (path : List (List Span))
    (made : List Node) (bound : Bound) (counts : LeafCounts) (t : Tree)
    → IsFitting inst → path ≡ root_box inst ∷ [] → AreNodesOf inst lists (root_box inst) t nodes
    → made ≡ [] → IsBoundOf [] bound → counts ≡ no_leaves
    → IsAt inst lists worths (root_box inst) t nodes 0 path made bound counts
start_at inst lists worths nodes path made bound counts t fit path_is of_tree none bound_is zero_is =
    rw (none, zero_is) (record {
      parts = (record { box = root_box inst; tree = t }) ∷ [];
      left = sym of_tree.order ∙ sym (append-nil (pre_order t));
      boxes = path_is;
      in_range = (root_is_box inst fit, of_tree.in_range, tt);
      few = omega arith;
      numbers = [];
      bound_is = bound_is;
      whole = begun;
    })
  where
    begun : (news : List Tree) (more : LeafCounts)
        → AllBecome inst lists worths (record { box = root_box inst; tree = t } ∷ []) news
        → AllCount (record { box = root_box inst; tree = t } ∷ []) news more
        → Whole inst lists worths (root_box inst) t ([] ++ new_nodes news)
        ([] ++ new_worths inst worths (record { box = root_box inst; tree = t } ∷ []) news) (sum_of no_leaves more)
    begun [] more become count = absurd become
    begun (new ∷ []) more become (one, (rest, counted, none_more, sum_is)) = record {
      new = new;
      order = sym (append-nil (pre_order new));
      becomes = become.0;
      numbers_are = sym (append-nil (tree_worths inst worths (root_box inst) new));
      counted = subst (Counts t new)
          (sym (sum_nothing more ∙ sum_is ∙ ap (sum_of one) none_more ∙ nothing_sum one)) counted;
    }
    begun (new ∷ other ∷ news) more become count = absurd become.1

-- ---- what comes next

pre_order_some : (t : Tree) (ns : List Node) → pre_order t ++ ns ≡ [] → ⊥
pre_order_some (leaf n) ns e = some n ns e
  where
    some : (n : Node) (ns : List Node) → n ∷ ns ≡ [] → ⊥
    some n ns e = let l = ap (λ (xs : List Node). length xs) e in omega (arith, l)
pre_order_some (split i m l r) ns e =
    let l = ap (λ (xs : List Node). length xs) e in omega (arith, l)

-- the node at hand is the first of those that are left
pub drop_here : (xs : List Node) (n : ℕ) (y : Node) → n < length xs → y ≡ get_or xs n y
    → drop n xs ≡ y ∷ drop (suc n) xs
drop_here [] n y h e = absurd (omega (arith, h))
drop_here (x ∷ xs) zero y h e = ap (λ (z : _). z ∷ xs) (sym e)
drop_here (x ∷ xs) (suc n) y h e = drop_here xs n y (omega (arith, h)) e

head_same : (x y : Node) (xs ys : List Node) → x ∷ xs ≡ y ∷ ys → x ≡ y
head_same x y xs ys e = cc

tail_same : (x y : Node) (xs ys : List Node) → x ∷ xs ≡ y ∷ ys → xs ≡ ys
tail_same x y xs ys e = cc

nodes_some : (x : Node) (xs : List Node) → x ∷ xs ≡ [] → ⊥
nodes_some x xs e = let l = ap (λ (ys : List Node). length ys) e in omega (arith, l)

-- ---- a leaf

abbrev pub NotSplit : Node → Type 0
NotSplit n = (i m : ℕ) → n ≡ Split i m → ⊥

-- what is known of a leaf at hand
pub record LeafAt (inst : Tables) (lists : ℕ) (path : List (List Span)) (n : Node) : Type 0 where
  pub some : 0 < length path
  pub is_box : IsBox inst (first_box path)
  pub in_range : IsLeafInRange inst lists n

module _ (inst : Tables) (lists : ℕ) (worths : Worths) (box : List Span) (tree : Tree) (nodes : List Node) (k : ℕ)
    (n : Node) (here : k < length nodes) (is : n ≡ get_or nodes k n) where
  -- the parts begin with this node
  first_is : (parts : List Part) → drop k nodes ≡ nodes_of parts → n ∷ drop (suc k) nodes ≡ nodes_of parts
  first_is parts left = sym (drop_here nodes k n here is) ∙ left

  pub leaf_at : (path : List (List Span)) (made : List Node) (bound : Bound) (counts : LeafCounts) → NotSplit n
      → IsAt inst lists worths box tree nodes k path made bound counts → LeafAt inst lists path n
  leaf_at path made bound counts not a =
      subst (λ (p : List (List Span)). LeafAt inst lists p n) (sym a.boxes) (at a.parts (first_is a.parts a.left)
      a.in_range)
    where
      at : (parts : List Part) → n ∷ drop (suc k) nodes ≡ nodes_of parts → AreInRange inst lists parts
          → LeafAt inst lists (boxes_of parts) n
      at [] e range = absurd (nodes_some n (drop (suc k) nodes) e)
      at (p ∷ ps) e range = one p.tree e range.1
        where
          one : (t : Tree) → n ∷ drop (suc k) nodes ≡ pre_order t ++ nodes_of ps
              → IsTreeInRange inst lists p.box t → LeafAt inst lists (p.box ∷ boxes_of ps) n
          one (leaf m) f r = record {
            some = omega arith;
            is_box = range.0;
            in_range = subst (IsLeafInRange inst lists)
                (sym (head_same n m (drop (suc k) nodes) (nodes_of ps) f)) r;
          }
          one (split i m l r) f x =
              absurd (not i m (head_same n (Split i m) (drop (suc k) nodes) ((pre_order l ++ pre_order r)
              ++ nodes_of ps) f))

-- ---- steps

same_whole : (inst : Tables) (lists : ℕ) (worths : Worths) (box : List Span) (tree : Tree) (ns ms : List Node)
    (zs ws : List ℤ) (a b : LeafCounts) → ns ≡ ms → zs ≡ ws → a ≡ b → Whole inst lists worths box tree ns zs a
    → Whole inst lists worths box tree ms ws b
same_whole inst lists worths box tree ns ms zs ws a b e f g w = record {
  new = w.new;
  order = w.order ∙ e;
  becomes = w.becomes;
  numbers_are = w.numbers_are ∙ f;
  counted = subst (Counts tree w.new) g w.counted;
}

-- one node more in front of others
one_more : (made rest : List Node) (n : Node) → made ++ (n ∷ rest) ≡ (made ++ n ∷ []) ++ rest
one_more made rest n = sym (append_assoc made (n ∷ []) rest)

-- what comes of what was made and of the parts that are still to come
abbrev pub WholeFrom : Tables → ℕ → Worths → List Span → Tree → List Node → List ℤ → LeafCounts → List Part → Type 0
WholeFrom inst lists worths box tree made numbers counts parts =
    (news : List Tree) (more : LeafCounts) → AllBecome inst lists worths parts news → AllCount parts news more
    → Whole inst lists worths box tree (made ++ new_nodes news) (numbers ++ new_worths inst worths parts news)
    (sum_of counts more)

one_count : (old new : Node) (c : LeafCounts) → CountsLeaf old new c → c.kept + c.changed ≡ 1
one_count old new c (inl (e, f)) = ap (λ (x : LeafCounts). x.kept + x.changed) f
one_count old new c (inr (e, f)) = ap (λ (x : LeafCounts). x.kept + x.changed) f

module _ (inst : Tables) (lists : ℕ) (worths : Worths) (box : List Span) (tree : Tree) (made : List Node)
    (numbers : List ℤ) (counts : LeafCounts) where
  -- a leaf at hand became another one
  leaf_whole : (b : List Span) (ps : List Part) (n : Node) (new : NewLeaf) (one : LeafCounts)
      → IsNewLeaf inst lists worths b n new → CountsLeaf n new.node one
      → WholeFrom inst lists worths box tree made numbers counts (record { box = b; tree = leaf n } ∷ ps)
      → WholeFrom inst lists worths box tree (made ++ new.node ∷ []) (numbers ++ some_worth new.worth)
      (sum_of counts one) ps
  leaf_whole b ps n new one is counted whole news more become count =
      same_whole inst lists worths box tree (made ++ (new.node ∷ new_nodes news))
      ((made ++ new.node ∷ []) ++ new_nodes news)
      (numbers ++ (worths_at inst worths b new.node ++ new_worths inst worths ps news))
      ((numbers ++ some_worth new.worth) ++ new_worths inst worths ps news) (sum_of counts (sum_of one more))
      (sum_of (sum_of counts one) more) (one_more made (new_nodes news) new.node)
      (ap (λ (zs : List ℤ). numbers ++ (zs ++ new_worths inst worths ps news)) is.worth
      ∙ sym (append_assoc numbers (some_worth new.worth) (new_worths inst worths ps news)))
      (sym (sum_assoc counts one more))
      (whole (leaf new.node ∷ news) (sum_of one more) (is.becomes, become) (one, (more, counted, count, refl)))

  -- a split at hand: its two parts come next
  split_whole : (b : List Span) (i m : ℕ) (l r : Tree) (ps : List Part)
      → WholeFrom inst lists worths box tree made numbers counts (record { box = b; tree = split i m l r } ∷ ps)
      → WholeFrom inst lists worths box tree (made ++ Split i m ∷ []) numbers counts
      (record { box = below b i m; tree = l } ∷ record { box = above b i m; tree = r } ∷ ps)
  split_whole b i m l r ps whole [] more become count = absurd become
  split_whole b i m l r ps whole (x ∷ []) more become count = absurd become.1
  split_whole b i m l r ps whole (x ∷ y ∷ news) more (first, (second, become))
      (one, (behind, count_first, (two, (rest, count_second, count, sum_behind)), sum_is)) =
      same_whole inst lists worths box tree (made ++ (Split i m ∷ ((pre_order x ++ pre_order y) ++ new_nodes news)))
      ((made ++ Split i m ∷ []) ++ (pre_order x ++ (pre_order y ++ new_nodes news)))
      (numbers ++ ((tree_worths inst worths (below b i m) x ++ tree_worths inst worths (above b i m) y)
      ++ new_worths inst worths ps news))
      (numbers ++ (tree_worths inst worths (below b i m) x ++ (tree_worths inst worths (above b i m) y
      ++ new_worths inst worths ps news))) (sum_of counts more) (sum_of counts more)
      (one_more made ((pre_order x ++ pre_order y) ++ new_nodes news) (Split i m)
      ∙ ap (λ (ns : List Node). (made ++ Split i m ∷ []) ++ ns) (append_assoc (pre_order x) (pre_order y)
      (new_nodes news)))
      (ap (λ (zs : List ℤ). numbers ++ zs) (append_assoc (tree_worths inst worths (below b i m) x)
      (tree_worths inst worths (above b i m) y) (new_worths inst worths ps news))) refl
      (whole (split i m x y ∷ news) more ((refl, refl, first, second), become) (
        sum_of one two,
        (
          rest,
          (one, (two, count_first, count_second, refl)),
          count,
          sum_is ∙ ap (sum_of one) sum_behind ∙ sym (sum_assoc one two rest),
        ),
      ))

module _ (inst : Tables) (lists : ℕ) (worths : Worths) (box : List Span) (tree : Tree) (nodes : List Node) (k : ℕ)
    (n : Node) (here : k < length nodes) (is : n ≡ get_or nodes k n) where
  -- the leaf at hand became another one, and the walk goes on behind it
  pub leaf_step : (path : List (List Span)) (old new : Growth) (made : NewLeaf) → NotSplit n
      → IsAt inst lists worths box tree nodes k path old.nodes.items old.bound (counts_of old)
      → IsNewLeaf inst lists worths (first_box path) n made → TakesLeaf n made old new
      → IsAt inst lists worths box tree nodes (k + 1) (other_boxes path) new.nodes.items new.bound (counts_of new)
  leaf_step path old new made not a is_new takes =
      rw (takes.nodes, takes.counts)
      (subst (λ (p : List (List Span)). IsNewLeaf inst lists worths (first_box p) n made
      → IsAt inst lists worths box tree nodes (k + 1) (other_boxes p) (old.nodes.items ++ made.node ∷ []) new.bound
      (sum_of (counts_of old) takes.one))
      (sym a.boxes)
      (at a.parts (sym (drop_here nodes k n here is) ∙ a.left) a.in_range a.whole) is_new)
    where
      at : (parts : List Part) → n ∷ drop (suc k) nodes ≡ nodes_of parts → AreInRange inst lists parts
          → WholeFrom inst lists worths box tree old.nodes.items a.numbers (counts_of old) parts
          → IsNewLeaf inst lists worths (first_box (boxes_of parts)) n made
          → IsAt inst lists worths box tree nodes (k + 1) (other_boxes (boxes_of parts))
          (old.nodes.items ++ made.node ∷ [])
          new.bound (sum_of (counts_of old) takes.one)
      at [] e range whole is_new = absurd (nodes_some n (drop (suc k) nodes) e)
      at (p ∷ ps) e range whole is_new = one p.box p.tree e whole is_new
        where
          one : (b : List Span) (t : Tree) → n ∷ drop (suc k) nodes ≡ pre_order t ++ nodes_of ps
              → WholeFrom inst lists worths box tree old.nodes.items a.numbers (counts_of old)
              (record { box = b; tree = t } ∷ ps)
              → IsNewLeaf inst lists worths b n made
              → IsAt inst lists worths box tree nodes (k + 1) (boxes_of ps) (old.nodes.items ++ made.node ∷ [])
              new.bound (sum_of (counts_of old) takes.one)
          one b (leaf m) f whole is_new =
              let same : n ≡ m = head_same n m (drop (suc k) nodes) (nodes_of ps) f in
              let size = one_count n made.node takes.one takes.counts_leaf in
              record {
                parts = ps;
                left = rw (add-one k) (tail_same n m (drop (suc k) nodes) (nodes_of ps) f);
                boxes = refl;
                in_range = range.2;
                few = omega (arith, a.few, size);
                numbers = a.numbers ++ some_worth made.worth;
                bound_is = takes.bound a.numbers a.bound_is;
                whole = leaf_whole inst lists worths box tree old.nodes.items a.numbers (counts_of old) b ps n made
                    takes.one
                    is_new takes.counts_leaf
                    (subst (λ (x : Node). WholeFrom inst lists worths box tree old.nodes.items a.numbers (counts_of old)
                    (record { box = b; tree = leaf x } ∷ ps)) (sym same) whole);
              }
          one b (split i m l r) f whole is_new =
              absurd (not i m (head_same n (Split i m) (drop (suc k) nodes)
              ((pre_order l ++ pre_order r) ++ nodes_of ps) f))

  -- the split at hand, and the walk behind it
  pub record SplitStep (path : List (List Span)) (made : List Node) (bound : Bound) (counts : LeafCounts) (i m : ℕ)
      : Type 0 where
    pub some : 0 < length path
    pub splits : IsSplit (first_box path) i m
    pub after : IsAt inst lists worths box tree nodes (k + 1)
        (below (first_box path) i m ∷ above (first_box path) i m ∷ other_boxes path) (made ++ n ∷ []) bound counts

  pub split_step : (path : List (List Span)) (made : List Node) (bound : Bound) (counts : LeafCounts) (i m : ℕ)
      → n ≡ Split i m → IsAt inst lists worths box tree nodes k path made bound counts
      → SplitStep path made bound counts i m
  split_step path made bound counts i m split_is a =
      subst (λ (p : List (List Span)). SplitStep p made bound counts i m) (sym a.boxes)
      (at a.parts (sym (drop_here nodes k n here is) ∙ a.left) a.in_range a.whole)
    where
      number_same : (i j m o : ℕ) → Split i m ≡ Split j o → i ≡ j
      number_same i j m o e = cc

      last_same : (i j m o : ℕ) → Split i m ≡ Split j o → m ≡ o
      last_same i j m o e = cc

      at : (parts : List Part) → n ∷ drop (suc k) nodes ≡ nodes_of parts → AreInRange inst lists parts
          → WholeFrom inst lists worths box tree made a.numbers counts parts
          → SplitStep (boxes_of parts) made bound counts i m
      at [] e range whole = absurd (nodes_some n (drop (suc k) nodes) e)
      at (p ∷ ps) e range whole = one p.box p.tree e range.0 range.1 whole
        where
          here_split : (b : List Span) (l r : Tree) → IsBox inst b
              → IsTreeInRange inst lists b (split i m l r)
              → drop (suc k) nodes ≡ (pre_order l ++ pre_order r) ++ nodes_of ps
              → WholeFrom inst lists worths box tree made a.numbers counts
              (record { box = b; tree = split i m l r } ∷ ps)
              → SplitStep (b ∷ boxes_of ps) made bound counts i m
          here_split b l r is_box (splits, left, right) rest whole =
              let parts = parts_are_boxes inst b i m is_box splits in
              record {
                some = omega arith;
                splits = splits;
                after =
                    record {
                      parts = record { box = below b i m; tree = l } ∷ record { box = above b i m; tree = r } ∷ ps;
                      left = rw (add-one k) (rest ∙ append_assoc (pre_order l) (pre_order r) (nodes_of ps));
                      boxes = refl;
                      in_range = (parts.0, left, (parts.1, right, range.2));
                      few = omega (arith, a.few);
                      numbers = a.numbers;
                      bound_is = a.bound_is;
                      whole = subst (λ (x : Node). WholeFrom inst lists worths box tree (made ++ x ∷ []) a.numbers
                          counts
                          (record { box = below b i m; tree = l } ∷ record { box = above b i m; tree = r } ∷ ps))
                          (sym split_is)
                          (split_whole inst lists worths box tree made a.numbers counts b i m l r ps whole);
                    };
              }

          one : (b : List Span) (t : Tree) → n ∷ drop (suc k) nodes ≡ pre_order t ++ nodes_of ps → IsBox inst b
              → IsTreeInRange inst lists b t
              → WholeFrom inst lists worths box tree made a.numbers counts (record { box = b; tree = t } ∷ ps)
              → SplitStep (b ∷ boxes_of ps) made bound counts i m
          one b (leaf x) f is_box range whole =
              absurd (subst (IsLeafInRange inst lists)
              (sym (head_same n x (drop (suc k) nodes) (nodes_of ps) f) ∙ split_is) range)
          one b (split j o l r) f is_box range whole =
              let same : Split i m ≡ Split j o = sym split_is ∙ head_same n (Split j o) (drop (suc k) nodes)
              ((pre_order l ++ pre_order r) ++ nodes_of ps) f in
              let rest = tail_same n (Split j o) (drop (suc k) nodes) ((pre_order l ++ pre_order r) ++ nodes_of ps) f in
              along (λ x y. IsTreeInRange inst lists b (split x y l r)
              → WholeFrom inst lists worths box tree made a.numbers counts
              (record { box = b; tree = split x y l r } ∷ ps)
              → SplitStep (b ∷ boxes_of ps) made bound counts i m) i j m o (number_same i j m o same)
              (last_same i j m o same) (λ range whole. here_split b l r is_box range rest whole) range whole

-- ---- the end

parts_none : (parts : List Part) → nodes_of parts ≡ [] → parts ≡ []
parts_none [] e = refl
parts_none (p ∷ ps) e = absurd (pre_order_some p.tree (nodes_of ps) e)

drop_past : (ns : List Node) (k : ℕ) → length ns ≤ k → drop k ns ≡ []
drop_past [] zero h = refl
drop_past [] (suc k) h = refl
drop_past (n ∷ ns) zero h = absurd (omega (arith, h))
drop_past (n ∷ ns) (suc k) h = drop_past ns k (omega (arith, h))

pub grown : (inst : Tables) (lists : ℕ) (worths : Worths) (nodes : List Node) (k : ℕ) (path : List (List Span))
    (growth : Growth) (t : Tree) → AreNodesOf inst lists (root_box inst) t nodes → length nodes ≤ k
    → IsAt inst lists worths (root_box inst) t nodes k path growth.nodes.items growth.bound (counts_of growth)
    → IsGrown inst lists worths nodes growth
grown inst lists worths nodes k path growth t of_tree past a =
    let none = parts_none a.parts (sym a.left ∙ drop_past nodes k past) in
    let from = subst (WholeFrom inst lists worths (root_box inst) t growth.nodes.items a.numbers (counts_of growth))
    none a.whole in
    let w = from [] no_leaves tt refl in
    record {
      old = t;
      of_old = of_tree;
      new = w.new;
      order = w.order ∙ append-nil growth.nodes.items;
      becomes = w.becomes;
      bound = subst (λ (zs : List ℤ). IsBoundOf zs growth.bound) (sym (w.numbers_are ∙ append-nil a.numbers))
          a.bound_is;
      counts = subst (Counts t w.new) (nothing_sum (counts_of growth)) w.counted;
    }

-- where the walk over all nodes is
pub record IsWalking (inst : Tables) (lists : ℕ) (worths : Worths) (nodes : List Node) (k : ℕ) (path : List (List Span))
    (made : List Node) (bound : Bound) (counts : LeafCounts) : Type 0 where
  pub tree : Tree
  pub of_tree : AreNodesOf inst lists (root_box inst) tree nodes
  pub here : IsAt inst lists worths (root_box inst) tree nodes k path made bound counts

pub zero_counts : (growth : Growth) → growth.kept ≡ 0 → growth.changed ≡ 0 → counts_of growth ≡ no_leaves
zero_counts growth e f =
    ap (λ (n : ℕ). record { kept = n; changed = growth.changed }) e
    ∙ ap (λ (n : ℕ). record { kept = 0; changed = n }) f
