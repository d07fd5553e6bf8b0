-- How many counts that are kept of a value differ from their numbers.
use Rattle.std.proofs.Common.{◌≡◌, ℕ, ◌+◌, ℤ, ◌&&◌, Bool, true, false, cond, List, [], ◌∷◌, ◌++◌, Option, Some, None}
use Rattle.std.proofs.Common.{refl, ◌∙◌, unwrap_or, option_map, arith}
use Rattle.json_grammar.specs.Tree.{Tree, tree, Node, Trees, no_trees, and_tree, Members, no_members, and_member, Event}
use Rattle.json_grammar.specs.Tree.{key}
use Rattle.decimal_numbers.specs.Exact.{fixed, whole, millionths}
use Rattle.json_grammar.specs.Token.{parts_of}
use Rattle.instance_shape.specs.declared.spot.Spot.{Spot}
use Rattle.instance_shape.specs.declared.spot.Kind.{Kind}
use Rattle.instance_shape.specs.declared.spot.Kind.TheVariants as kind
use Rattle.instance_shape.specs.Keys.{is_digits, number_of}
use Rattle.instance_shape.specs.Shape.{Placed, placed, placed_node, placed_elements, placed_members, kind_of, under}
use Rattle.instance_shape.specs.Shape.{element}
use Rattle.instance_shape.specs.LookUp.{differs_at}
use Rattle.instance_shape.specs.FileTables.{rounded, is_count}
use Rattle.shape_walk.specs.declared.taken.Read.TheVariants.{Whole, Nothing}
use Rattle.shape_walk.specs.Kept.{keep_value, keep_node, keep_elements, keep_members}
use Rattle.shape_walk.specs.Reads.{read_of, read_of_number, read_of_text, read_of_key, count_read, whole_read}
use Rattle.shape_walk.specs.Reads.{millionths_read}
use Rattle.instance_read.specs.Keeping.{keep_rounded}

abbrev pub rounded_keep : Spot → Event → ℕ → ℕ
rounded_keep s e n = keep_rounded (read_of s e) n

rounded-append : (xs ys : List Placed) → rounded (xs ++ ys) ≡ rounded xs + rounded ys
rounded-append [] ys = omega arith
rounded-append (x ∷ xs) ys = omega (arith, rounded-append xs ys)

-- ---- what is read

of_count : (o : Option (ℤ × Bool)) (n : ℕ)
    → keep_rounded (count_read o) n ≡ n + cond (unwrap_or (option_map (λ f. f.1) o) false) 1 0
of_count None n = omega arith
of_count (Some f) n = by f.1
  where
    by : (b : Bool) → cond b (n + 1) n ≡ n + cond b 1 0
    by true = refl
    by false = omega arith

of_whole : (o : Option ℕ) (n : ℕ) → keep_rounded (whole_read o) n ≡ n
of_whole None n = refl
of_whole (Some m) n = refl

of_millionths : (o : Option ℕ) (n : ℕ) → keep_rounded (millionths_read o) n ≡ n
of_millionths None n = refl
of_millionths (Some m) n = refl

of_number : (kd : Kind) (x : List ℕ) (n : ℕ) → keep_rounded (read_of_number kd x) n
    ≡ n + cond (is_count kd && unwrap_or (option_map (λ f. f.1) (fixed x)) false) 1 0
of_number kind.Count x n = of_count (fixed x) n
of_number kind.Whole x n = omega (arith, of_whole (whole (Node.number x)) n)
of_number kind.Quantile x n = omega (arith, of_millionths (millionths x) n)
of_number kind.Alpha x n = omega (arith, of_millionths (millionths x) n)
of_number _ x n = omega arith

of_text : (kd : Kind) (x : List ℕ) (n : ℕ) → keep_rounded (read_of_text kd x) n ≡ n
of_text kind.Whole x n = of_whole (whole (Node.text x)) n
of_text _ x n = refl

of_key : (kd : Kind) (k : List ℕ) (n : ℕ) → keep_rounded (read_of_key kd k) n ≡ n
of_key kind.Numbers k n = by (is_digits k)
  where
    by : (b : Bool) → keep_rounded (cond b (Whole (number_of k)) Nothing) n ≡ n
    by true = refl
    by false = refl
of_key _ k n = refl

-- what is no number differs from no count
none_differs : (b : Bool) → (let n : ℕ = cond (b && unwrap_or (option_map (λ f. f.1) (fixed [])) false) 1 0 in n) ≡ 0
unfolding fixed parts_of
none_differs true = refl
none_differs false = refl

-- ---- a value

mutual
  pub value_rounded : (s : Spot) (t : Tree) (n : ℕ) → keep_value rounded_keep s t n ≡ n + rounded (placed s t)
  value_rounded s (tree at end d) n = node_rounded s at end d n

  node_rounded : (s : Spot) (at end : ℕ) (d : Node) (n : ℕ) → keep_node rounded_keep s at end d n
      ≡ n + (cond (is_count (kind_of s) && differs_at (tree at end d)) 1 0 + rounded (placed_node s d))
  node_rounded s at end (Node.number x) n = omega (arith, of_number (kind_of s) x n)
  node_rounded s at end (Node.text x) n = omega (arith, of_text (kind_of s) x n, none_differs (is_count (kind_of s)))
  node_rounded s at end Node.null n = omega (arith, none_differs (is_count (kind_of s)))
  node_rounded s at end (Node.boolean b) n = omega (arith, none_differs (is_count (kind_of s)))
  node_rounded s at end (Node.list ts) n = omega (arith, none_differs (is_count (kind_of s)), elements_rounded s 0 ts n)
  node_rounded s at end (Node.object ms) n = omega (arith, none_differs (is_count (kind_of s)), members_rounded s ms n)

  elements_rounded : (s : Spot) (m : ℕ) (ts : Trees) (n : ℕ)
      → keep_elements rounded_keep s m ts n ≡ n + rounded (placed_elements s m ts)
  elements_rounded s m no_trees n = omega arith
  elements_rounded s m (and_tree t ts) n =
      elements_rounded s (m + 1) ts (keep_value rounded_keep (element s m) t n)
      ∙ omega
      (arith, value_rounded (element s m) t n, rounded-append (placed (element s m) t) (placed_elements s (m + 1) ts))

  members_rounded : (s : Spot) (ms : Members) (n : ℕ)
      → keep_members rounded_keep s ms n ≡ n + rounded (placed_members s ms)
  members_rounded s no_members n = omega arith
  members_rounded s (and_member at end k t ms) n =
      members_rounded s ms (keep_value rounded_keep (under s k) t (rounded_keep s (key at end k) n))
      ∙ omega (
        arith,
        value_rounded (under s k) t (rounded_keep s (key at end k) n),
        of_key (kind_of s) k n,
        rounded-append (placed (under s k) t) (placed_members s ms),
      )
