-- The faults of a tree in the order of its text are, each as often, those of its values and of the two
-- counts of numbers. Each fault is given a weight, and two lists have the same faults where their
-- weights are equal for every choice of weights.
use Rattle.std.proofs.Common.{◌≡◌, ℕ, ◌+◌, ◌==◌, List, [], ◌∷◌, ◌++◌, Bool, true, false, cond, length, refl, sym, ◌∙◌}
use Rattle.std.proofs.Common.{ap, arith, append_assoc, append-nil, add-zero, length-append, pred, not}
use Rattle.json_grammar.specs.Tree.{Tree, tree, Node, Trees, no_trees, and_tree, Members, no_members, and_member}
use Rattle.decimal_numbers.specs.Exact.{whole}
use Rattle.instance_model.specs.declared.limits.Limits.{Limits}
use Rattle.instance_shape.specs.declared.fault.Fault.{Fault}
use Rattle.instance_shape.specs.declared.fault.Flaw.{Flaw}
use Rattle.instance_shape.specs.declared.fault.Flaw.TheVariants as flaw
use Rattle.instance_shape.specs.declared.fault.Which.TheVariants as which
use Rattle.instance_shape.specs.declared.spot.Spot.{Spot}
use Rattle.instance_shape.specs.declared.spot.Kind.{Kind}
use Rattle.instance_shape.specs.declared.spot.Kind.TheVariants as kind
use Rattle.instance_shape.specs.Keys.{Key, key_of}
use Rattle.instance_shape.specs.Shape.{kind_of, required, under, element, has_shape, Placed, placed, placed_elements}
use Rattle.instance_shape.specs.Shape.{placed_members}
use Rattle.instance_shape.specs.ShapeFaults.{where_so, own_faults, value_rows, value_faults, values_faults, key_faults}
use Rattle.instance_shape.specs.ShapeFaults.{keys_faults, keys_of, count_trees, missing, too_few, is_risk, is_workload}
use Rattle.instance_shape.specs.ShapeFaults.{numbers_at, place_of_number}
use Rattle.shape_walk.specs.Machine.{past_limit}
use Rattle.shape_walk.proofs.TextOrder.{one_if, numbers_in, node_numbers, elements_numbers, members_numbers, in_order}
use Rattle.shape_walk.proofs.TextOrder.{node_in_order, elements_in_order, members_in_order}

-- the weight of a list of faults
abbrev pub weigh : (Fault → ℕ) → List Fault → ℕ
weigh v [] = 0
weigh v (f ∷ fs) = v f + weigh v fs

pub weigh-append : (v : Fault → ℕ) (a b : List Fault) → weigh v (a ++ b) ≡ weigh v a + weigh v b
weigh-append v [] b = omega arith
weigh-append v (f ∷ a) b = omega (arith, weigh-append v a b)

-- the number past a limit, among numbers behind so many others
abbrev pub past : ℕ → Flaw → ℕ → List ℕ → List Fault
past limit f r [] = []
past limit f r (n ∷ ns) = where_so (r == limit) n f ++ past limit f (r + 1) ns

past-append : (limit : ℕ) (f : Flaw) (r : ℕ) (a b : List ℕ)
    → past limit f r (a ++ b) ≡ past limit f r a ++ past limit f (r + length a) b
past-append limit f r [] b = simp add-zero
past-append limit f r (n ∷ a) b =
    ap (λ x. where_so (r == limit) n f ++ x) (past-append limit f (r + 1) a b
    ∙ ap (λ k. past limit f (r + 1) a ++ past limit f k b) (omega arith))
    ∙ sym (append_assoc (where_so (r == limit) n f) _ _)

values-append : (limits : Limits) (a b : List Placed)
    → values_faults limits (a ++ b) ≡ values_faults limits a ++ values_faults limits b
values-append limits [] b = refl
values-append limits (p ∷ a) b =
    ap (λ x. value_faults limits p ++ x) (values-append limits a b) ∙ sym (append_assoc (value_faults limits p) _ _)

numbers-append : (p : Spot → Bool) (a b : List Placed) → numbers_at p (a ++ b) ≡ numbers_at p a ++ numbers_at p b
numbers-append p [] b = refl
numbers-append p (v ∷ a) b = ap (λ x. cond (p v.spot) (place_of_number v.tree) [] ++ x) (numbers-append p a b)
    ∙ sym (append_assoc (cond (p v.spot) (place_of_number v.tree) []) _ _)

abbrev past_risks : Limits → ℕ → List Placed → List Fault
past_risks limits r ps = past limits.risk_cells (flaw.Limit which.RiskCells) r (numbers_at is_risk ps)

abbrev past_workloads : Limits → ℕ → List Placed → List Fault
past_workloads limits w ps =
    past limits.workload_entries (flaw.Limit which.WorkloadEntries) w (numbers_at is_workload ps)

-- the weight of the faults of values and of the two counts, behind so many numbers
abbrev pub parts : (Fault → ℕ) → Limits → List Placed → ℕ → ℕ → ℕ
parts v limits ps r w =
    weigh v (values_faults limits ps) + (weigh v (past_risks limits r ps) + weigh v (past_workloads limits w ps))

abbrev count : (Spot → Bool) → List Placed → ℕ
count p ps = length (numbers_at p ps)

past_risks-append : (limits : Limits) (r : ℕ) (a b : List Placed)
    → past_risks limits r (a ++ b) ≡ past_risks limits r a ++ past_risks limits (r + count is_risk a) b
past_risks-append limits r a b =
    let f = flaw.Limit which.RiskCells in
    ap (past limits.risk_cells f r) (numbers-append is_risk a b)
    ∙ past-append limits.risk_cells f r (numbers_at is_risk a) (numbers_at is_risk b)

past_workloads-append : (limits : Limits) (w : ℕ) (a b : List Placed)
    → past_workloads limits w (a ++ b) ≡ past_workloads limits w a ++ past_workloads limits (w + count is_workload a) b
past_workloads-append limits w a b =
    let f = flaw.Limit which.WorkloadEntries in
    ap (past limits.workload_entries f w) (numbers-append is_workload a b)
    ∙ past-append limits.workload_entries f w (numbers_at is_workload a) (numbers_at is_workload b)

parts-append : (v : Fault → ℕ) (limits : Limits) (a b : List Placed) (r w : ℕ)
    → parts v limits (a ++ b) r w
    ≡ parts v limits a r w + parts v limits b (r + count is_risk a) (w + count is_workload a)
parts-append v limits a b r w =
    omega (
      arith,
      ap (weigh v) (values-append limits a b),
      weigh-append v (values_faults limits a) (values_faults limits b),
      ap (weigh v) (past_risks-append limits r a b),
      weigh-append v (past_risks limits r a) (past_risks limits (r + count is_risk a) b),
      ap (weigh v) (past_workloads-append limits w a b),
      weigh-append v (past_workloads limits w a) (past_workloads limits (w + count is_workload a) b),
    )

none_either_way : (b : Bool) (xs : List ℕ) → cond b xs xs ≡ xs
none_either_way true xs = refl
none_either_way false xs = refl

one_where : (b : Bool) (n : ℕ) → length (cond b (n ∷ []) []) ≡ one_if b
one_where true n = refl
one_where false n = refl

mutual
  value_count : (p : Spot → Bool) (s : Spot) (t : Tree) → count p (placed s t) ≡ numbers_in p s t
  value_count p s (tree at end n) = node_count p s at end n

  node_count : (p : Spot → Bool) (s : Spot) (at end : ℕ) (n : Node)
      → count p (placed s (tree at end n)) ≡ node_numbers p s n
  node_count p s at end Node.null = simp none_either_way
  node_count p s at end (Node.boolean b) = simp none_either_way
  node_count p s at end (Node.text x) = simp none_either_way
  node_count p s at end (Node.number x) = simp (append-nil, one_where)
  node_count p s at end (Node.list ts) = simp none_either_way (elements_count p s 0 ts)
  node_count p s at end (Node.object ms) = simp none_either_way (members_count p s ms)

  elements_count : (p : Spot → Bool) (s : Spot) (n : ℕ) (ts : Trees)
      → count p (placed_elements s n ts) ≡ elements_numbers p s n ts
  elements_count p s n no_trees = refl
  elements_count p s n (and_tree t ts) =
      ap length (numbers-append p (placed (element s n) t) (placed_elements s (n + 1) ts))
      ∙ length-append (numbers_at p (placed (element s n) t)) _
      ∙ omega (arith, value_count p (element s n) t, elements_count p s (n + 1) ts)

  members_count : (p : Spot → Bool) (s : Spot) (ms : Members) → count p (placed_members s ms) ≡ members_numbers p s ms
  members_count p s no_members = refl
  members_count p s (and_member at end k t ms) =
      ap length (numbers-append p (placed (under s k) t) (placed_members s ms))
      ∙ length-append (numbers_at p (placed (under s k) t)) _
      ∙ omega (arith, value_count p (under s k) t, members_count p s ms)

-- a list and an object are judged only by being one
own_of_list : (limits : Limits) (s : Spot) (k : Kind) (at : ℕ) (ts : Trees)
    → where_so (not (has_shape k (Node.list ts))) at flaw.Shape ++ value_rows limits s k at (Node.list ts)
    ≡ where_so (not (has_shape k (Node.list no_trees))) at flaw.Shape ++ value_rows limits s k at (Node.list no_trees)
unfolding whole
own_of_list limits s kind.Record at ts = refl
own_of_list limits s _ at ts = refl

own_of_object : (limits : Limits) (s : Spot) (k : Kind) (at : ℕ) (ms : Members)
    → where_so (not (has_shape k (Node.object ms))) at flaw.Shape ++ value_rows limits s k at (Node.object ms)
    ≡ where_so (not (has_shape k (Node.object no_members))) at flaw.Shape
    ++ value_rows limits s k at (Node.object no_members)
unfolding whole
own_of_object limits s kind.Record at ms = refl
own_of_object limits s _ at ms = refl

-- a value that is no number adds nothing to the counts
no_number : (v : Fault → ℕ) (limits : Limits) (b c : Bool) (fs : List Fault) (ps : List Placed) (r w : ℕ)
    → weigh v (fs ++ values_faults limits ps)
    + (weigh v (past limits.risk_cells (flaw.Limit which.RiskCells) r (cond b [] [] ++ numbers_at is_risk ps))
    + weigh v
    (past limits.workload_entries (flaw.Limit which.WorkloadEntries) w (cond c [] [] ++ numbers_at is_workload ps)))
    ≡ weigh v fs + parts v limits ps r w
no_number v limits b c fs ps r w = simp (none_either_way, weigh-append) (omega arith)

past_one : (limit : ℕ) (f : Flaw) (r at : ℕ) (b : Bool)
    → past limit f r (cond b (at ∷ []) []) ≡ past_limit b r limit at f
past_one limit f r at true = append-nil _
past_one limit f r at false = refl

mutual
  pub value_weighs : (v : Fault → ℕ) (limits : Limits) (s : Spot) (t : Tree) (r w : ℕ)
      → weigh v (in_order limits s t r w) ≡ parts v limits (placed s t) r w
  value_weighs v limits s (tree at end n) r w = node_weighs v limits s at end n r w

  node_weighs : (v : Fault → ℕ) (limits : Limits) (s : Spot) (at end : ℕ) (n : Node) (r w : ℕ)
      → weigh v (node_in_order limits s at end n r w) ≡ parts v limits (placed s (tree at end n)) r w
  node_weighs v limits s at end Node.null r w = simp (none_either_way, append-nil, add-zero)
  node_weighs v limits s at end (Node.boolean b) r w = simp (none_either_way, append-nil, add-zero)
  node_weighs v limits s at end (Node.text x) r w = simp (none_either_way, append-nil, add-zero)
  node_weighs v limits s at end (Node.number x) r w = simp (append-nil, past_one, weigh-append)
  node_weighs v limits s at end (Node.list ts) r w =
      let own = own_faults limits s at (Node.list ts) in
      let some = own_faults limits s at (Node.list no_trees) in
      let last = too_few (kind_of s) (count_trees ts) (pred end) in
      omega (
        arith,
        weigh-append v some (elements_in_order limits s 0 ts r w ++ last),
        weigh-append v (elements_in_order limits s 0 ts r w) last,
        no_number v limits (is_risk s) (is_workload s) (own ++ last) (placed_elements s 0 ts) r w,
        weigh-append v own last,
        ap (weigh v) (own_of_list limits s (kind_of s) at ts),
        elements_weighs v limits s 0 ts r w,
      )
  node_weighs v limits s at end (Node.object ms) r w =
      let own = own_faults limits s at (Node.object ms) in
      let some = own_faults limits s at (Node.object no_members) in
      let last = missing (required s) (keys_of (kind_of s) ms) (pred end) in
      let ks = keys_faults limits s [] ms in
      omega (
        arith,
        weigh-append v some (members_in_order limits s [] ms r w ++ last),
        weigh-append v (members_in_order limits s [] ms r w) last,
        no_number v limits (is_risk s) (is_workload s) (own ++ (ks ++ last)) (placed_members s ms) r w,
        weigh-append v own (ks ++ last),
        weigh-append v ks last,
        ap (weigh v) (own_of_object limits s (kind_of s) at ms),
        members_weighs v limits s [] ms r w,
      )

  elements_weighs : (v : Fault → ℕ) (limits : Limits) (s : Spot) (n : ℕ) (ts : Trees) (r w : ℕ)
      → weigh v (elements_in_order limits s n ts r w) ≡ parts v limits (placed_elements s n ts) r w
  elements_weighs v limits s n no_trees r w = refl
  elements_weighs v limits s n (and_tree t ts) r w =
      let q = element s n in
      let r' = r + numbers_in is_risk q t in
      let w' = w + numbers_in is_workload q t in
      let there : parts v limits (placed_elements s (n + 1) ts) r' w' ≡ parts v limits (placed_elements s (n + 1) ts) (r
      + count is_risk (placed q t)) (w + count is_workload (placed q t)) = simp value_count in
      omega (
        arith,
        weigh-append v (in_order limits q t r w) (elements_in_order limits s (n + 1) ts r' w'),
        value_weighs v limits q t r w,
        elements_weighs v limits s (n + 1) ts r' w',
        there,
        parts-append v limits (placed q t) (placed_elements s (n + 1) ts) r w,
      )

  members_weighs : (v : Fault → ℕ) (limits : Limits) (s : Spot) (ks : List Key) (ms : Members) (r w : ℕ)
      → weigh v (members_in_order limits s ks ms r w)
      ≡ weigh v (keys_faults limits s ks ms) + parts v limits (placed_members s ms) r w
  members_weighs v limits s ks no_members r w = refl
  members_weighs v limits s ks (and_member at end k t ms) r w =
      let q = under s k in
      let r' = r + numbers_in is_risk q t in
      let w' = w + numbers_in is_workload q t in
      let here = key_faults limits s ks at k in
      let more = ks ++ key_of (kind_of s) k in
      let rest = members_in_order limits s more ms r' w' in
      let there : parts v limits (placed_members s ms) r' w' ≡ parts v limits (placed_members s ms) (r
      + count is_risk (placed q t)) (w + count is_workload (placed q t)) = simp value_count in
      omega (
        arith,
        weigh-append v here (in_order limits q t r w ++ rest),
        weigh-append v (in_order limits q t r w) rest,
        value_weighs v limits q t r w,
        members_weighs v limits s more ms r' w',
        there,
        parts-append v limits (placed q t) (placed_members s ms) r w,
        weigh-append v here (keys_faults limits s more ms),
      )
