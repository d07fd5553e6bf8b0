-- The load cells of an intervention: in strict order, at allowed starts, in periods
-- of their runs, and of the file's resources.
use Rattle.std.proofs.Common.{◌≡◌, ℕ, ◌+◌, ◌-◌, ◌<◌, ◌^◌, true, List, [], map, length, Option, Some, None, refl, sym}
use Rattle.std.proofs.Common.{◌∙◌, ap, subst, arith, inl, inr, ℤ, IsTrue}
use Rattle.std.specs.Prelude.{All, AllPairs, slice_index, slice_index_or, nat_le, nat_lt, unsigned_abs}
use Rattle.std.proofs.lemmas.Bool.{and_from, le-leb, lt-ltb}
use Rattle.std.proofs.lemmas.List.{get_or-map, length-map}
use Rattle.std.proofs.lemmas.List.Elements.{All-nil, All-cons, All-weaker}
use Rattle.json_grammar.specs.Tree.{Tree, tree, Node}
use Rattle.instance_model.specs.declared.parts.LoadCell.{LoadCell}
use Rattle.instance_model.specs.Fitting.{CellBefore, HasKey, AreCells}
use Rattle.instance_model.specs.Tables as model
use Rattle.instance_model.specs.Tables.{Tables, allowed_of, is_allowed, in_run, delta_of}
use Rattle.instance_model.proofs.FitLemmas.{is_allowed_is, delta_of_is}
use Rattle.instance_shape.specs.declared.fault.Known.TheVariants as is
use Rattle.instance_shape.specs.LookUp.{Entry, keys, known, count_at, workload, durations, periods, interventions}
use Rattle.instance_shape.specs.FileTables.{tables, lists_below, each_run, cell_of, cells_at}
use Rattle.instance_shape.proofs.Bounds.{count_at_most}
use Rattle.instance_shape.proofs.ListsBelow.{all_lists, all_cond, pairs_cond, pairs_lists}
use Rattle.instance_shape.proofs.RunLengths.{durations_are}

-- ---- order

keyed : (s t c : ℕ) (o : Option Tree) → All (HasKey s t c) (cell_of s t c o)
keyed s t c None = All-nil (HasKey s t c)
keyed s t c (Some x) = All-cons (HasKey s t c) (record { start = s; period = t; resource = c; load = count_at x }) []
    (record { start = refl; period = refl; resource = refl }) (All-nil (HasKey s t c))

alone : (s t c : ℕ) (o : Option Tree) → AllPairs CellBefore (cell_of s t c o)
alone s t c None = λ i j d k l. absurd (omega arith)
alone s t c (Some x) = λ i j d k l. absurd (omega arith)

by_resource : (s t a b : ℕ) (x y : LoadCell) → a < b → HasKey s t a x → HasKey s t b y → CellBefore x y
by_resource s t a b x y l h k =
    inr (h.start ∙ sym k.start, inr (h.period ∙ sym k.period, omega (arith, h.resource, k.resource)))

-- the workload of resource c in period t at start s, where the file has an entry
abbrev load_at : Tree → Tree → ℕ → ℕ → ℕ → Option Tree
load_at root v s t c = workload v (slice_index_or (keys (known is.Resources root)) c []) t s

-- cells of a start and a period
abbrev IsAt : ℕ → ℕ → LoadCell → Type 0
IsAt s t cell = (cell.start ≡ s) × (cell.period ≡ t)

period_cells : (root v : Tree) (s t : ℕ) → All (IsAt s t) (cells_at root v s t)
period_cells root v s t =
    all_lists (IsAt s t) (length (keys (known is.Resources root))) (λ c. cell_of s t c (load_at root v s t c))
    (λ c l. All-weaker (HasKey s t c) (IsAt s t) (λ x h. (h.start, h.period)) (cell_of s t c (load_at root v s t c))
    (keyed s t c (load_at root v s t c)))

-- the cells of one start and period are in order by their resources, those of one
-- start by their periods, and all by their starts
period_order : (root v : Tree) (s t : ℕ) → AllPairs CellBefore (cells_at root v s t)
period_order root v s t =
    pairs_lists CellBefore (HasKey s t) (length (keys (known is.Resources root)))
    (λ c. cell_of s t c (load_at root v s t c)) (by_resource s t)
    (λ c. keyed s t c (load_at root v s t c)) (λ c. alone s t c (load_at root v s t c))

by_period : (s a b : ℕ) (x y : LoadCell) → a < b → IsAt s (s + a) x → IsAt s (s + b) y → CellBefore x y
by_period s a b x y l h k = inr (h.0 ∙ sym k.0, inl (omega (arith, h.1, k.1)))

start_cells : (root v : Tree) (s d : ℕ) → All (λ cell. cell.start ≡ s) (lists_below d (λ j. cells_at root v s (s + j)))
start_cells root v s d = all_lists (λ cell. cell.start ≡ s) d (λ j. cells_at root v s (s + j))
    (λ j l. All-weaker (IsAt s (s + j)) (λ cell. cell.start ≡ s) (λ x h. h.0) (cells_at root v s (s + j))
    (period_cells root v s (s + j)))

start_order : (root v : Tree) (s d : ℕ) → AllPairs CellBefore (lists_below d (λ j. cells_at root v s (s + j)))
start_order root v s d = pairs_lists CellBefore (λ j. IsAt s (s + j)) d (λ j. cells_at root v s (s + j)) (by_period s)
    (λ j. period_cells root v s (s + j)) (λ j. period_order root v s (s + j))

by_start : (a b : ℕ) (x y : LoadCell) → a < b → x.start ≡ a + 1 → y.start ≡ b + 1 → CellBefore x y
by_start a b x y l h k = inl (omega (arith, h, k))

pub cells_in_order : (root v : Tree) → AllPairs CellBefore (each_run root (cells_at root) v)
cells_in_order root v =
    pairs_lists CellBefore (λ k cell. cell.start ≡ k + 1) (length (durations v)) _ by_start
    (λ k. all_cond (λ cell. cell.start ≡ k + 1) (allowed_of (periods root) (durations v) (k + 1)) _
    (λ a. start_cells root v (k + 1) (slice_index (durations v) k)))
    (λ k. pairs_cond CellBefore (allowed_of (periods root) (durations v) (k + 1)) _
    (start_order root v (k + 1) (slice_index (durations v) k)))

-- ---- each cell

at_most_one_cell : (Q : LoadCell → Type 0) (s t c : ℕ) (o : Option Tree)
    → ((x : Tree) → Q (record { start = s; period = t; resource = c; load = count_at x })) → All Q (cell_of s t c o)
at_most_one_cell Q s t c None f = All-nil Q
at_most_one_cell Q s t c (Some x) f =
    All-cons Q (record { start = s; period = t; resource = c; load = count_at x }) [] (f x) (All-nil Q)

-- what holds of the cells at allowed starts, in periods of their runs and of the resources holds of each cell
pub each_cell : (root v : Tree) (Q : LoadCell → Type 0)
    → ((k j c : ℕ) (x : Tree) → allowed_of (periods root) (durations v) (k + 1) ≡ true → j < slice_index (durations v) k
    → c < length (keys (known is.Resources root))
    → Q (record { start = k + 1; period = k + 1 + j; resource = c; load = count_at x }))
    → All Q (each_run root (cells_at root) v)
each_cell root v Q f =
    all_lists Q (length (durations v)) _ (λ k l. all_cond Q (allowed_of (periods root) (durations v) (k + 1)) _ (λ a.
    all_lists Q (slice_index (durations v) k) (λ j. cells_at root v (k + 1) (k + 1 + j)) (λ j m.
    all_lists Q (length (keys (known is.Resources root)))
    (λ c. cell_of (k + 1) (k + 1 + j) c (load_at root v (k + 1) (k + 1 + j) c)) (λ c n.
    at_most_one_cell Q (k + 1) (k + 1 + j) c (load_at root v (k + 1) (k + 1 + j) c) (λ x. f k j c x a m n)))))

-- ---- all of them

runs_in : (inst : Tables) (i : ℕ) (ds : List ℕ) (k j : ℕ) → model.durations inst i ≡ ds → j < slice_index ds k
    → in_run inst i (k + 1) (k + 1 + j) ≡ true
unfolding in_run
runs_in inst i ds k j h l =
    let same : k + 1 - 1 ≡ k = omega arith in
    let d : delta_of inst i (k + 1) ≡ slice_index ds k = delta_of_is inst i (k + 1) ds h ∙ ap (slice_index ds) same in
    and_from (nat_le (k + 1) (k + 1 + j)) (nat_lt (k + 1 + j) (k + 1 + delta_of inst i (k + 1)))
    (le-leb (k + 1) (k + 1 + j) (omega arith))
    (lt-ltb (k + 1 + j) (k + 1 + delta_of inst i (k + 1)) (omega (arith, d, l)))

are_cells : (inst : Tables) (i : ℕ) (root v : Tree) → inst.periods ≡ periods root
    → inst.resource_names ≡ keys (known is.Resources root) → model.durations inst i ≡ durations v
    → AreCells inst i (each_run root (cells_at root) v)
are_cells inst i root v p r h = record {
  ordered = cells_in_order root v;
  allowed = each_cell root v (λ cell. IsTrue (is_allowed inst i cell.start))
      (λ k j c x a m n. is_allowed_is inst i (k + 1) (durations v) true h
      (sym (ap (λ q. allowed_of q (durations v) (k + 1)) p ∙ a)));
  running = each_cell root v (λ cell. IsTrue (in_run inst i cell.start cell.period))
      (λ k j c x a m n. runs_in inst i (durations v) k j h m);
  resources = each_cell root v (λ cell. cell.resource < length inst.resource_names)
      (λ k j c x a m n. omega (arith, n, ap length r));
  small = each_cell root v (λ cell. unsigned_abs cell.load < 10 ^ 20) (λ k j c x a m n. count_at_most x);
}

-- the cells of each intervention of the tables fit
pub cells_fit : (slack : ℤ) (root : Tree) (i : ℕ) → i < length (keys (known is.Interventions root))
    → AreCells (tables slack root) i
    (slice_index_or (map (λ e. each_run root (cells_at root) e.value) (interventions root)) i [])
cells_fit slack root i h =
    let none : Entry = record { key = []; value = tree 0 0 Node.null } in
    let l : i < length (interventions root) =
    omega (arith, h, length-map (interventions root) (λ (e : Entry). e.key)) in
    let v = (slice_index_or (interventions root) i none).value in
    let row : slice_index_or (map (λ e. each_run root (cells_at root) e.value) (interventions root)) i []
    ≡ each_run root (cells_at root) v =
    get_or-map (λ (e : Entry). each_run root (cells_at root) e.value) (interventions root) i none [] l in
    subst (λ (cells : List LoadCell). AreCells (tables slack root) i cells) (sym row)
    (are_cells (tables slack root) i root v refl refl (durations_are slack root i none l))
