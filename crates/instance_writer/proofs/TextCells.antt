-- The load cells of an intervention, by start, period of the run and resource.
use Rattle.std.proofs.Common.{◌≡◌, ℕ, suc, ◌+◌, ◌-◌, ◌<◌, ◌≤◌, Bool, true, false, cond, ◌&&◌, List, [], ◌∷◌, length}
use Rattle.std.proofs.Common.{get_or}
use Rattle.std.proofs.Common.{Option, Some, None, refl, sym, ◌∙◌, ap, subst, arith, IsTrue, find}
use Rattle.std.specs.Prelude.{All, AllPairs, ◌==◌}
use Rattle.std.specs.List.{filter}
use Rattle.std.proofs.lemmas.Bool.{eqb-true, ne_eqb}
use Rattle.std.proofs.lemmas.Bool.Decides.{nat_tests}
use Rattle.std.proofs.lemmas.List.Elements.{All-weaker, All-filter, filter_passes}
use Rattle.std.proofs.lemmas.List.Kept.{AllPairs-filter}
use Rattle.instance_model.specs.declared.parts.LoadCell.{LoadCell}
use Rattle.instance_model.specs.Fitting.{CellBefore, KeyBefore, AreCells}
use Rattle.instance_model.specs.Tables.{Tables, is_allowed, in_run, is_cell_of, tmax, delta_of}
use Rattle.instance_model.proofs.EntryLemmas.{IsRunning, IsRunning-from}
use Rattle.instance_shape.specs.FileTables.{lists_below}
use Rattle.instance_writer.proofs.TextListed.{lists_below_same, filter_none, filter_twice, by_tests}

-- ---- one key

-- the cell of a key, where there is one
abbrev pub one_cell : Option LoadCell → List LoadCell
one_cell None = []
one_cell (Some x) = x ∷ []

-- a cell of one start and period
abbrev pub is_at : ℕ → ℕ → LoadCell → Bool
is_at s t x = (x.start == s) && (x.period == t)

pub key_of : (s t c : ℕ) (x : LoadCell) → is_cell_of s t c x ≡ true
    → (x.start ≡ s) × (x.period ≡ t) × (x.resource ≡ c)
key_of s t c x h = grind (arith, nat_tests)

no_other : (s t c : ℕ) (x y : LoadCell) → CellBefore x y → is_cell_of s t c x ≡ true → is_cell_of s t c y ≡ false
no_other s t c x y b h = by (is_cell_of s t c y) refl
  where
    by : (b : Bool) → is_cell_of s t c y ≡ b → b ≡ false
    by false e = refl
    by true e =
        let k = key_of s t c x h in
        let l = key_of s t c y e in
        absurd (apart (x.start) (x.period) (x.resource) y.start y.period y.resource (k.0 ∙ sym l.0) (k.1 ∙ sym l.1)
        (k.2 ∙ sym l.2) b)
      where
        apart : (a b c d e f : ℕ) → a ≡ d → b ≡ e → c ≡ f → KeyBefore a b c d e f → ⊥
        apart a b c d e f p q r k = grind arith

-- at most one cell of cells in strict order has a key
pub found_cell : (s t c : ℕ) (cells : List LoadCell) → AllPairs CellBefore cells
    → filter (is_cell_of s t c) cells ≡ one_cell (find (is_cell_of s t c) cells)
found_cell s t c [] order = refl
found_cell s t c (x ∷ xs) order = by (is_cell_of s t c x) refl
    (found_cell s t c xs (λ i j d l m. order (suc i) (suc j) d (omega arith) (omega arith)))
  where
    by : (b : Bool) → is_cell_of s t c x ≡ b
        → filter (is_cell_of s t c) xs ≡ one_cell (find (is_cell_of s t c) xs)
        → cond b (x ∷ filter (is_cell_of s t c) xs) (filter (is_cell_of s t c) xs)
        ≡ one_cell (cond b (Some x) (find (is_cell_of s t c) xs))
    by true e h =
        ap (λ ys. x ∷ ys) (filter_none (is_cell_of s t c) xs
        (λ i d l. no_other s t c x (get_or xs i d) (order 0 (suc i) d (omega arith) (omega arith)) e))
    by false e h = h

-- ---- cells one after another

at_parts : (s t : ℕ) (x : LoadCell) → is_at s t x ≡ true → (x.start ≡ s) × (x.period ≡ t)
at_parts s t x h = grind (arith, nat_tests)

resource_order : (s t : ℕ) (x y : LoadCell) → CellBefore x y → is_at s t x ≡ true → is_at s t y ≡ true
    → x.resource ≤ y.resource
resource_order s t x y b h k =
    let p = at_parts s t x h in
    let q = at_parts s t y k in
    by x.start x.period x.resource y.start y.period y.resource b (p.0 ∙ sym q.0) (p.1 ∙ sym q.1)
  where
    by : (a b c d e f : ℕ) → KeyBefore a b c d e f → a ≡ d → b ≡ e → c ≤ f
    by a b c d e f k p q = grind arith

period_order : (s : ℕ) (x y : LoadCell) → CellBefore x y → x.start ≡ s → y.start ≡ s → x.period ≤ y.period
period_order s x y b p q = by x.start x.period x.resource y.start y.period y.resource b (p ∙ sym q)
  where
    by : (a b c d e f : ℕ) → KeyBefore a b c d e f → a ≡ d → b ≤ e
    by a b c d e f k p = grind arith

start_order : (x y : LoadCell) → CellBefore x y → x.start ≤ y.start
start_order x y b = by x.start x.period x.resource y.start y.period y.resource b
  where
    by : (a b c d e f : ℕ) → KeyBefore a b c d e f → a ≤ d
    by a b c d e f k = grind arith

-- those of one start and period, by resource
pub period_cells : (s t n : ℕ) (cells : List LoadCell) → AllPairs CellBefore cells → All (λ x. x.resource < n) cells
    → lists_below n (λ c. filter (is_cell_of s t c) cells) ≡ filter (is_at s t) cells
period_cells s t n cells order few =
    let here = filter (is_at s t) cells in
    lists_below_same n (λ c. filter (is_cell_of s t c) cells) (λ c. filter (λ x. x.resource == c) here)
    (λ c l. sym (filter_twice (λ x. x.resource == c) (is_at s t) cells))
    ∙ by_tests (λ c x. x.resource == c) (λ x. x.resource) n here
    (All-filter (is_at s t) (λ x. x.resource < n) cells few)
    (λ i j d l m. resource_order s t (get_or here i d) (get_or here j d)
    (AllPairs-filter CellBefore (is_at s t) cells order i j d l m)
    (filter_passes (is_at s t) cells i d (omega arith)) (filter_passes (is_at s t) cells j d m))
    (λ i d l k. refl)

-- cells of a start in periods from one on
abbrev pub IsDuring : ℕ → ℕ → ℕ → LoadCell → Type 0
IsDuring s b n x = x.start ≡ s → (b ≤ x.period) × (x.period < b + n)

-- those of one start, by period
pub start_cells : (s b n : ℕ) (cells : List LoadCell) → AllPairs CellBefore cells → All (IsDuring s b n) cells
    → lists_below n (λ j. filter (is_at s (b + j)) cells) ≡ filter (λ x. x.start == s) cells
start_cells s b n cells order during =
    let here = filter (λ (x : LoadCell). x.start == s) cells in
    let starts : All (λ x. x.start ≡ s) here = All-weaker (λ (x : LoadCell). (x.start == s) ≡ true) (λ x. x.start ≡ s)
    (λ x h. eqb-true x.start s h) here (filter_passes (λ (x : LoadCell). x.start == s) cells) in
    let within : All (λ x. (b ≤ x.period) × (x.period < b + n)) here =
    λ i d l. All-filter (λ (x : LoadCell). x.start == s) (IsDuring s b n) cells during i d l (starts i d l) in
    lists_below_same n (λ j. filter (is_at s (b + j)) cells) (λ j. filter (λ x. x.period == b + j) here)
    (λ j l. sym (filter_twice (λ x. x.period == b + j) (λ (x : LoadCell). x.start == s) cells))
    ∙ by_tests (λ j x. x.period == b + j) (λ x. x.period - b) n here
    (All-weaker (λ x. (b ≤ x.period) × (x.period < b + n)) (λ x. x.period - b < n)
    (λ x h. omega (arith, h)) here within)
    (λ i j d l m.
    let up : (get_or here i d).period ≤ (get_or here j d).period =
    period_order s (get_or here i d) (get_or here j d)
    (AllPairs-filter CellBefore (λ (x : LoadCell). x.start == s) cells order i j d l m)
    (starts i d (omega arith)) (starts j d m) in
    omega (arith, up))
    (λ i d l j. same b (get_or here i d).period j (within i d l).0)
  where
    same : (b p j : ℕ) → b ≤ p → (p == b + j) ≡ (p - b == j)
    same b p j h = grind (arith, nat_tests)

-- all of them, by start
pub by_start : (n : ℕ) (cells : List LoadCell) → AllPairs CellBefore cells
    → All (λ x. (1 ≤ x.start) × (x.start ≤ n)) cells
    → lists_below n (λ k. filter (λ x. x.start == k + 1) cells) ≡ cells
by_start n cells order among =
    by_tests (λ k x. x.start == k + 1) (λ x. x.start - 1) n cells
    (All-weaker (λ x. (1 ≤ x.start) × (x.start ≤ n)) (λ x. x.start - 1 < n) (λ x h. omega (arith, h)) cells among)
    (λ i j d l m.
    let up : (get_or cells i d).start ≤ (get_or cells j d).start =
    start_order (get_or cells i d) (get_or cells j d) (order i j d l m) in
    omega (arith, up))
    (λ i d l k. same (get_or cells i d).start k (among i d l).0)
  where
    same : (s k : ℕ) → 1 ≤ s → (s == k + 1) ≡ (s - 1 == k)
    same s k h = grind (arith, nat_tests)

-- ---- the cells of an intervention

runs : (inst : Tables) (i : ℕ) (x : LoadCell) → IsTrue (is_allowed inst i x.start)
    → IsTrue (in_run inst i x.start x.period) → IsRunning inst i x.start x.period
runs inst i x a r = IsRunning-from inst i x.start x.period (true_of (is_allowed inst i x.start) a)
    (true_of (in_run inst i x.start x.period) r)
  where
    true_of : (b : Bool) → IsTrue b → b ≡ true
    true_of b h = h

pub cells_run : (inst : Tables) (i : ℕ) (cells : List LoadCell) → AreCells inst i cells
    → All (λ x. IsRunning inst i x.start x.period) cells
cells_run inst i cells a = λ k d l. runs inst i (get_or cells k d) (a.allowed k d l) (a.running k d l)

none_refused : (inst : Tables) (i s : ℕ) (cells : List LoadCell) → AreCells inst i cells
    → is_allowed inst i s ≡ false → filter (λ x. x.start == s) cells ≡ []
none_refused inst i s cells a h =
    filter_none (λ x. x.start == s) cells (λ k d l. ne_eqb (get_or cells k d).start s (λ e.
    clash (is_allowed inst i s) h
    (subst (λ t. IsTrue (is_allowed inst i t)) e (a.allowed k d l))))
  where
    clash : (b : Bool) → b ≡ false → IsTrue b → ⊥
    clash b e h = cc

-- what is listed at one start is what the cells have there
at_start : (inst : Tables) (i s n : ℕ) (cells : List LoadCell) → AreCells inst i cells
    → n ≡ length inst.resource_names → (b : Bool) → is_allowed inst i s ≡ b
    → cond b (lists_below (delta_of inst i s)
    (λ j. lists_below n (λ c. one_cell (find (is_cell_of s (s + j) c) cells)))) [] ≡ filter (λ x. x.start == s) cells
at_start inst i s n cells a e false h = sym (none_refused inst i s cells a h)
at_start inst i s n cells a e true h =
    let d = delta_of inst i s in
    lists_below_same d (λ j. lists_below n (λ c. one_cell (find (is_cell_of s (s + j) c) cells)))
    (λ j. filter (is_at s (s + j)) cells)
    (λ j l. lists_below_same n (λ c. one_cell (find (is_cell_of s (s + j) c) cells))
    (λ c. filter (is_cell_of s (s + j) c) cells) (λ c m. sym (found_cell s (s + j) c cells a.ordered))
    ∙ period_cells s (s + j) n cells a.ordered
    (All-weaker (λ x. x.resource < length inst.resource_names) (λ x. x.resource < n) (λ x p. omega (arith, p, e)) cells
    a.resources))
    ∙ start_cells s s d cells a.ordered
    (λ k q l f. let r = cells_run inst i cells a k q l in during (get_or cells k q) f r)
  where
    during : (x : LoadCell) → x.start ≡ s → IsRunning inst i x.start x.period
        → (s ≤ x.period) × (x.period < s + delta_of inst i s)
    during x f r = let same : delta_of inst i x.start ≡ delta_of inst i s = ap (delta_of inst i) f in
        (omega (arith, r.from, f), omega (arith, r.to, f, same))

-- the cells found at each allowed start, period of its run and resource are the cells
pub cells_listed : (inst : Tables) (i n : ℕ) (cells : List LoadCell) → AreCells inst i cells
    → n ≡ length inst.resource_names
    → lists_below (tmax inst i) (λ k. cond (is_allowed inst i (k + 1)) (lists_below (delta_of inst i (k + 1))
    (λ j. lists_below n (λ c. one_cell (find (is_cell_of (k + 1) (k + 1 + j) c) cells)))) []) ≡ cells
cells_listed inst i n cells a e =
    lists_below_same (tmax inst i) _ (λ k. filter (λ x. x.start == k + 1) cells)
    (λ k l. at_start inst i (k + 1) n cells a e (is_allowed inst i (k + 1)) refl)
    ∙ by_start (tmax inst i) cells a.ordered
    (All-weaker (λ x. IsRunning inst i x.start x.period) (λ x. (1 ≤ x.start) × (x.start ≤ tmax inst i))
    (λ x r. (r.start, r.among)) cells (cells_run inst i cells a))
