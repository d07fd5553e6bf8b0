-- Which load cells are in the table of an intervention, and which are kept of its workloads: the same, each once.
use Rattle.std.proofs.Common.{◌≡◌, ◌≢◌, ℕ, ℤ, ◌+◌, ◌-◌, ◌<◌, ◌≤◌, ◌==◌, ◌&&◌, ◌⊎◌, inl, inr, Bool, true, false, cond}
use Rattle.std.proofs.Common.{List, [], ◌∷◌, length, get_or, Option, Some, None, refl, sym, ◌∙◌, ap, subst, arith}
use Rattle.std.proofs.Common.{bytes_eq, nat_lt, nat_le}
use Rattle.std.specs.Prelude.{find, position, slice_index, AllPairs}
use Rattle.std.specs.List.{position_or_len}
use Rattle.std.proofs.lemmas.Bool.Decides.{nat_tests}
use Rattle.std.proofs.lemmas.List.Quantifiers.{position-Some}
use Rattle.std.proofs.lemmas.List.Sums.{position_or_len_is}
use Rattle.std.proofs.lemmas.Slice.Eq.{bytes_eq-Decides}
use Rattle.instance_model.specs.declared.parts.LoadCell.{LoadCell}
use Rattle.instance_model.specs.Fitting.{CellBefore}
use Rattle.instance_model.specs.Tables.{allowed_of}
use Rattle.instance_shape.specs.FileTables.{lists_below}
use Rattle.instance_rows.specs.Cells.{runs_in, load_cell, kept, kept_of, all_kept}
use Rattle.instance_rows.specs.FileRows.{LoadRow, WorkloadRow}
use Rattle.instance_rows.specs.RowTables.{each_run, is_load_at, loads_of, load_at, cell_of, cells_at}
use Rattle.instance_rows.specs.Sound.{AreLoadsApart, AreWorkloadsApart}
use Rattle.instance_rows.proofs.Ascending.{Among, Rises, among_left, among_right, among_either, among_lists}
use Rattle.instance_rows.proofs.Ascending.{lists_among, rises_lists, among_choice, choice_among, rises_choice}

both : (a b : Bool) → a && b ≡ true → (a ≡ true) × (b ≡ true)
both true b h = (refl, h)
both false b h = cc

joined : (a b : Bool) → a ≡ true → b ≡ true → a && b ≡ true
joined a b h k = ap (λ q. q && b) h ∙ k

equal : (a b : ℕ) → a ≡ b → (a == b) ≡ true
equal a b h = grind (arith, nat_tests)

equal_so : (a b : ℕ) → (a == b) ≡ true → a ≡ b
equal_so a b h = grind (arith, nat_tests)

unequal : (a b : ℕ) → (a ≡ b → ⊥) → (a == b) ≡ false
unequal a b h = grind (arith, nat_tests)

le_true : (a b : ℕ) → a ≤ b → nat_le a b ≡ true
le_true a b h = grind (arith, nat_tests)

lt_true : (a b : ℕ) → a < b → nat_lt a b ≡ true
lt_true a b h = grind (arith, nat_tests)

le_so : (a b : ℕ) → nat_le a b ≡ true → a ≤ b
le_so a b h = grind (arith, nat_tests)

lt_so : (a b : ℕ) → nat_lt a b ≡ true → a < b
lt_so a b h = grind (arith, nat_tests)

clash : (b : Bool) → b ≡ true → b ≡ false → ⊥
clash b x y = cc

-- ---- what is found

pub found_among : {A : Type 0} (p : A → Bool) (xs : List A) (x : A) → find p xs ≡ Some x → Among xs x × (p x ≡ true)
found_among p [] x h = cc
found_among {A} p (y ∷ ys) x h = by (p y) refl h (found_among p ys x)
  where
    by : (b : Bool) → p y ≡ b → cond b (Some y) (find p ys) ≡ Some x → (find p ys ≡ Some x → Among ys x × (p x ≡ true))
        → ((y ≡ x) ⊎ Among ys x) × (p x ≡ true)
    by true e h r = let same : y ≡ x = cc in (inl same, ap p (sym same) ∙ e)
    by false e h r = let q = r h in (inr q.0, q.1)

pub none_passes : {A : Type 0} (p : A → Bool) (xs : List A) (x : A) → find p xs ≡ None → Among xs x → p x ≡ false
none_passes p [] x h m = absurd m
none_passes {A} p (y ∷ ys) x h m = by (p y) refl h m (none_passes p ys x)
  where
    by : (b : Bool) → p y ≡ b → cond b (Some y) (find p ys) ≡ None → (y ≡ x) ⊎ Among ys x
        → (find p ys ≡ None → Among ys x → p x ≡ false) → p x ≡ false
    by true e h m r = cc
    by false e h (inl i) r = ap p (sym i) ∙ e
    by false e h (inr m) r = r h m

at_load : (l : LoadRow) (t s : ℕ) → l.period ≡ t → l.start ≡ s → is_load_at t s l ≡ true
at_load l t s h k = joined (l.period == t) (l.start == s) (equal l.period t h) (equal l.start s k)

pub load_is_at : (l : LoadRow) (t s : ℕ) → is_load_at t s l ≡ true → (l.period ≡ t) × (l.start ≡ s)
load_is_at l t s h = let q = both (l.period == t) (l.start == s) h in (equal_so l.period t q.0, equal_so l.start s q.1)

-- a workload among some that are apart is the first of its period and start
loads_found : (ls : List LoadRow) (l : LoadRow) → AreLoadsApart ls → Among ls l
    → find (is_load_at l.period l.start) ls ≡ Some l
loads_found [] l a m = absurd m
loads_found (k ∷ ls) l a (inl e) = subst (λ (q : LoadRow). find (is_load_at q.period q.start) (k ∷ ls) ≡ Some q) e
    (ap (λ b. cond b (Some k) (find (is_load_at k.period k.start) ls)) (at_load k k.period k.start refl refl))
loads_found (k ∷ ls) l a (inr m) = ap (λ b. cond b (Some k) (find (is_load_at l.period l.start) ls)) (other
    (is_load_at l.period l.start k) refl) ∙ loads_found ls l a.1 m
  where
    other : (b : Bool) → is_load_at l.period l.start k ≡ b → is_load_at l.period l.start k ≡ false
    other true e =
        let q = load_is_at k l.period l.start e in
        absurd (clash (is_load_at k.period k.start l) (at_load l k.period k.start (sym q.0) (sym q.1))
        (none_passes (is_load_at k.period k.start) ls l a.0 m))
    other false e = e

same_bytes : (a b : List ℕ) → a ≡ b → bytes_eq a b ≡ true
same_bytes a b h = (bytes_eq-Decides a b).1 h

bytes_same : (a b : List ℕ) → bytes_eq a b ≡ true → a ≡ b
bytes_same a b h = (bytes_eq-Decides a b).0 h

-- the workloads of a resource among some that are apart are the first of its name
record IsFirst (ws : List WorkloadRow) (w : WorkloadRow) : Type 0 where
  first : find (λ v. bytes_eq w.resource v.resource) ws ≡ Some w
  apart : AreLoadsApart w.loads

workloads_found : (ws : List WorkloadRow) (w : WorkloadRow) → AreWorkloadsApart ws → Among ws w → IsFirst ws w
workloads_found [] w a m = absurd m
workloads_found (v ∷ ws) w a (inl e) = subst (IsFirst (v ∷ ws)) e
    (record {
      first = ap (λ b. cond b (Some v) (find (λ u. bytes_eq v.resource u.resource) ws)) (same_bytes v.resource
          v.resource refl);
      apart = a.1;
    })
workloads_found (v ∷ ws) w a (inr m) =
    let rest : IsFirst ws w = workloads_found ws w a.2 m in
    record {
      first = ap (λ b. cond b (Some v) (find (λ u. bytes_eq w.resource u.resource) ws)) (other
          (bytes_eq w.resource v.resource) refl) ∙ rest.first;
      apart = rest.apart;
    }
  where
    other : (b : Bool) → bytes_eq w.resource v.resource ≡ b → bytes_eq w.resource v.resource ≡ false
    other true e = absurd
        (clash (bytes_eq v.resource w.resource)
        (same_bytes v.resource w.resource (sym (bytes_same w.resource v.resource e)))
        (none_passes (λ u. bytes_eq v.resource u.resource) ws w a.0 m))
    other false e = e

-- a name among some that are apart has its own place
place_apart : (names : List (List ℕ)) (c : ℕ) → AllPairs (λ a b. a ≢ b) names → c < length names
    → position (bytes_eq (get_or names c [])) names ≡ Some c
place_apart names c a l =
    let at : position_or_len (bytes_eq (get_or names c [])) names ≡ c = position_or_len_is
    (bytes_eq (get_or names c [])) names c [] (omega arith)
    (λ k h. apart k h (bytes_eq (get_or names c []) (get_or names k [])) refl)
    (λ h. same_bytes (get_or names c []) (get_or names c []) refl) in
    ap (λ n. cond (nat_lt n (length names)) (Some n) None) at
    ∙ ap (λ b. cond b (Some c) None) (lt_true c (length names) l)
  where
    apart : (k : ℕ) → k < c → (b : Bool) → bytes_eq (get_or names c []) (get_or names k []) ≡ b
        → bytes_eq (get_or names c []) (get_or names k []) ≡ false
    apart k h true e = absurd (a k c [] h l (sym (bytes_same (get_or names c []) (get_or names k []) e)))
    apart k h false e = e

-- ---- cells

-- a workload of a resource in a period of an allowed run is there, and this is its cell
pub record IsCell (periods : ℕ) (ds : List ℕ) (names : List (List ℕ)) (ws : List WorkloadRow)
    (z : LoadCell) : Type 0 where
  pub runs : runs_in periods ds z.start z.period ≡ true
  pub resource : z.resource < length names
  pub load : LoadRow
  pub found : load_at ws (get_or names z.resource []) z.period z.start ≡ Some load
  pub same : load.load ≡ z.load

allowed_from : (periods : ℕ) (ds : List ℕ) (s : ℕ) → allowed_of periods ds s ≡ true → (1 ≤ s) × (s ≤ length ds)
unfolding allowed_of
allowed_from periods ds s h =
    let q = both (nat_le 1 s && nat_le s (length ds)) (nat_le (s + slice_index ds (s - 1)) (periods + 1)) h in
    let r = both (nat_le 1 s) (nat_le s (length ds)) q.0 in
    (le_so 1 s r.0, le_so s (length ds) r.1)

-- ---- the table

cell_member : (s t c : ℕ) (o : Option LoadRow) (z : LoadCell) → Among (cell_of s t c o) z → (l : LoadRow) × (o ≡ Some l)
    × ((let q : LoadCell = record { start = s; period = t; resource = c; load = l.load } in q) ≡ z)
cell_member s t c None z m = absurd m
cell_member s t c (Some l) z (inl e) = (l, refl, e)
cell_member s t c (Some l) z (inr m) = absurd m

-- where a cell of the table stands
record StandsIn (periods : ℕ) (ds : List ℕ) (names : List (List ℕ)) (ws : List WorkloadRow) (k : ℕ)
    (z : LoadCell) : Type 0 where
  start : z.start ≡ k + 1
  cell : IsCell periods ds names ws z

run_member : (periods : ℕ) (ds : List ℕ) (names : List (List ℕ)) (ws : List WorkloadRow) (k : ℕ) (z : LoadCell)
    → allowed_of periods ds (k + 1) ≡ true
    → Among (lists_below (slice_index ds k) (λ j. cells_at names ws (k + 1) (k + 1 + j))) z
    → StandsIn periods ds names ws k z
run_member periods ds names ws k z a m =
    let q = among_lists (slice_index ds k) (λ j. cells_at names ws (k + 1) (k + 1 + j)) z m in
    let r = among_lists (length names)
    (λ c. cell_of (k + 1) (k + 1 + q.0) c (load_at ws (get_or names c []) (k + 1 + q.0) (k + 1))) z q.2 in
    let o = cell_member (k + 1) (k + 1 + q.0) r.0 (load_at ws (get_or names r.0 []) (k + 1 + q.0) (k + 1)) z r.2 in
    subst (StandsIn periods ds names ws k) o.2 (record {
      start = refl;
      cell = record {
        runs = joined (allowed_of periods ds (k + 1)) _ a
            (joined (nat_le (k + 1) (k + 1 + q.0)) _ (le_true (k + 1) (k + 1 + q.0) (omega arith))
            (lt_true (k + 1 + q.0) _ (ends q.0 q.1)));
        resource = r.1;
        load = o.0;
        found = o.1;
        same = refl;
      };
    })
  where
    ends : (j : ℕ) → j < slice_index ds k → k + 1 + j < k + 1 + slice_index ds (k + 1 - 1)
    ends j h = let e : k + 1 - 1 ≡ k = omega arith in let f : slice_index ds (k + 1 - 1) ≡ slice_index ds k =
        ap (slice_index ds) e in omega (arith, f)

pub table_member : (periods : ℕ) (ds : List ℕ) (names : List (List ℕ)) (ws : List WorkloadRow) (z : LoadCell)
    → Among (each_run periods ds (cells_at names ws)) z → IsCell periods ds names ws z
table_member periods ds names ws z m =
    let q = among_lists (length ds) _ z m in
    let r = among_choice (allowed_of periods ds (q.0 + 1)) _ z q.2 in
    let at : StandsIn periods ds names ws q.0 z = run_member periods ds names ws q.0 z r.0 r.1 in
    at.cell

pub member_table : (periods : ℕ) (ds : List ℕ) (names : List (List ℕ)) (ws : List WorkloadRow) (z : LoadCell)
    → IsCell periods ds names ws z → Among (each_run periods ds (cells_at names ws)) z
member_table periods ds names ws z i =
    let q = both (allowed_of periods ds z.start) _ i.runs in
    let r = both (nat_le z.start z.period) (nat_lt z.period (z.start + slice_index ds (z.start - 1))) q.1 in
    let from = allowed_from periods ds z.start q.0 in
    let up : z.start ≤ z.period = le_so z.start z.period r.0 in
    let ends : z.period < z.start + slice_index ds (z.start - 1) = lt_so z.period _ r.1 in
    let k = z.start - 1 in let j = z.period - z.start in
    let start : k + 1 ≡ z.start = omega (arith, from.0) in
    let period : k + 1 + j ≡ z.period = omega (arith, from.0, up) in
    lists_among (length ds) k _ z (omega (arith, from.0, from.1))
    (choice_among (allowed_of periods ds (k + 1)) _ z (ap (allowed_of periods ds) start ∙ q.0)
    (lists_among (slice_index ds k) j (λ j. cells_at names ws (k + 1) (k + 1 + j)) z (omega (arith, up, ends))
    (lists_among (length names) z.resource
    (λ c. cell_of (k + 1) (k + 1 + j) c (load_at ws (get_or names c []) (k + 1 + j) (k + 1))) z i.resource
    (subst (λ s. Among (cell_of s (k + 1 + j) z.resource (load_at ws (get_or names z.resource []) (k + 1 + j) s)) z)
    (sym start)
    (subst (λ t. Among (cell_of z.start t z.resource (load_at ws (get_or names z.resource []) t z.start)) z)
    (sym period)
    (subst (λ (o : Option LoadRow). Among (cell_of z.start z.period z.resource o) z) (sym i.found)
    (inl (ap (λ x. let q : LoadCell = record { start = z.start; period = z.period; resource = z.resource; load = x } in
    q) i.same))))))))

rises_cell : (s t c : ℕ) (o : Option LoadRow) → Rises CellBefore (cell_of s t c o)
rises_cell s t c None = tt
rises_cell s t c (Some l) = (λ y m. absurd m, tt)

pub table_rises : (periods : ℕ) (ds : List ℕ) (names : List (List ℕ)) (ws : List WorkloadRow)
    → Rises CellBefore (each_run periods ds (cells_at names ws))
table_rises periods ds names ws =
    rises_lists CellBefore (length ds) _
    (λ k l. rises_choice CellBefore (allowed_of periods ds (k + 1)) _
    (rises_lists CellBefore (slice_index ds k) (λ j. cells_at names ws (k + 1) (k + 1 + j))
    (λ j h. rises_lists CellBefore (length names) _
    (λ c g. rises_cell (k + 1) (k + 1 + j) c (load_at ws (get_or names c []) (k + 1 + j) (k + 1)))
    (λ c d x y g h m n. by_resource (k + 1) (k + 1 + j) c d _ _ x y g m n))
    (λ i j x y g h m n. by_period (k + 1) i j x y g m n)))
    (λ i k x y g h m n. by_start i k x y g (among_choice (allowed_of periods ds (i + 1)) _ x m)
    (among_choice (allowed_of periods ds (k + 1)) _ y n))
  where
    by_resource : (s t c d : ℕ) (o p : Option LoadRow) (x y : LoadCell) → c < d → Among (cell_of s t c o) x
        → Among (cell_of s t d p) y → CellBefore x y
    by_resource s t c d o p x y l m n =
        let a = cell_member s t c o x m in let b = cell_member s t d p y n in
        subst (λ (q : LoadCell). CellBefore q y) a.2
        (subst (CellBefore (record { start = s; period = t; resource = c; load = a.0.load })) b.2
        (inr (refl, inr (refl, l))))

    by_period : (s i j : ℕ) (x y : LoadCell) → i < j → Among (cells_at names ws s (s + i)) x
        → Among (cells_at names ws s (s + j)) y → CellBefore x y
    by_period s i j x y l m n =
        let p = among_lists (length names) (λ c. cell_of s (s + i) c (load_at ws (get_or names c []) (s + i) s)) x m in
        let q = among_lists (length names) (λ c. cell_of s (s + j) c (load_at ws (get_or names c []) (s + j) s)) y n in
        let a = cell_member s (s + i) p.0 _ x p.2 in let b = cell_member s (s + j) q.0 _ y q.2 in
        subst (λ (q : LoadCell). CellBefore q y) a.2
        (subst (CellBefore (record { start = s; period = s + i; resource = p.0; load = a.0.load })) b.2
        (inr (refl, inl (omega arith))))

    by_start : (i k : ℕ) (x y : LoadCell) → i < k → (allowed_of periods ds (i + 1) ≡ true)
        × Among (lists_below (slice_index ds i) (λ j. cells_at names ws (i + 1) (i + 1 + j))) x
        → (allowed_of periods ds (k + 1) ≡ true)
        × Among (lists_below (slice_index ds k) (λ j. cells_at names ws (k + 1) (k + 1 + j))) y → CellBefore x y
    by_start i k x y l m n =
        let a : StandsIn periods ds names ws i x = run_member periods ds names ws i x m.0 m.1 in
        let b : StandsIn periods ds names ws k y = run_member periods ds names ws k y n.0 n.1 in
        inl (omega (arith, a.start, b.start))

-- ---- what is kept

kept_member : (periods : ℕ) (ds : List ℕ) (c : ℕ) (ls : List LoadRow) (z : LoadCell) → Among (kept periods ds c ls) z
    → (l : LoadRow) × Among ls l × (runs_in periods ds l.start l.period ≡ true) × (load_cell c l ≡ z)
kept_member periods ds c [] z m = absurd m
kept_member periods ds c (l ∷ ls) z m =
    by (among_either (cond (runs_in periods ds l.start l.period) (load_cell c l ∷ []) []) (kept periods ds c ls) z m)
    (kept_member periods ds c ls z)
  where
    rest : (k : LoadRow) × Among ls k × (runs_in periods ds k.start k.period ≡ true) × (load_cell c k ≡ z)
        → (k : LoadRow) × Among (l ∷ ls) k × (runs_in periods ds k.start k.period ≡ true) × (load_cell c k ≡ z)
    rest q = (q.0, inr q.1, q.2, q.3)

    one : (runs_in periods ds l.start l.period ≡ true) × Among (load_cell c l ∷ []) z
        → (k : LoadRow) × Among (l ∷ ls) k × (runs_in periods ds k.start k.period ≡ true) × (load_cell c k ≡ z)
    one q = in_one q.0 q.1
      where
        in_one : runs_in periods ds l.start l.period ≡ true → Among (load_cell c l ∷ []) z
            → (k : LoadRow) × Among (l ∷ ls) k × (runs_in periods ds k.start k.period ≡ true) × (load_cell c k ≡ z)
        in_one a (inl e) = (l, inl refl, a, e)
        in_one a (inr m) = absurd m

    by : Among (cond (runs_in periods ds l.start l.period) (load_cell c l ∷ []) []) z ⊎ Among (kept periods ds c ls) z
        → (Among (kept periods ds c ls) z → (k : LoadRow) × Among ls k
        × (runs_in periods ds k.start k.period ≡ true) × (load_cell c k ≡ z))
        → (k : LoadRow) × Among (l ∷ ls) k × (runs_in periods ds k.start k.period ≡ true) × (load_cell c k ≡ z)
    by (inl m) r = one (among_choice (runs_in periods ds l.start l.period) _ z m)
    by (inr m) r = rest (r m)

member_kept : (periods : ℕ) (ds : List ℕ) (c : ℕ) (ls : List LoadRow) (l : LoadRow) → Among ls l
    → runs_in periods ds l.start l.period ≡ true
    → Among (kept periods ds c ls) (load_cell c l)
member_kept periods ds c [] l m h = absurd m
member_kept periods ds c (k ∷ ls) l (inl e) h =
    among_left _ (kept periods ds c ls) _
    (subst
    (λ (q : LoadRow). Among (cond (runs_in periods ds k.start k.period) (load_cell c k ∷ []) []) (load_cell c q)) e
    (choice_among (runs_in periods ds k.start k.period) _ _
    (subst (λ (q : LoadRow). runs_in periods ds q.start q.period ≡ true) (sym e) h) (inl refl)))
member_kept periods ds c (k ∷ ls) l (inr m) h = among_right
    (cond (runs_in periods ds k.start k.period) (load_cell c k ∷ []) []) (kept periods ds c ls) _
    (member_kept periods ds c ls l m h)

kept_of_member : (periods : ℕ) (ds : List ℕ) (o : Option ℕ) (ls : List LoadRow) (z : LoadCell)
    → Among (kept_of periods ds o ls) z → (c : ℕ) × (o ≡ Some c) × Among (kept periods ds c ls) z
kept_of_member periods ds None ls z m = absurd m
kept_of_member periods ds (Some c) ls z m = (c, refl, m)

all_kept_member : (periods : ℕ) (ds : List ℕ) (names : List (List ℕ)) (ws : List WorkloadRow) (z : LoadCell)
    → Among (all_kept periods ds names ws) z
    → (w : WorkloadRow) × Among ws w × (c : ℕ) × (position (bytes_eq w.resource) names ≡ Some c)
    × Among (kept periods ds c w.loads) z
all_kept_member periods ds names [] z m = absurd m
all_kept_member periods ds names (w ∷ ws) z m =
    by (among_either (kept_of periods ds (position (bytes_eq w.resource) names) w.loads) (all_kept periods ds names ws)
    z m) (all_kept_member periods ds names ws z)
  where
    one : (c : ℕ) × (position (bytes_eq w.resource) names ≡ Some c) × Among (kept periods ds c w.loads) z
        → (v : WorkloadRow) × Among (w ∷ ws) v × (c : ℕ) × (position (bytes_eq v.resource) names ≡ Some c)
        × Among (kept periods ds c v.loads) z
    one q = (w, inl refl, q.0, q.1, q.2)

    rest : (v : WorkloadRow) × Among ws v × (c : ℕ) × (position (bytes_eq v.resource) names ≡ Some c)
        × Among (kept periods ds c v.loads) z
        → (v : WorkloadRow) × Among (w ∷ ws) v × (c : ℕ) × (position (bytes_eq v.resource) names ≡ Some c)
        × Among (kept periods ds c v.loads) z
    rest q = (q.0, inr q.1, q.2, q.3, q.4)

    by : Among (kept_of periods ds (position (bytes_eq w.resource) names) w.loads) z
        ⊎ Among (all_kept periods ds names ws) z
        → (Among (all_kept periods ds names ws) z → (v : WorkloadRow) × Among ws v × (c : ℕ)
        × (position (bytes_eq v.resource) names ≡ Some c) × Among (kept periods ds c v.loads) z)
        → (v : WorkloadRow) × Among (w ∷ ws) v × (c : ℕ) × (position (bytes_eq v.resource) names ≡ Some c)
        × Among (kept periods ds c v.loads) z
    by (inl m) r = one (kept_of_member periods ds (position (bytes_eq w.resource) names) w.loads z m)
    by (inr m) r = rest (r m)

member_all_kept : (periods : ℕ) (ds : List ℕ) (names : List (List ℕ)) (ws : List WorkloadRow) (w : WorkloadRow) (c : ℕ)
    (z : LoadCell) → Among ws w → position (bytes_eq w.resource) names ≡ Some c → Among (kept periods ds c w.loads) z
    → Among (all_kept periods ds names ws) z
member_all_kept periods ds names [] w c z m h n = absurd m
member_all_kept periods ds names (v ∷ ws) w c z (inl e) h n =
    among_left _ (all_kept periods ds names ws) z
    (subst (λ (q : WorkloadRow). Among (kept_of periods ds (position (bytes_eq q.resource) names) q.loads) z)
    (sym e) (subst (λ (o : Option ℕ). Among (kept_of periods ds o w.loads) z) (sym h) n))
member_all_kept periods ds names (v ∷ ws) w c z (inr m) h n = among_right
    (kept_of periods ds (position (bytes_eq v.resource) names) v.loads) (all_kept periods ds names ws) z
    (member_all_kept periods ds names ws w c z m h n)

pub kept_is_cell : (periods : ℕ) (ds : List ℕ) (names : List (List ℕ)) (ws : List WorkloadRow) (z : LoadCell)
    → AreWorkloadsApart ws → Among (all_kept periods ds names ws) z → IsCell periods ds names ws z
kept_is_cell periods ds names ws z a m =
    let q = all_kept_member periods ds names ws z m in
    let w : WorkloadRow = q.0 in let c : ℕ = q.2 in
    let r = kept_member periods ds c w.loads z q.4 in
    let l : LoadRow = r.0 in
    let at = position-Some (bytes_eq w.resource) names c [] q.3 in
    let name : w.resource ≡ get_or names c [] = bytes_same w.resource (get_or names c []) at.1 in
    let first : IsFirst ws w = workloads_found ws w a q.1 in
    subst (IsCell periods ds names ws) r.3 (record {
      runs = r.2;
      resource = at.0;
      load = l;
      found = ap (λ n. find (is_load_at l.period l.start) (loads_of (find (λ v. bytes_eq n v.resource) ws))) (sym name)
          ∙ ap (λ o. find (is_load_at l.period l.start) (loads_of o)) first.first
          ∙ loads_found w.loads l first.apart r.1;
      same = refl;
    })

-- the workload behind a load that is found
load_in : (o : Option WorkloadRow) (t s : ℕ) (l : LoadRow) → find (is_load_at t s) (loads_of o) ≡ Some l
    → (w : WorkloadRow) × (o ≡ Some w) × Among w.loads l × (is_load_at t s l ≡ true)
load_in None t s l h = cc
load_in (Some w) t s l h = let q = found_among (is_load_at t s) w.loads l h in (w, refl, q.0, q.1)

pub cell_is_kept : (periods : ℕ) (ds : List ℕ) (names : List (List ℕ)) (ws : List WorkloadRow) (z : LoadCell)
    → AllPairs (λ a b. a ≢ b) names → IsCell periods ds names ws z → Among (all_kept periods ds names ws) z
cell_is_kept periods ds names ws z a i =
    let c = z.resource in
    let q = load_in (find (λ v. bytes_eq (get_or names c []) v.resource) ws) z.period z.start i.load i.found in
    let w : WorkloadRow = q.0 in let l : LoadRow = i.load in
    let r = found_among (λ v. bytes_eq (get_or names c []) v.resource) ws w q.1 in
    let name : get_or names c [] ≡ w.resource = bytes_same (get_or names c []) w.resource r.1 in
    let at = load_is_at l z.period z.start q.3 in
    let place : position (bytes_eq w.resource) names ≡ Some c =
    ap (λ n. position (bytes_eq n) names) (sym name) ∙ place_apart names c a i.resource in
    member_all_kept periods ds names ws w c z r.0 place
    (subst (Among (kept periods ds c w.loads)) (same_cell l.start l.period l.load at.1 at.0 i.same)
    (member_kept periods ds c w.loads l q.2
    (ap (λ s. runs_in periods ds s l.period) at.1 ∙ ap (runs_in periods ds z.start) at.0 ∙ i.runs)))
  where
    same_cell : (s t : ℕ) (x : ℤ) → s ≡ z.start → t ≡ z.period → x ≡ z.load
        → (let q : LoadCell = record { start = s; period = t; resource = z.resource; load = x } in q) ≡ z
    same_cell s t x h k g =
        ap (λ n. let q : LoadCell = record { start = n; period = t; resource = z.resource; load = x } in q) h
        ∙ ap (λ n. let q : LoadCell = record { start = z.start; period = n; resource = z.resource; load = x } in q) k
        ∙ ap (λ n. let q : LoadCell = record { start = z.start; period = z.period; resource = z.resource; load = n } in
        q) g
