-- The workloads of one start, taken one after another, and how they change the loads of all resources.
use Rattle.std.proofs.Common.{◌≡◌, ◌≢◌, ℕ, zero, suc, ◌+◌, ◌-◌, ◌<◌, ◌≤◌, ◌⊎◌, inl, inr, refl, sym, ◌∙◌, ap, subst}
use Rattle.std.proofs.Common.{arith, ℤ, pos, ◌+ℤ◌, Bool, true, false, eqb, ltb, List, [], length, get_or, set, Some}
use Rattle.std.proofs.lemmas.Bool.Decides.{nat_tests}
use Rattle.std.proofs.lemmas.List.{get_or-set_same, get_or-set_other, length-set, get_or_default}
use Rattle.instance_model.specs.declared.parts.LoadCell.{LoadCell}
use Rattle.instance_model.specs.Fitting.{CellBefore, HasKey, AreCells, IsFitting}
use Rattle.instance_model.specs.Tables.{Tables, in_run, load_of}
use Rattle.instance_model.specs.Plans.{load_at}
use Rattle.instance_model.proofs.EntryLemmas.{IsRunning-from, count_sum_more, count_sum_le}
use Rattle.instance_model.proofs.CellLemmas.{load_found, load_missing}
use Rattle.instance_model.proofs.BoardLemmas.{load_at-idle, load_at-running}
use Rattle.resource_bands.specs.declared.change.Change.{Change}
use Rattle.resource_bands.specs.declared.change.Change.TheVariants.{Add, Take}
use Rattle.resource_bands.specs.Gaps.{signed, AreRows, AreRowsChanged}
use Rattle.fixed_num.proofs.SignedLemmas.{signed_arith}

-- ---- cells
pub record IsCell (inst : Tables) (i : ℕ) (cell : LoadCell) : Type 0 where
  pub resource : cell.resource < length inst.resource_names
  pub from : 1 ≤ cell.period
  pub to : cell.period ≤ inst.periods
  pub running : in_run inst i cell.start cell.period ≡ true

pub IsCell-at : (inst : Tables) (i : ℕ) (cells : List LoadCell) (k : ℕ) (d : LoadCell) → AreCells inst i cells
    → k < length cells → IsCell inst i (get_or cells k d)
IsCell-at inst i cells k d h l =
    let r = h.running k d l in
    let w = IsRunning-from inst i (get_or cells k d).start (get_or cells k d).period (h.allowed k d l) r in
    let a = w.start in
    let b = w.ends in
    let e = w.from in
    let g = w.to in
    record {
      resource = h.resources k d l;
      from = omega (arith, a, e);
      to = omega (arith, b, g);
      running = r;
    }

pub few_cells : (inst : Tables) (i : ℕ) → IsFitting inst → i < length inst.names
    → length (get_or inst.loads i []) ≤ 32_000_000
few_cells inst i f l =
    let sizes : ℕ → ℕ = λ j. length (get_or inst.loads j []) in
    let all = count_sum_le (i + 1) (length inst.names) sizes (omega (arith, l)) in
    omega (arith, f.loads_few, count_sum_more i sizes, all)

no_cell : LoadCell
no_cell = record { start = 0; period = 0; resource = 0; load = pos 0 }

-- the cells of start s are those from one place up to another
pub record AreAtStart (cells : List LoadCell) (s from past : ℕ) : Type 0 where
  pub some : 1 ≤ s
  pub from_within : from ≤ length cells
  pub within : past ≤ length cells
  pub before : (k : ℕ) (d : LoadCell) → k < from → (get_or cells k d).start ≤ s - 1
  pub from_on : (k : ℕ) (d : LoadCell) → from ≤ k → k < length cells → s - 1 < (get_or cells k d).start
  pub to : (k : ℕ) (d : LoadCell) → k < past → (get_or cells k d).start ≤ s
  pub behind : (k : ℕ) (d : LoadCell) → past ≤ k → k < length cells → s < (get_or cells k d).start

pub at_start_order : (cells : List LoadCell) (s from past : ℕ) → AreAtStart cells s from past → from ≤ past
at_start_order cells s from past h = at (ltb past from) refl
  where
    at : (b : Bool) → ltb past from ≡ b → from ≤ past
    at true e =
        let l : past < from = grind (arith, nat_tests) in
        let above = h.behind past no_cell (omega arith) (omega (arith, l, h.from_within)) in
        let below = h.before past no_cell l in
        let some = h.some in
        absurd (omega (arith, above, below, some))
    at false e = grind (arith, nat_tests)

at_start : (cells : List LoadCell) (s from past k : ℕ) (d : LoadCell) → AreAtStart cells s from past → from ≤ k
    → k < past → (get_or cells k d).start ≡ s
at_start cells s from past k d h l m =
    let a = h.from_on k d l (omega (arith, m, h.within)) in
    let b = h.to k d m in
    let c = h.some in
    omega (arith, a, b, c)

-- a cell of this resource and period
pub record HasPlace (c t : ℕ) (cell : LoadCell) : Type 0 where
  pub resource : cell.resource ≡ c
  pub period : cell.period ≡ t

no_cell_before_itself : (a b : LoadCell) → a.start ≡ b.start → a.period ≡ b.period → a.resource ≡ b.resource
    → CellBefore a b → ⊥
no_cell_before_itself a b e f g h = grind arith

cells_apart : (inst : Tables) (i s from past : ℕ) (cells : List LoadCell) (j k : ℕ) (d : LoadCell)
    → AreCells inst i cells → AreAtStart cells s from past → from ≤ j → j < k → k < past
    → HasPlace (get_or cells k d).resource (get_or cells k d).period (get_or cells j d) → ⊥
cells_apart inst i s from past cells j k d all h l m n e =
    let start : (get_or cells j d).start ≡ (get_or cells k d).start =
    at_start cells s from past j d h l (omega (arith, m, n))
    ∙ sym (at_start cells s from past k d h (omega (arith, l, m)) n) in
    no_cell_before_itself (get_or cells j d) (get_or cells k d) start e.period e.resource
    (all.ordered j k d m (omega (arith, n, h.within)))

-- ---- one load of all rows is set
abbrev pub load_in : List (List ℤ) → ℕ → ℕ → ℤ
load_in rows c t = get_or (get_or rows c []) (t - 1) (pos 0)

abbrev pub with_load : List (List ℤ) → ℕ → ℕ → ℤ → List (List ℤ)
with_load rows c t z = set rows c (set (get_or rows c []) (t - 1) z)

load_set : (rows : List (List ℤ)) (c t : ℕ) (z : ℤ) → c < length rows → t - 1 < length (get_or rows c [])
    → load_in (with_load rows c t z) c t ≡ z
load_set rows c t z l m =
    ap (λ (row : List ℤ). get_or row (t - 1) (pos 0))
    (get_or-set_same rows c (set (get_or rows c []) (t - 1) z) [] l)
    ∙ get_or-set_same (get_or rows c []) (t - 1) z (pos 0) m

load_set_other : (rows : List (List ℤ)) (c t d u : ℕ) (z : ℤ) → c < length rows → 1 ≤ t → 1 ≤ u
    → (c ≡ d → t ≡ u → ⊥) → load_in (with_load rows c t z) d u ≡ load_in rows d u
load_set_other rows c t d u z l one some apart = at (eqb d c) refl
  where
    at : (b : Bool) → eqb d c ≡ b → load_in (with_load rows c t z) d u ≡ load_in rows d u
    at true e =
        let here : c ≡ d = grind (arith, nat_tests) in
        let other : u - 1 ≢ t - 1 = λ q. apart here (omega (arith, q, one, some)) in
        let same : load_in (with_load rows c t z) c u ≡ load_in rows c u =
        ap (λ (row : List ℤ). get_or row (u - 1) (pos 0))
        (get_or-set_same rows c (set (get_or rows c []) (t - 1) z) [] l)
        ∙ get_or-set_other (get_or rows c []) (t - 1) (u - 1) z (pos 0) other in
        subst (λ (x : ℕ). load_in (with_load rows c t z) x u ≡ load_in rows x u) here same
    at false e =
        let other : d ≢ c = grind (arith, nat_tests) in
        ap (λ (row : List ℤ). get_or row (u - 1) (pos 0))
        (get_or-set_other rows c d (set (get_or rows c []) (t - 1) z) [] other)

length_set : (rows : List (List ℤ)) (c t d : ℕ) (z : ℤ) → c < length rows
    → length (get_or (with_load rows c t z) d []) ≡ length (get_or rows d [])
length_set rows c t d z l = at (eqb d c) refl
  where
    at : (b : Bool) → eqb d c ≡ b → length (get_or (with_load rows c t z) d []) ≡ length (get_or rows d [])
    at true e =
        let here : c ≡ d = grind (arith, nat_tests) in
        let same : length (get_or (with_load rows c t z) c []) ≡ length (get_or rows c []) =
        ap length (get_or-set_same rows c (set (get_or rows c []) (t - 1) z) [] l)
        ∙ length-set (get_or rows c []) (t - 1) z in
        subst (λ (x : ℕ). length (get_or (with_load rows c t z) x []) ≡ length (get_or rows x [])) here same
    at false e =
        let other : d ≢ c = grind (arith, nat_tests) in
        ap length (get_or-set_other rows c d (set (get_or rows c []) (t - 1) z) [] other)

-- ---- cell by cell

-- the loads of the cells before k are changed, and the others not yet
pub record AreChangedTo (change : Change) (cells : List LoadCell) (from k : ℕ) (old new : List (List ℤ)) : Type 0 where
  pub each : length new ≡ length old
  pub each_row : (c : ℕ) → length (get_or new c []) ≡ length (get_or old c [])
  pub done : (j : ℕ) (d : LoadCell) → from ≤ j → j < k
      → load_in new (get_or cells j d).resource (get_or cells j d).period
      ≡ load_in old (get_or cells j d).resource (get_or cells j d).period +ℤ signed change (get_or cells j d).load
  pub kept : (c t : ℕ) → 1 ≤ t → ((j : ℕ) (d : LoadCell) → from ≤ j → j < k → HasPlace c t (get_or cells j d) → ⊥)
      → load_in new c t ≡ load_in old c t

pub AreChangedTo-none : (change : Change) (cells : List LoadCell) (from : ℕ) (rows : List (List ℤ))
    → AreChangedTo change cells from from rows rows
AreChangedTo-none change cells from rows =
    record {
      each = refl;
      each_row = λ c. refl;
      done = λ j d l m. absurd (omega (arith, l, m));
      kept = λ c t l h. refl;
    }

-- the cell at k has a load that isn't changed yet
pub untouched : (inst : Tables) (i s from k past : ℕ) (change : Change) (cells : List LoadCell) (cell : LoadCell)
    (old now : List (List ℤ)) → AreCells inst i cells → AreAtStart cells s from past
    → AreChangedTo change cells from k old now → k < past → cell ≡ get_or cells k cell
    → load_in now cell.resource cell.period ≡ load_in old cell.resource cell.period
untouched inst i s from k past change cells cell old now all h p m is =
    let within : k < length cells = omega (arith, m, h.within) in
    let here : IsCell inst i cell = subst (IsCell inst i) (sym is) (IsCell-at inst i cells k cell all within) in
    p.kept cell.resource cell.period here.from (λ j d a b q.
    let same : get_or cells k d ≡ cell = get_or_default cells k d cell within ∙ sym is in
    cells_apart inst i s from past cells j k d all h a b m
    (subst (λ (x : LoadCell). HasPlace x.resource x.period (get_or cells j d)) (sym same) q))

pub AreChangedTo-more : (inst : Tables) (i s from k past : ℕ) (change : Change) (cells : List LoadCell)
    (cell : LoadCell) (old now : List (List ℤ)) (z : ℤ) → AreCells inst i cells → AreAtStart cells s from past
    → AreRows inst old → AreChangedTo change cells from k old now → from ≤ k → k < past → cell ≡ get_or cells k cell
    → z ≡ load_in now cell.resource cell.period +ℤ signed change cell.load
    → AreChangedTo change cells from (k + 1) old (with_load now cell.resource cell.period z)
AreChangedTo-more inst i s from k past change cells cell old now z all h rows p l m is e =
    record {
      each = length-set now cell.resource _ ∙ p.each;
      each_row = λ c. length_set now cell.resource cell.period c z placed ∙ p.each_row c;
      done = λ j d a b. at j d a b (ltb j k) refl;
      kept = λ c t one o.
          load_set_other now cell.resource cell.period c t z placed here.from one
          (λ a b. o k cell l (omega arith)
          (subst (HasPlace c t) is (record { resource = a; period = b })))
          ∙ p.kept c t one (λ j d a b. o j d a (omega (arith, b)));
    }
  where
    within : k < length cells
    within = omega (arith, m, h.within)

    here : IsCell inst i cell
    here = subst (IsCell inst i) (sym is) (IsCell-at inst i cells k cell all within)

    placed : cell.resource < length now
    placed = omega (arith, here.resource, rows.each, p.each)

    in_row : cell.period - 1 < length (get_or now cell.resource [])
    in_row = omega (
      arith,
      p.each_row cell.resource,
      (rows.each_row cell.resource here.resource).each,
      here.from,
      here.to,
    )

    same_cell : (d : LoadCell) → get_or cells k d ≡ cell
    same_cell d = get_or_default cells k d cell within ∙ sym is

    one : load_in (with_load now cell.resource cell.period z) cell.resource cell.period
        ≡ load_in old cell.resource cell.period +ℤ signed change cell.load
    one = load_set now cell.resource cell.period z placed in_row ∙ e
        ∙ ap (λ (x : ℤ). x +ℤ signed change cell.load)
        (untouched inst i s from k past change cells cell old now all h p m is)

    at : (j : ℕ) (d : LoadCell) → from ≤ j → j < k + 1 → (b : Bool) → ltb j k ≡ b
        → load_in (with_load now cell.resource cell.period z) (get_or cells j d).resource (get_or cells j d).period
        ≡ load_in old (get_or cells j d).resource (get_or cells j d).period +ℤ signed change (get_or cells j d).load
    at j d a b true q =
        let before : j < k = grind (arith, nat_tests) in
        let there = IsCell-at inst i cells j d all (omega (arith, before, within)) in
        load_set_other now cell.resource cell.period (get_or cells j d).resource (get_or cells j d).period z placed
        here.from there.from (λ f g. cells_apart inst i s from past cells j k d all h a before m
        (subst (λ (x : LoadCell). HasPlace x.resource x.period (get_or cells j d)) (sym (same_cell d))
        (record { resource = sym f; period = sym g })))
        ∙ p.done j d a before
    at j d a b false q =
        let last : k ≡ j = grind (arith, nat_tests) in
        let there : get_or cells j d ≡ cell = subst (λ (x : ℕ). get_or cells x d ≡ cell) last (same_cell d) in
        subst (λ (x : LoadCell). load_in (with_load now cell.resource cell.period z) x.resource x.period
        ≡ load_in old x.resource x.period +ℤ signed change x.load) (sym there) one

-- one of the cells has a place, or none has it
search_place : (cells : List LoadCell) (d : LoadCell) (from k c t : ℕ)
    → ((j : ℕ) × (from ≤ j) × (j < k) × HasPlace c t (get_or cells j d))
    ⊎ ((j : ℕ) → from ≤ j → j < k → HasPlace c t (get_or cells j d) → ⊥)
search_place cells d from zero c t = inr (λ j l m. absurd (omega (arith, m)))
search_place cells d from (suc k) c t = at (search_place cells d from k c t)
  where
    none_more : ((j : ℕ) → from ≤ j → j < k → HasPlace c t (get_or cells j d) → ⊥)
        → (from ≤ k → HasPlace c t (get_or cells k d) → ⊥) → (j : ℕ) → from ≤ j → j < suc k → (b : Bool) → ltb j k ≡ b
        → HasPlace c t (get_or cells j d) → ⊥
    none_more none here j a m true q w = none j a (grind (arith, nat_tests)) w
    none_more none here j a m false q w =
        let same : j ≡ k = grind (arith, nat_tests) in
        here (omega (arith, a, same)) (subst (λ (x : ℕ). HasPlace c t (get_or cells x d)) same w)

    last : (a b e : Bool) → ltb k from ≡ a → eqb (get_or cells k d).resource c ≡ b
        → eqb (get_or cells k d).period t ≡ e
        → ((j : ℕ) → from ≤ j → j < k → HasPlace c t (get_or cells j d) → ⊥)
        → ((j : ℕ) × (from ≤ j) × (j < suc k) × HasPlace c t (get_or cells j d))
        ⊎ ((j : ℕ) → from ≤ j → j < suc k → HasPlace c t (get_or cells j d) → ⊥)
    last true b e p q r none =
        let l : k < from = grind (arith, nat_tests) in
        inr (λ j a m. none_more none (λ f w. absurd (omega (arith, f, l))) j a m (ltb j k) refl)
    last false true true p q r none =
        let l : from ≤ k = grind (arith, nat_tests) in
        let f : (get_or cells k d).resource ≡ c = grind (arith, nat_tests) in
        let g : (get_or cells k d).period ≡ t = grind (arith, nat_tests) in
        inl (k, l, omega arith, record { resource = f; period = g })
    last false false e p q r none =
        let o : (get_or cells k d).resource ≢ c = grind (arith, nat_tests) in
        inr (λ j a m. none_more none (λ f w. o w.resource) j a m (ltb j k) refl)
    last false true false p q r none =
        let o : (get_or cells k d).period ≢ t = grind (arith, nat_tests) in
        inr (λ j a m. none_more none (λ f w. o w.period) j a m (ltb j k) refl)

    at : ((j : ℕ) × (from ≤ j) × (j < k) × HasPlace c t (get_or cells j d))
        ⊎ ((j : ℕ) → from ≤ j → j < k → HasPlace c t (get_or cells j d) → ⊥)
        → ((j : ℕ) × (from ≤ j) × (j < suc k) × HasPlace c t (get_or cells j d))
        ⊎ ((j : ℕ) → from ≤ j → j < suc k → HasPlace c t (get_or cells j d) → ⊥)
    at (inl (j, l, m, e)) = inl (j, l, omega (arith, m), e)
    at (inr none) =
        last (ltb k from) (eqb (get_or cells k d).resource c) (eqb (get_or cells k d).period t) refl refl refl none

-- a period without a cell has no load
no_load_there : (inst : Tables) (i s c t : ℕ) (b : Bool) → in_run inst i s t ≡ b → pos 0 ≡ load_of inst i s c t
    → load_at inst c t i (Some s) ≡ pos 0
no_load_there inst i s c t true r h = load_at-running inst c t i s r ∙ sym h
no_load_there inst i s c t false r h = load_at-idle inst c t i s r

unchanged : (change : Change) (z w : ℤ) → w ≡ pos 0 → z ≡ z +ℤ signed change w
unchanged Add z w e = rw e (omega (arith, signed_arith))
unchanged Take z w e = rw e (omega (arith, signed_arith))

-- all cells of the start are taken: so is its workload of each resource and period
changed_at : (inst : Tables) (i s from past : ℕ) (change : Change) (cells : List LoadCell) (old new : List (List ℤ))
    (c t : ℕ) → get_or inst.loads i [] ≡ cells → AreCells inst i cells → AreAtStart cells s from past
    → AreChangedTo change cells from past old new → 1 ≤ t
    → load_in new c t ≡ load_in old c t +ℤ signed change (load_at inst c t i (Some s))
changed_at inst i s from past change cells old new c t row all h p one = at (search_place cells no_cell from past c t)
  where
    found : (j : ℕ) → from ≤ j → j < past → HasPlace c t (get_or cells j no_cell)
        → load_in new c t ≡ load_in old c t +ℤ signed change (load_at inst c t i (Some s))
    found j l m e =
        let within : j < length cells = omega (arith, m, h.within) in
        let key : HasKey s t c (get_or cells j no_cell) =
        record { start = at_start cells s from past j no_cell h l m; period = e.period; resource = e.resource } in
        let load : (get_or cells j no_cell).load ≡ load_of inst i s c t =
        load_found inst i s c t j cells no_cell row all.ordered within
        (λ d. subst (HasKey s t c) (get_or_default cells j no_cell d within) key) in
        let w = IsCell-at inst i cells j no_cell all within in
        let running : in_run inst i s t ≡ true =
        subst (λ (u : ℕ). in_run inst i s u ≡ true) key.period
        (subst (λ (r : ℕ). in_run inst i r (get_or cells j no_cell).period ≡ true) key.start w.running) in
        let there : (get_or cells j no_cell).load ≡ load_at inst c t i (Some s) =
        load ∙ sym (load_at-running inst c t i s running) in
        let by_resource = subst (λ (x : ℕ). load_in new x (get_or cells j no_cell).period
        ≡ load_in old x (get_or cells j no_cell).period +ℤ signed change (get_or cells j no_cell).load)
        e.resource (p.done j no_cell l m) in
        let by_period = subst (λ (x : ℕ). load_in new c x
        ≡ load_in old c x +ℤ signed change (get_or cells j no_cell).load) e.period by_resource in
        by_period ∙ ap (λ (x : ℤ). load_in old c t +ℤ signed change x) there

    missing : ((j : ℕ) → from ≤ j → j < past → HasPlace c t (get_or cells j no_cell) → ⊥) → (k : ℕ) (d : LoadCell)
        → k < length cells → HasKey s t c (get_or cells k d) → ⊥
    missing none k d l w = cut (ltb k from) refl (ltb k past) refl
      where
        cut : (a : Bool) → ltb k from ≡ a → (b : Bool) → ltb k past ≡ b → ⊥
        cut true q b r =
            let m : k < from = grind (arith, nat_tests) in
            let below = h.before k d m in
            let start = w.start in
            let some = h.some in
            omega (arith, below, start, some)
        cut false q false r =
            let m : past ≤ k = grind (arith, nat_tests) in
            let above = h.behind k d m l in
            let start = w.start in
            omega (arith, above, start)
        cut false q true r =
            let m : from ≤ k = grind (arith, nat_tests) in
            let n : k < past = grind (arith, nat_tests) in
            let v = subst (HasKey s t c) (get_or_default cells k d no_cell l) w in
            none k m n (record { resource = v.resource; period = v.period })

    at : ((j : ℕ) × (from ≤ j) × (j < past) × HasPlace c t (get_or cells j no_cell))
        ⊎ ((j : ℕ) → from ≤ j → j < past → HasPlace c t (get_or cells j no_cell) → ⊥)
        → load_in new c t ≡ load_in old c t +ℤ signed change (load_at inst c t i (Some s))
    at (inl (j, l, m, e)) = found j l m e
    at (inr none) =
        let zero_load = no_load_there inst i s c t (in_run inst i s t) refl
        (load_missing inst i s c t cells row (missing none)) in
        p.kept c t one (λ j d l m w. none j l m
        (subst (HasPlace c t) (get_or_default cells j d no_cell (omega (arith, m, h.within))) w))
        ∙ unchanged change (load_in old c t) (load_at inst c t i (Some s)) zero_load

pub AreRowsChanged-all : (inst : Tables) (i s from past : ℕ) (change : Change) (cells : List LoadCell)
    (old new : List (List ℤ)) → get_or inst.loads i [] ≡ cells → AreCells inst i cells → AreAtStart cells s from past
    → AreChangedTo change cells from past old new → AreRowsChanged inst i s change old new
AreRowsChanged-all inst i s from past change cells old new row all h p =
    record {
      each = p.each;
      each_row = λ c l. record {
        each = p.each_row c;
        loads = λ u m. let d : u + 1 - 1 ≡ u = omega arith in
            rw d at (changed_at inst i s from past change cells old new c (u + 1) row all h p (omega arith));
      };
    }
