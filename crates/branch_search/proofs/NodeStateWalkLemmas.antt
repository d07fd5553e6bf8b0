-- Places of resources and periods, and the cells of one start as the walk takes them in.
use Rattle.std.proofs.Common.{◌≡◌, ◌≢◌, ℕ, zero, suc, ◌+◌, ◌-◌, ◌*◌, ◌/◌, ◌%◌, ◌<◌, ◌≤◌, refl, sym, ◌∙◌, ap, subst}
use Rattle.std.proofs.Common.{arith}
use Rattle.std.proofs.Common.{pos, ◌⊎◌, inl, inr, Bool, true, false, eqb, ltb, List, [], ◌∷◌, ◌++◌, length, get_or, set}
use Rattle.std.proofs.Common.{replicate}
use Rattle.std.proofs.Math.Nat.{mul-le-mul_right, lt_of_mul-lt-mul_right, mod-lt}
use Rattle.std.proofs.lemmas.Nat.{div-add-mod'}
use Rattle.std.proofs.lemmas.Bool.Decides.{nat_tests}
use Rattle.std.proofs.lemmas.List.{get_or-set_same, get_or-set_other, length-set, get_or-replicate, length-replicate}
use Rattle.std.proofs.lemmas.List.{get_or_default}
use Rattle.instance_model.specs.declared.parts.LoadCell.{LoadCell}
use Rattle.instance_model.specs.Fitting.{CellBefore, HasKey, AreCells}
use Rattle.instance_model.specs.Tables.{Tables, in_run, load_of}
use Rattle.instance_model.proofs.EntryLemmas.{IsRunning-from}
use Rattle.instance_model.proofs.CellLemmas.{load_found, load_missing}
use Rattle.instance_model.proofs.BoardLemmas.{load_at-idle, load_at-running}
use Rattle.certificate_tree.specs.Loads.{load_by_start}
use Rattle.branch_search.specs.declared.node_state.extent.Extent.{Extent}
use Rattle.branch_search.specs.node_state.KeptLoads.{place_of}
use Rattle.branch_search.specs.node_state.Extents.{no_extent, extent_at, taken, IsTaken, AreExtentsOf}
use Rattle.branch_search.proofs.NodeStateExtentLemmas.{IsExtentOf-none, IsExtentOf-more}

-- ---- places
pub place_within : (inst : Tables) (c t : ℕ) → c < length inst.resource_names → 1 ≤ t → t ≤ inst.periods
    → place_of inst c t < length inst.resource_names * inst.periods
place_within inst c t h one few =
    let whole : (c + 1) * inst.periods ≤ length inst.resource_names * inst.periods =
    mul-le-mul_right inst.periods (omega (arith, h)) in
    omega (arith, whole, one, few)

later_resource : (n c t d u : ℕ) → c < d → 1 ≤ t → t ≤ n → c * n + (t - 1) < d * n + (u - 1)
later_resource n c t d u h one few =
    let whole : (c + 1) * n ≤ d * n = mul-le-mul_right n (omega (arith, h)) in
    omega (arith, whole, one, few)

-- two bands have two places
pub place_apart : (inst : Tables) (c t d u : ℕ) → 1 ≤ t → t ≤ inst.periods → 1 ≤ u → u ≤ inst.periods
    → place_of inst c t ≡ place_of inst d u → (c ≡ d) × (t ≡ u)
place_apart inst c t d u one few some many e = at (ltb c d) refl (ltb d c) refl
  where
    at : (a : Bool) → ltb c d ≡ a → (b : Bool) → ltb d c ≡ b → (c ≡ d) × (t ≡ u)
    at true p b q =
        let l : c < d = grind (arith, nat_tests) in
        absurd (omega (arith, e, later_resource inst.periods c t d u l one few))
    at false p true q =
        let l : d < c = grind (arith, nat_tests) in
        absurd (omega (arith, e, later_resource inst.periods d u c t l some many))
    at false p false q =
        let same : c ≡ d = grind (arith, nat_tests) in
        let rows : c * inst.periods ≡ d * inst.periods = ap (λ (n : ℕ). n * inst.periods) same in
        (same, omega (arith, e, rows, one, some))

-- each place is that of a band
pub record IsPlaced (inst : Tables) (z c t : ℕ) : Type 0 where
  pub resource : c < length inst.resource_names
  pub from : 1 ≤ t
  pub to : t ≤ inst.periods
  pub place : place_of inst c t ≡ z

pub place_found : (inst : Tables) (z : ℕ) → 1 ≤ inst.periods → z < length inst.resource_names * inst.periods
    → IsPlaced inst z (z / inst.periods) (z % inst.periods + 1)
place_found inst z some h =
    let parts = div-add-mod' z inst.periods in
    let less : z / inst.periods * inst.periods < length inst.resource_names * inst.periods = omega (arith, parts, h) in
    let resource : z / inst.periods < length inst.resource_names = lt_of_mul-lt-mul_right inst.periods less in
    let rest : z % inst.periods < inst.periods = mod-lt z (omega (arith, some)) in
    record {
      resource = resource;
      from = omega arith;
      to = omega (arith, rest);
      place = omega (arith, parts);
    }

-- ---- cells
abbrev pub cell_place : Tables → LoadCell → ℕ
cell_place inst cell = place_of inst cell.resource cell.period

pub record IsCell (inst : Tables) (i : ℕ) (cell : LoadCell) : Type 0 where
  pub resource : cell.resource < length inst.resource_names
  pub from : 1 ≤ cell.period
  pub to : cell.period ≤ inst.periods
  pub running : in_run inst i cell.start cell.period ≡ true

pub IsCell-at : (inst : Tables) (i : ℕ) (cells : List LoadCell) (k : ℕ) (d : LoadCell) → AreCells inst i cells
    → k < length cells → IsCell inst i (get_or cells k d)
IsCell-at inst i cells k d h l =
    let r = h.running k d l in
    let w = IsRunning-from inst i (get_or cells k d).start (get_or cells k d).period (h.allowed k d l) r in
    let a = w.start in
    let b = w.ends in
    let e = w.from in
    let g = w.to in
    record {
      resource = h.resources k d l;
      from = omega (arith, a, e);
      to = omega (arith, b, g);
      running = r;
    }

no_cell : LoadCell
no_cell = record { start = 0; period = 0; resource = 0; load = pos 0 }

-- the cells of start s are those from one place up to another
pub record AreAtStart (cells : List LoadCell) (s from past : ℕ) : Type 0 where
  pub some : 1 ≤ s
  pub from_within : from ≤ length cells
  pub within : past ≤ length cells
  pub before : (k : ℕ) (d : LoadCell) → k < from → (get_or cells k d).start ≤ s - 1
  pub from_on : (k : ℕ) (d : LoadCell) → from ≤ k → k < length cells → s - 1 < (get_or cells k d).start
  pub to : (k : ℕ) (d : LoadCell) → k < past → (get_or cells k d).start ≤ s
  pub behind : (k : ℕ) (d : LoadCell) → past ≤ k → k < length cells → s < (get_or cells k d).start

pub at_start_order : (cells : List LoadCell) (s from past : ℕ) → AreAtStart cells s from past → from ≤ past
at_start_order cells s from past h = at (ltb past from) refl
  where
    at : (b : Bool) → ltb past from ≡ b → from ≤ past
    at true e =
        let l : past < from = grind (arith, nat_tests) in
        let above = h.behind past no_cell (omega arith) (omega (arith, l, h.from_within)) in
        let below = h.before past no_cell l in
        let some = h.some in
        absurd (omega (arith, above, below, some))
    at false e = grind (arith, nat_tests)

at_start : (cells : List LoadCell) (s from past k : ℕ) (d : LoadCell) → AreAtStart cells s from past → from ≤ k
    → k < past → (get_or cells k d).start ≡ s
at_start cells s from past k d h l m =
    let a = h.from_on k d l (omega (arith, m, h.within)) in
    let b = h.to k d m in
    let c = h.some in
    omega (arith, a, b, c)

no_cell_before_itself : (a b : LoadCell) → a.start ≡ b.start → a.period ≡ b.period → a.resource ≡ b.resource
    → CellBefore a b → ⊥
no_cell_before_itself a b e f g h = grind arith

cells_apart : (inst : Tables) (i s from past : ℕ) (cells : List LoadCell) (j k : ℕ) (d : LoadCell)
    → AreCells inst i cells → AreAtStart cells s from past → from ≤ j → j < k → k < past
    → cell_place inst (get_or cells j d) ≢ cell_place inst (get_or cells k d)
cells_apart inst i s from past cells j k d all h l m n = λ e.
    let few = h.within in
    let a = IsCell-at inst i cells j d all (omega (arith, m, n, few)) in
    let b = IsCell-at inst i cells k d all (omega (arith, n, few)) in
    let same = place_apart inst (get_or cells j d).resource (get_or cells j d).period (get_or cells k d).resource
    (get_or cells k d).period a.from a.to b.from b.to e in
    let start : (get_or cells j d).start ≡ (get_or cells k d).start =
    at_start cells s from past j d h l (omega (arith, m, n))
    ∙ sym (at_start cells s from past k d h (omega (arith, l, m)) n) in
    no_cell_before_itself (get_or cells j d) (get_or cells k d) start same.1 same.0
    (all.ordered j k d m (omega (arith, n, few)))

-- the loads of the cells before k are taken in, and what stands at other places is as it was
pub record AreTakenTo (inst : Tables) (cells : List LoadCell) (n from k : ℕ) (old new : List Extent) : Type 0 where
  pub each : length new ≡ length old
  pub done : (j : ℕ) (d : LoadCell) → from ≤ j → j < k
      → extent_at new (cell_place inst (get_or cells j d))
      ≡ taken (extent_at old (cell_place inst (get_or cells j d))) n (get_or cells j d).load
  pub kept : (z : ℕ) → ((j : ℕ) (d : LoadCell) → from ≤ j → j < k → cell_place inst (get_or cells j d) ≢ z)
      → extent_at new z ≡ extent_at old z

pub AreTakenTo-none : (inst : Tables) (cells : List LoadCell) (n from : ℕ) (extents : List Extent)
    → AreTakenTo inst cells n from from extents extents
AreTakenTo-none inst cells n from extents =
    record {
      each = refl;
      done = λ j d l m. absurd (omega (arith, l, m));
      kept = λ z h. refl;
    }

pub AreTakenTo-more : (inst : Tables) (i s n from k past : ℕ) (cells : List LoadCell) (cell : LoadCell)
    (old now : List Extent) (extent : Extent) → AreCells inst i cells → AreAtStart cells s from past
    → AreTakenTo inst cells n from k old now → from ≤ k → k < past
    → length old ≡ length inst.resource_names * inst.periods → cell ≡ get_or cells k cell
    → extent ≡ taken (extent_at now (cell_place inst cell)) n cell.load
    → AreTakenTo inst cells n from (k + 1) old (set now (cell_place inst cell) extent)
AreTakenTo-more inst i s n from k past cells cell old now extent all h p l m each is e =
    record {
      each = length-set now (cell_place inst cell) extent ∙ p.each;
      done = λ j d a b. at j d a b (ltb j k) refl;
      kept = λ z o.
          let here : cell_place inst cell ≢ z =
          subst (λ (x : LoadCell). cell_place inst x ≢ z) (sym is) (o k cell l (omega arith)) in
          get_or-set_other now (cell_place inst cell) z extent no_extent (λ q. here (sym q))
          ∙ p.kept z (λ j d a b. o j d a (omega (arith, b)));
    }
  where
    within : k < length cells
    within = omega (arith, m, h.within)

    is_cell : IsCell inst i cell
    is_cell = subst (IsCell inst i) (sym is) (IsCell-at inst i cells k cell all within)

    placed : cell_place inst cell < length now
    placed = let w = place_within inst cell.resource cell.period is_cell.resource is_cell.from is_cell.to in
        omega (arith, w, each, p.each)

    same_cell : (d : LoadCell) → get_or cells k d ≡ cell
    same_cell d = get_or_default cells k d cell within ∙ sym is

    apart : (j : ℕ) (d : LoadCell) → from ≤ j → j < k → cell_place inst (get_or cells j d) ≢ cell_place inst cell
    apart j d a b = subst (λ (x : LoadCell). cell_place inst (get_or cells j d) ≢ cell_place inst x) (same_cell d)
        (cells_apart inst i s from past cells j k d all h a b m)

    untouched : extent_at now (cell_place inst cell) ≡ extent_at old (cell_place inst cell)
    untouched = p.kept (cell_place inst cell) apart

    at : (j : ℕ) (d : LoadCell) → from ≤ j → j < k + 1 → (b : Bool) → ltb j k ≡ b
        → extent_at (set now (cell_place inst cell) extent) (cell_place inst (get_or cells j d))
        ≡ taken (extent_at old (cell_place inst (get_or cells j d))) n (get_or cells j d).load
    at j d a b true q = let before : j < k = grind (arith, nat_tests) in
        get_or-set_other now (cell_place inst cell) (cell_place inst (get_or cells j d)) extent no_extent
        (apart j d a before) ∙ p.done j d a before
    at j d a b false q =
        let last : k ≡ j = grind (arith, nat_tests) in
        let one : extent_at (set now (cell_place inst cell) extent) (cell_place inst cell)
        ≡ taken (extent_at old (cell_place inst cell)) n cell.load =
        get_or-set_same now (cell_place inst cell) extent no_extent placed ∙ e
        ∙ ap (λ (x : Extent). taken x n cell.load) untouched in
        let there : get_or cells j d ≡ cell = subst (λ (m : ℕ). get_or cells m d ≡ cell) last (same_cell d) in
        subst (λ (x : LoadCell). extent_at (set now (cell_place inst cell) extent) (cell_place inst x)
        ≡ taken (extent_at old (cell_place inst x)) n x.load) (sym there) one

-- one of the cells has a place, or none has it
search_place : (inst : Tables) (cells : List LoadCell) (d : LoadCell) (from k z : ℕ)
    → ((j : ℕ) × (from ≤ j) × (j < k) × (cell_place inst (get_or cells j d) ≡ z))
    ⊎ ((j : ℕ) → from ≤ j → j < k → cell_place inst (get_or cells j d) ≢ z)
search_place inst cells d from zero z = inr (λ j l m. absurd (omega (arith, m)))
search_place inst cells d from (suc k) z = at (search_place inst cells d from k z)
  where
    last : (a b : Bool) → ltb k from ≡ a → eqb (cell_place inst (get_or cells k d)) z ≡ b
        → ((j : ℕ) → from ≤ j → j < k → cell_place inst (get_or cells j d) ≢ z)
        → ((j : ℕ) × (from ≤ j) × (j < suc k) × (cell_place inst (get_or cells j d) ≡ z))
        ⊎ ((j : ℕ) → from ≤ j → j < suc k → cell_place inst (get_or cells j d) ≢ z)
    last false true p q none = let l : from ≤ k = grind (arith, nat_tests) in
        let e : cell_place inst (get_or cells k d) ≡ z = grind (arith, nat_tests) in inl (k, l, omega arith, e)
    last true b p q none = let l : k < from = grind (arith, nat_tests) in
        inr (λ j a m. none j a (omega (arith, a, m, l)))
    last false false p q none =
        let o : cell_place inst (get_or cells k d) ≢ z = grind (arith, nat_tests) in
        inr (λ j a m. other j a m (ltb j k) refl o)
      where
        other : (j : ℕ) → from ≤ j → j < suc k → (b : Bool) → ltb j k ≡ b
            → (cell_place inst (get_or cells k d) ≢ z) → cell_place inst (get_or cells j d) ≢ z
        other j a m true r o = none j a (grind (arith, nat_tests))
        other j a m false r o =
            let same : k ≡ j = grind (arith, nat_tests) in
            subst (λ (x : ℕ). cell_place inst (get_or cells x d) ≢ z) same o

    at : ((j : ℕ) × (from ≤ j) × (j < k) × (cell_place inst (get_or cells j d) ≡ z))
        ⊎ ((j : ℕ) → from ≤ j → j < k → cell_place inst (get_or cells j d) ≢ z)
        → ((j : ℕ) × (from ≤ j) × (j < suc k) × (cell_place inst (get_or cells j d) ≡ z))
        ⊎ ((j : ℕ) → from ≤ j → j < suc k → cell_place inst (get_or cells j d) ≢ z)
    at (inl (j, l, m, e)) = inl (j, l, omega (arith, m), e)
    at (inr none) = last (ltb k from) (eqb (cell_place inst (get_or cells k d)) z) refl refl none

-- a period without a cell has no load
no_load_there : (inst : Tables) (i s c t : ℕ) (b : Bool) → in_run inst i s t ≡ b → pos 0 ≡ load_of inst i s c t
    → load_by_start inst c t i s ≡ pos 0
no_load_there inst i s c t true r h = load_at-running inst c t i s r ∙ sym h
no_load_there inst i s c t false r h = load_at-idle inst c t i s r

-- all cells of the start are taken in: so is its load of each resource and period
pub taken_all : (inst : Tables) (i s n from past : ℕ) (cells : List LoadCell) (old new : List Extent) (c t : ℕ)
    → get_or inst.loads i [] ≡ cells → AreCells inst i cells → AreAtStart cells s from past
    → AreTakenTo inst cells n from past old new → 1 ≤ t → t ≤ inst.periods
    → IsTaken n (load_by_start inst c t i s) (extent_at old (place_of inst c t)) (extent_at new (place_of inst c t))
taken_all inst i s n from past cells old new c t row all h p one few =
    at (search_place inst cells no_cell from past (place_of inst c t))
  where
    key : (j : ℕ) (d : LoadCell) → from ≤ j → j < past → cell_place inst (get_or cells j d) ≡ place_of inst c t
        → HasKey s t c (get_or cells j d)
    key j d l m e =
        let w = IsCell-at inst i cells j d all (omega (arith, m, h.within)) in
        let same = place_apart inst (get_or cells j d).resource (get_or cells j d).period c t w.from w.to one few e in
        record { start = at_start cells s from past j d h l m; period = same.1; resource = same.0 }

    found : (j : ℕ) → from ≤ j → j < past → cell_place inst (get_or cells j no_cell) ≡ place_of inst c t
        → IsTaken n (load_by_start inst c t i s) (extent_at old (place_of inst c t)) (extent_at new (place_of inst c t))
    found j l m e =
        let within : j < length cells = omega (arith, m, h.within) in
        let keyed : (d : LoadCell) → HasKey s t c (get_or cells j d) =
        λ d. subst (HasKey s t c) (get_or_default cells j no_cell d within) (key j no_cell l m e) in
        let load : (get_or cells j no_cell).load ≡ load_of inst i s c t =
        load_found inst i s c t j cells no_cell row all.ordered within keyed in
        let w = IsCell-at inst i cells j no_cell all within in
        let k = keyed no_cell in
        let running : in_run inst i s t ≡ true =
        subst (λ (u : ℕ). in_run inst i s u ≡ true) k.period
        (subst (λ (r : ℕ). in_run inst i r (get_or cells j no_cell).period ≡ true) k.start w.running) in
        let there : (get_or cells j no_cell).load ≡ load_by_start inst c t i s =
        load ∙ sym (load_at-running inst c t i s running) in
        inl (subst (λ (z : ℕ). extent_at new z ≡ taken (extent_at old z) n (load_by_start inst c t i s)) e
        (p.done j no_cell l m ∙ ap (taken (extent_at old (cell_place inst (get_or cells j no_cell))) n) there))

    missing : ((j : ℕ) → from ≤ j → j < past → cell_place inst (get_or cells j no_cell) ≢ place_of inst c t)
        → (k : ℕ) (d : LoadCell) → k < length cells → HasKey s t c (get_or cells k d) → ⊥
    missing none k d l w = at (ltb k from) refl (ltb k past) refl
      where
        at : (a : Bool) → ltb k from ≡ a → (b : Bool) → ltb k past ≡ b → ⊥
        at true q b r =
            let m : k < from = grind (arith, nat_tests) in
            let below = h.before k d m in
            let start = w.start in
            let some = h.some in
            omega (arith, below, start, some)
        at false q false r =
            let m : past ≤ k = grind (arith, nat_tests) in
            let above = h.behind k d m l in
            let start = w.start in
            omega (arith, above, start)
        at false q true r =
            let m : from ≤ k = grind (arith, nat_tests) in
            let n : k < past = grind (arith, nat_tests) in
            let v = subst (HasKey s t c) (get_or_default cells k d no_cell l) w in
            let rows : (get_or cells k no_cell).resource * inst.periods ≡ c * inst.periods =
            ap (λ (x : ℕ). x * inst.periods) v.resource in
            let period = v.period in
            none k m n (omega (arith, rows, period))

    at : ((j : ℕ) × (from ≤ j) × (j < past) × (cell_place inst (get_or cells j no_cell) ≡ place_of inst c t))
        ⊎ ((j : ℕ) → from ≤ j → j < past → cell_place inst (get_or cells j no_cell) ≢ place_of inst c t)
        → IsTaken n (load_by_start inst c t i s) (extent_at old (place_of inst c t)) (extent_at new (place_of inst c t))
    at (inl (j, l, m, e)) = found j l m e
    at (inr none) = inr (
      p.kept (place_of inst c t) (λ j d l m. subst (λ (x : LoadCell). cell_place inst x ≢ place_of inst c t)
          (get_or_default cells j no_cell d (omega (arith, m, h.within))) (none j l m)),
      no_load_there inst i s c t (in_run inst i s t) refl (load_missing inst i s c t cells row (missing none)),
    )

-- ---- start by start
pub AreExtentsOf-none : (inst : Tables) (i : ℕ) (extents : List Extent)
    → extents ≡ replicate (length inst.resource_names * inst.periods) no_extent → AreExtentsOf inst i [] extents
AreExtentsOf-none inst i extents e =
    rw e (record {
      each = length-replicate (length inst.resource_names * inst.periods) no_extent;
      extent = λ c t l one few.
          rw (get_or-replicate (length inst.resource_names * inst.periods) (place_of inst c t) no_extent no_extent
          (place_within inst c t l one few)) (IsExtentOf-none (load_by_start inst c t i));
    })

pub AreExtentsOf-more : (inst : Tables) (i s n : ℕ) (ks : List ℕ) (old new : List Extent) → AreExtentsOf inst i ks old
    → n ≡ length ks → length new ≡ length old → ((c t : ℕ) → c < length inst.resource_names → 1 ≤ t → t ≤ inst.periods
    → IsTaken n (load_by_start inst c t i s) (extent_at old (place_of inst c t)) (extent_at new (place_of inst c t)))
    → AreExtentsOf inst i (ks ++ s ∷ []) new
AreExtentsOf-more inst i s n ks old new h d e taken =
    record {
      each = e ∙ h.each;
      extent = λ c t l one few. IsExtentOf-more (load_by_start inst c t i) ks s n (load_by_start inst c t i s)
          (extent_at old (place_of inst c t)) (extent_at new (place_of inst c t)) (h.extent c t l one few) d refl
          (taken c t l one few);
    }
