-- What the prices on limits add at a start, workload by workload.
use Rattle.std.proofs.Common.{◌≡◌, ◌≢◌, ℕ, zero, suc, ◌+◌, ◌-◌, ◌*◌, ◌<◌, ◌≤◌, ◌⊎◌, inl, inr, refl, sym, ◌∙◌, ap}
use Rattle.std.proofs.Common.{subst, arith, Bool, true, false, cond, ◌&&◌, ◌==◌, eqb, ℤ, pos, ◌+ℤ◌, ◌-ℤ◌, ◌*ℤ◌, ◌≤ℤ◌}
use Rattle.std.proofs.Common.{List, []}
use Rattle.std.proofs.Common.{◌∷◌, length, get_or, set, take, AllPairs, Some, None, find, unwrap_or, unsigned_abs}
use Rattle.std.proofs.Common.{replicate, All, to_z, FitsSigned}
use Rattle.std.specs.Option.{option_map}
use Rattle.std.specs.Prelude.{slice_index_or}
use Rattle.std.specs.Int.{int_min, w128}
use Rattle.std.proofs.lemmas.Int.{to_z_pos, fits_signed_from_abs}
use Rattle.instance_model.proofs.EntryLemmas.{is_allowed_facts, count_sum_le, count_sum_more}
use Rattle.fixed_num.proofs.Bits.{by_bits}
use Rattle.std.proofs.lemmas.Bool.{false≢true, cases_eq}
use Rattle.std.proofs.lemmas.Bool.Decides.{Decides-eqb, nat_tests}
use Rattle.std.proofs.lemmas.List.{take_all, get_or-set_same, get_or-set_other}
use Rattle.std.proofs.lemmas.List.{length-replicate, length-set}
use Rattle.std.proofs.lemmas.List.Elements.{All-get_or, All-head, All-tail}
use Rattle.fixed_num.specs.Sums.{sum_below}
use Rattle.fixed_num.proofs.SignedLemmas.{signed_arith, abs-product, back_from_abs}
use Rattle.fixed_num.proofs.SumLemmas.{sum_below-zero, sum_below-suc, sum_below_same, sum_below-add, sum_below-none}
use Rattle.fixed_num.proofs.SumLemmas.{abs-sum}
use Rattle.instance_model.specs.declared.parts.LoadCell.{LoadCell}
use Rattle.instance_model.specs.Tables.{Tables, tmax, is_allowed, in_run, is_cell_of, load_of}
use Rattle.instance_model.specs.Fitting.{IsFitting, AreCells, CellBefore}
use Rattle.instance_model.specs.Plans.{load_at}
use Rattle.instance_model.proofs.BoardLemmas.{load_at-idle, load_at-running}
use Rattle.instance_model.proofs.CellLemmas.{find_none}
use Rattle.lagrange_bound.specs.Prices.{up_of, lo_of}
use Rattle.refined_prices.specs.Caps.{cap_of, counted_load}
use Rattle.refined_prices.specs.RefinedLists.{RefinedList}
use Rattle.refined_prices.specs.RefinedWorth.{counted_share, counted_part}
use Rattle.refined_prices.proofs.SizeLemmas.{cap_of_small}
use Rattle.refined_prices.specs.tables.LoadCosts.{load_share}
use Rattle.refined_prices.proofs.TablesCapTableLemmas.{cell_period}

-- ---- sums in which only one place counts

picked_none : (m j : ℕ) (z : ℤ) → m ≤ j → sum_below m (λ k. cond (eqb j k) z (pos 0)) ≡ pos 0
picked_none zero j z h = sum_below-zero (λ k. cond (eqb j k) z (pos 0))
picked_none (suc m) j z h =
    let no : eqb j m ≡ false = other j m (omega (arith, h)) in
    let ih = picked_none m j z (omega (arith, h)) in
    sum_below-suc m (λ k. cond (eqb j k) z (pos 0)) ∙ rw (no, ih) refl
  where
    other : (a b : ℕ) → b < a → eqb a b ≡ false
    other a b l = grind (arith, nat_tests)

picked : (n j : ℕ) (z : ℤ) → j < n → sum_below n (λ k. cond (eqb j k) z (pos 0)) ≡ z
picked zero j z l = absurd (omega (arith, l))
picked (suc n) j z l =
    sum_below-suc n (λ k. cond (eqb j k) z (pos 0)) ∙ by (eqb j n) refl (λ m. picked n j z m)
  where
    front : (x : ℤ) → pos 0 +ℤ x ≡ x
    front x = omega (arith, signed_arith)

    behind : (x : ℤ) → x +ℤ pos 0 ≡ x
    behind x = omega (arith, signed_arith)

    by : (b : Bool) → eqb j n ≡ b → (j < n → sum_below n (λ k. cond (eqb j k) z (pos 0)) ≡ z)
        → sum_below n (λ k. cond (eqb j k) z (pos 0)) +ℤ cond (eqb j n) z (pos 0) ≡ z
    by true e _ =
        let q : j ≡ n = (Decides-eqb j n).0 e in
        let none = picked_none n j z (omega (arith, q)) in
        rw (e, none) (front z)
    by false e more =
        let ne : j ≡ n → ⊥ = λ q. false≢true (sym e ∙ (Decides-eqb j n).1 q) in
        let ih = more (omega (arith, l, ne)) in
        rw (e, ih) (behind z)

-- in two rows of places
abbrev over_bands : ℕ → ℕ → (ℕ → ℕ → ℤ) → ℤ
over_bands m n f = sum_below m (λ c. sum_below n (λ u. f c (u + 1)))

over_bands-same : (m n : ℕ) (f g : ℕ → ℕ → ℤ) → ((c u : ℕ) → c < m → u < n → f c (u + 1) ≡ g c (u + 1))
    → over_bands m n f ≡ over_bands m n g
over_bands-same m n f g h =
    sum_below_same m (λ c. sum_below n (λ u. f c (u + 1))) (λ c. sum_below n (λ u. g c (u + 1)))
    (λ c l. sum_below_same n (λ u. f c (u + 1)) (λ u. g c (u + 1)) (λ u w. h c u l w))

over_bands-add : (m n : ℕ) (f g : ℕ → ℕ → ℤ)
    → over_bands m n (λ c t. f c t +ℤ g c t) ≡ over_bands m n f +ℤ over_bands m n g
over_bands-add m n f g =
    sum_below_same m (λ c. sum_below n (λ u. f c (u + 1) +ℤ g c (u + 1)))
    (λ c. sum_below n (λ u. f c (u + 1)) +ℤ sum_below n (λ u. g c (u + 1)))
    (λ c l. sum_below-add n (λ u. f c (u + 1)) (λ u. g c (u + 1)))
    ∙ sum_below-add m (λ c. sum_below n (λ u. f c (u + 1))) (λ c. sum_below n (λ u. g c (u + 1)))

over_bands-none : (m n : ℕ) → over_bands m n (λ c t. pos 0) ≡ pos 0
over_bands-none m n =
    sum_below_same m (λ c. sum_below n (λ u. pos 0)) (λ c. pos 0) (λ c l. sum_below-none n) ∙ sum_below-none m

over_bands-one : (m n c t : ℕ) (z : ℤ) → c < m → 1 ≤ t → t ≤ n
    → over_bands m n (λ d v. cond (eqb t v && eqb c d) z (pos 0)) ≡ z
over_bands-one m n c t z l one few =
    sum_below_same m (λ d. sum_below n (λ u. cond (eqb t (u + 1) && eqb c d) z (pos 0)))
    (λ d. cond (eqb c d) z (pos 0)) (λ d w. by d (eqb c d) refl)
    ∙ picked m c z l
  where
    shifted : (t u : ℕ) → 1 ≤ t → eqb t (u + 1) ≡ eqb (t - 1) u
    shifted t u h = at (eqb t (u + 1)) (eqb (t - 1) u) refl refl
      where
        at : (a b : Bool) → eqb t (u + 1) ≡ a → eqb (t - 1) u ≡ b → eqb t (u + 1) ≡ eqb (t - 1) u
        at true true e f = e ∙ sym f
        at false false e f = e ∙ sym f
        at true false e f = absurd (grind (arith, nat_tests))
        at false true e f = absurd (grind (arith, nat_tests))

    both : (b : Bool) → cond (b && true) z (pos 0) ≡ cond b z (pos 0)
    both true = refl
    both false = refl

    none : (b : Bool) → cond (b && false) z (pos 0) ≡ pos 0
    none true = refl
    none false = refl

    by : (d : ℕ) (b : Bool) → eqb c d ≡ b
        → sum_below n (λ u. cond (eqb t (u + 1) && eqb c d) z (pos 0)) ≡ cond (eqb c d) z (pos 0)
    by d true e =
        sum_below_same n (λ u. cond (eqb t (u + 1) && eqb c d) z (pos 0)) (λ u. cond (eqb (t - 1) u) z (pos 0))
        (λ u w. ap (λ (b : Bool). cond (eqb t (u + 1) && b) z (pos 0)) e ∙ both (eqb t (u + 1))
        ∙ ap (λ (b : Bool). cond b z (pos 0)) (shifted t u one))
        ∙ picked n (t - 1) z (omega (arith, one, few)) ∙ sym (ap (λ (b : Bool). cond b z (pos 0)) e)
    by d false e =
        sum_below_same n (λ u. cond (eqb t (u + 1) && eqb c d) z (pos 0)) (λ u. pos 0)
        (λ u w. ap (λ (b : Bool). cond (eqb t (u + 1) && b) z (pos 0)) e ∙ none (eqb t (u + 1)))
        ∙ sum_below-none n ∙ sym (ap (λ (b : Bool). cond b z (pos 0)) e)

-- ---- the workloads at a start, one by one

-- what the workloads of a list at start s cost
unfoldable pub cells_cost : (ℕ → ℕ → ℤ → ℤ) → ℕ → List LoadCell → ℤ
cells_cost h s [] = pos 0
cells_cost h s (x ∷ xs) = cond (eqb x.start s) (h x.resource x.period x.load) (pos 0) +ℤ cells_cost h s xs

pub cells_cost-none : (h : ℕ → ℕ → ℤ → ℤ) (s : ℕ) → cells_cost h s [] ≡ pos 0
unfolding cells_cost
cells_cost-none h s = refl

pub cells_cost_more : (h : ℕ → ℕ → ℤ → ℤ) (s k : ℕ) (xs : List LoadCell) (d : LoadCell) → k < length xs
    → cells_cost h s (take (k + 1) xs) ≡ cells_cost h s (take k xs)
    +ℤ cond (eqb (get_or xs k d).start s) (h (get_or xs k d).resource (get_or xs k d).period (get_or xs k d).load)
    (pos 0)
unfolding cells_cost
cells_cost_more h s k [] d l = absurd (omega (arith, l))
cells_cost_more h s zero (x ∷ xs) d l =
    turned (cond (eqb x.start s) (h x.resource x.period x.load) (pos 0))
  where
    turned : (a : ℤ) → a +ℤ pos 0 ≡ pos 0 +ℤ a
    turned a = omega (arith, signed_arith)
cells_cost_more h s (suc k) (x ∷ xs) d l =
    let next : suc k + 1 ≡ suc (k + 1) = omega arith in
    let ih = cells_cost_more h s k xs d (omega (arith, l)) in
    rw next (rw ih (moved (cond (eqb x.start s) (h x.resource x.period x.load) (pos 0)) (cells_cost h s (take k xs))
    (cond (eqb (get_or xs k d).start s) (h (get_or xs k d).resource (get_or xs k d).period (get_or xs k d).load)
    (pos 0))))
  where
    moved : (a b c : ℤ) → a +ℤ (b +ℤ c) ≡ (a +ℤ b) +ℤ c
    moved a b c = omega (arith, signed_arith)

-- the load of a key, of a list of workloads
abbrev load_in : List LoadCell → ℕ → ℕ → ℕ → ℤ
load_in cells s c t = unwrap_or (option_map (λ cell. cell.load) (find (is_cell_of s t c) cells)) (pos 0)

-- the workloads of a list have known resources and periods
record AreKnown (m n : ℕ) (cells : List LoadCell) : Type 0 where
  ordered : AllPairs CellBefore cells
  resources : All (λ cell. cell.resource < m) cells
  from : All (λ cell. 1 ≤ cell.period) cells
  to : All (λ cell. cell.period ≤ n) cells

rest_known : (m n : ℕ) (x : LoadCell) (xs : List LoadCell) → AreKnown m n (x ∷ xs) → AreKnown m n xs
rest_known m n x xs h = record {
  ordered = λ i j d l w. h.ordered (suc i) (suc j) d (omega (arith, l)) (omega (arith, w));
  resources = All-tail (λ cell. cell.resource < m) x xs h.resources;
  from = All-tail (λ cell. 1 ≤ cell.period) x xs h.from;
  to = All-tail (λ cell. cell.period ≤ n) x xs h.to;
}

false_from : (b : Bool) → (b ≡ true → ⊥) → b ≡ false
false_from true h = absurd (h refl)
false_from false h = refl

-- a later workload has another key
later_none : (m n s c t : ℕ) (x : LoadCell) (xs : List LoadCell) → AreKnown m n (x ∷ xs) → is_cell_of s t c x ≡ true
    → load_in xs s c t ≡ pos 0
later_none m n s c t x xs h e =
    let none : find (is_cell_of s t c) xs ≡ None = find_none (is_cell_of s t c) xs
    (λ k d l. false_from (is_cell_of s t c (get_or xs k d))
    (λ f. other x.start x.period x.resource (get_or xs k d).start (get_or xs k d).period (get_or xs k d).resource e f
    (h.ordered zero (suc k) d (omega arith) (omega (arith, l))))) in
    rw none refl
  where
    other : (a b d u v w : ℕ) → ((a == s) && (b == t) && (d == c)) ≡ true → ((u == s) && (v == t) && (w == c)) ≡ true
        → (a < u) ⊎ ((a ≡ u) × ((b < v) ⊎ ((b ≡ v) × (d < w)))) → ⊥
    other a b d u v w e f o = grind (arith, nat_tests)

-- a function of the load of each band, of which no load makes nothing
cells_cost_is : (m n s : ℕ) (h : ℕ → ℕ → ℤ → ℤ) (cells : List LoadCell) → ((c t : ℕ) → h c t (pos 0) ≡ pos 0)
    → AreKnown m n cells → cells_cost h s cells ≡ over_bands m n (λ c t. h c t (load_in cells s c t))
unfolding cells_cost
cells_cost_is m n s h [] zero_is known =
    sym (over_bands-same m n (λ c t. h c t (pos 0)) (λ c t. pos 0) (λ c u l w. zero_is c (u + 1))
    ∙ over_bands-none m n)
cells_cost_is m n s h (x ∷ xs) zero_is known =
    let ih = cells_cost_is m n s h xs zero_is (rest_known m n x xs known) in
    let low = All-head (λ cell. cell.resource < m) x xs known.resources in
    let one = All-head (λ cell. 1 ≤ cell.period) x xs known.from in
    let few = All-head (λ cell. cell.period ≤ n) x xs known.to in
    let z : ℤ = cond (eqb x.start s) (h x.resource x.period x.load) (pos 0) in
    ap (λ (y : ℤ). z +ℤ y) ih
    ∙ ap (λ (y : ℤ). y +ℤ over_bands m n (λ c t. h c t (load_in xs s c t)))
    (sym (over_bands-one m n x.resource x.period (cond (eqb x.start s) (h x.resource x.period x.load) (pos 0)) low one
    few))
    ∙ sym (over_bands-add m n
    (λ c t. cond (eqb x.period t && eqb x.resource c) (cond (eqb x.start s) (h x.resource x.period x.load) (pos 0))
    (pos 0))
    (λ c t. h c t (load_in xs s c t)))
    ∙ over_bands-same m n
    (λ c t. cond (eqb x.period t && eqb x.resource c) (cond (eqb x.start s) (h x.resource x.period x.load) (pos 0))
    (pos 0) +ℤ h c t (load_in xs s c t))
    (λ c t. h c t (load_in (x ∷ xs) s c t))
    (λ c u l w. by c (u + 1) (eqb x.start s) (eqb x.period (u + 1)) (eqb x.resource c) refl refl refl)
  where
    behind : (y : ℤ) → y +ℤ pos 0 ≡ y
    behind y = omega (arith, signed_arith)

    front : (y : ℤ) → pos 0 +ℤ y ≡ y
    front y = omega (arith, signed_arith)

    key : (c t : ℕ) → eqb x.start s ≡ true → eqb x.period t ≡ true → eqb x.resource c ≡ true
        → is_cell_of s t c x ≡ true
    key c t e f g = rw (e, f, g) refl

    by : (c t : ℕ) (a b d : Bool) → eqb x.start s ≡ a → eqb x.period t ≡ b → eqb x.resource c ≡ d
        → cond (eqb x.period t && eqb x.resource c) (cond (eqb x.start s) (h x.resource x.period x.load) (pos 0))
        (pos 0) +ℤ h c t (load_in xs s c t) ≡ h c t (load_in (x ∷ xs) s c t)
    by c t true true true e f g =
        let none = later_none m n s c t x xs known (key c t e f g) in
        let p : x.period ≡ t = (Decides-eqb x.period t).0 f in
        let q : x.resource ≡ c = (Decides-eqb x.resource c).0 g in
        let same : h x.resource x.period x.load ≡ h c t x.load =
        ap (λ (d : ℕ). h d x.period x.load) q ∙ ap (λ (u : ℕ). h c u x.load) p in
        rw (e, f, g, none) (ap (λ (y : ℤ). y +ℤ h c t (pos 0)) same ∙ ap (λ (y : ℤ). h c t x.load +ℤ y) (zero_is c t)
        ∙ behind (h c t x.load))
    by c t true true false e f g = rw (e, f, g) (front (h c t (load_in xs s c t)))
    by c t true false d e f g = rw (e, f) (front (h c t (load_in xs s c t)))
    by c t false true true e f g = rw (e, f, g) (front (h c t (load_in xs s c t)))
    by c t false true false e f g = rw (e, f, g) (front (h c t (load_in xs s c t)))
    by c t false false d e f g = rw (e, f) (front (h c t (load_in xs s c t)))

-- ---- the workloads of an intervention

-- outside its run an intervention has no workload
load_at_is : (inst : Tables) (i s c t : ℕ) (cells : List LoadCell) → AreCells inst i cells
    → slice_index_or inst.loads i [] ≡ cells → load_at inst c t i (Some s) ≡ load_in cells s c t
unfolding load_of
load_at_is inst i s c t cells w row = by (in_run inst i s t) refl
  where
    by : (b : Bool) → in_run inst i s t ≡ b → load_at inst c t i (Some s) ≡ load_in cells s c t
    by true e = load_at-running inst c t i s e ∙ rw row refl
    by false e =
        let none : find (is_cell_of s t c) cells ≡ None = find_none (is_cell_of s t c) cells
        (λ k d l. false_from (is_cell_of s t c (get_or cells k d)) (λ f. outside k d l f)) in
        load_at-idle inst c t i s e ∙ rw none refl
      where
        outside : (k : ℕ) (d : LoadCell) → k < length cells → is_cell_of s t c (get_or cells k d) ≡ true → ⊥
        outside k d l f =
            let a : (get_or cells k d).start ≡ s = grind (arith, nat_tests) in
            let b : (get_or cells k d).period ≡ t = grind (arith, nat_tests) in
            let r = All-get_or (λ x. in_run inst i x.start x.period ≡ true) cells k d l w.running in
            false≢true (sym e ∙ subst (λ (u : ℕ). in_run inst i s u ≡ true) b
            (subst (λ (v : ℕ). in_run inst i v (get_or cells k d).period ≡ true) a r))

known_cells : (inst : Tables) (i : ℕ) (cells : List LoadCell) → AreCells inst i cells
    → AreKnown (length inst.resource_names) inst.periods cells
known_cells inst i cells w = record {
  ordered = w.ordered;
  resources = w.resources;
  from = λ k d l. (cell_period inst i k cells d w l).0;
  to = λ k d l. (cell_period inst i k cells d w l).1;
}

load_share-none : (inst : Tables) (list : RefinedList) (c t : ℕ) → IsFitting inst
    → load_share inst list c t (pos 0) ≡ pos 0
unfolding load_share
load_share-none inst list c t fit =
    at list.capped (up_of inst list.prices c t) (lo_of inst list.prices c t) (cap_of inst c t)
    (cap_of_small inst c t fit).0
  where
    least : (cap : ℤ) → pos 0 ≤ℤ cap → int_min (pos 0) cap ≡ pos 0
    least cap h = omega (arith, signed_arith, h)

    nothing : (a b : ℕ) → (pos a *ℤ pos 0) -ℤ (pos b *ℤ pos 0) ≡ pos 0
    nothing a b = omega (arith, signed_arith)

    at : (b : Bool) (up lo : ℕ) (cap : ℤ) → pos 0 ≤ℤ cap
        → (pos up *ℤ pos 0) -ℤ (pos lo *ℤ cond b (int_min (pos 0) cap) (pos 0)) ≡ pos 0
    at true up lo cap h = rw (least cap h) (nothing up lo)
    at false up lo cap h = nothing up lo

counted_share_is : (inst : Tables) (list : RefinedList) (i s c t : ℕ)
    → load_share inst list c t (load_at inst c t i (Some s)) ≡ counted_share inst list i s c t
unfolding load_share counted_load
counted_share_is inst list i s c t = refl

-- after all workloads: what the prices on limits add
pub cells_cost_all : (inst : Tables) (list : RefinedList) (i s k : ℕ) (cells : List LoadCell) (z : ℤ) → IsFitting inst
    → AreCells inst i cells → slice_index_or inst.loads i [] ≡ cells → length cells ≤ k
    → z ≡ cells_cost (load_share inst list) s (take k cells) → z ≡ counted_part inst list i s
unfolding counted_part
cells_cost_all inst list i s k cells z fit w row l h =
    h ∙ ap (cells_cost (load_share inst list) s) (take_all k cells l)
    ∙ cells_cost_is (length inst.resource_names) inst.periods s (load_share inst list) cells
    (λ c t. load_share-none inst list c t fit) (known_cells inst i cells w)
    ∙ over_bands-same (length inst.resource_names) inst.periods
    (λ c t. load_share inst list c t (load_in cells s c t)) (counted_share inst list i s)
    (λ c u _ _. ap (load_share inst list c (u + 1)) (sym (load_at_is inst i s c (u + 1) cells w row))
    ∙ counted_share_is inst list i s c (u + 1))

-- ---- costs by start

-- the costs of the first workloads, by start
pub record AreCosts (h : ℕ → ℕ → ℤ → ℤ) (n k : ℕ) (cells : List LoadCell) (costs : List ℤ) : Type 0 where
  pub each : length costs ≡ n
  pub at : (p : ℕ) → p < n → get_or costs p (pos 0) ≡ cells_cost h (p + 1) (take k cells)
  pub small : (p : ℕ) → unsigned_abs (get_or costs p (pos 0)) ≤ k * 200_000_000_000_000_000_000_000_000_000

zeros_at : (n p : ℕ) → get_or (replicate {A = ℤ} n (pos 0)) p (pos 0) ≡ pos 0
zeros_at zero p = refl
zeros_at (suc n) zero = refl
zeros_at (suc n) (suc p) = zeros_at n p

pub AreCosts-none : (h : ℕ → ℕ → ℤ → ℤ) (n m : ℕ) (cells : List LoadCell) (costs : List ℤ)
    → costs ≡ replicate {A = ℤ} m (pos 0) → m ≡ n → AreCosts h n 0 cells costs
AreCosts-none h n m cells costs is e = record {
  each = ap length is ∙ length-replicate m (pos 0) ∙ e;
  at = λ p l. ap (λ (xs : List ℤ). get_or xs p (pos 0)) is ∙ zeros_at m p ∙ sym (cells_cost-none h (p + 1));
  small = λ p. rw is (rw (zeros_at m p) (omega arith));
}

pub AreCosts-more : (h : ℕ → ℕ → ℤ → ℤ) (n k q : ℕ) (cells : List LoadCell) (x : LoadCell) (old : List ℤ) (y : ℤ)
    → AreCosts h n k cells old → k < length cells → ((d : LoadCell) → x ≡ get_or cells k d) → q + 1 ≡ x.start
    → q < n → y ≡ get_or old q (pos 0) +ℤ h x.resource x.period x.load
    → unsigned_abs (h x.resource x.period x.load) ≤ 200_000_000_000_000_000_000_000_000_000
    → AreCosts h n (k + 1) cells (set old q y)
AreCosts-more h n k q cells x old y w l is place low value small = record {
  each = length-set old q y ∙ w.each;
  at = λ p m. cost_at p m (cases_eq q p);
  small = λ p. small_at p (cases_eq q p);
}
  where
    within : q < length old
    within = let each = w.each in omega (arith, each, low)

    more : (s : ℕ) → cells_cost h s (take (k + 1) cells) ≡ cells_cost h s (take k cells)
        +ℤ cond (eqb x.start s) (h x.resource x.period x.load) (pos 0)
    more s = cells_cost_more h s k cells x l
        ∙ ap (λ (c : LoadCell). cells_cost h s (take k cells)
        +ℤ cond (eqb c.start s) (h c.resource c.period c.load) (pos 0)) (sym (is x))

    behind : (z : ℤ) → z ≡ z +ℤ pos 0
    behind z = omega (arith, signed_arith)

    cost_at : (p : ℕ) → p < n → (q ≡ p) ⊎ (q ≡ p → ⊥)
        → get_or (set old q y) p (pos 0) ≡ cells_cost h (p + 1) (take (k + 1) cells)
    cost_at p m (inl e) =
        let same : eqb x.start (p + 1) ≡ true = (Decides-eqb x.start (p + 1)).1 (sym place ∙ ap (λ (j : ℕ). j + 1) e) in
        subst (λ (j : ℕ). get_or (set old q y) j (pos 0) ≡ y) e (get_or-set_same old q y (pos 0) within)
        ∙ value ∙ ap (λ (j : ℕ). get_or old j (pos 0) +ℤ h x.resource x.period x.load) e
        ∙ ap (λ (z : ℤ). z +ℤ h x.resource x.period x.load) (w.at p m)
        ∙ sym (more (p + 1) ∙ ap (λ (b : Bool). cells_cost h (p + 1) (take k cells)
        +ℤ cond b (h x.resource x.period x.load) (pos 0)) same)
    cost_at p m (inr e) =
        let apart : p ≢ q = λ f. e (sym f) in
        let no : eqb x.start (p + 1) ≡ false = false_from (eqb x.start (p + 1))
        (λ t. e (let same : x.start ≡ p + 1 = (Decides-eqb x.start (p + 1)).0 t in omega (arith, same, place))) in
        get_or-set_other old q p y (pos 0) apart ∙ w.at p m ∙ behind (cells_cost h (p + 1) (take k cells))
        ∙ sym (more (p + 1) ∙ ap (λ (b : Bool). cells_cost h (p + 1) (take k cells)
        +ℤ cond b (h x.resource x.period x.load) (pos 0)) no)

    small_at : (p : ℕ) → (q ≡ p) ⊎ (q ≡ p → ⊥)
        → unsigned_abs (get_or (set old q y) p (pos 0)) ≤ (k + 1) * 200_000_000_000_000_000_000_000_000_000
    small_at p (inl e) =
        let here : get_or (set old q y) p (pos 0) ≡ get_or old q (pos 0) +ℤ h x.resource x.period x.load =
        subst (λ (j : ℕ). get_or (set old q y) j (pos 0) ≡ y) e (get_or-set_same old q y (pos 0) within) ∙ value in
        let s = abs-sum (get_or old q (pos 0)) (h x.resource x.period x.load) in
        let before = w.small q in
        rw here (omega (arith, s, before, small))
    small_at p (inr e) =
        let apart : p ≢ q = λ f. e (sym f) in
        let before = w.small p in
        rw (get_or-set_other old q p y (pos 0) apart) (omega (arith, before))

-- an intervention has few workloads, and each is at a start from 1 to the last
pub few_cells : (inst : Tables) (i : ℕ) → IsFitting inst → i < length inst.names
    → length (slice_index_or inst.loads i []) ≤ 32_000_000
few_cells inst i f l =
    let sizes : ℕ → ℕ = λ j. length (slice_index_or inst.loads j []) in
    let all = count_sum_le (i + 1) (length inst.names) sizes (omega (arith, l)) in
    omega (arith, f.loads_few, count_sum_more i sizes, all)

pub cell_start : (inst : Tables) (i k : ℕ) (cells : List LoadCell) (x : LoadCell) → AreCells inst i cells
    → k < length cells → x ≡ get_or cells k x → (1 ≤ x.start) × (x.start ≤ tmax inst i)
cell_start inst i k cells x w l is =
    let f = is_allowed_facts inst i x.start
    (subst (λ (y : LoadCell). is_allowed inst i y.start ≡ true) (sym is) (w.allowed k x l)) in
    (f.0, f.1)

-- the cost of one more workload is added to that of its start
pub cost_step : (h : ℕ → ℕ → ℤ → ℤ) (n k p : ℕ) (cells : List LoadCell) (costs : List ℤ) (old z : ℤ)
    → AreCosts h n k cells costs → k ≤ 32_000_000 → old ≡ get_or costs p (pos 0)
    → unsigned_abs z ≤ 200_000_000_000_000_000_000_000_000_000
    → (by_bits (by_bits old +ℤ by_bits z) ≡ get_or costs p (pos 0) +ℤ z)
    × FitsSigned w128 (by_bits old +ℤ by_bits z)
cost_step h n k p cells costs old z w few e small =
    let before : unsigned_abs old ≤ k * 200_000_000_000_000_000_000_000_000_000 =
    subst (λ (y : ℤ). unsigned_abs y ≤ k * 200_000_000_000_000_000_000_000_000_000) (sym e) (w.small p) in
    let bo = back_from_abs old (omega (arith, before, few)) in
    let bz = back_from_abs z (omega (arith, small)) in
    let size = abs-sum old z in
    let step : by_bits (by_bits old +ℤ by_bits z) ≡ old +ℤ z =
    rw (bo, bz) (back_from_abs (old +ℤ z) (omega (arith, size, before, few, small))) in (
      step ∙ ap (λ (y : ℤ). y +ℤ z) e,
      rw (bo, bz) (fits_signed_from_abs w128 (old +ℤ z) (omega (arith, size, before, few, small))),
    )

-- ---- one workload, as the code has it

pub weighed_is : (up lo : ℕ) (load counted : ℤ) → up ≤ 1_000_000_000 → lo ≤ 1_000_000_000
    → unsigned_abs load ≤ 100_000_000_000_000_000_000 → unsigned_abs counted ≤ 100_000_000_000_000_000_000
    → (by_bits (by_bits (to_z w128 up *ℤ by_bits load) -ℤ by_bits (to_z w128 lo *ℤ by_bits counted))
    ≡ (pos up *ℤ load) -ℤ (pos lo *ℤ counted))
    × (unsigned_abs ((pos up *ℤ load) -ℤ (pos lo *ℤ counted)) ≤ 200_000_000_000_000_000_000_000_000_000)
weighed_is up lo load counted h k l m =
    let a = to_z_pos w128 up (omega (arith, h)) in
    let b = to_z_pos w128 lo (omega (arith, k)) in
    let d = back_from_abs load (omega (arith, l)) in
    let e = back_from_abs counted (omega (arith, m)) in
    let p = abs-product (pos up) load 1_000_000_000 100_000_000_000_000_000_000 h l in
    let q = abs-product (pos lo) counted 1_000_000_000 100_000_000_000_000_000_000 k m in
    let f = back_from_abs (pos up *ℤ load) (omega (arith, p)) in
    let g = back_from_abs (pos lo *ℤ counted) (omega (arith, q)) in
    let size = less (pos up *ℤ load) (pos lo *ℤ counted) p q in
    (rw (a, b, d, e, f, g) (back_from_abs ((pos up *ℤ load) -ℤ (pos lo *ℤ counted)) (omega (arith, size))), size)
  where
    less : (x y : ℤ) → unsigned_abs x ≤ 1_000_000_000 * 100_000_000_000_000_000_000
        → unsigned_abs y ≤ 1_000_000_000 * 100_000_000_000_000_000_000
        → unsigned_abs (x -ℤ y) ≤ 200_000_000_000_000_000_000_000_000_000
    less x y s t = omega (arith, signed_arith, s, t)

-- a load counts up to the cap where caps count
pub load_share_is : (inst : Tables) (list : RefinedList) (c t up lo : ℕ) (load counted z : ℤ)
    → up ≡ up_of inst list.prices c t → lo ≡ lo_of inst list.prices c t
    → counted ≡ cond list.capped (int_min load (cap_of inst c t)) load
    → z ≡ (pos up *ℤ load) -ℤ (pos lo *ℤ counted) → z ≡ load_share inst list c t load
unfolding load_share
load_share_is inst list c t up lo load counted z p q r e = e ∙ rw (p, q, r) refl

pub counted_small : (load cap : ℤ) → unsigned_abs load ≤ 100_000_000_000_000_000_000 → pos 0 ≤ℤ cap
    → unsigned_abs (int_min load cap) ≤ 100_000_000_000_000_000_000
counted_small load cap h k = omega (arith, signed_arith, h, k)
