-- The loads and risks that are drawn: how many, how large, and in which order.
use Rattle.std.proofs.Common.{arith, inl, inr, ◌≡◌, ℕ, zero, suc, ◌+◌, ◌-◌, ◌*◌, ◌<◌, ◌≤◌, ◌∙◌, ap, sym, refl, subst}
use Rattle.std.proofs.Common.{add-one, eq-eqb, ℤ, true, ◌==◌, List, [], ◌∷◌, ◌++◌, length, length-append}
use Rattle.std.proofs.Common.{All, AllPairs, Option, Some, None}
use Rattle.std.specs.Prelude.{slice_index, find, IsSome}
use Rattle.std.specs.Option.{option_or}
use Rattle.std.proofs.lemmas.Bool.{cases_lt, false≢true}
use Rattle.std.proofs.lemmas.List.Elements.{All-push, All-weaker}
use Rattle.std.proofs.lemmas.List.Folds.{find-append}
use Rattle.std.proofs.lemmas.List.Quantifiers.{all_pairs_push}
use Rattle.instance_model.specs.declared.parts.LoadCell.{LoadCell}
use Rattle.instance_model.specs.Fitting.{KeyBefore, CellBefore}
use Rattle.instance_model.specs.Naturals.{count_sum}
use Rattle.instance_model.specs.Tables.{is_cell_of}
use Rattle.instance_gen.specs.Drawing.{draw, whole, Runs, with_first_load, with_second_load, with_risks}
use Rattle.instance_gen.specs.Drawing.{with_period, with_run, with_starts}
use Rattle.instance_gen.proofs.DurationLemmas.{draw-below}

-- a count that is a whole number below 1,000
pub record IsSmallWhole (z : ℤ) : Type 0 where
  pub number : ℕ
  pub small : number < 1000
  pub same : z ≡ whole number

pub small_whole : (n : ℕ) → n < 1000 → IsSmallWhole (whole n)
small_whole n h = record { number = n; small = h; same = refl }

-- ---- how many risks

risks-length : (n : ℕ) (d : Runs) → length (with_risks n d).risks ≡ length d.risks + n
unfolding with_risks
risks-length zero d = omega arith
risks-length (suc n) d =
    let e = risks-length n d in
    length-append (with_risks n d).risks _ ∙ omega (arith, e)

period-length : (s t : ℕ) (d : Runs) → length (with_period s t d).risks ≡ length d.risks + 8
unfolding with_period
period-length s t d = risks-length 8 (with_second_load s t (with_first_load s t d))

run-length : (s n : ℕ) (d : Runs) → length (with_run s n d).risks ≡ length d.risks + 8 * n
unfolding with_run
run-length s zero d = omega arith
run-length s (suc n) d =
    let e = run-length s n d in
    let f = period-length s (s + n) (with_run s n d) in
    omega (arith, e, f)

pub starts-length : (ds : List ℕ) (n : ℕ) (d : Runs)
    → length (with_starts ds n d).risks ≡ length d.risks + count_sum n (λ k. 8 * slice_index ds k)
unfolding with_starts count_sum
starts-length ds zero d = omega arith
starts-length ds (suc n) d =
    let e = starts-length ds n d in
    let f = run-length (n + 1) (slice_index ds n) (with_starts ds n d) in
    omega (arith, e, f)

-- ---- how large they are

risks-small : (n : ℕ) (d : Runs) → All IsSmallWhole d.risks → All IsSmallWhole (with_risks n d).risks
unfolding with_risks
risks-small zero d h = h
risks-small (suc n) d h =
    let before = with_risks n d in
    let below = draw-below 100 before.source (omega arith) in
    All-push IsSmallWhole before.risks _ (risks-small n d h) (small_whole (draw 100 before.source).0 (omega (
      arith,
      below,
    )))

period-small : (s t : ℕ) (d : Runs) → All IsSmallWhole d.risks → All IsSmallWhole (with_period s t d).risks
unfolding with_period
period-small s t d h = risks-small 8 (with_second_load s t (with_first_load s t d)) h

run-small : (s n : ℕ) (d : Runs) → All IsSmallWhole d.risks → All IsSmallWhole (with_run s n d).risks
unfolding with_run
run-small s zero d h = h
run-small s (suc n) d h = period-small s (s + n) (with_run s n d) (run-small s n d h)

pub starts-small : (ds : List ℕ) (n : ℕ) (d : Runs) → All IsSmallWhole d.risks
    → All IsSmallWhole (with_starts ds n d).risks
unfolding with_starts
starts-small ds zero d h = h
starts-small ds (suc n) d h = run-small (n + 1) (slice_index ds n) (with_starts ds n d) (starts-small ds n d h)

-- ---- the load cells

risks-cells : (n : ℕ) (d : Runs) → (with_risks n d).cells ≡ d.cells
unfolding with_risks
risks-cells zero d = refl
risks-cells (suc n) d = risks-cells n d

period-cells : (s t : ℕ) (d : Runs)
    → (with_period s t d).cells ≡ (with_second_load s t (with_first_load s t d)).cells
unfolding with_period
period-cells s t d = risks-cells 8 (with_second_load s t (with_first_load s t d))

period-count : (s t : ℕ) (d : Runs) → length (with_period s t d).cells ≡ length d.cells + 2
period-count s t d =
    let first = length-append d.cells
    (record { start = s; period = t; resource = 0; load = whole (1 + (draw 9 d.source).0) } ∷ []) in
    let second = length-append (with_first_load s t d).cells
    (record { start = s; period = t; resource = 1; load = whole (draw 5 (with_first_load s t d).source).0 } ∷ []) in
    ap length (period-cells s t d) ∙ omega (arith, first, second)

run-count : (s n : ℕ) (d : Runs) → length (with_run s n d).cells ≡ length d.cells + 2 * n
unfolding with_run
run-count s zero d = omega arith
run-count s (suc n) d =
    let e = run-count s n d in
    let f = period-count s (s + n) (with_run s n d) in
    omega (arith, e, f)

pub starts-count : (ds : List ℕ) (n : ℕ) (d : Runs)
    → length (with_starts ds n d).cells ≡ length d.cells + count_sum n (λ k. 2 * slice_index ds k)
unfolding with_starts count_sum
starts-count ds zero d = omega arith
starts-count ds (suc n) d =
    let e = starts-count ds n d in
    let f = run-count (n + 1) (slice_index ds n) (with_starts ds n d) in
    omega (arith, e, f)

-- a cell of the run at its start, for an intervention with these durations
pub record IsPlaced (ds : List ℕ) (x : LoadCell) : Type 0 where
  pub from : 1 ≤ x.start
  pub to : x.start ≤ length ds
  pub began : x.start ≤ x.period
  pub ends : x.period < x.start + slice_index ds (x.start - 1)
  pub resource : x.resource < 2
  pub load : IsSmallWhole x.load

-- cells in strict order, all of them before start s, period t and resource c
pub record AreBefore (ds : List ℕ) (s t c : ℕ) (cells : List LoadCell) : Type 0 where
  pub ordered : AllPairs CellBefore cells
  pub below : All (λ x. KeyBefore x.start x.period x.resource s t c) cells
  pub placed : All (IsPlaced ds) cells

next_resource : (a b e s t c : ℕ) → KeyBefore a b e s t c → KeyBefore a b e s t (c + 1)
next_resource a b e s t c h =
    elim h [
      | inl x ↦ inl x
      | inr w ↦ inr (w.0, elim w.1 [ inl x ↦ inl x | inr v ↦ inr (v.0, omega (arith, v.1)) ])
    ]

next_period : (a b e s t c : ℕ) → KeyBefore a b e s t c → KeyBefore a b e s (t + 1) 0
next_period a b e s t c h =
    elim h [
      | inl x ↦ inl x
      | inr w ↦ inr (w.0, elim w.1 [ inl x ↦ inl (omega (arith, x)) | inr v ↦ inl (omega (arith, v.0)) ])
    ]

next_start : (a b e s t c : ℕ) → KeyBefore a b e s t c → KeyBefore a b e (s + 1) (s + 1) 0
next_start a b e s t c h = elim h [ inl x ↦ inl (omega (arith, x)) | inr w ↦ inl (omega (arith, w.0)) ]

pushed : (ds : List ℕ) (s t c : ℕ) (cells : List LoadCell) (z : ℤ) → AreBefore ds s t c cells
    → IsPlaced ds (record { start = s; period = t; resource = c; load = z })
    → AreBefore ds s t (c + 1) (cells ++ record { start = s; period = t; resource = c; load = z } ∷ [])
pushed ds s t c cells z h p =
    let x : LoadCell = record { start = s; period = t; resource = c; load = z } in
    record {
      ordered = all_pairs_push CellBefore cells x h.ordered (λ k d l. h.below k d l);
      below = All-push (λ (y : LoadCell). KeyBefore y.start y.period y.resource s t (c + 1)) cells x
          (All-weaker (λ (y : LoadCell). KeyBefore y.start y.period y.resource s t c)
          (λ (y : LoadCell). KeyBefore y.start y.period y.resource s t (c + 1))
          (λ y b. next_resource y.start y.period y.resource s t c b) cells h.below)
          (inr (refl, inr (refl, omega arith)));
      placed = All-push (IsPlaced ds) cells x h.placed p;
    }

-- period t is in the run at start s
pub record IsIn (ds : List ℕ) (s t : ℕ) : Type 0 where
  pub from : 1 ≤ s
  pub to : s ≤ length ds
  pub began : s ≤ t
  pub ends : t < s + slice_index ds (s - 1)

placed_cell : (ds : List ℕ) (s t c n : ℕ) → IsIn ds s t → c < 2 → n < 1000
    → IsPlaced ds (record { start = s; period = t; resource = c; load = whole n })
placed_cell ds s t c n r h l = record {
  from = r.from;
  to = r.to;
  began = r.began;
  ends = r.ends;
  resource = h;
  load = small_whole n l;
}

period-before : (ds : List ℕ) (s t : ℕ) (d : Runs) → IsIn ds s t → AreBefore ds s t 0 d.cells
    → AreBefore ds s (t + 1) 0 (with_period s t d).cells
period-before ds s t d r h =
    let first = draw 9 d.source in
    let low = draw-below 9 d.source (omega arith) in
    let second = draw 5 first.1 in
    let lower = draw-below 5 first.1 (omega arith) in
    let one = pushed ds s t 0 d.cells (whole (1 + first.0)) h (placed_cell ds s t 0 (1 + first.0) r (omega arith)
    (omega (arith, low))) in
    let two = pushed ds s t 1 (with_first_load s t d).cells (whole second.0) one
    (placed_cell ds s t 1 second.0 r (omega arith) (omega (arith, lower))) in
    let cells = (with_second_load s t (with_first_load s t d)).cells in
    let all : AreBefore ds s (t + 1) 0 cells = record {
      ordered = two.ordered;
      below = All-weaker (λ (y : LoadCell). KeyBefore y.start y.period y.resource s t 2)
          (λ (y : LoadCell). KeyBefore y.start y.period y.resource s (t + 1) 0)
          (λ y b. next_period y.start y.period y.resource s t 2 b) cells two.below;
      placed = two.placed;
    } in
    subst (AreBefore ds s (t + 1) 0) (sym (period-cells s t d)) all

run-before : (ds : List ℕ) (s n : ℕ) (d : Runs) → 1 ≤ s → s ≤ length ds → n ≤ slice_index ds (s - 1)
    → AreBefore ds s s 0 d.cells
    → AreBefore ds s (s + n) 0 (with_run s n d).cells
unfolding with_run
run-before ds s zero d from to few h =
    let e : s + zero ≡ s = omega arith in
    subst (λ (t : ℕ). AreBefore ds s t 0 d.cells) (sym e) h
run-before ds s (suc n) d from to few h =
    let e : s + suc n ≡ s + n + 1 = omega arith in
    let r : IsIn ds s (s + n) =
    record { from = from; to = to; began = omega arith; ends = omega (arith, few) } in
    subst (λ (t : ℕ). AreBefore ds s t 0 (with_period s (s + n) (with_run s n d)).cells) (sym e)
    (period-before ds s (s + n) (with_run s n d) r (run-before ds s n d from to (omega (arith, few)) h))

pub starts-before : (ds : List ℕ) (n : ℕ) (d : Runs) → n ≤ length ds
    → AreBefore ds 1 1 0 d.cells
    → AreBefore ds (n + 1) (n + 1) 0 (with_starts ds n d).cells
unfolding with_starts
starts-before ds zero d few h = h
starts-before ds (suc n) d few h =
    let before = starts-before ds n d (omega (arith, few)) h in
    let back : n + 1 - 1 ≡ n = omega arith in
    let wanted : slice_index ds n ≤ slice_index ds (n + 1 - 1) = rw back (omega arith) in
    let run = run-before ds (n + 1) (slice_index ds n) (with_starts ds n d) (omega arith) (omega (arith, few)) wanted
    before in
    let cells = (with_run (n + 1) (slice_index ds n) (with_starts ds n d)).cells in
    let e : n + 1 ≡ suc n = add-one n in
    let all : AreBefore ds (n + 1 + 1) (n + 1 + 1) 0 cells = record {
      ordered = run.ordered;
      below = All-weaker (λ (y : LoadCell). KeyBefore y.start y.period y.resource (n + 1) (n + 1 + slice_index ds n) 0)
          (λ (y : LoadCell). KeyBefore y.start y.period y.resource (n + 1 + 1) (n + 1 + 1) 0)
          (λ y b. next_start y.start y.period y.resource (n + 1) (n + 1 + slice_index ds n) 0 b) cells run.below;
      placed = run.placed;
    } in
    subst (λ (m : ℕ). AreBefore ds (m + 1) (m + 1) 0 cells) e all

-- ---- each cell is there

-- there is a cell of start s, period t and resource c
abbrev pub HasCell : ℕ → ℕ → ℕ → List LoadCell → Type 0
HasCell s t c cells = IsSome (find (is_cell_of s t c) cells)

some_or : {X : Type 0} (x y : Option X) → IsSome x → IsSome (option_or x y)
some_or None y h = absurd (false≢true h)
some_or (Some x) y h = refl

or_some : {X : Type 0} (x y : Option X) → IsSome y → IsSome (option_or x y)
or_some None y h = h
or_some (Some x) y h = refl

kept : (s t c : ℕ) (cells more : List LoadCell) → HasCell s t c cells → HasCell s t c (cells ++ more)
kept s t c cells more h =
    let p = is_cell_of s t c in
    rw (find-append p cells more) (some_or (find p cells) (find p more) h)

same : (n : ℕ) → (n == n) ≡ true
same n = eq-eqb n n refl

here : (s t c : ℕ) (cells : List LoadCell) (z : ℤ)
    → HasCell s t c (cells ++ record { start = s; period = t; resource = c; load = z } ∷ [])
here s t c cells z =
    let p = is_cell_of s t c in
    let x : LoadCell = record { start = s; period = t; resource = c; load = z } in
    let passes : p x ≡ true = rw (same s, same t, same c) refl in
    let found : IsSome (find p (x ∷ [])) = rw passes refl in
    rw (find-append p cells (x ∷ [])) (or_some (find p cells) (find p (x ∷ [])) found)

period-kept : (s t c u v : ℕ) (d : Runs) → HasCell s t c d.cells → HasCell s t c (with_period u v d).cells
period-kept s t c u v d h =
    rw (period-cells u v d) (kept s t c (with_first_load u v d).cells _ (kept s t c d.cells _ h))

period-first : (s t : ℕ) (d : Runs) → HasCell s t 0 (with_period s t d).cells
period-first s t d =
    rw (period-cells s t d) (kept s t 0 (with_first_load s t d).cells _ (here s t 0 d.cells _))

period-second : (s t : ℕ) (d : Runs) → HasCell s t 1 (with_period s t d).cells
period-second s t d = rw (period-cells s t d) (here s t 1 (with_first_load s t d).cells _)

period-has : (s t c : ℕ) (d : Runs) → c < 2 → HasCell s t c (with_period s t d).cells
period-has s t zero d h = period-first s t d
period-has s t (suc c) d h =
    let e : 1 ≡ suc c = omega (arith, h) in
    subst (λ (k : ℕ). HasCell s t k (with_period s t d).cells) e (period-second s t d)

run-kept : (s t c u n : ℕ) (d : Runs) → HasCell s t c d.cells → HasCell s t c (with_run u n d).cells
unfolding with_run
run-kept s t c u zero d h = h
run-kept s t c u (suc n) d h = period-kept s t c u (u + n) (with_run u n d) (run-kept s t c u n d h)

run-has : (s c n j : ℕ) (d : Runs) → j < n → c < 2 → HasCell s (s + j) c (with_run s n d).cells
unfolding with_run
run-has s c zero j d l h = absurd (omega (arith, l))
run-has s c (suc n) j d l h =
    elim (cases_lt j n) [
      | inl below ↦ period-kept s (s + j) c s (s + n) (with_run s n d) (run-has s c n j d below h)
      | inr past ↦
          let e : n ≡ j = omega (arith, l, past) in
          subst (λ (k : ℕ). HasCell s (s + k) c (with_period s (s + n) (with_run s n d)).cells) e
          (period-has s (s + n) c (with_run s n d) h)
    ]

-- after n starts each cell of each run is there
pub starts-has : (ds : List ℕ) (n k j c : ℕ) (d : Runs) → k < n → j < slice_index ds k → c < 2
    → HasCell (k + 1) (k + 1 + j) c (with_starts ds n d).cells
unfolding with_starts
starts-has ds zero k j c d l m h = absurd (omega (arith, l))
starts-has ds (suc n) k j c d l m h =
    elim (cases_lt k n) [
      | inl below ↦ run-kept (k + 1) (k + 1 + j) c (n + 1) (slice_index ds n) (with_starts ds n d)
          (starts-has ds n k j c d below m h)
      | inr past ↦
          let e : k ≡ n = omega (arith, l, past) in
          let long : j < slice_index ds n = subst (λ (i : ℕ). j < slice_index ds i) e m in
          subst (λ (i : ℕ). HasCell (i + 1) (i + 1 + j) c (with_run (n + 1) (slice_index ds n) (with_starts ds n
          d)).cells)
          (sym e) (run-has (n + 1) c (slice_index ds n) j (with_starts ds n d) long h)
    ]
