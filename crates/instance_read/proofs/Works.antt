-- The interventions that are kept of a text without a fault.
use Rattle.std.proofs.Common.{◌≡◌, ℕ, ℤ, ◌||◌, Bool, true, false, cond, List, [], ◌∷◌, ◌++◌, map, Option, Some, None}
use Rattle.std.proofs.Common.{refl, sym, ◌∙◌, ap, bytes_eq, unwrap_or, arith, append_assoc, append-nil}
use Rattle.json_grammar.specs.Tree.{Tree, tree, Node, Event, key}
use Rattle.decimal_numbers.specs.Exact.{whole}
use Rattle.instance_model.specs.declared.limits.Limits.{Limits}
use Rattle.instance_shape.specs.declared.fault.Known.TheVariants as is
use Rattle.instance_shape.specs.declared.spot.Spot.{Spot}
use Rattle.instance_shape.specs.declared.spot.Spot.TheVariants as spot
use Rattle.instance_shape.specs.Keys.{text_of, is_digits, number_of}
use Rattle.instance_shape.specs.Shape.{under, required}
use Rattle.instance_shape.specs.LookUp.{Entry, elements, entries, known, at_key, whole_at, count_at, differs_at}
use Rattle.instance_shape.specs.FileTables.{some_differs}
use Rattle.instance_shape.proofs.Clear.{IsClear}
use Rattle.shape_walk.specs.declared.taken.Read.TheVariants.{Whole, Nothing}
use Rattle.shape_walk.specs.Kept.{keep_value}
use Rattle.shape_walk.specs.Reads.{read_of}
use Rattle.instance_rows.specs.FileRows.{LoadRow, WorkloadRow, WorkRow, load_row, load_rows, workload_row}
use Rattle.instance_model.specs.RiskLists.{RiskRow}
use Rattle.instance_rows.specs.FileRows.{risk_row, risk_rows, work_row, each_value}
use Rattle.instance_rows.specs.RowFaults.{no_work}
use Rattle.instance_model.specs.RiskLists.{longer, add_to_last}
use Rattle.instance_read.specs.Keeping.{with_whole, Works, no_works, no_workload, add_load, add_risk, open_risks}
use Rattle.instance_read.specs.Keeping.{keep_works}
use Rattle.instance_read.proofs.Branches.{is_beside, beside_under, beside_element}
use Rattle.instance_read.proofs.Carried.{value_idle}
use Rattle.instance_read.proofs.Once.{through, with_value, entries_once}
use Rattle.instance_read.proofs.Reading.{whole_kept, count_kept}
use Rattle.instance_read.proofs.Required.{by_key, among_none}
use Rattle.instance_read.proofs.RootParts.{root_kept, HasPart, root_part}
use Rattle.instance_read.proofs.Wholes.{each, each_entry, list_kept, object_kept, each_added, each_entry_added}

abbrev pub works_keep : Spot → Event → Works → Works
works_keep s e w = keep_works s e (read_of s e) w

works_idle : (q : Spot) (e : Event) (w : Works) → is_beside 3 q ≡ true → works_keep q e w ≡ w
works_idle spot.Intervention e w h = cc
works_idle spot.Tmax e w h = cc
works_idle spot.Duration e w h = cc
works_idle spot.Workload e w h = cc
works_idle spot.WorkloadResource e w h = cc
works_idle spot.WorkloadPeriod e w h = cc
works_idle spot.WorkloadNumber e w h = cc
works_idle spot.Risk e w h = cc
works_idle spot.RiskPeriod e w h = cc
works_idle spot.RiskNumber e w h = cc
works_idle _ e w h = refl

-- a period or start is read of a key that is one
numbered : {A : Type 0} (f : ℕ → A → A) (k : List ℕ) (a : A) → is_digits k ≡ true
    → with_whole f (cond (is_digits k) (Whole (number_of k)) Nothing) a ≡ f (number_of k) a
numbered f k a h = ap (λ b. with_whole f (cond b (Whole (number_of k)) Nothing) a) h

-- ---- a workload

-- the loads of a workload, and its period and start
abbrev Loads : Type 0
Loads = List LoadRow × ℕ × ℕ

-- a workload is open
abbrev loading : List WorkRow → WorkRow → List ℕ → Loads → Works
loading closed begun name x = record {
  closed = closed;
  begun = begun;
  workload = record { resource = name; loads = x.0 };
  period = x.1;
  start = x.2;
}

abbrev start_made : List ℕ → Tree → Loads → Loads
start_made k t x = (x.0 ++ load_row x.1 (record { key = k; value = t }) ∷ [], x.1, number_of k)

abbrev period_made : List ℕ → Tree → Loads → Loads
period_made k t x = each_entry start_made (entries t) (x.0, number_of k, x.2)

period_kept : (limits : Limits) (closed : List WorkRow) (begun : WorkRow) (name : List ℕ) (t : Tree) (x : Loads)
    → IsClear limits spot.WorkloadPeriod t
    → keep_value works_keep spot.WorkloadPeriod t (loading closed begun name x)
    ≡ loading closed begun name (each_entry start_made (entries t) x)
period_kept limits closed begun name t x c =
    object_kept limits works_keep spot.WorkloadPeriod (loading closed begun name) start_made (λ at end k t x i c.
    ap (λ w. keep_value works_keep spot.WorkloadNumber t w)
    (numbered (λ n w. record w { start = n }) k (loading closed begun name x) (i refl))
    ∙ count_kept works_keep spot.WorkloadNumber (λ z rounded w. add_load z w) refl (λ e w. refl) limits t
    (loading closed begun name (x.0, x.1, number_of k)) c)
    (loading closed begun name) (λ n. refl) (λ at x. refl) (λ at x. refl) t x c

-- an intervention in which nothing is open
abbrev at_rest : List WorkRow → WorkRow → Works
at_rest closed begun = record { closed = closed; begun = begun; workload = no_workload; period = 0; start = 0 }

starts_made : (es : List Entry) (x : Loads) → (each_entry start_made es x).0 ≡ x.0 ++ map (load_row x.1) es
starts_made [] x = sym (append-nil x.0)
starts_made (e ∷ es) x =
    starts_made es (start_made e.key e.value x) ∙ append_assoc x.0 (load_row x.1 e ∷ []) (map (load_row x.1) es)

periods_made : (es : List Entry) (x : Loads) → (each_entry period_made es x).0 ≡ x.0 ++ load_rows es
periods_made [] x = sym (append-nil x.0)
periods_made (e ∷ es) x =
    periods_made es (period_made e.key e.value x)
    ∙ ap (λ ls. ls ++ load_rows es) (starts_made (entries e.value) (x.0, number_of e.key, x.2))
    ∙ append_assoc x.0 (map (load_row (number_of e.key)) (entries e.value)) (load_rows es)

workload_kept : (limits : Limits) (closed : List WorkRow) (begun : WorkRow) (name : List ℕ) (t : Tree)
    (ws : List WorkloadRow) → IsClear limits spot.WorkloadResource t
    → keep_value works_keep spot.WorkloadResource t (loading closed (record begun { workloads = ws }) name ([], 0, 0))
    ≡ at_rest closed (record begun { workloads = ws ++ workload_row (record { key = name; value = t }) ∷ [] })
workload_kept limits closed begun name t ws c =
    object_kept limits works_keep spot.WorkloadResource (loading closed (record begun { workloads = ws }) name)
    period_made (λ at end k t x i c.
    ap (λ w. keep_value works_keep spot.WorkloadPeriod t w)
    (numbered (λ n w. record w { period = n }) k (loading closed (record begun { workloads = ws }) name x) (i refl))
    ∙ period_kept limits closed (record begun { workloads = ws }) name t (x.0, number_of k, x.2) c)
    (λ x. at_rest closed (record begun { workloads = ws ++ record { resource = name; loads = x.0 } ∷ [] })) (λ n. refl)
    (λ at x. refl) (λ at x. refl) t ([], 0, 0) c
    ∙ ap (λ ls. at_rest closed (record begun { workloads = ws ++ record { resource = name; loads = ls } ∷ [] }))
    (periods_made (entries t) ([], 0, 0))

workloads_kept : (limits : Limits) (closed : List WorkRow) (begun : WorkRow) (t : Tree) → IsClear limits spot.Workload t
    → keep_value works_keep spot.Workload t (at_rest closed begun)
    ≡ at_rest closed (record begun { workloads = begun.workloads ++ map workload_row (entries t) })
workloads_kept limits closed begun t c =
    object_kept limits works_keep spot.Workload (λ ws. at_rest closed (record begun { workloads = ws }))
    (λ k t ws. ws ++ workload_row (record { key = k; value = t }) ∷ [])
    (λ at end k t ws i c. workload_kept limits closed begun k t ws c)
    (λ ws. at_rest closed (record begun { workloads = ws })) (λ n. refl) (λ at ws. refl)
    (λ at ws. refl) t begun.workloads c
    ∙ ap (λ ws. at_rest closed (record begun { workloads = ws }))
    (each_entry_added workload_row (entries t) begun.workloads)

-- ---- risks

added_last : (z : ℤ) (b : Bool) (rs : List RiskRow) (r : RiskRow)
    → add_to_last z b (rs ++ r ∷ []) ≡ rs ++ longer z b r ∷ []
added_last z b [] r = refl
added_last z b (q ∷ []) r = refl
added_last z b (q ∷ (s ∷ rs)) r = ap (λ x. q ∷ x) (added_last z b (s ∷ rs) r)

or_assoc : (a b c : Bool) → (a || b) || c ≡ a || (b || c)
or_assoc true b c = refl
or_assoc false b c = refl

or-false : (a : Bool) → a || false ≡ a
or-false true = refl
or-false false = refl

-- a list of risks with more numbers
abbrev with_risks : List Tree → RiskRow → RiskRow
with_risks ts r = record r { values = r.values ++ map count_at ts; soft = r.soft || some_differs ts }

abbrev risk_made : Tree → List RiskRow → List RiskRow
risk_made t rs = add_to_last (count_at t) (differs_at t) rs

risks_made : (ts : List Tree) (rs : List RiskRow) (r : RiskRow)
    → each risk_made ts (rs ++ r ∷ []) ≡ rs ++ with_risks ts r ∷ []
risks_made [] rs r = ap (λ (q : RiskRow). rs ++ q ∷ []) (
    ap (λ vs. let q : RiskRow = record { period = r.period; start = r.start; values = vs; soft = r.soft } in q)
    (sym (append-nil r.values))
    ∙ ap (λ b. let q : RiskRow = record { period = r.period; start = r.start; values = r.values ++ []; soft = b } in q)
    (sym (or-false r.soft)))
risks_made (t ∷ ts) rs r =
    ap (each risk_made ts) (added_last (count_at t) (differs_at t) rs r)
    ∙ risks_made ts rs (longer (count_at t) (differs_at t) r)
    ∙ ap (λ (q : RiskRow). rs ++ q ∷ []) (
    ap (λ vs. let q : RiskRow = record {
      period = r.period;
      start = r.start;
      values = vs;
      soft = (r.soft || differs_at t) || some_differs ts;
    } in q) (append_assoc r.values (count_at t ∷ []) (map count_at ts))
    ∙ ap (λ b. let q : RiskRow = record {
      period = r.period;
      start = r.start;
      values = r.values ++ map count_at (t ∷ ts);
      soft = b;
    } in q) (or_assoc r.soft (differs_at t) (some_differs ts)))

-- the lists of risks of an intervention are open, in a period
abbrev Risks : Type 0
Risks = List RiskRow × ℕ

abbrev risking : List WorkRow → WorkRow → Risks → Works
risking closed begun x =
    record { closed = closed; begun = record begun { risks = x.0 }; workload = no_workload; period = x.1; start = 0 }

list_of_risks_kept : (limits : Limits) (closed : List WorkRow) (begun : WorkRow) (t : Tree) (x : Risks)
    → IsClear limits spot.RiskStart t
    → keep_value works_keep spot.RiskStart t (risking closed begun x)
    ≡ risking closed begun (each risk_made (elements t) x.0, x.1)
list_of_risks_kept limits closed begun t x c =
    list_kept limits works_keep spot.RiskStart (λ rs. risking closed begun (rs, x.1)) risk_made
    (λ m t rs c. count_kept works_keep spot.RiskNumber add_risk refl (λ e w. refl) limits t
    (risking closed begun (rs, x.1)) c)
    (λ rs. risking closed begun (rs, x.1)) (λ n. refl) (λ at rs. refl) (λ at rs. refl) t x.0 c

risk_start_kept : (limits : Limits) (closed : List WorkRow) (begun : WorkRow) (at end : ℕ) (k : List ℕ) (t : Tree)
    (period : ℕ) (rs : List RiskRow) → is_digits k ≡ true → IsClear limits spot.RiskStart t
    → keep_value works_keep spot.RiskStart t (works_keep spot.RiskPeriod (key at end k)
    (risking closed begun (rs, period)))
    ≡ risking closed begun (rs ++ risk_row period (record { key = k; value = t }) ∷ [], period)
risk_start_kept limits closed begun at end k t period rs d c =
    ap (λ w. keep_value works_keep spot.RiskStart t w) (numbered open_risks k (risking closed begun (rs, period)) d)
    ∙ list_of_risks_kept limits closed begun t
    (rs ++ record { period = period; start = number_of k; values = []; soft = false } ∷ [], period) c
    ∙ ap (λ (q : List RiskRow). risking closed begun (q, period))
    (risks_made (elements t) rs (record { period = period; start = number_of k; values = []; soft = false }))

risk_period_kept : (limits : Limits) (closed : List WorkRow) (begun : WorkRow) (t : Tree) (x : Risks)
    → IsClear limits spot.RiskPeriod t
    → keep_value works_keep spot.RiskPeriod t (risking closed begun x)
    ≡ risking closed begun (x.0 ++ map (risk_row x.1) (entries t), x.1)
risk_period_kept limits closed begun t x c =
    object_kept limits works_keep spot.RiskPeriod (λ rs. risking closed begun (rs, x.1))
    (λ k t rs. rs ++ risk_row x.1 (record { key = k; value = t }) ∷ [])
    (λ at end k t rs i c. risk_start_kept limits closed begun at end k t x.1 rs (i refl) c)
    (λ rs. risking closed begun (rs, x.1)) (λ n. refl) (λ at rs. refl) (λ at rs. refl) t x.0 c
    ∙ ap (λ (q : List RiskRow). risking closed begun (q, x.1)) (each_entry_added (risk_row x.1) (entries t) x.0)

abbrev period_risked : List ℕ → Tree → Risks → Risks
period_risked k t x = (x.0 ++ map (risk_row (number_of k)) (entries t), number_of k)

periods_risked : (es : List Entry) (x : Risks) → (each_entry period_risked es x).0 ≡ x.0 ++ risk_rows es
periods_risked [] x = sym (append-nil x.0)
periods_risked (e ∷ es) x = periods_risked es (period_risked e.key e.value x)
    ∙ append_assoc x.0 (map (risk_row (number_of e.key)) (entries e.value)) (risk_rows es)

risks_kept : (limits : Limits) (closed : List WorkRow) (begun : WorkRow) (t : Tree) → IsClear limits spot.Risk t
    → keep_value works_keep spot.Risk t (at_rest closed begun)
    ≡ at_rest closed (record begun { risks = begun.risks ++ risk_rows (entries t) })
risks_kept limits closed begun t c =
    object_kept limits works_keep spot.Risk (risking closed begun) period_risked (λ at end k t x i c.
    ap (λ w. keep_value works_keep spot.RiskPeriod t w)
    (numbered (λ n w. record w { period = n }) k (risking closed begun x) (i refl))
    ∙ risk_period_kept limits closed begun t (x.0, number_of k) c)
    (λ x. at_rest closed (record begun { risks = x.0 })) (λ n. refl) (λ at x. refl) (λ at x. refl) t (begun.risks, 0) c
    ∙ ap (λ (q : List RiskRow). at_rest closed (record begun { risks = q }))
    (periods_risked (entries t) (begun.risks, 0))

-- ---- an intervention

durations_kept : (limits : Limits) (closed : List WorkRow) (begun : WorkRow) (t : Tree) → IsClear limits spot.Delta t
    → keep_value works_keep spot.Delta t (at_rest closed begun)
    ≡ at_rest closed (record begun { durations = begun.durations ++ map whole_at (elements t) })
durations_kept limits closed begun t c =
    list_kept limits works_keep spot.Delta (λ ns. at_rest closed (record begun { durations = ns }))
    (λ t ns. ns ++ whole_at t ∷ [])
    (λ m t ns c. whole_kept works_keep spot.Duration
    (λ n w. record w { begun = record w.begun { durations = w.begun.durations ++ n ∷ [] } }) refl (λ e w. refl)
    limits t (at_rest closed (record begun { durations = ns })) c)
    (λ ns. at_rest closed (record begun { durations = ns })) (λ n. refl) (λ at ns. refl)
    (λ at ns. refl) t begun.durations c
    ∙ ap (λ ns. at_rest closed (record begun { durations = ns })) (each_added whole_at (elements t) begun.durations)

tmax_kept : (limits : Limits) (closed : List WorkRow) (begun : WorkRow) (t : Tree) → IsClear limits spot.Tmax t
    → keep_value works_keep spot.Tmax t (at_rest closed begun) ≡ at_rest closed (record begun { tmax = whole_at t })
tmax_kept limits closed begun t c = whole_kept works_keep spot.Tmax
    (λ n w. record w { begun = record w.begun { tmax = n } }) refl (λ e w. refl) limits t (at_rest closed begun) c

-- what a key of an intervention makes of its row
abbrev work_with : Bool → Bool → Bool → Bool → Tree → WorkRow → WorkRow
work_with a b c d t w = record {
  tmax = cond a (whole_at t) w.tmax;
  durations = cond b (w.durations ++ map whole_at (elements t)) w.durations;
  workloads = cond c (w.workloads ++ map workload_row (entries t)) w.workloads;
  risks = cond d (w.risks ++ risk_rows (entries t)) w.risks;
}

abbrev work_made : List ℕ → Tree → WorkRow → WorkRow
work_made k t w = work_with (bytes_eq (text_of is.Tmax) k) (bytes_eq (text_of is.Delta) k)
    (bytes_eq (text_of is.Workload) k) (bytes_eq (text_of is.Risk) k) t w

made_none : (a b c d : Bool) (t : Tree) (w : WorkRow) → a ≡ false → b ≡ false → c ≡ false → d ≡ false
    → w ≡ work_with a b c d t w
made_none a b c d t w h i j k = sym (ap (λ a. work_with a b c d t w) h ∙ ap (λ b. work_with false b c d t w) i
    ∙ ap (λ c. work_with false false c d t w) j ∙ ap (λ d. work_with false false false d t w) k)

work_key : (limits : Limits) (closed : List WorkRow) (k : List ℕ) (t : Tree) (w : WorkRow)
    → IsClear limits (under spot.Intervention k) t
    → keep_value works_keep (under spot.Intervention k) t (at_rest closed w) ≡ at_rest closed (work_made k t w)
work_key limits closed k =
    by_key (λ k. (t : Tree) (w : WorkRow) → IsClear limits (under spot.Intervention k) t
    → keep_value works_keep (under spot.Intervention k) t (at_rest closed w) ≡ at_rest closed (work_made k t w))
    (required spot.Intervention) k (
      λ t w c. tmax_kept limits closed w t c,
      (
        λ t w c. durations_kept limits closed w t c,
        (λ t w c. workloads_kept limits closed w t c, (λ t w c. risks_kept limits closed w t c, tt)),
      ),
    )
    (λ n t w c.
    ap (λ q. keep_value works_keep q t (at_rest closed w)) (among_none (required spot.Intervention) k n)
    ∙ value_idle works_keep (is_beside 3) (beside_under 3 refl) (beside_element 3 refl) works_idle spot.Skipped t
    (at_rest closed w) refl
    ∙ ap (at_rest closed) (made_none _ _ _ _ t w n.0 n.1.0 n.1.1.0 n.1.1.1.0))

-- the row behind some entries, by what stands under each key
abbrev through_tmax : List Entry → ℕ → ℕ
through_tmax es n = through (text_of is.Tmax) (λ t n. whole_at t) es n

abbrev through_durations : List Entry → List ℕ → List ℕ
through_durations es ns = through (text_of is.Delta) (λ t ns. ns ++ map whole_at (elements t)) es ns

abbrev through_workloads : List Entry → List WorkloadRow → List WorkloadRow
through_workloads es ws = through (text_of is.Workload) (λ t ws. ws ++ map workload_row (entries t)) es ws

abbrev through_risks : List Entry → List RiskRow → List RiskRow
through_risks es rs = through (text_of is.Risk) (λ t rs. rs ++ risk_rows (entries t)) es rs

work_through : (es : List Entry) (w : WorkRow)
    → each_entry work_made es w ≡ record {
      tmax = through_tmax es w.tmax;
      durations = through_durations es w.durations;
      workloads = through_workloads es w.workloads;
      risks = through_risks es w.risks;
    }
work_through [] w = refl
work_through (e ∷ es) w = work_through es (work_made e.key e.value w)

known_whole : (o : Option Tree) → with_value (λ t n. whole_at t) o 0 ≡ whole_at (unwrap_or o (tree 0 0 Node.null))
unfolding whole
known_whole None = refl
known_whole (Some t) = refl

known_rows : {A : Type 0} (f : Tree → List A) (o : Option Tree) → f (tree 0 0 Node.null) ≡ []
    → with_value (λ t rows. rows ++ f t) o [] ≡ f (unwrap_or o (tree 0 0 Node.null))
known_rows f None h = sym h
known_rows f (Some t) h = refl

row_of : (a b : ℕ) (c d : List ℕ) (e f : List WorkloadRow) (g h : List RiskRow) → a ≡ b → c ≡ d → e ≡ f → g ≡ h
    → (let r : WorkRow = record { tmax = a; durations = c; workloads = e; risks = g } in r) ≡ record {
      tmax = b;
      durations = d;
      workloads = f;
      risks = h;
    }
row_of a b c d e f g h i j k l = cc

row_made : (limits : Limits) (t : Tree) → IsClear limits spot.Intervention t
    → each_entry work_made (entries t) no_work ≡ work_row t
row_made limits t c =
    work_through (entries t) no_work
    ∙ row_of _ _ _ _ _ _ _ _
    (entries_once limits spot.Intervention (λ k. refl) (text_of is.Tmax) (λ t n. whole_at t) t 0 c
    ∙ known_whole (at_key (text_of is.Tmax) t))
    (entries_once limits spot.Intervention (λ k. refl) (text_of is.Delta) (λ t ns. ns ++ map whole_at (elements t)) t []
    c ∙ known_rows (λ t. map whole_at (elements t)) (at_key (text_of is.Delta) t) refl)
    (entries_once limits spot.Intervention (λ k. refl) (text_of is.Workload) (λ t ws. ws
    ++ map workload_row (entries t)) t [] c
    ∙ known_rows (λ t. map workload_row (entries t)) (at_key (text_of is.Workload) t) refl)
    (entries_once limits spot.Intervention (λ k. refl) (text_of is.Risk) (λ t rs. rs ++ risk_rows (entries t)) t [] c
    ∙ known_rows (λ t. risk_rows (entries t)) (at_key (text_of is.Risk) t) refl)

intervention_kept : (limits : Limits) (t : Tree) (closed : List WorkRow) → IsClear limits spot.Intervention t
    → keep_value works_keep spot.Intervention t (at_rest closed no_work) ≡ at_rest (closed ++ work_row t ∷ []) no_work
intervention_kept limits t closed c =
    object_kept limits works_keep spot.Intervention (at_rest closed) work_made
    (λ at end k t w i c. work_key limits closed k t w c)
    (λ w. at_rest (closed ++ w ∷ []) no_work) (λ n. refl) (λ at w. refl) (λ at w. refl) t no_work c
    ∙ ap (λ w. at_rest (closed ++ w ∷ []) no_work) (row_made limits t c)

-- ---- of a text

pub works_kept : (limits : Limits) (root : Tree) → IsClear limits spot.Root root
    → (keep_value works_keep spot.Root root no_works).closed ≡ each_value work_row (known is.Interventions root)
works_kept limits root h =
    let part : HasPart limits is.Interventions spot.Interventions root =
    root_part limits root 2 is.Interventions spot.Interventions h (omega arith) refl refl in
    ap (λ w. w.closed) (
    root_kept works_keep 3 is.Interventions spot.Interventions refl refl refl works_idle (λ e w. refl) limits root
    part.value no_works h part.found
    ∙ object_kept limits works_keep spot.Interventions (λ closed. at_rest closed no_work)
    (λ k t rows. rows ++ work_row t ∷ []) (λ at end k t rows i c. intervention_kept limits t rows c)
    (λ closed. at_rest closed no_work) (λ n. refl) (λ at closed. refl) (λ at closed. refl)
    (known is.Interventions root) [] part.clear
    )
    ∙ each_entry_added (λ e. work_row e.value) (entries (known is.Interventions root)) []
