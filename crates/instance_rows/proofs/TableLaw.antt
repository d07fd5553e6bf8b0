-- The tables of a file are those of its rows.
use Rattle.std.proofs.Common.{◌≡◌, ℕ, zero, suc, ◌+◌, ℤ, cond, List, [], ◌∷◌, ◌++◌, map, length, Option, Some, None}
use Rattle.std.proofs.Common.{refl, sym, ◌∙◌, ap, option_map, unwrap_or}
use Rattle.std.specs.Prelude.{flat_map, slice_index, slice_index_or, ◌+ℤ◌, ◌-ℤ◌}
use Rattle.std.proofs.Math.ListN.{get_or-map}
use Rattle.json_grammar.specs.Tree.{Tree, tree, Node}
use Rattle.instance_model.specs.declared.parts.Exclusion.{Exclusion}
use Rattle.instance_model.specs.declared.limits.Limits.{Limits}
use Rattle.instance_model.specs.Tables.{allowed_of}
use Rattle.instance_shape.specs.declared.fault.Known.TheVariants as is
use Rattle.instance_shape.specs.declared.spot.Spot.TheVariants as spot
use Rattle.instance_shape.specs.ShapeFaults.{shape_faults}
use Rattle.instance_shape.specs.LookUp.{Entry, elements, entries, keys, known, whole_at, text_at, count_at, periods}
use Rattle.instance_shape.specs.LookUp.{interventions, durations, number_in, at_number, workload}
use Rattle.instance_shape.specs.FileTables as file
use Rattle.instance_shape.specs.FileTables.{lists_below, all_below, number_among, tables, some_differs}
use Rattle.instance_rows.specs.FileRows.{BandRow, WorkRow, band_row, work_row, workload_row, risk_rows, rows_of}
use Rattle.instance_rows.specs.RowFaults.{used_durations}
use Rattle.instance_rows.specs.RowTables.{each_run, values_of, soft_of, risks_at, soft_at, cell_of, cells_at, in_season}
use Rattle.instance_rows.specs.RowTables.{exclusion_of, rows_tables}
use Rattle.instance_rows.proofs.FaultLaw.{interventions_clear}
use Rattle.instance_rows.proofs.Findings.{list_row, one_load, risk_found, load_found}
use Rattle.instance_shape.proofs.Clear.{IsClear}
use Rattle.instance_rows.proofs.NumberedKeys.{AreClear}
use Rattle.instance_rows.proofs.Same.{same_tables}

pub map-map : {A B C : Type 0} (g : B → C) (f : A → B) (xs : List A) → map g (map f xs) ≡ map (λ x. g (f x)) xs
map-map g f [] = refl
map-map g f (x ∷ xs) = ap (λ r. g (f x) ∷ r) (map-map g f xs)

pub lists_same : {A : Type 0} (n : ℕ) (f g : ℕ → List A) → ((k : ℕ) → f k ≡ g k) → lists_below n f ≡ lists_below n g
lists_same zero f g h = refl
lists_same (suc n) f g h = ap (λ r. r ++ f n) (lists_same n f g h) ∙ ap (λ r. lists_below n g ++ r) (h n)

-- the lists that values give are those that their rows give
all_rows : {A B : Type 0} (f : Tree → List A) (g : B → List A) (row : Tree → B) (es : List Entry)
    → ((v : Tree) → f v ≡ g (row v)) → all_below es f ≡ flat_map g (map (λ e. row e.value) es)
all_rows f g row [] h = refl
all_rows f g row (e ∷ es) h =
    ap (λ r. r ++ all_below es f) (h e.value) ∙ ap (λ r. g (row e.value) ++ r) (all_rows f g row es h)

-- ---- interventions

runs_same : {A : Type 0} (root v : Tree) (f : Tree → ℕ → ℕ → List A) (g : ℕ → ℕ → List A)
    → ((s t : ℕ) → f v s t ≡ g s t) → file.each_run root f v ≡ each_run (periods root) (durations v) g
runs_same root v f g h =
    lists_same (length (durations v)) _ _ (λ k. ap (λ xs. cond (allowed_of (periods root) (durations v) (k + 1)) xs [])
    (lists_same (slice_index (durations v) k) _ _ (λ j. h (k + 1) (k + 1 + j))))

values_same : (t s : ℕ) (o : Option Tree) → map count_at (unwrap_or (option_map elements o) [])
    ≡ values_of (option_map (list_row t s) o)
values_same t s None = refl
values_same t s (Some v) = refl

soft_same : (t s : ℕ) (o : Option Tree) → some_differs (unwrap_or (option_map elements o) [])
    ≡ soft_of (option_map (list_row t s) o)
soft_same t s None = refl
soft_same t s (Some v) = refl

cell_same : (s t c : ℕ) (o : Option Tree) → file.cell_of s t c o ≡ cell_of s t c (option_map (one_load t s) o)
cell_same s t c None = refl
cell_same s t c (Some v) = refl

risks_same : (limits : Limits) (v : Tree) (s t : ℕ) → IsClear limits spot.Intervention v
    → file.risks_at v s t ≡ risks_at (risk_rows (entries (known is.Risk v))) s t
risks_same limits v s t h =
    values_same t s (number_in s (at_number t (known is.Risk v))) ∙ ap values_of (sym (risk_found limits v t s h))

softs_same : (limits : Limits) (v : Tree) (s t : ℕ) → IsClear limits spot.Intervention v
    → file.soft_at v s t ≡ soft_at (risk_rows (entries (known is.Risk v))) s t
softs_same limits v s t h = ap (λ b. b ∷ [])
    (soft_same t s (number_in s (at_number t (known is.Risk v))) ∙ ap soft_of (sym (risk_found limits v t s h)))

cells_same : (limits : Limits) (root v : Tree) (s t : ℕ) → IsClear limits spot.Intervention v
    → file.cells_at root v s t
    ≡ cells_at (keys (known is.Resources root)) (map workload_row (entries (known is.Workload v))) s t
cells_same limits root v s t h =
    let names = keys (known is.Resources root) in
    lists_same (length names) _ _ (λ c. cell_same s t c (workload v (slice_index_or names c []) t s)
    ∙ ap (cell_of s t c) (sym (load_found limits v (slice_index_or names c []) t s h)))

-- what clear interventions give, joined
works_joined : {A : Type 0} (limits : Limits) (f : Tree → List A) (g : WorkRow → List A) (es : List Entry)
    → ((v : Tree) → IsClear limits spot.Intervention v → f v ≡ g (work_row v)) → AreClear limits spot.Interventions es
    → all_below es f ≡ flat_map g (map (λ e. work_row e.value) es)
works_joined limits f g [] h a = refl
works_joined limits f g (e ∷ es) h a = ap (λ r. r ++ all_below es f) (h e.value a.0)
    ∙ ap (λ r. g (work_row e.value) ++ r) (works_joined limits f g es h a.1)

works_listed : {A : Type 0} (limits : Limits) (f : Tree → List A) (g : WorkRow → List A) (es : List Entry)
    → ((v : Tree) → IsClear limits spot.Intervention v → f v ≡ g (work_row v)) → AreClear limits spot.Interventions es
    → map (λ e. f e.value) es ≡ map g (map (λ e. work_row e.value) es)
works_listed limits f g [] h a = refl
works_listed limits f g (e ∷ es) h a = ap (λ r. r ∷ map (λ e. f e.value) es) (h e.value a.0)
    ∙ ap (λ r. g (work_row e.value) ∷ r) (works_listed limits f g es h a.1)

-- ---- exclusions

exclusion_same : (root e : Tree) → file.exclusion root e ≡ exclusion_of (rows_of root) (map text_at (elements e))
exclusion_same root e =
    let one = word_same 0 in let two = word_same 1 in let three = word_same 2 in
    by (file.word e 0) (file.word e 1) (file.word e 2) _ _ _ one two three
  where
    word_same : (k : ℕ) → file.word e k ≡ slice_index_or (map text_at (elements e)) k []
    word_same k = sym (get_or-map text_at (elements e) k (tree 0 0 Node.null))

    by : (a b c x y z : List ℕ) → a ≡ x → b ≡ y → c ≡ z
        → (let r : Exclusion = record {
          first = number_among (keys (known is.Interventions root)) a;
          second = number_among (keys (known is.Interventions root)) b;
          season = number_among (keys (known is.Seasons root)) c;
        } in r)
        ≡ record {
          first = number_among (keys (known is.Interventions root)) x;
          second = number_among (keys (known is.Interventions root)) y;
          season = number_among (keys (known is.Seasons root)) z;
        }
    by a b c x y z h i j = cc

exclusions_same : (root : Tree) (es : List Entry) → map (λ e. file.exclusion root e.value) es
    ≡ map (exclusion_of (rows_of root)) (map (λ e. map text_at (elements e.value)) es)
exclusions_same root [] = refl
exclusions_same root (e ∷ es) = ap (λ r. r ∷ map (λ e. file.exclusion root e.value) es) (exclusion_same root e.value)
    ∙ ap (λ r. exclusion_of (rows_of root) (map text_at (elements e.value)) ∷ r) (exclusions_same root es)

-- ---- the file

pub table_law : (limits : Limits) (slack : ℤ) (root : Tree) → shape_faults limits root ≡ []
    → tables slack root ≡ rows_tables slack (rows_of root)
table_law limits slack root h =
    let a = interventions_clear limits root h in
    same_tables (tables slack root) (rows_tables slack (rows_of root)) refl refl refl refl refl
    (all_rows _ (λ (b : BandRow). map (λ z. z +ℤ slack) b.most) band_row (entries (known is.Resources root))
    (λ v. sym (map-map (λ z. z +ℤ slack) count_at (elements (known is.Max v)))))
    (all_rows _ (λ (b : BandRow). map (λ z. z -ℤ slack) b.least) band_row (entries (known is.Resources root))
    (λ v. sym (map-map (λ z. z -ℤ slack) count_at (elements (known is.Min v)))))
    refl
    (all_rows _ (λ ps. lists_below (periods root) (in_season ps)) (λ q. map whole_at (elements q))
    (entries (known is.Seasons root)) (λ v. refl))
    refl
    (sym (map-map used_durations (λ (e : Entry). work_row e.value) (interventions root)))
    refl
    (exclusions_same root (entries (known is.Exclusions root)))
    (works_listed limits (file.each_run root (file.cells_at root))
    (λ w. each_run (periods root) (used_durations w) (cells_at (keys (known is.Resources root)) w.workloads))
    (interventions root)
    (λ v k. runs_same root v (file.cells_at root) _ (λ s t. cells_same limits root v s t k)) a)
    (works_joined limits (file.each_run root file.risks_at)
    (λ w. each_run (periods root) (used_durations w) (risks_at w.risks)) (interventions root)
    (λ v k. runs_same root v file.risks_at _ (λ s t. risks_same limits v s t k)) a)
    (works_joined limits (file.each_run root file.soft_at)
    (λ w. each_run (periods root) (used_durations w) (soft_at w.risks)) (interventions root)
    (λ v k. runs_same root v file.soft_at _ (λ s t. softs_same limits v s t k)) a)
    refl
