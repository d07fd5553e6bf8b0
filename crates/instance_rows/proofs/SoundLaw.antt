-- The rows of a text without a fault of shape are sound.
use Rattle.std.proofs.Common.{◌≡◌, ℕ, ◌==◌, ◌&&◌, Bool, true, false, cond, not, List, [], ◌∷◌, ◌++◌, map, length, Some}
use Rattle.std.proofs.Common.{None, refl, sym, ◌∙◌, ap, subst, arith, bytes_eq}
use Rattle.std.specs.Prelude.{find}
use Rattle.std.specs.Option.{option_or}
use Rattle.std.proofs.lemmas.List.{length-map}
use Rattle.std.proofs.lemmas.List.Folds.{find-append}
use Rattle.std.proofs.lemmas.Slice.Eq.{bytes_eq-Decides}
use Rattle.json_grammar.specs.Tree.{Tree, tree, Node, Members, no_members, and_member}
use Rattle.instance_model.specs.declared.limits.Limits.{Limits}
use Rattle.instance_shape.specs.declared.fault.Flaw.TheVariants as flaw
use Rattle.instance_shape.specs.declared.fault.Known.TheVariants as is
use Rattle.instance_shape.specs.declared.spot.Spot.{Spot}
use Rattle.instance_shape.specs.declared.spot.Spot.TheVariants as spot
use Rattle.instance_shape.specs.declared.spot.Kind.TheVariants as kind
use Rattle.instance_shape.specs.Keys.{Key, by_text, has_key, key_of, is_double, is_name, is_digits, number_of}
use Rattle.instance_shape.specs.LookUp.{Entry, entries, entry_list, keys, known, periods, interventions}
use Rattle.instance_shape.specs.Shape.{kind_of}
use Rattle.instance_shape.specs.ShapeFaults.{where_so, key_faults, keys_faults, first_past, key_limit, takes_names}
use Rattle.instance_shape.specs.ShapeFaults.{takes_numbers, shape_faults}
use Rattle.instance_shape.specs.Ranges.{AreStandard}
use Rattle.instance_shape.proofs.NamesFit.{names_fit}
use Rattle.instance_shape.proofs.RootNumbers.{Between, periods_range}
use Rattle.instance_model.specs.Fitting.{AreNames}
use Rattle.instance_model.specs.Limits.{standard_limits}
use Rattle.instance_shape.specs.declared.fault.Which.TheVariants as which
use Rattle.instance_rows.specs.declared.rows.FileRows as declared
use Rattle.instance_rows.specs.FileRows.{LoadRow, band_row, load_row, load_rows, workload_row, work_row, rows_of}
use Rattle.instance_rows.specs.RowTables.{is_load_at}
use Rattle.instance_rows.specs.Sound.{AreLoadsApart, AreWorkloadsApart, AreWorksApart, AreSound}
use Rattle.instance_rows.specs.Views.{AreRowsOf, rows_view}
use Rattle.instance_rows.proofs.FaultLaw.{interventions_clear}
use Rattle.instance_shape.proofs.Clear.{IsClear, clear_left, clear_right, not_so, root_clear}
use Rattle.instance_shape.proofs.ClearParts.{known_clear}
use Rattle.instance_rows.proofs.NumberedKeys.{AreClear, HasNot, AreNumbered, entries_clear, entries_numbered}
use Rattle.instance_rows.proofs.NumberedKeys.{object_clear, has_key-append, or_left, or_right}

-- ---- names

-- no key is the name
abbrev HasNoName : List ℕ → List Entry → Type 0
HasNoName k [] = Unit {0}
HasNoName k (e ∷ es) = (bytes_eq k e.key ≡ false) × HasNoName k es

-- each name comes once
abbrev AreNamed : List Entry → Type 0
AreNamed [] = Unit {0}
AreNamed (e ∷ es) = HasNoName e.key es × AreNamed es

-- a name without a fault is new
new_name : (limits : Limits) (s : Spot) (earlier : List Key) (at : ℕ) (k : List ℕ) → kind_of s ≡ kind.Names
    → key_faults limits s earlier at k ≡ [] → has_key earlier (by_text k) ≡ false
new_name limits s earlier at k i h =
    let double = where_so (is_double earlier (key_of (kind_of s) k)) at flaw.Double in
    let name = where_so (takes_names (kind_of s) && not (is_name k)) at flaw.BadName in
    let shape = where_so (takes_numbers (kind_of s) && not (is_digits k)) at flaw.Shape in
    let three = clear_left ((double ++ name) ++ shape) (first_past (key_limit limits s) (length earlier) at) h in
    sym (ap (λ q. is_double earlier (key_of q k)) i)
    ∙ not_so (is_double earlier (key_of (kind_of s) k)) at flaw.Double
    (clear_left double name (clear_left (double ++ name) shape three))

same_bytes : (a b : List ℕ) → a ≡ b → bytes_eq a b ≡ true
same_bytes a b h = (bytes_eq-Decides a b).1 h

bytes_same : (a b : List ℕ) → bytes_eq a b ≡ true → a ≡ b
bytes_same a b h = (bytes_eq-Decides a b).0 h

has_no_name : (limits : Limits) (s : Spot) (earlier : List Key) (ms : Members) (n : List ℕ) → kind_of s ≡ kind.Names
    → keys_faults limits s earlier ms ≡ [] → has_key earlier (by_text n) ≡ true → HasNoName n (entry_list ms)
has_no_name limits s earlier no_members n i h e = tt
has_no_name limits s earlier (and_member at end k t ms) n i h e =
    let new = new_name limits s earlier at k i (clear_left (key_faults limits s earlier at k) _ h) in (
      other (bytes_eq n k) refl new,
      has_no_name limits s (earlier ++ key_of (kind_of s) k) ms n i (clear_right (key_faults limits s earlier at k) _ h)
          (has_key-append earlier (key_of (kind_of s) k) (by_text n) ∙ or_left (has_key earlier (by_text n)) _ e),
    )
  where
    other : (b : Bool) → bytes_eq n k ≡ b → has_key earlier (by_text k) ≡ false → b ≡ false
    other true j f = sym e ∙ ap (λ m. has_key earlier (by_text m)) (bytes_same n k j) ∙ f
    other false j f = refl

named : (limits : Limits) (s : Spot) (earlier : List Key) (ms : Members) → kind_of s ≡ kind.Names
    → keys_faults limits s earlier ms ≡ [] → AreNamed (entry_list ms)
named limits s earlier no_members i h = tt
named limits s earlier (and_member at end k t ms) i h =
    let rest = clear_right (key_faults limits s earlier at k) _ h in
    let mine : key_of (kind_of s) k ≡ by_text k ∷ [] = ap (λ q. key_of q k) i in
    let here : has_key (earlier ++ key_of (kind_of s) k) (by_text k) ≡ true =
    has_key-append earlier (key_of (kind_of s) k) (by_text k)
    ∙ or_right (has_key earlier (by_text k)) _
    (ap (λ q. has_key q (by_text k)) mine ∙ or_left (bytes_eq k k) false (same_bytes k k refl)) in (
      has_no_name limits s (earlier ++ key_of (kind_of s) k) ms k i rest here,
      named limits s (earlier ++ key_of (kind_of s) k) ms i rest,
    )

entries_named : (limits : Limits) (s : Spot) (t : Tree) → kind_of s ≡ kind.Names
    → IsClear limits s t → AreNamed (entries t)
entries_named limits s (tree at end (Node.object ms)) i h = named limits s [] ms i (object_clear limits s at end ms h)
entries_named limits s (tree at end _) i h = tt

-- ---- workloads

-- in one period
none_here : (n t s : ℕ) (es : List Entry) → HasNot s es → find (is_load_at t s) (map (load_row n) es) ≡ None
none_here n t s [] h = refl
none_here n t s (e ∷ es) h = by (n == t) ∙ none_here n t s es h.1
  where
    by : (b : Bool) → cond (b && (number_of e.key == s)) (Some (load_row n e)) (find (is_load_at t s)
        (map (load_row n) es)) ≡ find (is_load_at t s) (map (load_row n) es)
    by true = ap (λ q. cond q (Some (load_row n e)) (find (is_load_at t s) (map (load_row n) es))) h.0
    by false = refl

-- in other periods
none_there : (n t s : ℕ) (es : List Entry) → (n == t) ≡ false → find (is_load_at t s) (map (load_row n) es) ≡ None
none_there n t s [] h = refl
none_there n t s (e ∷ es) h = ap (λ q. cond (q && (number_of e.key == s)) (Some (load_row n e))
    (find (is_load_at t s) (map (load_row n) es))) h ∙ none_there n t s es h

none_later : (t s : ℕ) (es : List Entry) → HasNot t es → find (is_load_at t s) (load_rows es) ≡ None
none_later t s [] h = refl
none_later t s (e ∷ es) h =
    find-append (is_load_at t s) (map (load_row (number_of e.key)) (entries e.value)) (load_rows es)
    ∙ ap (λ o. option_or o (find (is_load_at t s) (load_rows es)))
    (none_there (number_of e.key) t s (entries e.value) h.0)
    ∙ none_later t s es h.1

-- the workloads of a period stand before those of the others
apart_append : (n : ℕ) (es : List Entry) (ls : List LoadRow) → AreNumbered es
    → ((s : ℕ) → find (is_load_at n s) ls ≡ None) → AreLoadsApart ls → AreLoadsApart (map (load_row n) es ++ ls)
apart_append n [] ls a b h = h
apart_append n (e ∷ es) ls a b h = (
  find-append (is_load_at n (number_of e.key)) (map (load_row n) es) ls
      ∙ ap (λ o. option_or o (find (is_load_at n (number_of e.key)) ls)) (none_here n n (number_of e.key) es a.1)
      ∙ b (number_of e.key),
  apart_append n es ls a.2 b h,
)

loads_apart : (limits : Limits) (es : List Entry) → AreNumbered es → AreClear limits spot.WorkloadResource es
    → AreLoadsApart (load_rows es)
loads_apart limits [] a c = tt
loads_apart limits (e ∷ es) a c =
    apart_append (number_of e.key) (entries e.value) (load_rows es)
    (entries_numbered limits spot.WorkloadPeriod e.value refl c.0) (λ s. none_later (number_of e.key) s es a.1)
    (loads_apart limits es a.2 c.1)

none_named : (k : List ℕ) (es : List Entry) → HasNoName k es
    → find (λ v. bytes_eq k v.resource) (map workload_row es) ≡ None
none_named k [] h = refl
none_named k (e ∷ es) h =
    ap (λ q. cond q (Some (workload_row e)) (find (λ v. bytes_eq k v.resource) (map workload_row es))) h.0
    ∙ none_named k es h.1

workloads_apart : (limits : Limits) (es : List Entry) → AreNamed es → AreClear limits spot.Workload es
    → AreWorkloadsApart (map workload_row es)
workloads_apart limits [] a c = tt
workloads_apart limits (e ∷ es) a c = (
  none_named e.key es a.0,
  loads_apart limits (entries e.value)
      (entries_numbered limits spot.WorkloadResource e.value refl c.0)
      (entries_clear limits spot.WorkloadResource e.value c.0),
  workloads_apart limits es a.1 c.1,
)

work_apart : (limits : Limits) (v : Tree) → IsClear limits spot.Intervention v
    → AreWorkloadsApart (work_row v).workloads
work_apart limits v h =
    known_clear limits spot.Intervention is.Workload v (λ w. AreWorkloadsApart (map workload_row (entries w))) h tt
    (λ w k. workloads_apart limits (entries w) (entries_named limits spot.Workload w refl k)
    (entries_clear limits spot.Workload w k))

works_apart : (limits : Limits) (es : List Entry) → AreClear limits spot.Interventions es
    → AreWorksApart (map (λ e. work_row e.value) es)
works_apart limits [] a = tt
works_apart limits (e ∷ es) a = (work_apart limits e.value a.0, works_apart limits es a.1)

-- ---- all of it

same_count : {A : Type 0} (f : Tree → A) (t : Tree) → length (map (λ e. f e.value) (entries t)) ≡ length (keys t)
same_count f t = length-map (entries t) (λ (e : Entry). f e.value) ∙ sym (length-map (entries t) (λ (e : Entry). e.key))

pub sound_root : (limits : Limits) (root : Tree) → AreStandard limits → shape_faults limits root ≡ []
    → AreSound (rows_of root)
sound_root limits root st h =
    let clear : IsClear limits spot.Root root = root_clear limits root h in
    let range : Between 1 limits.periods (periods root) = periods_range limits root clear in
    let resources : AreNames standard_limits.resources (keys (known is.Resources root)) =
    names_fit limits spot.Root is.Resources limits.resources standard_limits.resources root
    (record { names = refl; which = which.Resources; limited = refl }) st.resources clear in
    let seasons : AreNames standard_limits.seasons (keys (known is.Seasons root)) =
    names_fit limits spot.Root is.Seasons limits.seasons standard_limits.seasons root
    (record { names = refl; which = which.Seasons; limited = refl }) st.seasons clear in
    let names : AreNames standard_limits.interventions (keys (known is.Interventions root)) =
    names_fit limits spot.Root is.Interventions limits.interventions standard_limits.interventions root
    (record { names = refl; which = which.Interventions; limited = refl }) st.interventions clear in
    record {
      few_periods = omega (arith, range.high, st.periods);
      few_resources = resources.few;
      few_interventions = names.few;
      few_seasons = seasons.few;
      bands = same_count band_row (known is.Resources root);
      works = same_count work_row (known is.Interventions root);
      resources = resources.apart;
      workloads = works_apart limits (interventions root) (interventions_clear limits root h);
    }

pub sound_rows : (limits : Limits) (root : Tree) (rows : declared.FileRows) → AreRowsOf limits root rows
    → AreSound (rows_view rows)
sound_rows limits root rows a = subst AreSound (sym a.same) (sound_root limits root a.standard a.shaped)
