-- The text of a drawn instance is read as this instance, and the instance has each load cell.
use Rattle.std.proofs.Common.{inl, inr, arith, ◌≡◌, ℕ, ◌+◌, ◌-◌, ◌/◌, ◌<◌, ◌≤◌, ◌∙◌, ap, sym, refl, subst, ℤ, pos, ◌+ℤ◌}
use Rattle.std.proofs.Common.{◌-ℤ◌}
use Rattle.std.proofs.Common.{false, List, [], ◌∷◌, ◌++◌, map, length, decimal, All, get_or, codes, IsTrue}
use Rattle.std.proofs.Common.{Option, Some, None}
use Rattle.std.specs.Prelude.{IsSome, option_map, find, slice_index, slice_index_or}
use Rattle.std.proofs.lemmas.Bool.{cases_lt, false≢true}
use Rattle.std.proofs.lemmas.List.{get_or_past}
use Rattle.std.proofs.lemmas.List.Elements.{All-append, All-replicate, All-weaker}
use Rattle.std.proofs.lemmas.Int.{ints}
use Rattle.std.proofs.lemmas.Str.{IsUtf8-from_ascii}
use Rattle.json_grammar.specs.laws.Spellable.{IsSpellableText}
use Rattle.instance_model.specs.Limits.{standard_limits}
use Rattle.instance_model.specs.declared.limits.Limits.{Limits}
use Rattle.instance_model.specs.declared.parts.LoadCell.{LoadCell}
use Rattle.instance_model.specs.Tables.{Tables, is_allowed, in_run, is_cell_of}
use Rattle.instance_model.specs.Fitting.{IsFitting}
use Rattle.instance_model.proofs.EntryLemmas.{IsRunning-from}
use Rattle.instance_shape.specs.Defined.{Defines}
use Rattle.instance_writer.specs.text.Conditions.{HasSpellableNames, IsUnrounded, IsWithin, SpellsCount, SpellsNumbers}
use Rattle.instance_writer.specs.text.Conditions.{widened}
use Rattle.instance_writer.specs.text.Styles.{Style}
use Rattle.instance_writer.specs.text.Written.{instance_text}
use Rattle.instance_writer.specs.Views.{HasEachCell}
use Rattle.instance_gen.specs.Drawing.{interventions_of, with_starts, Runs}
use Rattle.instance_gen.specs.Drawn.{drawn_tables, level_limits, numbered_names}
use Rattle.instance_gen.specs.Texts.{plain_numbers, drawn_text}
use Rattle.instance_gen.proofs.DrawnLemmas.{IsRow, row_of, row_cells, risks-small}
use Rattle.instance_gen.proofs.RunLemmas.{IsSmallWhole, IsPlaced, HasCell, starts-has}
use Rattle.instance_gen.proofs.FitLemmas.{fitting, limits-whole, names-count, starts-count, delta_is}
use Rattle.instance_gen.proofs.FitLemmas.{c_letter, s_letter, i_letter, e_letter}
use Rattle.instance_gen.proofs.NameLemmas.{IsLetter, IsPrinted, name_printed, name_at, length-names}
use Rattle.instance_gen.proofs.SpellLemmas.{count_spelled, half_spelled, quantile_spelled}

-- an instance that fits is within the limits
within : (inst : Tables) → IsFitting inst → IsWithin standard_limits inst
within inst fits = record {
  periods = fits.few_periods;
  scenarios = All-weaker (λ n. (1 ≤ n) × (n ≤ 1024)) (λ n. n ≤ 1024) (λ n h. h.1) inst.scenarios fits.scenarios_few;
  resources = fits.resources.few;
  seasons = fits.seasons.few;
  interventions = fits.names.few;
  exclusions = fits.exclusions.few;
  risk_cells = fits.risks_few;
  workload_entries = fits.loads_few;
}

unrounded : (seed n : ℕ) → IsUnrounded (drawn_tables seed n)
unfolding drawn_tables
unrounded seed n = record {
  soft = All-replicate (λ b. b ≡ false) (length (interventions_of seed n).risks / 8) false refl;
  rounded = refl;
}

counts_spelled : (zs : List ℤ) → All IsSmallWhole zs → All (SpellsCount plain_numbers) zs
counts_spelled zs h = All-weaker IsSmallWhole (SpellsCount plain_numbers) count_spelled zs h

spelled : (seed n : ℕ) → n ≤ 200 → SpellsNumbers plain_numbers (drawn_tables seed n)
unfolding drawn_tables
spelled seed n few = record {
  alpha = half_spelled;
  quantile = quantile_spelled;
  upper = counts_spelled (level_limits 53 (n / 2 + 9) ++ level_limits 53 (n / 4 + 5))
      (All-append IsSmallWhole (level_limits 53 (n / 2 + 9)) (level_limits 53 (n / 4 + 5))
      (limits-whole 53 (n / 2 + 9) (omega arith)) (limits-whole 53 (n / 4 + 5) (omega arith)));
  lower = counts_spelled (level_limits 53 0 ++ level_limits 53 0)
      (All-append IsSmallWhole (level_limits 53 0) (level_limits 53 0)
      (limits-whole 53 0 (omega arith)) (limits-whole 53 0 (omega arith)));
  risks = counts_spelled (interventions_of seed n).risks (risks-small seed n);
  loads = λ i l.
      let within : i < n = omega (arith, l, length-names (codes "I") n) in
      let ds = get_or (interventions_of seed n).delta i [] in
      let cells = get_or (interventions_of seed n).loads i [] in
      All-weaker (IsPlaced ds) (λ x. SpellsCount plain_numbers x.load) (λ x p. count_spelled x.load p.load) cells
      (row_cells ds cells (row_of seed n i within)).placed;
}

ascii_from : (bs : List ℕ) → All IsPrinted bs → (k : ℕ) → slice_index bs k < 128
ascii_from bs h k =
    elim (cases_lt k (length bs)) [
      | inl below ↦ let p = h k 0 below in omega (arith, p)
      | inr past ↦ rw (get_or_past bs k 0 past) (omega arith)
    ]

name_spelled : (letter : List ℕ) (n : ℕ) → IsLetter letter → n < 1000 → All IsSpellableText (numbered_names letter n)
name_spelled letter n h small = λ k d l.
    let within : k < n = omega (arith, l, length-names letter n) in
    let printed = name_printed letter (1 + k) h (omega arith) in
    let name = letter ++ decimal (1 + k) in
    let text : IsSpellableText name = record {
      utf8 = IsUtf8-from_ascii name (ascii_from name printed);
      printable = All-weaker IsPrinted (λ b. 32 ≤ b) (λ b p. omega (arith, p.0)) name printed;
    } in
    rw (name_at letter n k d within) text

names_spelled : (seed n : ℕ) → n ≤ 200 → HasSpellableNames (drawn_tables seed n)
unfolding drawn_tables
names_spelled seed n few = record {
  resources = name_spelled (codes "c") 2 c_letter (omega arith);
  seasons = name_spelled (codes "s") 2 s_letter (omega arith);
  interventions = name_spelled (codes "I") n i_letter (omega (arith, few));
  exclusions = name_spelled (codes "E") (n / 4) e_letter (omega (arith, few));
}

added_nothing : (zs : List ℤ) → map (λ z. z +ℤ pos 0) zs ≡ zs
added_nothing [] = refl
added_nothing (z ∷ zs) = let e : z +ℤ pos 0 ≡ z = omega (arith, ints) in rw e (ap (λ (xs : List ℤ). z ∷ xs)
    (added_nothing zs))

taken_nothing : (zs : List ℤ) → map (λ z. z -ℤ pos 0) zs ≡ zs
taken_nothing [] = refl
taken_nothing (z ∷ zs) = let e : z -ℤ pos 0 ≡ z = omega (arith, ints) in rw e (ap (λ (xs : List ℤ). z ∷ xs)
    (taken_nothing zs))

not_widened : (inst : Tables) → widened (pos 0) inst ≡ inst
not_widened inst =
    ap (λ (zs : List ℤ). record inst { upper = zs; lower = map (λ z. z -ℤ pos 0) inst.lower }) (added_nothing
    inst.upper)
    ∙ ap (λ (zs : List ℤ). record inst { lower = zs }) (taken_nothing inst.lower)

pub texts_read : ((style : Style) (limits : Limits) (slack : ℤ) (inst : Tables)
    → IsFitting inst
    → IsUnrounded inst
    → IsWithin limits inst
    → SpellsNumbers style inst
    → HasSpellableNames inst
    → Defines limits slack (instance_text style inst) (widened slack inst))
    → (seed n : ℕ) → n ≤ 200 → Defines standard_limits (pos 0) (drawn_text seed n) (drawn_tables seed n)
texts_read law seed n few =
    let inst = drawn_tables seed n in
    let fits = fitting seed n few in
    subst (Defines standard_limits (pos 0) (drawn_text seed n)) (not_widened inst)
    (law plain_numbers standard_limits (pos 0) inst fits (unrounded seed n) (within inst fits) (spelled seed n few)
    (names_spelled seed n few))

-- ---- each load cell is there

some_load : {X Y : Type 0} (f : X → Y) (x : Option X) → IsSome x → IsSome (option_map f x)
some_load f None h = absurd (false≢true h)
some_load f (Some x) h = refl

row_has : (ds : List ℕ) (cells : List LoadCell) (s t c : ℕ) → IsRow ds cells → 1 ≤ s → s ≤ 50 → s ≤ t
    → t < s + slice_index ds (s - 1) → c < 2 → HasCell s t c cells
row_has ds cells s t c row from to began ends h =
    let none : Runs = record { source = row.source; cells = []; risks = row.risks } in
    let has = starts-has ds 50 (s - 1) (t - s) c none (omega arith) (omega (arith, ends, began)) h in
    let start : s - 1 + 1 ≡ s = omega arith in
    let period : s + (t - s) ≡ t = omega (arith, began) in
    subst (HasCell s t c) (sym row.drawn)
    (subst (λ (u : ℕ). HasCell s u c (with_starts ds 50 none).cells) period
    (subst (λ (k : ℕ). HasCell k (k + (t - s)) c (with_starts ds 50 none).cells) start has))

load_there : (seed n i s c t : ℕ) → i < n → c < 2 → IsTrue (is_allowed (drawn_tables seed n) i s)
    → IsTrue (in_run (drawn_tables seed n) i s t)
    → HasCell s t c (get_or (interventions_of seed n).loads i [])
load_there seed n i s c t h k allowed running =
    let inst = drawn_tables seed n in
    let run = IsRunning-from inst i s t allowed running in
    let row = row_of seed n i h in
    let many = starts-count seed n i h in
    let long = delta_is seed n i s in
    row_has (get_or (interventions_of seed n).delta i []) (get_or (interventions_of seed n).loads i []) s t c row
    run.start (omega (arith, run.among, many)) run.from (omega (arith, run.to, long)) k

loads_are : (seed n i : ℕ) → slice_index_or (drawn_tables seed n).loads i [] ≡ get_or (interventions_of seed n).loads
    i []
unfolding drawn_tables
loads_are seed n i = refl

resources-count : (seed n : ℕ) → length (drawn_tables seed n).resource_names ≡ 2
unfolding drawn_tables
resources-count seed n = length-names (codes "c") 2

pub each_cell : (seed n : ℕ) → HasEachCell (drawn_tables seed n)
each_cell seed n = λ i s c t l m allowed running.
    let names = names-count seed n in
    let resources = resources-count seed n in
    some_load (λ (cell : LoadCell). cell.load) (find (is_cell_of s t c) (slice_index_or (drawn_tables seed n).loads i
    []))
    (subst (HasCell s t c) (sym (loads_are seed n i))
    (load_there seed n i s c t (omega (arith, l, names)) (omega (arith, m, resources)) allowed running))
