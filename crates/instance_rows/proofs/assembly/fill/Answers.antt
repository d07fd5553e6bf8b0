use Rattle.std.proofs.Common.{◌≡◌, ℕ, None, List, String, Vec, Global, map, refl, sym, ◌∙◌, ap, subst, string_bytes}
use Rattle.std.specs.Prelude.{All, flat_map, ◌+ℤ◌, ◌-ℤ◌}
use Rattle.instance_model.specs.Fields.{field_tables}
use Rattle.instance_model.specs.RiskLists.{RiskRow}
use Rattle.instance_model.specs.RunRisks.{runs_of, values_of, flags_of, AreAllRuns}
use Rattle.instance_model.specs.Tables.{Tables}
use Rattle.instance_model.specs.declared.run_risks.ReadRisks.{ReadRisks}
use Rattle.instance_model.specs.declared.run_risks.RunRisks.TheVariants.{AsRead}
use Rattle.instance_shape.specs.FileTables.{lists_below}
use Rattle.instance_rows.specs.FileRows.{BandRow, WorkRow, FileRows}
use Rattle.instance_rows.specs.Filled.{IsReady, lists_taken}
use Rattle.instance_rows.specs.RowFaults.{rows_fault, scenarios_fault, bands_fault, works_fault}
use Rattle.instance_rows.specs.RowFaults.{used_durations}
use Rattle.instance_rows.specs.Sound.{AreSound}
use Rattle.instance_rows.specs.RowTables.{each_run, risks_at, soft_at, in_season, exclusion_of, rows_tables}
use Rattle.instance_rows.specs.Views.{band_view, rows_view}
use Rattle.instance_rows.proofs.Firsts.{or_else_both}
use Rattle.instance_rows.proofs.ReadyLaw.{ready_all}
use Rattle.instance_rows.proofs.OrderLaw.{all_values, all_flags}
use Rattle.instance_rows.proofs.RunsLaw.{runs_law}
use Rattle.instance_rows.proofs.Same.{same_tables}
use Rattle.instance_rows.proofs.TableLaw.{map-map}
use Rattle.instance_rows.proofs.assembly.fill.Goals as goal
use Rattle.instance_rows.proofs.assembly.fill.Goals.{In_ok-filled}

-- what follows where there is no fault across the file
no_work_fault : (rows : FileRows) → rows_fault rows ≡ None → works_fault rows ≡ None
no_work_fault rows h =
    let one = or_else_both (scenarios_fault rows) _ h in
    let two = or_else_both (bands_fault rows) _ one.1 in
    (or_else_both (works_fault rows) _ two.1).0

ready_rows : (rows : FileRows) → AreSound rows → rows_fault rows ≡ None → All (λ w. IsReady rows.periods w) rows.works
ready_rows rows s h = ready_all rows s (no_work_fault rows h)

pub work_tables-requires-clause-ready : goal.work_tables-requires-clause-ready
work_tables-requires-clause-ready c = ready_rows (rows_view c.args.rows) c.requires.sound c.requires.none

-- what the parts have of the risks
risks_are : (periods : ℕ) (works : List WorkRow) (read : List ReadRisks) → map runs_of read
    ≡ map (lists_taken periods) works → flat_map values_of (map runs_of read)
    ≡ flat_map (λ w. each_run periods (used_durations w) (risks_at w.risks)) works
risks_are periods works read e = ap (flat_map values_of) e ∙ all_values periods works

flags_are : (periods : ℕ) (works : List WorkRow) (read : List ReadRisks) → All (λ w. IsReady periods w) works
    → map runs_of read ≡ map (lists_taken periods) works → flat_map flags_of (map runs_of read)
    ≡ flat_map (λ w. each_run periods (used_durations w) (soft_at w.risks)) works
flags_are periods works read h e = ap (flat_map flags_of) e ∙ all_flags periods works h

-- the tables of the parts
filled_are : (c : In_ok-filled) → field_tables c.args.rows.periods c.args.rows.alpha c.args.rows.quantile
    c.args.rows.scenarios.items c.args.rows.resources.texts.keys c.in_ok-upper.upper.items c.in_ok-lower.lower.items
    c.args.rows.seasons.texts.keys c.in_ok-in_season.in_season.items c.args.rows.interventions.texts.keys
    c.in_ok-filled.filled.delta.items c.args.rows.exclusions.texts.keys c.args.checked.excluded.items
    c.in_ok-filled.filled.loads.items (AsRead c.in_ok-filled.filled.risks) c.args.rows.rounded
    ≡ rows_tables c.args.slack (rows_view c.args.rows)
filled_are c =
    let rows = rows_view c.args.rows in
    let read = c.in_ok-filled.filled.risks.items in
    same_tables _ (rows_tables c.args.slack rows) refl refl refl refl refl
    (c.in_ok-upper.ensures ∙ ap (λ bs. flat_map (λ (b : BandRow). map (λ z. z +ℤ c.args.slack) b.most)
    (map band_view bs)) c.as_slice.ensures.value)
    (c.in_ok-lower.ensures ∙ ap (λ bs. flat_map (λ (b : BandRow). map (λ z. z -ℤ c.args.slack) b.least)
    (map band_view bs)) c.as_slice-2.ensures.value)
    refl
    (c.in_ok-in_season.ensures ∙ ap (λ ss. flat_map (λ ps. lists_below c.args.rows.periods (in_season ps))
    (map (λ (s : Vec ℕ Global). s.items) ss)) c.as_slice-3.ensures.value)
    refl c.in_ok-filled.ensures.delta refl
    (c.requires.excluded
    ∙ sym (map-map (exclusion_of rows) (λ (e : Vec (String Global) Global). map string_bytes e.items)
    c.args.rows.exclusion_words.items))
    c.in_ok-filled.ensures.loads (risks_are rows.periods rows.works read c.in_ok-filled.ensures.risks)
    (flags_are rows.periods rows.works read (ready_rows rows c.requires.sound c.requires.none)
    c.in_ok-filled.ensures.risks) refl

pub returns : goal.returns
returns c = record { tables = filled_are (goal.at.returns c).In_ok-filled }

pub invariant_of-result : goal.invariant_of-result
invariant_of-result c =
    let rows = rows_view c.args.rows in
    let read = c.in_ok-filled.filled.risks.items in
    let suits = subst (λ (ls : List (List RiskRow)). AreAllRuns (rows_tables c.args.slack rows) ls)
    (sym c.in_ok-filled.ensures.risks)
    (runs_law c.args.slack rows c.requires.sound (no_work_fault rows c.requires.none)) in
    record {
      suits = subst (λ (t : Tables). AreAllRuns t (map runs_of read))
          (sym (filled_are (goal.at.invariant_of-result c).In_ok-filled)) suits;
    }
