use Rattle.std.proofs.Common.{◌≡◌, ℕ, ◌<◌, List, [], length, get_or, string_bytes, String, Global, None, refl, sym, ◌∙◌}
use Rattle.std.proofs.Common.{ap, subst, arith}
use Rattle.std.proofs.lemmas.Result.{err_from_is_err_and}
use Rattle.std.proofs.lemmas.List.{length-map}
use Rattle.std.specs.Prelude.{slice_index_or}
use Rattle.instance_model.specs.Rules.{first_of}
use Rattle.instance_rows.specs.declared.rows.Bands.{Bands}
use Rattle.instance_rows.specs.declared.rows.FileRows.{FileRows}
use Rattle.instance_rows.specs.RowFaults.{no_band, band_fault, band_fault_at}
use Rattle.instance_rows.specs.Sound.{AreSound}
use Rattle.instance_rows.specs.Views.{band_view, rows_view}
use Rattle.instance_rows.proofs.Firsts.{first_more}
use Rattle.instance_rows.proofs.Telling.{told_first, mapped_at}
use Rattle.instance_rows.proofs.checks.check_bands.Goals as goal

pub loop-i-init : goal.loop-i-init
unfolding first_of
loop-i-init c = refl

-- the fault of the resource of this turn
this_turn : (rows : FileRows) (i : ℕ) (names : List (String Global)) (name : String Global) (text : List ℕ)
    (bands : Bands) → AreSound (rows_view rows) → i < length rows.bands.items → names ≡ rows.resources.texts.keys
    → name ≡ get_or names i name
    → text ≡ string_bytes name → bands ≡ get_or rows.bands.items i bands
    → band_fault rows.periods text (band_view bands) ≡ band_fault_at (rows_view rows) i
this_turn rows i names name text bands sound l same at is here =
    let n : i < length rows.resources.texts.keys = omega (
      arith,
      sound.bands,
      length-map rows.bands.items band_view,
      length-map rows.resources.texts.keys (string_bytes {Z = Global}),
    ) in
    ap (λ (t : List ℕ). band_fault rows.periods t (band_view bands))
    (is ∙ sym (mapped_at string_bytes rows.resources.texts.keys names i name [] n same at))
    ∙ ap (band_fault rows.periods (slice_index_or (rows_view rows).resources i []))
    (sym (mapped_at band_view rows.bands.items rows.bands.items i bands no_band l refl here))

pub returns-in_err-check_band : goal.returns-in_err-check_band
returns-in_err-check_band c =
    let p = err_from_is_err_and c.from_residual.result c.from_residual.ensures.1 in
    let rows = c.args.rows.now in
    let l : c.loop-i.i < length rows.bands.items = omega (arith, c.loop-i-test.true, c.len-i-end.ensures) in
    let m : c.loop-i.i < length (rows_view rows).bands = omega (arith, l, length-map rows.bands.items band_view) in
    rw (p.1, p.2) (told_first (length (rows_view rows).bands) c.loop-i.i (band_fault_at (rows_view rows))
    _ _ m c.loop-i.invariant
    (this_turn rows c.loop-i.i c.as_slice-names.result.now c.index-names-i.result c.as_str.result.now c.index.result.now
    c.requires l c.as_slice-names.ensures.texts c.index-names-i.is c.as_str.ensures.value c.index.ensures)
    (c.in_err-check_band.ensures))

pub loop-i-preserved : goal.loop-i-preserved
loop-i-preserved c =
    let rows = c.args.rows.now in
    let l : c.loop-i.i < length rows.bands.items = omega (arith, c.loop-i-test.true, c.len-i-end.ensures) in
    first_more c.loop-i.i (band_fault_at (rows_view rows)) c.loop-i.invariant
    (sym (this_turn rows c.loop-i.i c.as_slice-names.result.now c.index-names-i.result c.as_str.result.now
    c.index.result.now c.requires l c.as_slice-names.ensures.texts c.index-names-i.is
    c.as_str.ensures.value c.index.ensures)
    ∙ c.in_ok-check_band.ensures)

pub returns : goal.returns
returns c =
    let rows = c.args.rows.now in
    let n : c.loop-i.i ≡ length (rows_view rows).bands = omega
    (arith, c.loop-i-test.false, c.loop-i.auto.i-end, c.len-i-end.ensures, length-map rows.bands.items band_view) in
    subst (λ n. first_of n (band_fault_at (rows_view rows)) ≡ None) n c.loop-i.invariant
