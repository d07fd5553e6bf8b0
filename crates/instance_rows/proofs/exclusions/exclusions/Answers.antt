use Rattle.std.proofs.Common.{◌≡◌, ℕ, ◌<◌, ◌++◌, ◌∷◌, [], List, String, Vec, Global, None, length, map, take, get_or}
use Rattle.std.proofs.Common.{string_bytes, refl, sym, ◌∙◌, ap, subst, arith}
use Rattle.std.proofs.lemmas.Result.{err_from_is_err_and}
use Rattle.std.proofs.lemmas.List.{length-map}
use Rattle.instance_model.specs.declared.parts.Exclusion.{Exclusion}
use Rattle.instance_model.specs.Rules.{first_of}
use Rattle.instance_rows.specs.declared.rows.FileRows.{FileRows}
use Rattle.instance_rows.specs.RowFaults.{exclusion_fault, exclusion_fault_at}
use Rattle.instance_rows.specs.RowTables.{exclusion_of}
use Rattle.instance_rows.specs.Views.{rows_view}
use Rattle.instance_rows.proofs.Firsts.{first_more}
use Rattle.instance_rows.proofs.Telling.{told_first, mapped_at}
use Rattle.instance_rows.proofs.Turns.{mapped_more}
use Rattle.instance_rows.proofs.exclusions.exclusions.Goals as goal

pub loop-i-init : goal.loop-i-init
unfolding first_of
loop-i-init c = record { none = refl; values = c.new-excluded.ensures.items }

-- the fault of the exclusion of this turn
this_turn : (rows : FileRows) (i : ℕ) (v : Vec (String Global) Global) (words : List (String Global))
    → i < length rows.exclusion_words.items → v ≡ get_or rows.exclusion_words.items i v → words ≡ v.items
    → exclusion_fault (rows_view rows) (map string_bytes words) ≡ exclusion_fault_at (rows_view rows) i
this_turn rows i v words l at is =
    ap (λ ws. exclusion_fault (rows_view rows) (map string_bytes ws)) is
    ∙ ap (exclusion_fault (rows_view rows))
    (sym (mapped_at (λ (v : Vec (String Global) Global). map string_bytes v.items) rows.exclusion_words.items
    rows.exclusion_words.items i v [] l refl at))

pub returns-in_err-exclusion-clause-told : goal.returns-in_err-exclusion-clause-told
returns-in_err-exclusion-clause-told c =
    let p = err_from_is_err_and c.from_residual.result c.from_residual.ensures.1 in
    let rows = c.args.rows.now in
    let l : c.loop-i.i < length rows.exclusion_words.items = omega (arith, c.loop-i-test.true, c.len-i-end.ensures) in
    let m : c.loop-i.i < length (rows_view rows).exclusion_words = omega (
      arith,
      l,
      length-map rows.exclusion_words.items (λ (v : Vec (String Global) Global). map string_bytes v.items),
    ) in
    rw (p.1, p.2) (told_first (length (rows_view rows).exclusion_words) c.loop-i.i (exclusion_fault_at (rows_view rows))
    _ _ m c.loop-i.invariant.none
    (this_turn rows c.loop-i.i c.index.result.now c.deref.result.now l c.index.ensures c.deref.ensures.value)
    c.in_err-exclusion.ensures.told)

pub loop-i-preserved : goal.loop-i-preserved
loop-i-preserved c =
    let rows = c.args.rows.now in let i = c.loop-i.i in
    let l : i < length rows.exclusion_words.items = omega (arith, c.loop-i-test.true, c.len-i-end.ensures) in
    record {
      none = first_more i (exclusion_fault_at (rows_view rows)) c.loop-i.invariant.none
          (sym (this_turn rows i c.index.result.now c.deref.result.now l c.index.ensures c.deref.ensures.value)
          ∙ c.in_ok-exclusion.ensures.told);
      values =
          c.in_ok-push.ensures.items
          ∙ ap (λ q. q ++ c.in_ok-exclusion.field-0 ∷ []) c.loop-i.invariant.values
          ∙ ap (λ (e : Exclusion). map (λ e. exclusion_of (rows_view rows) (map string_bytes e.items))
          (take i rows.exclusion_words.items) ++ e ∷ [])
          (c.in_ok-exclusion.ensures.value
          ∙ ap (λ ws. exclusion_of (rows_view rows) (map string_bytes ws)) c.deref.ensures.value)
          ∙ sym (mapped_more (λ (e : Vec (String Global) Global). exclusion_of (rows_view rows)
          (map string_bytes e.items)) rows.exclusion_words.items i c.index.result.now l c.index.ensures);
    }

pub returns-clause-told : goal.returns-clause-told
returns-clause-told c =
    let rows = c.args.rows.now in
    let n : c.loop-i.i ≡ length (rows_view rows).exclusion_words = omega (
      arith,
      c.loop-i-test.false,
      c.loop-i.auto.i-end,
      c.len-i-end.ensures,
      length-map rows.exclusion_words.items (λ (v : Vec (String Global) Global). map string_bytes v.items),
    ) in
    subst (λ n. first_of n (exclusion_fault_at (rows_view rows)) ≡ None) n c.loop-i.invariant.none
