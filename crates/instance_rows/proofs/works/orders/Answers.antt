use Rattle.std.proofs.Common.{◌≡◌, ℕ, ◌<◌, ◌++◌, ◌∷◌, [], List, String, Vec, Global, None, length, map, take, get_or}
use Rattle.std.proofs.Common.{string_bytes, refl, sym, ◌∙◌, ap, subst, arith}
use Rattle.std.specs.Prelude.{slice_index_or}
use Rattle.std.proofs.lemmas.Result.{err_from_is_err_and}
use Rattle.std.proofs.lemmas.List.{length-map, map-append}
use Rattle.instance_model.specs.Rules.{first_of}
use Rattle.instance_rows.specs.declared.rows.Work.{Work}
use Rattle.instance_rows.specs.declared.rows.FileRows.{FileRows}
use Rattle.instance_rows.specs.Grid.{order_of}
use Rattle.instance_rows.specs.RowFaults.{no_work, work_fault, work_fault_at}
use Rattle.instance_rows.specs.Sound.{AreSound}
use Rattle.instance_rows.specs.Views.{rows_view, work_view}
use Rattle.instance_rows.proofs.Firsts.{first_more}
use Rattle.instance_rows.proofs.Telling.{told_first, mapped_at}
use Rattle.instance_rows.proofs.Turns.{mapped_more}
use Rattle.instance_rows.proofs.works.orders.Goals as goal

pub loop-i-init : goal.loop-i-init
unfolding first_of
loop-i-init c = record { none = refl; orders = ap (map (λ (o : Vec ℕ Global). o.items)) c.new-orders.ensures.items }

-- the fault of the intervention of this turn
this_turn : (rows : FileRows) (i : ℕ) (names : List (String Global)) (name : String Global) (text : List ℕ)
    (work : Work) → AreSound (rows_view rows) → i < length rows.works.items → names ≡ rows.interventions.texts.keys
    → name ≡ get_or names i name
    → text ≡ string_bytes name → work ≡ get_or rows.works.items i work
    → work_fault (rows_view rows) text (work_view work) ≡ work_fault_at (rows_view rows) i
this_turn rows i names name text work sound l same at is here =
    let n : i < length rows.interventions.texts.keys = omega (
      arith,
      sound.works,
      length-map rows.works.items work_view,
      length-map rows.interventions.texts.keys (string_bytes {Z = Global}),
    ) in
    ap (λ (t : List ℕ). work_fault (rows_view rows) t (work_view work))
    (is ∙ sym (mapped_at string_bytes rows.interventions.texts.keys names i name [] n same at))
    ∙ ap (work_fault (rows_view rows) (slice_index_or (rows_view rows).interventions i []))
    (sym (mapped_at work_view rows.works.items rows.works.items i work no_work l refl here))

pub returns-in_err-work_order-clause-told : goal.returns-in_err-work_order-clause-told
returns-in_err-work_order-clause-told c =
    let p = err_from_is_err_and c.from_residual.result c.from_residual.ensures.1 in
    let rows = c.args.rows.now in
    let l : c.loop-i.i < length rows.works.items = omega (arith, c.loop-i-test.true, c.len-i-end.ensures) in
    let m : c.loop-i.i < length (rows_view rows).works = omega (arith, l, length-map rows.works.items work_view) in
    rw (p.1, p.2) (told_first (length (rows_view rows).works) c.loop-i.i (work_fault_at (rows_view rows)) _ _ m
    c.loop-i.invariant.none
    (this_turn rows c.loop-i.i c.as_slice-names.result.now c.index-names-i.result c.as_str.result.now c.index.result.now
    c.requires.sound l c.as_slice-names.ensures.texts c.index-names-i.is c.as_str.ensures.value c.index.ensures)
    c.in_err-work_order.ensures.told)

pub loop-i-preserved : goal.loop-i-preserved
loop-i-preserved c =
    let rows = c.args.rows.now in let i = c.loop-i.i in
    let l : i < length rows.works.items = omega (arith, c.loop-i-test.true, c.len-i-end.ensures) in
    record {
      none = first_more i (work_fault_at (rows_view rows)) c.loop-i.invariant.none
          (sym (this_turn rows i c.as_slice-names.result.now c.index-names-i.result c.as_str.result.now
          c.index.result.now c.requires.sound l c.as_slice-names.ensures.texts c.index-names-i.is
          c.as_str.ensures.value c.index.ensures)
          ∙ c.in_ok-work_order.ensures.told);
      orders =
          ap (map (λ (o : Vec ℕ Global). o.items)) c.in_ok-push.ensures.items
          ∙ map-append (λ (o : Vec ℕ Global). o.items) c.loop-i.orders.items (c.in_ok-work_order.field-0 ∷ [])
          ∙ ap (λ (q : List (List ℕ)). q ++ c.in_ok-work_order.field-0.items ∷ []) c.loop-i.invariant.orders
          ∙ ap (λ (e : List ℕ). map (λ w. order_of rows.periods (work_view w)) (take i rows.works.items) ++ e ∷ [])
          c.in_ok-work_order.ensures.order
          ∙ sym (mapped_more (λ w. order_of rows.periods (work_view w)) rows.works.items i
          c.index.result.now l c.index.ensures);
    }

pub returns-clause-told : goal.returns-clause-told
returns-clause-told c =
    let rows = c.args.rows.now in
    let n : c.loop-i.i ≡ length (rows_view rows).works = omega
    (arith, c.loop-i-test.false, c.loop-i.auto.i-end, c.len-i-end.ensures, length-map rows.works.items work_view) in
    subst (λ n. first_of n (work_fault_at (rows_view rows)) ≡ None) n c.loop-i.invariant.none
