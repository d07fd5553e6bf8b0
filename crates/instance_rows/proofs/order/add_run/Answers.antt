use Rattle.std.proofs.Common.{◌+◌, ◌++◌, ◌∷◌, [], find, refl, sym, ◌∙◌, ap, append-nil, append_assoc}
use Rattle.std.proofs.lemmas.Result.{err_from_is_err_and}
use Rattle.instance_model.specs.Rules.{first_of}
use Rattle.instance_rows.specs.Grid.{one_or_none, place_of, run_order}
use Rattle.instance_rows.specs.RowFaults.{is_list_at, list_fault}
use Rattle.instance_rows.proofs.Firsts.{first_more}
use Rattle.instance_rows.proofs.Telling.{told_first}
use Rattle.instance_rows.proofs.Turns.{lists_more}
use Rattle.instance_rows.proofs.order.add_run.Goals as goal

pub loop-j-init : goal.loop-j-init
unfolding first_of
loop-j-init c = record { none = refl; order = sym (append-nil c.args.order.now.items) }

pub returns-in_err-ask-clause-told : goal.returns-in_err-ask-clause-told
returns-in_err-ask-clause-told c =
    let p = err_from_is_err_and c.from_residual.result c.from_residual.ensures.1 in
    let rs = c.args.asked.now.lists.now in let s = c.args.start in
    rw (p.1, p.2)
    (told_first c.args.duration c.loop-j.j (λ j. list_fault c.args.asked.now.counts.now c.args.asked.now.name.now
    (s + j) s (find (is_list_at (s + j) s) rs)) _ _
    c.loop-j-test.true c.loop-j.invariant.none refl c.in_err-ask.ensures.told)

pub loop-j-preserved : goal.loop-j-preserved
loop-j-preserved c =
    let rs = c.args.asked.now.lists.now in let s = c.args.start in let j = c.loop-j.j in
    record {
      none = first_more j (λ j. list_fault c.args.asked.now.counts.now c.args.asked.now.name.now (s + j) s
          (find (is_list_at (s + j) s) rs)) c.loop-j.invariant.none c.in_ok-ask.ensures.told;
      order =
          c.in_ok-push.ensures.items
          ∙ ap (λ q. q ++ c.in_ok-ask.field-0 ∷ []) c.loop-j.invariant.order
          ∙ append_assoc c.args.order.now.items (run_order rs s j) (c.in_ok-ask.field-0 ∷ [])
          ∙ ap (λ q. c.args.order.now.items ++ (run_order rs s j ++ q)) (ap one_or_none (sym c.in_ok-ask.ensures.place))
          ∙ ap (λ q. c.args.order.now.items ++ q) (sym (lists_more j (λ j. one_or_none (place_of rs s (s + j)))));
    }
