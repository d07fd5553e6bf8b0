use Rattle.std.proofs.Common.{◌∙◌, ◌++◌, ◌∷◌, [], sym, ap, arith, List, map}
use Rattle.std.specs.List.{range_with_len}
use Rattle.std.proofs.lemmas.List.FromFn.{map-range_with_len_more}
use Rattle.plan_table.specs.declared.report.LoadLine.{LoadLine}
use Rattle.plan_table.specs.Reports.{load_line_of}
use Rattle.plan_table.proofs.loads.load_lines.Goals as goal

pub loop-c-preserved : goal.loop-c-preserved
loop-c-preserved c =
    let f = load_line_of c.args.inst.now c.args.plan.now c.args.t in
    c.in_ok-push.ensures.items
    ∙ ap (λ (xs : List LoadLine). xs ++ c.load_line.result ∷ []) c.loop-c.invariant
    ∙ ap (λ (x : LoadLine). map f (range_with_len 0 c.loop-c.c) ++ x ∷ []) c.load_line.ensures
    ∙ sym (map-range_with_len_more f 0 c.loop-c.c c.loop-c.c (omega arith))
