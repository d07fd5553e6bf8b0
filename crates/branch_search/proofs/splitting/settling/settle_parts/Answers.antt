use Rattle.std.proofs.Common.{◌≡◌, ◌∙◌, ap, subst, set, List, ◌+◌}
use Rattle.lagrange_bound.specs.declared.span.Span.{Span}
use Rattle.lagrange_bound.specs.Boxes.{span_of}
use Rattle.std.proofs.lemmas.List.{set-set}
use Rattle.certificate_tree.specs.Trees.{below, above}
use Rattle.branch_search.specs.Tasks.{free_task}
use Rattle.branch_search.specs.Valued.{plan_in}
use Rattle.branch_search.specs.Settled.{IsLeafOf, IsImprovedIn}
use Rattle.branch_search.proofs.LeafLemmas.{parts_settled}
use Rattle.branch_search.proofs.RefutingLemmas.{left_part, right_part}
use Rattle.branch_search.proofs.splitting.settling.settle_parts.Goals as goal

pub settle_part-requires-clause-part : goal.settle_part-requires-clause-part
settle_part-requires-clause-part g c = left_part c.args.inst.now c.args.current.now.boxes.spans c.spans.result.now
    c.args.i c.args.last c.spans.ensures c.requires.spans c.requires.splits c.requires.unrefuted

pub settle_part-requires-2-clause-part : goal.settle_part-requires-2-clause-part
settle_part-requires-2-clause-part g c = right_part c.args.inst.now c.args.current.now.boxes.spans c.spans.result.now
    c.args.i c.args.last c.spans.ensures c.requires.spans c.requires.splits c.requires.unrefuted
    c.settle_part.new.current.boxes.spans c.in_ok-left.ensures.spans

pub returns-clause-parts : goal.returns-clause-parts
returns-clause-parts g c =
    let box = c.args.current.now.boxes.spans in
    let i = c.args.i in
    let m = c.args.last in
    let value = g.G.Goal.value_gives c.args.goal.now in
    let inst = c.args.inst.now in
    let task = free_task value inst c.args.tables.now in
    let old = plan_in c.args.best.now in
    let mid = plan_in c.settle_part.new.best in
    let new = plan_in c.settle_part-2.new.best in
    let whole = ap (λ (b : List Span). span_of b i) c.spans.ensures in
    let l : set box i (record { from = (span_of c.spans.result.now i).from; to = m }) ≡ below box i m =
    ap (λ (span : Span). set box i (record { from = span.from; to = m })) whole in
    let r : set c.settle_part.new.current.boxes.spans i
    (record { from = m + 1; to = (span_of c.spans.result.now i).to }) ≡ above box i m =
    ap (λ (b : List Span). set b i (record { from = m + 1; to = (span_of c.spans.result.now i).to }))
    c.in_ok-left.ensures.spans
    ∙ set-set box i (record { from = (span_of c.spans.result.now i).from; to = m })
    (record { from = m + 1; to = (span_of c.spans.result.now i).to })
    ∙ ap (λ (span : Span). set box i (record { from = m + 1; to = span.to })) whole in
    parts_settled task box i m old mid new c.in_ok-left.left c.in_ok-right.right c.requires.splits
    (subst (λ (b : List Span). IsLeafOf task mid b c.in_ok-left.left) l c.in_ok-left.ensures.leaf)
    (subst (λ (b : List Span). IsImprovedIn value inst b old mid) l c.in_ok-left.ensures.improved)
    (subst (λ (b : List Span). IsLeafOf task new b c.in_ok-right.right) r c.in_ok-right.ensures.leaf)
    (subst (λ (b : List Span). IsImprovedIn value inst b mid new) r c.in_ok-right.ensures.improved)
