use Rattle.std.proofs.Common.{◌∙◌, ap, sym, subst, refl, arith, List, length, ◌-◌, ◌+◌, ◌≡◌, Option, IfSome, IfNone}
use Rattle.std.specs.Prelude.{option_map}
use Rattle.lagrange_bound.specs.declared.span.Span.{Span}
use Rattle.lagrange_bound.specs.Boxes.{IsBox}
use Rattle.certificate_tree.specs.Holding.{IsSingle}
use Rattle.branch_search.specs.declared.tree.cell.Cell.{Cell}
use Rattle.branch_search.specs.Boxes.{IsUnrefuted}
use Rattle.branch_search.specs.Tasks.{task_of, free_task}
use Rattle.branch_search.specs.CurrentBoxes.{IsPartedBy}
use Rattle.branch_search.specs.declared.splitting.settling.Parts.{Parts}
use Rattle.branch_search.specs.Valued.{plan_in}
use Rattle.branch_search.proofs.CellLemmas.{length_split}
use Rattle.branch_search.proofs.WorthLemmas.{tables_grow}
use Rattle.branch_search.proofs.StateLemmas.{popped_known, popped_made, step_kept}
use Rattle.branch_search.proofs.splitting.step.split_least.Goals as goal

pub box_of-requires-clause-number : goal.box_of-requires-clause-number
box_of-requires-clause-number g c = rw c.as_slice.ensures.value (popped_known
    (task_of (g.G.Goal.value_gives c.args.goal.now) c.args.inst.now c.args.tables.now c.args.given.now
    (option_map (λ given. given.now) c.args.incumbent)) c.args.chosen
    c.args.growth.now c.pop.new.self c.in-Some.field-0-0 c.in-Some.number c.requires.growth c.in-Some.ensures.same)

pub set_spans-requires-clause-each : goal.set_spans-requires-clause-each
set_spans-requires-clause-each g c =
    let h = popped_made
    (task_of (g.G.Goal.value_gives c.args.goal.now) c.args.inst.now c.args.tables.now c.args.given.now
    (option_map (λ given. given.now) c.args.incumbent)) c.args.chosen
    c.args.growth.now c.requires.growth c.pop.new.self c.in-Some.field-0-0 c.in-Some.number c.as_slice.result.now
    c.in_ok-spans.spans.items c.in-Some.ensures.same c.as_slice.ensures.value c.in_ok-spans.ensures in
    ap (λ (b : List Span). length b) c.deref.ensures.value ∙ h.box.each

pub set_spans-requires-clause-ends : goal.set_spans-requires-clause-ends
set_spans-requires-clause-ends g c =
    let h = popped_made
    (task_of (g.G.Goal.value_gives c.args.goal.now) c.args.inst.now c.args.tables.now c.args.given.now
    (option_map (λ given. given.now) c.args.incumbent)) c.args.chosen
    c.args.growth.now c.requires.growth c.pop.new.self c.in-Some.field-0-0 c.in-Some.number c.as_slice.result.now
    c.in_ok-spans.spans.items c.in-Some.ensures.same c.as_slice.ensures.value c.in_ok-spans.ensures in
    (subst (IsBox c.args.inst.now) (sym c.deref.ensures.value) h.box).to

pub part-requires-clause-spans : goal.part-requires-clause-spans
part-requires-clause-spans g c =
    let h = popped_made
    (task_of (g.G.Goal.value_gives c.args.goal.now) c.args.inst.now c.args.tables.now c.args.given.now
    (option_map (λ given. given.now) c.args.incumbent)) c.args.chosen
    c.args.growth.now c.requires.growth c.pop.new.self c.in-Some.field-0-0 c.in-Some.number c.as_slice.result.now
    c.in_ok-spans.spans.items c.in-Some.ensures.same c.as_slice.ensures.value c.in_ok-spans.ensures in
    subst (IsBox c.args.inst.now) (sym (c.set_spans.ensures.spans ∙ c.deref.ensures.value)) h.box

pub part-requires-clause-unrefuted : goal.part-requires-clause-unrefuted
part-requires-clause-unrefuted g c =
    let h = popped_made
    (task_of (g.G.Goal.value_gives c.args.goal.now) c.args.inst.now c.args.tables.now c.args.given.now
    (option_map (λ given. given.now) c.args.incumbent)) c.args.chosen
    c.args.growth.now c.requires.growth c.pop.new.self c.in-Some.field-0-0 c.in-Some.number c.as_slice.result.now
    c.in_ok-spans.spans.items c.in-Some.ensures.same c.as_slice.ensures.value c.in_ok-spans.ensures in
    subst (IsUnrefuted c.args.inst.now) (sym (c.set_spans.ensures.spans ∙ c.deref.ensures.value)) h.unrefuted

pub returns-in_default-2-clause-state : goal.returns-in_default-2-clause-state
returns-in_default-2-clause-state g c =
    let h = popped_made
    (task_of (g.G.Goal.value_gives c.args.goal.now) c.args.inst.now c.args.tables.now c.args.given.now
    (option_map (λ given. given.now) c.args.incumbent)) c.args.chosen
    c.args.growth.now c.requires.growth c.pop.new.self c.in-Some.field-0-0 c.in-Some.number c.as_slice.result.now
    c.in_ok-spans.spans.items c.in-Some.ensures.same c.as_slice.ensures.value c.in_ok-spans.ensures in
    absurd (h.several (subst IsSingle (c.set_spans.ensures.spans ∙ c.deref.ensures.value)
    (subst (λ (o : Option Parts). IfNone o (IsSingle c.set_spans.new.self.spans)) c.in_default-2.is
    c.in_ok-parts.ensures.none)))

pub returns-in_default-2-clause-one : goal.returns-in_default-2-clause-one
returns-in_default-2-clause-one g c =
    let h = popped_made
    (task_of (g.G.Goal.value_gives c.args.goal.now) c.args.inst.now c.args.tables.now c.args.given.now
    (option_map (λ given. given.now) c.args.incumbent)) c.args.chosen
    c.args.growth.now c.requires.growth c.pop.new.self c.in-Some.field-0-0 c.in-Some.number c.as_slice.result.now
    c.in_ok-spans.spans.items c.in-Some.ensures.same c.as_slice.ensures.value c.in_ok-spans.ensures in
    absurd (h.several (subst IsSingle (c.set_spans.ensures.spans ∙ c.deref.ensures.value)
    (subst (λ (o : Option Parts). IfNone o (IsSingle c.set_spans.new.self.spans)) c.in_default-2.is
    c.in_ok-parts.ensures.none)))

pub split_cell-requires : goal.split_cell-requires
split_cell-requires g c =
    let h = popped_made
    (task_of (g.G.Goal.value_gives c.args.goal.now) c.args.inst.now c.args.tables.now c.args.given.now
    (option_map (λ given. given.now) c.args.incumbent)) c.args.chosen
    c.args.growth.now c.requires.growth c.pop.new.self c.in-Some.field-0-0 c.in-Some.number c.as_slice.result.now
    c.in_ok-spans.spans.items c.in-Some.ensures.same c.as_slice.ensures.value c.in_ok-spans.ensures in
    h.known

pub returns-clause-state : goal.returns-clause-state
returns-clause-state g c =
    let h = popped_made
    (task_of (g.G.Goal.value_gives c.args.goal.now) c.args.inst.now c.args.tables.now c.args.given.now
    (option_map (λ given. given.now) c.args.incumbent)) c.args.chosen
    c.args.growth.now c.requires.growth c.pop.new.self c.in-Some.field-0-0 c.in-Some.number c.as_slice.result.now
    c.in_ok-spans.spans.items c.in-Some.ensures.same c.as_slice.ensures.value c.in_ok-spans.ensures in
    let parts = c.in-Some-2.parts in
    let box = c.set_spans.new.self.spans in
    let free = free_task (g.G.Goal.value_gives c.args.goal.now) c.args.inst.now c.args.tables.now in
    let made : IsPartedBy free box (plan_in c.args.growth.now.best) (plan_in c.part.new.best) parts =
    subst (λ (o : Option Parts). IfSome o (IsPartedBy free box (plan_in c.args.growth.now.best)
    (plan_in c.part.new.best))) c.in-Some-2.is c.in_ok-parts.ensures.some in
    let here = c.set_spans.ensures.spans ∙ c.deref.ensures.value in
    let l = ap (λ (xs : List Cell). length xs) c.in_ok-split_cell.ensures ∙ length_split c.args.growth.now.cells.items
    c.in-Some.number parts.i parts.last parts.left.node parts.right.node h.known in
    let d : c.len-count.result ≡ length c.args.growth.now.cells.items + 2 =
    omega (arith, l, c.len-count.ensures, c.split_cell.new.cells.ok.0) in
    step_kept
    (task_of (g.G.Goal.value_gives c.args.goal.now) c.args.inst.now c.args.tables.now c.args.given.now
    (option_map (λ given. given.now) c.args.incumbent)) c.args.chosen
    c.args.growth.now _ c.in-Some.number parts.i parts.last (c.len-count.result - 2) (c.len-count.result - 1) parts.left
    parts.right c.in-Some.field-0-0 c.requires.left.0 c.pop.new.self c.await_leaf.new.waiting c.set_spans.new.self.spans
    c.requires.lawful (tables_grow c.args.inst.now c.args.tables.now c.requires.tables.some c.requires.tables.priced)
    c.requires.growth c.requires.left.1
    c.in-Some.ensures.same c.in-Some.ensures.least (here ∙ h.box_is) made.split
    made.leaves
    c.in_ok-split_cell.ensures (omega (arith, d)) (omega (arith, d)) c.in_ok-await_leaf.ensures
    c.in_ok-await_leaf-2.ensures refl refl c.in_ok-parts.ensures.valued c.in_ok-parts.ensures.current
