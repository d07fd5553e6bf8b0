use Rattle.std.proofs.Common.{◌+◌, List, reverse, ◌∙◌, ap, refl, length, false, Some}
use Rattle.std.proofs.lemmas.List.Elements.{All-pop, All-push}
use Rattle.std.proofs.lemmas.List.{length-set}
use Rattle.certificate_tree.specs.declared.box_path.Change.{Change}
use Rattle.certificate_tree.specs.Walk.{waiting_after, IsChange}
use Rattle.certificate_tree.proofs.Waiting.{waiting_next}
use Rattle.certificate_tree.proofs.box_path.next_part.Goals as goal

pub returns-in-Ok-clause-next : goal.returns-in-Ok-clause-next
returns-in-Ok-clause-next c =
    let d : Change = record c.in-Some.change { waits = false } in
    rw c.in-Ok.ensures.items
    (c.loop-change.invariant.same
    ∙ ap (λ (cs : List Change). waiting_after c.loop-change.spans (reverse cs)) c.in-Some.ensures.items
    ∙ waiting_next c.loop-change.spans c.pop.new.self.items c.in-Some.change d c.if-change.true refl)

pub returns-in-Ok-clause-changes : goal.returns-in-Ok-clause-changes
returns-in-Ok-clause-changes c =
    let n = length c.loop-change.spans in
    let w = All-pop (IsChange (length c.loop-change.spans)) c.loop-change.changes.items c.pop.new.self.items
    (Some c.in-Some.change) c.in-Some.ensures.items c.loop-change.invariant.changes in
    rw (
      length-set c.loop-change.spans c.in-Some.change.i
          (record { from = c.in-Some.change.last + 1; to = c.in-Some.change.to }),
      c.in-Ok.ensures.items,
    )
    (All-push (IsChange n) c.pop.new.self.items (record c.in-Some.change { waits = false }) w.0
    (record { number = w.1.number; last = w.1.last }))
