use Rattle.std.proofs.Common.{◌∙◌, sym, subst, arith}
use Rattle.lagrange_bound.specs.Boxes.{IsBox}
use Rattle.branch_search.proofs.RefutingLemmas.{part_within, before_part}
use Rattle.branch_search.proofs.splitting.settling.settle_part.Goals as goal

pub set_span-requires-clause-end : goal.set_span-requires-clause-end
set_span-requires-clause-end g c = omega (arith, c.requires.part.within.to, c.requires.part.end)

pub refuting_part-refuting-requires-clause-part : goal.refuting_part-refuting-requires-clause-part
refuting_part-refuting-requires-clause-part g c = part_within c.args.inst.now c.args.current.now.boxes.spans
    c.set_span.new.self.spans c.args.i c.args.whole c.args.span c.set_span.ensures.spans c.requires.number
    c.requires.part

pub refuting_part-refuting-requires-clause-before : goal.refuting_part-refuting-requires-clause-before
refuting_part-refuting-requires-clause-before g c = before_part c.args.inst.now c.args.current.now.boxes.spans
    c.set_span.new.self.spans c.args.i c.args.whole c.args.span c.set_span.ensures.spans c.requires.part

pub settle-requires-clause-spans : goal.settle-requires-clause-spans
settle-requires-clause-spans g c =
    subst (IsBox c.args.inst.now) (sym (c.spans-spans.ensures ∙ c.set_span.ensures.spans)) c.requires.part.is_box
