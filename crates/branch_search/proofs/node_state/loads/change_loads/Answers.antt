use Rattle.lagrange_bound.specs.Boxes.{span_of}
use Rattle.branch_search.specs.node_state.KeptLoads.{KeptLoads}
use Rattle.branch_search.proofs.NodeStateBoxLemmas.{AreSpanExtents, ranges_small, IsOver-after}
use Rattle.branch_search.proofs.node_state.loads.change_loads.Goals as goal

pub replace_loads-requires-clause-small : goal.replace_loads-requires-clause-small
replace_loads-requires-clause-small c = λ z l.
    ranges_small c.args.inst.now (record { spans = c.args.spans.now; loads = c.args.loads.now }) z c.fits.ensures
    c.requires.over l

pub returns-clause-over : goal.returns-clause-over
returns-clause-over c =
    let inst = c.args.inst.now in
    let i = c.args.i in
    let spans = c.args.spans.now in
    let v : KeptLoads = record { spans = spans; loads = c.args.loads.now } in
    let before : AreSpanExtents inst i (span_of spans i) c.take_span-before_count.new.extents
    c.take_span-before_count.result = record {
      count = c.take_span-before_count.ensures.count;
      of_starts = c.take_span-before_count.ensures.extents;
    } in
    let after : AreSpanExtents inst i c.args.span c.take_span-after_count.new.extents c.take_span-after_count.result =
    record { count = c.take_span-after_count.ensures.count; of_starts = c.take_span-after_count.ensures.extents } in
    IsOver-after inst v i c.args.span c.take_span-before_count.new.extents c.take_span-before_count.result
    c.take_span-after_count.new.extents c.take_span-after_count.result c.replace_loads.new.loads c.requires.over
    c.requires.number c.requires.end before after c.replace_loads.ensures.each c.replace_loads.ensures.replaced
