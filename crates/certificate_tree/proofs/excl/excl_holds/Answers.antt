use Rattle.certificate_tree.proofs.MeetingLemmas.{excl_is}
use Rattle.certificate_tree.proofs.excl.excl_holds.Goals as goal

pub returns : goal.returns
returns c = excl_is c.args.inst.now c.args.spans.now c.args.e c.exclusion-exclusion.result c.span_at-first.result
    c.span_at-second.result c.each_meets_each.result c.exclusion-exclusion.ensures.value c.span_at-first.ensures.value
    c.span_at-second.ensures.value c.each_meets_each.ensures
