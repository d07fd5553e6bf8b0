use Rattle.std.proofs.Common.{◌∙◌, ap}
use Rattle.certificate_tree.specs.Extremes.{extreme_load}
use Rattle.certificate_tree.proofs.LoadLemmas.{band_over, band_under}
use Rattle.certificate_tree.proofs.band.band_holds.Goals as goal

pub returns-in-Over : goal.returns-in-Over
returns-in-Over c = rw c.in-Over.is
    (band_over c.args.inst.now c.args.spans.now c.args.c c.args.t c.in-Some.load c.upper.result
    (c.in-Some.ensures.value ∙ ap (extreme_load c.args.inst.now c.args.spans.now c.args.c c.args.t) c.in-Over.is)
    c.upper.ensures.value c.in-Some.ensures.small c.upper.ensures.small c.in-Some.ensures.starts)

pub returns-in-Under : goal.returns-in-Under
returns-in-Under c = rw c.in-Under.is (band_under c.args.inst.now c.args.spans.now c.args.c c.args.t c.in-Some.load
    c.lower.result
    (c.in-Some.ensures.value ∙ ap (extreme_load c.args.inst.now c.args.spans.now c.args.c c.args.t) c.in-Under.is)
    c.lower.ensures.value c.in-Some.ensures.small c.lower.ensures.small c.in-Some.ensures.starts)
