use Rattle.std.proofs.Common.{◌∙◌, sym, ap, map, Some}
use Rattle.certificate_check.proofs.LeafLemmas.{starts_allowed}
use Rattle.band_rebound.proofs.leaf.point_leaf.Goals as goal

pub value-requires : goal.value-requires
value-requires c =
    starts_allowed c.args.inst.now c.args.spans.now c.as_slice-3.result.now c.as_slice-2.result.now c.broken_rule.result
    c.is_some.result c.requires (c.as_slice-3.ensures.value ∙ c.in_ok-starts.ensures)
    (c.as_slice-2.ensures.value ∙ c.in_ok-plan.ensures
    ∙ ap (map Some) (c.as_slice.ensures.value ∙ sym c.as_slice-3.ensures.value)) c.broken_rule.ensures
    c.is_some.ensures c.if-is_some.false
