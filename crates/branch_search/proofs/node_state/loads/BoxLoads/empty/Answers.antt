use Rattle.std.proofs.Common.{◌≡◌, ◌∙◌, ◌*◌, ℕ, ap, refl, rules, length, replicate}
use Rattle.branch_search.proofs.NodeStateBoxLemmas.{IsOver-empty}
use Rattle.branch_search.proofs.node_state.loads.BoxLoads.empty.Goals as goal

pub returns-clause-over : goal.returns-clause-over
returns-clause-over c =
    let inst = c.args.inst.now in
    let places = length inst.resource_names * inst.periods in
    let made : c.in_ok-vec.field-0.items ≡ replicate (c.resources.result * c.periods.result) c.none.result =
    search rules in
    let count : c.resources.result * c.periods.result ≡ places = rw (c.resources.ensures.value, c.periods.ensures.value)
    refl in
    IsOver-empty inst c.in_ok-no_spans.field-0.items c.in_ok-vec.field-0.items c.in_ok-no_spans.ensures
    (made ∙ ap (λ (n : ℕ). replicate n c.none.result) count ∙ ap (replicate places) c.none.ensures)
