use Rattle.std.proofs.Common.{◌≡◌, ◌∙◌, List, ap, sym, subst, set, get_or, rules}
use Rattle.std.proofs.lemmas.List.{set-get_or}
use Rattle.lagrange_bound.specs.declared.span.Span.{Span}
use Rattle.branch_search.proofs.node_state.loads.BoxLoads.set_span.Goals as goal

pub returns-then-eq-clause-spans : goal.returns-then-eq-clause-spans
returns-then-eq-clause-spans c =
    let box = c.args.self.now.spans in
    let seen : c.self.inside.spans.items ≡ box = search rules in
    let same : c.index.result.now ≡ c.args.span = search rules in
    let there = ap (λ (spans : List Span). get_or spans c.args.i c.index.result.now) (sym seen) ∙ sym c.index.ensures in
    subst (λ (span : Span). box ≡ set box c.args.i span) (there ∙ same)
    (sym (set-get_or box c.args.i c.index.result.now))
