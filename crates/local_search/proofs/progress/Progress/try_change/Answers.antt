use Rattle.std.proofs.Common.{◌∙◌, ◌++◌, ◌∷◌, [], ap, arith}
use Rattle.local_search.specs.Progress.{Made}
use Rattle.local_search.proofs.LeadsLemmas.{LeadsTo-judged}
use Rattle.local_search.proofs.progress.Progress.try_change.Goals as goal

pub returns-clause-leads : goal.returns-clause-leads
returns-clause-leads g c =
    let turns = ap (λ (m : Made). m.left) c.self.view_is in
    LeadsTo-judged c.args.kept.now c.lowers.new.self c.change.new.self c.args.self.now _ c.args.change
    c.lowers.ensures.same c.allowed.ensures c.requires.can
    (c.lowers.ensures.value.0 c.if-not-lowers.false) (omega (arith, turns, c.if-self-eq0.false))
    c.requires.room c.change.ensures.plans
    (c.in-Ok.ensures.items ∙ ap (λ (m : Made). m.changes ++ c.args.change ∷ []) c.self.view_is)
    (omega (arith, turns, c.if-self-eq0.false))
