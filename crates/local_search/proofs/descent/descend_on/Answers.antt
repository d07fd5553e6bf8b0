use Rattle.std.proofs.Common.{ap, sym, subst, List, ℕ, eqb}
use Rattle.plan_moves.specs.declared.change.Change.{Change}
use Rattle.local_search.specs.Descents.{IsDescent}
use Rattle.local_search.proofs.DescentLemmas.{IsDescent-from}
use Rattle.local_search.proofs.descent.descend_on.Goals as goal

pub returns-clause-ok : goal.returns-clause-ok
returns-clause-ok g c =
    let k2 = c.descend_by.new.kept in
    let m2 = c.descend_by.new.progress in
    let m1 = c.in_ok-progress.progress in
    subst (λ (changes : List Change). IsDescent c.args.kept.now k2 c.args.turns changes (eqb c.left-spent.result 0))
    (sym c.into_moves.ensures)
    (IsDescent-from c.args.kept.now c.reserve.new.self k2 m1 m2 c.args.turns (eqb c.left-spent.result 0)
    c.in_ok-reserve.ensures.ok c.in_ok-progress.ensures
    c.descend_by.ensures.leads c.descend_by.ensures.none (ap (λ (n : ℕ). eqb n 0) c.left-spent.ensures))
