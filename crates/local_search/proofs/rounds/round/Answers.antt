use Rattle.std.proofs.Common.{◌<◌, ap, subst, arith, ltb}
use Rattle.std.proofs.lemmas.Bool.{OnFalse_from, ltb-false}
use Rattle.plan_moves.specs.KeptPlans.{AreKeptPlans, present}
use Rattle.local_search.specs.Descents.{IsLocalOptimum}
use Rattle.local_search.specs.Progress.{Made}
use Rattle.local_search.proofs.LeadsLemmas.{LeadsTo-fewer}
use Rattle.local_search.proofs.SweepLemmas.{round_optimum}
use Rattle.local_search.proofs.rounds.round.Goals as goal
use Rattle.local_search.proofs.rounds.round.Goals.{then-left, else-left}

pub returns-clause-none : goal.returns-clause-none
returns-clause-none g c =
    let k0 = c.args.kept.now in
    let m0 = c.args.progress.now in
    let k1 = c.try_best_starts.new.kept in
    let m1 = c.try_best_starts.new.progress in
    let first = c.try_best_starts.ensures.leads in
    OnFalse_from (ltb c.left-2.result c.left-left.result)
    (0 < c.if-left.progress.left → IsLocalOptimum c.if-left.kept.instance (present c.if-left.kept.plans)) (λ e some.
    let least = ltb-false c.left-2.result c.left-left.result e in
    elim c.if-left.branch [
      | then-left w ↦
          let turns = ap (λ (m : Made). m.left) w.progress-is in
          rw w.kept-is (round_optimum k0 k1 w.try_all_swaps.new.kept m0 m1 w.try_all_swaps.new.progress first
          c.try_best_starts.ensures.none w.try_all_swaps.ensures.leads w.try_all_swaps.ensures.none
          (subst AreKeptPlans w.kept-is c.allowed.ensures)
          (omega (arith, turns, least, c.left-2.ensures, c.left-left.ensures)) (omega (arith, turns, some)))
      | else-left w ↦
          let turns = ap (λ (m : Made). m.left) w.progress-is in
          absurd (omega (
            arith,
            LeadsTo-fewer k0 k1 m0 m1 first,
            turns,
            least,
            w.if-left.false,
            c.left-2.ensures,
            c.left-left.ensures,
          ))
    ])
