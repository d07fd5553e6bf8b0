use Rattle.std.proofs.Common.{◌≡◌, get_or, arith, false, sym, ◌∙◌}
use Rattle.instance_model.specs.Tables.{is_allowed}
use Rattle.plan_moves.specs.KeptPlans.{present}
use Rattle.local_search.proofs.ChangeLemmas.{equal_starts_lower_not, first_not_allowed, second_not_allowed}
use Rattle.local_search.proofs.LeadsLemmas.{present_each}
use Rattle.local_search.proofs.exchange.try_swap.Goals as goal
use Rattle.local_search.proofs.exchange.try_swap.Goals.{else-first-second-via-then-first-second+then-allowed+else-allowed-2}
use Rattle.local_search.proofs.exchange.try_swap.Goals.{else-first-second-via-then-first-second+else-allowed}
use Rattle.local_search.proofs.exchange.try_swap.Goals.{else-first-second-via-else-first-second}

pub returns-else-first-second-clause-none : goal.returns-else-first-second-clause-none
returns-else-first-second-clause-none g c = λ some same.
    let inst = c.args.kept.now.instance in
    let plan = present c.args.kept.now.plans in
    let i = c.args.i in
    let j = c.args.j in
    let each = present_each c.args.kept.now c.allowed.ensures in
    elim c.else-first-second.branch [
      | else-first-second-via-then-first-second+then-allowed+else-allowed-2 w ↦
          let no : is_allowed inst j (get_or plan i 0) ≡ false = cc in second_not_allowed inst plan i j no
      | else-first-second-via-then-first-second+else-allowed w ↦
          let no : is_allowed inst i (get_or plan j 0) ≡ false = cc in first_not_allowed inst plan i j no
      | else-first-second-via-else-first-second w ↦
          equal_starts_lower_not inst plan i j (omega (arith, each, c.requires.first))
          (omega (arith, each, c.requires.second))
          (sym c.start_of-first.ensures.value ∙ w.if-first-second.false ∙ c.start_of-second.ensures.value)
    ]
