use Rattle.std.proofs.Common.{arith}
use Rattle.instance_model.proofs.EntryLemmas.{is_allowed_facts}
use Rattle.duration_calendar.proofs.calendar.first_allowed.Goals as goal

pub returns-clause-none : goal.returns-clause-none
returns-clause-none c = λ s a.
    let from = a.from in
    let to = a.to in
    let f = is_allowed_facts c.args.inst.now c.args.i s a.allowed in
    c.loop-s.invariant s (omega (arith, f, from, to, c.min-past.ensures, c.tmax.ensures.value)) a
