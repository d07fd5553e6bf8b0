-- What a run of the words promises, command by command.
use Rattle.std.proofs.Common.{List, ℕ, map, string_bytes, subst}
use Rattle.command_frame.specs.Refusals.{SaysOrFails}
use Rattle.plan_refine.proofs.OutcomeLemmas.{outcome_refused}
use Rattle.plan_refine.proofs.run.run_refine.Goals as goal

pub returns-in-None : goal.returns-in-None
returns-in-None g c =
    let old = g.D.Desk.shows c.args.desk.now in
    let new = g.D.Desk.shows c.say.new.desk in
    outcome_refused (map string_bytes c.args.words.now) old new c.say.result c.in-None.ensures c.say.ensures.keeps
    (subst (λ (t : List ℕ). SaysOrFails 2 t old new c.say.result) c.as_bytes.ensures.value c.say.ensures.ends)
