use Rattle.std.proofs.Common.{List, ℕ, inl, inr, sym, subst}
use Rattle.command_frame.specs.declared.refusal.Refusal.{Refusal}
use Rattle.command_frame.specs.Refusals.{SaysOrFails, SaysRefused}
use Rattle.command_frame.proofs.SayLemmas.{other_status}
use Rattle.command_frame.proofs.saying.refuse.Goals as goal

pub returns-in-Unread-clause-ends : goal.returns-in-Unread-clause-ends
returns-in-Unread-clause-ends g c =
    let old = g.D.Desk.shows c.args.desk.now in
    let new = g.D.Desk.shows c.say_numbered.new.desk in
    subst (λ (r : Refusal). SaysRefused r old new c.say_numbered.result) (sym c.in-Unread.is)
    (inl c.say_numbered.ensures.ends)

pub returns-in-Err-clause-ends : goal.returns-in-Err-clause-ends
returns-in-Err-clause-ends g c =
    let old = g.D.Desk.shows c.args.desk.now in
    let new = g.D.Desk.shows c.say-in-Err.new.desk in
    let says = subst (λ (t : List ℕ). SaysOrFails 11 t old new c.say-in-Err.result) c.as_bytes.ensures.value
    c.say-in-Err.ensures.ends in
    inr (other_status c.args.refusal.now c.in_default.not-Unread, says)
