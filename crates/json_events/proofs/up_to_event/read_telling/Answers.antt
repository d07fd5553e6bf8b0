use Rattle.std.proofs.Common.{rules, ◌≡◌, ◌∙◌, ℕ, List, Option, Ok, Some, sym, ap, subst}
use Rattle.std.specs.Prelude.{IfSome, IsSome}
use Rattle.json_machine.specs.Machines.{state_of, event_of, IsSound}
use Rattle.json_machine.specs.NumberRuns.{TakesNumber}
use Rattle.json_events.specs.Readings.{HasTold}
use Rattle.json_machine.specs.declared.machine.Machine.{Machine}
use Rattle.json_machine.specs.declared.number_token.TakenToken.{TakenToken}
use Rattle.json_events.proofs.ReadingLemmas.{number_told, used_up}
use Rattle.json_events.proofs.up_to_event.read_telling.Goals as goal

-- what is known of a token that was taken
taken_is : (P : TakenToken → Type 0) (o : Option TakenToken) (n : TakenToken) → o ≡ Some n → IfSome o P → P n
taken_is P o n e h = subst (λ z. IfSome z P) e h

taken_sound : (P : Type 0) (o : Option TakenToken) (n : TakenToken) → o ≡ Some n → (IsSome o → P) → P
taken_sound P o n e h = h (subst IsSome (sym e) (search rules))

pub returns-in-Some-clause-reads : goal.returns-in-Some-clause-reads
returns-in-Some-clause-reads c stream told h =
    let m = c.args.machine.now in
    let n = c.take_whole.new.self in
    let u = c.args.unread.now in
    let number = c.in-Some.field-0 in
    let takes = taken_is (λ t. TakesNumber c.at.result (state_of m) c.as_slice.result.now t.length (event_of t.event)
    (state_of n)) c.in_ok-token.token number c.in-Some.is c.in_ok-token.ensures.takes in
    let there = subst (λ (k : ℕ). TakesNumber k (state_of m) c.as_slice.result.now number.length (event_of number.event)
    (state_of n)) c.at.ensures takes in
    let here = subst (λ (z : List ℕ). TakesNumber u.at (state_of m) z number.length (event_of number.event)
    (state_of n)) c.as_slice.ensures.same there in
    number_told m n u c.pass.new.self number.length (event_of number.event) stream told h here
    (taken_sound (IsSound c.pass.new.self.at n) c.in_ok-token.token number c.in-Some.is
    (c.in_ok-token.ensures.sound c.pass.new.self.at)) c.pass.ensures.at c.pass.ensures.rest

pub returns-in-None-clause-reads : goal.returns-in-None-clause-reads
returns-in-None-clause-reads c stream told h =
    let same = c.in_ok-token.ensures.left (ap Ok c.in_default.is) in
    used_up c.take_whole.new.self c.args.unread.now stream told
    (subst (λ (m : Machine). HasTold m c.args.unread.now stream told) (sym same) h)
    (sym c.first.ensures ∙ c.in-None.is)
