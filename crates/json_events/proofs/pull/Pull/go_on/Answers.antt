use Rattle.std.proofs.Common.{◌≡◌, ◌⊎◌, ℕ, List, [], ◌∷◌, Ok, Some, sym, ap, subst, inl, inr}
use Rattle.json_grammar.specs.Tree as json
use Rattle.json_machine.specs.Machines.{event_of}
use Rattle.json_events.specs.Readings.{HasTold, ReadsOn}
use Rattle.json_events.specs.Steps.{IsNext}
use Rattle.json_machine.specs.declared.machine.Machine.{Machine}
use Rattle.json_events.specs.declared.up_to_event.Reading.{Reading}
use Rattle.json_events.specs.declared.up_to_event.Reading.TheVariants.{Quiet, Used, One, Two, Refused, TooDeep}
use Rattle.json_grammar.specs.declared.fault.TextFault.TheVariants as fault
use Rattle.json_events.specs.declared.unread.Unread.{Unread}
use Rattle.json_events.proofs.ReadingLemmas.{reads_as}
use Rattle.json_events.proofs.Standing.{told_given, nothing_told, all_used, fault_met, told_is_sound, for_some_told}
use Rattle.json_events.proofs.Standing.{for_some_quiet, for_some_fault, alone, both, refused_there, deep_there}
use Rattle.json_events.proofs.Standing.{steps_err}
use Rattle.json_events.proofs.pull.Pull.go_on.Goals as goal

pub invariant_of-self : goal.invariant_of-self
invariant_of-self c = for_some_quiet c.self.inside c.read_up_to_event.new.machine c.read_up_to_event.new.unread
    c.args.self.now c.requires c.self.view_is c.in_err-read_up_to_event.ensures.reads c.self.invariant

pub returns-in_err-read_up_to_event-clause-steps : goal.returns-in_err-read_up_to_event-clause-steps
returns-in_err-read_up_to_event-clause-steps c stream given finished h =
    steps_err c.from_residual.result _ stream given finished c.from_residual.ensures.0
    (nothing_told c.self.inside c.read_up_to_event.new.machine c.read_up_to_event.new.unread c.args.self.now stream
    given finished c.requires c.self.view_is c.self.invariant.machine
    (c.in_err-read_up_to_event.ensures.reads stream) h)

-- a quiet end is none
used : (r : Reading) (m n : Machine) (u v : Unread) → (r ≡ Quiet → ⊥) → (r ≡ Quiet) ⊎ (r ≡ Used)
    → ((stream : List ℕ) (told : List json.Event) → HasTold m u stream told → ReadsOn (Ok r) n v stream told)
    → (stream : List ℕ) (told : List json.Event) → HasTold m u stream told → ReadsOn (Ok Used) n v stream told
used r m n u v never (inl e) f = absurd (never e)
used r m n u v never (inr e) f = reads_as r Used m n u v e f

pub invariant_of-self-in-Quiet : goal.invariant_of-self-in-Quiet
invariant_of-self-in-Quiet c =
    let p = c.self.inside in
    let m = c.read_up_to_event.new.machine in
    let u = c.read_up_to_event.new.unread in
    let reads = used c.in_ok-read_up_to_event.field-0 p.machine m p.unread u
    (λ e. c.in_ok-read_up_to_event.ensures.not_quiet (ap Ok e)) c.in-Quiet.is
    c.in_ok-read_up_to_event.ensures.reads in
    for_some_quiet p m u c.args.self.now c.requires c.self.view_is
    (λ stream told h. (reads stream told h).0) c.self.invariant

pub returns-in-Quiet-clause-steps : goal.returns-in-Quiet-clause-steps
returns-in-Quiet-clause-steps c stream given finished h =
    let p = c.self.inside in
    let m = c.read_up_to_event.new.machine in
    let u = c.read_up_to_event.new.unread in
    let reads = used c.in_ok-read_up_to_event.field-0 p.machine m p.unread u
    (λ e. c.in_ok-read_up_to_event.ensures.not_quiet (ap Ok e)) c.in-Quiet.is
    c.in_ok-read_up_to_event.ensures.reads in
    all_used p m u c.args.self.now stream given finished c.requires c.self.view_is
    c.self.invariant.machine (reads stream) h

pub sound_event-requires : goal.sound_event-requires
sound_event-requires c =
    let p = c.self.inside in
    let m = c.read_up_to_event.new.machine in
    let u = c.read_up_to_event.new.unread in
    let reads = reads_as c.in_ok-read_up_to_event.field-0 (One c.in-One.event) p.machine m p.unread u c.in-One.is
    c.in_ok-read_up_to_event.ensures.reads in
    (told_is_sound p m u c.args.self.now (event_of c.in-One.event ∷ []) c.requires c.self.view_is
    reads c.self.invariant).0

pub invariant_of-self-in-One : goal.invariant_of-self-in-One
invariant_of-self-in-One c =
    let p = c.self.inside in
    let m = c.read_up_to_event.new.machine in
    let u = c.read_up_to_event.new.unread in
    let reads = reads_as c.in_ok-read_up_to_event.field-0 (One c.in-One.event) p.machine m p.unread u c.in-One.is
    c.in_ok-read_up_to_event.ensures.reads in
    for_some_told p m u p.held c.args.self.now (event_of c.in-One.event) c.requires c.self.view_is
    (alone p m u c.args.self.now c.in-One.event c.requires c.self.view_is reads) c.self.invariant

pub returns-in-One-clause-steps : goal.returns-in-One-clause-steps
returns-in-One-clause-steps c stream given finished h =
    let p = c.self.inside in
    let m = c.read_up_to_event.new.machine in
    let u = c.read_up_to_event.new.unread in
    let reads = reads_as c.in_ok-read_up_to_event.field-0 (One c.in-One.event) p.machine m p.unread u c.in-One.is
    c.in_ok-read_up_to_event.ensures.reads in
    let step = told_given p m u p.held c.args.self.now (event_of c.in-One.event) stream given finished c.requires
    c.self.view_is c.self.invariant.machine
    (alone p m u c.args.self.now c.in-One.event c.requires c.self.view_is reads stream) h in
    (subst (IsNext stream given) (sym c.sound_event.ensures) step.0, step.1)

pub sound_event-requires-in-Two : goal.sound_event-requires-in-Two
sound_event-requires-in-Two c =
    let p = c.self.inside in
    let m = c.read_up_to_event.new.machine in
    let u = c.read_up_to_event.new.unread in
    let reads = reads_as c.in_ok-read_up_to_event.field-0 (Two c.in-Two.first c.in-Two.second) p.machine m p.unread u
    c.in-Two.is c.in_ok-read_up_to_event.ensures.reads in
    (told_is_sound p m u c.args.self.now (event_of c.in-Two.first ∷ event_of c.in-Two.second ∷ []) c.requires
    c.self.view_is reads c.self.invariant).1.0

pub sound_event-requires-in-Two-2 : goal.sound_event-requires-in-Two-2
sound_event-requires-in-Two-2 c =
    let p = c.self.inside in
    let m = c.read_up_to_event.new.machine in
    let u = c.read_up_to_event.new.unread in
    let reads = reads_as c.in_ok-read_up_to_event.field-0 (Two c.in-Two.first c.in-Two.second) p.machine m p.unread u
    c.in-Two.is c.in_ok-read_up_to_event.ensures.reads in
    (told_is_sound p m u c.args.self.now (event_of c.in-Two.first ∷ event_of c.in-Two.second ∷ []) c.requires
    c.self.view_is reads c.self.invariant).0

pub invariant_of-self-in-Two : goal.invariant_of-self-in-Two
invariant_of-self-in-Two c =
    let p = c.self.inside in
    let m = c.read_up_to_event.new.machine in
    let u = c.read_up_to_event.new.unread in
    let reads = reads_as c.in_ok-read_up_to_event.field-0 (Two c.in-Two.first c.in-Two.second) p.machine m p.unread u
    c.in-Two.is c.in_ok-read_up_to_event.ensures.reads in
    for_some_told p m u (Some c.sound_event-in-Two.result) c.args.self.now (event_of c.in-Two.first) c.requires
    c.self.view_is (both p m u c.in-Two.first c.in-Two.second c.sound_event-in-Two.result
    c.sound_event-in-Two.ensures reads) c.self.invariant

pub returns-in-Two-clause-steps : goal.returns-in-Two-clause-steps
returns-in-Two-clause-steps c stream given finished h =
    let p = c.self.inside in
    let m = c.read_up_to_event.new.machine in
    let u = c.read_up_to_event.new.unread in
    let reads = reads_as c.in_ok-read_up_to_event.field-0 (Two c.in-Two.first c.in-Two.second) p.machine m p.unread u
    c.in-Two.is c.in_ok-read_up_to_event.ensures.reads in
    let step = told_given p m u (Some c.sound_event-in-Two.result) c.args.self.now (event_of c.in-Two.first) stream
    given finished c.requires c.self.view_is c.self.invariant.machine
    (both p m u c.in-Two.first c.in-Two.second c.sound_event-in-Two.result c.sound_event-in-Two.ensures reads stream)
    h in
    (subst (IsNext stream given) (sym c.sound_event-in-Two-2.ensures) step.0, step.1)

pub invariant_of-self-in-Refused : goal.invariant_of-self-in-Refused
invariant_of-self-in-Refused c =
    let p = c.self.inside in
    let m = c.read_up_to_event.new.machine in
    let u = c.read_up_to_event.new.unread in
    let reads = reads_as c.in_ok-read_up_to_event.field-0 Refused p.machine m p.unread u c.in-Refused.is
    c.in_ok-read_up_to_event.ensures.reads in
    for_some_fault p m u c.args.self.now (fault.Syntax c.at-at.result) c.requires c.self.view_is
    (refused_there p m u c.at-at.result c.at-at.ensures reads) c.self.invariant

pub returns-in-Refused-clause-steps : goal.returns-in-Refused-clause-steps
returns-in-Refused-clause-steps c stream given finished h =
    let p = c.self.inside in
    let m = c.read_up_to_event.new.machine in
    let u = c.read_up_to_event.new.unread in
    let reads = reads_as c.in_ok-read_up_to_event.field-0 Refused p.machine m p.unread u c.in-Refused.is
    c.in_ok-read_up_to_event.ensures.reads in
    fault_met p m u c.args.self.now (fault.Syntax c.at-at.result) stream given finished c.requires c.self.view_is
    c.self.invariant.machine (refused_there p m u c.at-at.result c.at-at.ensures reads stream) h

pub invariant_of-self-in-TooDeep : goal.invariant_of-self-in-TooDeep
invariant_of-self-in-TooDeep c =
    let p = c.self.inside in
    let m = c.read_up_to_event.new.machine in
    let u = c.read_up_to_event.new.unread in
    let reads = reads_as c.in_ok-read_up_to_event.field-0 TooDeep p.machine m p.unread u c.in-TooDeep.is
    c.in_ok-read_up_to_event.ensures.reads in
    for_some_fault p m u c.args.self.now (fault.TooDeep c.at-at-in-TooDeep.result) c.requires c.self.view_is
    (deep_there p m u c.at-at-in-TooDeep.result c.at-at-in-TooDeep.ensures reads) c.self.invariant

pub returns-in-TooDeep-clause-steps : goal.returns-in-TooDeep-clause-steps
returns-in-TooDeep-clause-steps c stream given finished h =
    let p = c.self.inside in
    let m = c.read_up_to_event.new.machine in
    let u = c.read_up_to_event.new.unread in
    let reads = reads_as c.in_ok-read_up_to_event.field-0 TooDeep p.machine m p.unread u c.in-TooDeep.is
    c.in_ok-read_up_to_event.ensures.reads in
    fault_met p m u c.args.self.now (fault.TooDeep c.at-at-in-TooDeep.result) stream given finished c.requires
    c.self.view_is c.self.invariant.machine
    (deep_there p m u c.at-at-in-TooDeep.result c.at-at-in-TooDeep.ensures reads stream) h
