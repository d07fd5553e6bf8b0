use Rattle.std.proofs.Common.{◌≡◌, ◌+◌, [], ◌∷◌, take, drop, get_or, inl, inr, refl, sym, subst, length-drop, arith}
use Rattle.json_grammar.specs.Tree as json
use Rattle.json_grammar.specs.laws.Machine.{State, st, after}
use Rattle.json_machine.specs.Machines.{state_of, levels_of, mode_of}
use Rattle.json_machine.specs.NumberRuns.{TakesWithEnd}
use Rattle.json_machine.proofs.PlainNumbers.{number_ended, with_end, value_mode, list_closes}
use Rattle.json_events.proofs.up_to_event.take_counted.Goals as goal

pub pass_number-requires : goal.pass_number-requires
pass_number-requires c = let is = c.in_ok-run.ensures in
    record { to = is.to; begins = is.begins; within = is.within; comma = c.if-bytes-run-eq44.true }

pub returns-then-bytes-run-eq44-clause-takes : goal.returns-then-bytes-run-eq44-clause-takes
returns-then-bytes-run-eq44-clause-takes c k = with_end (c.pass_number.ensures.takes k c.if-not-pass_number.false)

pub returns-clause-takes : goal.returns-clause-takes
returns-clause-takes c k =
    let m = c.args.machine.now in
    let bs = c.args.bytes.now in
    let n = c.in_ok-run.run'.length in
    let is = c.in_ok-run.ensures in
    let awaits = c.awaits_item.ensures c.if-not-awaits_item.false in
    let levels = levels_of m.levels.items in
    let bracket : get_or bs n 0 ≡ 93 = elim is.end [ inl e ↦ absurd (c.if-bytes-run-eq44.false e) | inr e ↦ e ] in
    let more = json.finish (k + n) ∷ [] in
    let events = json.Event.number k (take n bs) ∷ more in
    subst (λ (s : State). TakesWithEnd k (state_of m) bs n events s) (sym c.pass_last.ensures.state)
    (number_ended k n 93 levels (mode_of m.mode m.at m.token.items) (st (drop 1 levels) after) more bs (take n bs) is.to
    (value_mode m.mode m.at m.token.items awaits.value) is.begins is.within bracket
    (list_closes levels awaits.comma (k + n)) (omega (arith, length-drop 1 levels)) refl)

pub returns-clause-sound : goal.returns-clause-sound
returns-clause-sound c k i s _ = c.pass_last.ensures.sound k i s
