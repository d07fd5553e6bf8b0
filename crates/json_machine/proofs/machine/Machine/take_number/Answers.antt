use Rattle.std.proofs.Common.{rules, ◌+◌, arith}
use Rattle.json_machine.specs.Views.{phase_of}
use Rattle.json_machine.specs.Machines.{levels_of, mode_of}
use Rattle.json_machine.proofs.PlainNumbers.{value_mode, number_taken}
use Rattle.json_machine.proofs.machine.Machine.take_number.Goals as goal

pub returns-clause-takes : goal.returns-clause-takes
returns-clause-takes c =
    let m = c.args.self.now in
    let run = c.in-Some-number_run.run' in
    number_taken c.args.k run.length (levels_of m.levels.items) (mode_of m.mode m.at m.token.items)
    (mode_of c.in-Some.behind m.at m.token.items) c.args.bytes.now c.in_ok-token.token.items (phase_of run.phase)
    (value_mode m.mode m.at m.token.items (search rules)) c.in-Some-number_run.ensures
    (omega (arith, c.in-Some-number_run.ensures.number.goes_on.within)) (omega arith)
    (c.in-Some.ensures.moves (c.args.k + run.length) m.at m.token.items) (search rules)
