use Rattle.std.proofs.Common.{rules, ◌+◌, take, refl}
use Rattle.json_machine.specs.Machines.{levels_of, mode_of}
use Rattle.json_machine.proofs.PlainNumbers.{value_mode, number_taken}
use Rattle.json_machine.proofs.machine.Machine.pass_number.Goals as goal

pub returns-clause-takes : goal.returns-clause-takes
returns-clause-takes c k t =
    let m = c.args.self.now in
    let n = c.args.length in
    let is = c.requires in
    number_taken k n (levels_of m.levels.items) (mode_of m.mode m.at m.token.items)
    (mode_of c.in-Some.behind m.at m.token.items) c.args.bytes.now (take n c.args.bytes.now) is.to
    (value_mode m.mode m.at m.token.items (search rules)) is.begins is.within is.comma
    (c.in-Some.ensures.moves (k + n) m.at m.token.items) refl
