use Rattle.std.proofs.Common.{rules, ◌+◌, take, drop, refl}
use Rattle.json_machine.specs.Machines.{levels_of, mode_of}
use Rattle.json_machine.proofs.WholeKeys.{key_mode, key_taken}
use Rattle.json_machine.proofs.machine.Machine.pass_key.Goals as goal

pub returns-clause-takes : goal.returns-clause-takes
returns-clause-takes c k _ =
    let m = c.args.self.now in
    let n = c.args.count in
    let key = c.requires in
    key_taken k n (levels_of m.levels.items) (mode_of m.mode m.at m.token.items) c.args.bytes.now
    (take n (drop 1 c.args.bytes.now)) (k + (n + 2)) (key_mode m.mode m.at m.token.items (search rules)) key.opens
    key.plain key.within key.closes refl refl
