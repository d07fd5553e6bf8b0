use Rattle.price_ladder.proofs.GainLemmas.{root_has_starts}
use Rattle.price_ladder.proofs.plain.PlainLadder.try_tail.Goals as goal

pub try_switch-requires-clause-starts : goal.try_switch-requires-clause-starts
try_switch-requires-clause-starts c = root_has_starts c.args.inst.now c.args.starts.now c.requires.starts

pub try_switch-requires-2-clause-starts : goal.try_switch-requires-2-clause-starts
try_switch-requires-2-clause-starts c = root_has_starts c.args.inst.now c.args.starts.now c.requires.starts
