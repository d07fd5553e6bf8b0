use Rattle.worked_plans.proofs.MoveLemmas.{three_known, three_small}
use Rattle.worked_plans.proofs.texts.scripts.writes_a_line_each.Goals as goal

pub write_to_file-requires-clause-known : goal.write_to_file-requires-clause-known
write_to_file-requires-clause-known g c =
    three_known c.in_ok-inst.inst c.in_ok-moves.moves c.in_ok-inst.ensures c.in_ok-moves.ensures

pub write_to_file-requires-clause-small : goal.write_to_file-requires-clause-small
write_to_file-requires-clause-small g c = three_small c.in_ok-moves.moves c.in_ok-moves.ensures
