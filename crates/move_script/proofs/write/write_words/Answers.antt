use Rattle.std.proofs.Common.{sym}
use Rattle.plan_desk.specs.Written.Way.{writing}
use Rattle.plan_desk.proofs.Written.{respelled}
use Rattle.move_script.proofs.PieceLemmas.{words_line}
use Rattle.move_script.proofs.write.write_words.Goals as goal

pub returns : goal.returns
returns g c =
    respelled writing (sym (words_line c.args.verb.now c.args.first.now c.args.second.now)) c.write_pieces.ensures
