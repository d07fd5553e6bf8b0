use Rattle.std.proofs.Common.{sym, rules}
use Rattle.plan_desk.specs.Written.Way.{writing}
use Rattle.plan_desk.proofs.Written.{cut, last, put, respelled}
use Rattle.certificate_lines.specs.Spelling.{words}
use Rattle.certificate_lines.proofs.PieceLemmas.{pair_and_words}
use Rattle.certificate_lines.proofs.write.write_pair_and_words.Goals as goal

pub returns-in_err-write_words : goal.returns-in_err-write_words
returns-in_err-write_words g c =
    respelled writing (sym (pair_and_words c.args.t c.args.weight c.args.places.now))
    (cut writing c.from_residual.result (search rules) (words c.args.places.now) c.in_err-write_words.ensures)

pub returns : goal.returns
returns g c =
    respelled writing (sym (pair_and_words c.args.t c.args.weight c.args.places.now))
    (last writing c.write_words-2.result (put writing c.in_ok-write_words.ensures) c.write_words-2.ensures)
