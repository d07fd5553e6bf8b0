use Rattle.std.proofs.Common.{[], ◌∷◌, ◌++◌, ℕ, List, ap, rules}
use Rattle.plan_desk.specs.Written.Way.{writing}
use Rattle.plan_desk.proofs.Written.{cut, last, put, respelled}
use Rattle.certificate_lines.specs.Spelling.{words}
use Rattle.certificate_lines.specs.Steps.{side_text}
use Rattle.certificate_lines.proofs.write.write_band.Goals as goal

pub returns-in_err-write_words : goal.returns-in_err-write_words
returns-in_err-write_words g c =
    cut writing c.from_residual.result (search rules) (side_text c.args.side) c.in_err-write_words.ensures

pub returns : goal.returns
returns g c =
    respelled writing (ap (λ (side : List ℕ). words (c.args.c ∷ c.args.t ∷ []) ++ side) c.side_bytes.ensures)
    (last writing c.write_all.result (put writing c.in_ok-write_words.ensures) c.write_all.ensures)
