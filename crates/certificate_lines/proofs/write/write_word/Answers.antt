use Rattle.std.proofs.Common.{List, ℕ, ◌∷◌, ap}
use Rattle.std.proofs.lemmas.List.{append-nil}
use Rattle.plan_desk.specs.Written.Way.{writing}
use Rattle.plan_desk.proofs.Written.{respelled}
use Rattle.certificate_lines.proofs.write.write_word.Goals as goal

pub returns : goal.returns
returns g c = respelled writing (ap (λ (xs : List ℕ). 32 ∷ xs) (append-nil c.args.bytes.now)) c.write_pieces.ensures
