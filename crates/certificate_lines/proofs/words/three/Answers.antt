use Rattle.std.proofs.Common.{[], ◌∷◌, refl}
use Rattle.certificate_lines.specs.Spelling.{words}
use Rattle.certificate_lines.proofs.WordLemmas.{behind_number}
use Rattle.certificate_lines.proofs.words.three.Goals as goal

pub returns-in_err-m-clause-none : goal.returns-in_err-m-clause-none
returns-in_err-m-clause-none c =
    let read = c.in_ok-n in
    rw c.from_residual-in_err-m.ensures
    (λ n m k ns ms ks e. c.in_err-m.ensures.none m k ms ks
    (behind_number c.args.text.now read.rest.now (words (m ∷ k ∷ [])) read.n n read.ensures.found read.ensures.small
    read.ensures.rest ns refl e))
