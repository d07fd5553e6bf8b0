use Rattle.std.proofs.Common.{◌∷◌, refl}
use Rattle.certificate_lines.specs.Spelling.{words}
use Rattle.certificate_lines.proofs.WordLemmas.{behind_number, words_break}
use Rattle.refined_text.specs.declared.lines.line.RefinedLine.{RefinedLine}
use Rattle.refined_text.specs.declared.lines.keyword.RefinedKeyword.TheVariants as key
use Rattle.refined_text.specs.lines.Steps.{Follows}
use Rattle.refined_text.proofs.LinesKeyLemmas.{only_clique}
use Rattle.refined_text.proofs.lines.operands.clique.Goals as goal

pub returns-in_default-next_number : goal.returns-in_default-next_number
returns-in_default-next_number c =
    let first = c.in-Some in
    let rest = c.args.rest.now in
    λ line f. only_clique line f.begins (λ (x : RefinedLine). Follows key.Clique rest x → ⊥)
    (λ n m members g.
    let later = behind_number rest first.more.now (words (m ∷ members)) first.t n first.ensures.found
    first.ensures.small first.ensures.rest g.form.0 refl g.spelled in
    c.in_default-next_number.ensures.none m (words members) g.form.1 (words_break members) later)
    f

pub returns-in_default-2 : goal.returns-in_default-2
returns-in_default-2 c =
    let first = c.in-Some in
    let second = c.in-Some-next_number in
    let rest = c.args.rest.now in
    λ line f. only_clique line f.begins (λ (x : RefinedLine). Follows key.Clique rest x → ⊥)
    (λ n m members g.
    let later = behind_number rest first.more.now (words (m ∷ members)) first.t n first.ensures.found
    first.ensures.small first.ensures.rest g.form.0 refl g.spelled in
    let last = behind_number first.more.now second.more.now (words members) second.v m second.ensures.found
    second.ensures.small second.ensures.rest g.form.1 (words_break members) later in
    let none = rw c.in_default-2.is at c.in_ok-list.ensures.none in
    none members g.form.2 g.form.3 last)
    f
