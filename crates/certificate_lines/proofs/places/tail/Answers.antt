use Rattle.std.proofs.Common.{◌∷◌, refl}
use Rattle.certificate_lines.specs.declared.keyword.Keyword.TheVariants.{Tail}
use Rattle.certificate_lines.specs.declared.line.CertificateLine.{CertificateLine}
use Rattle.certificate_lines.specs.Spelling.{words}
use Rattle.certificate_lines.specs.Steps.{Follows}
use Rattle.certificate_lines.proofs.WordLemmas.{behind_number, words_break}
use Rattle.certificate_lines.proofs.FormLemmas.{only_tail}
use Rattle.certificate_lines.proofs.places.tail.Goals as goal

pub returns-in_default-next_number : goal.returns-in_default-next_number
returns-in_default-next_number c =
    let first = c.in-Some in
    let rest = c.args.rest.now in
    λ line f. only_tail line f.begins (λ (x : CertificateLine). Follows Tail rest x → ⊥)
    (λ n m places g.
    let later = behind_number rest first.more.now (words (m ∷ places)) first.t n first.ensures.found first.ensures.small
    first.ensures.rest g.form.0 refl g.spelled in
    c.in_default-next_number.ensures.none m (words places) g.form.1 (words_break places) later)
    f

pub returns-in_default-2 : goal.returns-in_default-2
returns-in_default-2 c =
    let first = c.in-Some in
    let second = c.in-Some-next_number in
    let rest = c.args.rest.now in
    λ line f. only_tail line f.begins (λ (x : CertificateLine). Follows Tail rest x → ⊥)
    (λ n m places g.
    let later = behind_number rest first.more.now (words (m ∷ places)) first.t n first.ensures.found first.ensures.small
    first.ensures.rest g.form.0 refl g.spelled in
    let last = behind_number first.more.now second.more.now (words places) second.weight m second.ensures.found
    second.ensures.small second.ensures.rest g.form.1 (words_break places) later in
    let none = rw c.in_default-2.is at c.in_ok-list.ensures.none in
    none places g.form.2 g.form.3 last)
    f
