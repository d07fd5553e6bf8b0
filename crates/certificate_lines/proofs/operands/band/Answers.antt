use Rattle.std.proofs.Common.{◌++◌, ◌∙◌, refl}
use Rattle.certificate_lines.specs.declared.keyword.Keyword.TheVariants.{Band}
use Rattle.certificate_lines.specs.declared.line.CertificateLine.{CertificateLine}
use Rattle.certificate_lines.specs.Spelling.{word}
use Rattle.certificate_lines.specs.Steps.{Follows, side_text}
use Rattle.certificate_lines.proofs.WordLemmas.{behind_number}
use Rattle.certificate_lines.proofs.FormLemmas.{only_band, pair_pieces, side_break}
use Rattle.certificate_lines.proofs.operands.band.Goals as goal

pub returns-in_err-t : goal.returns-in_err-t
returns-in_err-t c =
    let first = c.in_ok-c in
    let rest = c.args.rest.now in
    rw c.from_residual-in_err-t.ensures
    (λ line f. only_band line f.begins (λ (x : CertificateLine). Follows Band rest x → ⊥)
    (λ n m side g.
    let later = behind_number rest first.more.now (word m ++ side_text side) first.c n first.ensures.found
    first.ensures.small first.ensures.rest g.form.0 refl (g.spelled ∙ pair_pieces n m (side_text side)) in
    c.in_err-t.ensures.none m (side_text side) g.form.1 (side_break side) later)
    f)

pub returns-in_err-side : goal.returns-in_err-side
returns-in_err-side c =
    let first = c.in_ok-c in
    let second = c.in_ok-t in
    let rest = c.args.rest.now in
    rw c.from_residual-in_err-side.ensures
    (λ line f. only_band line f.begins (λ (x : CertificateLine). Follows Band rest x → ⊥)
    (λ n m side g.
    let later = behind_number rest first.more.now (word m ++ side_text side) first.c n first.ensures.found
    first.ensures.small first.ensures.rest g.form.0 refl (g.spelled ∙ pair_pieces n m (side_text side)) in
    c.in_err-side.ensures.none side (behind_number first.more.now second.end.now (side_text side) second.t m
    second.ensures.found second.ensures.small second.ensures.rest g.form.1 (side_break side) later))
    f)
