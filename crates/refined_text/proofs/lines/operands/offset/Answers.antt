use Rattle.std.proofs.Common.{[], ◌∷◌, refl}
use Rattle.certificate_lines.specs.Spelling.{words}
use Rattle.certificate_lines.proofs.WordLemmas.{behind_number}
use Rattle.refined_text.specs.declared.lines.line.RefinedLine.{RefinedLine}
use Rattle.refined_text.specs.declared.lines.keyword.RefinedKeyword.TheVariants as key
use Rattle.refined_text.specs.lines.Steps.{Follows}
use Rattle.refined_text.proofs.LinesKeyLemmas.{only_offset}
use Rattle.refined_text.proofs.lines.operands.offset.Goals as goal

pub returns-in_err-t : goal.returns-in_err-t
returns-in_err-t c =
    rw c.from_residual.ensures
    (λ line f. only_offset line f.begins (λ (x : RefinedLine). Follows key.Offset c.args.rest.now x → ⊥)
    (λ n m k l g. c.in_err-t.ensures.none n (words (m ∷ k ∷ l ∷ [])) g.form.0 refl g.spelled) f)

pub returns-in_err-i : goal.returns-in_err-i
returns-in_err-i c =
    let first = c.in_ok-t in
    rw c.from_residual-in_err-i.ensures
    (λ line f. only_offset line f.begins (λ (x : RefinedLine). Follows key.Offset c.args.rest.now x → ⊥)
    (λ n m k l g.
    let later = behind_number c.args.rest.now first.more.now (words (m ∷ k ∷ l ∷ [])) first.t n first.ensures.found
    first.ensures.small first.ensures.rest g.form.0 refl g.spelled in
    c.in_err-i.ensures.none m k l g.form.1 g.form.2 g.form.3 later)
    f)
