use Rattle.certificate_lines.proofs.WordLemmas.{behind_number}
use Rattle.refined_text.specs.declared.lines.line.RefinedLine.{RefinedLine}
use Rattle.refined_text.specs.declared.lines.keyword.RefinedKeyword.TheVariants as key
use Rattle.refined_text.specs.lines.Spelling.{member_words}
use Rattle.refined_text.specs.lines.Steps.{Follows}
use Rattle.refined_text.proofs.LinesKeyLemmas.{only_group}
use Rattle.refined_text.proofs.LinesMemberLemmas.{members_break}
use Rattle.refined_text.proofs.lines.operands.group.Goals as goal

pub returns-in_default : goal.returns-in_default
returns-in_default c =
    λ line f. only_group line f.begins (λ (x : RefinedLine). Follows key.Group c.args.rest.now x → ⊥)
    (λ n members g.
    c.in_default.ensures.none n (member_words members) g.form.0 (members_break members) g.spelled)
    f

pub returns-in_default-2 : goal.returns-in_default-2
returns-in_default-2 c =
    let first = c.in-Some in
    let rest = c.args.rest.now in
    λ line f. only_group line f.begins (λ (x : RefinedLine). Follows key.Group rest x → ⊥)
    (λ n members g.
    let later = behind_number rest first.more.now (member_words members) first.t n first.ensures.found
    first.ensures.small first.ensures.rest g.form.0 (members_break members) g.spelled in
    let none = rw c.in_default-2.is at c.in_ok-list.ensures.none in
    none members g.form.1 g.form.2 later)
    f
