use Rattle.certificate_text.specs.Text.{certificate_lines}
use Rattle.certificate_text.proofs.TellLemmas.{lines_tell}
use Rattle.certificate_text.proofs.FormLemmas.{lines_have_forms}
use Rattle.certificate_text.proofs.CutLemmas.{spelled_one_way}
use Rattle.certificate_text.proofs.laws.texts_tell.Goals as goal

pub returns-clause-lines : goal.returns-clause-lines
returns-clause-lines c = lines_tell

pub returns-clause-texts : goal.returns-clause-texts
returns-clause-texts c =
    λ inst cert other fits a b e. lines_tell inst cert other a b
    (spelled_one_way c.lines_are_spelled_one_way.ensures.one_line c.lines_are_spelled_one_way.ensures.no_line_feed
    (certificate_lines inst cert) (certificate_lines inst other) (lines_have_forms inst cert fits a)
    (lines_have_forms inst other fits b) e)
