use Rattle.std.proofs.lemmas.List.Elements.{recursion_from_All}
use Rattle.refined_text.specs.lines.Spelling.{IsRefinedLine}
use Rattle.refined_text.specs.text.Text.{refined_certificate_lines}
use Rattle.refined_text.proofs.GrammarTellLemmas.{refined_lines_tell, refined_spelled_one_way}
use Rattle.refined_text.proofs.GrammarFormLemmas.{refined_lines_have_forms}
use Rattle.refined_text.proofs.grammar.laws.refined_texts_tell.Goals as goal

pub returns-clause-lines : goal.returns-clause-lines
returns-clause-lines c = refined_lines_tell

pub returns-clause-texts : goal.returns-clause-texts
returns-clause-texts c =
    λ inst cert other fits a b e. refined_lines_tell inst cert other fits a b
    (refined_spelled_one_way c.refined_lines_are_spelled_one_way.ensures.one_line
    c.refined_lines_are_spelled_one_way.ensures.no_line_feed
    (refined_certificate_lines inst cert) (refined_certificate_lines inst other)
    (recursion_from_All IsRefinedLine (refined_certificate_lines inst cert) (refined_lines_have_forms inst cert fits a))
    (recursion_from_All IsRefinedLine (refined_certificate_lines inst other)
    (refined_lines_have_forms inst other fits b)) e)
