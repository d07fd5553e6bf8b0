use Rattle.refined_text.proofs.LinesReadLemmas.{all_found, all_none}
use Rattle.refined_text.proofs.lines.read.refined_line_of.Goals as goal

pub returns-clause-found : goal.returns-clause-found
returns-clause-found c =
    all_found c.args.text.now c.cut_word.result.0.now c.cut_word.result.1.now c.cut_word.ensures.cut
    c.cut_word.ensures.whole c.cut_word.ensures.rest c.keyword_of.result c.keyword_of.ensures c.line_behind.result
    c.line_behind.ensures

pub returns-clause-none : goal.returns-clause-none
returns-clause-none c =
    all_none c.args.text.now c.cut_word.result.0.now c.cut_word.result.1.now c.cut_word.ensures.cut
    c.cut_word.ensures.whole c.cut_word.ensures.rest c.keyword_of.result c.keyword_of.ensures c.line_behind.result
    c.line_behind.ensures
