use Rattle.certificate_lines.specs.Steps.{keyword_of}
use Rattle.certificate_lines.proofs.FormLemmas.{line_cut}
use Rattle.certificate_lines.proofs.read.line_of.Goals as goal

pub returns-in-None-clause-none : goal.returns-in-None-clause-none
returns-in-None-clause-none c = λ line form e.
    let cut = line_cut line c.args.text.now c.cut_word.result.0.now c.cut_word.result.1.now c.cut_word.ensures.cut
    c.cut_word.ensures.whole c.cut_word.ensures.rest e in
    c.in-None.ensures.none (keyword_of line) cut.0
