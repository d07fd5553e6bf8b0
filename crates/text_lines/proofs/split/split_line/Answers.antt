use Rattle.std.proofs.Common.{◌∙◌, arith, length}
use Rattle.std.proofs.lemmas.List.{take_all, nil_from_length}
use Rattle.text_lines.proofs.LineLemmas.{lines_of-whole}
use Rattle.text_lines.proofs.split.split_line.Goals as goal

pub returns-in-None-clause-lines : goal.returns-in-None-clause-lines
returns-in-None-clause-lines c =
    let text = c.args.text.now in
    lines_of-whole text _ _ c.requires c.in-None.ensures.none
    (c.split_at.ensures.front ∙ take_all (length text) text (omega arith))
    (nil_from_length c.split_at.result.1.now (omega (arith, c.split_at.ensures.back_len)))
