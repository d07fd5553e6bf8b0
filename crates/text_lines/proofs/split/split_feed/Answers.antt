use Rattle.text_lines.proofs.LineLemmas.{lines_of-parts}
use Rattle.text_lines.proofs.split.split_feed.Goals as goal

pub returns-clause-lines : goal.returns-clause-lines
returns-clause-lines c =
    lines_of-parts c.args.text.now c.split_once.result c.split_once.ensures.cut c.split_once.ensures.first
