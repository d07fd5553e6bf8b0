use Rattle.certificate_text.proofs.CutLemmas.{cut_one_way, spelled_one_way}
use Rattle.certificate_text.proofs.laws.lines_are_cut_one_way.Goals as goal

pub returns-clause-front : goal.returns-clause-front
returns-clause-front c =
    cut_one_way c.lines_are_spelled_one_way.ensures.one_line c.lines_are_spelled_one_way.ensures.no_line_feed

pub returns-clause-whole : goal.returns-clause-whole
returns-clause-whole c =
    spelled_one_way c.lines_are_spelled_one_way.ensures.one_line c.lines_are_spelled_one_way.ensures.no_line_feed
