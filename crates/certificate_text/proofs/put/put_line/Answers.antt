use Rattle.std.proofs.Common.{sym}
use Rattle.std.proofs.lemmas.List.{append-nil}
use Rattle.plan_desk.specs.Written.Way.{writing}
use Rattle.plan_desk.proofs.Written.{respelled}
use Rattle.certificate_text.specs.Text.{line_text}
use Rattle.certificate_text.proofs.put.put_line.Goals as goal

pub returns : goal.returns
returns g c = respelled writing (sym (append-nil (line_text c.args.line))) c.write_line.ensures
