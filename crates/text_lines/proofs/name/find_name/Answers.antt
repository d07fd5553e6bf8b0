use Rattle.text_lines.proofs.NameLemmas.{found_in, none_in}
use Rattle.text_lines.proofs.name.find_name.Goals as goal

pub returns-in-Ok-clause-name : goal.returns-in-Ok-clause-name
returns-in-Ok-clause-name c = found_in c.args.inst.now.names c.in-Ok.text.now c.args.name.now c.find.result
    c.find.ensures.value c.in-Ok.ensures.cases.0

pub returns-in-Ok-clause-none : goal.returns-in-Ok-clause-none
returns-in-Ok-clause-none c = none_in c.args.inst.now.names c.in-Ok.text.now c.args.name.now c.find.result
    c.find.ensures.value c.in-Ok.ensures.cases.0
