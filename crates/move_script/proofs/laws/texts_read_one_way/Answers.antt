use Rattle.move_script.proofs.LawLemmas.{one_script, one_fault, not_both}
use Rattle.move_script.proofs.laws.texts_read_one_way.Goals as goal

pub returns : goal.returns
returns c = record { one_script = one_script; one_fault = one_fault; not_both = not_both }
