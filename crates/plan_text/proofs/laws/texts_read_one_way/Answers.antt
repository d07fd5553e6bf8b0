use Rattle.plan_text.proofs.LawLemmas.{one_plan, one_fault, not_both}
use Rattle.plan_text.proofs.laws.texts_read_one_way.Goals as goal

pub returns : goal.returns
returns c = record { one_plan = one_plan; one_fault = one_fault; not_both = not_both }
