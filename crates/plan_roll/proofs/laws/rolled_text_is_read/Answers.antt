use Rattle.plan_roll.proofs.TextLaw.{text_is_read_again}
use Rattle.plan_roll.proofs.laws.rolled_text_is_read.Goals as goal

pub returns : goal.returns
returns c = text_is_read_again c.texts_are_read.ensures c.decimals_spell_numbers.ensures
