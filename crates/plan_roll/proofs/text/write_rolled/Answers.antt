use Rattle.plan_roll.proofs.TextLaw.{text_is_read}
use Rattle.plan_roll.proofs.ViewLaw.{rolled_view}
use Rattle.plan_roll.proofs.text.write_rolled.Goals as goal

pub write_instance-requires-clause-shown : goal.write_instance-requires-clause-shown
write_instance-requires-clause-shown g c =
    rolled_view c.args.inst.now c.args.plan.now c.args.period c.fits.ensures

pub returns-clause-read : goal.returns-clause-read
returns-clause-read g c =
    text_is_read c.texts_are_read.ensures c.decimals_spell_numbers.ensures c.args.inst.now c.args.plan.now
    c.args.period c.fits.ensures c.names_are_spellable.ensures

pub returns-clause-read_again : goal.returns-clause-read_again
returns-clause-read_again g c = c.rolled_text_is_read.ensures c.args.inst.now c.args.plan.now c.args.period

pub returns-clause-plans : goal.returns-clause-plans
returns-clause-plans g c = c.plans_roll.ensures c.args.inst.now c.args.plan.now c.args.period c.fits.ensures
