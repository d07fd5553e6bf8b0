use Rattle.plan_roll.specs.Texts.{rolled_text}
use Rattle.command_frame.proofs.WriteLemmas.{puts_written}
use Rattle.command_roll.proofs.roll.put_rolled.Goals as goal

pub returns : goal.returns
returns g c =
    puts_written
    (record { name = c.args.name.now; bytes = rolled_text c.args.inst.now c.args.plan.now c.args.period })
    c.finish_out.result c.in_ok-put_out.ensures c.in_ok-write_rolled.ensures.text c.finish_out.ensures
