use Rattle.std.proofs.Common.{◌≡◌, [], OnOk, sym, subst}
use Rattle.instance_read.specs.Keeping.{Kept}
use Rattle.instance_read.specs.Keepers.{kept_of}
use Rattle.instance_read.proofs.KeepingSteps.{text_as_number}
use Rattle.instance_read.proofs.keeper.Keeper.take_text.Goals as goal

pub returns-in_default : goal.returns-in_default
returns-in_default c = λ at end.
    subst (λ (k : Kept). OnOk c.take_number.result (kept_of c.take_number.new.self ≡ k))
    (sym (text_as_number c.args.spot at end c.args.text 0 [] c.args.read.now (kept_of c.args.self.now)
    c.in_default.not-Word)) (c.take_number.ensures 0 [])
