use Rattle.std.proofs.Common.{◌-◌, length, arith}
use Rattle.instance_model.proofs.RiskListLemmas.{last_first-at}
use Rattle.instance_model.proofs.risk_lists.first_of_last.Goals as goal

pub returns-in-Some : goal.returns-in-Some
returns-in-Some c =
    let i = c.in-Some.ensures.item in
    last_first-at c.args.heads.now (length c.args.heads.now - 1) c.in-Some.head.now c.args.place
    (omega (arith, i.3.0)) i.1
