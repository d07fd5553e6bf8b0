use Rattle.std.proofs.Common.{◌++◌, ap, length, arith}
use Rattle.instance_model.proofs.RiskListLemmas.{length-lists_of}
use Rattle.instance_model.proofs.risk_lists.RiskLists.len.Goals as goal

pub returns : goal.returns
returns c =
    let numbers = c.self.inside.narrow.items ++ c.self.inside.wide.items in
    omega (arith, ap length c.self.view_is, length-lists_of c.self.inside.heads.items numbers)
