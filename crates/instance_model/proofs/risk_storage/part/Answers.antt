use Rattle.std.proofs.Common.{◌≤◌, length, arith}
use Rattle.instance_model.proofs.RiskStorageLemmas.{wide_part}
use Rattle.instance_model.proofs.risk_storage.part.Goals as goal

pub returns-else-to-seam : goal.returns-else-to-seam
returns-else-to-seam c =
    let behind : length c.args.narrow.now ≤ c.args.from = omega (arith, c.requires.apart) in
    wide_part c.args.narrow.now c.args.wide.now c.args.from c.args.to behind
