use Rattle.std.proofs.Common.{◌<◌, ℕ, length, IfOk, rules}
use Rattle.move_script.proofs.LineLemmas.{found_place}
use Rattle.move_script.proofs.read.number_of.Goals as goal

pub returns-clause-place : goal.returns-clause-place
returns-clause-place c =
    let names = c.args.inst.now.names in
    let within : IfOk c.ok_or.result (λ (i : ℕ). i < length names) = search rules in
    found_place names c.ok_or.result c.fits.ensures.names.apart within
