-- Each intervention has an allowed start.
use Rattle.std.proofs.Common.{◌≡◌, length, IsTrue, sym, ◌∙◌, ap, subst, arith}
use Rattle.instance_model.specs.Tables.{Tables, is_allowed}
use Rattle.local_search.specs.Openings.{OpensAs}
use Rattle.command_rehearse.proofs.drawn.open_drawn.Goals as goal

pub unreachable-requires : goal.unreachable-requires
unreachable-requires c =
    let i = c.in-Without.i in
    let without = subst (OpensAs c.args.inst.now) c.in-Without.is c.in_ok-opening.ensures in
    let law = c.starts_are_allowed.ensures in
    let size : length c.args.inst.now.names ≡ c.args.count = ap (λ (inst : Tables). length inst.names) c.requires
    ∙ law.names c.args.seed c.args.count in
    without.none 1
    (subst (λ (inst : Tables). IsTrue (is_allowed inst i 1)) (sym c.requires)
    (law.allowed c.args.seed c.args.count i 1 (omega (arith, without.number, size)) (omega arith) (omega arith)))
