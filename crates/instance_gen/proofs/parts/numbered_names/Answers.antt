use Rattle.std.proofs.Common.{arith, ◌∙◌, ap, map, string_bytes}
use Rattle.instance_gen.specs.Drawn.{numbered_names}
use Rattle.instance_gen.proofs.NameLemmas.{name_added}
use Rattle.instance_gen.proofs.parts.numbered_names.Goals as goal

pub loop-k-init : goal.loop-k-init
unfolding numbered_names
loop-k-init c = ap (map string_bytes) c.new-names.ensures

pub loop-k-preserved : goal.loop-k-preserved
loop-k-preserved c =
    ap (map string_bytes) c.in_ok-add.ensures.texts
    ∙ name_added c.loop-k.names.texts.keys c.in_ok-name.name c.args.letter.now c.loop-k.k (omega arith)
    c.loop-k.invariant
    c.in_ok-name.ensures
