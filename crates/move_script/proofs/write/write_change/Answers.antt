use Rattle.std.proofs.Common.{◌∙◌, [], ap, sym, decimal}
use Rattle.std.proofs.lemmas.Option.{get_or_from_slice_get}
use Rattle.plan_desk.specs.Written.Way.{writing}
use Rattle.plan_desk.proofs.Written.{respelled}
use Rattle.move_script.proofs.PieceLemmas.{move_words, swap_words}
use Rattle.move_script.proofs.write.write_change.Goals as goal

pub returns-in-Move : goal.returns-in-Move
returns-in-Move g c =
    let names = c.args.inst.now.names in
    respelled writing (move_words names c.args.change c.in-Move.i c.in-Move.s _ _ c.in-Move.is
    (get_or_from_slice_get names c.in-Move.i _ [] c.name.ensures.value ∙ sym c.as_bytes.ensures.value)
    (c.bytes.ensures.value ∙ c.of_natural-digits.ensures ∙ ap decimal c.from.ensures))
    c.write_words.ensures

pub returns-in-Swap : goal.returns-in-Swap
returns-in-Swap g c =
    let names = c.args.inst.now.names in
    respelled writing (swap_words names c.args.change c.in-Swap.i c.in-Swap.j _ _ c.in-Swap.is
    (get_or_from_slice_get names c.in-Swap.i _ [] c.name-in-Swap.ensures.value ∙ sym c.as_bytes-in-Swap.ensures.value)
    (get_or_from_slice_get names c.in-Swap.j _ [] c.name-in-Swap-2.ensures.value
    ∙ sym c.as_bytes-in-Swap-2.ensures.value))
    c.write_words-in-Swap.ensures
