use Rattle.std.proofs.Common.{◌∙◌, sym, ap, arith, pos}
use Rattle.std.proofs.lemmas.List.{get_or_default}
use Rattle.fixed_num.proofs.SignedLemmas.{back_from_abs}
use Rattle.quantile_index.specs.SortKeys.{place_of}
use Rattle.quantile_index.proofs.KeyLemmas.{entry_in}
use Rattle.quantile_index.proofs.ranks.entry_at.Goals as goal

pub bounds-from-place : goal.bounds-from-place
bounds-from-place c =
    let back = back_from_abs c.args.key.now (omega (arith, c.requires.small)) in
    let place = c.place_in-place.ensures.value ∙ ap place_of back in
    omega (arith, c.requires.within, place)

pub returns : goal.returns
returns c =
    let back = back_from_abs c.args.key.now (omega (arith, c.requires.small)) in
    let place = c.place_in-place.ensures.value ∙ ap place_of back in
    let sum = c.index-from-place.is ∙ get_or_default c.args.from.now c.place_in-place.result c.index-from-place.result
    (pos 0) (omega (arith, c.requires.within, place)) in
    sym (entry_in c.args.from.now c.args.key.now c.index-from-place.result c.place_in-place.result c.requires place sum)
