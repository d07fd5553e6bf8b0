use Rattle.refined_prices.specs.Offsets.{OffsetBefore}
use Rattle.refined_text.specs.grammar.Further.{OffsetBelow}
use Rattle.refined_text.proofs.ReadLastLemmas.{all_from_last, last_from_all, below_offset}
use Rattle.refined_text.proofs.read.offsets.follows_offsets.Goals as goal

pub returns-in-Some : goal.returns-in-Some
returns-in-Some c =
    let offsets = c.args.offsets.now in
    let last = c.in-Some.last.now in
    let t = c.args.t in
    let i = c.args.i in
    let g = c.args.g in (
      λ below. all_from_last OffsetBefore (OffsetBelow t i g) offsets last c.in-Some.ensures.value c.requires
          (λ x before behind. below_offset t i g x last before behind) (c.is_below.ensures.0 below),
      λ all. c.is_below.ensures.1
          (last_from_all OffsetBefore (OffsetBelow t i g) offsets last c.in-Some.ensures.value all),
    )
