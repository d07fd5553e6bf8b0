use Rattle.std.proofs.Common.{◌∙◌, ap, List, ℕ}
use Rattle.price_ladder.specs.Kept.{kept_at, sum_over}
use Rattle.price_ladder.proofs.GainLemmas.{root_has_starts}
use Rattle.price_ladder.proofs.PhaseLemmas.{fixed_is}
use Rattle.price_ladder.proofs.whole.fixed_of.Goals as goal

pub root_worth-requires-clause-starts : goal.root_worth-requires-clause-starts
root_worth-requires-clause-starts c = root_has_starts c.args.inst.now c.args.starts.now c.requires.starts

pub returns : goal.returns
returns c =
    fixed_is c.args.inst.now c.args.prices.now c.args.entries.now c.in_ok-choice.choice.items c.in_ok-worth.worth
    c.entry_sum.result c.requires.values c.in_ok-choice.ensures c.in_ok-worth.ensures.value
    (c.entry_sum.ensures.value
    ∙ ap (λ (xs : List ℕ). sum_over c.args.inst.now (kept_at c.args.inst.now c.args.entries.now) xs)
    c.as_slice.ensures.value)
    c.in_ok-worth.ensures.small c.entry_sum.ensures.small
