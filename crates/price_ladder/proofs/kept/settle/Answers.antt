use Rattle.std.proofs.Common.{◌∙◌, refl, ap, subst, List, ℕ, ℤ}
use Rattle.price_ladder.specs.Kept.{AreLeast, kept_at, sum_over}
use Rattle.price_ladder.proofs.KeptWorthLemmas.{IsSettled-from}
use Rattle.price_ladder.proofs.kept.settle.Goals as goal

pub returns : goal.returns
returns c =
    IsSettled-from c.args.inst.now c.args.entries.items c.args.fixed c.entry_sum.result
    c.in_ok-choice.choice.items _ refl refl refl refl
    (subst (λ (xs : List ℤ). AreLeast c.args.inst.now xs c.in_ok-choice.choice.items) c.as_slice.ensures.value
    c.in_ok-choice.ensures)
    (c.entry_sum.ensures.value
    ∙ ap (λ (xs : List ℤ). sum_over c.args.inst.now (kept_at c.args.inst.now xs) c.as_slice-3.result.now)
    c.as_slice-2.ensures.value
    ∙ ap (λ (xs : List ℕ). sum_over c.args.inst.now (kept_at c.args.inst.now c.args.entries.items) xs)
    c.as_slice-3.ensures.value)
    c.entry_sum.ensures.small c.requires.fixed
