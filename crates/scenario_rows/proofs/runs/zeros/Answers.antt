use Rattle.std.proofs.Common.{◌≡◌, ◌∙◌, sym, ap, arith, pos, ℕ, ℤ, List, ◌++◌, [], ◌∷◌}
use Rattle.fixed_num.specs.Sums.{list_of}
use Rattle.fixed_num.proofs.SumLemmas.{list_of_more}
use Rattle.scenario_rows.proofs.runs.zeros.Goals as goal

pub loop-k-preserved : goal.loop-k-preserved
loop-k-preserved c =
    c.in_ok-push.ensures.items ∙ ap (λ (x : ℤ). c.loop-k.sums.items ++ x ∷ []) c.zero.ensures
    ∙ ap (λ (xs : List ℤ). xs ++ pos 0 ∷ []) c.loop-k.invariant ∙ sym (list_of_more c.loop-k.k (λ j. pos 0))

pub returns : goal.returns
returns c =
    let e : c.loop-k.k ≡ c.args.n = omega arith in
    c.loop-k.invariant ∙ ap (λ (n : ℕ). list_of n (λ j. pos 0)) e
