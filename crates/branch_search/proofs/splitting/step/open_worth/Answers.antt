use Rattle.std.proofs.Common.{◌++◌, ℤ, Option, sym, subst}
use Rattle.branch_search.specs.Aside.{IsLeastWorth}
use Rattle.branch_search.proofs.AsideLemmas.{least_of_both}
use Rattle.branch_search.proofs.splitting.step.open_worth.Goals as goal

pub returns-clause-some : goal.returns-clause-some
returns-clause-some c = λ aside h.
    c.left_below.ensures.some (c.args.growth.now.waiting ++ aside)
    (subst (λ (x : Option ℤ). IsLeastWorth x (c.args.growth.now.waiting ++ aside)) (sym c.lesser.ensures)
    (least_of_both c.waiting_worth-waiting.result c.args.growth.now.aside c.args.growth.now.waiting aside
    c.waiting_worth-waiting.ensures h))

pub returns-clause-none : goal.returns-clause-none
returns-clause-none c = λ aside h.
    c.left_below.ensures.none (c.args.growth.now.waiting ++ aside)
    (subst (λ (x : Option ℤ). IsLeastWorth x (c.args.growth.now.waiting ++ aside)) (sym c.lesser.ensures)
    (least_of_both c.waiting_worth-waiting.result c.args.growth.now.aside c.args.growth.now.waiting aside
    c.waiting_worth-waiting.ensures h))
