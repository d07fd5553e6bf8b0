use Rattle.std.proofs.Common.{Option, List, ℕ, IfSome, subst, Bor}
use Rattle.branch_search.specs.Best.{IsFeasiblePlan}
use Rattle.branch_search.proofs.SettleLemmas.{allowed_of_feasible}
use Rattle.branch_search.proofs.splitting.beginning.given_best.Goals as goal

pub value-requires : goal.value-requires
value-requires g c =
    let h : IsFeasiblePlan c.args.inst.now c.in-Some.given.now =
    subst (λ (o : Option (Bor (List ℕ))). IfSome o (λ given. IsFeasiblePlan c.args.inst.now given.now)) c.in-Some.is
    c.requires in
    allowed_of_feasible c.args.inst.now c.in-Some.given.now h.each h.feasible
