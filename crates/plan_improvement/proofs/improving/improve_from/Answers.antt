use Rattle.std.proofs.Common.{sym, subst, rules}
use Rattle.std.proofs.lemmas.Int.{to_z-of_z}
use mir.Syntax.{w128}
use mir.Val.{SFits}
use Rattle.plan_improvement.specs.Improving.{IsNothing}
use Rattle.plan_improvement.specs.Steps.{IsFirst}
use Rattle.plan_improvement.proofs.StepLemmas.{improved, nothing}
use Rattle.plan_improvement.proofs.improving.improve_from.Goals as goal

pub returns-in_ok-better-in-Kept : goal.returns-in_ok-better-in-Kept
returns-in_ok-better-in-Kept g c =
    let inst = c.args.inst.now in
    let opening = c.args.opening in
    improved inst c.args.old.now c.args.turns opening c.requires c.in-Kept.first c.in_ok-better-in-Kept.better
    (subst (IsFirst inst c.args.turns opening) c.in-Kept.is c.in_ok-first.ensures) c.in_ok-better-in-Kept.ensures

pub returns-in-Broken : goal.returns-in-Broken
returns-in-Broken g c =
    let inst = c.args.inst.now in
    let opening = c.args.opening in
    let violation = c.in-Broken.violation in
    let fits : SFits w128 violation = search rules in
    let broken = subst (IsFirst inst c.args.turns opening) c.in-Broken.is c.in_ok-first.ensures in
    subst (IsNothing inst c.args.old.now c.args.turns) (sym (to_z-of_z w128 violation fits))
    (nothing inst c.args.old.now c.args.turns opening c.requires violation broken.0 broken.1)
