-- Of the plans one is left with each change that is undone, and the first in the end.
use Rattle.std.proofs.Common.{◌≡◌, ℕ, ◌+◌, ◌-◌, refl, sym, ◌∙◌, ap, subst, arith, List, length, take, Bool, IsTrue}
use Rattle.std.proofs.lemmas.List.{length-take-le, take_all}
use Rattle.std.specs.Bool.{OnTrue}
use Rattle.plan_moves.specs.KeptPlans.{KeptPlans, without_present}
use Rattle.command_rehearse.proofs.UndoneLemmas.{one_less}
use Rattle.command_rehearse.proofs.undoing.undo_on.Goals as goal

pub loop-change-init : goal.loop-change-init
loop-change-init g c = record {
  instance = refl;
  plans = sym (take_all (c.args.changes + 1 - 0) c.args.kept.now.plans (omega (arith, c.requires.all)));
}

pub loop-change-preserved : goal.loop-change-preserved
loop-change-preserved g c =
    let all = c.args.kept.now.plans in
    let here = c.loop-change.kept in
    let k = c.args.changes + 1 - c.loop-change._change in
    let within = c.loop-change-test.true in
    let size : length here.plans ≡ k = ap (λ (ps : List (List ℕ)). length ps) c.loop-change.invariant.plans
    ∙ length-take-le k all (omega (arith, c.requires.all)) in
    let undone : IsTrue c.undo.result = c.undo.ensures.undone.1 (omega (arith, size, within)) in
    let left : c.undo.new.self ≡ without_present here = subst (λ (b : Bool).
    OnTrue b (c.undo.new.self ≡ without_present here)) undone c.undo.ensures.plans in
    record {
      instance = ap (λ (kept : KeptPlans). kept.instance) left ∙ c.loop-change.invariant.instance;
      plans = ap (λ (kept : KeptPlans). kept.plans) left
          ∙ one_less all here.plans k (c.args.changes + 1 - (c.loop-change._change + 1))
          c.loop-change.invariant.plans (omega (arith, c.requires.all)) (omega arith);
    }

pub returns-clause-instance : goal.returns-clause-instance
returns-clause-instance g c = c.loop-change.invariant.instance

pub returns-clause-first : goal.returns-clause-first
returns-clause-first g c =
    let all = c.args.kept.now.plans in
    let one : c.args.changes + 1 - c.loop-change._change ≡ 1 =
    omega arith in
    c.loop-change.invariant.plans ∙ ap (λ (n : ℕ). take n all) one
