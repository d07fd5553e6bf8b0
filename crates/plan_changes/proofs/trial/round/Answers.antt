use Rattle.std.proofs.Common.{◌≡◌, Bool, subst, arith}
use Rattle.std.specs.Bool.{OnTrue, OnFalse}
use Rattle.plan_changes.specs.Returning.{CannotGoBack, GoesBack}
use Rattle.plan_changes.proofs.TrialLemmas.{round_begins, round_goes, round_stays}
use Rattle.plan_changes.proofs.trial.round.Goals as goal
use Rattle.plan_changes.proofs.trial.round.Goals.{then-go_back, else-go_back}

pub loop-i-init : goal.loop-i-init
loop-i-init c = record {
  trial = c.requires;
  rounds = round_begins c.args.inst.now c.args.old.now c.args.trial.now.starts.items;
}

pub loop-i-preserved : goal.loop-i-preserved
loop-i-preserved c =
    let inst = c.args.inst.now in
    let old = c.args.old.now in
    let from = c.args.trial.now.starts.items in
    let mid = c.loop-i.trial.starts.items in
    let new = c.go_back.new.trial.starts.items in
    elim c.if-go_back.branch [
      | then-go_back w ↦
          let goes : GoesBack old mid new c.loop-i.i =
          subst (λ (b : Bool). OnTrue b (GoesBack old mid new c.loop-i.i)) w.if-go_back.true c.go_back.ensures.back in
          record {
            trial = c.go_back.ensures.trial;
            rounds = round_goes inst old from mid new c.loop-i.any c.if-go_back.any c.loop-i.i c.loop-i.invariant.rounds
                (omega (
                  arith,
                  c.loop-i-test.true,
                  c.len-i-end.ensures,
                  c.requires.each,
                  c.loop-i.invariant.trial.each,
                )) goes
                w.any-is;
          }
      | else-go_back w ↦
          let same : new ≡ mid =
          subst (λ (b : Bool). OnFalse b (new ≡ mid)) w.if-go_back.false c.go_back.ensures.stays in
          let cannot : CannotGoBack inst old mid c.loop-i.i =
          subst (λ (b : Bool). OnFalse b (CannotGoBack inst old mid c.loop-i.i)) w.if-go_back.false
          c.go_back.ensures.cannot in
          record {
            trial = c.go_back.ensures.trial;
            rounds = round_stays inst old from mid new c.loop-i.any c.if-go_back.any c.loop-i.i
                c.loop-i.invariant.rounds
                same cannot w.any-is;
          }
    ]
