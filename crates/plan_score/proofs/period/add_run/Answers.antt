use Rattle.std.proofs.Common.{◌≡◌, ◌∙◌, ◌+◌, ◌+ℤ◌, sym, ap, subst, arith, pos, ℕ, ℤ, List, Option, IfSome, IsTrue}
use Rattle.std.proofs.Common.{length, get_or, true, false}
use Rattle.std.proofs.lemmas.List.Elements.{All-same}
use Rattle.fixed_num.specs.Sums.{list_of}
use Rattle.instance_model.specs.Tables.{is_allowed, scenarios_of, risk_of, in_run}
use Rattle.instance_model.specs.Plans.{RunsAreAllowed, IsSmallSum, start_of, sums_before}
use Rattle.instance_model.proofs.BoardLemmas.{sums_before_idle, sums_before_more, sums_before_small, length-sums_before}
use Rattle.instance_model.proofs.BoardLemmas.{risk_at-none, risk_at-idle, risk_at-running}
use Rattle.plan_score.proofs.PeriodLemmas.{soft_at-none, soft_at-idle, soft_at-running}
use Rattle.plan_score.proofs.period.add_run.Goals as goal

pub returns-in_default-clause-after : goal.returns-in_default-clause-after
returns-in_default-clause-after g c =
    c.requires.before ∙ sums_before_idle c.args.inst.now c.args.plan.now c.args.t c.args.i (λ k. risk_at-none
    c.args.inst.now c.args.t (k + 1) c.args.i (start_of c.args.plan.now c.args.i) c.in_default.is)

pub returns-in_default-clause-soft : goal.returns-in_default-clause-soft
returns-in_default-clause-soft g c =
    soft_at-none c.args.inst.now c.args.t c.args.i (start_of c.args.plan.now c.args.i) c.in_default.is

pub is_in_progress-requires-clause-allowed : goal.is_in_progress-requires-clause-allowed
unfolding RunsAreAllowed
is_in_progress-requires-clause-allowed g c =
    subst (λ (o : Option ℕ). IfSome o (λ s. IsTrue (is_allowed c.args.inst.now c.args.i s))) c.in-Some.is
    (c.requires.allowed c.args.i (omega arith))

pub returns-then-not-is_in_progress-clause-after : goal.returns-then-not-is_in_progress-clause-after
returns-then-not-is_in_progress-clause-after g c =
    let idle : in_run c.args.inst.now c.args.i c.in-Some.s c.args.t ≡ false =
    sym c.is_in_progress.ensures ∙ c.if-not-is_in_progress.true in
    c.requires.before ∙ sums_before_idle c.args.inst.now c.args.plan.now c.args.t c.args.i (λ k. risk_at-idle
    c.args.inst.now c.args.t (k + 1) c.args.i c.in-Some.s (start_of c.args.plan.now c.args.i) c.in-Some.is idle)

pub returns-then-not-is_in_progress-clause-soft : goal.returns-then-not-is_in_progress-clause-soft
returns-then-not-is_in_progress-clause-soft g c =
    let idle : in_run c.args.inst.now c.args.i c.in-Some.s c.args.t ≡ false =
    sym c.is_in_progress.ensures ∙ c.if-not-is_in_progress.true in
    soft_at-idle c.args.inst.now c.args.t c.args.i c.in-Some.s (start_of c.args.plan.now c.args.i) c.in-Some.is idle

pub add_risks-requires-clause-allowed : goal.add_risks-requires-clause-allowed
unfolding RunsAreAllowed
add_risks-requires-clause-allowed g c =
    subst (λ (o : Option ℕ). IfSome o (λ s. IsTrue (is_allowed c.args.inst.now c.args.i s))) c.in-Some.is
    (c.requires.allowed c.args.i (omega arith))

pub add_risks-requires-clause-each : goal.add_risks-requires-clause-each
add_risks-requires-clause-each g c =
    ap length c.requires.before ∙ length-sums_before c.args.inst.now c.args.plan.now c.args.t c.args.i

pub add_risks-requires-clause-room : goal.add_risks-requires-clause-room
add_risks-requires-clause-room g c =
    All-same IsSmallSum c.args.sums.now (sums_before c.args.inst.now c.args.plan.now c.args.t c.args.i)
    c.requires.before
    (sums_before_small c.args.inst.now c.args.plan.now c.args.t c.args.i c.fits.ensures (omega arith))

pub soft-requires-clause-allowed : goal.soft-requires-clause-allowed
unfolding RunsAreAllowed
soft-requires-clause-allowed g c =
    subst (λ (o : Option ℕ). IfSome o (λ s. IsTrue (is_allowed c.args.inst.now c.args.i s))) c.in-Some.is
    (c.requires.allowed c.args.i (omega arith))

pub returns-then-soft-clause-after : goal.returns-then-soft-clause-after
returns-then-soft-clause-after g c =
    let running : in_run c.args.inst.now c.args.i c.in-Some.s c.args.t ≡ true =
    sym c.is_in_progress.ensures ∙ c.if-not-is_in_progress.false in
    c.add_risks.ensures.sums
    ∙ ap (λ (xs : List ℤ). list_of (scenarios_of c.args.inst.now c.args.t)
    (λ k. get_or xs k (pos 0) +ℤ risk_of c.args.inst.now c.args.i c.in-Some.s c.args.t (k + 1))) c.requires.before
    ∙ sums_before_more c.args.inst.now c.args.plan.now c.args.t c.args.i
    (λ k. risk_of c.args.inst.now c.args.i c.in-Some.s c.args.t (k + 1))
    (λ k. risk_at-running c.args.inst.now c.args.t (k + 1) c.args.i c.in-Some.s
    (start_of c.args.plan.now c.args.i) c.in-Some.is running)

pub returns-then-soft-clause-soft : goal.returns-then-soft-clause-soft
returns-then-soft-clause-soft g c =
    let running : in_run c.args.inst.now c.args.i c.in-Some.s c.args.t ≡ true =
    sym c.is_in_progress.ensures ∙ c.if-not-is_in_progress.false in
    soft_at-running c.args.inst.now c.args.t c.args.i c.in-Some.s (start_of c.args.plan.now c.args.i) true c.in-Some.is
    running (sym c.if-soft.true ∙ c.soft.ensures)

pub returns-else-soft-clause-after : goal.returns-else-soft-clause-after
returns-else-soft-clause-after g c =
    let running : in_run c.args.inst.now c.args.i c.in-Some.s c.args.t ≡ true =
    sym c.is_in_progress.ensures ∙ c.if-not-is_in_progress.false in
    c.add_risks.ensures.sums
    ∙ ap (λ (xs : List ℤ). list_of (scenarios_of c.args.inst.now c.args.t)
    (λ k. get_or xs k (pos 0) +ℤ risk_of c.args.inst.now c.args.i c.in-Some.s c.args.t (k + 1))) c.requires.before
    ∙ sums_before_more c.args.inst.now c.args.plan.now c.args.t c.args.i
    (λ k. risk_of c.args.inst.now c.args.i c.in-Some.s c.args.t (k + 1))
    (λ k. risk_at-running c.args.inst.now c.args.t (k + 1) c.args.i c.in-Some.s
    (start_of c.args.plan.now c.args.i) c.in-Some.is running)

pub returns-else-soft-clause-soft : goal.returns-else-soft-clause-soft
returns-else-soft-clause-soft g c =
    let running : in_run c.args.inst.now c.args.i c.in-Some.s c.args.t ≡ true =
    sym c.is_in_progress.ensures ∙ c.if-not-is_in_progress.false in
    soft_at-running c.args.inst.now c.args.t c.args.i c.in-Some.s (start_of c.args.plan.now c.args.i) false c.in-Some.is
    running (sym c.if-soft.false ∙ c.soft.ensures)
