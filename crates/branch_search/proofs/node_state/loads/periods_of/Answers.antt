use Rattle.std.proofs.Common.{◌≡◌, ℕ, ◌<◌, ◌⊎◌, inl, inr, arith, subst, IsTrue}
use Rattle.std.proofs.Math.Nat.{eq-or-lt_of_le}
use Rattle.instance_model.specs.Tables.{is_allowed, in_run}
use Rattle.instance_model.proofs.EntryLemmas.{IsRunning-from}
use Rattle.instance_model.proofs.FitLemmas.{tmax_small}
use Rattle.duration_calendar.specs.Calendar.{IsAllowedIn}
use Rattle.branch_search.proofs.node_state.loads.periods_of.Goals as goal

pub overflow_add-s-end : goal.overflow_add-s-end
overflow_add-s-end c = omega (
  arith,
  tmax_small c.args.inst.now c.args.i c.fits.ensures c.requires.number,
  c.fits.ensures.few_periods,
  c.requires.end,
)

pub loop-s-preserved : goal.loop-s-preserved
loop-s-preserved c = record {
  within = omega arith;
  past = c.later_end-past.ensures.within;
  runs = λ r t l a q. at r t a q (eq-or-lt_of_le (omega (arith, l)));
}
  where
    at : (r t : ℕ) → IsAllowedIn c.args.inst.now c.args.i c.args.span.from c.args.span.to r
        → IsTrue (in_run c.args.inst.now c.args.i r t) → (r ≡ c.loop-s.s) ⊎ (r < c.loop-s.s)
        → t < c.later_end-past.result
    at r t a q (inl e) = c.later_end-past.ensures.run t (subst
        (λ (s : ℕ). IsTrue (is_allowed c.args.inst.now c.args.i s)) e a.allowed)
        (subst (λ (s : ℕ). IsTrue (in_run c.args.inst.now c.args.i s t)) e q)
    at r t a q (inr l) =
        let before = c.loop-s.invariant.runs r t l a q in
        let later = c.later_end-past.ensures.later in
        omega (arith, before, later)

pub returns-clause-runs : goal.returns-clause-runs
returns-clause-runs c = λ s t a q.
    let w = IsRunning-from c.args.inst.now c.args.i s t a.allowed q in
    let some = w.start in
    let from = w.from in
    let first = a.from in
    let last = a.to in
    (omega (arith, some, from, first, c.max.ensures), c.loop-s.invariant.runs s t (omega (arith, last)) a q)
