use Rattle.std.proofs.Common.{◌≡◌, ℕ, length, sym, subst, arith}
use Rattle.instance_model.specs.Keys.{IsOpening}
use Rattle.duration_calendar.specs.Calendar.{IsAllowedIn}
use Rattle.local_search.proofs.OpeningLemmas.{AreFirst, first_opens, first_without}
use Rattle.local_search.proofs.opening.opening_of.Goals as goal

pub returns-in-None : goal.returns-in-None
returns-in-None c =
    let inst = c.args.inst.now in
    let i = c.loop-i.i in
    first_without inst c.loop-i.starts.items i c.loop-i.invariant
    (omega (arith, c.loop-i-test.true, c.interventions-i-end.ensures.value))
    (subst (λ (most : ℕ). (s : ℕ) → IsAllowedIn inst i 1 most s → ⊥) c.tmax.ensures.value c.in-None.ensures.none)

pub returns : goal.returns
returns c =
    let inst = c.args.inst.now in
    let all : c.loop-i.i ≡ length inst.names =
    omega (arith, c.loop-i-test.false, c.loop-i.auto.i-end, c.interventions-i-end.ensures.value) in
    subst (IsOpening inst) (sym c.from_vec.ensures)
    (first_opens inst c.loop-i.starts.items
    (subst (λ (n : ℕ). AreFirst inst c.loop-i.starts.items n) all c.loop-i.invariant))
