use Rattle.std.proofs.Common.{arith}
use Rattle.instance_model.proofs.EntryLemmas.{is_allowed_facts}
use Rattle.duration_calendar.proofs.WindowLemmas.{in_window-run, IsInHorizon-from}
use Rattle.duration_calendar.proofs.calendar.run.Goals as goal

pub delta-duration-requires-clause-from : goal.delta-duration-requires-clause-from
delta-duration-requires-clause-from c = (is_allowed_facts c.args.inst.now c.args.i c.args.s c.requires.allowed).0

pub delta-duration-requires-clause-to : goal.delta-duration-requires-clause-to
delta-duration-requires-clause-to c = (is_allowed_facts c.args.inst.now c.args.i c.args.s c.requires.allowed).1

pub overflow_add-result : goal.overflow_add-result
overflow_add-result c = omega (
  arith,
  is_allowed_facts c.args.inst.now c.args.i c.args.s c.requires.allowed,
  c.delta-duration.ensures.value,
  c.fits.ensures.few_periods,
)

pub returns-clause-periods : goal.returns-clause-periods
returns-clause-periods c =
    λ t. in_window-run c.args.inst.now c.args.i c.args.s c.delta-duration.result t c.delta-duration.ensures.value

pub returns-clause-starts : goal.returns-clause-starts
returns-clause-starts c = (is_allowed_facts c.args.inst.now c.args.i c.args.s c.requires.allowed).0

pub returns-clause-ends : goal.returns-clause-ends
returns-clause-ends c =
    omega (arith, is_allowed_facts c.args.inst.now c.args.i c.args.s c.requires.allowed, c.delta-duration.ensures.value)

pub returns-clause-horizon : goal.returns-clause-horizon
returns-clause-horizon c = IsInHorizon-from c.args.inst.now _ (returns-clause-starts c) (returns-clause-ends c)
