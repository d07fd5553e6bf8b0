use Rattle.std.proofs.Common.{◌≡◌, ◌≤◌, take, unsigned_abs}
use Rattle.instance_model.specs.Tables.{risk_of}
use Rattle.lagrange_bound.specs.Least.{least_over}
use Rattle.lagrange_bound.proofs.term.least_of.Given as goal

abbrev pub invariant-loop-j : goal.invariant-loop-j
invariant-loop-j g l = record {
  value : l.least ≡ least_over (risk_of l.inst l.i l.s l.t) (take l.j l.places);
  small : unsigned_abs l.least ≤ 100_000_000_000_000_000_000;
}
