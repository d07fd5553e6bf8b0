use Rattle.std.proofs.Common.{◌≡◌, ◌<◌, ◌^◌, unsigned_abs}
use Rattle.price_ladder.specs.Raised.{root_worth}
use Rattle.price_ladder.proofs.ClimbLemmas.{IsClimbed}
use Rattle.price_ladder.proofs.climb.climb.Given as goal

abbrev pub invariant-loop-step : goal.invariant-loop-step
invariant-loop-step g l = record {
  climbed : IsClimbed l.inst (g.L.Ladder.list l.initial.ladder) l._step (g.L.Ladder.list l.ladder);
  kept : g.L.Ladder.is_kept l.inst l.ladder;
  worth : l.worth ≡ root_worth l.inst (g.L.Ladder.list l.ladder);
  small : unsigned_abs l.worth < 10 ^ 37;
}
