use Rattle.std.proofs.Common.{arith, sym, ◌∙◌}
use Rattle.duration_calendar.proofs.WindowLemmas.{in_window_facts, in_window_from, in_horizon}
use Rattle.duration_calendar.proofs.calendar.meets_in.Goals as goal

pub loop-t-init : goal.loop-t-init
loop-t-init c = λ u l m.
    let x = in_window_facts c.args.x u m.first in
    let y = in_window_facts c.args.y u m.second in
    absurd (omega (arith, l, x, y, c.max-from.ensures))

pub in_season-requires-clause-from : goal.in_season-requires-clause-from
in_season-requires-clause-from c = (in_horizon c.args.inst.now c.args.x c.loop-t.t c.requires.first
    (omega (arith, c.max-from.ensures)) (omega (arith, c.min-past.ensures))).0

pub in_season-requires-clause-to : goal.in_season-requires-clause-to
in_season-requires-clause-to c = (in_horizon c.args.inst.now c.args.x c.loop-t.t c.requires.first
    (omega (arith, c.max-from.ensures)) (omega (arith, c.min-past.ensures))).1

pub returns-then-in_season-clause-found : goal.returns-then-in_season-clause-found
returns-then-in_season-clause-found c =
    record {
      one = record {
        first =
            in_window_from c.args.x c.loop-t.t (omega (arith, c.max-from.ensures)) (omega (arith, c.min-past.ensures));
        second =
            in_window_from c.args.y c.loop-t.t (omega (arith, c.max-from.ensures)) (omega (arith, c.min-past.ensures));
        season = sym c.in_season.ensures ∙ c.if-in_season.true;
      };
      least = c.loop-t.invariant;
    }

pub returns-clause-none : goal.returns-clause-none
returns-clause-none c = λ t m.
    let x = in_window_facts c.args.x t m.first in
    let y = in_window_facts c.args.y t m.second in
    c.loop-t.invariant t (omega (arith, x, y, c.min-past.ensures)) m
