use Rattle.std.proofs.Common.{◌∙◌, arith}
use Rattle.season_exclusion.proofs.BrokenLemmas.{IsWindowOf-run, IsTested, is_broken-tested}
use Rattle.season_exclusion.proofs.broken.is_broken.Goals as goal

pub returns : goal.returns
returns c =
    let inst = c.args.inst.now in
    let starts = c.args.starts.now in
    let x = c.exclusion-exclusion.result in
    let first = c.run-first.result in
    let second = c.run-second.result in
    let tested : IsTested inst starts c.args.e x first second c.meets_in.result = record {
      exclusion = c.exclusion-exclusion.ensures.value;
      first_window = IsWindowOf-run inst starts x.first first (omega (arith, c.exclusion-exclusion.ensures.first))
          c.run-first.ensures.periods;
      second_window = IsWindowOf-run inst starts x.second second (omega (arith, c.exclusion-exclusion.ensures.second))
          c.run-second.ensures.periods;
      horizon = c.run-first.ensures.horizon;
      found = c.meets_in.ensures.found;
      none = c.meets_in.ensures.none;
    } in
    c.is_some.ensures ∙ is_broken-tested inst starts c.args.e x first second c.meets_in.result tested
