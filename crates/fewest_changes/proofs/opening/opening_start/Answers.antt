use Rattle.fewest_changes.proofs.OpeningLemmas.{kept_start, first_start, no_start}
use Rattle.fewest_changes.proofs.opening.opening_start.Goals as goal

pub returns-in-Some-clause-found : goal.returns-in-Some-clause-found
returns-in-Some-clause-found c =
    kept_start c.args.inst.now c.args.old c.args.i c.in-Some.s c.in-Some.ensures.found

pub returns-in-None-clause-found : goal.returns-in-None-clause-found
returns-in-None-clause-found c =
    first_start c.args.inst.now c.args.old c.args.i c.tmax.result c.first_allowed.result c.in-None.ensures.none
    c.tmax.ensures.value c.first_allowed.ensures.found

pub returns-in-None-clause-none : goal.returns-in-None-clause-none
returns-in-None-clause-none c =
    no_start c.args.inst.now c.args.i c.tmax.result c.first_allowed.result c.tmax.ensures.value
    c.first_allowed.ensures.none
