use Rattle.std.proofs.Common.{◌∙◌, sym, ap, Some}
use Rattle.plan_roll.proofs.StartLemmas.{IsLeftStart-from, in_run_is}
use Rattle.plan_roll.proofs.CellLemmas.{nonzero, none_by_bits, some_by_bits, cell_is}
use Rattle.plan_roll.proofs.view.RolledInstanceView.load.Goals as goal

pub load-load-requires-clause-allowed : goal.load-load-requires-clause-allowed
load-load-requires-clause-allowed c =
    let r = c.args.self.now in
    (IsLeftStart-from r.inst.now r.plan.now r.period c.args.i c.args.s c.requires.number c.requires.allowed).allowed

pub load-load-requires-clause-running : goal.load-load-requires-clause-running
load-load-requires-clause-running c =
    let r = c.args.self.now in
    let left = IsLeftStart-from r.inst.now r.plan.now r.period c.args.i c.args.s c.requires.number
    c.requires.allowed in
    sym (in_run_is r.inst.now r.plan.now r.period c.args.i c.args.s c.args.t left.same) ∙ c.requires.running

pub returns-then-count-eq0 : goal.returns-then-count-eq0
returns-then-count-eq0 c =
    let r = c.args.self.now in
    sym (cell_is r.inst.now r.plan.now r.period c.args.i c.args.s c.args.c c.args.t c.fits.ensures c.requires.number
    c.requires.allowed
    ∙ ap nonzero (sym c.load-load.ensures ∙ sym c.count.ensures.value)
    ∙ none_by_bits c.count.result c.count.ensures.small c.if-count-eq0.true)

pub returns-else-count-eq0 : goal.returns-else-count-eq0
returns-else-count-eq0 c =
    let r = c.args.self.now in
    sym (cell_is r.inst.now r.plan.now r.period c.args.i c.args.s c.args.c c.args.t c.fits.ensures c.requires.number
    c.requires.allowed
    ∙ ap nonzero (sym c.load-load.ensures ∙ sym c.count.ensures.value)
    ∙ some_by_bits c.count.result c.if-count-eq0.false
    ∙ ap Some c.count.ensures.value)
