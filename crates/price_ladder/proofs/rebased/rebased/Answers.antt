use Rattle.std.proofs.Common.{◌∙◌, ◌^◌, sym, refl}
use Rattle.price_ladder.proofs.KeptLemmas.{entry_read}
use Rattle.price_ladder.proofs.TailBaseLemmas.{rebased_idle, rebased_running, back_small}
use Rattle.price_ladder.proofs.rebased.rebased.Goals as goal

pub returns-then-not-in_run-clause-value : goal.returns-then-not-in_run-clause-value
returns-then-not-in_run-clause-value c =
    rebased_idle c.args.inst.now c.args.prices.now c.args.t c.args.bases.now c.args.i c.args.s c.entry.result
    (sym (c.in_run.ensures ∙ c.run.ensures.periods c.args.t) ∙ c.if-not-in_run.true) c.entry.ensures
    (entry_read c.args.inst.now (10 ^ 30) c.args.bases.now c.args.i c.args.s c.entry.result _ c.requires.bases
    c.requires.number refl c.requires.allowed c.entry.ensures)

pub returns-then-not-in_run-clause-small : goal.returns-then-not-in_run-clause-small
returns-then-not-in_run-clause-small c =
    let small = entry_read c.args.inst.now (10 ^ 30) c.args.bases.now c.args.i c.args.s c.entry.result _
    c.requires.bases
    c.requires.number refl c.requires.allowed c.entry.ensures in
    back_small c.entry.result small

pub returns-clause-value : goal.returns-clause-value
returns-clause-value c =
    rebased_running c.args.inst.now c.args.prices.now c.args.t c.args.bases.now c.args.i c.args.s c.base.result
    (sym (c.in_run.ensures ∙ c.run.ensures.periods c.args.t) ∙ c.if-not-in_run.false) c.base.ensures.value
    c.base.ensures.small
