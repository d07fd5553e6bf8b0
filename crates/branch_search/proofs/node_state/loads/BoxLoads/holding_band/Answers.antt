use Rattle.std.proofs.Common.{◌+◌, ap, ℕ}
use Rattle.branch_search.proofs.NodeStateBoxLemmas.{no_band_from, holding_if, none_if}
use Rattle.branch_search.proofs.node_state.loads.BoxLoads.holding_band.Goals as goal

pub returns-clause-holds : goal.returns-clause-holds
returns-clause-holds c =
    holding_if c.args.inst.now c.args.self.now.spans c.band_in.result c.requires.starts c.band_in.ensures.off

pub returns-clause-none : goal.returns-clause-none
returns-clause-none c = none_if c.band_in.result (no_band_from c.args.inst.now c.args.self.now.spans
    (c.periods.result + 1) (ap (λ (n : ℕ). n + 1) c.periods.ensures.value)) c.band_in.ensures.none
