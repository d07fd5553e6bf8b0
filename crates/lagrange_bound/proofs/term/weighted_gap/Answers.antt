use Rattle.lagrange_bound.proofs.BaseLemmas.{gap_is, gap_fits}
use Rattle.lagrange_bound.proofs.term.weighted_gap.Goals as goal

pub overflow_mul-result-2 : goal.overflow_mul-result-2
overflow_mul-result-2 c = gap_fits c.args.weight c.args.n c.args.least c.args.sum c.requires.weight c.requires.few
    c.requires.least c.requires.sum

pub returns-clause-value : goal.returns-clause-value
returns-clause-value c = (gap_is c.args.weight c.args.n c.args.least c.args.sum c.requires.weight c.requires.few
    c.requires.least c.requires.sum).0

pub returns-clause-small : goal.returns-clause-small
returns-clause-small c =
    let w = gap_is c.args.weight c.args.n c.args.least c.args.sum c.requires.weight c.requires.few
    c.requires.least c.requires.sum in
    rw w.0 w.1
