use Rattle.std.proofs.Common.{arith}
use Rattle.instance_model.proofs.RiskListLemmas.{last_soft-set}
use Rattle.instance_model.proofs.risk_lists.mark_last.Goals as goal

pub returns-then-count-gt0 : goal.returns-then-count-gt0
returns-then-count-gt0 c = last_soft-set c.args.heads.now.items _ c.index_mut.result.now
    (omega (arith, c.len-count.ensures)) c.index_mut.ensures.value
