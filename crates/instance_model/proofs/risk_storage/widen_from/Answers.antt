use Rattle.instance_model.proofs.RiskStorageLemmas.{moved_behind}
use Rattle.instance_model.proofs.risk_storage.widen_from.Goals as goal

pub returns-clause-ok : goal.returns-clause-ok
returns-clause-ok c = rw (
  c.truncate.ensures.items,
  c.in_ok-push.ensures.items,
  c.in_ok-push_widened.ensures.ok,
  c.in_ok-reserve.ensures.items,
  c.requires.none,
  c.deref.ensures.value,
) (moved_behind c.args.narrow.now.items c.args.number c.args.first)
