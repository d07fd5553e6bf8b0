use Rattle.worked_searches.proofs.FallLemmas.{descents_replay_falling}
use Rattle.worked_searches.proofs.moves.laws.descents_replay_to_falling_keys.Goals as goal

pub returns : goal.returns
returns c = descents_replay_falling
