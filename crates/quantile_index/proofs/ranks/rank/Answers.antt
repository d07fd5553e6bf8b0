use Rattle.std.proofs.lemmas.List.Sorted.{All-permutation}
use Rattle.quantile_index.specs.SortKeys.{IsKeyIn}
use Rattle.quantile_index.proofs.KeyLemmas.{IsRanking-sorted}
use Rattle.quantile_index.proofs.ranks.rank.Goals as goal

pub sort_keys-requires-clause-small : goal.sort_keys-requires-clause-small
sort_keys-requires-clause-small g c = λ k d l. (c.read_keys.ensures.read k d l).small

pub returns-clause-ranking : goal.returns-clause-ranking
returns-clause-ranking g c =
    IsRanking-sorted c.args.from.now c.read_keys.new.keys c.sort_keys.new.keys c.read_keys.ensures.entries
    c.sort_keys.ensures.permutation c.sort_keys.ensures.sorted

pub returns-clause-read : goal.returns-clause-read
returns-clause-read g c =
    All-permutation (IsKeyIn c.args.from.now) c.read_keys.new.keys c.sort_keys.new.keys
    c.sort_keys.ensures.permutation c.read_keys.ensures.read
