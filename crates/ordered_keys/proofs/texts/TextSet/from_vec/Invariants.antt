use Rattle.std.proofs.Common.{◌≡◌, [], string_eq}
use Rattle.indexmap.specs.IndexSet.{insert_all}
use Rattle.ordered_keys.proofs.texts.TextSet.from_vec.Given as goal

abbrev pub invariant-loop-text : goal.invariant-loop-text
invariant-loop-text l = l.set.texts.keys ≡ insert_all string_eq [] l.yielded
