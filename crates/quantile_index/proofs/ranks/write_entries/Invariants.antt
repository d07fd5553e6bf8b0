use Rattle.std.proofs.Common.{◌≡◌, ◌<◌, ℕ, pos, length, get_or}
use Rattle.quantile_index.specs.declared.entry.Entry.{Entry}
use Rattle.quantile_index.specs.SortKeys.{entry_of}
use Rattle.quantile_index.proofs.ranks.write_entries.Given as goal

abbrev pub invariant-loop-i : goal.invariant-loop-i
invariant-loop-i l = record {
  each : length l.entries ≡ length l.keys;
  done : (k : ℕ) (d : Entry) → k < l.i → get_or l.entries k d ≡ entry_of (get_or l.keys k (pos 0));
}
