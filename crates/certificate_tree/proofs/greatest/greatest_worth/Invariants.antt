use Rattle.std.proofs.Common.{◌≡◌, ◌-◌, ◌<◌, ◌^◌, unsigned_abs}
use Rattle.certificate_tree.specs.Holding.{IsGreatest}
use Rattle.certificate_tree.specs.PriceTables.{table_worths}
use Rattle.certificate_tree.proofs.greatest.greatest_worth.Given as goal

abbrev pub invariant-loop-j : goal.invariant-loop-j
invariant-loop-j l = record {
  table : IsGreatest (table_worths l.tables l.spans) (l.j - 1) l.table;
  value : l.most ≡ table_worths l.tables l.spans l.table;
  small : unsigned_abs l.most < 10 ^ 37;
}
