use Rattle.std.proofs.Common.{◌≡◌, ◌≤◌, ℕ, Vec, Global, length, map, string_bytes, get_or}
use Rattle.instance_rows.specs.Filled.{AreTablesOf}
use Rattle.instance_rows.specs.Views.{work_view}
use Rattle.instance_rows.proofs.fill.work_tables.Given as goal

abbrev pub invariant-loop-work : goal.invariant-loop-work
invariant-loop-work l = record {
  tables : AreTablesOf l.periods (map string_bytes l.resources.texts.keys) (map work_view l.yielded) l.tables;
  each : length l.orders.items ≡ length l.initial.orders.items;
  rest : (k : ℕ) (d : Vec ℕ Global) → length l.yielded ≤ k
      → get_or l.orders.items k d ≡ get_or l.initial.orders.items k d;
}
