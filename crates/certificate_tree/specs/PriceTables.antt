-- The tables of the price lists of a tree, that of list 0 first.
use Rattle.std.specs.Prelude.{◌≡◌, ℕ, ◌+◌, ◌-◌, pos, List, [], length, All, slice_index_or}
use Rattle.instance_model.specs.Tables.{Tables}
use Rattle.lagrange_bound.specs.Prices.{PriceList}
use Rattle.lagrange_bound.specs.Goals.{Bases}
use Rattle.lagrange_bound.specs.Tabulated.{PriceRows, worth_in}
use Rattle.lagrange_bound.specs.PricedTables.{IsPricedTable}
use Rattle.certificate_lines.specs.declared.line.Bound.{Bound}
use Rattle.certificate_tree.specs.declared.node.Node.{Node}
use Rattle.certificate_tree.specs.Holding.{Worths, worth_by}
use Rattle.certificate_tree.specs.Validity.{Claim, AreSameWorths}

-- the worths of boxes by tables
abbrev pub table_worths : List PriceRows → Worths
table_worths tables box j = worth_in (slice_index_or tables j (record { rows = []; fixed = pos 0 })) box

-- what is claimed by tables, of which the first is that of list 0
abbrev pub claim_by : Bound → List PriceRows → List Node → Claim
claim_by bound tables nodes =
    record { bound = bound; lists = length tables - 1; worths = table_worths tables; nodes = nodes }

-- the tables are those of list 0 and of so many others, and give these worths
pub record AreTablesOf (inst : Tables) (lists : ℕ) (worths : Worths) (tables : List PriceRows) : Type 0 where
  pub each : length tables ≡ lists + 1
  pub priced : All (IsPricedTable inst) tables
  pub same : AreSameWorths inst lists (table_worths tables) worths

-- those of the price lists of a certificate, for a goal's bases
abbrev pub AreTables : Bases → Tables → List PriceList → List PriceRows → Type 0
AreTables base inst lists tables = AreTablesOf inst (length lists) (worth_by base inst lists) tables
