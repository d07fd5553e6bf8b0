-- What has been read of a price list. No public clause cites this.
use Rattle.std.specs.Prelude.{ℕ}
use Rattle.instance_model.specs.Tables.{Tables}
use Rattle.lagrange_bound.specs.Prices.{PriceList, zero_list}
use Rattle.certificate_text.specs.Grammar.{EntryKey, before_entries}
use Rattle.refined_text.specs.grammar.Further.{Further, no_further}
use Rattle.refined_text.specs.declared.read.kind.EntryKind.{EntryKind}
use Rattle.refined_text.specs.declared.read.kind.EntryKind.TheVariants.{Price, Cap, Group, Offset, Clique}

-- the prices on limits and exclusions, the key of the last of them, and what was read besides
pub record Part : Type 0 where
  pub prices : PriceList
  pub last : EntryKey
  pub further : Further

-- nothing was read
abbrev pub no_part : Tables → Part
no_part inst = record { prices = zero_list inst; last = before_entries; further = no_further inst }

-- the number of the kind of the last entry
abbrev pub kind_number : EntryKind → ℕ
kind_number Price = 0
kind_number Cap = 1
kind_number Group = 2
kind_number Offset = 3
kind_number Clique = 4
