-- A band whose limit all loads of a box leave. Cited by private functions only: no part of any promise.
use Rattle.std.specs.Prelude.{List}
use Rattle.instance_model.specs.Tables.{Tables}
use Rattle.lagrange_bound.specs.declared.span.Span.{Span}
use Rattle.certificate_tree.specs.Holding.{IsOffLimit}
use Rattle.branch_search.specs.declared.node_state.band.Band.{Band}
use Rattle.branch_search.specs.node_state.Bands.{IsBand}

-- the band is one of the instance, and whatever the starts are, its load leaves that limit
pub record IsOff (inst : Tables) (box : List Span) (band : Band) : Type 0 where
  pub is_band : IsBand inst band.c band.t
  pub load : IsOffLimit inst box band.c band.t band.side
