-- That the two desks tell the names of their files.
use Rattle.std.specs.Prelude.{List, Option, Some, None, IsSome, refl}
use Rattle.std.proofs.Common.{inl, inr, sym}
use Rattle.std.proofs.lemmas.Bool.{true≢false}
use Rattle.plan_desk.specs.declared.files.Place.{Place}
use Rattle.plan_desk.specs.Stored.{Stored}
use Rattle.plan_desk.specs.Desk.{TellsNames}
use Rattle.plan_desk.specs.Mem.{MemState, mem_shows, mem_input}
use Rattle.plan_desk.specs.Real.{RealState, real_shows}

taken_name : (files : List Stored) (taken : Option Place) → IsSome (mem_input files taken).name
taken_name files None = refl
taken_name files (Some p) = refl

pub mem_names : (d : MemState) → TellsNames (mem_shows d)
mem_names d told = (taken_name d.files d.taken, refl)

-- a desk of real files tells nothing of them
pub real_names : (d : RealState) → TellsNames (real_shows d)
real_names d (inl told) = absurd (true≢false (sym told))
real_names d (inr (inl told)) = absurd (true≢false (sym told))
real_names d (inr (inr (inl told))) = absurd (true≢false (sym told))
real_names d (inr (inr (inr told))) = absurd (true≢false (sym told))
