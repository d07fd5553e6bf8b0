-- The first flaw of two lists of faults, one behind the other.
use Rattle.std.proofs.Common.{◌≡◌, ℕ, List, [], ◌∷◌, ◌++◌, Option, Some, None, refl}
use Rattle.std.specs.Option.{option_or}
use Rattle.instance_shape.specs.declared.fault.Fault.{Fault}
use Rattle.instance_shape.specs.declared.fault.Flaw.{Flaw}
use Rattle.shape_walk.specs.Flaws.{first_flaw, flaw_at}

pub first_flaw-append : (a b : List Fault) → first_flaw (a ++ b) ≡ option_or (first_flaw a) (first_flaw b)
first_flaw-append [] b = refl
first_flaw-append (f ∷ a) b = refl

pub no_flaw : (at : ℕ) (o : Option Flaw) → flaw_at at o ≡ None → o ≡ None
no_flaw at None h = refl
no_flaw at (Some f) h = cc

pub no_later : (a b : Option Flaw) → option_or a b ≡ None → b ≡ None
no_later None b h = h
no_later (Some f) b h = cc
