-- Defines the fault of a file that counts, and says that a file has one answer, and
-- that it has some: an instance, or a fault.
use Rattle.std.specs.Prelude.{◌≡◌, ◌⊎◌, ℕ, ℤ, List}
use Rattle.json_grammar.specs.Prefix.{IsSyntaxFault, IsDepthFault, IsShallow}
use Rattle.instance_model.specs.Tables.{Tables}
use Rattle.instance_model.specs.declared.limits.Limits.{Limits}
use Rattle.instance_shape.specs.declared.fault.Fault.{Fault}
use Rattle.instance_shape.specs.CrossFaults.{CrossFault}
use Rattle.instance_shape.specs.Defined.{Defines, HasShapeFault, HasCrossFault}

-- a fault of the text, with its place; of the shape; or across the file
pub data FileFault : Type 0 where
  syntax : (at : ℕ) → FileFault
  too_deep : (at : ℕ) → FileFault
  shape : Fault → FileFault
  across : CrossFault → FileFault

-- the bytes have this fault: of the text where they are no JSON text nested at most 16 deep, else the one of the shape
-- that counts, and else the first one across the file
abbrev pub HasFileFault : Limits → List ℕ → FileFault → Type 0
HasFileFault limits bytes (syntax at) = IsSyntaxFault bytes at × IsShallow bytes at
HasFileFault limits bytes (too_deep at) = IsDepthFault bytes at
HasFileFault limits bytes (shape f) = HasShapeFault limits bytes f
HasFileFault limits bytes (across f) = HasCrossFault limits bytes f

-- bytes stand for at most one instance, and have at most one fault, and not both
pub record HaveOneAnswer (limits : Limits) (slack : ℤ) (bytes : List ℕ) : Type 0 where
  pub instance : (a b : Tables) → Defines limits slack bytes a → Defines limits slack bytes b → a ≡ b
  pub fault : (f g : FileFault) → HasFileFault limits bytes f → HasFileFault limits bytes g → f ≡ g
  pub apart : (a : Tables) (f : FileFault) → Defines limits slack bytes a → HasFileFault limits bytes f → ⊥

-- bytes stand for an instance, or have a fault that counts
abbrev pub HaveSomeAnswer : Limits → ℤ → List ℕ → Type 0
HaveSomeAnswer limits slack bytes =
    ((inst : Tables) × Defines limits slack bytes inst) ⊎ ((f : FileFault) × HasFileFault limits bytes f)
