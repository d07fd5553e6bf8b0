-- Defines what a text stands for: the instance of a text without a fault, its fault of shape, or its fault across the
-- file. A text is a JSON text nested at most 16 deep; the limits, the slack in 10^-12 and the bytes are given.
use Rattle.std.specs.Prelude.{◌≡◌, ℕ, ℤ, List, [], Some, None}
use Rattle.instance_model.specs.Tables.{Tables}
use Rattle.instance_model.specs.declared.limits.Limits.{Limits}
use Rattle.json_grammar.specs.Tree.{Tree}
use Rattle.json_grammar.specs.Grammar.{IsText}
use Rattle.json_grammar.specs.Prefix.{first_past}
use Rattle.instance_shape.specs.declared.fault.Fault.{Fault}
use Rattle.instance_shape.specs.ShapeFaults.{shape_faults, IsLeast}
use Rattle.instance_shape.specs.CrossFaults.{CrossFault, cross_fault}
use Rattle.instance_shape.specs.FileTables.{tables}

-- the bytes are a JSON text nested at most 16 deep, and this is its tree
pub record IsTreeOf (bytes : List ℕ) (root : Tree) : Type 0 where
  pub text : IsText bytes root
  pub shallow : first_past 16 root ≡ None

-- the instance of a text without a fault
pub record Defines (limits : Limits) (slack : ℤ) (bytes : List ℕ) (inst : Tables) : Type 0 where
  pub root : Tree
  pub text : IsTreeOf bytes root
  pub shaped : shape_faults limits root ≡ []
  pub fitting : cross_fault root ≡ None
  pub tables : inst ≡ tables slack root

-- the fault of shape that counts: the one of least place, at one place the earlier one in the table's order
pub record HasShapeFault (limits : Limits) (bytes : List ℕ) (f : Fault) : Type 0 where
  pub root : Tree
  pub text : IsTreeOf bytes root
  pub least : IsLeast (shape_faults limits root) f

-- the fault across a file of the right shape
pub record HasCrossFault (limits : Limits) (bytes : List ℕ) (f : CrossFault) : Type 0 where
  pub root : Tree
  pub text : IsTreeOf bytes root
  pub shaped : shape_faults limits root ≡ []
  pub first : cross_fault root ≡ Some f
