-- What a reader knows of the bytes that were fed to it. Not part of any promise: only private functions cite it.
use Rattle.std.specs.Prelude.{◌≡◌, ℕ, ◌<◌, List, ◌++◌, length, take, Bool, false, Option, Some, None}
use Rattle.json_grammar.specs.Tree.{Tree, Event, events_of}
use Rattle.json_grammar.specs.Grammar.{IsText}
use Rattle.json_grammar.specs.Prefix.{IsSyntaxFault, IsDepthFault, IsShallow}
use Rattle.json_events.specs.PullViews.{PullView}
use Rattle.json_events.specs.Pulls.{Stands}
use Rattle.json_grammar.specs.declared.fault.TextFault.{TextFault}
use Rattle.json_grammar.specs.declared.fault.TextFault.TheVariants.{Syntax, TooDeep, Memory}
use Rattle.instance_model.specs.declared.limits.Limits.{Limits}
use Rattle.instance_shape.specs.Defined.{IsTreeOf}
use Rattle.instance_shape.specs.Ranges.{AreStandard}
use Rattle.shape_walk.specs.Standing.{Walk, StandsAfter}
use Rattle.shape_walk.specs.Kept.{kept}
use Rattle.instance_read.specs.Keeping.{keep, nothing_kept}
use Rattle.instance_read.specs.Keepers.{kept_of}
use Rattle.instance_read.specs.declared.keeper.Keeper.{Keeper}

-- a walk and a keeper have taken these events; the keeper only as long as there is no fault of shape
pub record HaveTaken (limits : Limits) (walk : Walk) (keeper : Keeper) (es : List Event) : Type 0 where
  pub stands : StandsAfter limits walk es
  pub kept : walk.fault ≡ None → kept_of keeper ≡ kept keep es nothing_kept

-- a text begins with these events
abbrev pub IsStartOf : List Event → Tree → Type 0
IsStartOf es root = take (length es) (events_of root) ≡ es

-- the events that the bytes tell were taken, and those that were taken are the
-- first of each text that begins with the bytes
pub record IsFollowing (limits : Limits) (pull : PullView) (walk : Walk) (keeper : Keeper)
    (bytes : List ℕ) : Type 0 where
  pub events : List Event
  pub pulled : Stands pull bytes (length events) false
  pub taken : HaveTaken limits walk keeper events
  pub first : (rest : List ℕ) (root : Tree) → IsText (bytes ++ rest) root → IsStartOf events root

-- the same of bytes that are all there are
pub record IsEnding (limits : Limits) (pull : PullView) (walk : Walk) (keeper : Keeper) (bytes : List ℕ) : Type 0 where
  pub events : List Event
  pub finished : Bool
  pub pulled : Stands pull bytes (length events) finished
  pub taken : HaveTaken limits walk keeper events
  pub first : (root : Tree) → IsText bytes root → IsStartOf events root

-- the bytes have a fault that all longer ones have too
abbrev pub HaveFault : List ℕ → TextFault → Type 0
HaveFault bytes (Syntax at) = IsSyntaxFault bytes at × IsShallow bytes at × (at < length bytes)
HaveFault bytes (TooDeep at) = IsDepthFault bytes at
HaveFault bytes Memory = ⊥

-- the bytes that are all there are have a fault
abbrev pub HaveLastFault : List ℕ → TextFault → Type 0
HaveLastFault bytes (Syntax at) = IsSyntaxFault bytes at × IsShallow bytes at
HaveLastFault bytes (TooDeep at) = IsDepthFault bytes at
HaveLastFault bytes Memory = ⊥

-- without a fault of the text the events are followed
abbrev pub Follows : Option TextFault → Limits → PullView → Walk → Keeper → List ℕ → Type 0
Follows None limits pull walk keeper bytes = IsFollowing limits pull walk keeper bytes
Follows (Some fault) limits pull walk keeper bytes = HaveFault bytes fault

-- the bytes are a text, all events of which were taken
pub record HaveEnded (limits : Limits) (walk : Walk) (keeper : Keeper) (bytes : List ℕ) : Type 0 where
  pub root : Tree
  pub text : IsTreeOf bytes root
  pub taken : HaveTaken limits walk keeper (events_of root)

-- without a fault of the text it has ended
abbrev pub Ends : Option TextFault → Limits → Walk → Keeper → List ℕ → Type 0
Ends None limits walk keeper bytes = HaveEnded limits walk keeper bytes
Ends (Some fault) limits walk keeper bytes = HaveLastFault bytes fault

-- limits that are at most the standard ones, and bytes of which a walk and a keeper have taken all events
pub record HaveEndedSomewhere (walk : Walk) (keeper : Keeper) : Type 0 where
  pub limits : Limits
  pub standard : AreStandard limits
  pub bytes : List ℕ
  pub ended : HaveEnded limits walk keeper bytes
