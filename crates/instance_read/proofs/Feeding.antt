-- What is known of a reader with one piece more.
use Rattle.std.proofs.Common.{◌≡◌, ℕ, false, true, List, ◌++◌, length, Option, Some, None, is_some, subst, append_assoc}
use Rattle.std.proofs.Common.{length-append, arith}
use Rattle.json_events.specs.PullViews.{PullView}
use Rattle.json_events.specs.Pulls.{Stands}
use Rattle.json_grammar.specs.Grammar.{IsText}
use Rattle.json_grammar.specs.declared.fault.TextFault.{TextFault}
use Rattle.json_grammar.specs.declared.fault.TextFault.TheVariants.{Syntax, TooDeep, Memory}
use Rattle.json_grammar.proofs.LawsStays.{syntax_stays, shallow_stays, depth_stays}
use Rattle.instance_model.specs.declared.limits.Limits.{Limits}
use Rattle.shape_walk.specs.Standing.{Walk}
use Rattle.instance_read.specs.Readers.{Follows, HaveFault, IsFollowing}
use Rattle.instance_read.specs.declared.keeper.Keeper.{Keeper}

-- a fault stays
fault_stays : (bytes piece : List ℕ) (fault : TextFault) → HaveFault bytes fault → HaveFault (bytes ++ piece) fault
fault_stays bytes piece (Syntax at) h = (
  syntax_stays bytes piece at h.2 h.0,
  shallow_stays bytes piece at (omega (arith, h.2)) h.1,
  omega (arith, h.2, length-append bytes piece),
)
fault_stays bytes piece (TooDeep at) h = depth_stays bytes piece at h
fault_stays bytes piece Memory h = h

pub still_follows : (o : Option TextFault) (limits : Limits) (pull : PullView) (walk : Walk) (keeper : Keeper)
    (bytes piece : List ℕ) → is_some o ≡ true → Follows o limits pull walk keeper bytes
    → Follows o limits pull walk keeper (bytes ++ piece)
still_follows None limits pull walk keeper bytes piece e h = cc
still_follows (Some fault) limits pull walk keeper bytes piece e h = fault_stays bytes piece fault h

-- without a fault the piece stands behind the bytes
pub pushed_follows : (o : Option TextFault) (limits : Limits) (old new : PullView) (walk : Walk) (keeper : Keeper)
    (bytes piece : List ℕ) → is_some o ≡ false
    → ((given : ℕ) → Stands old bytes given false → Stands new (bytes ++ piece) given false)
    → Follows o limits old walk keeper bytes → IsFollowing limits new walk keeper (bytes ++ piece)
pushed_follows (Some fault) limits old new walk keeper bytes piece e stands h = cc
pushed_follows None limits old new walk keeper bytes piece e stands h = record {
  events = h.events;
  pulled = stands (length h.events) h.pulled;
  taken = h.taken;
  first = λ rest root t. h.first (piece ++ rest) root (subst (λ z. IsText z root) (append_assoc bytes piece rest) t);
}
