-- Rust's frames as those of the definition. Not part of any promise: only private functions cite it.
use Rattle.std.specs.Prelude.{List, map, reverse}
use Rattle.shape_walk.specs.Machine as machine
use Rattle.shape_walk.specs.Seen.{seen_of}
use Rattle.shape_walk.specs.declared.frame.Frame.{Frame}
use Rattle.shape_walk.specs.declared.frame.Frame.TheVariants.{Outside, Object, List as Listed}

abbrev pub frame_of : Frame → machine.Frame
frame_of Outside = machine.outside
frame_of (Object o) = machine.in_object o.spot (seen_of o.seen) o.next
frame_of (Listed s n) = machine.in_list s n

-- the innermost first
abbrev pub frames_of : List Frame → List machine.Frame
frames_of fs = reverse (map frame_of fs)
