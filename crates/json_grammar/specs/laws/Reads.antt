-- How far the reader as a machine has read a stream. Not part of any promise: the definition of `Stands` and private
-- functions cite it.
use Rattle.std.specs.Prelude.{◌≡◌, ℕ, ◌≤◌, List, [], length, take, Some}
use Rattle.json_grammar.specs.Tree as json
use Rattle.json_grammar.specs.Stream.{IsShallowPrefix}
use Rattle.json_grammar.specs.laws.Machine.{State, st, want, run}

-- a machine has read the first bytes of the stream, which are sound, and told these events
pub record HasRead (stream : List ℕ) (at : ℕ) (state : State) (told : List json.Event) : Type 0 where
  pub within : at ≤ length stream
  pub runs : run 0 (st [] want) (take at stream) ≡ Some (state, told)
  pub sound : IsShallowPrefix (take at stream)
