-- Keys that fall, as a replay says them of the changes of a descent.
use Rattle.std.specs.Prelude.{ℕ, ⊤, List, [], ◌∷◌, map}
use Rattle.instance_model.specs.declared.key.Key.{Key}
use Rattle.instance_model.specs.Tables.{Tables}
use Rattle.instance_model.specs.Keys.{KeyBelow}
use Rattle.plan_moves.specs.declared.change.Change.{Change}
use Rattle.plan_moves.specs.Scripts.{line_of, keys_of, Succeeds}
use Rattle.local_search.specs.Descents.{AllLower}

-- the first of some keys, where there is one, is lower than a key
abbrev pub StartBelow : Key → List Key → Type 0
StartBelow key [] = ⊤
StartBelow key (next ∷ keys) = KeyBelow next key

-- each key is lower than the one before it
abbrev pub AreFalling : List Key → Type 0
AreFalling [] = ⊤
AreFalling (key ∷ keys) = StartBelow key keys × AreFalling keys

-- changes, as lines of a script that is replayed from a plan: no line fails, and the keys fall
pub record ReplaysFalling (inst : Tables) (opening : List ℕ) (changes : List Change) : Type 0 where
  pub succeeds : Succeeds inst opening (map line_of changes)
  pub falling : AreFalling (keys_of inst opening (map line_of changes))

-- the changes of each descent are such, from the plan where it began
abbrev pub DescentsReplayFalling : Type 0
DescentsReplayFalling = (inst : Tables) (opening : List ℕ) (changes : List Change) → AllLower inst opening changes
    → ReplaysFalling inst opening changes
