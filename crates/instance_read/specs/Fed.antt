-- Which bytes a reader was fed. Not part of any promise: only private functions cite it.
use Rattle.std.specs.Prelude.{◌≡◌, ℕ, ◌≤◌, List, [], length, take, Option, IfSome}
use Rattle.instance_model.specs.declared.limits.Limits.{Limits}
use Rattle.instance_shape.specs.Ranges.{AreStandard}
use Rattle.instance_read.specs.Readers.{Follows}
use Rattle.instance_read.specs.declared.reader.Reader.{Reader}

-- the reader was fed these bytes, under these limits
abbrev pub HasRead : Limits → Reader → List ℕ → Type 0
HasRead limits reader bytes = Follows reader.fault limits reader.pull reader.walk reader.keeper bytes

-- it was fed some bytes, under limits that are at most the standard ones
pub record HasReadSome (reader : Reader) : Type 0 where
  pub limits : Limits
  pub standard : AreStandard limits
  pub bytes : List ℕ
  pub read : HasRead limits reader bytes

-- nothing was fed to it, under limits that are at most the standard ones
pub record IsUnfed (reader : Reader) : Type 0 where
  pub limits : Limits
  pub standard : AreStandard limits
  pub read : HasRead limits reader []

-- the first `count` unread bytes of a file were fed, where they are told
pub record HasFed (unread : Option (List ℕ)) (count : ℕ) (old new : Reader) : Type 0 where
  pub bytes : List ℕ
  pub size : length bytes ≡ count
  pub are : IfSome unread (λ rest. (count ≤ length rest) × (bytes ≡ take count rest))
  pub read : (limits : Limits) → HasRead limits old [] → HasRead limits new bytes

-- all unread bytes of a file, which are within a limit, are such
pub record HasRest (unread : Option (List ℕ)) (limit : ℕ) (P : List ℕ → Type 0) : Type 0 where
  pub bytes : List ℕ
  pub within : length bytes ≤ limit
  pub are : IfSome unread (λ rest. rest ≡ bytes)
  pub such : P bytes
