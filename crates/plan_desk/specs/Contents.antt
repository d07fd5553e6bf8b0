-- What the layers above say of a desk: what its files hold, and what was said in a call.
use Rattle.std.specs.Prelude.{◌≡◌, ◌⊎◌, ℕ, ◌+◌, ◌^◌, ◌<◌, ◌≤◌, List, ◌++◌, drop, Some, IfSome, IsSomeAnd, option_map}
use Rattle.plan_desk.specs.declared.read_fault.ReadFault.{ReadFault}
use Rattle.plan_desk.specs.declared.read_fault.ReadFault.TheVariants.{Failed, TooLong, Memory}
use Rattle.plan_desk.specs.Desk.{Shown, ShowsSame, after_take_in, after_failed_take_in}

-- the file of this name holds these bytes, where that is told
abbrev pub HoldsBytes : Shown → List ℕ → List ℕ → Type 0
HoldsBytes s name bytes = IfSome s.output.holds (λ holds. holds name ≡ Some bytes)

-- The bytes of the file of this name are such, or it is not told what is read or what files hold. For a conclusion:
-- not told makes it true.
abbrev pub WhereToldHolds : Shown → List ℕ → (List ℕ → Type 0) → Type 0
WhereToldHolds s name P = IfSome s.input.unread (λ _. IfSome s.output.holds (λ holds. IsSomeAnd (holds name) P))

-- It is told what is read and what files hold, and the bytes of the file of this name are such. For a premise: not told
-- makes it false.
abbrev pub TellsSuch : Shown → List ℕ → (List ℕ → Type 0) → Type 0
TellsSuch s name P = IsSomeAnd s.input.unread (λ _. IsSomeAnd s.output.holds (λ holds. IsSomeAnd (holds name) P))

-- the text was said between these two, and nothing else, where that is told
abbrev pub Says : List ℕ → Shown → Shown → Type 0
Says text old new = new.said ≡ option_map (λ said. said ++ text) old.said

-- What a read of a whole file leaves that came to no end: no file is taken in, or the one of this name is, and some
-- first bytes of it were read
abbrev pub StopsReading : List ℕ → (old new : Shown) → Type 0
StopsReading name old new = ShowsSame new (after_failed_take_in old)
    ⊎ ((bytes : List ℕ)
    × ((count : ℕ) × (HoldsBytes old name bytes × ShowsSame new (after_take_in name (drop count bytes) old))))

-- How many bytes of a file were read by a loop that came to no end: no more than the limit; where the file is too long,
-- past the limit by no more than one piece, of at most 2 ^ 16 bytes
abbrev pub IsCountAt : (limit : ℕ) → ReadFault → ℕ → Type 0
IsCountAt limit TooLong count = (limit < count) × (count ≤ limit + 2 ^ 16)
IsCountAt limit Failed count = count ≤ limit
IsCountAt limit Memory count = count ≤ limit

-- where such a loop stops: its file was not taken in, or so many first bytes of it were read
abbrev pub StopsAt : List ℕ → (limit : ℕ) → (old new : Shown) → ReadFault → Type 0
StopsAt name limit old new fault = ((fault ≡ Failed) × ShowsSame new (after_failed_take_in old))
    ⊎ ((bytes : List ℕ)
    × ((count : ℕ)
    × (IsCountAt limit fault count
    × (HoldsBytes old name bytes × ShowsSame new (after_take_in name (drop count bytes) old)))))

-- a call that only reads: what files hold and what was said is as before
pub record OnlyReads (old new : Shown) : Type 0 where
  pub output : new.output ≡ old.output
  pub said : new.said ≡ old.said

-- a call that writes no file: what files hold is as before
abbrev pub KeepsFiles : (old new : Shown) → Type 0
KeepsFiles old new = new.output ≡ old.output
