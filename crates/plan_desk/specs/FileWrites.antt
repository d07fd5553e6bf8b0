-- Files that are opened, written whole and ended one after another, and what a write leaves that stopped.
use Rattle.std.specs.Prelude.{ℕ, ◌<◌, List, [], ◌∷◌, length, take, slice_index_or}
use Rattle.plan_desk.specs.declared.call.DeskCall.{DeskCall}
use Rattle.plan_desk.specs.declared.call.DeskCall.TheVariants.{TakeIn, Read, PutOut, Write, FinishOut, Say}
use Rattle.plan_desk.specs.Desk.{Shown, ShowsSame, after_put_out, after_failed_put_out, after_write, after_finish_out}

-- a file to be written: its name, and all bytes that it is to hold
pub record FileWrite : Type 0 where
  pub name : List ℕ
  pub bytes : List ℕ

-- the file was opened, written whole and ended
abbrev pub after_file : FileWrite → Shown → Shown
after_file file s = after_finish_out (after_write file.bytes (after_put_out file.name s))

-- so were these, one after another
abbrev pub after_writes : List FileWrite → Shown → Shown
after_writes [] s = s
after_writes (file ∷ files) s = after_writes files (after_file file s)

-- What the write of a file left behind, where this call failed: a `put_out` changes no file; a `write` leaves a first
-- part of the bytes, not all, in the file, which is still open; and a `finish_out` leaves the whole file.
abbrev pub StopsFile : FileWrite → DeskCall → (old new : Shown) → Type 0
StopsFile file PutOut old new = ShowsSame new (after_failed_put_out old)
StopsFile file Write old new =
    (n : ℕ) × (n < length file.bytes) × ShowsSame new (after_write (take n file.bytes) (after_put_out file.name old))
StopsFile file FinishOut old new = ShowsSame new (after_file file old)
StopsFile file TakeIn old new = ⊥
StopsFile file Read old new = ⊥
StopsFile file Say old new = ⊥

-- of these files the first n were written, and the write of the next one stopped at this call
pub record StopsWrites (files : List FileWrite) (n : ℕ) (call : DeskCall) (old new : Shown) : Type 0 where
  pub within : n < length files
  pub stops : StopsFile (slice_index_or files n (record { name = []; bytes = [] })) call
      (after_writes (take n files) old) new
