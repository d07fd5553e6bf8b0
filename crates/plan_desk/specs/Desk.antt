-- What a desk shows: the file that is read, the files that are written, what was said, and what has failed;
-- and what it shows after each of its calls.
use Rattle.std.specs.Prelude.{◌≡◌, ◌⊎◌, ℕ, Bool, true, false, List, [], ◌++◌, drop, Option, Some, None, IsSome}
use Rattle.std.specs.Prelude.{option_map, if◌then◌else◌, ◌&&◌, bytes_eq}
use Rattle.plan_desk.specs.declared.call.DeskCall.{DeskCall}

-- a call that failed, and the name of its file, which is empty for `say`
pub record Fault : Type 0 where
  pub call : DeskCall
  pub name : List ℕ

-- The file that is taken in, and the bytes of it that are still unread. Where no file is taken in, both are empty.
-- None: it is not told.
pub record Input : Type 0 where
  pub taken : Bool
  pub name : Option (List ℕ)
  pub unread : Option (List ℕ)

-- The file that is open for writing, whose name is empty where none is; the bytes that each file holds, none where
-- there is no such file; and the bytes that were written to each since it was last put out, none where it never was.
-- None: it is not told.
pub record Output : Type 0 where
  pub opened : Bool
  pub name : Option (List ℕ)
  pub holds : Option (List ℕ → Option (List ℕ))
  pub written : Option (List ℕ → Option (List ℕ))

-- how often a call has failed, and how often a `say` has, counts that stop at 2 ^ 64 - 1; and the last call that failed
-- (None: there is none, or it is not told)
pub record Faults : Type 0 where
  pub count : ℕ
  pub of_say : ℕ
  pub last : Option Fault

-- What a desk shows: its files; the bytes that were said (None: it is not told); and what has failed.
pub record Shown : Type 0 where
  pub input : Input
  pub output : Output
  pub said : Option (List ℕ)
  pub faults : Faults

-- what is unread, what files hold, what was written to them or the last fault is told
abbrev pub TellsFiles : Shown → Type 0
TellsFiles s = IsSome s.input.unread ⊎ (IsSome s.output.holds ⊎ (IsSome s.output.written ⊎ IsSome s.faults.last))

-- a desk that tells any of these tells the names of the file that is taken in and of the one that is open
abbrev pub TellsNames : Shown → Type 0
TellsNames s = TellsFiles s → IsSome s.input.name × IsSome s.output.name

-- the files, what is read and what was said are the same
pub record ShowsSame (new expected : Shown) : Type 0 where
  pub input : new.input ≡ expected.input
  pub output : new.output ≡ expected.output
  pub said : new.said ≡ expected.said

-- no file is taken in
abbrev pub none_taken : Input → Input
none_taken i = record {
  taken = false;
  name = option_map (λ _. []) i.name;
  unread = option_map (λ _. []) i.unread;
}

-- a file of this name is taken in, and these bytes of it are unread
abbrev pub file_taken : List ℕ → List ℕ → Input → Input
file_taken name bytes i = record {
  taken = true;
  name = option_map (λ _. name) i.name;
  unread = option_map (λ _. bytes) i.unread;
}

-- the next n bytes were read
abbrev pub input_after_read : ℕ → Input → Input
input_after_read n i = record i { unread = option_map (drop n) i.unread }

-- the files, with this at a name
abbrev pub put_at : {A : Type 0} → List ℕ → A → (List ℕ → A) → List ℕ → A
put_at name value files other = if bytes_eq other name then value else files other

-- no file is open for writing, and each holds what it held
abbrev pub none_open : Output → Output
none_open o = record o { opened = false; name = option_map (λ _. []) o.name }

-- the file of this name is empty and open for writing
abbrev pub file_open : List ℕ → Output → Output
file_open name o = record {
  opened = true;
  name = option_map (λ _. name) o.name;
  holds = option_map (put_at name (Some [])) o.holds;
  written = option_map (put_at name (Some [])) o.written;
}

-- the files, with these bytes at the end of the one of this name
abbrev pub append_at : Option (List ℕ) → List ℕ → (List ℕ → Option (List ℕ)) → List ℕ → Option (List ℕ)
append_at None bytes files = files
append_at (Some name) bytes files = put_at name (option_map (λ xs. xs ++ bytes) (files name)) files

-- these bytes were written to the file that is open
abbrev pub output_after_write : List ℕ → Output → Output
output_after_write bytes o = record o {
  holds = option_map (append_at o.name bytes) o.holds;
  written = option_map (append_at o.name bytes) o.written;
}

-- both names are told, and are the same
abbrev pub same_name : Option (List ℕ) → Option (List ℕ) → Bool
same_name (Some a) (Some b) = bytes_eq a b
same_name a b = false

-- these bytes were written to the file that is open: where it is the one that is taken in, they are unread there
abbrev pub input_after_write : List ℕ → Output → Input → Input
input_after_write bytes o i =
    record i {
      unread = if i.taken && same_name i.name o.name then option_map (λ xs. xs ++ bytes) i.unread else i.unread;
    }

-- the file of this name was taken in, and these bytes of it are unread
abbrev pub after_take_in : List ℕ → List ℕ → Shown → Shown
after_take_in name bytes s = record s { input = file_taken name bytes s.input }

-- a file was not taken in
abbrev pub after_failed_take_in : Shown → Shown
after_failed_take_in s = record s { input = none_taken s.input }

-- the next n bytes were read
abbrev pub after_read : ℕ → Shown → Shown
after_read n s = record s { input = input_after_read n s.input }

-- the file that is taken in was read to its end
abbrev pub all_read : Shown → Shown
all_read s = record s { input = record s.input { unread = option_map (λ _. []) s.input.unread } }

-- the file of this name was put out
abbrev pub after_put_out : List ℕ → Shown → Shown
after_put_out name s = record s { input = none_taken s.input; output = file_open name s.output }

-- a file was not put out: no file is changed, taken in or open
abbrev pub after_failed_put_out : Shown → Shown
after_failed_put_out s = record s { input = none_taken s.input; output = none_open s.output }

-- these bytes were written to the file that is open
abbrev pub after_write : List ℕ → Shown → Shown
after_write bytes s =
    record s { input = input_after_write bytes s.output s.input; output = output_after_write bytes s.output }

-- the file that was open is ended
abbrev pub after_finish_out : Shown → Shown
after_finish_out s = record s { output = none_open s.output }

-- these bytes were said
abbrev pub after_say : List ℕ → Shown → Shown
after_say bytes s = record s { said = option_map (λ xs. xs ++ bytes) s.said }
