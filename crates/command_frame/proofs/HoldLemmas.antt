-- What files hold after some were written, or after the writing of one stopped.
use Rattle.std.proofs.Common.{◌≡◌, ◌≢◌, inl, inr, ℕ, zero, suc, refl, ◌∙◌, ap, Bool, true}
use Rattle.std.proofs.Common.{false, List, [], ◌∷◌, ◌++◌, take, get_or, Option, Some, None, All}
use Rattle.std.specs.Prelude.{option_map, IfSome, IsSome, bytes_eq, if◌then◌else◌}
use Rattle.std.proofs.lemmas.Slice.Eq.{bytes_eq-Decides}
use Rattle.std.proofs.lemmas.Bool.{false≢true}
use Rattle.std.proofs.lemmas.List.Elements.{All-head, All-tail, All-nil, All-cons}
use Rattle.plan_desk.specs.declared.call.DeskCall.{DeskCall}
use Rattle.plan_desk.specs.declared.call.DeskCall.TheVariants.{TakeIn, Read, PutOut, Write, FinishOut, Say}
use Rattle.plan_desk.specs.Desk.{Shown, Output, TellsNames, put_at, none_open, file_open, output_after_write}
use Rattle.plan_desk.specs.FileWrites.{FileWrite, after_file, after_writes, StopsFile, StopsWrites}

-- what files hold, by name
abbrev pub Holdings : Type 0
Holdings = Option (List ℕ → Option (List ℕ))

-- what the file of this name holds, where that is told
abbrev pub at_name : List ℕ → Holdings → Option (Option (List ℕ))
at_name name holds = option_map (λ files. files name) holds

put_at-same : {A : Type 0} (name : List ℕ) (v : A) (files : List ℕ → A) → put_at name v files name ≡ v
put_at-same name v files =
    ap (λ (b : Bool). if b then v else files name) ((bytes_eq-Decides name name).1 refl)

put_at-other : {A : Type 0} (name other : List ℕ) (v : A) (files : List ℕ → A) → other ≢ name
    → put_at name v files other ≡ files other
put_at-other {A = A} name other v files apart = at (bytes_eq other name) refl
  where
    at : (b : Bool) → bytes_eq other name ≡ b → (if b then v else files other) ≡ files other
    at true e = absurd (apart ((bytes_eq-Decides other name).0 e))
    at false e = refl

-- ---- one file

-- an output after some bytes were written to a file that was opened
abbrev pub begun : List ℕ → List ℕ → Output → Output
begun name bytes o = output_after_write bytes (file_open name o)

-- another file holds what it held
pub others_begun : (name bytes other : List ℕ) (o : Output) → other ≢ name
    → at_name other (begun name bytes o).holds ≡ at_name other o.holds
others_begun name bytes other o apart = go o.holds o.name
  where
    go : (holds : Holdings) (told : Option (List ℕ))
        → at_name other (begun name bytes (record o { holds = holds; name = told })).holds ≡ at_name other holds
    go None told = refl
    go (Some files) None = ap Some (put_at-other name other (Some []) files apart)
    go (Some files) (Some other_name) =
        ap Some (put_at-other name other
        (option_map (λ xs. xs ++ bytes) (put_at name (Some []) files name)) (put_at name (Some []) files) apart
        ∙ put_at-other name other (Some []) files apart)

-- names are told where holdings are
abbrev pub IsNamed : Output → Type 0
IsNamed o = IsSome o.holds → IsSome o.name

pub named_output : (s : Shown) → TellsNames s → IsNamed s.output
named_output s names some = (names (inr (inl some))).1

-- the file holds its bytes
pub own_begun : (name bytes : List ℕ) (o : Output) → IsNamed o
    → IfSome (begun name bytes o).holds (λ files. files name ≡ Some bytes)
own_begun name bytes o named = go o.holds o.name named
  where
    go : (holds : Holdings) (told : Option (List ℕ)) → (IsSome holds → IsSome told)
        → IfSome (begun name bytes (record o { holds = holds; name = told })).holds (λ files. files name ≡ Some bytes)
    go None told named = tt
    go (Some files) None named = absurd (false≢true (named refl))
    go (Some files) (Some other_name) named =
        put_at-same name (option_map (λ xs. xs ++ bytes) (put_at name (Some []) files name))
        (put_at name (Some []) files)
        ∙ ap (option_map (λ xs. xs ++ bytes)) (put_at-same name (Some []) files)

named_begun : (name bytes : List ℕ) (o : Output) → IsNamed o → IsNamed (none_open (begun name bytes o))
named_begun name bytes o named = go o.holds o.name named
  where
    go : (holds : Holdings) (told : Option (List ℕ)) → (IsSome holds → IsSome told)
        → IsNamed (none_open (begun name bytes (record o { holds = holds; name = told })))
    go None told named some = absurd (false≢true some)
    go (Some files) None named some = absurd (false≢true (named refl))
    go (Some files) (Some other_name) named some = refl

-- ---- several files

-- none of these files has this name
abbrev pub IsNoneOf : List ℕ → List FileWrite → Type 0
IsNoneOf name files = All (λ file. name ≢ file.name) files

pub others_after : (files : List FileWrite) (s : Shown) (name : List ℕ) → IsNoneOf name files
    → at_name name (after_writes files s).output.holds ≡ at_name name s.output.holds
others_after [] s name none = refl
others_after (file ∷ files) s name none =
    others_after files (after_file file s) name (All-tail (λ f. name ≢ f.name) file files none)
    ∙ others_begun file.name file.bytes name s.output (All-head (λ f. name ≢ f.name) file files none)

pub named_after : (files : List FileWrite) (s : Shown) → IsNamed s.output → IsNamed (after_writes files s).output
named_after [] s named = named
named_after (file ∷ files) s named =
    named_after files (after_file file s) (named_begun file.name file.bytes s.output named)

pub held_alike : (a b : Holdings) (name bytes : List ℕ) → at_name name b ≡ at_name name a
    → IfSome a (λ files. files name ≡ Some bytes) → IfSome b (λ files. files name ≡ Some bytes)
held_alike a None name bytes same held = tt
held_alike None (Some files) name bytes same held = absurd (apart same)
  where
    apart : Some (files name) ≡ None → ⊥
    apart e = cc
held_alike (Some old) (Some files) name bytes same held = inside same ∙ held
  where
    inside : Some (files name) ≡ Some (old name) → files name ≡ old name
    inside e = cc

-- a file that was written holds its bytes, whatever files of other names are written behind it
pub held_after : (file : FileWrite) (files : List FileWrite) (s : Shown) → IsNamed s.output
    → IsNoneOf file.name files
    → IfSome (after_writes (file ∷ files) s).output.holds (λ held. held file.name ≡ Some file.bytes)
held_after file files s named none =
    held_alike (after_file file s).output.holds (after_writes files (after_file file s)).output.holds file.name
    file.bytes (others_after files (after_file file s) file.name none)
    (own_begun file.name file.bytes s.output named)

-- ---- the writing of a file that stopped

others_stop : (file : FileWrite) (call : DeskCall) (old new : Shown) (name : List ℕ) → name ≢ file.name
    → StopsFile file call old new → at_name name new.output.holds ≡ at_name name old.output.holds
others_stop file PutOut old new name apart stops = ap (λ (o : Output). at_name name o.holds) stops.output
others_stop file Write old new name apart stops =
    ap (λ (o : Output). at_name name o.holds) stops.2.output
    ∙ others_begun file.name (take stops.0 file.bytes) name old.output apart
others_stop file FinishOut old new name apart stops =
    ap (λ (o : Output). at_name name o.holds) stops.output
    ∙ others_begun file.name file.bytes name old.output apart
others_stop file TakeIn old new name apart stops = absurd stops
others_stop file Read old new name apart stops = absurd stops
others_stop file Say old new name apart stops = absurd stops

none_taken_of : (files : List FileWrite) (n : ℕ) (name : List ℕ) → IsNoneOf name files → IsNoneOf name (take n files)
none_taken_of [] zero name none = none
none_taken_of [] (suc n) name none = none
none_taken_of (file ∷ files) zero name none = All-nil (λ f. name ≢ f.name)
none_taken_of (file ∷ files) (suc n) name none =
    All-cons (λ f. name ≢ f.name) file (take n files) (All-head (λ f. name ≢ f.name) file files none)
    (none_taken_of files n name (All-tail (λ f. name ≢ f.name) file files none))

pub others_stopped : (files : List FileWrite) (n : ℕ) (call : DeskCall) (old new : Shown) (name : List ℕ)
    → IsNoneOf name files → StopsWrites files n call old new
    → at_name name new.output.holds ≡ at_name name old.output.holds
others_stopped files n call old new name none stops =
    others_stop (get_or files n (record { name = []; bytes = [] })) call (after_writes (take n files) old) new name
    (none n (record { name = []; bytes = [] }) stops.within) stops.stops
    ∙ others_after (take n files) old name (none_taken_of files n name none)
