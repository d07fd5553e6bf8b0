-- The command line. A word is the list of its bytes; words count from 1, and word 1 is the name of the command.
use Rattle.std.specs.Prelude.{◌≡◌, ℕ, List, [], ◌∷◌, length, codes, bytes_eq, nat_lt, ◌==◌, ◌&&◌, Option, Some, None}
use Rattle.std.specs.Prelude.{option_map, if◌then◌else◌}
use Rattle.std.specs.List.{position_or_len, before_first, after_first}
use Rattle.branch_search.specs.declared.part.Part.{Part}
use Rattle.branch_search.specs.Parts.{whole_part}
use Rattle.command_words.specs.Files.{is_file_word, are_file_words, given_of, are_apart}
use Rattle.command_words.specs.Numbers.{turns_of, seed_of}
use Rattle.command_words.specs.Ends.{source_of}
use Rattle.command_words.specs.Parsing.{of_both}
use Rattle.command_frame.specs.Sources.{Source}

-- What a command line asks for, with the names of its files. A check has its plan as word 3, if it has one, and its
-- certificate as word 4. What is rebound has its certificate as word 3, and is written to word 4. A bound has a plan as
-- word 3 and a certificate that it goes on with as word 4, each if it has one, and is written to word 5. It splits the
-- leaves of one part of that certificate. An improvement has its plan as word 3, if it has one, and is written to
-- word 4.
pub data Command : Type 0 where
  check : (source : Source) (plan : Option (List ℕ)) (certificate : List ℕ) → Command
  rebound : (source : Source) (certificate out : List ℕ) → Command
  bound : (source : Source) (plan certificate : Option (List ℕ)) (out : List ℕ) (turns : ℕ) (part : Part) → Command
  improve : (source : Source) (plan : Option (List ℕ)) (out : List ℕ) (turns seed : ℕ) → Command

-- ---- the words of each command behind its name; `end` is one word `slack=D`, or none

-- `check INSTANCE PLAN CERTIFICATE`, where PLAN may be `-`, for none
abbrev pub check_of : List (List ℕ) → Option Command
check_of (instance ∷ plan ∷ cert ∷ end) =
    if is_file_word plan && is_file_word cert
    then option_map (λ source. check source (given_of plan) cert) (source_of instance end)
    else None
check_of words = None

-- `rebound INSTANCE CERTIFICATE OUT`, three files whose names differ
abbrev pub rebound_of : List (List ℕ) → Option Command
rebound_of (instance ∷ cert ∷ out ∷ end) =
    if are_file_words (cert ∷ out ∷ []) && are_apart (instance ∷ cert ∷ out ∷ [])
    then option_map (λ source. rebound source cert out) (source_of instance end)
    else None
rebound_of words = None

-- a name, if it is given, and others
abbrev pub with_given : Option (List ℕ) → List (List ℕ) → List (List ℕ)
with_given None names = names
with_given (Some name) names = name ∷ names

-- the names of the files of a bound that are given
abbrev pub bound_names : (instance : List ℕ) → (plan cert : Option (List ℕ)) → (out : List ℕ) → List (List ℕ)
bound_names instance plan cert out = instance ∷ with_given plan (with_given cert (out ∷ []))

-- part K of N, where K is below N
abbrev pub part_from : (number count : Option ℕ) → Option Part
part_from (Some k) (Some n) = if nat_lt k n then Some (record { number = k; count = n }) else None
part_from number count = None

-- the texts before the first byte of a kind and behind it
abbrev pub halves : ℕ → List ℕ → Option (List ℕ × List ℕ)
halves c text =
    if nat_lt (position_or_len (λ b. b == c) text) (length text)
    then Some (before_first (λ b. b == c) text, after_first (λ b. b == c) text)
    else None

-- `K/N`: two numerals as those of turns
abbrev pub part_in : Option (List ℕ × List ℕ) → Option Part
part_in None = None
part_in (Some (number, count)) = part_from (turns_of number) (turns_of count)

-- behind `part`, which stands before the first `=` (byte 61), one number, a slash (byte 47) and the other
abbrev pub named_part : Option (List ℕ × List ℕ) → Option Part
named_part None = None
named_part (Some (key, numbers)) = if bytes_eq key (codes "part") then part_in (halves 47 numbers) else None

-- a word `part=K/N`
unfoldable pub part_of : List ℕ → Option Part
part_of word = named_part (halves 61 word)

-- one word alone says the part, or else the slack
abbrev pub one_end : List ℕ → Option Part → List (List ℕ) × Part
one_end word None = (word ∷ [], whole_part)
one_end word (Some part) = ([], part)

-- the words behind all others, without the last one where that says the part, and the part: the whole tree where none
-- is said
abbrev pub split_end : List (List ℕ) → Option (List (List ℕ) × Part)
split_end [] = Some ([], whole_part)
split_end (word ∷ []) = Some (one_end word (part_of word))
split_end (slack ∷ word ∷ []) = option_map (λ part. (slack ∷ [], part)) (part_of word)
split_end words = None

-- the bound of these words
abbrev pub bound_by : (instance : List ℕ) → (plan cert : Option (List ℕ)) → (out turns : List ℕ)
    → Option (List (List ℕ) × Part) → Option Command
bound_by instance plan cert out turns None = None
bound_by instance plan cert out turns (Some (end, part)) =
    of_both (λ source count. bound source plan cert out count part) (source_of instance end) (turns_of turns)

-- `bound INSTANCE PLAN CERTIFICATE OUT TURNS`, where PLAN and CERTIFICATE may be `-`, for none; the names of the files
-- that are given differ. Behind `end` may stand one word `part=K/N`.
abbrev pub bound_of : List (List ℕ) → Option Command
bound_of (instance ∷ plan ∷ cert ∷ out ∷ turns ∷ end) =
    if are_file_words (plan ∷ cert ∷ out ∷ [])
    && are_apart (bound_names instance (given_of plan) (given_of cert) out)
    then bound_by instance (given_of plan) (given_of cert) out turns (split_end end)
    else None
bound_of words = None

-- the names of the files of an improvement that are given
abbrev pub improve_names : (instance : List ℕ) → (plan : Option (List ℕ)) → (out : List ℕ) → List (List ℕ)
improve_names instance plan out = instance ∷ with_given plan (out ∷ [])

-- turns and a seed
abbrev pub numbers_of : (turns seed : List ℕ) → Option (ℕ × ℕ)
numbers_of turns seed = of_both (λ count number. (count, number)) (turns_of turns) (seed_of seed)

-- `improve INSTANCE PLAN OUT TURNS SEED`, where PLAN may be `-`, for none; the names of the files that are given differ
abbrev pub improve_of : List (List ℕ) → Option Command
improve_of (instance ∷ plan ∷ out ∷ turns ∷ seed ∷ end) =
    if are_file_words (plan ∷ out ∷ []) && are_apart (improve_names instance (given_of plan) out)
    then of_both (λ source numbers. improve source (given_of plan) out numbers.0 numbers.1) (source_of instance end)
    (numbers_of turns seed)
    else None
improve_of words = None

-- ---- the table of commands

-- the command of this name, of the words behind it
abbrev pub command_named : (name : List ℕ) → List (List ℕ) → Option Command
command_named name words =
    if bytes_eq name (codes "check") then check_of words
    else if bytes_eq name (codes "rebound") then rebound_of words
    else if bytes_eq name (codes "bound") then bound_of words
    else if bytes_eq name (codes "improve") then improve_of words
    else None

-- the command of these words; none where they are not in the grammar
abbrev pub command_of : List (List ℕ) → Option Command
command_of [] = None
command_of (name ∷ words) = command_named name words

-- Each name has its own words: the command of a name is what those words ask for, and that of no other.
pub record GoesByName : Type 0 where
  pub checks : (words : List (List ℕ)) → command_of (codes "check" ∷ words) ≡ check_of words
  pub rebounds : (words : List (List ℕ)) → command_of (codes "rebound" ∷ words) ≡ rebound_of words
  pub bounds : (words : List (List ℕ)) → command_of (codes "bound" ∷ words) ≡ bound_of words
  pub improves : (words : List (List ℕ)) → command_of (codes "improve" ∷ words) ≡ improve_of words
