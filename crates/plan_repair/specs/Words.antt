-- The command line. A word is the list of its bytes; words count from 1, and word 1 is the name of the command.
use Rattle.std.specs.Prelude.{◌≡◌, ℕ, List, [], ◌∷◌, codes, bytes_eq, ◌&&◌, Option, None, option_map, if◌then◌else◌}
use Rattle.command_words.specs.Files.{is_file_word, are_file_words, are_apart}
use Rattle.command_words.specs.Numbers.{turns_of}
use Rattle.command_words.specs.Ends.{source_of}
use Rattle.command_words.specs.Parsing.{of_both}
use Rattle.command_frame.specs.Sources.{Source}
use Rattle.command_repair.specs.Repairing.{RepairFiles}

-- What a command line asks for, with the names of its files: the plan is word 3, the certificate word 4, and the
-- repaired plan word 5.
pub data Command : Type 0 where
  audit : (source : Source) (plan certificate : List ℕ) → Command
  repair : (source : Source) (plan : List ℕ) (files : RepairFiles) (turns : ℕ) → Command

-- ---- the words of each command behind its name; `end` is one word `slack=D`, or none

-- `audit INSTANCE PLAN CERT`
abbrev pub audit_of : List (List ℕ) → Option Command
audit_of (instance ∷ plan ∷ cert ∷ end) =
    if is_file_word plan && is_file_word cert
    then option_map (λ source. audit source plan cert) (source_of instance end)
    else None
audit_of words = None

-- the files that are written
abbrev pub repair_files : (cert out : List ℕ) → RepairFiles
repair_files cert out = record { cert = cert; out = out }

-- `repair INSTANCE PLAN CERT OUT TURNS`, four files whose names differ
abbrev pub repair_of : List (List ℕ) → Option Command
repair_of (instance ∷ plan ∷ cert ∷ out ∷ turns ∷ end) =
    if are_file_words (plan ∷ cert ∷ out ∷ []) && are_apart (instance ∷ plan ∷ cert ∷ out ∷ [])
    then of_both (λ source count. repair source plan (repair_files cert out) count) (source_of instance end)
    (turns_of turns)
    else None
repair_of words = None

-- ---- the table of commands

-- the command of this name, of the words behind it
abbrev pub command_named : (name : List ℕ) → List (List ℕ) → Option Command
command_named name words =
    if bytes_eq name (codes "audit") then audit_of words
    else if bytes_eq name (codes "repair") then repair_of words
    else None

-- the command of these words; none where they are not in the grammar
abbrev pub command_of : List (List ℕ) → Option Command
command_of [] = None
command_of (name ∷ words) = command_named name words

-- Each name has its own words: the command of a name is what those words ask for, and that of no other.
pub record GoesByName : Type 0 where
  pub audits : (words : List (List ℕ)) → command_of (codes "audit" ∷ words) ≡ audit_of words
  pub repairs : (words : List (List ℕ)) → command_of (codes "repair" ∷ words) ≡ repair_of words
