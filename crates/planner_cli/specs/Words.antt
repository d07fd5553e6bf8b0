-- The command line. A word is the list of its bytes; words count from 1, and word 1 is the name of the command.
use Rattle.std.specs.Prelude.{◌≡◌, ℕ, List, [], ◌∷◌, codes, bytes_eq, ◌&&◌, Option, None, option_map, if◌then◌else◌}
use Rattle.command_words.specs.Files.{is_file_word, are_file_words, given_of, are_apart}
use Rattle.command_words.specs.Numbers.{turns_of, period_of, span_of, seed_of, count_of}
use Rattle.command_words.specs.Ends.{source_of}
use Rattle.command_words.specs.Parsing.{of_both}
use Rattle.command_frame.specs.Sources.{Source}
use Rattle.command_solve.specs.Solving.{SolveFiles}
use Rattle.command_roll.specs.Rolling.{RollFiles}

-- What a command line asks for, with the names of its files: the plan is word 3, the script or the certificate word 4,
-- and the trail of a solution word 5. A check may be without a plan. A table has two periods, words 4 and 5. What is
-- rebound has its certificate as word 3, and is written to word 4; what is rolled has its period as word 4, and is
-- written to word 5. A rehearsal has no file: the number that its instance is drawn from is word 2, and how many
-- interventions that has is word 3.
pub data Command : Type 0 where
  evaluate : (source : Source) (plan : List ℕ) → Command
  replay : (source : Source) (plan script : List ℕ) → Command
  check : (source : Source) (plan : Option (List ℕ)) (certificate : List ℕ) → Command
  solve : (source : Source) (files : SolveFiles) (turns : ℕ) → Command
  table : (source : Source) (plan : List ℕ) (from to : ℕ) → Command
  rebound : (source : Source) (certificate out : List ℕ) → Command
  roll : (files : RollFiles) (period : ℕ) → Command
  rehearse : (seed count : ℕ) → Command

-- ---- the words of each command behind its name; `end` is one word `slack=D`, or none

-- `evaluate INSTANCE PLAN`
abbrev pub evaluate_of : List (List ℕ) → Option Command
evaluate_of (instance ∷ plan ∷ end) =
    if is_file_word plan then option_map (λ source. evaluate source plan) (source_of instance end) else None
evaluate_of words = None

-- `replay INSTANCE PLAN SCRIPT`
abbrev pub replay_of : List (List ℕ) → Option Command
replay_of (instance ∷ plan ∷ script ∷ end) =
    if is_file_word plan && is_file_word script
    then option_map (λ source. replay source plan script) (source_of instance end)
    else None
replay_of words = None

-- `check INSTANCE PLAN CERTIFICATE`, where PLAN may be `-`, for none
abbrev pub check_of : List (List ℕ) → Option Command
check_of (instance ∷ plan ∷ cert ∷ end) =
    if is_file_word plan && is_file_word cert
    then option_map (λ source. check source (given_of plan) cert) (source_of instance end)
    else None
check_of words = None

-- the files that a solution is written to
abbrev pub solve_files : (plan cert trail : List ℕ) → SolveFiles
solve_files plan cert trail = record { plan = plan; cert = cert; trail = trail }

-- `solve INSTANCE PLAN CERTIFICATE TRAIL TURNS`, four files whose names differ
abbrev pub solve_of : List (List ℕ) → Option Command
solve_of (instance ∷ plan ∷ cert ∷ trail ∷ turns ∷ end) =
    if are_file_words (plan ∷ cert ∷ trail ∷ []) && are_apart (instance ∷ plan ∷ cert ∷ trail ∷ [])
    then of_both (λ source count. solve source (solve_files plan cert trail) count) (source_of instance end)
    (turns_of turns)
    else None
solve_of words = None

-- `table INSTANCE PLAN FROM TO`
abbrev pub table_of : List (List ℕ) → Option Command
table_of (instance ∷ plan ∷ from ∷ to ∷ end) =
    if is_file_word plan
    then of_both (λ source span. table source plan span.0 span.1) (source_of instance end) (span_of from to)
    else None
table_of words = None

-- `rebound INSTANCE CERTIFICATE OUT`, three files whose names differ
abbrev pub rebound_of : List (List ℕ) → Option Command
rebound_of (instance ∷ cert ∷ out ∷ end) =
    if are_file_words (cert ∷ out ∷ []) && are_apart (instance ∷ cert ∷ out ∷ [])
    then option_map (λ source. rebound source cert out) (source_of instance end)
    else None
rebound_of words = None

-- the files of a roll
abbrev pub roll_files : (instance plan out : List ℕ) → RollFiles
roll_files instance plan out = record { instance = instance; plan = plan; out = out }

-- `roll INSTANCE PLAN PERIOD OUT`, three files whose names differ, and no slack
abbrev pub roll_of : List (List ℕ) → Option Command
roll_of (instance ∷ plan ∷ period ∷ out ∷ []) =
    if are_file_words (instance ∷ plan ∷ out ∷ []) && are_apart (instance ∷ plan ∷ out ∷ [])
    then option_map (λ t. roll (roll_files instance plan out) t) (period_of period)
    else None
roll_of words = None

-- `rehearse SEED N`, and no slack
abbrev pub rehearse_of : List (List ℕ) → Option Command
rehearse_of (seed ∷ count ∷ []) = of_both (λ number n. rehearse number n) (seed_of seed) (count_of count)
rehearse_of words = None

-- ---- the table of commands

-- the command of this name, of the words behind it
abbrev pub command_named : (name : List ℕ) → List (List ℕ) → Option Command
command_named name words =
    if bytes_eq name (codes "evaluate") then evaluate_of words
    else if bytes_eq name (codes "replay") then replay_of words
    else if bytes_eq name (codes "check") then check_of words
    else if bytes_eq name (codes "solve") then solve_of words
    else if bytes_eq name (codes "table") then table_of words
    else if bytes_eq name (codes "rebound") then rebound_of words
    else if bytes_eq name (codes "roll") then roll_of words
    else if bytes_eq name (codes "rehearse") then rehearse_of words
    else None

-- the command of these words; none where they are not in the grammar
abbrev pub command_of : List (List ℕ) → Option Command
command_of [] = None
command_of (name ∷ words) = command_named name words

-- Each name has its own words: the command of a name is what those words ask for, and that of no other.
pub record GoesByName : Type 0 where
  pub evaluates : (words : List (List ℕ)) → command_of (codes "evaluate" ∷ words) ≡ evaluate_of words
  pub replays : (words : List (List ℕ)) → command_of (codes "replay" ∷ words) ≡ replay_of words
  pub checks : (words : List (List ℕ)) → command_of (codes "check" ∷ words) ≡ check_of words
  pub solves : (words : List (List ℕ)) → command_of (codes "solve" ∷ words) ≡ solve_of words
  pub tabulates : (words : List (List ℕ)) → command_of (codes "table" ∷ words) ≡ table_of words
  pub rebounds : (words : List (List ℕ)) → command_of (codes "rebound" ∷ words) ≡ rebound_of words
  pub rolls : (words : List (List ℕ)) → command_of (codes "roll" ∷ words) ≡ roll_of words
  pub rehearses : (words : List (List ℕ)) → command_of (codes "rehearse" ∷ words) ≡ rehearse_of words
