-- Each text has an answer: the machine reads it to its end, or stops at its fault.
use Rattle.std.specs.Prelude.{is_some}
use Rattle.std.proofs.Common.{◌≡◌, ℕ, zero, suc, ◌+◌, ◌<◌, List, [], ◌++◌, length, get_or, Option, Some, None, refl, ap}
use Rattle.std.proofs.Common.{inl, inr, arith}
use Rattle.std.proofs.lemmas.Bool.{cases_lt}
use Rattle.json_grammar.specs.Tree.{Event}
use Rattle.json_grammar.specs.laws.Answers.{read, syntax, too_deep, HasAnswer}
use Rattle.json_grammar.specs.laws.Machine.{want, State, st, step, ending}
use Rattle.json_grammar.specs.laws.Reads.{HasRead}
use Rattle.json_grammar.proofs.LawsReach.{read_none, read_next, read_refused, read_deep, read_short, read_whole}

at_end : (bytes : List ℕ) (k : ℕ) (s : State) (told : List Event) (o : Option (List Event)) → HasRead bytes k s told
    → k ≡ length bytes → ending s.levels s.mode ≡ o → HasAnswer bytes
at_end bytes k s told (Some last) h e f = let w = read_whole bytes k s told last h e f in
    record { answer = read w.tree; is_answer = (w.text, w.shallow) }
at_end bytes k s told None h e f =
    record { answer = syntax k; is_answer = read_short bytes k s told h e (ap is_some f) }

-- one byte more, and then on
one_on : (bytes : List ℕ) (k : ℕ) (s : State) (told : List Event) (o : Option (State × List Event))
    → HasRead bytes k s told → k < length bytes → step k s.levels s.mode (get_or bytes k 0) ≡ o
    → ((t : State) (more : List Event) → HasRead bytes (k + 1) t (told ++ more) → HasAnswer bytes) → HasAnswer bytes
one_on bytes k s told None h i e on = record { answer = syntax k; is_answer = read_refused bytes k s told h i e }
one_on bytes k s told (Some (t, more)) h i e on =
    elim (cases_lt 16 (length t.levels)) [
      | inl deep ↦ record { answer = too_deep k; is_answer = read_deep bytes k s t told more h i e deep }
      | inr fits ↦ on t more (read_next bytes k s t told more h i e fits)
    ]

-- reading on from there to the end
settle : (n : ℕ) (bytes : List ℕ) (k : ℕ) (s : State) (told : List Event) → k + n ≡ length bytes
    → HasRead bytes k s told → HasAnswer bytes
settle zero bytes k s told e h = at_end bytes k s told (ending s.levels s.mode) h (omega arith) refl
settle (suc n) bytes k s told e h = one_on bytes k s told (step k s.levels s.mode (get_or bytes k 0)) h (omega arith)
    refl (λ t more g. settle n bytes (k + 1) t (told ++ more) (omega arith) g)

pub some_answer : (bytes : List ℕ) → HasAnswer bytes
some_answer bytes = settle (length bytes) bytes 0 (st [] want) [] (omega arith) (read_none bytes)
