-- A text has one script or one first fault.
use Rattle.std.proofs.Common.{◌≡◌, ◌≢◌, ℕ, ◌-◌, ◌<◌, ⊎_elim, inl, inr, List, [], slice_index_or, Result, Ok, Err, sym}
use Rattle.std.proofs.Common.{◌∙◌, ap, subst, arith}
use Rattle.std.proofs.lemmas.Bool.{cases_lt}
use Rattle.std.proofs.lemmas.List.{same_lists, get_or_default}
use Rattle.text_lines.specs.Lines.{lines_of}
use Rattle.plan_moves.specs.declared.script_line.ScriptLine.{ScriptLine}
use Rattle.plan_moves.specs.declared.script_line.ScriptLine.TheVariants.{Undo}
use Rattle.move_script.specs.declared.fault.ScriptFault.{ScriptFault}
use Rattle.move_script.specs.declared.fault.ScriptFault.TheVariants.{BadLine, UnknownName, Memory}
use Rattle.move_script.specs.Spelling.{Spells, IsScript}
use Rattle.move_script.specs.FirstFault.{IsFirstAt, HasScriptFault, Answers}
use Rattle.move_script.proofs.LineLemmas.{spells_once, bad_excludes, unknown_excludes, bad_or_unknown}

-- a line with the fault spells nothing
abbrev Excludes : List (List ℕ) → (List ℕ → Type 0) → Type 0
Excludes names F = (line : List ℕ) → F line → (x : ScriptLine) → Spells names line x → ⊥

-- of two first faults none is earlier
not_earlier : (names lines : List (List ℕ)) (n m : ℕ) (F G : List ℕ → Type 0) → Excludes names F
    → IsFirstAt names lines n F → IsFirstAt names lines m G → n < m → ⊥
not_earlier names lines n m F G excludes f g l =
    let ok = g.before (n - 1) (omega (arith, f.some)) in
    excludes (slice_index_or lines (n - 1) []) f.here ok.0 ok.1

-- two first faults stand on one line
same_line : (names lines : List (List ℕ)) (n m : ℕ) (F G : List ℕ → Type 0) → Excludes names F → Excludes names G
    → IsFirstAt names lines n F → IsFirstAt names lines m G → n ≡ m
same_line names lines n m F G not_f not_g f g =
    ⊎_elim (λ l. absurd (not_earlier names lines n m F G not_f f g l))
    (λ h. ⊎_elim (λ l. absurd (not_earlier names lines m n G F not_g g f l)) (λ k. omega arith) (cases_lt m n))
    (cases_lt n m)

-- two faults that no line has both
never_both : (names lines : List (List ℕ)) (n m : ℕ) (F G : List ℕ → Type 0) → Excludes names F → Excludes names G
    → ((line : List ℕ) → F line → G line → ⊥) → IsFirstAt names lines n F → IsFirstAt names lines m G → ⊥
never_both names lines n m F G not_f not_g apart f g =
    let e : n ≡ m = same_line names lines n m F G not_f not_g f g in
    apart (slice_index_or lines (n - 1) []) f.here (subst (λ k. G (slice_index_or lines (k - 1) [])) (sym e) g.here)

-- a text has one first fault
pub one_fault : (names : List (List ℕ)) (text : List ℕ) (fault other : ScriptFault) → HasScriptFault names text fault
    → HasScriptFault names text other → fault ≡ other
one_fault names text (BadLine n) (BadLine m) f g =
    ap BadLine (same_line names (lines_of text) n m _ _ (bad_excludes names) (bad_excludes names) f g)
one_fault names text (BadLine n) (UnknownName m) f g = absurd
    (never_both names (lines_of text) n m _ _ (bad_excludes names) (unknown_excludes names) (bad_or_unknown names) f g)
one_fault names text (BadLine n) Memory f g = absurd g
one_fault names text (UnknownName n) (BadLine m) f g = absurd
    (never_both names (lines_of text) m n _ _ (bad_excludes names) (unknown_excludes names) (bad_or_unknown names) g f)
one_fault names text (UnknownName n) (UnknownName m) f g =
    ap UnknownName (same_line names (lines_of text) n m _ _ (unknown_excludes names) (unknown_excludes names) f g)
one_fault names text (UnknownName n) Memory f g = absurd g
one_fault names text Memory other f g = absurd f

-- no text both spells a script and has a fault
first_not_in_script : (names : List (List ℕ)) (text : List ℕ) (script : List ScriptLine) (n : ℕ) (F : List ℕ → Type 0)
    → Excludes names F → IsScript names text script → IsFirstAt names (lines_of text) n F → ⊥
first_not_in_script names text script n F excludes p f =
    excludes (slice_index_or (lines_of text) (n - 1) []) f.here (slice_index_or script (n - 1) Undo)
    (p.spelled (n - 1) (omega (arith, p.each, f.some, f.within)))

pub not_both : (names : List (List ℕ)) (text : List ℕ) (script : List ScriptLine) (fault : ScriptFault)
    → IsScript names text script → HasScriptFault names text fault → ⊥
not_both names text script (BadLine n) p f = first_not_in_script names text script n _ (bad_excludes names) p f
not_both names text script (UnknownName n) p f = first_not_in_script names text script n _ (unknown_excludes names) p f
not_both names text script Memory p f = f

-- a text spells one script
pub one_script : (names : List (List ℕ)) (text : List ℕ) (script other : List ScriptLine) → IsScript names text script
    → IsScript names text other → script ≡ other
one_script names text script other p q =
    same_lists script other (omega (arith, p.each, q.each)) (λ k d l.
    get_or_default script k d Undo l
    ∙ spells_once names (slice_index_or (lines_of text) k []) (slice_index_or script k Undo)
    (slice_index_or other k Undo) (p.spelled k l) (q.spelled k (omega (arith, p.each, q.each, l)))
    ∙ get_or_default other k Undo d (omega (arith, p.each, q.each, l)))

-- a script that was read is the only answer
pub read_complete : (names : List (List ℕ)) (text : List ℕ) (result : Result (List ScriptLine) ScriptFault)
    (read : List ScriptLine) → result ≡ Ok read → IsScript names text read → (script : List ScriptLine)
    → IsScript names text script → Answers result (Ok script)
read_complete names text result read e p script q = inl (e ∙ ap Ok (one_script names text read script p q))

pub read_refuses : (names : List (List ℕ)) (text : List ℕ) (result : Result (List ScriptLine) ScriptFault)
    (read : List ScriptLine) → IsScript names text read → (fault : ScriptFault) → HasScriptFault names text fault
    → Answers result (Err fault)
read_refuses names text result read p fault f = absurd (not_both names text read fault p f)

-- a fault that was found is the only answer, unless it is want of memory
pub fault_complete : (names : List (List ℕ)) (text : List ℕ) (result : Result (List ScriptLine) ScriptFault)
    (found : ScriptFault) → result ≡ Err found → (found ≢ Memory → HasScriptFault names text found)
    → (script : List ScriptLine) → IsScript names text script → Answers result (Ok script)
fault_complete names text result (BadLine n) e h script p =
    absurd (not_both names text script (BadLine n) p (h (λ f. absurd (cc))))
fault_complete names text result (UnknownName n) e h script p =
    absurd (not_both names text script (UnknownName n) p (h (λ f. absurd (cc))))
fault_complete names text result Memory e h script p = inr e

pub fault_refuses : (names : List (List ℕ)) (text : List ℕ) (result : Result (List ScriptLine) ScriptFault)
    (found : ScriptFault) → result ≡ Err found → (found ≢ Memory → HasScriptFault names text found)
    → (fault : ScriptFault) → HasScriptFault names text fault → Answers result (Err fault)
fault_refuses names text result (BadLine n) e h fault g =
    inl (e ∙ ap Err (one_fault names text (BadLine n) fault (h (λ f. absurd (cc))) g))
fault_refuses names text result (UnknownName n) e h fault g =
    inl (e ∙ ap Err (one_fault names text (UnknownName n) fault (h (λ f. absurd (cc))) g))
fault_refuses names text result Memory e h fault g = inr e
