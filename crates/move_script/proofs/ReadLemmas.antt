-- What is known after some lines of a text were read.
use Rattle.std.proofs.Common.{◌≡◌, ℕ, ◌+◌, ◌-◌, ◌<◌, ◌≤◌, ⊎_elim, List, [], ◌∷◌, ◌++◌, length, drop, slice_index_or}
use Rattle.std.proofs.Common.{sym, ◌∙◌, ap, subst, arith, rules}
use Rattle.std.specs.List.{All}
use Rattle.std.proofs.lemmas.Bool.{cases_lt}
use Rattle.std.proofs.lemmas.List.{get_or_append_left, get_or_push, length_push, length-drop, nil_from_length}
use Rattle.std.proofs.lemmas.List.{get_or_default}
use Rattle.text_lines.specs.Lines.{lines_of}
use Rattle.text_lines.proofs.LineLemmas.{next_line}
use Rattle.instance_model.specs.Tables.{Tables}
use Rattle.plan_moves.specs.Scripts.{NamesKnown}
use Rattle.plan_moves.specs.declared.script_line.ScriptLine.{ScriptLine}
use Rattle.plan_moves.specs.declared.script_line.ScriptLine.TheVariants.{Move, Swap, Undo}
use Rattle.move_script.specs.declared.fault.ScriptFault.{ScriptFault}
use Rattle.move_script.specs.declared.fault.ScriptFault.TheVariants.{BadLine, UnknownName, Memory}
use Rattle.move_script.specs.Spelling.{Spells, IsScript}
use Rattle.move_script.specs.FirstFault.{IsFirstAt, HasScriptFault}
use Rattle.move_script.specs.Steps.{Refuses}

-- these lines of the text were read, and this is left of it
pub record ReadSoFar (names : List (List ℕ)) (text : List ℕ) (script : List ScriptLine) (n : ℕ)
    (rest : List ℕ) : Type 0 where
  pub count : length script ≡ n
  pub spelled : (k : ℕ) → k < n → Spells names (slice_index_or (lines_of text) k []) (slice_index_or script k Undo)
  pub within : n ≤ length (lines_of text)
  pub left : drop n (lines_of text) ≡ lines_of rest
  pub few : n + length rest ≤ length text

-- one more line was read
pub read_more : (names : List (List ℕ)) (text : List ℕ) (script : List ScriptLine) (n : ℕ) (rest line after : List ℕ)
    (read : ScriptLine) → ReadSoFar names text script n rest → lines_of rest ≡ line ∷ lines_of after
    → length after < length rest → Spells names line read → ReadSoFar names text (script ++ read ∷ []) (n + 1) after
read_more names text script n rest line after read r e shorter s =
    let next = next_line (lines_of text) n line (lines_of after) (r.left ∙ e) in
    record {
      count = omega (arith, length_push script read, r.count);
      spelled = λ k l. ⊎_elim
          (λ below. subst (Spells names (slice_index_or (lines_of text) k []))
          (sym (get_or_append_left script (read ∷ []) Undo k (omega (arith, r.count)))) (r.spelled k below))
          (λ past.
          let at : n ≡ k = omega (arith, l) in
          let here : slice_index_or (script ++ read ∷ []) k Undo ≡ read =
          get_or_push script read Undo k (omega (arith, r.count, at)) in
          let text_line : slice_index_or (lines_of text) k [] ≡ line =
          subst (λ m. slice_index_or (lines_of text) m [] ≡ line) at next.is in
          subst (Spells names (slice_index_or (lines_of text) k [])) (sym here)
          (subst (λ x. Spells names x read) (sym text_line) s))
          (cases_lt k n);
      within = omega (arith, next.within);
      left = next.left;
      few = omega (arith, r.few, shorter);
    }

-- nothing is left of the text
pub read_whole : (names : List (List ℕ)) (text : List ℕ) (script : List ScriptLine) (n : ℕ) (rest : List ℕ)
    → ReadSoFar names text script n rest → length rest ≡ 0 → IsScript names text script
read_whole names text script n rest r e =
    let none : drop n (lines_of text) ≡ [] = r.left ∙ ap lines_of (nil_from_length rest e) in
    record {
      each = omega (arith, length-drop n (lines_of text), ap length none, r.within, r.count);
      spelled = λ k l. r.spelled k (omega (arith, r.count, l));
    }

-- the next line is the first with a fault
first_at : (names : List (List ℕ)) (text : List ℕ) (script : List ScriptLine) (n m : ℕ) (rest line : List ℕ)
    (more : List (List ℕ)) (F : List ℕ → Type 0) → ReadSoFar names text script n rest → lines_of rest ≡ line ∷ more
    → m ≡ n + 1 → F line → IsFirstAt names (lines_of text) m F
first_at names text script n m rest line more F r e at here =
    let next = next_line (lines_of text) n line more (r.left ∙ e) in
    let place : n ≡ m - 1 = omega (arith, at) in
    record {
      some = omega (arith, at);
      within = omega (arith, next.within, at);
      before = λ k l. (slice_index_or script k Undo, r.spelled k (omega (arith, place, l)));
      here = subst (λ k. F (slice_index_or (lines_of text) k [])) place (subst F (sym next.is) here);
    }

pub refused_first : (names : List (List ℕ)) (text : List ℕ) (script : List ScriptLine) (n : ℕ) (rest line : List ℕ)
    (more : List (List ℕ)) (fault : ScriptFault) → ReadSoFar names text script n rest → lines_of rest ≡ line ∷ more
    → Refuses names line (n + 1) fault → HasScriptFault names text fault
refused_first names text script n rest line more (BadLine m) r e h =
    first_at names text script n m rest line more _ r e h.0 h.1
refused_first names text script n rest line more (UnknownName m) r e h =
    first_at names text script n m rest line more _ r e h.0 h.1
refused_first names text script n rest line more Memory r e h = h

-- what a line spells has known names
spelled_known : (inst : Tables) (line : List ℕ) (x : ScriptLine) → Spells inst.names line x → NamesKnown inst x
spelled_known inst line (Move i s) p = p.0.within
spelled_known inst line (Swap i j) p = (p.0.within, p.1.within)
spelled_known inst line Undo p = search rules

pub script_known : (inst : Tables) (text : List ℕ) (script : List ScriptLine) → IsScript inst.names text script
    → All (NamesKnown inst) script
script_known inst text script p k d l =
    subst (NamesKnown inst) (get_or_default script k Undo d l)
    (spelled_known inst (slice_index_or (lines_of text) k []) (slice_index_or script k Undo) (p.spelled k l))
