-- A text spells a script, or has a first fault.
use Rattle.std.proofs.Common.{◌≡◌, ℕ, zero, suc, ◌+◌, ◌-◌, ◌<◌, ◌≤◌, inl, inr, ⊎_elim, List, [], ◌∷◌, ◌++◌, length}
use Rattle.std.proofs.Common.{slice_index_or, refl, sym, ◌∙◌, subst, arith}
use Rattle.std.specs.List.{Contains}
use Rattle.std.proofs.lemmas.Bool.{cases_lt}
use Rattle.std.proofs.lemmas.List.{get_or_append_left, get_or_push, length_push, get_or_default}
use Rattle.text_lines.specs.Lines.{lines_of}
use Rattle.plan_moves.specs.declared.script_line.ScriptLine.{ScriptLine}
use Rattle.plan_moves.specs.declared.script_line.ScriptLine.TheVariants.{Move, Swap, Undo}
use Rattle.move_script.specs.declared.fault.ScriptFault.{ScriptFault}
use Rattle.move_script.specs.declared.fault.ScriptFault.TheVariants.{BadLine, UnknownName}
use Rattle.move_script.specs.Spelling.{MovesTo, Exchanges, name_at, IsPlace, Spells, IsScript}
use Rattle.move_script.specs.FirstFault.{Names, IsBadLine, HasUnknownName, IsFirstAt, HasScriptFault}
use Rattle.move_script.specs.Laws.{TextsAreTold}

-- a place at which a name stands first
record StandsFirst (names : List (List ℕ)) (name : List ℕ) : Type 0 where
  place : ℕ
  first : IsPlace names place
  named : name_at names place ≡ name

-- a name that stands at some place stands first at one
first_place : (names : List (List ℕ)) (name : List ℕ) → Contains names name → (StandsFirst names name → ⊥) → ⊥
first_place names name (place, within, is) deny =
    below (suc place) place (omega arith) within (sym (get_or_default names place name [] within) ∙ is)
  where
    below : (most k : ℕ) → k < most → k < length names → name_at names k ≡ name → ⊥
    below zero k few l e = omega (arith, few)
    below (suc most) k few l e = deny (record {
      place = k;
      first = record {
        within = l;
        first = λ j less same. below most j (omega (arith, few, less)) (omega (arith, less, l)) (same ∙ e);
      };
      named = e;
    })

module _ (names : List (List ℕ)) (text : List ℕ)
    (no_script : (script : List ScriptLine) → IsScript names text script → ⊥)
    (no_fault : (fault : ScriptFault) → HasScriptFault names text fault → ⊥) where
  abbrev lines : List (List ℕ)
  lines = lines_of text

  abbrev line_at : ℕ → List ℕ
  line_at n = slice_index_or lines n []

  -- the first n lines spell the script
  record SpellTo (n : ℕ) (script : List ScriptLine) : Type 0 where
    each : length script ≡ n
    spelled : (k : ℕ) → k < n → Spells names (line_at k) (slice_index_or script k Undo)

  -- the line behind n lines has a fault
  first : (n : ℕ) (F : List ℕ → Type 0) (script : List ScriptLine) → n < length lines → SpellTo n script → F (line_at n)
      → IsFirstAt names lines (n + 1) F
  first n F script l before here =
      let e : n ≡ n + 1 - 1 = omega arith in
      record {
        some = omega arith;
        within = omega (arith, l);
        before = λ k below. (slice_index_or script k Undo, before.spelled k (omega (arith, below)));
        here = subst (λ k. F (line_at k)) e here;
      }

  -- the line behind n lines that spell a script spells a line of it
  step : (n : ℕ) (script : List ScriptLine) → n < length lines → SpellTo n script
      → ((read : ScriptLine) → Spells names (line_at n) read → ⊥) → ⊥
  step n script l before deny = no_fault (BadLine (n + 1))
      (first n IsBadLine script l before (record { no_move = no_move; no_swap = no_swap; no_undo = λ e. deny Undo e }))
    where
      known : (name : List ℕ) → Names (line_at n) name → (StandsFirst names name → ⊥) → ⊥
      known name h none = no_fault (UnknownName (n + 1))
          (first n (HasUnknownName names) script l before
          (record { name = name; named = h; unknown = λ has. first_place names name has none }))

      no_move : (name : List ℕ) (start : ℕ) → MovesTo (line_at n) name start → ⊥
      no_move name start h = known name (inl (start, h))
          (λ at. deny (Move at.place start) (at.first, subst (λ x. MovesTo (line_at n) x start) (sym at.named) h))

      no_swap : (name other : List ℕ) → Exchanges (line_at n) name other → ⊥
      no_swap name other h =
          known name (inr (other, inl h)) (λ a. known other (inr (name, inr h)) (λ b. deny (Swap a.place b.place) (
            a.first,
            b.first,
            subst (λ x. Exchanges (line_at n) x (name_at names b.place)) (sym a.named)
                (subst (λ x. Exchanges (line_at n) name x) (sym b.named) h),
          )))

  -- one line more
  more : (n : ℕ) (script : List ScriptLine) (read : ScriptLine) → SpellTo n script → Spells names (line_at n) read
      → SpellTo (suc n) (script ++ read ∷ [])
  more n script read before here = record {
    each = omega (arith, length_push script read, before.each);
    spelled = λ k l. ⊎_elim
        (λ below. subst (Spells names (line_at k))
        (sym (get_or_append_left script (read ∷ []) Undo k (omega (arith, before.each, below))))
        (before.spelled k below))
        (λ past.
        let at : n ≡ k = omega (arith, past, l) in
        let is : slice_index_or (script ++ read ∷ []) k Undo ≡ read =
        get_or_push script read Undo k (omega (arith, before.each, at)) in
        subst (Spells names (line_at k)) (sym is) (subst (λ m. Spells names (line_at m) read) at here))
        (cases_lt k n);
  }

  -- all lines
  walk : (n : ℕ) → n ≤ length lines → ((script : List ScriptLine) → SpellTo n script → ⊥) → ⊥
  walk zero l deny = deny [] (record { each = refl; spelled = λ k m. absurd (omega (arith, m)) })
  walk (suc n) l deny = walk n (omega (arith, l)) (λ script before. step n script (omega (arith, l)) before
      (λ read here. deny (script ++ read ∷ []) (more n script read before here)))

  is_told : ⊥
  is_told = walk (length lines) (omega arith)
      (λ script all. no_script script
      (record { each = all.each; spelled = λ k l. all.spelled k (omega (arith, all.each, l)) }))

pub texts_are_told : TextsAreTold
texts_are_told names text no_script no_fault = is_told names text no_script no_fault
