-- The text that is written for changes spells them.
use Rattle.std.proofs.Common.{◌≡◌, ◌≢◌, ℕ, ◌^◌, ◌<◌, ◌≤◌, List, [], ◌∷◌, ◌++◌, length, map, get_or, codes, decimal}
use Rattle.std.proofs.Common.{slice_index_or, refl, sym, ◌∙◌, ap, subst, arith, append_assoc}
use Rattle.std.specs.List.{All, AllPairs}
use Rattle.std.specs.Char.{digit_value}
use Rattle.std.proofs.lemmas.Fmt.{decimal_is_IsNumeral}
use Rattle.std.proofs.lemmas.List.{length-map, get_or-map}
use Rattle.std.proofs.lemmas.List.Elements.{All-nil, All-cons, All-head, All-tail, All-append, All-weaker}
use Rattle.instance_model.specs.Tables.{Tables}
use Rattle.instance_model.specs.Fitting.{AreNames, IsName}
use Rattle.text_lines.specs.Lines.{lines_of}
use Rattle.text_lines.proofs.LineLemmas.{lines_of-more}
use Rattle.text_lines.proofs.DigitLemmas.{IsDigit, digit_bytes, digits-each}
use Rattle.plan_moves.specs.Scripts.{NamesKnown, line_of}
use Rattle.plan_moves.specs.declared.change.Change.{Change}
use Rattle.plan_moves.specs.declared.change.Change.TheVariants.{Move, Swap}
use Rattle.plan_moves.specs.declared.script_line.ScriptLine.TheVariants.{Undo}
use Rattle.move_script.proofs.LineLemmas.{place_of_apart}
use Rattle.move_script.specs.Spelling.{words_text, IsWord, name_at, Spells, IsScript, change_line, moves_text}
use Rattle.move_script.specs.Spelling.{HasSmallStart}

-- a byte of a written line is no control character
abbrev Above : ℕ → Type 0
Above b = 32 ≤ b

name_above : (names : List (List ℕ)) (i : ℕ) → All IsName names → i < length names → All Above (name_at names i)
name_above names i shaped l = All-weaker (λ b. (32 < b) × (b ≢ 127)) Above (λ b h. omega (arith, h.0)) (name_at names i)
    (shaped i [] l).printed

name_word : (names : List (List ℕ)) (i : ℕ) → All IsName names → i < length names → IsWord (name_at names i)
name_word names i shaped l = record {
  some = (shaped i [] l).some;
  unbroken = All-weaker (λ b. (32 < b) × (b ≢ 127)) (λ b. b ≢ 32) (λ b h e. omega (arith, h.0, e)) (name_at names i)
      (shaped i [] l).printed;
}

decimal_above : (s : ℕ) → s < 10 ^ 9 → All Above (decimal s)
decimal_above s small =
    All-weaker (λ b. digit_value b < 10) Above (λ b h. let d : IsDigit b = digit_bytes b h in omega (arith, d.from))
    (decimal s) (digits-each (decimal s) (decimal_is_IsNumeral s (omega (arith, small))).0.1)

words_above : (verb first second : List ℕ) → All Above verb → All Above first → All Above second
    → All Above (words_text verb first second)
words_above verb first second v f s =
    All-append Above verb (first ++ 32 ∷ second) v
    (All-append Above first (32 ∷ second) f (All-cons Above 32 second (omega arith) s))

five_above : (a b c d e : ℕ) → 32 ≤ a → 32 ≤ b → 32 ≤ c → 32 ≤ d → 32 ≤ e → All Above (a ∷ b ∷ c ∷ d ∷ e ∷ [])
five_above a b c d e p q r s t =
    All-cons Above a (b ∷ c ∷ d ∷ e ∷ []) p
    (All-cons Above b (c ∷ d ∷ e ∷ []) q
    (All-cons Above c (d ∷ e ∷ []) r (All-cons Above d (e ∷ []) s (All-cons Above e [] t (All-nil Above)))))

-- a written line has no line feed
line_above : (inst : Tables) (change : Change) → All IsName inst.names → NamesKnown inst (line_of change)
    → HasSmallStart change → All Above (change_line inst.names change)
line_above inst (Move i s) shaped known small =
    words_above (codes "move ") (name_at inst.names i) (decimal s)
    (five_above 109 111 118 101 32 (omega arith) (omega arith) (omega arith) (omega arith) (omega arith))
    (name_above inst.names i shaped known) (decimal_above s small)
line_above inst (Swap i j) shaped known small =
    words_above (codes "swap ") (name_at inst.names i) (name_at inst.names j)
    (five_above 115 119 97 112 32 (omega arith) (omega arith) (omega arith) (omega arith) (omega arith))
    (name_above inst.names i shaped known.0) (name_above inst.names j shaped known.1)

-- a written line spells its change
line_spells : (inst : Tables) (change : Change) → All IsName inst.names → AllPairs (λ a b. a ≢ b) inst.names
    → NamesKnown inst (line_of change) → HasSmallStart change
    → Spells inst.names (change_line inst.names change) (line_of change)
line_spells inst (Move i s) shaped apart known small = (
  place_of_apart inst.names i apart known,
  record {
    spelled = refl;
    word = name_word inst.names i shaped known;
    small = small;
  },
)
line_spells inst (Swap i j) shaped apart known small = (
  place_of_apart inst.names i apart known.0,
  place_of_apart inst.names j apart known.1,
  record {
    spelled = refl;
    word = name_word inst.names i shaped known.0;
    other_word = name_word inst.names j shaped known.1;
  },
)

-- the lines that are written
lines_of-moves_text : (inst : Tables) (changes : List Change) → All IsName inst.names
    → All (λ change. NamesKnown inst (line_of change)) changes → All HasSmallStart changes
    → lines_of (moves_text inst.names changes) ≡ map (change_line inst.names) changes
lines_of-moves_text inst [] shaped known small = refl
lines_of-moves_text inst (change ∷ changes) shaped known small =
    let line : List ℕ = change_line inst.names change in
    let above : All Above line = line_above inst change shaped
    (All-head (λ c. NamesKnown inst (line_of c)) change changes known)
    (All-head HasSmallStart change changes small) in
    ap lines_of (append_assoc line (10 ∷ []) (moves_text inst.names changes))
    ∙ lines_of-more line (moves_text inst.names changes)
    (All-weaker Above (λ b. b ≢ 10) (λ b h e. omega (arith, h, e)) line above)
    ∙ ap (λ xs. line ∷ xs)
    (lines_of-moves_text inst changes shaped (All-tail (λ c. NamesKnown inst (line_of c)) change changes known)
    (All-tail HasSmallStart change changes small))

-- what is written for changes of an instance spells them
pub moves_text_spells : (limit : ℕ) (inst : Tables) (changes : List Change) → AreNames limit inst.names
    → All (λ change. NamesKnown inst (line_of change)) changes → All HasSmallStart changes
    → IsScript inst.names (moves_text inst.names changes) (map line_of changes)
moves_text_spells limit inst changes are known small =
    let text : List ℕ = moves_text inst.names changes in
    let written : lines_of text ≡ map (change_line inst.names) changes =
    lines_of-moves_text inst changes are.shaped known small in
    let none : Change = Swap 0 0 in
    record {
      each = omega (arith, length-map changes line_of, ap length written, length-map changes (change_line inst.names));
      spelled = λ k l.
          let within : k < length changes = omega (arith, length-map changes line_of, l) in
          let change : Change = get_or changes k none in
          let line : slice_index_or (lines_of text) k [] ≡ change_line inst.names change =
          ap (λ xs. slice_index_or xs k []) written ∙ get_or-map (change_line inst.names) changes k none [] within in
          let read : slice_index_or (map line_of changes) k Undo ≡ line_of change =
          get_or-map line_of changes k none Undo within in
          subst (Spells inst.names (slice_index_or (lines_of text) k [])) (sym read)
          (subst (λ x. Spells inst.names x (line_of change)) (sym line)
          (line_spells inst change are.shaped are.apart (known k none within) (small k none within)));
    }
