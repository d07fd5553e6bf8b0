-- Each state that the machine comes to can be completed to a text.
use Rattle.std.specs.Prelude.{◌==◌, ◌*◌}
use Rattle.std.proofs.Common.{◌≡◌, ℕ, zero, suc, ◌+◌, List, [], ◌∷◌, ◌++◌, drop, Bool, true, false, Some, refl, arith}
use Rattle.std.proofs.lemmas.Bool.Decides.{nat_tests}
use Rattle.std.specs.Char.{encode_utf8}
use Rattle.json_grammar.specs.Tree.{Event}
use Rattle.json_grammar.specs.laws.Machine.{Phase, Mode, want, first, first_key, next_key, colon, after, literal}
use Rattle.json_grammar.specs.laws.Machine.{number}
use Rattle.json_grammar.specs.laws.Machine.{string, st, step, value_step, after_step, phase_step, may_end, ending}
use Rattle.json_grammar.specs.laws.Machine.{Reads, ends}
use Rattle.json_grammar.specs.laws.Machine.{then, after_string, Within, tails, after_e0, after_ed, after_f0, after_f4}
use Rattle.json_grammar.specs.laws.Machine.{unit1}
use Rattle.json_grammar.specs.laws.Machine.{unit2, unit3, unit4, paired, paired_escape, low1, low2, low3, low4}
use Rattle.json_grammar.specs.laws.Machine.{inside_step}
use Rattle.json_grammar.specs.laws.Machine.{between}
use Rattle.json_grammar.specs.laws.Machine as machine
use Rattle.json_grammar.proofs.LawsForward.{finish_number}
use Rattle.json_grammar.proofs.LawsForward as forward
use Rattle.json_grammar.proofs.LawsStrings as strings

pub record Completion (k : ℕ) (levels : List Bool) (m : Mode) : Type 0 where
  pub bytes : List ℕ
  pub events : List Event
  pub reads : Reads k (st levels m) bytes events

-- one more byte in front
before : {k : ℕ} {levels further : List Bool} {m n : Mode} {es : List Event} (b : ℕ)
    → step k levels m b ≡ Some (st further n, es) → Completion (suc k) further n → Completion k levels m
before b e c = record { bytes = b ∷ c.bytes; events = _; reads = then e c.reads }

complete_after : (k : ℕ) (levels : List Bool) → Completion k levels after
unfolding step after_step ending
complete_after k [] = record { bytes = []; events = []; reads = ends refl }
complete_after k (false ∷ levels) = before 93 refl (complete_after (suc k) levels)
complete_after k (true ∷ levels) = before 125 refl (complete_after (suc k) levels)

complete_end : (k at : ℕ) (levels : List Bool) (bytes : List ℕ) (p : Phase) → may_end p ≡ true
    → Completion k levels (number at bytes p)
complete_end k at levels bytes p h = let c = complete_after k levels in
    record { bytes = c.bytes; events = _; reads = finish_number p h c.reads }

digit_then : (k at : ℕ) (levels : List Bool) (bytes : List ℕ) (p q : Phase) → phase_step p 48 ≡ Some q
    → may_end q ≡ true → Completion k levels (number at bytes p)
digit_then k at levels bytes p q e h =
    before 48 (forward.number_goes k at 48 levels bytes p q e) (complete_end (suc k) at levels (bytes ++ 48 ∷ []) q h)

complete_number : (k at : ℕ) (levels : List Bool) (bytes : List ℕ) (p : Phase) → Completion k levels (number at bytes p)
unfolding phase_step
complete_number k at levels bytes Phase.minus = digit_then k at levels bytes Phase.minus Phase.lone_zero refl refl
complete_number k at levels bytes Phase.lone_zero = complete_end k at levels bytes Phase.lone_zero refl
complete_number k at levels bytes Phase.whole = complete_end k at levels bytes Phase.whole refl
complete_number k at levels bytes Phase.point = digit_then k at levels bytes Phase.point Phase.fraction refl refl
complete_number k at levels bytes Phase.fraction = complete_end k at levels bytes Phase.fraction refl
complete_number k at levels bytes Phase.mark = digit_then k at levels bytes Phase.mark Phase.exponent refl refl
complete_number k at levels bytes Phase.sign = digit_then k at levels bytes Phase.sign Phase.exponent refl refl
complete_number k at levels bytes Phase.exponent = complete_end k at levels bytes Phase.exponent refl

complete_want : (k : ℕ) (levels : List Bool) → Completion k levels want
unfolding step value_step
complete_want k levels = before 48 refl (complete_end (suc k) k levels (48 ∷ []) Phase.lone_zero refl)

complete_colon : (k : ℕ) (levels : List Bool) → Completion k levels colon
unfolding step
complete_colon k levels = before 58 refl (complete_want (suc k) levels)

complete_string : (k : ℕ) (levels : List Bool) (i : Bool) → Completion k levels (after_string i)
complete_string k levels true = complete_colon k levels
complete_string k levels false = complete_after k levels

complete_plain : (k at : ℕ) (levels : List Bool) (i : Bool) (text : List ℕ)
    → Completion k levels (string i at text machine.plain)
complete_plain k at levels i text = before 34 (strings.close_step k at levels i text) (complete_string (suc k) levels i)

-- a byte within the string
within : {k at : ℕ} {levels : List Bool} {i : Bool} {text xs : List ℕ} {p q : Within} (b : ℕ)
    → inside_step p b ≡ Some (q, xs) → Completion (suc k) levels (string i at (text ++ xs) q)
    → Completion k levels (string i at text p)
within {k} {at} {levels} {i} {text} {xs} {p} {q} b e c = before b (strings.string_goes k at b levels i text p q xs e) c

complete_tails : (n k at : ℕ) (levels : List Bool) (i : Bool) (text : List ℕ)
    → Completion k levels (string i at text (tails n))
unfolding inside_step
complete_tails zero k at levels i text = within 0x80 refl (complete_plain (suc k) at levels i (text ++ 0x80 ∷ []))
complete_tails (suc n) k at levels i text = within 0x80 refl (complete_tails n (suc k) at levels i (text ++ 0x80 ∷ []))

-- "d", "c", "0" and "0" behind the second \u
complete_low : (u k at : ℕ) (levels : List Bool) (i : Bool) (text : List ℕ) (v : ℕ)
    → Completion k levels (string i at text (low4 u v))
unfolding inside_step
complete_low u k at levels i text v = within 48 refl (complete_plain (suc k) at levels i _)

complete_paired : (u k at : ℕ) (levels : List Bool) (i : Bool) (text : List ℕ)
    → Completion k levels (string i at text (paired u))
unfolding inside_step
complete_paired u k at levels i text = within 92 refl
    (within 117 refl (within 100 refl (within 99 refl (within 48 refl (complete_low u _ at levels i _ _)))))

complete_unit4 : (v k at : ℕ) (levels : List Bool) (i : Bool) (text : List ℕ) (b : Bool)
    → between 0xd800 0xdbff (v * 16 + 0) ≡ b → Completion k levels (string i at text (unit4 v))
unfolding inside_step
complete_unit4 v k at levels i text true e =
    within {xs = []} {q = paired (v * 16 + 0)} 48 (rw e refl) (complete_paired (v * 16 + 0) (suc k) at levels i _)
complete_unit4 v k at levels i text false e =
    within {xs = encode_utf8 (v * 16 + 0)} {q = machine.plain} 48 (rw e refl) (complete_plain (suc k) at levels i _)

unit2_zero : (v : ℕ) → between 0xdc 0xdf (v * 16 + 0) ≡ false
unit2_zero v = grind (arith, nat_tests)

complete_within : (p : Within) (k at : ℕ) (levels : List Bool) (i : Bool) (text : List ℕ)
    → Completion k levels (string i at text p)
unfolding inside_step
complete_within machine.plain k at levels i text = complete_plain k at levels i text
complete_within (tails n) k at levels i text = complete_tails n k at levels i text
complete_within after_e0 k at levels i text = within 0xa0 refl (complete_tails 0 (suc k) at levels i _)
complete_within after_ed k at levels i text = within 0x80 refl (complete_tails 0 (suc k) at levels i _)
complete_within after_f0 k at levels i text = within 0x90 refl (complete_tails 1 (suc k) at levels i _)
complete_within after_f4 k at levels i text = within 0x80 refl (complete_tails 1 (suc k) at levels i _)
complete_within machine.escape k at levels i text = within 34 refl (complete_plain (suc k) at levels i _)
complete_within unit1 k at levels i text =
    within 48 refl (within 48 refl (within 48 refl (complete_unit4 _ _ at levels i _ _ refl)))
complete_within (unit2 v) k at levels i text = within {xs = []} {q = unit3 (v * 16 + 0)} 48 (rw (unit2_zero v) refl)
    (within 48 refl (complete_unit4 _ _ at levels i _ _ refl))
complete_within (unit3 v) k at levels i text = within 48 refl (complete_unit4 _ _ at levels i _ _ refl)
complete_within (unit4 v) k at levels i text = complete_unit4 v k at levels i text _ refl
complete_within (paired u) k at levels i text = complete_paired u k at levels i text
complete_within (paired_escape u) k at levels i text =
    within 117 refl (within 100 refl (within 99 refl (within 48 refl (complete_low u _ at levels i _ _))))
complete_within (low1 u) k at levels i text =
    within 100 refl (within 99 refl (within 48 refl (complete_low u _ at levels i _ _)))
complete_within (low2 u) k at levels i text = within 99 refl (within 48 refl (complete_low u _ at levels i _ _))
complete_within (low3 u v) k at levels i text = within 48 refl (complete_low u _ at levels i _ _)
complete_within (low4 u v) k at levels i text = complete_low u k at levels i text v

same_byte : (b : ℕ) → (b == b) ≡ true
same_byte b = grind (arith, nat_tests)

literal_ends : (k b : ℕ) (levels : List Bool) (e : Event)
    → step k levels (literal b [] e) b ≡ Some (st levels after, e ∷ [])
unfolding step
literal_ends k b levels e = rw (same_byte b) refl

literal_goes : (k b c : ℕ) (cs : List ℕ) (levels : List Bool) (e : Event)
    → step k levels (literal b (c ∷ cs) e) b ≡ Some (st levels (literal c cs e), [])
unfolding step
literal_goes k b c cs levels e = rw (same_byte b) refl

complete_literal : (bs : List ℕ) (k b : ℕ) (levels : List Bool) (e : Event) → Completion k levels (literal b bs e)
complete_literal [] k b levels e = before b (literal_ends k b levels e) (complete_after (suc k) levels)
complete_literal (c ∷ cs) k b levels e =
    before b (literal_goes k b c cs levels e) (complete_literal cs (suc k) c levels e)

pub complete : (k : ℕ) (levels : List Bool) (m : Mode) → Completion k levels m
unfolding step
complete k levels want = complete_want k levels
complete k levels first = before 93 refl (complete_after (suc k) (drop 1 levels))
complete k levels first_key = before 125 refl (complete_after (suc k) (drop 1 levels))
complete k levels next_key = before 34 refl (complete_plain (suc k) k levels true [])
complete k levels colon = complete_colon k levels
complete k levels after = complete_after k levels
complete k levels (literal b bs e) = complete_literal bs k b levels e
complete k levels (number at bytes p) = complete_number k at levels bytes p
complete k levels (string i at text p) = complete_within p k at levels i text
