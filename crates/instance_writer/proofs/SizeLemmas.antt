-- How long texts are at most.
use Rattle.std.proofs.Common.{◌≡◌, ℕ, zero, suc, ◌+◌, ◌*◌, ◌<◌, ◌≤◌, Bool, true, false, cond, List, [], ◌∷◌, ◌++◌}
use Rattle.std.proofs.Common.{length, refl, ◌∙◌, ap, arith, length-append, map, Option, Some, None}
use Rattle.std.specs.Prelude.{IfSome, All}
use Rattle.std.proofs.lemmas.List.Elements.{All-head, All-tail}
use Rattle.json_grammar.specs.laws.Value.{Value, values_of, Field, field}
use Rattle.json_grammar.specs.laws.Spelling.{escaped, needs_escape, quoted, spell, spell_values, spell_more_values}
use Rattle.json_grammar.specs.laws.Spelling.{spell_fields, spell_more_fields}
use Rattle.instance_shape.specs.FileTables.{lists_below}
use Rattle.instance_writer.specs.text.Written.{object_of, optional, filled}
use Rattle.instance_writer.specs.Steps.{values_text, fields_text, is_first_after}
use Rattle.instance_writer.proofs.TextLemmas.{fields_text-append, fields_text-one, spell-list, spell-object}

-- the text of a value, where there is one, has at most so many bytes
abbrev pub IsWithin : ℕ → Option Value → Type 0
IsWithin most o = IfSome o (λ v. length (spell v) ≤ most)

-- ---- names and keys

pub length-escaped : (bs : List ℕ) → length (escaped bs) ≤ 2 * length bs
unfolding escaped
length-escaped [] = omega arith
length-escaped (b ∷ bs) = go (needs_escape b) (length-escaped bs)
  where
    go : (e : Bool) → length (escaped bs) ≤ 2 * length bs
        → length (cond e (92 ∷ b ∷ escaped bs) (b ∷ escaped bs)) ≤ 2 * length (b ∷ bs)
    go true rest = omega arith
    go false rest = omega arith

pub length-quoted : (bs : List ℕ) → length (quoted bs) ≤ 2 * length bs + 2
unfolding quoted
length-quoted bs = omega (arith, length-append (escaped bs) (34 ∷ []), length-escaped bs)

-- ---- lists

one_more : (n b : ℕ) → suc n * b ≡ n * b + b
one_more n b = omega arith

pub length-values : {X : Type 0} (h : X → Value) (most : ℕ) (xs : List X) → All (λ x. length (spell (h x)) ≤ most) xs
    → length (values_text false (map h xs)) ≤ length xs * (most + 1)
unfolding spell_more_values
length-values h most [] all = omega arith
length-values h most (x ∷ xs) all =
    omega (
      arith,
      All-head (λ x. length (spell (h x)) ≤ most) x xs all,
      length-values h most xs (All-tail (λ x. length (spell (h x)) ≤ most) x xs all),
      length-append (spell (h x)) (values_text false (map h xs)),
      one_more (length xs) (most + 1),
    )

first_value_shorter : (vs : List Value) → length (values_text true vs) ≤ length (values_text false vs)
unfolding spell_values spell_more_values
first_value_shorter [] = omega arith
first_value_shorter (v ∷ vs) = omega arith

pub length-list : (vs : List Value) → length (spell (Value.list (values_of vs))) ≤ length (values_text false vs) + 2
length-list vs = omega (
  arith,
  ap length (spell-list vs),
  length-append (91 ∷ values_text true vs) (93 ∷ []),
  first_value_shorter vs,
)

-- ---- objects

first_field_shorter : (fs : List Field) → length (fields_text true fs) ≤ length (fields_text false fs)
unfolding spell_fields spell_more_fields
first_field_shorter [] = omega arith
first_field_shorter (f ∷ fs) = omega arith

pub length-object : (fs : List Field) → length (spell (object_of fs)) ≤ length (fields_text false fs) + 2
length-object fs = omega (
  arith,
  ap length (spell-object fs),
  length-append (123 ∷ fields_text true fs) (125 ∷ []),
  first_field_shorter fs,
)

pub length-field : (key : List ℕ) (v : Value) (short most : ℕ) → length key ≤ short → length (spell v) ≤ most
    → length (fields_text false (field key v ∷ [])) ≤ 2 * short + 4 + most
length-field key v short most few low = omega (
  arith,
  ap length (fields_text-one false key v),
  length-append (44 ∷ (quoted key ++ 58 ∷ [])) (spell v),
  length-append (quoted key) (58 ∷ []),
  length-quoted key,
)

pub length-optional : (key : List ℕ) (o : Option Value) (short most : ℕ) → length key ≤ short → IsWithin most o
    → length (fields_text false (optional key o)) ≤ 2 * short + 4 + most
unfolding spell_more_fields
length-optional key None short most few within = omega arith
length-optional key (Some v) short most few within = length-field key v short most few within

not_first : (fs : List Field) → is_first_after false fs ≡ false
not_first [] = refl
not_first (f ∷ fs) = refl

pub length-more : (fs gs : List Field)
    → length (fields_text false (fs ++ gs)) ≡ length (fields_text false fs) + length (fields_text false gs)
length-more fs gs =
    ap length (fields_text-append false fs gs)
    ∙ length-append (fields_text false fs) (fields_text (is_first_after false fs) gs)
    ∙ ap (λ b. length (fields_text false fs) + length (fields_text b gs)) (not_first fs)

pub length-fields : (n : ℕ) (f : ℕ → List Field) (most : ℕ)
    → ((k : ℕ) → k < n → length (fields_text false (f k)) ≤ most)
    → length (fields_text false (lists_below n f)) ≤ n * most
unfolding spell_more_fields
length-fields zero f most each = omega arith
length-fields (suc n) f most each = omega (
  arith,
  length-fields n f most (λ k low. each k (omega arith)),
  each n (omega arith),
  length-more (lists_below n f) (f n),
  one_more n most,
)

pub filled_within : (fs : List Field) (most : ℕ) → length (fields_text false fs) ≤ most → IsWithin (most + 2)
    (filled fs)
filled_within [] most low = tt
filled_within (f ∷ fs) most low = omega (arith, length-object (f ∷ fs))
