-- The texts of lists and objects, piece by piece.
use Rattle.std.proofs.Common.{◌≡◌, ◌⊎◌, ℕ, ◌+◌, ◌-◌, ◌/◌, ◌%◌, ◌<◌, ◌≤◌, Bool, true, false, List, [], ◌∷◌, ◌++◌, refl}
use Rattle.std.proofs.Common.{sym, ◌∙◌, ap, append_assoc}
use Rattle.std.proofs.Common.{cond, inl, inr, arith, length, take, get_or, decimal, map}
use Rattle.std.specs.Prelude.{replicate}
use Rattle.std.proofs.lemmas.Bool.Decides.{nat_tests}
use Rattle.std.proofs.lemmas.List.{append-nil, take_more, take-replicate}
use Rattle.json_grammar.specs.laws.Value.{Value, values_of, Field, field, fields_of}
use Rattle.json_grammar.specs.laws.Spelling.{escaped, needs_escape, quoted, spell, spell_values, spell_more_values}
use Rattle.json_grammar.specs.laws.Spelling.{spell_fields, spell_more_fields}
use Rattle.instance_writer.specs.text.Styles.{part_text}
use Rattle.instance_writer.specs.text.Written.{object_of}
use Rattle.instance_writer.specs.Steps.{separator, values_text, fields_text, is_first_after}

pub escaped-append : (a b : List ℕ) → escaped (a ++ b) ≡ escaped a ++ escaped b
unfolding escaped
escaped-append [] b = refl
escaped-append (x ∷ a) b = go (needs_escape x) (escaped-append a b)
  where
    go : (e : Bool) → escaped (a ++ b) ≡ escaped a ++ escaped b
        → cond e (92 ∷ x ∷ escaped (a ++ b)) (x ∷ escaped (a ++ b))
        ≡ cond e (92 ∷ x ∷ escaped a) (x ∷ escaped a) ++ escaped b
    go true rest = ap (λ l. 92 ∷ x ∷ l) rest
    go false rest = ap (λ l. x ∷ l) rest

-- what stands for one byte
pub escaped-mark : (b : ℕ) → (b ≡ 34) ⊎ ((b ≡ 34 → ⊥) × (b ≡ 92)) → escaped (b ∷ []) ≡ 92 ∷ b ∷ []
unfolding escaped
escaped-mark b (inl e) =
    let marked : needs_escape b ≡ true = grind (arith, nat_tests) in ap (λ t. cond t (92 ∷ b ∷ []) (b ∷ [])) marked
escaped-mark b (inr e) =
    let marked : needs_escape b ≡ true = grind (arith, nat_tests) in ap (λ t. cond t (92 ∷ b ∷ []) (b ∷ [])) marked

pub escaped-plain : (b : ℕ) → (b ≡ 34 → ⊥) × (b ≡ 92 → ⊥) → escaped (b ∷ []) ≡ b ∷ []
unfolding escaped
escaped-plain b plain =
    let marked : needs_escape b ≡ false = grind (arith, nat_tests) in ap (λ t. cond t (92 ∷ b ∷ []) (b ∷ [])) marked

pub escaped-more : (bs : List ℕ) (n d : ℕ) → n < length bs
    → escaped (take (n + 1) bs) ≡ escaped (take n bs) ++ escaped (get_or bs n d ∷ [])
escaped-more bs n d low = ap escaped (take_more bs n d low) ∙ escaped-append (take n bs) (get_or bs n d ∷ [])

-- ---- elements of a list

more_values : (vs ws : List Value) → spell_more_values (values_of (vs ++ ws))
    ≡ spell_more_values (values_of vs) ++ spell_more_values (values_of ws)
unfolding spell_more_values
more_values [] ws = refl
more_values (v ∷ vs) ws =
    ap (λ l. 44 ∷ (spell v ++ l)) (more_values vs ws)
    ∙ ap (λ l. 44 ∷ l) (sym (append_assoc (spell v) (spell_more_values (values_of vs))
    (spell_more_values (values_of ws))))

pub values_text-append : (first : Bool) (vs ws : List Value) → values_text first (vs ++ ws)
    ≡ values_text first vs ++ values_text (is_first_after first vs) ws
unfolding spell_values spell_more_values
values_text-append true [] ws = refl
values_text-append true (v ∷ vs) ws =
    ap (λ l. spell v ++ l) (more_values vs ws)
    ∙ sym (append_assoc (spell v) (spell_more_values (values_of vs)) (spell_more_values (values_of ws)))
values_text-append false [] ws = refl
values_text-append false (v ∷ vs) ws = more_values (v ∷ vs) ws

pub values_text-none : (first : Bool) → values_text first [] ≡ []
unfolding spell_values spell_more_values
values_text-none true = refl
values_text-none false = refl

pub values_text-one : (first : Bool) (v : Value) → values_text first (v ∷ []) ≡ separator first ++ spell v
unfolding spell_values spell_more_values
values_text-one true v = append-nil (spell v)
values_text-one false v = ap (λ l. 44 ∷ l) (append-nil (spell v))

pub text_in_list : (first : Bool) (s : List ℕ) → separator first ++ quoted s ≡ values_text first (Value.text s ∷ [])
unfolding spell
text_in_list first s = sym (values_text-one first (Value.text s))

pub number_in_list : (first : Bool) (s : List ℕ) → separator first ++ s ≡ values_text first (Value.number s ∷ [])
unfolding spell
number_in_list first s = sym (values_text-one first (Value.number s))

pub spell-list : (vs : List Value) → spell (Value.list (values_of vs)) ≡ (91 ∷ values_text true vs) ++ 93 ∷ []
unfolding spell
spell-list vs = refl

-- ---- fields of an object

regroup : (k v rest more : List ℕ) → k ++ (58 ∷ (v ++ (rest ++ more))) ≡ (k ++ (58 ∷ (v ++ rest))) ++ more
regroup k v rest more =
    ap (λ l. k ++ (58 ∷ l)) (sym (append_assoc v rest more)) ∙ sym (append_assoc k (58 ∷ (v ++ rest)) more)

more_fields : (fs gs : List Field) → spell_more_fields (fields_of (fs ++ gs))
    ≡ spell_more_fields (fields_of fs) ++ spell_more_fields (fields_of gs)
unfolding spell_more_fields
more_fields [] gs = refl
more_fields (f ∷ fs) gs =
    ap (λ l. 44 ∷ (quoted f.key ++ (58 ∷ (spell f.value ++ l)))) (more_fields fs gs)
    ∙ ap (λ l. 44 ∷ l)
    (regroup (quoted f.key) (spell f.value) (spell_more_fields (fields_of fs)) (spell_more_fields (fields_of gs)))

pub fields_text-append : (first : Bool) (fs gs : List Field) → fields_text first (fs ++ gs)
    ≡ fields_text first fs ++ fields_text (is_first_after first fs) gs
unfolding spell_fields spell_more_fields
fields_text-append true [] gs = refl
fields_text-append true (f ∷ fs) gs =
    ap (λ l. quoted f.key ++ (58 ∷ (spell f.value ++ l))) (more_fields fs gs)
    ∙ regroup (quoted f.key) (spell f.value) (spell_more_fields (fields_of fs)) (spell_more_fields (fields_of gs))
fields_text-append false [] gs = refl
fields_text-append false (f ∷ fs) gs = more_fields (f ∷ fs) gs

pub fields_text-none : (first : Bool) → fields_text first [] ≡ []
unfolding spell_fields spell_more_fields
fields_text-none true = refl
fields_text-none false = refl

key_first : (key : List ℕ) (v : Value) → quoted key ++ (58 ∷ (spell v ++ [])) ≡ (quoted key ++ 58 ∷ []) ++ spell v
key_first key v =
    ap (λ l. quoted key ++ (58 ∷ l)) (append-nil (spell v)) ∙ sym (append_assoc (quoted key) (58 ∷ []) (spell v))

pub fields_text-one : (first : Bool) (key : List ℕ) (v : Value) → fields_text first (field key v ∷ [])
    ≡ (separator first ++ (quoted key ++ 58 ∷ [])) ++ spell v
unfolding spell_fields spell_more_fields
fields_text-one true key v = key_first key v
fields_text-one false key v = ap (λ l. 44 ∷ l) (key_first key v)

pub spell-object : (fs : List Field) → spell (object_of fs) ≡ (123 ∷ fields_text true fs) ++ 125 ∷ []
unfolding spell
spell-object fs = refl

-- ---- what is first

pub first_after_both : {A : Type 0} (first : Bool) (xs ys : List A)
    → is_first_after first (xs ++ ys) ≡ is_first_after (is_first_after first xs) ys
first_after_both first [] ys = refl
first_after_both first (x ∷ xs) [] = refl
first_after_both first (x ∷ xs) (y ∷ ys) = refl

-- ---- millionths

pub part_pieces : (m : ℕ) (whole digits : List ℕ) → whole ≡ decimal (m / 1000000) → digits ≡ decimal (m % 1000000)
    → length digits ≤ 6 → (whole ++ 46 ∷ []) ++ (take (6 - length digits) (replicate 6 48) ++ digits) ≡ part_text m
part_pieces m whole digits w d short =
    ap (λ (l : List ℕ). (l ++ 46 ∷ []) ++ (take (6 - length digits) (replicate 6 48) ++ digits)) w
    ∙ ap (λ (l : List ℕ). (decimal (m / 1000000) ++ 46 ∷ []) ++ (l ++ digits))
    (take-replicate (6 - length digits) 6 48 (omega arith))
    ∙ ap (λ (l : List ℕ). (decimal (m / 1000000) ++ 46 ∷ []) ++ (replicate (6 - length l) 48 ++ l)) d

pub first_after-map : {A B : Type 0} (first : Bool) (f : A → B) (xs : List A)
    → is_first_after first (map f xs) ≡ is_first_after first xs
first_after-map first f [] = refl
first_after-map first f (x ∷ xs) = refl
