-- Texts that are taken piece by piece: one after another, and element by element in a loop.
use Rattle.std.proofs.Common.{◌≡◌, ℕ, ◌+◌, Bool, true, false, List, [], ◌∷◌, ◌++◌, refl, sym, ◌∙◌, ap, subst, Option}
use Rattle.std.proofs.Common.{Some, None}
use Rattle.std.proofs.Common.{add-one}
use Rattle.json_grammar.specs.laws.Value.{Value, values_of, Field, field}
use Rattle.json_grammar.specs.laws.Spelling.{quoted, spell, spell_values, spell_fields}
use Rattle.instance_shape.specs.FileTables.{lists_below}
use Rattle.instance_writer.specs.text.Written.{object_of, optional}
use Rattle.instance_writer.specs.Steps.{separator, values_text, fields_text, is_first_after}
use Rattle.instance_writer.proofs.TextLemmas.{values_text-append, spell-list, fields_text-append, fields_text-one}
use Rattle.instance_writer.proofs.TextLemmas.{spell-object, fields_text-none, first_after_both}

pub lists_more : {A : Type 0} (n : ℕ) (f : ℕ → List A) → lists_below (n + 1) f ≡ lists_below n f ++ f n
lists_more {A = A} n f = ap (λ k. lists_below {A = A} k f) (add-one n)

-- so many elements of a list, with its bracket, were taken
pub record HasValues {A : Type 0} (Takes : List ℕ → A → A → Type 0) (f : ℕ → List Value) (n : ℕ) (first : Bool)
    (old new : A) : Type 0 where
  pub flag : first ≡ is_first_after true (lists_below n f)
  pub text : Takes (91 ∷ values_text true (lists_below n f)) old new

-- so many fields of an object, with its brace, were taken
pub record HasFields {A : Type 0} (Takes : List ℕ → A → A → Type 0) (f : ℕ → List Field) (n : ℕ) (first : Bool)
    (old new : A) : Type 0 where
  pub flag : first ≡ is_first_after true (lists_below n f)
  pub text : Takes (123 ∷ fields_text true (lists_below n f)) old new

-- the same text, written in another way
pub respelled : {A : Type 0} (Takes : List ℕ → A → A → Type 0) {a b : List ℕ} {s t : A} → a ≡ b → Takes a s t
    → Takes b s t
respelled Takes {s = s} {t = t} e took = subst (λ text. Takes text s t) e took

module _ {A : Type 0} (Takes : List ℕ → A → A → Type 0)
    (more : (a b : List ℕ) (s t u : A) → Takes a s t → Takes b t u → Takes (a ++ b) s u) where
  pub two : {a b : List ℕ} {s t u : A} → Takes a s t → Takes b t u → Takes (a ++ b) s u
  two {a = a} {b = b} {s = s} {t = t} {u = u} one other = more a b s t u one other

  pub begin_values : {f : ℕ → List Value} {s t : A} → Takes (91 ∷ []) s t → HasValues Takes f 0 true s t
  unfolding spell_values
  begin_values took = record { flag = refl; text = took }

  pub next_values : (f : ℕ → List Value) (n : ℕ) {first next : Bool} {s t u : A} → HasValues Takes f n first s t
      → Takes (values_text first (f n)) t u → next ≡ is_first_after first (f n)
      → HasValues Takes f (n + 1) next s u
  next_values f n {first = first} {next = next} {s = s} {t = t} {u = u} have took is = record {
    flag = is ∙ ap (λ b. is_first_after b (f n)) have.flag ∙ sym (first_after_both true (lists_below n f) (f n))
        ∙ ap (is_first_after true) (sym (lists_more n f));
    text = respelled Takes
        (ap (λ l. 91 ∷ l)
        (ap (λ b. values_text true (lists_below n f) ++ values_text b (f n)) have.flag
        ∙ sym (values_text-append true (lists_below n f) (f n)) ∙ ap (values_text true) (sym (lists_more n f))))
        (two have.text took);
  }

  pub end_values : (f : ℕ → List Value) (vs : List Value) (n m : ℕ) → n ≡ m → lists_below m f ≡ vs → {first : Bool}
      {s t u : A} → HasValues Takes f n first s t → Takes (93 ∷ []) t u → Takes (spell (Value.list (values_of vs))) s u
  end_values f vs n m e all have took =
      respelled Takes
      (sym (spell-list (lists_below n f))
      ∙ ap (λ (l : List Value). spell (Value.list (values_of l))) (ap (λ k. lists_below k f) e ∙ all))
      (two have.text took)

  pub begin_fields : {f : ℕ → List Field} {s t : A} → Takes (123 ∷ []) s t → HasFields Takes f 0 true s t
  unfolding spell_fields
  begin_fields took = record { flag = refl; text = took }

  pub next_fields : (f : ℕ → List Field) (n : ℕ) {first next : Bool} {s t u : A} → HasFields Takes f n first s t
      → Takes (fields_text first (f n)) t u → next ≡ is_first_after first (f n)
      → HasFields Takes f (n + 1) next s u
  next_fields f n {first = first} {next = next} {s = s} {t = t} {u = u} have took is = record {
    flag = is ∙ ap (λ b. is_first_after b (f n)) have.flag ∙ sym (first_after_both true (lists_below n f) (f n))
        ∙ ap (is_first_after true) (sym (lists_more n f));
    text = respelled Takes
        (ap (λ l. 123 ∷ l)
        (ap (λ b. fields_text true (lists_below n f) ++ fields_text b (f n)) have.flag
        ∙ sym (fields_text-append true (lists_below n f) (f n)) ∙ ap (fields_text true) (sym (lists_more n f))))
        (two have.text took);
  }

  pub end_fields : (f : ℕ → List Field) (n m : ℕ) → n ≡ m → {first : Bool} {s t u : A} → HasFields Takes f n first s t
      → Takes (125 ∷ []) t u → Takes (spell (object_of (lists_below m f))) s u
  end_fields f n m e have took =
      respelled Takes (sym (spell-object (lists_below n f)) ∙ ap (λ k. spell (object_of (lists_below k f))) e)
      (two have.text took)

  -- a key, and the value behind its colon
  pub put_field : (first : Bool) (key name : List ℕ) (v : Value) {s t u : A} → key ≡ name
      → Takes (separator first ++ (quoted key ++ 58 ∷ [])) s t → Takes (spell v) t u
      → Takes (fields_text first (field name v ∷ [])) s u
  put_field first key name v e front took =
      respelled Takes
      (ap (λ (k : List ℕ). (separator first ++ (quoted k ++ 58 ∷ [])) ++ spell v) e
      ∙ sym (fields_text-one first name v))
      (two front took)

  -- some fields, and then others
  pub join_fields : (first : Bool) (fs gs : List Field) {s t u : A} → Takes (fields_text first fs) s t
      → Takes (fields_text (is_first_after first fs) gs) t u → Takes (fields_text first (fs ++ gs)) s u
  join_fields first fs gs front took =
      respelled Takes (sym (fields_text-append first fs gs)) (two front took)

  -- fields between braces
  pub whole_object : {s t u v : A} (fs : List Field) → Takes (123 ∷ []) s t → Takes (fields_text true fs) t u
      → Takes (125 ∷ []) u v → Takes (spell (object_of fs)) s v
  whole_object fs begun fields ended = respelled Takes (sym (spell-object fs)) (two (two begun fields) ended)

  -- some elements, and then others
  pub join_values : (first : Bool) (vs ws : List Value) {s t u : A} → Takes (values_text first vs) s t
      → Takes (values_text (is_first_after first vs) ws) t u → Takes (values_text first (vs ++ ws)) s u
  join_values first vs ws front took =
      respelled Takes (sym (values_text-append first vs ws)) (two front took)

  -- elements between brackets
  pub whole_list : {s t u v : A} (vs : List Value) → Takes (91 ∷ []) s t → Takes (values_text true vs) t u
      → Takes (93 ∷ []) u v → Takes (spell (Value.list (values_of vs))) s v
  whole_list vs begun values ended = respelled Takes (sym (spell-list vs)) (two (two begun values) ended)

  -- the value under a key, where there is one
  pub put_some : (first : Bool) (key name : List ℕ) (v : Value) (o : Option Value) {s t u : A} → key ≡ name → o ≡ Some v
      → Takes (separator first ++ (quoted key ++ 58 ∷ [])) s t → Takes (spell v) t u
      → Takes (fields_text first (optional name o)) s u
  put_some first key name v o e some front took =
      respelled Takes (ap (λ (x : Option Value). fields_text first (optional name x)) (sym some))
      (put_field first key name v e front took)

  pub put_none : (first : Bool) (name : List ℕ) (o : Option Value) {s t : A} → o ≡ None → Takes [] s t
      → Takes (fields_text first (optional name o)) s t
  put_none first name o none took =
      respelled Takes
      (sym (ap (λ (x : Option Value). fields_text first (optional name x)) none ∙ fields_text-none first)) took

pub first_some : (first : Bool) (name : List ℕ) (v : Value) (o : Option Value) → o ≡ Some v
    → false ≡ is_first_after first (optional name o)
first_some first name v o some = ap (λ (x : Option Value). is_first_after first (optional name x)) (sym some)

pub first_none : (first : Bool) (name : List ℕ) (o : Option Value) → o ≡ None
    → first ≡ is_first_after first (optional name o)
first_none first name o none = ap (λ (x : Option Value). is_first_after first (optional name x)) (sym none)
