-- What the steps of writing an instance say. Cited by private functions only: no part of any promise.
use Rattle.std.specs.Prelude.{ℕ, Bool, true, false, List, [], ◌∷◌, Option, slice_index_or}
use Rattle.json_grammar.specs.laws.Value.{Value, values_of, Field, fields_of}
use Rattle.json_grammar.specs.laws.Spelling.{spell_values, spell_more_values, spell_fields, spell_more_fields}
use Rattle.instance_model.specs.Tables.{Tables, tmax}
use Rattle.instance_shape.specs.declared.fault.Known.TheVariants as known
use Rattle.instance_writer.specs.text.Styles.{Style}
use Rattle.instance_writer.specs.text.Written.{whole_number, whole_list, under, filled, numbered, load_value, risks_of}

-- the comma before an element or a field, unless it is the first
abbrev pub separator : Bool → List ℕ
separator true = []
separator false = 44 ∷ []

-- the elements of a list from some place on, which may be the first
abbrev pub values_text : Bool → List Value → List ℕ
values_text true vs = spell_values (values_of vs)
values_text false vs = spell_more_values (values_of vs)

-- the fields of an object from some place on, which may be the first
abbrev pub fields_text : Bool → List Field → List ℕ
fields_text true fs = spell_fields (fields_of fs)
fields_text false fs = spell_more_fields (fields_of fs)

-- nothing stood before these, and there is none of them
abbrev pub is_first_after : {A : Type 0} → Bool → List A → Bool
is_first_after first [] = first
is_first_after first (x ∷ xs) = false

-- the workload of intervention i at start s, of resource c in period t, where there is one
abbrev pub start_load : Style → Tables → ℕ → ℕ → ℕ → ℕ → Option Value
start_load style inst i c t s = load_value style (slice_index_or inst.loads i []) c t s

-- those in period t, by start; none where there is no such one
abbrev pub period_loads : Style → Tables → ℕ → ℕ → ℕ → Option Value
period_loads style inst i c t = filled (numbered (tmax inst i) (start_load style inst i c t))

-- the risks of intervention i in period t, by start; none where no run holds the period
abbrev pub period_risks : Style → Tables → ℕ → ℕ → Option Value
period_risks style inst i t = filled (numbered (tmax inst i) (risks_of style inst i t))

-- the last fields of an instance
abbrev pub number_fields : Style → Tables → List Field
number_fields style inst =
    under known.T (whole_number inst.periods)
    ∷ under known.ScenariosNumber (whole_list inst.scenarios)
    ∷ under known.Quantile (Value.number (style.part inst.quantile))
    ∷ under known.Alpha (Value.number (style.part inst.alpha)) ∷ []
