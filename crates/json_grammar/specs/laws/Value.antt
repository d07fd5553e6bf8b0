-- A JSON value, without places: a number is its token, a text its bytes in UTF-8.
use Rattle.std.specs.Prelude.{ℕ, suc, max, Bool, List, [], ◌∷◌}

mutual
  pub data Value : Type 0 where
    null : Value
    boolean : Bool → Value
    number : List ℕ → Value
    text : List ℕ → Value
    list : Values → Value
    object : Fields → Value

  -- the elements of a list, in order
  pub data Values : Type 0 where
    no_values : Values
    and_value : Value → Values → Values

  -- the keys of an object, each with its value, in order
  pub data Fields : Type 0 where
    no_fields : Fields
    and_field : (key : List ℕ) → Value → Fields → Fields

-- the elements of a list, from a list
abbrev pub values_of : List Value → Values
values_of [] = no_values
values_of (v ∷ vs) = and_value v (values_of vs)

-- a key and the value under it
pub record Field : Type 0 where
  pub key : List ℕ
  pub value : Value

abbrev pub field : List ℕ → Value → Field
field key value = record { key = key; value = value }

-- the fields of an object, from a list
abbrev pub fields_of : List Field → Fields
fields_of [] = no_fields
fields_of (f ∷ fs) = and_field f.key f.value (fields_of fs)

-- how many arrays and objects are open at the place where most are
abbrev mutual
  pub depth : Value → ℕ
  depth Value.null = 0
  depth (Value.boolean b) = 0
  depth (Value.number s) = 0
  depth (Value.text s) = 0
  depth (Value.list vs) = suc (values_depth vs)
  depth (Value.object fs) = suc (fields_depth fs)

  pub values_depth : Values → ℕ
  values_depth no_values = 0
  values_depth (and_value v vs) = max (depth v) (values_depth vs)

  pub fields_depth : Fields → ℕ
  fields_depth no_fields = 0
  fields_depth (and_field key v fs) = max (depth v) (fields_depth fs)
