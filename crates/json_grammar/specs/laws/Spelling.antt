-- Defines the shortest text of a value: no blanks, and no escape but those of quotes and backslashes.
use Rattle.std.specs.Prelude.{ℕ, ◌==◌, ◌||◌, Bool, true, false, cond, List, [], ◌∷◌, ◌++◌}
use Rattle.json_grammar.specs.laws.Value.{Value, Values, no_values, and_value, Fields, no_fields, and_field}

-- a quote or a backslash, which doesn't stand for itself between quotes
abbrev pub needs_escape : ℕ → Bool
needs_escape b = (b == 34) || (b == 92)

-- the bytes of a text between its quotes: a backslash before each quote and backslash, the rest as it is
unfoldable pub escaped : List ℕ → List ℕ
escaped [] = []
escaped (b ∷ bs) = cond (needs_escape b) (92 ∷ b ∷ escaped bs) (b ∷ escaped bs)

-- a text with its quotes
unfoldable pub quoted : List ℕ → List ℕ
quoted s = 34 ∷ (escaped s ++ 34 ∷ [])

unfoldable mutual
  -- the text of a value
  pub spell : Value → List ℕ
  spell Value.null = 110 ∷ 117 ∷ 108 ∷ 108 ∷ []
  spell (Value.boolean true) = 116 ∷ 114 ∷ 117 ∷ 101 ∷ []
  spell (Value.boolean false) = 102 ∷ 97 ∷ 108 ∷ 115 ∷ 101 ∷ []
  spell (Value.number s) = s
  spell (Value.text s) = quoted s
  spell (Value.list vs) = 91 ∷ (spell_values vs ++ 93 ∷ [])
  spell (Value.object fs) = 123 ∷ (spell_fields fs ++ 125 ∷ [])

  -- the elements of a list between its brackets, with a comma between each two
  pub spell_values : Values → List ℕ
  spell_values no_values = []
  spell_values (and_value v vs) = spell v ++ spell_more_values vs

  -- the elements from the second on, each with its comma
  pub spell_more_values : Values → List ℕ
  spell_more_values no_values = []
  spell_more_values (and_value v vs) = 44 ∷ (spell v ++ spell_more_values vs)

  -- the fields of an object between its braces, with a comma between each two
  pub spell_fields : Fields → List ℕ
  spell_fields no_fields = []
  spell_fields (and_field key v fs) = quoted key ++ (58 ∷ (spell v ++ spell_more_fields fs))

  -- the fields from the second on, each with its comma
  pub spell_more_fields : Fields → List ℕ
  spell_more_fields no_fields = []
  spell_more_fields (and_field key v fs) = 44 ∷ (quoted key ++ (58 ∷ (spell v ++ spell_more_fields fs)))
