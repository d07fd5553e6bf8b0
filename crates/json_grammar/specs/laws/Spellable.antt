-- Defines which values have a text that is read as the value.
use Rattle.std.specs.Prelude.{ℕ, ◌≤◌, List, All}
use Rattle.std.specs.Str.{IsUtf8}
use Rattle.json_grammar.specs.Grammar.{IsNumber}
use Rattle.json_grammar.specs.laws.Value.{Value, Values, no_values, and_value, Fields, no_fields, and_field, depth}

-- UTF-8 without control bytes
pub record IsSpellableText (bytes : List ℕ) : Type 0 where
  pub utf8 : IsUtf8 bytes
  pub printable : All (λ b. 32 ≤ b) bytes

-- each number is a JSON number token, each text and key is UTF-8 without control bytes
abbrev mutual
  pub IsSound : Value → Type 0
  IsSound Value.null = Unit {0}
  IsSound (Value.boolean b) = Unit {0}
  IsSound (Value.number s) = IsNumber s
  IsSound (Value.text s) = IsSpellableText s
  IsSound (Value.list vs) = AreSound vs
  IsSound (Value.object fs) = AreSoundFields fs

  pub AreSound : Values → Type 0
  AreSound no_values = Unit {0}
  AreSound (and_value v vs) = IsSound v × AreSound vs

  pub AreSoundFields : Fields → Type 0
  AreSoundFields no_fields = Unit {0}
  AreSoundFields (and_field key v fs) = IsSpellableText key × IsSound v × AreSoundFields fs

-- sound, and nested at most 16 deep
pub record IsSpellable (v : Value) : Type 0 where
  pub sound : IsSound v
  pub shallow : depth v ≤ 16
