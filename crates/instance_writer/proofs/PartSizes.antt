-- How long the parts of an instance's text are at most.
use Rattle.std.proofs.Common.{ℕ, ◌+◌, ◌*◌, ◌^◌, ◌<◌, ◌≤◌, false, List, [], length}
use Rattle.std.proofs.Common.{arith, Option, map, decimal}
use Rattle.std.specs.Prelude.{ℤ, All, unsigned_abs, slice_index_or}
use Rattle.std.proofs.lemmas.List.Elements.{All-map, All-weaker}
use Rattle.fixed_num.specs.Sums.{list_of}
use Rattle.fixed_num.proofs.SumLemmas.{length-list_of}
use Rattle.json_grammar.specs.laws.Value.{Value}
use Rattle.json_grammar.specs.laws.Spelling.{spell}
use Rattle.instance_model.specs.Fitting.{IsName}
use Rattle.instance_writer.specs.text.Styles.{decimals}
use Rattle.instance_writer.specs.text.Written.{count_number, count_list, whole_number, whole_list}
use Rattle.instance_writer.specs.text.Written.{numbered, named}
use Rattle.instance_writer.specs.Steps.{fields_text}
use Rattle.instance_writer.proofs.Items.{named_item, numbered_item}
use Rattle.instance_writer.proofs.SizeLemmas.{IsWithin, length-values, length-list, length-optional}
use Rattle.instance_writer.proofs.SizeLemmas.{length-fields}
use Rattle.instance_writer.proofs.NumberSizes.{length-whole, length-count}

-- ---- lists of numbers

pub count_list_short : (zs : List ℤ) → All (λ z. unsigned_abs z < 10 ^ 21) zs
    → length (spell (count_list decimals zs)) ≤ length zs * 36 + 2
unfolding spell
count_list_short zs small = omega (
  arith,
  length-list (map (count_number decimals) zs),
  length-values (count_number decimals) 35 zs
      (All-weaker (λ z. unsigned_abs z < 10 ^ 21) (λ z. length (spell (count_number decimals z)) ≤ 35)
      (λ z low. length-count z low) zs small),
)

pub whole_list_short : (ns : List ℕ) → All (λ n. n < 10 ^ 9) ns
    → length (spell (whole_list ns)) ≤ length ns * 10 + 2
unfolding spell
whole_list_short ns small = omega (
  arith,
  length-list (map whole_number ns),
  length-values whole_number 9 ns
      (All-weaker (λ n. n < 10 ^ 9) (λ n. length (spell (whole_number n)) ≤ 9) (λ n low. length-whole n low) ns small),
)

pub counts_short : (n : ℕ) (f : ℕ → ℤ) → ((k : ℕ) → unsigned_abs (f k) < 10 ^ 21)
    → length (spell (count_list decimals (list_of n f))) ≤ n * 36 + 2
counts_short n f small = omega (
  arith,
  count_list_short (list_of n f)
      (All-map (λ z. unsigned_abs z < 10 ^ 21) f _ (λ k d low. small (slice_index_or _ k d))),
  length-list_of n f,
)

-- ---- objects by number and by name

-- the fields under numbers up to 512, each of whose values has at most so many bytes
pub numbered_short : (n : ℕ) (f : ℕ → Option Value) (most : ℕ) → n ≤ 512
    → ((k : ℕ) → k < n → IsWithin most (f (k + 1)))
    → length (fields_text false (numbered n f)) ≤ n * (22 + most)
numbered_short n f most few each =
    length-fields n (numbered_item f) (22 + most)
    (λ k low. length-optional (decimal (k + 1)) (f (k + 1)) 9 most (length-whole (k + 1) (omega arith)) (each k low))

-- the fields under names
pub named_short : (names : List (List ℕ)) (f : ℕ → Option Value) (most : ℕ) → All IsName names
    → ((k : ℕ) → k < length names → IsWithin most (f k))
    → length (fields_text false (named names f)) ≤ length names * (260 + most)
named_short names f most shaped each =
    length-fields (length names) (named_item names f) (260 + most)
    (λ k low. length-optional (slice_index_or names k []) (f k) 128 most (shaped k [] low).short (each k low))
