-- How large the numbers are that are read of a text.
use Rattle.std.proofs.Common.{◌≡◌, ℕ, ◌<◌, ◌≤◌, ◌^◌, ◌&&◌, Bool, true, false, cond, not, List, Option, Some, None, refl}
use Rattle.std.proofs.Common.{arith, unwrap_or, option_map}
use Rattle.std.specs.Prelude.{◌||◌, ◌==◌, nat_le, nat_lt, ℤ, pos, unsigned_abs}
use Rattle.std.proofs.lemmas.Bool.Decides.{nat_tests}
use Rattle.json_grammar.specs.Tree.{Tree, tree, Node}
use Rattle.json_grammar.specs.Grammar.{Parts}
use Rattle.decimal_numbers.specs.Decimal.{signed}
use Rattle.json_grammar.specs.Token.{parts_of}
use Rattle.decimal_numbers.specs.Exact.{is_exact, fixed_size, fixed_parts, fixed, exact_size, exact_parts, exactly}
use Rattle.decimal_numbers.specs.Exact.{whole, millionths}
use Rattle.instance_shape.specs.LookUp.{whole_at, part_at, count_at, token_at}

exact_most : (p : Parts) (places most size : ℕ) → unwrap_or (exact_size p places most size) 0 ≤ most
exact_most p places most size = by (is_exact p places size) (nat_le size most) (not p.negative || (size == 0)) refl
  where
    by : (a b c : Bool) → nat_le size most ≡ b → unwrap_or (cond (a && (b && c)) (Some size) None) 0 ≤ most
    by true true true e = le size most e
      where
        le : (n m : ℕ) → nat_le n m ≡ true → n ≤ m
        le n m e = grind (arith, nat_tests)
    by true true false e = omega arith
    by true false c e = omega arith
    by false b c e = omega arith

parts_most : (o : Option Parts) (places most : ℕ) → unwrap_or (exact_parts places most o) 0 ≤ most
parts_most None places most = omega arith
parts_most (Some p) places most = exact_most p places most _

exactly_most : (places most : ℕ) (token : List ℕ) → unwrap_or (exactly places most token) 0 ≤ most
unfolding exactly
exactly_most places most token = parts_most (parts_of token) places most

pub whole_at_most : (t : Tree) → whole_at t < 1_000_000_000
unfolding whole
whole_at_most (tree at end (Node.number x)) = omega (arith, exactly_most 0 999_999_999 x)
whole_at_most (tree at end (Node.text x)) = omega (arith, exactly_most 0 999_999_999 x)
whole_at_most (tree at end Node.null) = omega arith
whole_at_most (tree at end (Node.boolean b)) = omega arith
whole_at_most (tree at end (Node.list ts)) = omega arith
whole_at_most (tree at end (Node.object ms)) = omega arith

pub part_at_most : (t : Tree) → part_at t ≤ 1_000_000
unfolding millionths
part_at_most t = exactly_most 6 1_000_000 (token_at t)

signed_abs : (b : Bool) (n : ℕ) → unsigned_abs (signed b n) ≡ n
signed_abs true n = grind arith
signed_abs false n = refl

size_most : (p : Parts) (size : ℕ)
    → unsigned_abs (unwrap_or (option_map (λ (f : ℤ × Bool). f.0) (fixed_size p size)) (pos 0)) < 10 ^ 20
size_most p size = by (nat_lt size (10 ^ 20)) refl
  where
    lt : (n m : ℕ) → nat_lt n m ≡ true → n < m
    lt n m e = grind (arith, nat_tests)

    by : (b : Bool) → nat_lt size (10 ^ 20) ≡ b
        → unsigned_abs (unwrap_or
        (option_map (λ (f : ℤ × Bool). f.0) (cond b (Some (signed p.negative size, not (is_exact p 12 size))) None))
        (pos 0)) < 10 ^ 20
    by true e = let q : size < 10 ^ 20 = lt size (10 ^ 20) e in omega (arith, signed_abs p.negative size)
    by false e = omega arith

count_parts : (o : Option Parts)
    → unsigned_abs (unwrap_or (option_map (λ (f : ℤ × Bool). f.0) (fixed_parts o)) (pos 0)) < 10 ^ 20
count_parts None = omega arith
count_parts (Some p) = size_most p _

pub count_at_most : (t : Tree) → unsigned_abs (count_at t) < 10 ^ 20
unfolding fixed
count_at_most t = count_parts (parts_of (token_at t))
