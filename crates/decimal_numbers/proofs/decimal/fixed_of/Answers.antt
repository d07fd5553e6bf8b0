use Rattle.std.proofs.Common.{◌≡◌, ◌∙◌, sym, ap, Option, Some, None, Bool, ◌<◌, ◌^◌, ℕ, List}
use Rattle.std.specs.Prelude.{option_map, IfSome}
use Rattle.decimal_numbers.specs.Exact.{fixed, fixed_parts}
use Rattle.decimal_numbers.specs.Decimal.{numerator, denominator}
use Rattle.json_grammar.specs.Grammar.{IsNumber}
use Rattle.decimal_numbers.specs.Scaling.{SizeIs, Rounds, counted_size}
use Rattle.json_grammar.specs.declared.token.Parts as Rust
use Rattle.json_grammar.specs.Split.{parts_view}
use Rattle.json_grammar.specs.Token.{parts_of}
use Rattle.decimal_numbers.proofs.Capped.{has_digits}
use Rattle.json_grammar.proofs.Tokens.{parts_sound, parts_found}
use Rattle.decimal_numbers.proofs.ExactLaws.{counted_is, fixed_sound, fixed_none, one_count, if_ok, on_err, turned}
use Rattle.decimal_numbers.proofs.decimal.fixed_of.Goals as goal

small : (size : Option ℕ) (c : ℕ) → SizeIs size c → IfSome size (λ s. s < 10 ^ 20)
small None c h = tt
small (Some s) c h = h.1

number : {bytes token : List ℕ} → bytes ≡ token → IsNumber token → IsNumber token
number e n = n

pub unreachable-requires : goal.unreachable-requires
unreachable-requires c =
    let n = c.as_bytes.ensures.number in
    let f : parts_of c.args.num.now ≡ Some n.0 = parts_found n.1 in
    let e : None ≡ parts_of c.as_bytes.result.now =
    sym (ap (option_map parts_view) c.in_default.is) ∙ c.parts_of.ensures in
    let g : parts_of c.as_bytes.result.now ≡ parts_of c.args.num.now = ap parts_of c.as_bytes.ensures.same in
    cc

pub rounded-requires : goal.rounded-requires
rounded-requires c = has_digits (parts_sound c.as_bytes.result.now (parts_view c.in-Some.parts)
    (sym c.parts_of.ensures ∙ ap (option_map parts_view) c.in-Some.is))

pub counted-requires : goal.counted-requires
counted-requires c = small c.rounded.result.size c.rounded.ensures.c c.rounded.ensures.size_is

-- what the code counted is what the function says
same_count : {o : Option Rust.Parts} {p : Rust.Parts} {token bytes : List ℕ} {size : Option ℕ} {differs : Bool}
    → option_map parts_view o ≡ parts_of bytes → o ≡ Some p → bytes ≡ token
    → Rounds (numerator (parts_view p) 12) (denominator (parts_view p)) size differs
    → counted_size (parts_view p).negative size differs ≡ fixed token
unfolding fixed
same_count {p = p} {size = size} {differs} e i s r =
    counted_is (parts_view p) size differs r ∙ ap fixed_parts (sym (ap (option_map parts_view) i) ∙ e ∙ ap parts_of s)

pub returns-clause-function : goal.returns-clause-function
returns-clause-function c = turned _ (fixed c.args.num.now) c.counted.result c.counted.ensures
    (same_count c.parts_of.ensures c.in-Some.is c.as_bytes.ensures.same c.rounded.ensures)

pub returns-clause-nearest : goal.returns-clause-nearest
returns-clause-nearest c = if_ok _ _ c.counted.result c.counted.ensures
    (λ r e. fixed_sound c.args.num.now r.0 r.1
    (sym (same_count c.parts_of.ensures c.in-Some.is c.as_bytes.ensures.same c.rounded.ensures) ∙ e))

pub returns-clause-no_other : goal.returns-clause-no_other
returns-clause-no_other c = if_ok _ _ c.counted.result c.counted.ensures
    (λ r e count differs h. one_count h
    (fixed_sound c.args.num.now r.0 r.1
    (sym (same_count c.parts_of.ensures c.in-Some.is c.as_bytes.ensures.same c.rounded.ensures) ∙ e)))

pub returns-clause-too_large : goal.returns-clause-too_large
returns-clause-too_large c = on_err _ _ c.counted.result c.counted.ensures
    (λ e. fixed_none c.args.num.now (number c.as_bytes.ensures.same c.as_bytes.ensures.number)
    (sym (same_count c.parts_of.ensures c.in-Some.is c.as_bytes.ensures.same c.rounded.ensures) ∙ e))
