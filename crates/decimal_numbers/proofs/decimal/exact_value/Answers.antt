use Rattle.std.proofs.Common.{◌∙◌, sym, ap, arith}
use Rattle.std.specs.Prelude.{option_map}
use Rattle.decimal_numbers.specs.Exact.{exactly, exact_parts}
use Rattle.json_grammar.specs.Split.{parts_view}
use Rattle.decimal_numbers.proofs.Capped.{has_digits}
use Rattle.json_grammar.proofs.Tokens.{parts_sound}
use Rattle.decimal_numbers.proofs.ExactLaws.{unrounded_is}
use Rattle.decimal_numbers.proofs.decimal.exact_value.Goals as goal

pub rounded-requires : goal.rounded-requires
rounded-requires c = has_digits (parts_sound c.args.bytes.now (parts_view c.in-Some.parts)
    (sym c.parts_of.ensures ∙ ap (option_map parts_view) c.in-Some.is))

pub returns-in-None : goal.returns-in-None
unfolding exactly
returns-in-None c =
    ap (exact_parts c.args.places c.args.most) (sym (ap (option_map parts_view) c.in-None.is) ∙ c.parts_of.ensures)

pub returns-in-Some : goal.returns-in-Some
unfolding exactly
returns-in-Some c = c.exact_size.ensures
    ∙ unrounded_is (parts_view c.in-Some.parts) c.args.places c.args.most c.rounded.result.size c.rounded.result.differs
    (omega arith) c.rounded.ensures
    ∙ ap (exact_parts c.args.places c.args.most) (sym (ap (option_map parts_view) c.in-Some.is) ∙ c.parts_of.ensures)
