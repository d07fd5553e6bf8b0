use Rattle.std.proofs.Common.{ℕ, ◌∙◌, sym, ap, List, string_bytes, Some, is_some, Option, unwrap_or}
use Rattle.std.specs.Prelude.{bytes_eq}
use Rattle.instance_shape.specs.CrossFaults.{unless, unknown}
use Rattle.instance_model.proofs.NameLemmas.{position-map}
use Rattle.instance_rows.proofs.names.number_of.Goals as goal

pub returns-in-Some-clause-told : goal.returns-in-Some-clause-told
returns-in-Some-clause-told c =
    ap (λ (o : Option ℕ). unless (is_some o) (unknown c.args.name.now))
    (position-map (bytes_eq c.args.name.now) string_bytes c.args.names.now.texts.keys ∙ sym c.in-Some.ensures.index)

pub returns-in-Some-clause-value : goal.returns-in-Some-clause-value
returns-in-Some-clause-value c = ap (λ (o : Option ℕ). unwrap_or o 0)
    (c.in-Some.ensures.index ∙ sym (position-map (bytes_eq c.args.name.now) string_bytes c.args.names.now.texts.keys))

pub returns-in_ok-to_string-in-None-clause-told : goal.returns-in_ok-to_string-in-None-clause-told
returns-in_ok-to_string-in-None-clause-told c =
    ap (λ (o : Option ℕ). unless (is_some o) (unknown c.args.name.now))
    (position-map (bytes_eq c.args.name.now) string_bytes c.args.names.now.texts.keys ∙ sym c.in-None.ensures.index)
    ∙ ap (λ (n : List ℕ). Some (unknown n)) (sym c.in_ok-to_string-in-None.ensures.ok)
