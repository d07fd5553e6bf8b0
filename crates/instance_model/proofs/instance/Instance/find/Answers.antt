use Rattle.std.proofs.Common.{◌∙◌, sym, ap, position, string_bytes}
use Rattle.std.specs.Prelude.{bytes_eq}
use Rattle.instance_model.specs.Tables.{Tables}
use Rattle.instance_model.proofs.NameLemmas.{position-map, found_name, no_name}
use Rattle.instance_model.proofs.instance.Instance.find.Goals as goal

pub returns-in-Some-clause-value : goal.returns-in-Some-clause-value
returns-in-Some-clause-value c = c.in-Some.ensures.index
    ∙ sym (position-map (bytes_eq c.args.name.now) string_bytes c.self.inside.parts.interventions.texts.keys)
    ∙ ap (λ (x : Tables). position (bytes_eq c.args.name.now) x.names) c.self.view_is

pub returns-in-None-clause-value : goal.returns-in-None-clause-value
returns-in-None-clause-value c = c.in-None.ensures.index
    ∙ sym (position-map (bytes_eq c.args.name.now) string_bytes c.self.inside.parts.interventions.texts.keys)
    ∙ ap (λ (x : Tables). position (bytes_eq c.args.name.now) x.names) c.self.view_is

pub returns-in-Some-clause-found : goal.returns-in-Some-clause-found
returns-in-Some-clause-found c =
    found_name c.args.self.now.names c.args.name.now c.in-Some.i (returns-in-Some-clause-value c)

pub returns-in-None-clause-none : goal.returns-in-None-clause-none
returns-in-None-clause-none c = no_name c.args.self.now.names c.args.name.now (returns-in-None-clause-value c)
