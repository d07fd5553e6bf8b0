use Rattle.std.proofs.Common.{◌≡◌, ◌∙◌, ap, sym, map, None, subst}
use Rattle.std.specs.Prelude.{unwrap_or}
use Rattle.instance_model.specs.Rules.{first_start_rule}
use Rattle.command_frame.specs.Openings.{IsOpeningOf}
use Rattle.command_frame.proofs.RuleNames.{start_rule_names}
use Rattle.command_frame.proofs.OpeningLemmas.{opening_from}
use Rattle.command_frame.proofs.opening.opening_of.Goals as goal

pub infeasible_text-requires : goal.infeasible_text-requires
infeasible_text-requires c =
    start_rule_names c.args.inst.now c.as_slice.result.now c.in-Some.rule (sym c.broken_start.ensures ∙ c.in-Some.is)

pub returns-in_ok-starts_of-in-None : goal.returns-in_ok-starts_of-in-None
returns-in_ok-starts_of-in-None c =
    let none : first_start_rule c.args.inst.now c.args.plan.now ≡ None = ap (first_start_rule c.args.inst.now)
    (sym c.as_slice.ensures) ∙ sym c.broken_start.ensures ∙ c.in-None.is in
    subst (IsOpeningOf c.args.inst.now c.args.plan.now)
    (sym (c.from_vec.ensures ∙ c.in_ok-starts_of-in-None.ensures ∙ ap
    (map (λ start. unwrap_or start 0)) c.as_slice-in-None.ensures))
    (opening_from c.args.inst.now c.args.plan.now c.requires none)
