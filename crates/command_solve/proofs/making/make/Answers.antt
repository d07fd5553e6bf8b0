use Rattle.std.proofs.Common.{List, ℕ, subst}
use Rattle.std.specs.Prelude.{option_map}
use Rattle.price_ladder.specs.Raised.{IsRaised}
use Rattle.command_solve.proofs.MakingLemmas.{is_made}
use Rattle.command_solve.proofs.making.make.Goals as goal

pub returns : goal.returns
returns g c =
    let inst = c.args.inst.now in
    let prices = c.in_ok-prices.prices in
    let p = c.in_ok-prices.ensures in
    let a = c.in_ok-answer.ensures in
    is_made inst c.fits.ensures c.args.turns c.requires.turns c.args.opening.now c.requires.opening
    c.in_ok-descended.descended
    c.in_ok-descended.ensures prices
    (record {
      in_range = p.in_range;
      raised = subst (λ (plan : List ℕ). IsRaised inst plan prices) c.as_slice.ensures p.raised;
      not_below_zeros = p.not_below_zeros;
      small = p.small;
      few_exclusions = p.few_exclusions;
    })
    (option_map (λ starts. starts.now) c.given_end.result) c.given_end.ensures.given c.in_ok-answer.answer
    (record {
      searched = a.searched;
      valid = a.valid;
      in_range = a.small p.small;
      nodes = a.nodes;
      enough = a.enough;
    }) c.worth_bounds_plans.ensures c.texts_are_short.ensures.fit
