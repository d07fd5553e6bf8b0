use Rattle.refined_prices.specs.Cliques.{CliqueBefore}
use Rattle.refined_text.specs.grammar.Further.{CliqueBelow}
use Rattle.refined_text.proofs.ReadLastLemmas.{all_from_last, last_from_all}
use Rattle.refined_text.proofs.ReadCliqueLemmas.{below_clique}
use Rattle.refined_text.proofs.read.cliques.follows_cliques.Goals as goal

pub returns-in-Some : goal.returns-in-Some
returns-in-Some c =
    let cliques = c.args.cliques.now in
    let last = c.in-Some.last.now in
    let t = c.args.t in
    let ms = c.args.members.now in (
      λ below. all_from_last CliqueBefore (CliqueBelow t ms) cliques last c.in-Some.ensures.value c.requires
          (λ x before behind. below_clique t ms x last before behind) (c.is_below.ensures.0 below),
      λ all. c.is_below.ensures.1
          (last_from_all CliqueBefore (CliqueBelow t ms) cliques last c.in-Some.ensures.value all),
    )
