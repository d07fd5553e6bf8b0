use Rattle.std.proofs.Common.{[], refl, arith}
use Rattle.std.proofs.lemmas.List.Elements.{All-from_get_or}
use Rattle.refined_prices.specs.Groups.{AreDisjoint}
use Rattle.refined_text.proofs.read.groups.is_apart_from_all.Goals as goal

pub returns : goal.returns
returns c = (
  λ _. All-from_get_or (λ other. AreDisjoint other c.args.group.now) c.args.groups.now []
      (λ j l. c.loop-other.invariant j (omega (arith, l))),
  λ _. refl,
)
