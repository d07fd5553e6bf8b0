use Rattle.std.proofs.Common.{◌≡◌, ◌==◌, ◌++◌, ◌∙◌, ap, length, arith}
use Rattle.instance_model.proofs.RiskListLemmas.{length-lists_of}
use Rattle.instance_model.proofs.risk_lists.RiskLists.is_empty.Goals as goal

pub returns : goal.returns
returns c =
    let numbers = c.self.inside.narrow.items ++ c.self.inside.wide.items in
    let same : length c.self.inside.heads.items ≡ length c.args.self.now =
    omega (arith, ap length c.self.view_is, length-lists_of c.self.inside.heads.items numbers) in
    c.is_empty.ensures ∙ ap (λ n. n == 0) (omega (arith, same))
