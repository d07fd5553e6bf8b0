-- The certificate of a search is valid, so its check finds no leaf that fails, and its bound holds for every plan.
use Rattle.std.proofs.Common.{◌≡◌, List, ℕ, subst}
use Rattle.std.specs.Prelude.{option_map}
use Rattle.certificate_check.specs.declared.verdict.CertVerdict.TheVariants.{Valid, LeafFails}
use Rattle.command_answers.proofs.BoundLemmas.{bounds_every}
use Rattle.branch_search.specs.Given.{IsGiven}
use Rattle.command_rehearse.proofs.bounding.bound_from.Goals as goal

pub unreachable-requires : goal.unreachable-requires
unreachable-requires g c =
    let valid : Valid ≡ c.in_ok-verdict.verdict = c.in_ok-verdict.ensures.only Valid c.in_ok-answer.ensures.valid in
    let fails : c.in_ok-verdict.verdict ≡ LeafFails c.in-LeafFails.n = c.in-LeafFails.is in
    cc

pub returns : goal.returns
returns g c =
    let inst = c.args.inst.now in
    let answer = c.in_ok-answer.answer in
    let given = option_map (λ starts. starts.now) c.given_end-given.result in
    record {
      given = given;
      is_given = subst (λ (plan : List ℕ). IsGiven inst plan given) c.in_ok-end.ensures c.given_end-given.ensures.given;
      searched = c.in_ok-answer.ensures.searched;
      valid = c.in_ok-answer.ensures.valid;
      bounds = bounds_every inst answer.cert.bound (c.in_ok-verdict.ensures.bounds c.in-Valid.is);
    }
