use Rattle.std.proofs.Common.{Option, Bor, sym, ap, subst}
use Rattle.std.specs.Prelude.{option_map}
use Rattle.refined_check.specs.declared.certificate.certificate.RefinedCertificate.{RefinedCertificate}
use Rattle.refined_search.specs.Steps.{IsBegun}
use Rattle.refined_search.proofs.BeginLemmas.{begun_from}
use Rattle.refined_search.proofs.begin.begin.Goals as goal

pub returns-in_ok-tree-in-Some : goal.returns-in_ok-tree-in-Some
returns-in_ok-tree-in-Some c =
    let inst = c.args.inst.now in
    let tables = c.args.tables.now in
    let tree = c.in_ok-tree-in-Some.tree in
    let is = c.in_ok-tree-in-Some.ensures in
    subst (λ (o : Option RefinedCertificate). IsBegun inst tables o tree)
    (sym (ap (λ (o : Option (Bor RefinedCertificate)). option_map (λ old. old.now) o) c.in-Some.is))
    (begun_from inst tables c.in-Some.cert.now c.as_slice.result.now tree c.as_slice.ensures c.requires.lawful is.rebound
    is.proved is.no_lower)
