use Rattle.refined_text.proofs.VersionsTextLemmas.{told_as}
use Rattle.refined_text.proofs.versions.read.read_older.Goals as goal

pub returns-clause-complete : goal.returns-clause-complete
returns-clause-complete c = λ cert t. told_as c.args.inst.now c.in_ok-cert.cert t.older c.in_ok-told.told cert
    (c.in_ok-cert.ensures.complete t.older t.text) c.in_ok-told.ensures.value t.told
