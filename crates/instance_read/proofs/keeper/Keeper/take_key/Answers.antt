use Rattle.std.proofs.Common.{sym, ◌∙◌, ap}
use Rattle.json_grammar.specs.Tree.{key}
use Rattle.instance_read.specs.Keeping.{keep_rows}
use Rattle.instance_read.specs.Keepers.{kept_of}
use Rattle.instance_read.proofs.KeepingSteps.{other_key}
use Rattle.instance_read.proofs.keeper.Keeper.take_key.Goals as goal

pub returns-in-RiskPeriod : goal.returns-in-RiskPeriod
returns-in-RiskPeriod c = λ at end. rw c.in-RiskPeriod.is (c.open_risks.ensures at end c.args.text)

pub returns-in_default : goal.returns-in_default
returns-in_default c = λ at end.
    let d = c.in_default in
    let kept = kept_of c.args.self.now in
    sym (
    ap (λ r. keep_rows c.args.spot (key at end c.args.text) r kept) c.requires
    ∙ other_key c.args.spot at end c.args.text kept d.not-Resources d.not-Seasons d.not-Interventions d.not-Exclusions
    d.not-Workload d.not-WorkloadResource d.not-WorkloadPeriod d.not-Risk d.not-RiskPeriod
    )
