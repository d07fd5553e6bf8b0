use Rattle.std.proofs.Common.{◌∙◌, sym}
use Rattle.scenario_rows.proofs.touched.first_of_run.Goals as goal

pub returns-clause-idle : goal.returns-clause-idle
returns-clause-idle c = λ u a b. sym (c.run.ensures.periods u) ∙ c.first_in.ensures.idle u a b
