use Rattle.instance_shape.proofs.required.missing_late.Goals as goal

pub returns : goal.returns
returns c =
    rw (c.missing_or.ensures, c.missing_or-scenarios.ensures, c.missing_or-quantile.ensures, c.missing_or-alpha.ensures)
