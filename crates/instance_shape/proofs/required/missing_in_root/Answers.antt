use Rattle.instance_shape.proofs.required.missing_in_root.Goals as goal

pub returns : goal.returns
returns c =
    rw (
      c.missing_or.ensures,
      c.missing_or-seasons.ensures,
      c.missing_or-interventions.ensures,
      c.missing_or-exclusions.ensures,
      c.missing_late.ensures,
    )
