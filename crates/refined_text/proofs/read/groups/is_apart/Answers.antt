use Rattle.refined_text.proofs.read.groups.is_apart.Goals as goal

pub returns-in-Some : goal.returns-in-Some
returns-in-Some c = rw (c.in-Some.is, ← c.as_slice.ensures) c.is_apart_from_all.ensures
