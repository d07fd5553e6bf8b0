use Rattle.refined_text.proofs.read.groups.follows_groups.Goals as goal

pub returns-in-Some : goal.returns-in-Some
returns-in-Some c = rw (c.in-Some.is, ← c.as_slice.ensures) c.follows_all.ensures
