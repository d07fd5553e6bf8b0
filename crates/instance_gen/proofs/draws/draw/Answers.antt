use Rattle.std.proofs.Common.{ℕ, ◌%◌, ap}
use Rattle.rand_pcg.specs.Lcg.{Lcg}
use Rattle.instance_gen.specs.Drawing.{draw}
use Rattle.instance_gen.proofs.draws.draw.Goals as goal

pub returns-clause-drawn : goal.returns-clause-drawn
unfolding draw
returns-clause-drawn c = ap (λ (next : ℕ × Lcg). (next.0 % c.args.m, next.1)) c.next_word.ensures
