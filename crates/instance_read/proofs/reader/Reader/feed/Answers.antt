use Rattle.std.proofs.Common.{◌++◌, rules}
use Rattle.instance_read.proofs.Feeding.{still_follows, pushed_follows}
use Rattle.instance_read.proofs.reader.Reader.feed.Goals as goal

pub returns-then-is_some-clause-read : goal.returns-then-is_some-clause-read
returns-then-is_some-clause-read c = λ limits bytes h.
    let r = c.args.self.now in
    still_follows r.fault limits r.pull r.walk r.keeper bytes c.args.piece.now (search rules) h

pub returns-clause-read : goal.returns-clause-read
returns-clause-read c = λ limits bytes h.
    let r = c.args.self.now in
    c.in_ok-self.ensures.follows limits (bytes ++ c.args.piece.now)
    (pushed_follows r.fault limits r.pull c.push.new.self r.walk r.keeper bytes c.args.piece.now (search rules)
    (λ given s. c.in_ok-push.ensures.pushed bytes given s) h)
