use Rattle.std.proofs.Common.{◌≡◌, ◌+◌, ℕ, length, take, rules}
use Rattle.std.proofs.lemmas.List.{length-take-le}
use Rattle.plan_desk.specs.declared.read_fault.ReadFault.TheVariants.{Memory}
use Rattle.plan_desk.proofs.Unread.{read_more}
use Rattle.instance_read.proofs.Streaming.{fed_more, fed_all, counted}
use Rattle.instance_read.proofs.stream.feed_rest.Goals as goal

pub returns-then-n-eq0-clause-read : goal.returns-then-n-eq0-clause-read
returns-then-n-eq0-clause-read g c =
    let d = g.D.Desk in
    let i = c.pieces.invariant in
    fed_all (d.shows c.args.desk.now).input (d.shows c.pieces.desk).input c.pieces.count c.args.limit c.args.reader.now
    c.pieces.reader i.shows.input (c.in_ok-n.ensures.end (search rules) c.if-n-eq0.true) i.within i.read

pub returns-then-limit-count-clause-some_read : goal.returns-then-limit-count-clause-some_read
returns-then-limit-count-clause-some_read g c =
    let d = g.D.Desk in (
      c.pieces.count + c.in_ok-n.n,
      (search rules, search rules),
      read_more (d.shows c.args.desk.now)
          (d.shows c.pieces.desk) (d.shows c.read.new.self) c.pieces.count c.in_ok-n.n
          c.pieces.invariant.shows c.in_ok-n.ensures.ok,
    )

pub returns-in_err-feed-clause-some_read : goal.returns-in_err-feed-clause-some_read
returns-in_err-feed-clause-some_read g c =
    let d = g.D.Desk in (
      c.pieces.count + c.in_ok-n.n,
      counted c.from_residual-in_err-feed.result c.args.limit
          (c.pieces.count + c.in_ok-n.n) Memory (search rules) (search rules) (search rules),
      read_more
          (d.shows c.args.desk.now) (d.shows c.pieces.desk) (d.shows c.read.new.self) c.pieces.count c.in_ok-n.n
          c.pieces.invariant.shows c.in_ok-n.ensures.ok,
    )

pub pieces-preserved : goal.pieces-preserved
pieces-preserved g c =
    let d = g.D.Desk in
    let n : ℕ = c.in_ok-n.n in
    let buf = c.read.new.buf in
    let piece = take n buf in
    let i = c.pieces.invariant in
    let size : length piece ≡ n = length-take-le n buf (search rules) in
    record {
      within = search rules;
      unfinished = c.feed.ensures.unfinished;
      shows = read_more (d.shows c.args.desk.now) (d.shows c.pieces.desk) (d.shows c.read.new.self) c.pieces.count n
          i.shows c.in_ok-n.ensures.ok;
      read = fed_more (d.shows c.args.desk.now).input (d.shows c.pieces.desk).input c.pieces.count n c.args.reader.now
          c.pieces.reader c.feed.new.self piece i.shows.input c.in_ok-n.ensures.bytes size
          (λ limits bytes h. c.in_ok-feed.ensures.read limits bytes h) i.read;
      same = search rules;
    }
