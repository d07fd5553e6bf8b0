-- A run of `roll` from what it read, wrote and said.
use Rattle.command_roll.specs.Made.{files_view, answer_of}
use Rattle.command_roll.proofs.RollRun.{roll_runs, rolled_ends, refused_ends}
use Rattle.command_roll.proofs.roll.roll_files.Goals as goal

pub returns-in-Ok : goal.returns-in-Ok
returns-in-Ok g c =
    let limits = c.args.limits.now in
    let files = files_view c.args.files.now in
    let period = c.args.period in
    let old = g.D.Desk.shows c.args.desk.now in
    let mid = g.D.Desk.shows c.roll.new.desk in
    let new = g.D.Desk.shows c.tell.new.desk in
    let e = c.in-Ok.ensures in
    let r = c.in-Ok.rolling in
    let a = answer_of files r.inst r.plan period r.outcome in
    let status = c.tell.result in
    roll_runs c.rolled_text_is_read.ensures c.plans_roll.ensures limits files period old new c.requires.standard
    (g.met.D.Desk.names c.args.desk.now) status
    (rolled_ends limits files period old mid new e.only_reads a status e.ok e.faults c.tell.ensures)

pub returns-in-Err : goal.returns-in-Err
returns-in-Err g c =
    let limits = c.args.limits.now in
    let files = files_view c.args.files.now in
    let period = c.args.period in
    let old = g.D.Desk.shows c.args.desk.now in
    let mid = g.D.Desk.shows c.roll.new.desk in
    let new = g.D.Desk.shows c.refuse.new.desk in
    let e = c.in-Err.ensures in
    let status = c.refuse.result in
    roll_runs c.rolled_text_is_read.ensures c.plans_roll.ensures limits files period old new c.requires.standard
    (g.met.D.Desk.names c.args.desk.now) status
    (refused_ends limits files period old mid new e.only_reads c.in-Err.refusal status c.refuse.ensures.keeps e.kept
    e.err c.refuse.ensures.ends)
