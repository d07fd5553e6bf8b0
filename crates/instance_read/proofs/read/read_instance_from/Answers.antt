use Rattle.std.proofs.lemmas.Result.{IfOk-weaker, on_ok_weaker}
use Rattle.std.proofs.Common.{◌≡◌, Some}
use Rattle.instance_model.specs.Tables.{Tables}
use Rattle.instance_shape.specs.Defined.{Defines}
use Rattle.instance_shape.specs.FileFaults.{FileFault, HasFileFault}
use Rattle.instance_read.specs.Faults.{fault_of}
use Rattle.instance_read.specs.Fed.{HasRest}
use Rattle.instance_read.specs.Reading.{ReadsFile}
use Rattle.instance_read.proofs.FileRead.{IsTaken, file_read, all_of_taken, counts_read}
use Rattle.instance_read.proofs.read.read_instance_from.Given as given
use Rattle.instance_read.proofs.read.read_instance_from.Goals as goal
use Rattle.instance_read.proofs.read.read_instance_from.Goals.{After-close}

taken : (g : given.Over) (c : After-close g) → IsTaken c.args.name.now c.in_ok-take_in.ensures.ok.0 (g.D.Desk.shows
    c.args.desk.now) (g.D.Desk.shows c.take_in.new.self)
taken g c = record { holds = c.in_ok-take_in.ensures.ok.1; shows = c.in_ok-take_in.ensures.ok.2 }

pub returns-clause-built : goal.returns-clause-built
returns-clause-built g c =
    let d = g.D.Desk in
    let limits = c.args.limits.now in
    let limit = limits.instance_bytes in
    let name = c.args.name.now in
    IfOk-weaker c.read_rest-answer.result
    (λ (inst : Tables). HasRest (d.shows c.take_in.new.self).input.unread limit
    (λ bytes. Defines limits c.args.slack bytes inst))
    (λ (inst : Tables). ReadsFile name limit (d.shows c.args.desk.now)
    (λ bytes. Defines limits c.args.slack bytes inst))
    (λ inst h. file_read name c.in_ok-take_in.ensures.ok.0 limit (d.shows c.args.desk.now) (d.shows c.take_in.new.self)
    (λ bytes. Defines limits c.args.slack bytes inst) (taken g c) h)
    (c.read_rest-answer.ensures.built limits c.requires.limits c.in_ok-reader.ensures.read)

pub returns-clause-fault : goal.returns-clause-fault
returns-clause-fault g c = λ fault e.
    let d = g.D.Desk in
    let limits = c.args.limits.now in
    file_read c.args.name.now c.in_ok-take_in.ensures.ok.0 limits.instance_bytes (d.shows c.args.desk.now)
    (d.shows c.take_in.new.self)
    (λ bytes. (told : FileFault) × (fault_of fault ≡ Some told) × HasFileFault limits bytes told) (taken g c)
    (c.read_rest-answer.ensures.fault limits c.requires.limits c.in_ok-reader.ensures.read fault e)

pub returns-clause-ok : goal.returns-clause-ok
returns-clause-ok g c =
    let d = g.D.Desk in
    on_ok_weaker c.read_rest-answer.result
    (λ e. all_of_taken c.args.name.now c.in_ok-take_in.ensures.ok.0 (d.shows c.args.desk.now)
    (d.shows c.take_in.new.self) (d.shows c.read_rest-answer.new.desk) (taken g c) e) c.read_rest-answer.ensures.end

pub returns-clause-text : goal.returns-clause-text
returns-clause-text g c = λ fault e.
    let d = g.D.Desk in
    all_of_taken c.args.name.now c.in_ok-take_in.ensures.ok.0 (d.shows c.args.desk.now) (d.shows c.take_in.new.self)
    (d.shows c.read_rest-answer.new.desk) (taken g c) (c.read_rest-answer.ensures.text_end fault e)

pub returns-clause-faults : goal.returns-clause-faults
returns-clause-faults g c =
    let d = g.D.Desk in
    counts_read c.args.name.now c.in_ok-take_in.ensures.ok.0 (d.shows c.args.desk.now) (d.shows c.take_in.new.self)
    (d.shows c.read_rest-answer.new.desk) c.read_rest-answer.result (taken g c)
    c.in_ok-take_in.ensures.faults.same c.read_rest-answer.ensures.faults
