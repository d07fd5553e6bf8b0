use Rattle.std.proofs.Common.{◌≡◌, IfSome, sym, subst}
use Rattle.instance_model.specs.Tables.{Tables}
use Rattle.instance_shape.specs.FileFaults.{HasFileFault}
use Rattle.instance_read.specs.Faults.{fault_of}
use Rattle.instance_read.specs.declared.fault.InstanceFault.{InstanceFault}
use Rattle.instance_read.specs.declared.fault.StreamFault.TheVariants as stream
use Rattle.instance_read.proofs.Streaming.{rest_such, some_told, is_text, not_too_long, counts_told}
use Rattle.instance_read.proofs.stream.read_rest.Goals as goal

pub returns-in-Err-clause-fault : goal.returns-in-Err-clause-fault
returns-in-Err-clause-fault g c = λ sizes s h fault e.
    let same : c.of_bytes.result ≡ stream.Text fault = cc in
    let q = is_text c.in-Err.fault c.of_bytes.result fault c.of_bytes.ensures same in
    rest_such _ _ _ _ c.in-Ok.ensures.read (λ bytes read.
    some_told (fault_of fault) (HasFileFault sizes bytes) q.1
    (subst (λ (f : InstanceFault). IfSome (fault_of f) (HasFileFault sizes bytes)) (sym q.0)
    (c.in-Err.ensures.fault sizes bytes s (read sizes h))))

pub returns-in-Err-clause-too_long : goal.returns-in-Err-clause-too_long
returns-in-Err-clause-too_long g c = λ e.
    let same : c.of_bytes.result ≡ stream.TooLong = cc in
    absurd (not_too_long c.in-Err.fault c.of_bytes.result c.of_bytes.ensures same)

pub returns-in-Err-clause-faults : goal.returns-in-Err-clause-faults
returns-in-Err-clause-faults g c =
    let d = g.D.Desk in
    counts_told Tables c.in-Err.fault c.of_bytes.result (d.shows c.args.desk.now) (d.shows c.feed_rest.new.desk) _
    c.of_bytes.ensures c.in-Ok.ensures.faults
