use Rattle.instance_read.proofs.Answering.{instance_told, fault_told}
use Rattle.instance_read.proofs.read.read_instance.Goals as goal

pub returns-clause-each_instance : goal.returns-clause-each_instance
returns-clause-each_instance c = λ inst d.
    let limits = c.args.limits.now in
    let answer = c.read_bytes-answer.ensures in
    let read = c.in_ok-reader.ensures.read in
    instance_told limits c.args.slack c.args.bytes.now c.read_bytes-answer.result inst
    (answer.built limits c.requires.limits read) (answer.fault limits c.requires.limits read) d

pub returns-clause-each_fault : goal.returns-clause-each_fault
returns-clause-each_fault c = λ first d.
    let limits = c.args.limits.now in
    let answer = c.read_bytes-answer.ensures in
    let read = c.in_ok-reader.ensures.read in
    fault_told limits c.args.slack c.args.bytes.now c.read_bytes-answer.result first
    (answer.built limits c.requires.limits read) (answer.fault limits c.requires.limits read) d
