use Rattle.certificate_text.proofs.ReadFaultLemmas.{all_read, fault_told, all_told}
use Rattle.certificate_text.proofs.read.read.read_certificate.Goals as goal

pub returns-clause-complete : goal.returns-clause-complete
returns-clause-complete c = all_read c.texts_tell.ensures.texts c.args.inst.now c.fits.ensures c.args.bytes.now
    c.read_whole.result c.read_whole.ensures.found c.read_whole.ensures.fault

pub returns-clause-fault : goal.returns-clause-fault
returns-clause-fault c = fault_told c.args.inst.now c.args.bytes.now c.read_whole.result c.read_whole.ensures.fault

pub returns-clause-refused : goal.returns-clause-refused
returns-clause-refused c = all_told c.args.inst.now c.fits.ensures c.args.bytes.now c.read_whole.result
    c.read_whole.ensures.found c.read_whole.ensures.fault
