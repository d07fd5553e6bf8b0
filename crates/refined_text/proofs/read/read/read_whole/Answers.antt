use Rattle.std.proofs.lemmas.Result.{IfOk-weaker, IfErr-weaker}
use Rattle.refined_text.specs.grammar.Grammar.{start}
use Rattle.refined_text.specs.read.Faults.{HasRefinedFault, IsRefinedTextOf}
use Rattle.refined_text.specs.read.Reading.{RefinedFails, ReadsRefinedCertificate}
use Rattle.refined_text.proofs.ReadWholeLemmas.{text_read, text_fails}
use Rattle.refined_text.proofs.read.read.read_whole.Goals as goal

pub returns-clause-found : goal.returns-clause-found
returns-clause-found c =
    let inst = c.args.inst.now in
    let lines = c.of-lines.result in
    IfOk-weaker c.read_lines.result (ReadsRefinedCertificate inst lines) (IsRefinedTextOf inst c.args.bytes.now)
    (λ cert u. text_read inst c.args.bytes.now lines cert c.of-lines.ensures.rest u) c.read_lines.ensures.ok

pub returns-clause-fault : goal.returns-clause-fault
returns-clause-fault c =
    let inst = c.args.inst.now in
    let lines = c.of-lines.result in
    IfErr-weaker c.read_lines.result (RefinedFails inst start lines) (HasRefinedFault inst c.args.bytes.now)
    (λ fault f. text_fails inst c.args.bytes.now lines fault c.of-lines.ensures.rest c.of-lines.ensures.none f)
    c.read_lines.ensures.err
