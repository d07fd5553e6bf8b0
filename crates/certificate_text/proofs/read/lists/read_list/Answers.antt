use Rattle.std.proofs.Common.{◌≡◌, ◌-◌, Some}
use Rattle.std.proofs.lemmas.Result.{IfOk-weaker, IfErr-weaker}
use Rattle.certificate_lines.specs.declared.line.CertificateLine.TheVariants as form
use Rattle.certificate_text.specs.Grammar.{lists, before_entries}
use Rattle.certificate_text.specs.declared.read.refusal.Refusal.TheVariants.{Misplaced}
use Rattle.certificate_text.specs.read.Reading.{Fails, ReadsAllEntries, ReadsList}
use Rattle.certificate_text.proofs.ReadStepLemmas.{fails_told}
use Rattle.certificate_text.proofs.ReadEntryLemmas.{not_told, below_told}
use Rattle.certificate_text.proofs.ReadListLemmas.{only_prices, list_read, list_fails}
use Rattle.certificate_text.proofs.read.lists.read_list.Goals as goal

pub returns-then-not-is_prices-clause-err : goal.returns-then-not-is_prices-clause-err
returns-then-not-is_prices-clause-err c = λ start count left between some.
    fails_told c.args.inst.now (lists c.args.version count left start) c.args.lines.now _ c.in_ok-line.line Misplaced _
    c.fault.ensures (λ z. z) c.in_ok-line.ensures.ok
    (only_prices c.args.version count left start c.args.lines.now _ c.in_ok-line.line between some
    c.in_ok-line.ensures.ok (not_told c.is_prices.result (c.in_ok-line.line ≡ form.Prices) c.is_prices.ensures
    c.if-not-is_prices.true))

pub returns-clause-ok : goal.returns-clause-ok
returns-clause-ok c = λ start.
    IfOk-weaker c.read_entries.result (λ prices. ReadsAllEntries c.args.inst.now c.args.version c.next_line.new.self
    prices c.read_entries.new.lines)
    (λ prices. ReadsList c.args.inst.now c.args.version start c.args.lines.now prices c.read_entries.new.lines)
    (λ prices u. list_read c.args.inst.now c.args.version start c.args.lines.now c.next_line.new.self
    c.read_entries.new.lines c.in_ok-line.line prices c.in_ok-line.ensures.ok
    (below_told c.is_prices.result (c.in_ok-line.line ≡ form.Prices) c.is_prices.ensures c.if-not-is_prices.false)
    u)
    c.read_entries.ensures.ok

pub returns-clause-err : goal.returns-clause-err
returns-clause-err c = λ start count left between some.
    IfErr-weaker c.read_entries.result
    (Fails c.args.inst.now (lists c.args.version count (left - 1) (Some before_entries)) c.next_line.new.self)
    (Fails c.args.inst.now (lists c.args.version count left start) c.args.lines.now)
    (λ fault f. list_fails c.args.inst.now c.args.version count left start c.args.lines.now c.next_line.new.self
    c.in_ok-line.line fault c.in_ok-line.ensures.ok (below_told c.is_prices.result (c.in_ok-line.line ≡ form.Prices)
    c.is_prices.ensures c.if-not-is_prices.false) some f)
    (c.read_entries.ensures.err count (left - 1))
