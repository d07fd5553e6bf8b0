use Rattle.std.proofs.Common.{sym, ◌∙◌, ◌+◌, arith}
use Rattle.std.proofs.lemmas.List.Sums.{prefix_len-le-length}
use Rattle.json_grammar.specs.laws.Machine.{is_plain, is_blank}
use Rattle.json_machine.specs.Machines.{levels_of}
use Rattle.json_machine.proofs.Runs.{number_taken, string_taken, blanks_taken, between, still_sound}
use Rattle.json_machine.proofs.machine.Machine.take_run.Goals as goal

pub returns-in-Number-clause-moves : goal.returns-in-Number-clause-moves
returns-in-Number-clause-moves c =
    let longer = c.lengthen_token.ensures in
    number_taken c.args.self.now c.lengthen_token.new.self c.lengthen_token.result c.args.bytes.now
    c.in-Number.phase c.digit_count.result
    c.in-Number.is (sym c.is_within_digits.ensures ∙ c.if-is_within_digits.true) c.digit_count.ensures.count
    c.digit_count.ensures.within
    longer.count longer.moves longer.levels longer.mode longer.at

pub returns-in-Str-clause-moves : goal.returns-in-Str-clause-moves
returns-in-Str-clause-moves c =
    let longer = c.lengthen_token-in-Str.ensures in
    string_taken c.args.self.now c.lengthen_token-in-Str.new.self c.lengthen_token-in-Str.result c.args.bytes.now
    c.in-Str.field-0 c.in-Str.within c.plain_count.result
    c.in-Str.is (sym c.may_close.ensures ∙ c.if-may_close.true) c.plain_count.ensures
    (rw c.plain_count.ensures (prefix_len-le-length is_plain c.args.bytes.now))
    longer.count longer.moves longer.levels longer.mode longer.at

pub returns-in_default-clause-within : goal.returns-in_default-clause-within
returns-in_default-clause-within c = rw c.blank_count.ensures (prefix_len-le-length is_blank c.args.bytes.now)

pub returns-in_default-clause-moves : goal.returns-in_default-clause-moves
returns-in_default-clause-moves c k =
    let m = c.args.self.now in
    let waits =
    between m.mode m.at m.token.items c.in_default.not-Literal c.in_default.not-Number c.in_default.not-Str in
    rw c.blank_count.ensures (blanks_taken k (levels_of m.levels.items) c.args.bytes.now waits)

pub returns-in_default-clause-sound : goal.returns-in_default-clause-sound
returns-in_default-clause-sound c k h = still_sound c.args.self.now.mode k (k + c.blank_count.result) c.args.self.now.at
    c.args.self.now.token.items (omega arith) h
