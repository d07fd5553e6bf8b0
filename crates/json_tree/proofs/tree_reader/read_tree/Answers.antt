use Rattle.std.proofs.Common.{arith, ◌≡◌, subst, sym, ◌∙◌}
use Rattle.json_machine.specs.Machines.{state_of}
use Rattle.json_tree.specs.Building.{built_of}
use Rattle.json_grammar.specs.Prefix.{IsSyntaxFault, IsDepthFault, IsShallow}
use Rattle.json_grammar.proofs.LawsLoop as loop
use Rattle.json_grammar.proofs.LawsOfTexts.{one_tree}
use Rattle.json_tree.proofs.tree_reader.read_tree.Goals as goal

pub loop-i-init : goal.loop-i-init
loop-i-init c =
    record {
      came = loop.starts_at (state_of c.new-machine.result) (built_of
          c.new-builder.result) c.new-machine.ensures.starts c.new-builder.ensures;
      sound = c.new-machine.ensures.sound;
    }

pub returns-then-not-taken-clause-syntax : goal.returns-then-not-taken-clause-syntax
returns-then-not-taken-clause-syntax c at e =
    let i : c.loop-i.i ≡ at = grind arith in
    subst (IsSyntaxFault c.args.bytes.now) i
    (loop.refused (state_of c.loop-i.machine) (state_of c.advance.new.machine) (built_of c.loop-i.builder)
    (built_of c.advance.new.builder) c.args.bytes.now c.loop-i.i (omega arith) c.loop-i.invariant.came
    (rw c.if-not-taken.true at c.in_ok-taken.ensures.moves))

pub returns-then-not-taken-clause-first : goal.returns-then-not-taken-clause-first
returns-then-not-taken-clause-first c at e =
    let i : c.loop-i.i ≡ at = grind arith in
    subst (IsShallow c.args.bytes.now) i (loop.shallow_at (state_of c.loop-i.machine) (built_of c.loop-i.builder)
    c.args.bytes.now c.loop-i.i (omega arith) c.loop-i.invariant.came)

pub returns-then-depth-gt-MOST_LEVELS-clause-too_deep : goal.returns-then-depth-gt-MOST_LEVELS-clause-too_deep
returns-then-depth-gt-MOST_LEVELS-clause-too_deep c at e =
    let i : c.loop-i.i ≡ at = grind arith in
    subst (IsDepthFault c.args.bytes.now) i
    (loop.too_deep (state_of c.loop-i.machine) (state_of c.advance.new.machine) (built_of c.loop-i.builder)
    (built_of c.advance.new.builder) c.args.bytes.now c.loop-i.i (omega arith) c.loop-i.invariant.came
    (rw c.if-not-taken.false at c.in_ok-taken.ensures.moves) (omega (arith, c.depth.ensures)))

pub loop-i-preserved : goal.loop-i-preserved
loop-i-preserved c =
    record {
      came = loop.next (state_of c.loop-i.machine) (state_of c.advance.new.machine) (built_of
          c.loop-i.builder) (built_of c.advance.new.builder) c.args.bytes.now c.loop-i.i (omega
          arith) c.loop-i.invariant.came (rw c.if-not-taken.false at c.in_ok-taken.ensures.moves) (omega
          (arith, c.depth.ensures));
      sound = c.in_ok-taken.ensures.sound;
    }

pub returns-then-not-may_finish-clause-syntax : goal.returns-then-not-may_finish-clause-syntax
returns-then-not-may_finish-clause-syntax c at e =
    let i : c.loop-i.i ≡ at = grind arith in
    subst (IsSyntaxFault c.args.bytes.now) i
    (loop.unfinished (state_of c.loop-i.machine) (built_of c.loop-i.builder) c.args.bytes.now c.loop-i.i
    (omega arith) c.loop-i.invariant.came (sym c.may_finish.ensures ∙ c.if-not-may_finish.true))

pub returns-then-not-may_finish-clause-first : goal.returns-then-not-may_finish-clause-first
returns-then-not-may_finish-clause-first c at e =
    let i : c.loop-i.i ≡ at = grind arith in
    subst (IsShallow c.args.bytes.now) i (loop.shallow_at (state_of c.loop-i.machine) (built_of c.loop-i.builder)
    c.args.bytes.now c.loop-i.i (omega arith) c.loop-i.invariant.came)

pub unreachable-requires : goal.unreachable-requires
unreachable-requires c = loop.never_none (state_of c.loop-i.machine) (built_of c.loop-i.builder) c.in_ok-tree.field-0
    c.args.bytes.now c.loop-i.i (omega arith) c.loop-i.invariant.came c.in_ok-tree.ensures c.in-None.is

pub returns-clause-tree : goal.returns-clause-tree
returns-clause-tree c = let d =
    loop.concludes_some (state_of c.loop-i.machine) (built_of c.loop-i.builder) c.in_ok-tree.field-0 c.args.bytes.now
    c.loop-i.i (omega arith) c.loop-i.invariant.came c.in_ok-tree.ensures c.in-Some.tree c.in-Some.is in d.0

pub returns-clause-shallow : goal.returns-clause-shallow
returns-clause-shallow c = let d =
    loop.concludes_some (state_of c.loop-i.machine) (built_of c.loop-i.builder) c.in_ok-tree.field-0 c.args.bytes.now
    c.loop-i.i (omega arith) c.loop-i.invariant.came c.in_ok-tree.ensures c.in-Some.tree c.in-Some.is in d.1

pub advance-requires-clause-told : goal.advance-requires-clause-told
advance-requires-clause-told c t es e = loop.told_next (state_of c.loop-i.machine) t (built_of c.loop-i.builder) es
    c.args.bytes.now c.loop-i.i (omega arith) c.loop-i.invariant.came e

pub conclude-requires-clause-told : goal.conclude-requires-clause-told
conclude-requires-clause-told c es e = loop.told_end (state_of c.loop-i.machine) (built_of c.loop-i.builder) es
    c.args.bytes.now c.loop-i.i (omega arith) c.loop-i.invariant.came e

pub returns-then-not-taken-clause-only : goal.returns-then-not-taken-clause-only
returns-then-not-taken-clause-only c t h n = absurd
    (loop.no_syntax_fault c.args.bytes.now c.loop-i.i t h
    (loop.refused (state_of c.loop-i.machine) (state_of c.advance.new.machine) (built_of c.loop-i.builder)
    (built_of c.advance.new.builder) c.args.bytes.now c.loop-i.i (omega arith) c.loop-i.invariant.came
    (rw c.if-not-taken.true at c.in_ok-taken.ensures.moves)))

pub returns-then-depth-gt-MOST_LEVELS-clause-only : goal.returns-then-depth-gt-MOST_LEVELS-clause-only
returns-then-depth-gt-MOST_LEVELS-clause-only c t h n = absurd
    (loop.no_depth_fault c.args.bytes.now c.loop-i.i t h n
    (loop.too_deep (state_of c.loop-i.machine) (state_of c.advance.new.machine) (built_of c.loop-i.builder)
    (built_of c.advance.new.builder) c.args.bytes.now c.loop-i.i (omega arith) c.loop-i.invariant.came
    (rw c.if-not-taken.false at c.in_ok-taken.ensures.moves) (omega (arith, c.depth.ensures))))

pub returns-then-not-may_finish-clause-only : goal.returns-then-not-may_finish-clause-only
returns-then-not-may_finish-clause-only c t h n = absurd
    (loop.no_syntax_fault c.args.bytes.now c.loop-i.i t h
    (loop.unfinished (state_of c.loop-i.machine) (built_of c.loop-i.builder) c.args.bytes.now c.loop-i.i (omega arith)
    c.loop-i.invariant.came (sym c.may_finish.ensures ∙ c.if-not-may_finish.true)))

pub returns-clause-only : goal.returns-clause-only
returns-clause-only c t h n = one_tree c.args.bytes.now _ t (returns-clause-tree c) h

pub returns-clause-no_other : goal.returns-clause-no_other
returns-clause-no_other c t h = one_tree c.args.bytes.now t _ h (returns-clause-tree c)
