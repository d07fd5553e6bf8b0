use Rattle.std.proofs.Common.{arith, sym, ◌∙◌, ◌≡◌, ◌+◌, ◌-◌}
use Rattle.instance_model.specs.Tables.{is_allowed}
use Rattle.certificate_tree.specs.Loads.{load_by_start}
use Rattle.certificate_tree.proofs.LoadLemmas.{start_taken, start_passed, all_taken}
use Rattle.certificate_tree.proofs.band.extreme_load_in.Goals as goal
use Rattle.certificate_tree.proofs.band.extreme_load_in.Goals.{then-allowed, else-allowed}

pub loop-s-preserved : goal.loop-s-preserved
loop-s-preserved c =
    elim c.if-allowed.branch [
      | then-allowed w ↦
          rw w.best-is (record {
            order = omega (arith, c.loop-s.invariant.order);
            within = omega arith;
            value = start_taken c.args.side (load_by_start c.args.inst.now c.args.c c.args.t c.args.i)
                (is_allowed c.args.inst.now c.args.i) c.args.span.from c.loop-s.s c.loop-s.best w.load_at_start.result
                w.furthest.result c.loop-s.invariant.order c.loop-s.invariant.value
                (sym c.allowed.ensures ∙ w.if-allowed.true) w.load_at_start.ensures w.furthest.ensures;
          })
      | else-allowed w ↦
          rw w.best-is (record {
            order = omega (arith, c.loop-s.invariant.order);
            within = omega arith;
            value = start_passed c.args.side (load_by_start c.args.inst.now c.args.c c.args.t c.args.i)
                (is_allowed c.args.inst.now c.args.i) c.args.span.from c.loop-s.s c.loop-s.best c.loop-s.invariant.order
                c.loop-s.invariant.value (sym c.allowed.ensures ∙ w.if-allowed.false);
          })
    ]

pub returns : goal.returns
returns c =
    let e : c.loop-s.s - c.args.span.from ≡ c.args.span.to + 1 - c.args.span.from = omega arith in
    all_taken c.args.side (load_by_start c.args.inst.now c.args.c c.args.t c.args.i) c.args.inst.now c.args.i
    c.args.span c.loop-s.s c.loop-s.best e c.loop-s.invariant.value
