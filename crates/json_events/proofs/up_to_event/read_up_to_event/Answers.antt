use Rattle.std.proofs.Common.{Ok, ap, subst, append-nil}
use Rattle.json_events.specs.Readings.{HasTold, ReadsOn}
use Rattle.json_events.specs.declared.up_to_event.Reading.{Reading}
use Rattle.json_events.proofs.up_to_event.read_up_to_event.Goals as goal

pub loop-reading-preserved : goal.loop-reading-preserved
loop-reading-preserved c = record {
  sound = c.in_ok-reading.ensures.sound (ap Ok c.in-Quiet.is);
  told = λ stream told h.
      let machine = c.read_run.new.machine in
      let unread = c.read_run.new.unread in
      subst (λ es. HasTold machine unread stream es) (append-nil told)
      (subst (λ (r : Reading). ReadsOn (Ok r) machine unread stream told) c.in-Quiet.is
      (c.in_ok-reading.ensures.reads stream told (c.loop-reading.invariant.told stream told h)));
}
