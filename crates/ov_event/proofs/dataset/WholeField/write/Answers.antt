use Rattle.std.proofs.Common.{append_assoc, refl}
use Rattle.std.proofs.lemmas.List.{append-nil}
use Rattle.ov_event.specs.Spelling.{dataset}
use Rattle.ov_event.proofs.dataset.WholeField.write.Goals as goal

pub returns-clause-written : goal.returns-clause-written
unfolding dataset
returns-clause-written c =
    rw (
      c.in_ok-write_maybe_plan.ensures.written,
      c.in_ok-write-9.ensures.written,
      c.in_ok-write-8.ensures.written,
      c.in_ok-write-7.ensures.written,
      c.in_ok-write-6.ensures.written,
      c.in_ok-write-5.ensures.written,
      c.in_ok-write-4.ensures.written,
      c.in_ok-write-3.ensures.written,
      c.in_ok-write-2.ensures.written,
      c.in_ok-write.ensures.written,
    )
    (simp (append_assoc, append-nil) refl)

pub returns-clause-sound : goal.returns-clause-sound
returns-clause-sound c = record {
  number = c.in_ok-write.ensures.sound;
  name = c.in_ok-write-2.ensures.sound;
  schema = c.in_ok-write-3.ensures.sound;
  records = c.in_ok-write-4.ensures.sound;
  p = c.in_ok-write-5.ensures.sound;
  q = c.in_ok-write-6.ensures.sound;
  next = c.in_ok-write-7.ensures.sound;
  versions = c.in_ok-write-8.ensures.sound;
  parts = c.in_ok-write-9.ensures.sound;
  plan = c.in_ok-write_maybe_plan.ensures.sound;
}
