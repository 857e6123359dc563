use Rattle.std.proofs.Common.{◌≡◌, Bool, false, ◌+◌, length, length-append, get_or, ap, ◌∙◌, arith}
use Rattle.ov_memhost.specs.Pending.{stored_of}
use Rattle.ov_memhost.specs.Picked.{is_doubtful}
use Rattle.ov_memhost.proofs.Doubts.{bytes_more, next_more}
use Rattle.ov_memhost.proofs.pending.Pending.left.Goals as goal

pub loop-place-preserved : goal.loop-place-preserved
loop-place-preserved c =
    let doubt : Bool = get_or c.as_slice-doubt-items.result.now c.loop-place.place false
    in let is : doubt ≡ is_doubtful (stored_of c.args.self.now) c.loop-place.place =
    ap (λ flags. get_or flags c.loop-place.place false) c.as_slice-doubt-items.ensures.value
    ∙ c.in_ok-doubtful.ensures.flags c.loop-place.place (omega (arith, c.as_slice-doubt-items.ensures.len, c.in_ok-doubtful.ensures.len, c.loop-place-test.true))
    in record {
      len = ap length c.in_ok-add.ensures.bytes ∙ length-append c.loop-place.left.bytes.items _ ∙ ap (λ n. n + 1) c.loop-place.invariant.len;
      next =
          next_more (stored_of c.args.self.now) c.args.next c.args.pick.now c.loop-place.place c.loop-place.left.next c.add.new.left.next
          doubt c.loop-place.invariant.next is c.in_ok-add.ensures.next;
      bytes_are =
          bytes_more (stored_of c.args.self.now) c.args.next c.args.pick.now c.loop-place.place c.loop-place.left.next
          c.loop-place.left.bytes.items c.add.new.left.bytes.items doubt c.loop-place.invariant.len c.loop-place.invariant.next is
          c.in_ok-add.ensures.bytes c.loop-place.invariant.bytes_are;
    }
