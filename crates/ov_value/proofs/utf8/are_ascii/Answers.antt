use Rattle.std.proofs.Common.{◌<◌, get_or, subst, arith}
use borrow.Author.Count.{below_more}
use Rattle.ov_value.proofs.Ascii.{eight_more, get_same, tail_low, tail_more, whole_tail}
use Rattle.ov_value.proofs.utf8.are_ascii.Goals as goal

pub loop-rest-init : goal.loop-rest-init
loop-rest-init c = record { others = λ all. all; tail = whole_tail c.args.bytes.now }

pub loop-rest-preserved : goal.loop-rest-preserved
loop-rest-preserved c = record {
  others = λ more. c.loop-rest.invariant.others (eight_more c.loop-rest.rest.now c.in-len8-up.len_at_least (c.are_low.ensures c.if-not-are_low.false) more);
  tail = tail_more c.args.bytes.now c.loop-rest.rest.now c.in-len8-up.len_at_least c.loop-rest.invariant.tail;
}

pub returns-then-bytes-ge8 : goal.returns-then-bytes-ge8
returns-then-bytes-ge8 c = λ t. c.loop-rest.invariant.others (tail_low c.args.bytes.now c.loop-rest.rest.now c.loop-rest.invariant.tail c.in_default.len_below (c.are_last_low.ensures t))

pub loop-byte-preserved : goal.loop-byte-preserved
loop-byte-preserved c = below_more (λ k. get_or c.loop-rest.rest.now k 0 < 128) c.loop-byte.byte-index c.loop-byte.invariant (omega arith)

pub returns : goal.returns
returns c = λ _. c.loop-rest.invariant.others (λ k d low. subst (λ x. x < 128) (get_same c.loop-rest.rest.now k d low) (c.loop-byte.invariant k (omega (arith, low))))
