use Rattle.std.proofs.Common.{◌≡◌, ◌++◌, ◌+◌, take, drop, get_or, string_bytes, ap, ◌∙◌}
use Rattle.ov_parse.proofs.Unescape.{left_more, left_pair, after_pair, cut_pair, behind_utf8}
use Rattle.ov_parse.proofs.say.unescaped.Goals as goal

pub split_at-requires : goal.split_at-requires
split_at-requires c =
    let quote : get_or c.loop-at.rest.now c.loop-at.at 0 ≡ 39 = rw c.as_bytes.ensures.value at c.if-as_bytes-at-eq39.true in
    cut_pair c.loop-at.rest.now c.loop-at.at c.loop-at.invariant.utf8 c.loop-at-test.true quote

pub split_at-requires-then-as_bytes-at-eq39 : goal.split_at-requires-then-as_bytes-at-eq39
split_at-requires-then-as_bytes-at-eq39 c =
    let quote : get_or c.loop-at.rest.now c.loop-at.at 0 ≡ 39 = rw c.as_bytes.ensures.value at c.if-as_bytes-at-eq39.true in
    rw c.split_at.ensures.back (after_pair c.args.inner.now (string_bytes c.loop-at.text) c.loop-at.rest.now c.loop-at.at c.loop-at.invariant.utf8 c.loop-at.invariant.left c.loop-at-test.true quote)

pub loop-at-preserved-then-as_bytes-at-eq39 : goal.loop-at-preserved-then-as_bytes-at-eq39
loop-at-preserved-then-as_bytes-at-eq39 c =
    let quote : get_or c.loop-at.rest.now c.loop-at.at 0 ≡ 39 = rw c.as_bytes.ensures.value at c.if-as_bytes-at-eq39.true in
    let text : string_bytes c.push_str.new.self ≡ string_bytes c.loop-at.text ++ take (c.loop-at.at + 1) c.loop-at.rest.now = c.in_ok-push_str.ensures.bytes ∙ ap (λ ss. string_bytes c.loop-at.text ++ ss) c.split_at.ensures.front in
    let behind : c.split_at-then-as_bytes-at-eq39.result.1.now ≡ drop 1 (drop (c.loop-at.at + 1) c.loop-at.rest.now) = c.split_at-then-as_bytes-at-eq39.ensures.back ∙ ap (drop 1) c.split_at.ensures.back in
    record {
      utf8 = behind_utf8 c.args.inner.now (string_bytes c.loop-at.text) c.loop-at.rest.now _ c.loop-at.at c.loop-at.invariant.utf8 c.loop-at.invariant.left c.loop-at-test.true quote behind;
      left = left_pair c.args.inner.now (string_bytes c.loop-at.text) c.loop-at.rest.now _ _ c.loop-at.at c.loop-at.invariant.left c.loop-at-test.true quote text behind;
    }

pub loop-at-preserved : goal.loop-at-preserved
loop-at-preserved c =
    let other : get_or c.loop-at.rest.now c.loop-at.at 0 ≡ 39 → ⊥ = rw c.as_bytes.ensures.value at c.if-as_bytes-at-eq39.false in
    record {
      utf8 = c.loop-at.invariant.utf8;
      left = left_more c.args.inner.now (string_bytes c.loop-at.text) c.loop-at.rest.now c.loop-at.at c.loop-at.invariant.left c.loop-at-test.true other;
    }
