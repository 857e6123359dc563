use Rattle.std.proofs.Common.{◌≡◌, ◌+◌, ◌<◌, length, get_or, sym, ◌∙◌, arith}
use Rattle.ov_lex.proofs.Scan.{goes_past, goes_past_pair, closes_here, finds_no_more}
use Rattle.ov_lex.proofs.spellings.closing_len.Goals.{else-at-bytes-via-then-at-bytes+else-bytes-at-eq39, else-at-bytes-via-else-at-bytes}
use Rattle.ov_lex.proofs.spellings.closing_len.Goals as goal

pub loop-at-preserved-then-bytes-at-ne39 : goal.loop-at-preserved-then-bytes-at-ne39
loop-at-preserved-then-bytes-at-ne39 c = record {
  in_range = omega arith;
  so_far = goes_past c.args.bytes.now c.loop-at.at c.loop-at.last c.loop-at-test.true c.if-bytes-at-ne39.true ∙ c.loop-at.invariant.so_far;
}

pub loop-at-preserved : goal.loop-at-preserved
loop-at-preserved c = record {
  in_range = omega arith;
  so_far = goes_past_pair c.args.bytes.now c.loop-at.at c.loop-at.last c.if-at-bytes.true c.if-bytes-at-ne39.false c.if-bytes-at-eq39.true ∙ c.loop-at.invariant.so_far;
}

pub returns-else-at-bytes : goal.returns-else-at-bytes
returns-else-at-bytes c =
    let other : c.loop-at.at + 1 < length c.args.bytes.now → get_or c.args.bytes.now (c.loop-at.at + 1) 0 ≡ 39 → ⊥ = λ lt e. elim c.else-at-bytes.branch [
      | else-at-bytes-via-then-at-bytes+else-bytes-at-eq39 w ↦ w.if-bytes-at-eq39.false e
      | else-at-bytes-via-else-at-bytes w ↦ let le = w.if-at-bytes.false in omega arith
    ] in
    sym (closes_here c.args.bytes.now c.loop-at.at c.loop-at.last c.loop-at-test.true c.if-bytes-at-ne39.false other) ∙ c.loop-at.invariant.so_far

pub returns : goal.returns
returns c = sym (finds_no_more c.args.bytes.now c.loop-at.at c.loop-at.last c.loop-at-test.false) ∙ c.loop-at.invariant.so_far
