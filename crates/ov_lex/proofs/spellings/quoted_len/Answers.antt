use Rattle.std.proofs.Common.{◌≡◌, ◌<◌, length, get_or, arith}
use Rattle.ov_lex.proofs.Scans.{behind, quoted_is, quoted_is_none}
use Rattle.ov_lex.proofs.spellings.quoted_len.Goals.{else-first-eq34-via-then-first-eq34+then-len-gt0+else-len-rest, else-first-eq34-via-then-first-eq34+else-len-gt0, else-first-eq34-via-else-first-eq34}
use Rattle.ov_lex.proofs.spellings.quoted_len.Goals as goal

pub returns-then-len-rest : goal.returns-then-len-rest
returns-then-len-rest c = quoted_is c.args.bytes.now c.unquoted-len.result c.in-len1-up.len_at_least c.if-first-eq34.true c.unquoted-len.ensures c.if-len-gt0.true c.if-len-rest.true

pub returns-else-first-eq34 : goal.returns-else-first-eq34
returns-else-first-eq34 c =
    let never : get_or c.args.bytes.now 0 0 ≡ 34 → 0 < c.unquoted-len.result → c.unquoted-len.result < length (behind c.args.bytes.now) → ⊥ = λ first some before_end. elim c.else-first-eq34.branch [
      | else-first-eq34-via-then-first-eq34+then-len-gt0+else-len-rest w ↦ let le = w.if-len-rest.false in omega arith
      | else-first-eq34-via-then-first-eq34+else-len-gt0 w ↦ let le = w.if-len-gt0.false in omega arith
      | else-first-eq34-via-else-first-eq34 w ↦ w.if-first-eq34.false first
    ] in
    quoted_is_none c.args.bytes.now c.unquoted-len.result c.in-len1-up.len_at_least c.unquoted-len.ensures never
