use Rattle.std.proofs.Common.{◌≡◌, take, drop, IsUtf8, sym, ◌∙◌, rules}
use Rattle.std.specs.Int.{w32, from_be_bytes}
use Rattle.std.proofs.lemmas.Bool.{true≢false}
use Rattle.ov_value.proofs.Parts.{text_utf8}
use Rattle.ov_value.proofs.walk.behind_text.Goals as goal

-- a text in front would be UTF-8
pub returns-else-is_text-clause-none : goal.returns-else-is_text-clause-none
returns-else-is_text-clause-none c value rest begins =
    let len : c.from_be_bytes-len.result ≡ from_be_bytes w32 (take 4 c.args.bytes.now) = search rules in
    let utf8 : IsUtf8 (take c.from_be_bytes-len.result (drop 4 c.args.bytes.now)) = text_utf8 c.args.bytes.now value rest c.from_be_bytes-len.result begins len in
    absurd (true≢false (sym (c.is_text.ensures.1 (rw (c.split_at-2.ensures.front, c.split_at.ensures.back) utf8)) ∙ c.if-is_text.false))
