use Rattle.std.proofs.Common.{◌++◌, ◌∙◌, ℕ, List, ap}
use Rattle.csv.specs.Writing.{default_writer, field_text, next_sep}
use Rattle.ov_csv.proofs.LineLemmas.{writes_more, names_split}
use Rattle.ov_csv.proofs.header_line.push_names.Goals as goal

pub loop-place-preserved : goal.loop-place-preserved
loop-place-preserved c =
    writes_more c.args.text.now.items _ c.loop-place.place _ _ _ c.loop-place.text.items c.push_field.new.text.items c.loop-place.invariant
    (names_split c.args.columns.now c.loop-place.place c.index-columns-place.result c.loop-place-test.true c.index-columns-place.is)
    (c.in_ok-push_field.ensures ∙ ap (λ (f : List ℕ). c.loop-place.text.items ++ (next_sep default_writer c.loop-place.place ++ field_text default_writer f)) c.as_bytes.ensures.bytes)
