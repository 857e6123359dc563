-- A log by the versions before is one by their records.
use Rattle.std.proofs.Common.{◌≡◌, ℕ, ◌+◌, List, [], ◌∷◌, ◌++◌, length, refl, ◌∙◌, ap, arith}
use Rattle.ov_model.proofs.Growing.{recs_more, length_recs}
use Rattle.ov_model.specs.Act.{log_lines}
use Rattle.ov_model.specs.Book.{Version}
use Rattle.ov_model.specs.Records.{Rec, recs, records_of, fresh_in}
use Rattle.ov_model.specs.declared.reply.LogLine.{LogLine}
use Rattle.ov_plain_act.specs.Acts.{lines_after}

-- what is told of a version that has this number
abbrev line_at : List (List Rec) → Version → ℕ → LogLine
line_at done v vid = record {
  vid = vid;
  rows = length v.rows;
  fresh = length (fresh_in (records_of v done) vid);
  parents = v.parents;
  message = v.message;
}

pub lines_are : (before versions : List Version) → log_lines before versions ≡ lines_after (recs before []) versions
lines_are before [] = refl
lines_are before (v ∷ versions) =
    let same : length before + 1 ≡ length (recs before []) + 1 = omega (arith, length_recs before [])
    in ap (λ (vid : ℕ). line_at (recs before []) v vid ∷ log_lines (before ++ v ∷ []) versions) same
    ∙ ap (λ (lines : List LogLine). line_at (recs before []) v (length (recs before []) + 1) ∷ lines)
    (lines_are (before ++ v ∷ []) versions ∙ ap (λ (done : List (List Rec)). lines_after done versions) (recs_more before v []))
