-- The pairs that a scan shows.
use Rattle.std.proofs.Common.{◌≡◌, ◌∙◌, ◌++◌, ◌∷◌, ℕ, List, [], map, refl, sym, ap}
use Rattle.std.specs.List.{flat_map}
use Rattle.ov_fetch.specs.Scans.{rows_at}
use Rattle.ov_fetch.specs.declared.scan.Scan.{Scan}
use Rattle.ov_segment.specs.declared.numbered.Record.{Record}
use Rattle.ov_terms.specs.Standing.{pairs_in, pairs_shown}
use Rattle.ov_model.specs.Answers.{Related, pairs, pairs_of, source_vids}
use Rattle.ov_model.specs.Book.{Cvd, Row}
use Rattle.ov_model.specs.Records.{rows_at as rows_of}
use Rattle.ov_model.specs.declared.query.Src.{Src}

pairs_are : (records : List Record) (cvd : Cvd) (vids : List ℕ) (picks : List (List ℕ)) → map (rows_at records) picks ≡ map (rows_of cvd.versions) vids
    → pairs_in records vids picks ≡ flat_map (pairs_of cvd) vids
pairs_are records cvd [] picks e = refl
pairs_are records cvd (vid ∷ vids) [] e = absurd cc
pairs_are records cvd (vid ∷ vids) (pick ∷ picks) e =
    let head : rows_at records pick ≡ rows_of cvd.versions vid = cc
    in let tail : map (rows_at records) picks ≡ map (rows_of cvd.versions) vids = cc
    in λ i. map (λ (row : Row). record { vid = vid; row = row }) (head i) ++ pairs_are records cvd vids picks tail i

pub shown_are : (scan : Scan) (cvd : Cvd) (src : Src) (related : Related) (vids : List ℕ) → source_vids related cvd src ≡ vids → scan.vids ≡ vids
    → map (rows_at scan.records) scan.picks ≡ map (rows_of cvd.versions) vids → pairs_shown scan ≡ pairs related cvd src
shown_are scan cvd src related vids source are rows =
    ap (λ (vs : List ℕ). pairs_in scan.records vs scan.picks) are ∙ pairs_are scan.records cvd vids scan.picks rows ∙ sym (ap (flat_map (pairs_of cvd)) source)
