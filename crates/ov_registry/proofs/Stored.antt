-- The rows of a last version can be stored: so they stand in its segments.
use Rattle.std.proofs.Common.{◌≡◌, ◌⊎◌, ◌∙◌, ℕ, List, [], ◌∷◌, length, inl, inr, sym, subst}
use Rattle.std.specs.Prelude.{Some}
use Rattle.std.specs.List.{All}
use Rattle.std.proofs.lemmas.List.Elements.{All-cons, All-head, All-nil, All-tail}
use Rattle.ov_catalog.proofs.Members.{of_append}
use Rattle.ov_fetch.specs.Extents.{page_bytes}
use Rattle.ov_fetch.specs.Rows.{AreSegments, joined, record_of}
use Rattle.ov_fetch.specs.Scans.{rows_of}
use Rattle.ov_host.specs.Host.{State}
use Rattle.ov_host.specs.declared.area.Extent.{Extent}
use Rattle.ov_model.specs.Book.{Row}
use Rattle.ov_model.specs.Lists.{IsIn}
use Rattle.ov_read.specs.Agreement.{segments_of}
use Rattle.ov_segment.specs.Segments.{AreRecords}
use Rattle.ov_segment.specs.declared.numbered.Record.{Record}
use Rattle.ov_store.specs.Committing.{Set}
use Rattle.ov_value.specs.Shapes.{Shape}
use Rattle.law_reads.proofs.Served.{record_there}
use Rattle.ov_registry.specs.Last.{IsLast}
use Rattle.ov_registry.specs.Storable.{CanStore}
use Rattle.ov_registry.proofs.Once.{picked_rows}

one_of : (schema : Shape) (last : ℕ) (rs : List Record) (r : Record) → AreRecords schema last rs → IsIn rs r → CanStore schema r.row
one_of schema last [] r are is = absurd is
one_of schema last (x ∷ rs) r are (inl same) = subst (λ (y : Record). CanStore schema y.row) (sym same) (record { fits = are.0.row; short = are.0.small })
one_of schema last (x ∷ rs) r are (inr later) = one_of schema x.rid rs r are.1 later

one_there : (schema : Shape) (area : List ℕ) (segments : List Extent) (contents : List (List Record)) (r : Record) → AreSegments schema area segments contents
    → IsIn (joined contents) r → CanStore schema r.row
one_there schema area segments [] r are is = absurd is
one_there schema area [] (rs ∷ contents) r are is = absurd are
one_there schema area (e ∷ segments) (rs ∷ contents) r are is =
    by (of_append rs (joined contents) r is) (λ later. one_there schema area segments contents r are.1 later)
  where
    by : IsIn rs r ⊎ IsIn (joined contents) r → (IsIn (joined contents) r → CanStore schema r.row) → CanStore schema r.row
    by (inl here) rest = one_of schema 0 rs r are.0.are here
    by (inr later) rest = rest later

found_there : (schema : Shape) (area : List ℕ) (segments : List Extent) (contents : List (List Record)) (found : List Record) → AreSegments schema area segments contents
    → All (λ r. record_of (joined contents) r.rid ≡ Some r) found → All (CanStore schema) (rows_of found)
found_there schema area segments contents [] are first = All-nil (CanStore schema)
found_there schema area segments contents (r ∷ found) are first =
    All-cons (CanStore schema) r.row (rows_of found)
    (one_there schema area segments contents r are
    (record_there (joined contents) r.rid r (All-head (λ (x : Record). record_of (joined contents) x.rid ≡ Some x) r found first)))
    (found_there schema area segments contents found are (All-tail (λ (x : Record). record_of (joined contents) x.rid ≡ Some x) r found first))

pub can_store : (set : Set) (s : State) (rows : List Row) → IsLast set s rows → All (CanStore set.schema) rows
can_store set s rows last =
    subst (All (CanStore set.schema)) (sym (last.rows_are ∙ picked_rows last.records last.pick last.scanned.found last.scanned.picked.at))
    (found_there set.schema (page_bytes s) (segments_of set (length set.versions)) last.scanned.first.contents last.scanned.found last.scanned.first.read last.scanned.first.first)
