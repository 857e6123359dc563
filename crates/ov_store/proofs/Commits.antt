-- A commit, from what was read.
use Rattle.std.proofs.Common.{◌≡◌, ◌∙◌, ◌+◌, ◌<◌, ◌≤◌, ◌^◌, ◌++◌, ℕ, Bool, true, false, nat_le, List, [], ◌∷◌, length, map, refl, sym, ap, subst, inl, inr, arith}
use Rattle.std.specs.Prelude.{◌≢◌, ◌==◌, not, IsUtf8, Option, Some, None}
use Rattle.std.specs.List.{All, AllZip}
use Rattle.std.specs.Option.{option_map, option_or}
use Rattle.std.proofs.lemmas.Bool.{ne_eqb}
use Rattle.std.proofs.lemmas.List.{length-append}
use Rattle.std.proofs.lemmas.List.Elements.{All-cons, All-nil, All-head, All-tail}
use Rattle.ov_event.specs.declared.event.Event as raw
use Rattle.ov_host.specs.Host.{State}
use Rattle.ov_segment.specs.declared.numbered.Record.{Record}
use Rattle.ov_value.specs.declared.column.Column.{Column}
use Rattle.ov_model.specs.Assigned.{stored, stored_parents}
use Rattle.ov_model.specs.Book.{Row, Version}
use Rattle.ov_model.specs.Merge.{in_key_order}
use Rattle.ov_model.specs.Moves.{Commit, numbered, version_of, wide}
use Rattle.ov_model.specs.Placed.{AreThere}
use Rattle.ov_model.specs.Records.{fresh_in, of_version, order_of, records_of, recs}
use Rattle.ov_model.specs.World.{Dataset, World, first_set}
use Rattle.ov_catalog.specs.Raw.{event_in}
use Rattle.ov_catalog.specs.Reached.{AreParents, ArePlain, AreRows, CommitFits, Fits, IfThere}
use Rattle.ov_catalog.specs.Stands.{asked_event}
use Rattle.ov_model.proofs.Growing.{order_of_more, length_recs}
use Rattle.ov_records.specs.Records.{lists_of, pairs_of}
use Rattle.ov_fetch.specs.declared.errors.FetchErr.{FetchErr}
use Rattle.ov_fetch.specs.declared.errors.FetchErr.TheVariants as fetch
use Rattle.ov_fetch.specs.Extents.{page_bytes}
use Rattle.ov_rows.specs.Refusing.{rows_off}
use Rattle.ov_rows.specs.declared.rows_err.RowsErr.{RowsErr}
use Rattle.ov_rows.specs.declared.rows_err.RowsErr.TheVariants as rows_err
use Rattle.law_commits.proofs.Kept.{none_disagrees}
use Rattle.law_commits.proofs.Rids.{length-assigned}
use Rattle.law_commits.proofs.Same.{versions_agree}
use Rattle.ov_read.specs.Agreement.{IsThere, Numbers}
use Rattle.ov_read.specs.OfWorld.{IsSetOf}
use Rattle.law_reads.specs.Sights.{HasNumbers}
use Rattle.law_reads.proofs.Scanned.{is_stored}
use Rattle.law_reads.proofs.Counted.{numbers}
use Rattle.law_reads.proofs.Served.{no_damage}
use Rattle.ov_parents.specs.Parents.{IsParent, RefusesParents}
use Rattle.ov_new_version.specs.declared.errors.CommitErr.{CommitErr}
use Rattle.ov_new_version.specs.declared.errors.CommitErr.TheVariants as commit
use Rattle.ov_new_version.specs.Asked.{Asked, rids_of}
use Rattle.ov_new_version.specs.Commits.{Refuses}
use Rattle.ov_new_version.specs.OfWorld.{IsAnswered, IsSpared, records_with}
use Rattle.ov_core.specs.Brought.{content}
use Rattle.ov_core.specs.Held.{Held}
use Rattle.ov_core.specs.Rooms.{pages_for}
use Rattle.ov_store.specs.declared.errors.StoreErr.{StoreErr}
use Rattle.ov_store.specs.declared.errors.StoreErr.TheVariants as why
use Rattle.law_room.proofs.Room.{runs_of}
use Rattle.ov_store.specs.Committing.{AreRead, HasTooMany, IfSet, IsDamagedAt, IsSparedBy, IsSparedYet, IsTooLongFor, IsUncommitted, IsUnready, Set, Wish, adds, asked_of, commit_move, commit_off, fresh_in_world, parents_off, schema_for, to_off}
use Rattle.ov_store.specs.Errors.{of_commit, of_fetch, of_rows}
use Rattle.ov_store.specs.Refusals.{off_if, vids_off}
use Rattle.ov_store.specs.Scanning.{IsUndamaged, set_in}
use Rattle.ov_store.specs.Unready.{IsRefused}
use Rattle.ov_store.proofs.Fitting.{adds_none, plain_rows}
use Rattle.ov_store.proofs.Unreadying.{list_short}
use Rattle.ov_store.proofs.Versions.{vids_many}
use Rattle.ov_store.proofs.Widening.{TakesAll, fits_by, fits_of, wide_count, wide_schema_is}

-- ---- refused before anything is read

by_rows : (off : Option RowsErr) → option_map of_rows off ≡ Some why.TooManyRecords → ⊥
by_rows None e = cc
by_rows (Some rows_err.TooManyRows) e = cc
by_rows (Some (rows_err.DuplicateKey row)) e = cc
by_rows (Some (rows_err.FormatOne row)) e = cc
by_rows (Some rows_err.Memory) e = cc

by_parts : (o : Option StoreErr) (b : Bool) (off : Option RowsErr) → (o ≡ Some why.TooManyRecords → ⊥)
    → option_or (option_or o (off_if b why.TooManyVersions)) (option_map of_rows off) ≡ Some why.TooManyRecords → ⊥
by_parts (Some x) b off none e = none e
by_parts None true off none e = cc
by_parts None false off none e = by_rows off e

never_many : (format : ℕ) (set : Option Set) (vids : List ℕ) (added : List Column) (rows : List Row) → to_off format set vids added rows ≡ Some why.TooManyRecords → ⊥
never_many format None vids added rows e = cc
never_many format (Some s) vids added rows e =
    by_parts (vids_off (length s.versions) [] vids) (nat_le 65535 (length s.versions)) (rows_off format (schema_for s.schema added) (adds added) rows) (vids_many (length s.versions) [] vids) e

pub refused_uncommitted : (held : Held) (name : List ℕ) (wish : Wish) (s : State) (e : StoreErr) → IsRefused (commit_off held name wish.vids wish.added wish.rows) e
    → IsUncommitted held name wish s s e
refused_uncommitted held name wish s why.Host is = absurd is
refused_uncommitted held name wish s why.Memory is = tt
refused_uncommitted held name wish s (why.Damaged area at) is = absurd is
refused_uncommitted held name wish s (why.Full pages) is = absurd is
refused_uncommitted held name wish s why.JournalFull is = absurd is
refused_uncommitted held name wish s why.TooManyRecords is = absurd (never_many held.journal.format (set_in held.numbers name) wish.vids wish.added wish.rows is)
refused_uncommitted held name wish s why.NoCvd is = (is, refl)
refused_uncommitted held name wish s why.CvdExists is = (is, refl)
refused_uncommitted held name wish s (why.NoVersion vid) is = (is, refl)
refused_uncommitted held name wish s (why.RepeatedVersion vid) is = (is, refl)
refused_uncommitted held name wish s (why.DuplicateKey row) is = (is, refl)
refused_uncommitted held name wish s why.TooManyVersions is = (is, refl)
refused_uncommitted held name wish s why.TooManyRows is = (is, refl)
refused_uncommitted held name wish s why.TooManyCvds is = (is, refl)
refused_uncommitted held name wish s why.NoNumbers is = (is, refl)
refused_uncommitted held name wish s (why.FormatOne row) is = (is, refl)

refused_spared : (off : Option StoreErr) (d : Dataset) (wish : Wish) (e : StoreErr) → (off ≡ Some why.TooManyRecords → ⊥) → IsRefused off e → IsSparedYet d wish e
refused_spared off d wish why.Host none is = tt
refused_spared off d wish why.Memory none is = tt
refused_spared off d wish (why.Damaged area at) none is = absurd is
refused_spared off d wish (why.Full pages) none is = absurd is
refused_spared off d wish why.JournalFull none is = absurd is
refused_spared off d wish why.TooManyRecords none is = absurd (none is)
refused_spared off d wish why.NoCvd none is = tt
refused_spared off d wish why.CvdExists none is = tt
refused_spared off d wish (why.NoVersion vid) none is = tt
refused_spared off d wish (why.RepeatedVersion vid) none is = tt
refused_spared off d wish (why.DuplicateKey row) none is = tt
refused_spared off d wish why.TooManyVersions none is = tt
refused_spared off d wish why.TooManyRows none is = tt
refused_spared off d wish why.TooManyCvds none is = tt
refused_spared off d wish why.NoNumbers none is = tt
refused_spared off d wish (why.FormatOne row) none is = tt

pub commit_spared : (held : Held) (name : List ℕ) (d : Dataset) (wish : Wish) (e : StoreErr) → IsRefused (commit_off held name wish.vids wish.added wish.rows) e → IsSparedYet d wish e
commit_spared held name d wish e is =
    refused_spared (commit_off held name wish.vids wish.added wish.rows) d wish e (never_many held.journal.format (set_in held.numbers name) wish.vids wish.added wish.rows) is

-- ---- parents

pub there_all : (count : ℕ) (vids : List ℕ) → AreThere count vids → All (λ vid. (1 ≤ vid) × (vid ≤ count)) vids
there_all count [] are = All-nil (λ vid. (1 ≤ vid) × (vid ≤ count))
there_all count (vid ∷ vids) are = All-cons (λ vid. (1 ≤ vid) × (vid ≤ count)) vid vids are.0 (there_all count vids are.1)

module _ (w : World) (area : List ℕ) (s : Numbers) (d : Dataset) (of_world : IsSetOf w d area s) where
  pub parents_stored : (vids : List ℕ) (parents : List (List Record)) → All (IsThere s) vids → AllZip (IsParent area s) vids parents
      → lists_of parents ≡ stored_parents vids (recs d.cvd.versions []) (order_of d.cvd.versions)
  parents_stored [] [] there are = refl
  parents_stored [] (p ∷ parents) there are = absurd are
  parents_stored (v ∷ vids) [] there are = absurd are
  parents_stored (v ∷ vids) (p ∷ parents) there are =
      let one : pairs_of p ≡ stored (of_version (recs d.cvd.versions []) v) (order_of d.cvd.versions)
      = is_stored w area s d are.0.records v are.0.pick p of_world (All-head (IsThere s) v vids there) are.0.scanned
      (are.0.scanned.picked.at ∙ ap (map Some) (sym are.0.found_is))
      in λ i. one i ∷ parents_stored vids parents (All-tail (IsThere s) v vids there) are.1 i

  pub parents_spared : (vids : List ℕ) (e : FetchErr) → All (IsThere s) vids → RefusesParents e area s vids → IsUndamaged (of_fetch e)
  parents_spared vids fetch.Host there is = tt
  parents_spared vids fetch.Memory there is = tt
  parents_spared vids (fetch.Damaged page) there (inl damage) = no_damage w area s d vids page of_world there damage
  parents_spared vids (fetch.Damaged page) there (inr differ) =
      let none : Some differ.place ≡ None
      = none_disagrees (lists_of differ.parents) (Some differ.place)
      (versions_agree d.cvd.versions vids differ.parents (parents_stored vids differ.parents there differ.read)) differ.first
      in cc

-- ---- why a version isn't ready

pub refuses_unready : (s : State) (held : Held) (name : List ℕ) (set : Set) (wish : Wish) (u : State) (parents : List (List Record)) (e : CommitErr) → set_in held.numbers name ≡ Some set
    → commit_off held name wish.vids wish.added wish.rows ≡ None → AreRead set wish s parents → length (asked_of set wish parents).rows ≤ 1000000
    → Refuses e (asked_of set wish parents) s.tells (page_bytes s) → IsUnready held name wish s u (of_commit e)
refuses_unready s held name set wish u parents commit.Memory found off are few is = tt
refuses_unready s held name set wish u parents (commit.Damaged page) found off are few is = (
  refl,
  off,
  subst (IfSet (λ x. IsDamagedAt x wish s page)) (sym found)
      (λ told. inr (parents, are, is.0, is.1 told)),
)
refuses_unready s held name set wish u parents commit.TooManyRecords found off are few is =
    (off, subst (IfSet (λ x. HasTooMany x wish s)) (sym found) (record { parents = parents; are = are; many = is }))
refuses_unready s held name set wish u parents (commit.TooLong list_pages segment_pages) found off are few is =
    let a : Asked = asked_of set wish parents
    in let rids : length (rids_of a) ≡ length a.rows = length-assigned a.rows (lists_of a.parents) (set.records + 1)
    in (
      off,
      subst (IfSet (λ x. IsTooLongFor x wish s list_pages segment_pages)) (sym found) (record {
        parents = parents;
        are = are;
        long = is;
      }),
      list_short (rids_of a) list_pages (omega (arith, few, rids)) (is.long.0 ∙ ap pages_for is.commit.list_is),
      is.long.2,
    )

-- ---- at a World

pub records_more : (d : Dataset) (v : Version) → length (order_of (d.cvd.versions ++ v ∷ []))
    ≡ length (order_of d.cvd.versions) + length (fresh_in (records_of v (recs d.cvd.versions [])) (length d.cvd.versions + 1))
records_more d v =
    let at : 1 + length (recs d.cvd.versions []) ≡ length d.cvd.versions + 1 = omega (arith, length_recs d.cvd.versions [])
    in ap length (order_of_more d.cvd.versions v)
    ∙ length-append (order_of d.cvd.versions) (fresh_in (records_of v (recs d.cvd.versions [])) (1 + length (recs d.cvd.versions [])))
    ∙ ap (λ (n : ℕ). length (order_of d.cvd.versions) + length (fresh_in (records_of v (recs d.cvd.versions [])) n)) at

-- a version that fits has the records for it
pub fits_few : (w : World) (area : List ℕ) (s : Numbers) (d : Dataset) (of_world : IsSetOf w d area s) (wish : Wish) → Fits (commit_move d wish.vids wish.message wish.added wish.rows) w
    → length (order_of (wide wish.added d).cvd.versions) + fresh_in_world d wish ≤ 2 ^ 31
fits_few w area s d of_world wish fits =
    let made : List Row = in_key_order (wide wish.added d).cvd.schema wish.rows
    in let v : Version = version_of wish.vids wish.message made
    in let among : first_set (numbered d.cvd.number) w.sets ≡ Some d = ap (λ n. first_set (numbered n) w.sets) (sym (numbers w area s d of_world).number) ∙ of_world.among
    in let there : CommitFits w (wide wish.added d) v = fits_of w d wish.vids wish.message wish.added made among fits
    in omega (arith, there.records, records_more (wide wish.added d) v)

of_rows_none : (o : Option RowsErr) → option_map of_rows o ≡ None → o ≡ None
of_rows_none None e = refl
of_rows_none (Some off) e = absurd cc

rest_none : (first rest : Option StoreErr) → option_or first rest ≡ None → rest ≡ None
rest_none None rest e = e
rest_none (Some off) rest e = absurd cc

rows_pass : (held : Held) (name : List ℕ) (s : Numbers) (vids : List ℕ) (added : List Column) (rows : List Row) → set_in held.numbers name ≡ Some s
    → commit_off held name vids added rows ≡ None → rows_off held.journal.format (schema_for s.schema added) (adds added) rows ≡ None
rows_pass held name s vids added rows found off =
    let there : to_off held.journal.format (Some s) vids added rows ≡ None = subst (λ o. to_off held.journal.format o vids added rows ≡ None) found off
    in of_rows_none (rows_off held.journal.format (schema_for s.schema added) (adds added) rows)
    (rest_none (parents_off s vids) (option_map of_rows (rows_off held.journal.format (schema_for s.schema added) (adds added) rows)) there)

-- the rows of a commit that isn't refused have no NULL in a store of format 1
pub plain_commit : (w : World) (held : Held) (name : List ℕ) (s : Numbers) (wish : Wish) → w.format ≡ held.journal.format → set_in held.numbers name ≡ Some s
    → commit_off held name wish.vids wish.added wish.rows ≡ None → ArePlain w (in_key_order (schema_for s.schema wish.added) wish.rows)
plain_commit w held name s wish same found off =
    plain_rows w held.journal.format (schema_for s.schema wish.added) (adds wish.added) wish.rows same (rows_pass held name s wish.vids wish.added wish.rows found off)

some_added : (added : List Column) → adds added ≡ false → added ≡ []
some_added [] none = refl
some_added (column ∷ added) none =
    let other : (length (column ∷ added) == 0) ≡ false = ne_eqb (length (column ∷ added)) 0 (λ e. cc)
    in let is : true ≡ false = sym (ap not other) ∙ none
    in absurd cc

-- and such a store takes no columns
pub other_format : (held : Held) (name : List ℕ) (s : Numbers) (vids : List ℕ) (added : List Column) (rows : List Row) → set_in held.numbers name ≡ Some s
    → commit_off held name vids added rows ≡ None → added ≢ [] → held.journal.format ≢ 1
other_format held name s vids added rows found off some one =
    some (some_added added (adds_none held.journal.format (schema_for s.schema added) (adds added) rows (rows_pass held name s vids added rows found off) one))

module _ (w : World) (area : List ℕ) (s : Numbers) (d : Dataset) (of_world : IsSetOf w d area s) (wish : Wish) (made : List Row) (parents : List (List Record))
    (sorted : made ≡ in_key_order (schema_for s.schema wish.added) wish.rows) where
  abbrev asked : Asked
  asked = record { set = s; vids = wish.vids; parents = parents; message = wish.message; added = wish.added; schema = schema_for s.schema wish.added; rows = made }

  abbrev wider : Dataset
  wider = wide wish.added d

  numbered_as : HasNumbers s d
  numbered_as = numbers w area s d of_world

  schema_is : schema_for s.schema wish.added ≡ wider.cvd.schema
  schema_is = ap (λ schema. schema_for schema wish.added) numbered_as.schema ∙ sym (wide_schema_is wish.added d)

  count_is : length s.versions ≡ length wider.cvd.versions
  count_is = numbered_as.versions ∙ sym (wide_count wish.added d)

  made_is : made ≡ in_key_order wider.cvd.schema wish.rows
  made_is = sorted ∙ ap (λ schema. in_key_order schema wish.rows) schema_is

  move_is : Commit s.number wish.vids wish.message wish.added made ≡ commit_move d wish.vids wish.message wish.added wish.rows
  move_is = λ i. Commit (numbered_as.number i) wish.vids wish.message wish.added (made_is i)

  pub commit_fits : records_with asked d ≤ 2 ^ 31 → AreParents (length s.versions) wish.vids → IsUtf8 wish.message → length wish.message ≤ 1024 → length s.versions < 65535
      → AreRows (schema_for s.schema wish.added) made → ArePlain w made → TakesAll w d wish.added → Fits (commit_move d wish.vids wish.message wish.added wish.rows) w
  commit_fits room are text short few rows plain takes =
      subst (λ m. Fits m w) move_is
      (fits_by w d s.number wish.vids wish.message wish.added made of_world.among takes
      (record {
        parents = subst (λ n. AreParents n wish.vids) count_is are;
        text = text;
        short = short;
        few = subst (λ (n : ℕ). n < 65535) count_is few;
        rows = subst (λ schema. AreRows schema made) schema_is rows;
        records = room;
        plain = plain;
      }))

  module _ (e : raw.Event) (fresh : ℕ) (list segment : List ℕ) (answered : IsAnswered asked w d e fresh list segment) where
    pub commit_says : Some (content (event_in e) list segment) ≡ asked_event (commit_move d wish.vids wish.message wish.added wish.rows) w
    commit_says = answered.says ∙ ap (λ m. asked_event m w) move_is

    pub commit_fresh : fresh ≡ fresh_in_world d wish
    commit_fresh = answered.fresh_is
        ∙ ap (λ (rows : List Row). length (fresh_in (records_of (version_of wish.vids wish.message rows) (recs wider.cvd.versions [])) (length wider.cvd.versions + 1))) made_is

  pub spared_by : (records_with asked d ≤ 2 ^ 31 → Fits (commit_move d wish.vids wish.message wish.added wish.rows) w) → (e : CommitErr) → IsSpared e asked w d → IsSparedBy w d wish (of_commit e)
  spared_by fits commit.Memory is = tt
  spared_by fits (commit.Damaged page) is = absurd is
  spared_by fits commit.TooManyRecords is =
      let more : records_with asked d ≡ length (order_of wider.cvd.versions) + fresh_in_world d wish
      = ap (λ (rows : List Row). length (order_of (wider.cvd.versions ++ version_of wish.vids wish.message rows ∷ []))) made_is
      ∙ records_more wider (version_of wish.vids wish.message (in_key_order wider.cvd.schema wish.rows))
      in omega (arith, is, more)
  spared_by fits (commit.TooLong list_pages segment_pages) is = (
    fits is.room,
    record {
      written = record { event = is.event; list = is.list; segment = is.segment; says = is.says ∙ ap (λ m. asked_event m w) move_is; sized = is.sized; runs = runs_of is.event is.list is.segment is.runs };
      long = is.long;
    },
  )
