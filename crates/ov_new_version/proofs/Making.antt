-- What a commit makes of what was read, as an event.
use Rattle.std.proofs.Common.{◌≡◌, ◌≤◌, ◌<◌, ◌+◌, ◌^◌, ℕ, Bool, true, false, ◌==◌, List, [], ◌∷◌, length, map, refl, sym, ◌∙◌, ap, subst, inl, inr, arith}
use Rattle.std.specs.Prelude.{if◌then◌else◌, nat_eq, Some, None, IsTrue}
use Rattle.std.specs.List.{AllByRecursion, IsDistinct, zip}
use Rattle.std.proofs.lemmas.Bool.{eq-eqb, ne_eqb}
use Rattle.std.proofs.lemmas.List.{length-map}
use Rattle.ov_event.specs.declared.event.Event as raw
use Rattle.ov_event.specs.declared.event.Event.TheVariants as says
use Rattle.ov_host.specs.declared.area.Extent.{Extent}
use Rattle.ov_place.specs.declared.place_facts.Place.{Place}
use Rattle.ov_place.specs.declared.place_facts.Place.TheVariants.{Own, Join}
use Rattle.ov_member.specs.Rids.{left_out}
use Rattle.ov_model.specs.Book.{Row}
use Rattle.ov_model.specs.Lists.{IsIn}
use Rattle.ov_model.specs.Placed.{times}
use Rattle.ov_graph.specs.Versions.{heaviest}
use Rattle.ov_place.specs.Placement.{placed}
use Rattle.ov_records.specs.Records.{lists_of, shared}
use Rattle.ov_records.specs.declared.outcome.Assigned.{Assigned}
use Rattle.ov_catalog.specs.declared.cvd.Cvd.{Cvd}
use Rattle.ov_catalog.specs.Sets.{set_in, version_in}
use Rattle.ov_catalog.specs.Applying.{facts_of, first_off, is_segment, set_numbered}
use Rattle.ov_catalog.specs.Numbers.{Numbers}
use Rattle.ov_catalog.specs.Raw.{adding}
use Rattle.ov_catalog.specs.Reached.{AreParents, AreRows}
use Rattle.ov_core.specs.Brought.{extent_at}
use Rattle.law_events.specs.Fitting.{IsSoundEvent}
use Rattle.law_commits.specs.Agreeing.{AreRids, ParentsAgree}
use Rattle.law_commits.specs.Committing.{MayAdd, MayCommit, JoinedAgrees, added_for}
use Rattle.law_commits.proofs.Agreed.{different, event_applies}
use Rattle.law_commits.proofs.Rids.{length-assigned}
use Rattle.law_commits.proofs.Times.{few_numbers, in_times}
use Rattle.ov_version_bytes.specs.Next.{spelled_place}
use Rattle.ov_version_bytes.specs.Written.{AreGiven, IsLong, list_written, segment_written}
use Rattle.ov_version_bytes.proofs.Following.{place_back, sound_added}
use Rattle.ov_version_bytes.proofs.Sorting.{all_from}
use Rattle.ov_new_version.specs.Asked.{Asked, asked_in, rids_of, fresh_of, edges_of, place_of}
use Rattle.ov_new_version.specs.declared.wanted.Wanted.{Wanted}
use Rattle.ov_new_version.specs.Commits.{HasRecords, event_for, IsCommitOf, IsTooLong}
use Rattle.ov_new_version.specs.Joined.{joined_of, IsReadOf}
use Rattle.ov_new_version.proofs.Placing.{in_range}

-- what a commit asks
pub record MayBe (a : Asked) : Type 0 where
  pub named : AreParents (length a.set.versions) a.vids
  pub few : length a.set.versions < 65535
  pub message : length a.message ≤ 1024
  pub rows : AreRows a.schema a.rows
  pub agree : ParentsAgree a.set a.vids a.parents
  pub room : a.set.records + fresh_of a ≤ 2 ^ 31

-- what the rids, the edges and the place are that the code has
pub record IsMade (a : Asked) (made : Assigned) (place : Place) : Type 0 where
  pub rids : made.rids ≡ rids_of a
  pub edges : zip a.vids made.weights ≡ edges_of a
  pub fresh : made.fresh ≡ fresh_of a
  pub place_is : place ≡ place_of a

pub made_is : (a : Asked) (made : Assigned) (weights : List ℕ) (place : Place) → weights ≡ made.weights
    → made.rids ≡ rids_of a → made.weights ≡ map (shared (zip made.rids a.rows)) (lists_of a.parents) → made.fresh ≡ fresh_of a
    → place ≡ placed (facts_of a.set (heaviest (zip a.vids weights))) → IsMade a made place
made_is a made weights place slice rids ws fresh place_is =
    let edges : zip a.vids made.weights ≡ edges_of a =
    ap (zip a.vids) (ws ∙ (λ i. map (shared (zip (rids i) a.rows)) (lists_of a.parents)))
    in record {
      rids = rids;
      edges = edges;
      fresh = fresh;
      place_is = place_is ∙ ap (λ es. placed (facts_of a.set (heaviest es))) (ap (zip a.vids) slice ∙ edges);
    }

pub may_be : (d : Cvd) (w : Wanted) → AreParents (length d.versions.items) w.vids.now → length d.versions.items < 65535 → length w.message.now ≤ 1024 → AreRows w.schema.now w.rows
    → ParentsAgree (set_in d) w.vids.now w.parents.now → d.records + fresh_of (asked_in d w) ≤ 2 ^ 31 → MayBe (asked_in d w)
may_be d w named few message rows agree room =
    let count = length-map d.versions.items version_in
    in record {
      named = subst (λ n. AreParents n w.vids.now) (sym count) named;
      few = subst (λ n. n < 65535) (sym count) few;
      message = message;
      rows = rows;
      agree = agree;
      room = room;
    }

pub vid_is : (d : Cvd) (vid : ℕ) → vid ≡ length d.versions.items + 1 → vid ≡ length (set_in d).versions + 1
vid_is d vid is = is ∙ ap (λ n. n + 1) (sym (length-map d.versions.items version_in))

may_commit : (a : Asked) → MayBe a → MayCommit a.set a.schema a.vids a.message a.rows a.parents
may_commit a may = record {
  named = may.named;
  left = may.few;
  short = may.message;
  rise = may.rows.rise;
  few = may.rows.few;
  room = may.room;
}

-- ---- the rids

one_apart : (rid : ℕ) (rids : List ℕ) → (IsIn rids rid → ⊥) → AllByRecursion (λ x. nat_eq rid x ≡ false) rids
one_apart rid [] none = tt
one_apart rid (x ∷ rids) none = (ne_eqb rid x (λ same. none (inl same)), one_apart rid rids (λ is. none (inr is)))

distinct : (rids : List ℕ) → ((rid : ℕ) → times rids rid ≤ 1) → IsDistinct nat_eq rids
unfolding IsDistinct
distinct [] once = tt
distinct (rid ∷ rids) once =
    (one_apart rid rids (λ is. twice (rid == rid) (eq-eqb rid rid refl) (once rid) (in_times rids rid is)), distinct rids (λ n. omega (arith, once n)))
  where
    twice : (b : Bool) → b ≡ true → (if b then 1 else 0) + times rids rid ≤ 1 → 1 ≤ times rids rid → ⊥
    twice true e one some = omega (arith, one, some)
    twice false e one some = cc

pub given_from : (rids : List ℕ) (rows : List Row) (most : ℕ) → most ≤ 2 ^ 31 → AreRids (length rows) most rids → AreGiven rids rows
given_from rids rows most low are = record {
  as_many = are.all;
  once = distinct rids are.once;
  some = all_from (λ rid. 1 ≤ rid) rids are.from_one;
  low = all_from (λ rid. rid ≤ 2 ^ 31) rids (λ rid is. omega (arith, are.there rid is, low));
}

pub rids_given : (a : Asked) → MayBe a → AreGiven (rids_of a) a.rows
rids_given a may =
    given_from (rids_of a) a.rows (a.set.records + fresh_of a) may.room (different a.set a.schema a.vids a.message a.rows a.parents (may_commit a may) may.agree)

-- ---- the event

left_all : (rids : List ℕ) → left_out rids [] ≡ rids
left_all [] = refl
left_all (rid ∷ rids) = ap (λ ns. rid ∷ ns) (left_all rids)

added_is : (place : Place) (rows : List Row) (rids held : List ℕ) → length rids ≡ length rows → (place ≡ Own → held ≡ []) → length (left_out rids held) ≡ added_for place rows rids held
added_is Own rows rids held same own = ap (λ h. length (left_out rids h)) (own refl) ∙ ap length (left_all rids) ∙ same
added_is (Join id) rows rids held same own = refl

module _ (a : Asked) (made : Assigned) (place : Place) (is : IsMade a made place) (held : List ℕ) (own : place ≡ Own → held ≡ []) where
  rids_long : length (rids_of a) ≡ length a.rows
  rids_long = length-assigned a.rows (lists_of a.parents) (a.set.records + 1)

  added : length (left_out made.rids held) ≡ added_for (place_of a) a.rows (rids_of a) held
  added =
      ap (λ rids. length (left_out rids held)) is.rids
      ∙ added_is (place_of a) a.rows (rids_of a) held rids_long (λ e. own (is.place_is ∙ e))

  pub event_told : (e : raw.Event) (vid : ℕ) (list segment : List ℕ) → vid ≡ length a.set.versions + 1
      → e ≡ adding a.added (says.Commit a.set.number vid a.message (zip a.vids made.weights) (length a.rows) made.fresh (spelled_place place) (length (left_out made.rids held))
      (extent_at 0 list) (extent_at 0 segment))
      → e ≡ event_for a held list segment
  event_told e vid list segment vid_is e_is =
      e_is
      ∙ (λ i. adding a.added (says.Commit a.set.number (vid_is i) a.message (is.edges i) (length a.rows) (is.fresh i) (spelled_place (is.place_is i)) (added i) (extent_at 0 list)
      (extent_at 0 segment)))

  pub commit_is : HasRecords a → (told : Bool) (area : List ℕ) (e : raw.Event) (list segment : List ℕ) → JoinedAgrees a.set place held → (told ≡ true → IsReadOf a.set area (joined_of a) held)
      → e ≡ event_for a held list segment → list ≡ list_written made.rids → segment ≡ segment_written held made.rids a.rows
      → IsCommitOf a told area e list segment
  commit_is room told area e list segment agrees read e_is list_is segment_is = record {
    room = room;
    held = held;
    agrees = subst (λ p. JoinedAgrees a.set p held) is.place_is agrees;
    own = λ e. own (is.place_is ∙ e);
    read = read;
    event_is = e_is;
    list_is = list_is ∙ ap list_written is.rids;
    segment_is = segment_is ∙ ap (λ rids. segment_written held rids a.rows) is.rids;
  }

  pub too_long : HasRecords a → (told : Bool) (area : List ℕ) (list_pages segment_pages : ℕ) → JoinedAgrees a.set place held → (told ≡ true → IsReadOf a.set area (joined_of a) held)
      → IsLong list_pages segment_pages (list_written made.rids) (segment_written held made.rids a.rows)
      → IsTooLong a told area list_pages segment_pages
  too_long room told area list_pages segment_pages agrees read long =
      let list : List ℕ = list_written made.rids
      in let segment : List ℕ = segment_written held made.rids a.rows
      in record {
        event = event_for a held list segment;
        list = list;
        segment = segment;
        commit = commit_is room told area (event_for a held list segment) list segment agrees read refl refl refl;
        long = long;
      }

  pub applies : MayBe a → (e : raw.Event) (list segment : List ℕ) → JoinedAgrees a.set place held → e ≡ event_for a held list segment → IsSoundEvent e
      → (format : ℕ) → MayAdd format a.added a.set → (n : Numbers Extent Extent) → set_numbered a.set.number n ≡ Some a.set → first_off format e n ≡ None
  applies may e list segment agrees e_is sound format may_add n found =
      let fits = sound_added a.added a.set.number (length a.set.versions + 1) a.message (edges_of a) (length a.rows) (fresh_of a) (spelled_place (place_of a))
      (added_for (place_of a) a.rows (rids_of a) held) (extent_at 0 list) (extent_at 0 segment) (subst IsSoundEvent e_is sound)
      in let back = place_back (place_of a)
      in ap (λ x. first_off format x n) (e_is
      ∙ ap (λ p. adding a.added (says.Commit a.set.number (length a.set.versions + 1) a.message (edges_of a) (length a.rows) (fresh_of a) (spelled_place (place_of a))
      (added_for p a.rows (rids_of a) held) (extent_at 0 list) (extent_at 0 segment))) (sym back))
      ∙ event_applies format a.added n a.set.number a.set a.schema a.vids a.message a.rows a.parents held (spelled_place (place_of a)) (extent_at 0 list) (extent_at 0 segment) found may_add
      (may_commit a may) may.agree back (subst (λ p. JoinedAgrees a.set p held) (is.place_is ∙ sym back) agrees) fits.0
      (subst (λ p. IsTrue (is_segment (added_for p a.rows (rids_of a) held) (extent_at 0 segment))) (sym back) fits.1)

-- so many parents has a version
few_parents : (count : ℕ) (vids : List ℕ) → AreParents count vids → length vids ≤ count
few_parents count vids named =
    few_numbers vids count named.once (λ vid is. (in_range count vids vid named.there is).0) (λ vid is. (in_range count vids vid named.there is).1)

pub few_named : (count : ℕ) (vids : List ℕ) → count < 65535 → AreParents count vids → length vids < 65536
few_named count vids few named = omega (arith, few, few_parents count vids named)
