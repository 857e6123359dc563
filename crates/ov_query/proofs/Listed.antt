-- A query with lists in place of its lineages: what is said of it is said of the query.
use Rattle.std.proofs.Common.{◌≡◌, ◌∙◌, ◌==◌, ◌||◌, ℕ, Bool, true, false, List, [], ◌∷◌, Some, None, length, map, refl, sym, ap, subst}
use Rattle.std.specs.Prelude.{IfOk, Option, Result, Ok, Err, nat_lt, if◌then◌else◌}
use Rattle.std.specs.Option.{option_or}
use Rattle.std.proofs.lemmas.List.{length-map}
use Rattle.ov_host.specs.declared.area.Extent.{Extent}
use Rattle.ov_host.specs.Host.{State}
use Rattle.ov_catalog.specs.Numbers.{Numbers}
use Rattle.ov_core.specs.AtWorld.{IsAtWorld}
use Rattle.ov_core.specs.Held.{Held}
use Rattle.ov_model.specs.Act.{Session, tells, unless}
use Rattle.ov_model.specs.Answers.{Pair, Related, answer, answer_text, pairs}
use Rattle.ov_model.specs.Asking.{answer_rows, answered, lineages_of, listed_refusal, missing_version, name_read, query_by, query_refusal}
use Rattle.ov_model.specs.Book.{Cvd}
use Rattle.ov_model.specs.Kinds.{kinds}
use Rattle.ov_model.specs.Lineages.{relatives}
use Rattle.ov_model.specs.World.{Dataset, World, cvd_in, set_named}
use Rattle.ov_model.specs.declared.query.LineageKind.{LineageKind}
use Rattle.ov_model.specs.declared.query.Query.{Query}
use Rattle.ov_model.specs.declared.query.Src.{Src}
use Rattle.ov_model.specs.declared.query.Src.TheVariants as source
use Rattle.ov_model.specs.declared.refusal.Refusal.{Refusal}
use Rattle.ov_model.specs.declared.refusal.Refusal.TheVariants as no
use Rattle.ov_model.specs.declared.reply.Reply.{Reply}
use Rattle.ov_model.specs.declared.reply.Reply.TheVariants as says
use Rattle.ov_model.proofs.KnownBy.{relatives-like}
use Rattle.ov_value.specs.declared.column.Kind.{Kind}
use Rattle.ov_lineage.specs.Related.{relatives_by}
use Rattle.ov_lineage.specs.Resolved.{IsResolved, source_by}
use Rattle.ov_store.specs.Scanning.{set_in}
use Rattle.ov_store.specs.declared.errors.StoreErr.{StoreErr}
use Rattle.ov_store.proofs.Deciding.{counts, world_named}
use Rattle.ov_query.specs.Answering.{IsListed, IsListedBy}
use Rattle.ov_query.specs.Queries.{Set, known_in, refusal_in, set_off, vids_read}
use Rattle.ov_query.specs.declared.listing.Listed.TheVariants as listed
use Rattle.ov_query.proofs.Parents.{known_is}

-- ---- its dataset is there

pub listed_there : (o : Option Set) (query resolved : Query) → IsListedBy o query (listed.Query resolved) → (set : Set) × (o ≡ Some set) × IsListed set query resolved
listed_there None query resolved is = absurd is
listed_there (Some set) query resolved is = (set, refl, is)

pub listed_refused : (o : Option Set) (query : Query) (refusal : Refusal) → IsListedBy o query (listed.Refused refusal) → set_off query o ≡ Some refusal
listed_refused None query refusal is = is.first
listed_refused (Some set) query refusal is = is.first

-- ---- what comes of its lineages, by the numbers

missing_no_file : (count : ℕ) (vids name : List ℕ) → missing_version count vids ≡ Some (no.NoFile name) → ⊥
missing_no_file count [] name is = cc
missing_no_file count (vid ∷ vids) name is = by (vid == 0 || nat_lt count vid) is (missing_no_file count vids name)
  where
    by : (off : Bool) → option_or (if off then Some (no.NoVersion vid) else None) (missing_version count vids) ≡ Some (no.NoFile name)
        → (missing_version count vids ≡ Some (no.NoFile name) → ⊥) → ⊥
    by true is later = cc
    by false is later = later is

module _ (n : Numbers Extent Extent) (query : Query) where
  abbrev set_read : Option Set
  set_read = set_in n (name_read query.source)

  pub listed_nowhere : (cvd : List ℕ) → set_read ≡ None → cvd ≡ name_read query.source → IsListedBy set_read query (listed.Refused (no.NoCvd cvd))
  listed_nowhere cvd none same =
      subst (λ (o : Option Set). IsListedBy o query (listed.Refused (no.NoCvd cvd))) (sym none)
      (record { first = ap (λ (x : List ℕ). Some (no.NoCvd x)) (sym same); no_file = λ name is. cc })

  module _ (set : Set) (found : set_read ≡ Some set) (lineage : List (List ℕ)) (known : lineage ≡ (known_in set).parents) where
    count_is : length lineage ≡ length set.versions
    count_is = ap (λ (parents : List (List ℕ)). length parents) known ∙ length-map set.versions (λ v. map (λ edge. edge.0) v.parents)

    missing_is : missing_version (length set.versions) (lineages_of query) ≡ missing_version (length lineage) (lineages_of query)
    missing_is = ap (λ (count : ℕ). missing_version count (lineages_of query)) (sym count_is)

    pub listed_missing : (vid : ℕ) → missing_version (length lineage) (lineages_of query) ≡ Some (no.NoVersion vid) → IsListedBy set_read query (listed.Refused (no.NoVersion vid))
    listed_missing vid is =
        subst (λ (o : Option Set). IsListedBy o query (listed.Refused (no.NoVersion vid))) (sym found)
        (record {
          first = ap (λ (o : Option Refusal). option_or (option_or o (listed_refusal (length set.versions) query.source)) (refusal_in (kinds query set.schema))) (missing_is ∙ is);
          no_file = λ name file. missing_no_file (length lineage) (lineages_of query) name (is ∙ ap Some file);
        })

    pub listed_resolved : (resolved : Query) → missing_version (length lineage) (lineages_of query) ≡ None → IsResolved lineage query resolved → IsListedBy set_read query (listed.Query resolved)
    listed_resolved resolved none says =
        subst (λ (o : Option Set). IsListedBy o query (listed.Query resolved)) (sym found)
        (record { there = missing_is ∙ none; says = subst (λ (parents : List (List ℕ)). IsResolved parents query resolved) known says })

-- ---- what lists say

source_named : (related : Related) (src : Src) → name_read (source_by related src) ≡ name_read src
source_named related (source.Listed vids name) = refl
source_named related (source.Whole name) = refl
source_named related (source.Lineage kind vid name) = refl

source_read : (set : Set) (src : Src) → vids_read (source_by (relatives_by (known_in set).parents) src) (Some set) ≡ vids_read src (Some set)
source_read set (source.Listed vids name) = refl
source_read set (source.Whole name) = refl
source_read set (source.Lineage kind vid name) = refl

source_pairs : (related : Related) (cvd : Cvd) (src : Src) → ((kind : LineageKind) (vid : ℕ) → related kind vid ≡ relatives cvd kind vid)
    → pairs (relatives cvd) cvd (source_by related src) ≡ pairs (relatives cvd) cvd src
source_pairs related cvd (source.Listed vids name) same = refl
source_pairs related cvd (source.Whole name) same = refl
source_pairs related cvd (source.Lineage kind vid name) same = λ i. pairs (relatives cvd) cvd (source.Listed (same kind vid i) name)

module _ (set : Set) (query resolved : Query) (it : IsListed set query resolved) where
  pub name_same : name_read resolved.source ≡ name_read query.source
  name_same = ap name_read it.says.source ∙ source_named (relatives_by (known_in set).parents) query.source

  vids_same : vids_read resolved.source (Some set) ≡ vids_read query.source (Some set)
  vids_same = ap (λ (src : Src). vids_read src (Some set)) it.says.source ∙ source_read set query.source

  long : length (known_in set).parents ≡ length set.versions
  long = length-map set.versions (λ v. map (λ edge. edge.0) v.parents)

  -- each at the number of versions
  resolved_refusal : query_refusal (length set.versions) resolved ≡ listed_refusal (length set.versions) query.source
  resolved_refusal =
      ap (λ (vids : List ℕ). option_or (missing_version (length set.versions) vids) (listed_refusal (length set.versions) resolved.source)) it.says.free
      ∙ subst (λ (n : ℕ). listed_refusal n resolved.source ≡ listed_refusal n query.source) long it.says.same_listed

  query_listed : query_refusal (length set.versions) query ≡ listed_refusal (length set.versions) query.source
  query_listed = ap (λ (o : Option Refusal). option_or o (listed_refusal (length set.versions) query.source)) it.there

  pub refusal_same : query_refusal (length set.versions) resolved ≡ query_refusal (length set.versions) query
  refusal_same = resolved_refusal ∙ sym query_listed

  off_same : set_off resolved (Some set) ≡ set_off query (Some set)
  off_same = λ i. option_or (refusal_same i) (refusal_in (it.says.same_kinds set.schema i))

  module _ (n : Numbers Extent Extent) (found : set_in n (name_read query.source) ≡ Some set) where
    resolved_found : set_in n (name_read resolved.source) ≡ Some set
    resolved_found = ap (set_in n) name_same ∙ found

    -- what is said by what refuses it, its dataset and the versions that it reads
    pub by_resolved : (P : Option Refusal → Option Set → List ℕ → Type 0)
        → P (set_off resolved (set_in n (name_read resolved.source))) (set_in n (name_read resolved.source)) (vids_read resolved.source (set_in n (name_read resolved.source)))
        → P (set_off query (set_in n (name_read query.source))) (set_in n (name_read query.source)) (vids_read query.source (set_in n (name_read query.source)))
    by_resolved P holds =
        subst (λ (o : Option Set). P (set_off query o) o (vids_read query.source o)) (sym found)
        (subst (λ (off : Option Refusal). P off (Some set) (vids_read query.source (Some set))) off_same
        (subst (λ (vids : List ℕ). P (set_off resolved (Some set)) (Some set) vids) vids_same
        (subst (λ (o : Option Set). P (set_off resolved o) o (vids_read resolved.source o)) resolved_found holds)))

pub by_lists : (n : Numbers Extent Extent) (query resolved : Query) → IsListedBy (set_in n (name_read query.source)) query (listed.Query resolved)
    → (P : Option Refusal → Option Set → List ℕ → Type 0)
    → P (set_off resolved (set_in n (name_read resolved.source))) (set_in n (name_read resolved.source)) (vids_read resolved.source (set_in n (name_read resolved.source)))
    → P (set_off query (set_in n (name_read query.source))) (set_in n (name_read query.source)) (vids_read query.source (set_in n (name_read query.source)))
by_lists n query resolved is P holds =
    let there = listed_there (set_in n (name_read query.source)) query resolved is
    in by_resolved there.0 query resolved there.2 n there.1 P holds

pub free_lists : (o : Option Set) (query resolved : Query) → IsListedBy o query (listed.Query resolved) → lineages_of resolved ≡ []
free_lists None query resolved is = absurd is
free_lists (Some set) query resolved is = is.says.free

-- ---- at a World

module _ (w : World) (held : Held) (t : State) (at : IsAtWorld w held t) (s : Session) (set : Set) (query resolved : Query) (it : IsListed set query resolved)
    (found : set_in held.numbers (name_read query.source) ≡ Some set) where
  module _ (d : Dataset) (named : set_named w (name_read query.source) ≡ Some d) where
    related : (kind : LineageKind) (vid : ℕ) → relatives_by (known_in set).parents kind vid ≡ relatives d.cvd kind vid
    related kind vid =
        ap (λ (known : List (List ℕ)). relatives_by known kind vid) (ap (λ known. known.parents) (known_is w held t at (name_read query.source) d named set found))
        ∙ relatives-like d.cvd kind vid

    rows_same : answer_rows resolved d.cvd ≡ answer_rows query d.cvd
    rows_same =
        let all : List Pair = pairs (relatives d.cvd) d.cvd query.source
        in ap (answer resolved d.cvd.schema (relatives d.cvd))
        (ap (pairs (relatives d.cvd) d.cvd) it.says.source ∙ source_pairs (relatives_by (known_in set).parents) d.cvd query.source related)
        ∙ it.says.same_rows d.cvd.schema (relatives d.cvd) all
        ∙ (λ i. answer query d.cvd.schema (λ kind vid. related kind vid i) all)

    answered_same : (of : Result (List Kind) Refusal) → answered s resolved d.cvd of ≡ answered s query d.cvd of
    answered_same (Err refusal) = refl
    answered_same (Ok of) = ap (λ rows. tells s (says.Answer (answer_text of rows) (length rows))) rows_same

    cvd_same : query_by s resolved (Some d.cvd) ≡ query_by s query (Some d.cvd)
    cvd_same =
        let count = (counts w held t at (name_read query.source) d named set found).versions
        in (λ i. unless s (query_refusal (sym count i) resolved) (answered s resolved d.cvd (kinds resolved d.cvd.schema)))
        ∙ (λ i. unless s (refusal_same set query resolved it i) (answered s resolved d.cvd (it.says.same_kinds d.cvd.schema i)))
        ∙ (λ i. unless s (query_refusal (count i) query) (answered_same (kinds query d.cvd.schema) i))

  deed_same : query_by s resolved (cvd_in (set_named w (name_read resolved.source))) ≡ query_by s query (cvd_in (set_named w (name_read query.source)))
  deed_same =
      let there = world_named w held t at (name_read query.source) set found
      in ap (λ (name : List ℕ). query_by s resolved (cvd_in (set_named w name))) (name_same set query resolved it)
      ∙ ap (λ (o : Option Dataset). query_by s resolved (cvd_in o)) there.1
      ∙ cvd_same there.0 there.1
      ∙ ap (λ (o : Option Dataset). query_by s query (cvd_in o)) (sym there.1)

  pub resolved_with : (result : Result Reply StoreErr)
      → IfOk result (λ reply. query_by s resolved (cvd_in (set_named w (name_read resolved.source))) ≡ tells s reply)
      → IfOk result (λ reply. query_by s query (cvd_in (set_named w (name_read query.source))) ≡ tells s reply)
  resolved_with (Ok reply) is = sym deed_same ∙ is
  resolved_with (Err e) is = tt

pub world_lists : (w : World) (held : Held) (t : State) → IsAtWorld w held t → (s : Session) (query resolved : Query)
    → IsListedBy (set_in held.numbers (name_read query.source)) query (listed.Query resolved) → (result : Result Reply StoreErr)
    → IfOk result (λ reply. query_by s resolved (cvd_in (set_named w (name_read resolved.source))) ≡ tells s reply)
    → IfOk result (λ reply. query_by s query (cvd_in (set_named w (name_read query.source))) ≡ tells s reply)
world_lists w held t at s query resolved is result told =
    let there = listed_there (set_in held.numbers (name_read query.source)) query resolved is
    in resolved_with w held t at s there.0 query resolved there.2 there.1 result told
