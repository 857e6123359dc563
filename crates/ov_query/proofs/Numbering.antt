-- What a dataset's numbers refuse of a query is what the World refuses.
use Rattle.std.proofs.Common.{◌≡◌, ◌∙◌, ℕ, List, [], ◌∷◌, ◌++◌, Some, None, length, refl, sym, ap}
use Rattle.std.specs.Prelude.{Option, Result, Ok, Err, IfOk, IsOk}
use Rattle.std.specs.Option.{option_or}
use Rattle.std.proofs.lemmas.Option.{same_Some}
use Rattle.ov_host.specs.Host.{State}
use Rattle.ov_core.specs.AtWorld.{IsAtWorld}
use Rattle.ov_core.specs.Held.{Held}
use Rattle.ov_model.specs.Act.{Deed, Session, refuses, tells, unless}
use Rattle.ov_model.specs.Asking.{answered, guard_lineages, lineages_of, listed_refusal, missing_version, name_read, query_by, query_refusal, source_lineages}
use Rattle.ov_model.specs.Book.{Cvd}
use Rattle.ov_model.specs.Kinds.{kinds}
use Rattle.ov_model.specs.World.{Dataset, World, cvd_in, set_named}
use Rattle.ov_model.specs.declared.query.Query.{Query}
use Rattle.ov_model.specs.declared.refusal.Refusal.{Refusal}
use Rattle.ov_model.specs.declared.refusal.Refusal.TheVariants as no
use Rattle.ov_model.specs.declared.reply.Reply.{Reply}
use Rattle.ov_store.specs.Scanning.{set_in}
use Rattle.ov_store.specs.declared.errors.StoreErr.{StoreErr}
use Rattle.ov_store.proofs.Deciding.{counts, none_named, world_named}
use Rattle.ov_value.specs.declared.column.Kind.{Kind}
use Rattle.ov_query.specs.Queries.{Set, refusal_in, set_off}

-- ---- a query that names no lineage

left_nil : (xs ys : List ℕ) → xs ++ ys ≡ [] → xs ≡ []
left_nil [] ys e = refl
left_nil (x ∷ xs) ys e = absurd cc

right_nil : (xs ys : List ℕ) → xs ++ ys ≡ [] → ys ≡ []
right_nil [] ys e = e
right_nil (x ∷ xs) ys e = absurd cc

pub plain_source : (query : Query) → lineages_of query ≡ [] → source_lineages query.source ≡ []
plain_source query plain = left_nil (source_lineages query.source) _ plain

pub plain_filter : (query : Query) → lineages_of query ≡ [] → guard_lineages query.filter ≡ []
plain_filter query plain = left_nil (guard_lineages query.filter) _ (right_nil (source_lineages query.source) _ plain)

pub plain_having : (query : Query) → lineages_of query ≡ [] → guard_lineages query.having ≡ []
plain_having query plain = right_nil (guard_lineages query.filter) _ (right_nil (source_lineages query.source) _ plain)

module _ (query : Query) (plain : lineages_of query ≡ []) (set : Set) where
  set_is : set_off query (Some set) ≡ option_or (listed_refusal (length set.versions) query.source) (refusal_in (kinds query set.schema))
  set_is = ap (λ (vids : List ℕ). option_or (option_or (missing_version (length set.versions) vids) (listed_refusal (length set.versions) query.source)) (refusal_in (kinds query set.schema))) plain

  -- refused for a version that it lists
  pub off_version : (refusal : Refusal) → listed_refusal (length set.versions) query.source ≡ Some refusal → set_off query (Some set) ≡ Some refusal
  off_version refusal is = set_is ∙ ap (λ (o : Option Refusal). option_or o (refusal_in (kinds query set.schema))) is

  off_listed : listed_refusal (length set.versions) query.source ≡ None → set_off query (Some set) ≡ refusal_in (kinds query set.schema)
  off_listed none = set_is ∙ ap (λ (o : Option Refusal). option_or o (refusal_in (kinds query set.schema))) none

  -- refused by its kinds
  pub off_kinds : (refusal : Refusal) → listed_refusal (length set.versions) query.source ≡ None → kinds query set.schema ≡ Err refusal → set_off query (Some set) ≡ Some refusal
  off_kinds refusal none is = off_listed none ∙ ap refusal_in is

  -- not refused
  pub off_none : listed_refusal (length set.versions) query.source ≡ None → IsOk (kinds query set.schema) → set_off query (Some set) ≡ None
  off_none none fits = off_listed none ∙ by (kinds query set.schema) fits
    where
      by : (r : Result (List Kind) Refusal) → IsOk r → refusal_in r ≡ None
      by (Ok of) fits = refl
      by (Err refusal) fits = absurd cc

  -- what isn't refused: its versions are there, and it has kinds
  left_none : (a b : Option Refusal) → option_or a b ≡ None → a ≡ None
  left_none None b e = refl
  left_none (Some r) b e = absurd cc

  right_none : (a b : Option Refusal) → option_or a b ≡ None → b ≡ None
  right_none None b e = e
  right_none (Some r) b e = absurd cc

  pub there_listed : set_off query (Some set) ≡ None → listed_refusal (length set.versions) query.source ≡ None
  there_listed none = left_none _ (refusal_in (kinds query set.schema)) (sym set_is ∙ none)

  pub has_kinds : set_off query (Some set) ≡ None → (of : List Kind) × (kinds query set.schema ≡ Ok of)
  has_kinds none = by (kinds query set.schema) refl (right_none (listed_refusal (length set.versions) query.source) _ (sym set_is ∙ none))
    where
      by : (r : Result (List Kind) Refusal) → kinds query set.schema ≡ r → refusal_in r ≡ None → (of : List Kind) × (kinds query set.schema ≡ Ok of)
      by (Ok of) is none = (of, is)
      by (Err refusal) is none = absurd cc

-- ---- where the store is at a World

module _ (w : World) (held : Held) (t : State) (at : IsAtWorld w held t) (s : Session) (query : Query) where
  abbrev deed : Deed
  deed = query_by s query (cvd_in (set_named w (name_read query.source)))

  -- by the dataset's numbers
  of_set : (set : Set) (d : Dataset) → set_in held.numbers (name_read query.source) ≡ Some set → set_named w (name_read query.source) ≡ Some d
      → deed ≡ unless s (query_refusal (length set.versions) query) (answered s query d.cvd (kinds query set.schema))
  of_set set d found named =
      let it = counts w held t at (name_read query.source) d named set found
      in ap (λ (o : Option Dataset). query_by s query (cvd_in o)) named
      ∙ (λ i. unless s (query_refusal (sym it.versions i) query) (answered s query d.cvd (kinds query (sym it.schema i))))

  refused_by : (refusal : Refusal) (cvd : Cvd) (o : Option Refusal) (r : Result (List Kind) Refusal) → option_or o (refusal_in r) ≡ Some refusal
      → unless s o (answered s query cvd r) ≡ refuses s refusal
  refused_by refusal cvd None (Ok of) is = absurd cc
  refused_by refusal cvd None (Err other) is = ap (refuses s) (same_Some other refusal is)
  refused_by refusal cvd (Some other) r is = ap (refuses s) (same_Some other refusal is)

  -- what the numbers refuse is refused
  pub refuses_so : (refusal : Refusal) → set_off query (set_in held.numbers (name_read query.source)) ≡ Some refusal → deed ≡ refuses s refusal
  refuses_so refusal is = by (set_in held.numbers (name_read query.source)) refl is
    where
      by : (o : Option Set) → set_in held.numbers (name_read query.source) ≡ o → set_off query o ≡ Some refusal → deed ≡ refuses s refusal
      by None none is =
          ap (λ (o : Option Dataset). query_by s query (cvd_in o)) (none_named w held t at (name_read query.source) none)
          ∙ ap (refuses s) (same_Some (no.NoCvd (name_read query.source)) refusal is)
      by (Some set) found is =
          let d = world_named w held t at (name_read query.source) set found
          in of_set set d.0 found d.1 ∙ refused_by refusal d.0.cvd (query_refusal (length set.versions) query) (kinds query set.schema) is

  pub missing_so : (cvd : List ℕ) → cvd ≡ name_read query.source → set_in held.numbers (name_read query.source) ≡ None → deed ≡ refuses s (no.NoCvd cvd)
  missing_so cvd named none =
      ap (λ (o : Option Dataset). query_by s query (cvd_in o)) (none_named w held t at (name_read query.source) none)
      ∙ ap (λ (name : List ℕ). refuses s (no.NoCvd name)) (sym named)

  -- what they allow is answered
  pub answers_so : (d : Dataset) → set_off query (set_in held.numbers (name_read query.source)) ≡ None → set_named w (name_read query.source) ≡ Some d
      → deed ≡ answered s query d.cvd (kinds query d.cvd.schema)
  answers_so d none named = by (set_in held.numbers (name_read query.source)) refl none
    where
      allowed : (o rest : Option Refusal) (next : Deed) → option_or o rest ≡ None → unless s o next ≡ next
      allowed None rest next e = refl
      allowed (Some r) rest next e = absurd cc

      by : (o : Option Set) → set_in held.numbers (name_read query.source) ≡ o → set_off query o ≡ None → deed ≡ answered s query d.cvd (kinds query d.cvd.schema)
      by None missing is = absurd cc
      by (Some set) found is =
          of_set set d found named
          ∙ allowed (query_refusal (length set.versions) query) (refusal_in (kinds query set.schema)) _ is
          ∙ ap (λ schema. answered s query d.cvd (kinds query schema)) (counts w held t at (name_read query.source) d named set found).schema

  -- the dataset that they allow is there
  pub named_so : set_off query (set_in held.numbers (name_read query.source)) ≡ None → (d : Dataset) × (set_named w (name_read query.source) ≡ Some d)
  named_so none = by (set_in held.numbers (name_read query.source)) refl none
    where
      by : (o : Option Set) → set_in held.numbers (name_read query.source) ≡ o → set_off query o ≡ None → (d : Dataset) × (set_named w (name_read query.source) ≡ Some d)
      by None missing is = absurd cc
      by (Some set) found is = world_named w held t at (name_read query.source) set found

  pub answered_with : (result : Result Reply StoreErr) (d : Dataset) → set_off query (set_in held.numbers (name_read query.source)) ≡ None
      → set_named w (name_read query.source) ≡ Some d → IfOk result (λ reply. answered s query d.cvd (kinds query d.cvd.schema) ≡ tells s reply)
      → IfOk result (λ reply. deed ≡ tells s reply)
  answered_with (Ok reply) d none named is = answers_so d none named ∙ is
  answered_with (Err e) d none named is = tt
