-- A query on its way to its reply.
--     IsPermittedBy user asked permitted      a query or a join that its user may ask, or a refusal whatever the store has
--     IsListedBy set query listed      the query with lists in place of its lineages, or a refusal: 10, or 12 of a lineage
--     version_refusal off      the refusal of a version that may not be read: 12, 13; of another error there is none
--     IsThere source set      the dataset is there, with the versions that the source lists
--     HasSchema schema set      it is there, and has this schema
use Rattle.std.specs.Prelude.{◌≡◌, ℕ, List, [], ◌∷◌, length, Option, Some, None, Result, Ok, Err}
use Rattle.ov_model.specs.Asking.{lineages_of, listed_refusal, missing_version, name_read}
use Rattle.ov_model.specs.QueryTexts.{Asked, AsksQuery, AsksJoin}
use Rattle.ov_model.specs.Users.{permit_names}
use Rattle.ov_model.specs.declared.query.JoinQuery.{JoinQuery}
use Rattle.ov_model.specs.declared.query.Query.{Query}
use Rattle.ov_model.specs.declared.query.Src.{Src}
use Rattle.ov_model.specs.declared.refusal.Refusal.{Refusal}
use Rattle.ov_model.specs.declared.refusal.Refusal.TheVariants as no
use Rattle.ov_store.specs.declared.errors.StoreErr.{StoreErr}
use Rattle.ov_store.specs.declared.errors.StoreErr.TheVariants as why
use Rattle.ov_value.specs.Shapes.{Shape}
use Rattle.ov_lineage.specs.Resolved.{IsResolved}
use Rattle.ov_query.specs.Queries.{Set, known_in, set_off, text_off}
use Rattle.ov_query.specs.declared.listing.Listed.{Listed}
use Rattle.ov_query.specs.declared.listing.Listed.TheVariants as listed
use Rattle.ov_query.specs.declared.permitting.Permitted.{Permitted}
use Rattle.ov_query.specs.declared.permitting.Permitted.TheVariants as permitted

pub record IsPermittedQuery (user : List ℕ) (asked : Asked) (query : Query) : Type 0 where
  pub is : asked ≡ AsksQuery query
  pub allowed : permit_names user (name_read query.source ∷ []) ≡ None

pub record IsPermittedJoin (user : List ℕ) (asked : Asked) (join : JoinQuery) : Type 0 where
  pub is : asked ≡ AsksJoin join
  pub allowed : permit_names user (join.left.cvd ∷ join.right.cvd ∷ []) ≡ None

abbrev pub IsPermittedBy : List ℕ → Asked → Permitted → Type 0
IsPermittedBy user asked (permitted.Query query) = IsPermittedQuery user asked query
IsPermittedBy user asked (permitted.Join join) = IsPermittedJoin user asked join
IsPermittedBy user asked (permitted.Refused refusal) = text_off user asked ≡ Some refusal

-- the versions of its lineages are there, and lists say the same in their place
pub record IsListed (set : Set) (query resolved : Query) : Type 0 where
  pub there : missing_version (length set.versions) (lineages_of query) ≡ None
  pub says : IsResolved (known_in set).parents query resolved

-- it is none that says that there is no file
pub record IsLineageRefusal (set : Option Set) (query : Query) (refusal : Refusal) : Type 0 where
  pub first : set_off query set ≡ Some refusal
  pub no_file : (name : List ℕ) → refusal ≡ no.NoFile name → ⊥

abbrev pub IsListedBy : Option Set → Query → Listed → Type 0
IsListedBy None query (listed.Query resolved) = ⊥
IsListedBy (Some set) query (listed.Query resolved) = IsListed set query resolved
IsListedBy set query (listed.Refused refusal) = IsLineageRefusal set query refusal

abbrev pub version_refusal : StoreErr → Result Refusal StoreErr
version_refusal (why.NoVersion vid) = Ok (no.NoVersion vid)
version_refusal (why.RepeatedVersion vid) = Ok (no.RepeatedVersion vid)
version_refusal off = Err off

abbrev pub IsThere : Src → Option Set → Type 0
IsThere source None = ⊥
IsThere source (Some set) = listed_refusal (length set.versions) source ≡ None

abbrev pub HasSchema : Shape → Option Set → Type 0
HasSchema schema None = ⊥
HasSchema schema (Some set) = schema ≡ set.schema
