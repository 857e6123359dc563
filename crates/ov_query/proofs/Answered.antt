-- A query that nothing refuses, and its answer.
use Rattle.std.proofs.Common.{◌≡◌, ◌∙◌, ◌==◌, ◌||◌, ℕ, Bool, true, false, List, [], ◌∷◌, Some, None, length, refl, sym, ap, subst}
use Rattle.std.specs.Prelude.{Option, Result, Ok, Err, IfSome, IsOk, OnOk, nat_lt, if◌then◌else◌}
use Rattle.std.proofs.lemmas.Option.{same_Some}
use Rattle.ov_host.specs.Host.{State}
use Rattle.ov_host.specs.declared.area.Extent.{Extent}
use Rattle.ov_catalog.specs.Numbers.{Numbers}
use Rattle.ov_model.specs.Act.{Session, tells, vids_refusal}
use Rattle.ov_model.specs.Answers.{Pair, answer, answer_text, pairs}
use Rattle.ov_model.specs.Asking.{answered, lineages_of, listed_refusal, name_read}
use Rattle.ov_model.specs.Book.{Cvd}
use Rattle.ov_model.specs.Kinds.{kinds}
use Rattle.ov_model.specs.Lineages.{relatives}
use Rattle.ov_model.specs.World.{is_one}
use Rattle.ov_model.specs.declared.query.Query.{Query}
use Rattle.ov_model.specs.declared.query.Src.{Src}
use Rattle.ov_model.specs.declared.query.Src.TheVariants as source
use Rattle.ov_model.specs.declared.refusal.Refusal.{Refusal}
use Rattle.ov_model.specs.declared.refusal.Refusal.TheVariants as no
use Rattle.ov_model.specs.declared.reply.Reply.{Reply}
use Rattle.ov_model.specs.declared.reply.Reply.TheVariants as says
use Rattle.ov_store.specs.Scanning.{IsDamagedIn, set_in}
use Rattle.ov_store.specs.declared.errors.StoreErr.{StoreErr}
use Rattle.ov_value.specs.declared.column.Kind.{Kind}
use Rattle.ov_value.specs.Shapes.{Shape}
use Rattle.ov_query.specs.Answering.{HasSchema}
use Rattle.ov_query.specs.Queries.{IsDamagedRead, IsReplyBy, Set, one_read, set_off}
use Rattle.ov_query.proofs.Numbering.{has_kinds, off_kinds, off_none, off_version}

-- ---- its dataset

pub found_in : (m n : Numbers Extent Extent) (asked name : List ℕ) (o : Option Set) → m ≡ n → asked ≡ name → o ≡ set_in m asked → set_in n name ≡ o
found_in m n asked name o same named is = ap (λ (x : Numbers Extent Extent). set_in x name) (sym same) ∙ ap (set_in m) (sym named) ∙ sym is

-- with this schema
pub schema_there : (schema : Shape) (o : Option Set) → HasSchema schema o → (set : Set) × (o ≡ Some set) × (schema ≡ set.schema)
schema_there schema None is = absurd is
schema_there schema (Some set) is = (set, refl, is)

pub kinds_there : (query : Query) (schema : Shape) (o : Option Set) → lineages_of query ≡ [] → HasSchema schema o → set_off query o ≡ None
    → (of : List Kind) × (kinds query schema ≡ Ok of)
kinds_there query schema None plain is none = absurd is
kinds_there query schema (Some set) plain is none = let it = has_kinds query plain set none in (it.0, ap (kinds query) is ∙ it.1)

-- ---- its answer

pub is_answer : (reply : Reply) (text : List ℕ) (rows : ℕ) → reply ≡ says.Answer text rows → IsReplyBy None reply
is_answer reply text rows is = subst (IsReplyBy None) (sym is) tt

pub answered_so : (s : Session) (query : Query) (cvd : Cvd) (schema : Shape) (of : List Kind) (shown : List Pair) (reply : Reply)
    → kinds query schema ≡ Ok of → schema ≡ cvd.schema → shown ≡ pairs (relatives cvd) cvd query.source
    → reply ≡ says.Answer (answer_text of (answer query schema (relatives cvd) shown)) (length (answer query schema (relatives cvd) shown))
    → answered s query cvd (kinds query cvd.schema) ≡ tells s reply
answered_so s query cvd schema of shown reply fits same are is =
    ap (answered s query cvd) (ap (kinds query) (sym same) ∙ fits)
    ∙ (λ i. tells s (says.Answer (answer_text of (answer query (sym same i) (relatives cvd) (sym are i))) (length (answer query (sym same i) (relatives cvd) (sym are i)))))
    ∙ ap (tells s) (sym is)

-- ---- what is said of it where nothing refuses it

pub by_same : (n : Numbers Extent Extent) (typed query : Query) (P : Query → Option Refusal → Type 0) → typed ≡ query → set_off query (set_in n (name_read query.source)) ≡ None
    → P typed None → P query (set_off query (set_in n (name_read query.source)))
by_same n typed query P same none holds = subst (P query) (sym none) (subst (λ (q : Query). P q None) same holds)

pub allowed_same : (n : Numbers Extent Extent) (typed query : Query) → typed ≡ query → set_off query (set_in n (name_read query.source)) ≡ None
    → set_off typed (set_in n (name_read typed.source)) ≡ None
allowed_same n typed query same none = subst (λ (q : Query). set_off q (set_in n (name_read q.source)) ≡ None) (sym same) none

pub whole_read : {A : Type 0} → (result : Result A StoreErr) (set : Option Set) (vids : List ℕ) (old : State) (page : ℕ)
    → OnOk result (IsDamagedIn set vids old page → ⊥) → OnOk result (IsDamagedRead None (one_read set vids) old page → ⊥)
whole_read (Ok a) set vids old page whole = λ met. whole met.1
whole_read (Err e) set vids old page whole = tt

pub never_off : (P : Type 0) (o : Option Refusal) (refusal : Refusal) → o ≡ None → o ≡ Some refusal → P
never_off P o refusal none is = absurd cc

-- ---- a refusal of its versions or its kinds

pub refused_by : (off : Option Refusal) (refusal : Refusal) → off ≡ Some refusal → IsReplyBy off (says.Refused refusal)
refused_by off refusal is = subst (λ (o : Option Refusal). IsReplyBy o (says.Refused refusal)) (sym is) refl

pub if_some : (P : Refusal → Type 0) (o : Option Refusal) (refusal : Refusal) → o ≡ Some refusal → IfSome o P → P refusal
if_some P (Some other) refusal is holds = subst P (same_Some other refusal is) holds
if_some P None refusal is holds = absurd cc

not_some : (o : Option Refusal) → ((x : Refusal) → o ≡ Some x → ⊥) → o ≡ None
not_some None never = refl
not_some (Some x) never = absurd (never x refl)

vids_not_70 : (count : ℕ) (before vids name : List ℕ) → vids_refusal count before vids ≡ Some (no.NoFile name) → ⊥
vids_not_70 count before [] name is = cc
vids_not_70 count before (vid ∷ vids) name is = by (vid == 0 || nat_lt count vid) (is_one before vid) is (vids_not_70 count (vid ∷ before) vids name)
  where
    by : (off again : Bool) → (if off then Some (no.NoVersion vid) else if again then Some (no.RepeatedVersion vid) else vids_refusal count (vid ∷ before) vids) ≡ Some (no.NoFile name)
        → (vids_refusal count (vid ∷ before) vids ≡ Some (no.NoFile name) → ⊥) → ⊥
    by true again is later = cc
    by false true is later = cc
    by false false is later = later is

pub listed_not_70 : (count : ℕ) (src : Src) (name : List ℕ) → listed_refusal count src ≡ Some (no.NoFile name) → ⊥
listed_not_70 count (source.Listed vids cvd) name is = vids_not_70 count [] vids name is
listed_not_70 count (source.Whole cvd) name is = cc
listed_not_70 count (source.Lineage kind vid cvd) name is = cc

-- by the numbers of the dataset as it was found, and what its versions were refused for
module _ (m n : Numbers Extent Extent) (asked : List ℕ) (query : Query) (set : Set) (versions : Option Refusal) (plain : lineages_of query ≡ [])
    (same : m ≡ n) (named : asked ≡ name_read query.source) (is : Some set ≡ set_in m asked)
    (listed : (s : Set) → set_in n (name_read query.source) ≡ Some s → versions ≡ listed_refusal (length s.versions) query.source) where
  found : set_in n (name_read query.source) ≡ Some set
  found = found_in m n asked (name_read query.source) (Some set) same named is

  at : (off : Option Refusal) → set_off query (Some set) ≡ off → set_off query (set_in n (name_read query.source)) ≡ off
  at off it = ap (set_off query) found ∙ it

  pub refuses_version : (refusal : Refusal) → versions ≡ Some refusal → set_off query (set_in n (name_read query.source)) ≡ Some refusal
  refuses_version refusal it = at (Some refusal) (off_version query plain set refusal (sym (listed set found) ∙ it))

  pub version_not_70 : (refusal : Refusal) → versions ≡ Some refusal → (name : List ℕ) → refusal ≡ no.NoFile name → ⊥
  version_not_70 refusal it name file = listed_not_70 (length set.versions) query.source name (sym (listed set found) ∙ it ∙ ap Some file)

  none_listed : ((x : Refusal) → versions ≡ Some x → ⊥) → listed_refusal (length set.versions) query.source ≡ None
  none_listed never = sym (listed set found) ∙ not_some versions never

  pub refuses_kinds : (refusal : Refusal) → ((x : Refusal) → versions ≡ Some x → ⊥) → kinds query set.schema ≡ Err refusal
      → set_off query (set_in n (name_read query.source)) ≡ Some refusal
  refuses_kinds refusal never it = at (Some refusal) (off_kinds query plain set refusal (none_listed never) it)

  pub refuses_nothing : ((x : Refusal) → versions ≡ Some x → ⊥) → IsOk (kinds query set.schema) → set_off query (set_in n (name_read query.source)) ≡ None
  refuses_nothing never fits = at None (off_none query plain set (none_listed never) fits)
