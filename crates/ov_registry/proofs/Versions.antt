-- The rows of a last version, out of a scan.
use Rattle.std.proofs.Common.{◌≡◌, ◌∙◌, ◌≤◌, ◌==◌, ℕ, true, false, List, [], ◌∷◌, length, map, get_or, inl, sym, ap, subst, arith}
use Rattle.std.specs.Prelude.{◌||◌, nat_lt, if◌then◌else◌, Some, None, Option, Ok, Err, Result, IfErr, MatchResult, IsErr}
use Rattle.std.specs.List.{All, AllZip}
use Rattle.std.specs.Result.{IsErrAnd}
use Rattle.std.proofs.lemmas.Bool.{le-ltb, ne_eqb, not-false, true≢false}
use Rattle.ov_host.specs.Host.{State}
use Rattle.ov_host.specs.declared.area.Extent.{Extent}
use Rattle.ov_catalog.specs.Numbers.{Numbers}
use Rattle.ov_core.specs.AtWorld.{IsAtWorld}
use Rattle.ov_core.specs.Held.{Held}
use Rattle.ov_fetch.specs.Extents.{page_bytes}
use Rattle.ov_model.specs.Book.{Row}
use Rattle.ov_model.specs.Lists.{Rises}
use Rattle.ov_model.specs.Records.{rows_at}
use Rattle.ov_model.specs.Registry.{is_same_schema}
use Rattle.ov_model.specs.World.{Dataset, World, set_named}
use Rattle.ov_read.specs.Damages.{IsDamage}
use Rattle.ov_store.specs.Committing.{Set}
use Rattle.ov_store.specs.Refusals.{vids_off}
use Rattle.ov_store.specs.Scanning.{IsDamagedIn, IsUnscanned, scan_off, set_in, versions_off}
use Rattle.ov_store.specs.declared.errors.StoreErr.{StoreErr}
use Rattle.ov_store.specs.declared.errors.StoreErr.TheVariants as why
use Rattle.ov_store.proofs.Deciding.{counts}
use Rattle.ov_store.proofs.Seeing.{found_set}
use Rattle.law_reads.proofs.Parted.{facts}
use Rattle.law_reads.proofs.Rowed.{rise_at}
use Rattle.ov_value.specs.Rows.{key_cmp}
use Rattle.ov_value.specs.Shapes.{Shape}
use Rattle.law_users.proofs.Schemas.{schema_same}
use Rattle.ov_registry.specs.Last.{IsUnread, is_foreign_in}

-- ---- one version of a scan

pub one_pick : (f : List ℕ → List Row) (picks : List (List ℕ)) (x : List Row) (p : List ℕ) → map f picks ≡ x ∷ [] → p ≡ get_or picks 0 p → f p ≡ x
one_pick f [] x p e is = absurd cc
one_pick f (q ∷ qs) x p e is = ap f is ∙ ap (λ (l : List (List Row)). get_or l 0 []) e

pub one_beside : (R : ℕ → List ℕ → Type 0) (vid : ℕ) (picks : List (List ℕ)) (p : List ℕ) → AllZip R (vid ∷ []) picks → p ≡ get_or picks 0 p → R vid p
one_beside R vid [] p all is = absurd all
one_beside R vid (q ∷ qs) p all is = subst (R vid) (sym is) all.0

pub one_of : (R : ℕ → List ℕ → Type 0) (P : List ℕ → Type 0) (vid : ℕ) (picks : List (List ℕ)) (p : List ℕ) → AllZip R (vid ∷ []) picks → All P picks → p ≡ get_or picks 0 p → P p
one_of R P vid [] p all each is = absurd all
one_of R P vid (q ∷ qs) p all each is = subst P (sym is) (each 0 p (omega arith))

pub whole_in : (o : Option Set) (set : Set) (vids : List ℕ) (old : State) (page : ℕ) → o ≡ Some set → old.tells ≡ true
    → ((page : ℕ) → IsDamage (page_bytes old) set vids page → ⊥) → IsDamagedIn o vids old page → ⊥
whole_in o set vids old page is told whole damaged = whole page (subst (λ (x : Option Set). IsDamagedIn x vids old page) is damaged told)

-- ---- the last one

one_passes : (count vid : ℕ) → 1 ≤ vid → vid ≤ count → vids_off count [] (vid ∷ []) ≡ None
one_passes count vid some most =
    let some_ : (vid == 0) ≡ false = ne_eqb vid 0 (λ e. omega (arith, e, some))
    in let there : nat_lt count vid ≡ false = le-ltb count vid most
    in ap (λ b. if b || nat_lt count vid then Some (why.NoVersion vid) else None) some_ ∙ ap (λ b. if b then Some (why.NoVersion vid) else None) there

pub last_passes : (n : Numbers Extent Extent) (name : List ℕ) (set : Set) → set_in n name ≡ Some set → 1 ≤ length set.versions
    → scan_off n name (length set.versions ∷ []) ≡ None
last_passes n name set named some =
    ap (λ o. versions_off o (length set.versions ∷ [])) named ∙ one_passes (length set.versions) (length set.versions) some (omega arith)

pub unscanned_unread : (off : Option StoreErr) (set : Set) (old new : State) (e : StoreErr) → off ≡ None → IsUnscanned off (Some set) (length set.versions ∷ []) old new e
    → IsUnread (Some set) old new e
unscanned_unread off set old new why.Host passes is = is
unscanned_unread off set old new why.Memory passes is = tt
unscanned_unread off set old new (why.Damaged area at) passes is = (is.0, inl is.2)
unscanned_unread off set old new (why.Full pages) passes is = let clash = sym passes ∙ is.0 in cc
unscanned_unread off set old new why.JournalFull passes is = let clash = sym passes ∙ is.0 in cc
unscanned_unread off set old new why.NoCvd passes is = let clash = sym passes ∙ is.0 in cc
unscanned_unread off set old new why.CvdExists passes is = let clash = sym passes ∙ is.0 in cc
unscanned_unread off set old new (why.NoVersion vid) passes is = let clash = sym passes ∙ is.0 in cc
unscanned_unread off set old new (why.RepeatedVersion vid) passes is = let clash = sym passes ∙ is.0 in cc
unscanned_unread off set old new (why.DuplicateKey row) passes is = let clash = sym passes ∙ is.0 in cc
unscanned_unread off set old new why.TooManyVersions passes is = let clash = sym passes ∙ is.0 in cc
unscanned_unread off set old new why.TooManyRecords passes is = let clash = sym passes ∙ is.0 in cc
unscanned_unread off set old new why.TooManyRows passes is = let clash = sym passes ∙ is.0 in cc
unscanned_unread off set old new why.TooManyCvds passes is = let clash = sym passes ∙ is.0 in cc
unscanned_unread off set old new why.NoNumbers passes is = let clash = sym passes ∙ is.0 in cc
unscanned_unread off set old new (why.FormatOne row) passes is = let clash = sym passes ∙ is.0 in cc

-- ---- at a World

-- the rows of each version rise
pub world_rises : (w : World) (held : Held) (s : State) → IsAtWorld w held s → (name : List ℕ) (d : Dataset) → set_named w name ≡ Some d → (set : Set) → set_in held.numbers name ≡ Some set
    → (vid : ℕ) → Rises (key_cmp set.schema) (rows_at d.cvd.versions vid)
world_rises w held s at name d is set found vid =
    subst (λ (schema : Shape). Rises (key_cmp schema) (rows_at d.cvd.versions vid)) (sym (counts w held s at name d is set found).schema)
    (rise_at d.cvd.schema d.cvd.versions vid (facts w (page_bytes s) set d (found_set w held s at name set d found is)).rowed.rows)

pub count_is : (w : World) (held : Held) (s : State) → IsAtWorld w held s → (name : List ℕ) (d : Dataset) → set_named w name ≡ Some d → (set : Set) → set_in held.numbers name ≡ Some set
    → length set.versions ≡ length d.cvd.versions
count_is w held s at name d is set found = (counts w held s at name d is set found).versions

-- a dataset that isn't foreign has the schema
pub own_schema : (schema : Shape) (o : Option Set) (set : Set) → o ≡ Some set → is_foreign_in schema o ≡ false → set.schema ≡ schema
own_schema schema o set is own = schema_same set.schema schema (not-false (is_same_schema set.schema schema) (subst (λ (x : Option Set). is_foreign_in schema x ≡ false) is own))

-- ---- results

-- what leaves by a `?`
pub match_err : {A E : Type 0} (P : A → Type 0) (Q : E → Type 0) (r : Result A E) (e : E) → IsErr r × IsErrAnd r (λ x. x ≡ e) → Q e → MatchResult r P Q
match_err P Q (Ok x) e h q = absurd (true≢false (sym h.0))
match_err P Q (Err x) e h q = subst Q (sym h.1) q

pub if_err : {A E : Type 0} (Q : E → Type 0) (r : Result A E) (e : E) → IsErr r × IsErrAnd r (λ x. x ≡ e) → Q e → IfErr r Q
if_err Q (Ok x) e h q = tt
if_err Q (Err x) e h q = subst Q (sym h.1) q
