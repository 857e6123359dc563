-- The commands that read, as what they mean over a World.
use Rattle.std.proofs.Common.{◌≡◌, ℕ, List, [], ◌∷◌, Bool, true, false, cond, length, refl, sym, ◌∙◌, ap}
use Rattle.std.specs.Prelude.{IfOk, Option, Some, None, Result, Ok, Err, if◌then◌else◌, map, option_map}
use Rattle.std.specs.FinMap.{get, get-insert, insert}
use Rattle.std.specs.Str.{bytes_eq}
use Rattle.std.proofs.Math.Path.{fun_ext}
use Rattle.std.proofs.lemmas.Option.{same_Some}
use Rattle.std.proofs.lemmas.Slice.Eq.{bytes_eq-Decides}
use Rattle.std.proofs.lemmas.Cmp.{nat_list_cmp_total}
use Rattle.std.proofs.lemmas.Map.Text.{is_eq-slice_cmp}
use Rattle.ov_host.specs.Host.{State}
use Rattle.ov_host.specs.Stage.{Files as Map}
use Rattle.ov_host.specs.declared.area.Extent.{Extent}
use Rattle.ov_catalog.specs.Numbers.{SetNumbers}
use Rattle.ov_checkout.specs.Given.{Given}
use Rattle.ov_core.specs.AtWorld.{IsAtWorld}
use Rattle.ov_core.specs.Held.{Held}
use Rattle.law_runs.specs.Serving.{Breaks, Does, files_of, session_of}
use Rattle.law_runs.proofs.Doing.{breaks_looked, does_told}
use Rattle.ov_fetch.specs.Extents.{Looked}
use Rattle.law_image.specs.Pages.{readings_of}
use Rattle.ov_model.specs.Act.{Deed, Session, checkout_deed, gives, layout_deed, log_deed, ls_line, merge_of, put, refuses, rows_listed, tells, unless, vids_refusal}
use Rattle.ov_model.specs.Book.{Row}
use Rattle.ov_model.specs.Csv.{text_of}
use Rattle.ov_model.specs.Merge.{merged}
use Rattle.ov_model.specs.World.{Dataset, World, first_set, named, set_named}
use Rattle.ov_model.specs.declared.refusal.Refusal.{Refusal}
use Rattle.ov_model.specs.declared.refusal.Refusal.TheVariants as no
use Rattle.ov_model.specs.declared.reply.Reply.{Reply}
use Rattle.ov_model.specs.declared.reply.Reply.TheVariants as says
use Rattle.ov_session.specs.Commands.{Acts, IfNoFile, IsMergeOf}
use Rattle.ov_session.specs.Errors.{reply_of}
use Rattle.ov_session.specs.declared.errors.EndErr.{EndErr}
use Rattle.ov_session.proofs.Calls.{acts_by}
use Rattle.ov_listing.specs.Listed.{shown_cvds, shown_layout, shown_log}
use Rattle.ov_listing.proofs.Showing.{cvds_shown, log_shown}
use Rattle.ov_listing.proofs.ShowingLayout.{layout_shown}
use Rattle.ov_store.specs.Refusals.{refusal_of, refused, vids_off}
use Rattle.ov_store.specs.Scanning.{IsUnscanned, scan_off, set_in, versions_off}
use Rattle.ov_store.specs.declared.errors.StoreErr.{StoreErr}
use Rattle.ov_store.specs.declared.errors.StoreErr.TheVariants as why
use Rattle.ov_store.proofs.Deciding.{counts, none_named, world_named}
use Rattle.ov_store.proofs.Fitting.{sees}
use Rattle.ov_store.proofs.Refusing.{vids_refused}
use Rattle.ov_value.specs.Shapes.{Shape}

-- ---- a merge

-- the schema that the catalog has of a dataset is the World's
pub schema_is : (w : World) (held : Held) (s : State) → IsAtWorld w held s → (name : List ℕ) (d : Dataset) → set_named w name ≡ Some d
    → (set : SetNumbers Extent Extent) → set_in held.numbers name ≡ Some set → set.schema ≡ d.cvd.schema
schema_is w held s at name d is set found = (counts w held s at name d is set found).schema

-- the text of the World's rows under its schema is that of the merge
pub is_merge_of : (d : Dataset) (vids : List ℕ) (made : Given) (schema : Shape) (rows : List (List Row)) → schema ≡ d.cvd.schema → rows ≡ rows_listed d.cvd.versions vids
    → made.text ≡ text_of schema (merged schema rows) → made.rows ≡ length (merged schema rows) → IsMergeOf d vids made
is_merge_of d vids made schema rows same listed text count = record {
  text = text ∙ (λ i. text_of (same i) (merged (same i) (listed i)));
  rows = count ∙ (λ i. length (merged (same i) (listed i)));
}

-- ---- a file that is put

-- in the map of the stage as in the definitions
pub files_put : (files : Map) (name bytes : List ℕ) → files_of (insert files name bytes) ≡ put (files_of files) name bytes
files_put files name bytes =
    fun_ext (λ other. get-insert nat_list_cmp_total files name bytes other ∙ ap (λ (b : Bool). cond b (Some bytes) (get files other)) (is_eq-slice_cmp other name))

module _ (d : Dataset) (vids : List ℕ) (made : Given) (is : IsMergeOf d vids made) (user : List ℕ) where
  pub gives_file : (files now : Map) (cvd file : List ℕ) (rows : ℕ) → d.cvd.name ≡ cvd → made.rows ≡ rows → now ≡ insert files file made.text
      → gives (session_of files user) d.cvd (merge_of d.cvd vids) (Some file) ≡ tells (session_of now user) (says.ToFile cvd rows file)
  gives_file files now cvd file rows name count grown = λ i. tells (record { files = same i; user = user }) (says.ToFile (name i) (many i) file)
    where
      same : put (files_of files) file (text_of d.cvd.schema (merge_of d.cvd vids)) ≡ files_of now
      same =
          ap (λ bytes. put (files_of files) file bytes) (sym is.text)
          ∙ sym (files_put files file made.text)
          ∙ ap files_of (sym grown)

      many : length (merge_of d.cvd vids) ≡ rows
      many = sym is.rows ∙ count

-- ---- a dataset of a name

same_text : (xs ys : List ℕ) → bytes_eq xs ys ≡ true → xs ≡ ys
same_text xs ys e = (bytes_eq-Decides xs ys).0 e

first_named : (name : List ℕ) (sets : List Dataset) (d : Dataset) → first_set (named name) sets ≡ Some d → d.cvd.name ≡ name
first_named name [] d e = absurd cc
first_named name (x ∷ sets) d e = by (bytes_eq x.cvd.name name) refl e (λ later. first_named name sets d later)
  where
    by : (b : Bool) → bytes_eq x.cvd.name name ≡ b → (if b then Some x else first_set (named name) sets) ≡ Some d
        → (first_set (named name) sets ≡ Some d → d.cvd.name ≡ name) → d.cvd.name ≡ name
    by true is found later = let same : x ≡ d = same_Some x d found in ap (λ (y : Dataset). y.cvd.name) (sym same) ∙ same_text x.cvd.name name is
    by false is found later = later found

pub named_is : (w : World) (name : List ℕ) (d : Dataset) → set_named w name ≡ Some d → d.cvd.name ≡ name
named_is w name d e = first_named name w.sets d e

-- ---- a checkout, where the store is at a World

-- where the reply is a refusal, it is of the numbers, and the host wasn't called
pub unscanned_off : (name vids : List ℕ) (off : Option StoreErr) (set : Option (SetNumbers Extent Extent)) (old new : State) (e : StoreErr) (r : Reply)
    → IsUnscanned off set vids old new e → reply_of name e ≡ Some r → (off ≡ Some e) × (new ≡ old)
unscanned_off name vids off set old new why.Host r is said = absurd cc
unscanned_off name vids off set old new why.Memory r is said = absurd cc
unscanned_off name vids off set old new (why.Damaged area at) r is said = absurd cc
unscanned_off name vids off set old new (why.Full pages) r is said = is
unscanned_off name vids off set old new why.JournalFull r is said = is
unscanned_off name vids off set old new why.NoCvd r is said = is
unscanned_off name vids off set old new why.CvdExists r is said = is
unscanned_off name vids off set old new (why.NoVersion vid) r is said = is
unscanned_off name vids off set old new (why.RepeatedVersion vid) r is said = is
unscanned_off name vids off set old new (why.DuplicateKey row) r is said = is
unscanned_off name vids off set old new why.TooManyVersions r is said = is
unscanned_off name vids off set old new why.TooManyRecords r is said = is
unscanned_off name vids off set old new why.TooManyRows r is said = is
unscanned_off name vids off set old new why.TooManyCvds r is said = is
unscanned_off name vids off set old new why.NoNumbers r is said = is
unscanned_off name vids off set old new (why.FormatOne row) r is said = is

reply_is : (o : Option Refusal) (r : Reply) → option_map says.Refused o ≡ Some r → (refusal : Refusal) × (o ≡ Some refusal) × (r ≡ says.Refused refusal)
reply_is None r e = absurd cc
reply_is (Some refusal) r e = (refusal, refl, cc)

module _ (w : World) (held : Held) (old new : State) (at : IsAtWorld w held old) (looked : Looked old new)
    (s : Session) (vids : List ℕ) (file : Option (List ℕ)) (name : List ℕ) where
  abbrev asked_for : Deed
  asked_for = checkout_deed s vids file name (set_named w name)

  -- the World's dataset, whose versions are refused as the numbers' are
  module _ (set : SetNumbers Extent Extent) (found : set_in held.numbers name ≡ Some set) where
    of_world : (d : Dataset) × (set_named w name ≡ Some d)
    of_world = world_named w held old at name set found

    same_refusal : refused name (vids_off (length set.versions) [] vids) ≡ vids_refusal (length of_world.0.cvd.versions) [] vids
    same_refusal =
        vids_refused name (length set.versions) [] vids
        ∙ ap (λ n. vids_refusal n [] vids) (counts w held old at name of_world.0 of_world.1 set found).versions

    by_versions : asked_for ≡ unless s (refused name (vids_off (length set.versions) [] vids)) (gives s of_world.0.cvd (merge_of of_world.0.cvd vids) file)
    by_versions =
        ap (checkout_deed s vids file name) of_world.1
        ∙ ap (λ o. unless s o (gives s of_world.0.cvd (merge_of of_world.0.cvd vids) file)) (sym same_refusal)

  -- what the numbers refuse is refused
  refuses_so : (refusal : Refusal) → refused name (scan_off held.numbers name vids) ≡ Some refusal → asked_for ≡ refuses s refusal
  refuses_so refusal off = by (set_in held.numbers name) refl off
    where
      by : (o : Option (SetNumbers Extent Extent)) → set_in held.numbers name ≡ o → refused name (versions_off o vids) ≡ Some refusal → asked_for ≡ refuses s refusal
      by None none is =
          let same : no.NoCvd name ≡ refusal = same_Some (no.NoCvd name) refusal is
          in ap (checkout_deed s vids file name) (none_named w held old at name none) ∙ ap (refuses s) same
      by (Some set) found is = by_versions set found ∙ ap (λ o. unless s o (gives s (of_world set found).0.cvd (merge_of (of_world set found).0.cvd vids) file)) is

  -- what they allow is done
  allows : scan_off held.numbers name vids ≡ None → (d : Dataset) × (set_named w name ≡ Some d) × (asked_for ≡ gives s d.cvd (merge_of d.cvd vids) file)
  allows none = by (set_in held.numbers name) refl none
    where
      by : (o : Option (SetNumbers Extent Extent)) → set_in held.numbers name ≡ o → versions_off o vids ≡ None
          → (d : Dataset) × (set_named w name ≡ Some d) × (asked_for ≡ gives s d.cvd (merge_of d.cvd vids) file)
      by None missing is = absurd cc
      by (Some set) found is = (
        (of_world set found).0,
        (of_world set found).1,
        by_versions set found ∙ ap (λ o. unless s (refused name o) (gives s (of_world set found).0.cvd (merge_of (of_world set found).0.cvd vids) file)) is,
      )

  pub checkout_done : (t : Session) (r : Reply) → scan_off held.numbers name vids ≡ None
      → ((d : Dataset) → set_named w name ≡ Some d → gives s d.cvd (merge_of d.cvd vids) file ≡ tells t r) → Does asked_for s t w r held held old new
  checkout_done t r none given =
      let it = allows none
      in does_told asked_for s t w r held old new (it.2 ∙ given it.0 it.1) at looked.told (looked.tape at.at.told)

  pub checkout_refused : (e : StoreErr) (r : Reply) → IsUnscanned (scan_off held.numbers name vids) (set_in held.numbers name) vids old new e → reply_of name e ≡ Some r
      → Does asked_for s s w r held held old new
  checkout_refused e r is said =
      let it = reply_is (refusal_of name e) r said
      in let off = (unscanned_off name vids (scan_off held.numbers name vids) (set_in held.numbers name) old new e r is said).0
      in does_told asked_for s s w r held old new
      (refuses_so it.0 (ap (refused name) off ∙ it.1) ∙ ap (tells s) (sym it.2)) at looked.told (looked.tape at.at.told)

  pub checkout_stopped : Breaks asked_for s w old new
  checkout_stopped = breaks_looked asked_for s w held old new at (looked.tape at.at.told)

  -- what was given of the merge, or an end of the stage
  pub checkout_given : (t : Session) (result : Result Reply EndErr) → scan_off held.numbers name vids ≡ None
      → ((d : Dataset) → set_named w name ≡ Some d → IfOk result (λ r. gives s d.cvd (merge_of d.cvd vids) file ≡ tells t r)) → Acts asked_for s t w result held held old new
  checkout_given t (Ok r) none given = checkout_done t r none given
  checkout_given t (Err why) none given = checkout_stopped

  -- what the store said of a scan that isn't done
  pub checkout_off : (result : Result Reply EndErr) (e : StoreErr) → IsUnscanned (scan_off held.numbers name vids) (set_in held.numbers name) vids old new e
      → IfOk result (λ r. reply_of name e ≡ Some r) → Acts asked_for s s w result held held old new
  checkout_off result e is said = acts_by asked_for s s w result name e held held old new said (λ r now. checkout_refused e r is now) checkout_stopped

-- ---- the partitions and the versions of a dataset, and the datasets

-- a layout is no refusal
pub is_layout : (set : SetNumbers Extent Extent) (reply : Reply) → reply ≡ shown_layout set → IfNoFile ⊥ reply
is_layout set reply is = λ name refused. other (sym refused ∙ is)
  where
    other : {name : List ℕ} → says.Refused (no.NoFile name) ≡ shown_layout set → ⊥
    other e = cc

module _ (w : World) (held : Held) (t : State) (at : IsAtWorld w held t) where
  pub layout_told : (s : Session) (name : List ℕ) (set : SetNumbers Extent Extent) → set_in held.numbers name ≡ Some set
      → layout_deed s name (set_named w name) ≡ tells s (shown_layout set)
  layout_told s name set found =
      layout_shown (readings_of t.tape.disk.pages.bytes) held.numbers w name set s at.stands.stands.reached (sees w held t at) found

  pub layout_of_none : (s : Session) (name : List ℕ) → set_in held.numbers name ≡ None → layout_deed s name (set_named w name) ≡ refuses s (no.NoCvd name)
  layout_of_none s name none = ap (layout_deed s name) (none_named w held t at name none)

  pub log_told : (s : Session) (name : List ℕ) (set : SetNumbers Extent Extent) → set_in held.numbers name ≡ Some set
      → log_deed s name (set_named w name) ≡ tells s (says.Log (shown_log set))
  log_told s name set found =
      let it = log_shown (readings_of t.tape.disk.pages.bytes) held.numbers w name set (sees w held t at) found
      in ap (log_deed s name) it.1 ∙ ap (λ lines. tells s (says.Log lines)) (sym it.2)

  pub log_of_none : (s : Session) (name : List ℕ) → set_in held.numbers name ≡ None → log_deed s name (set_named w name) ≡ refuses s (no.NoCvd name)
  log_of_none s name none = ap (log_deed s name) (none_named w held t at name none)

  pub ls_told : shown_cvds held.numbers ≡ map ls_line w.sets
  ls_told = cvds_shown (readings_of t.tape.disk.pages.bytes) held.numbers w (sees w held t at)
