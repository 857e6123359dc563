-- What the store's calls say of the versions that a query names.
use Rattle.std.proofs.Common.{◌≡◌, ◌∙◌, ◌==◌, ◌||◌, ℕ, Bool, true, false, List, [], ◌∷◌, Some, None, length, refl, sym, ap, subst, arith}
use Rattle.std.specs.Prelude.{Option, Result, Ok, Err, IfOk, IfErr, MatchResult, map, nat_lt, if◌then◌else◌}
use Rattle.std.proofs.lemmas.Option.{same_Some}
use Rattle.ov_host.specs.Host.{State, silent}
use Rattle.ov_catalog.specs.Numbers.{Numbers}
use Rattle.ov_host.specs.declared.area.Extent.{Extent}
use Rattle.ov_model.specs.Act.{vids_refusal}
use Rattle.ov_model.specs.Asking.{listed_refusal, name_read}
use Rattle.ov_model.specs.World.{is_one}
use Rattle.ov_model.specs.declared.query.Src.{Src}
use Rattle.ov_model.specs.declared.query.Src.TheVariants as source
use Rattle.ov_model.specs.declared.refusal.Refusal.{Refusal}
use Rattle.ov_store.specs.Refusals.{refused, vids_off}
use Rattle.ov_store.specs.Scanning.{IsUndamaged, IsUnscanned, scan_off, set_in, versions_off}
use Rattle.ov_store.specs.declared.errors.StoreErr.{StoreErr}
use Rattle.ov_store.specs.declared.errors.StoreErr.TheVariants as why
use Rattle.ov_store.proofs.Refusing.{vids_refused}
use Rattle.ov_query.specs.Answering.{IsThere, version_refusal}
use Rattle.ov_query.specs.Queries.{IsUnread, Set, one_read, vids_read}
use Rattle.ov_query.proofs.Pairs.{shown_are}
use Rattle.ov_fetch.specs.Scans.{rows_at}
use Rattle.ov_fetch.specs.declared.scan.Scan.{Scan}
use Rattle.ov_model.specs.Answers.{Related, pairs, source_vids}
use Rattle.ov_model.specs.Book.{Cvd}
use Rattle.ov_model.specs.Records.{counted, rows_at as rows_of}
use Rattle.ov_terms.specs.Standing.{pairs_shown}

-- ---- a scan that nothing refuses

pub unread_by : (off : Option StoreErr) (set : Option Set) (vids : List ℕ) (old new : State) (e : StoreErr) → off ≡ None → IsUnscanned off set vids old new e
    → IsUnread None (one_read set vids) old new e
unread_by off set vids old new why.Host none is = (refl, is)
unread_by off set vids old new why.Memory none is = tt
unread_by off set vids old new (why.Damaged area at) none is = (is.0, (refl, is.2))
unread_by off set vids old new (why.Full pages) none is = let a = is.0 in absurd cc
unread_by off set vids old new why.JournalFull none is = let a = is.0 in absurd cc
unread_by off set vids old new why.NoCvd none is = let a = is.0 in absurd cc
unread_by off set vids old new why.CvdExists none is = let a = is.0 in absurd cc
unread_by off set vids old new (why.NoVersion vid) none is = let a = is.0 in absurd cc
unread_by off set vids old new (why.RepeatedVersion vid) none is = let a = is.0 in absurd cc
unread_by off set vids old new (why.DuplicateKey row) none is = let a = is.0 in absurd cc
unread_by off set vids old new why.TooManyVersions none is = let a = is.0 in absurd cc
unread_by off set vids old new why.TooManyRecords none is = let a = is.0 in absurd cc
unread_by off set vids old new why.TooManyRows none is = let a = is.0 in absurd cc
unread_by off set vids old new why.TooManyCvds none is = let a = is.0 in absurd cc
unread_by off set vids old new why.NoNumbers none is = let a = is.0 in absurd cc
unread_by off set vids old new (why.FormatOne row) none is = let a = is.0 in absurd cc

pub result_unread : {A : Type 0} → (result : Result A StoreErr) (off : Option StoreErr) (set : Option Set) (vids : List ℕ) (old new : State) → off ≡ None
    → IfErr result (IsUnscanned off set vids old new) → IfErr result (IsUnread None (one_read set vids) old new)
result_unread (Ok a) off set vids old new none is = tt
result_unread (Err e) off set vids old new none is = unread_by off set vids old new e none is

-- ---- versions that are refused

abbrev to_option : Result Refusal StoreErr → Option Refusal
to_option (Ok refusal) = Some refusal
to_option (Err e) = None

abbrev pub IsOfVersion : StoreErr → Type 0
IsOfVersion (why.NoVersion vid) = Unit {0}
IsOfVersion (why.RepeatedVersion vid) = Unit {0}
IsOfVersion _ = ⊥

of_version : (count : ℕ) (before vids : List ℕ) (e : StoreErr) → vids_off count before vids ≡ Some e → IsOfVersion e
of_version count before [] e is = absurd cc
of_version count before (vid ∷ vids) e is = by (vid == 0 || nat_lt count vid) (is_one before vid) is (of_version count (vid ∷ before) vids e)
  where
    by : (off again : Bool) → (if off then Some (why.NoVersion vid) else if again then Some (why.RepeatedVersion vid) else vids_off count (vid ∷ before) vids) ≡ Some e
        → (vids_off count (vid ∷ before) vids ≡ Some e → IsOfVersion e) → IsOfVersion e
    by true again is later = subst IsOfVersion (same_Some (why.NoVersion vid) e is) tt
    by false true is later = subst IsOfVersion (same_Some (why.RepeatedVersion vid) e is) tt
    by false false is later = later is

module _ (n : Numbers Extent Extent) (name vids : List ℕ) (set : Set) (found : set_in n name ≡ Some set) where
  scan_is : scan_off n name vids ≡ vids_off (length set.versions) [] vids
  scan_is = ap (λ (o : Option Set). versions_off o vids) found

  off_of_version : (e : StoreErr) → scan_off n name vids ≡ Some e → IsOfVersion e
  off_of_version e is = of_version (length set.versions) [] vids e (sym scan_is ∙ is)

  pub allowed_listed : scan_off n name vids ≡ None → vids_refusal (length set.versions) [] vids ≡ None
  allowed_listed none = sym (vids_refused name (length set.versions) [] vids) ∙ ap (refused name) (sym scan_is ∙ none)

  pub refused_listed : (e : StoreErr) (refusal : Refusal) → scan_off n name vids ≡ Some e → refused name (Some e) ≡ Some refusal
      → vids_refusal (length set.versions) [] vids ≡ Some refusal
  refused_listed e refusal is said = sym (vids_refused name (length set.versions) [] vids) ∙ ap (refused name) (sym scan_is ∙ is) ∙ said

  -- versions that are there, each listed once, may be scanned
  pub may_scan : vids_refusal (length set.versions) [] vids ≡ None → scan_off n name vids ≡ None
  may_scan none = by (scan_off n name vids) refl (ap (refused name) scan_is ∙ vids_refused name (length set.versions) [] vids ∙ none)
    where
      said : (e : StoreErr) → IsOfVersion e → refused name (Some e) ≡ None → ⊥
      said (why.NoVersion vid) of gone = cc
      said (why.RepeatedVersion vid) of gone = cc
      said _ of gone = of

      by : (o : Option StoreErr) → scan_off n name vids ≡ o → refused name o ≡ None → o ≡ None
      by None is gone = refl
      by (Some e) is gone = absurd (said e (off_of_version e is) gone)

  -- where they aren't found to be, it is for one of them, or for want of memory
  pub only_memory : (e other : StoreErr) → version_refusal e ≡ Err other → ((s : State) → IsUnscanned (scan_off n name vids) (set_in n name) vids s s e)
      → IsUndamaged e → other ≡ why.Memory
  only_memory why.Host other is off fine = let rose = off (silent 0 0) in absurd (omega (arith, rose))
  only_memory why.Memory other is off fine = cc
  only_memory (why.Damaged area at) other is off fine = absurd fine
  only_memory (why.Full pages) other is off fine = absurd (off_of_version (why.Full pages) (off (silent 0 0)).0)
  only_memory why.JournalFull other is off fine = absurd (off_of_version why.JournalFull (off (silent 0 0)).0)
  only_memory why.NoCvd other is off fine = absurd (off_of_version why.NoCvd (off (silent 0 0)).0)
  only_memory why.CvdExists other is off fine = absurd (off_of_version why.CvdExists (off (silent 0 0)).0)
  only_memory (why.NoVersion vid) other is off fine = absurd cc
  only_memory (why.RepeatedVersion vid) other is off fine = absurd cc
  only_memory (why.DuplicateKey row) other is off fine = absurd (off_of_version (why.DuplicateKey row) (off (silent 0 0)).0)
  only_memory why.TooManyVersions other is off fine = absurd (off_of_version why.TooManyVersions (off (silent 0 0)).0)
  only_memory why.TooManyRecords other is off fine = absurd (off_of_version why.TooManyRecords (off (silent 0 0)).0)
  only_memory why.TooManyRows other is off fine = absurd (off_of_version why.TooManyRows (off (silent 0 0)).0)
  only_memory why.TooManyCvds other is off fine = absurd (off_of_version why.TooManyCvds (off (silent 0 0)).0)
  only_memory why.NoNumbers other is off fine = absurd (off_of_version why.NoNumbers (off (silent 0 0)).0)
  only_memory (why.FormatOne row) other is off fine = absurd (off_of_version (why.FormatOne row) (off (silent 0 0)).0)

  pub for_version : (e : StoreErr) (refusal : Refusal) → version_refusal e ≡ Ok refusal → ((s : State) → IsUnscanned (scan_off n name vids) (set_in n name) vids s s e)
      → vids_refusal (length set.versions) [] vids ≡ Some refusal
  for_version why.Host refusal is off = absurd cc
  for_version why.Memory refusal is off = absurd cc
  for_version (why.Damaged area at) refusal is off = absurd cc
  for_version (why.Full pages) refusal is off = absurd cc
  for_version why.JournalFull refusal is off = absurd cc
  for_version why.NoCvd refusal is off = absurd cc
  for_version why.CvdExists refusal is off = absurd cc
  for_version (why.NoVersion vid) refusal is off = refused_listed (why.NoVersion vid) refusal (off (silent 0 0)).0 (ap to_option is)
  for_version (why.RepeatedVersion vid) refusal is off = refused_listed (why.RepeatedVersion vid) refusal (off (silent 0 0)).0 (ap to_option is)
  for_version (why.DuplicateKey row) refusal is off = absurd cc
  for_version why.TooManyVersions refusal is off = absurd cc
  for_version why.TooManyRecords refusal is off = absurd cc
  for_version why.TooManyRows refusal is off = absurd cc
  for_version why.TooManyCvds refusal is off = absurd cc
  for_version why.NoNumbers refusal is off = absurd cc
  for_version (why.FormatOne row) refusal is off = absurd cc

-- ---- a source

there : (src : Src) (o : Option Set) → IsThere src o → (set : Set) × (o ≡ Some set) × (listed_refusal (length set.versions) src ≡ None)
there src None is = absurd is
there src (Some set) is = (set, refl, is)

-- the pairs of a scan, where the store is at a World
pub pairs_are : (result : Result Scan StoreErr) (cvd : Cvd) (src : Src) (related : Related) (vids : List ℕ) → source_vids related cvd src ≡ vids
    → IfOk result (λ scan. scan.vids ≡ vids) → IfOk result (λ scan. map (rows_at scan.records) scan.picks ≡ map (rows_of cvd.versions) vids)
    → IfOk result (λ scan. pairs_shown scan ≡ pairs related cvd src)
pairs_are (Ok scan) cvd src related vids source are rows = shown_are scan cvd src related vids source are rows
pairs_are (Err e) cvd src related vids source are rows = tt

pub all_pairs : (result : Result Scan StoreErr) (cvd : Cvd) (src : Src) (related : Related) → source_vids related cvd src ≡ counted 1 (length cvd.versions)
    → MatchResult result (λ scan. (scan.vids ≡ counted 1 (length cvd.versions))
    × (map (rows_at scan.records) scan.picks ≡ map (rows_of cvd.versions) (counted 1 (length cvd.versions)))) IsUndamaged
    → IfOk result (λ scan. pairs_shown scan ≡ pairs related cvd src)
all_pairs (Ok scan) cvd src related source is = shown_are scan cvd src related (counted 1 (length cvd.versions)) source is.0 is.1
all_pairs (Err e) cvd src related source is = tt

pub ok_of : {A : Type 0} → (P : A → Type 0) (Q : StoreErr → Type 0) (result : Result A StoreErr) → MatchResult result P Q → IfOk result P
ok_of P Q (Ok a) is = is
ok_of P Q (Err e) is = tt

pub err_of : {A : Type 0} → (P : A → Type 0) (Q : StoreErr → Type 0) (result : Result A StoreErr) → MatchResult result P Q → IfErr result Q
err_of P Q (Ok a) is = tt
err_of P Q (Err e) is = is

pub of_source : (n : Numbers Extent Extent) (src : Src) → IsThere src (set_in n (name_read src)) → (set : Set) × (set_in n (name_read src) ≡ Some set)
of_source n src is_there = let it = there src (set_in n (name_read src)) is_there in (it.0, it.1)

-- one that lists its versions, as a call took its name and its list
module _ (n : Numbers Extent Extent) (src : Src) (vids cvd name listed : List ℕ) (is : src ≡ source.Listed vids cvd) (named : name ≡ cvd) (same : listed ≡ vids) where
  pub name_is : name ≡ name_read src
  name_is = named ∙ sym (ap name_read is)

  pub listed_are : (set : Option Set) → listed ≡ vids_read src set
  listed_are set = same ∙ sym (ap (λ (s : Src). vids_read s set) is)

  pub refusal_is : (count : ℕ) → vids_refusal count [] listed ≡ listed_refusal count src
  refusal_is count = ap (vids_refusal count []) same ∙ sym (ap (listed_refusal count) is)

  pub found_by : (set : Set) → set_in n (name_read src) ≡ Some set → set_in n name ≡ Some set
  found_by set found = ap (set_in n) name_is ∙ found

  listed_allowed : IsThere src (set_in n (name_read src)) → scan_off n name listed ≡ None
  listed_allowed is_there =
      let it = there src (set_in n (name_read src)) is_there
      in may_scan n name listed it.0 (found_by it.0 it.1) (refusal_is (length it.0.versions) ∙ it.2)

  pub listed_unread : {A : Type 0} → (result : Result A StoreErr) (old new : State) → IsThere src (set_in n (name_read src))
      → IfErr result (IsUnscanned (scan_off n name listed) (set_in n name) listed old new)
      → IfErr result (IsUnread None (one_read (set_in n (name_read src)) (vids_read src (set_in n (name_read src)))) old new)
  listed_unread result old new is_there off =
      subst (λ (vs : List ℕ). IfErr result (IsUnread None (one_read (set_in n (name_read src)) vs) old new)) (listed_are (set_in n (name_read src)))
      (subst (λ (x : List ℕ). IfErr result (IsUnread None (one_read (set_in n x) listed) old new)) name_is
      (result_unread result (scan_off n name listed) (set_in n name) listed old new (listed_allowed is_there) off))
