-- A call of the store as a change: done, refused, or broken off.
use Rattle.std.proofs.Common.{◌≡◌, ◌∙◌, ◌<◌, ◌≤◌, ◌⊎◌, inl, inr, ℕ, Bool, true, false, List, [], ◌∷◌, ◌==◌, length, refl, sym, ap, subst, arith}
use Rattle.std.specs.Prelude.{◌||◌, nat_le, nat_lt, if◌then◌else◌, Some, None, Option, is_some, codes}
use Rattle.std.specs.Option.{option_or}
use Rattle.std.specs.Str.{bytes_eq}
use Rattle.std.proofs.lemmas.Bool.{le-ltb, lt-ltb, ne_eqb}
use Rattle.std.proofs.lemmas.List.Sorted.{length_permutation}
use Rattle.std.proofs.lemmas.Slice.Eq.{bytes_eq-Decides}
use Rattle.ov_host.specs.Host.{State}
use Rattle.ov_host.specs.Stops.{Only}
use Rattle.ov_core.specs.AtWorld.{IsAtNext, IsAtWorld, IsEither}
use Rattle.ov_fetch.specs.Extents.{Looked}
use Rattle.ov_model.specs.Act.{Deed, Session, does, format_one, fresh_of, if_so, more_refusal, records_refusal, refuses, repeated_key, unless, vids_refusal}
use Rattle.ov_model.specs.Book.{Row}
use Rattle.ov_model.specs.Merge.{in_key_order}
use Rattle.ov_model.specs.Moves.{Commit, Init, Move, moved}
use Rattle.ov_model.specs.Registry.{change_of, change_records, change_refusal, last_alone, number_refusal, version_rows}
use Rattle.ov_model.specs.World.{Dataset, World, first_set, named, set_named}
use Rattle.ov_model.specs.declared.refusal.Refusal.{Refusal}
use Rattle.ov_model.specs.declared.refusal.Refusal.TheVariants as no
use Rattle.ov_model.specs.declared.reply.Reply.{Reply}
use Rattle.ov_model.specs.declared.reply.Reply.TheVariants as says
use Rattle.ov_open.specs.Opening.{IsWorld}
use Rattle.law_room.specs.Room.{Entry, IsWithin, Made}
use Rattle.law_runs.specs.Serving.{Breaks, Does}
use Rattle.law_runs.specs.Stops.{printed_of}
use Rattle.law_runs.proofs.Doing.{breaks_looked, breaks_move, breaks_where, does_full, does_move, does_no_run, does_told}
use Rattle.ov_store.specs.Beginning.{first_move}
use Rattle.ov_store.specs.Committing.{Wish, commit_move, committed, with_commit}
use Rattle.ov_store.specs.Kept.{Kept, Stays}
use Rattle.ov_store.specs.Scanning.{IsUndamaged}
use Rattle.ov_store.specs.Worlds.{IsLack, IsRefusedAs, and_made, begin_refusal, version_refusal}
use Rattle.ov_store.specs.declared.errors.StoreErr.{StoreErr}
use Rattle.ov_store.specs.declared.errors.StoreErr.TheVariants as why
use Rattle.ov_value.specs.Shapes.{Shape}
use Rattle.law_users.proofs.Ordering.{length_ordered, once_ordered}
use Rattle.ov_registry.specs.Changing.{Ends, IsOrdered, changes_to}

-- ---- a call

module _ (w : World) (s t : Session) (d : Deed) (m : Move) (reply : Reply) (name : List ℕ) (off : Option Refusal)
    (refused_is : (refusal : Refusal) → off ≡ Some refusal → d ≡ refuses s refusal) (done_is : off ≡ None → d ≡ does t m reply)
    (before after : Kept) (old new : State) (at : IsAtWorld w before.held old) where
  told_by : (refusal : Refusal) → off ≡ Some refusal → (after ≡ before) × Looked old new → Does d s s w (says.Refused refusal) before.held after.held old new
  told_by refusal is same =
      subst (λ (k : Kept). Does d s s w (says.Refused refusal) before.held k.held old new) (sym same.0)
      (does_told d s s w (says.Refused refusal) before.held old new (refused_is refusal is) at same.1.told (same.1.tape at.at.told))

  broken : Only old.tape new.tape (IsEither w (moved m w) (printed_of old))
      → ((refusal : Refusal) → off ≡ Some refusal → Only old.tape new.tape (IsWorld w (printed_of old))) → Breaks d s w old new
  broken stops still = by off refl
    where
      by : (o : Option Refusal) → off ≡ o → Breaks d s w old new
      by None none = breaks_move d s t w m reply old new (done_is none) stops
      by (Some refusal) is = breaks_where d s w old new (IsWorld w (printed_of old)) (λ c on. on.stands) (λ c on. on.printed_is) (still refusal is)

  pub ends_by : (e : StoreErr) → IsRefusedAs name off e → ((entry : Entry) (past : List Made) → IsWithin entry past before.held → IsLack entry past m w e)
      → Stays e before after old new → Only old.tape new.tape (IsEither w (moved m w) (printed_of old))
      → ((refusal : Refusal) → off ≡ Some refusal → Only old.tape new.tape (IsWorld w (printed_of old)))
      → Ends name d s w before.held after.held old new e
  ends_by why.Host is lack stays stops still = broken stops still
  ends_by why.Memory is lack stays stops still = breaks_looked d s w before.held old new at (stays.1.tape at.at.told)
  ends_by (why.Damaged area place) is lack stays stops still = absurd is
  ends_by (why.Full pages) is lack stays stops still =
      subst (λ (k : Kept). Does d s s w (says.Refused (no.NoRun pages None)) before.held k.held old new) (sym stays.0)
      (does_no_run d s t w m reply pages before.held old new (done_is is) at stays.1.told (stays.1.tape at.at.told) lack)
  ends_by why.JournalFull is lack stays stops still =
      subst (λ (k : Kept). Does d s s w (says.Refused (no.JournalFull None)) before.held k.held old new) (sym stays.0)
      (does_full d s t w m reply before.held old new (done_is is) at stays.1.told (stays.1.tape at.at.told) lack)
  ends_by why.NoCvd is lack stays stops still = told_by (no.NoCvd name) is stays
  ends_by why.CvdExists is lack stays stops still = told_by (no.CvdExists name) is stays
  ends_by (why.NoVersion vid) is lack stays stops still = told_by (no.NoVersion vid) is stays
  ends_by (why.RepeatedVersion vid) is lack stays stops still = told_by (no.RepeatedVersion vid) is stays
  ends_by (why.DuplicateKey row) is lack stays stops still = told_by (no.DuplicateKey row) is stays
  ends_by why.TooManyVersions is lack stays stops still = told_by (no.TooManyVersions name) is stays
  ends_by why.TooManyRecords is lack stays stops still = told_by (no.TooManyRecords name) is stays
  ends_by why.TooManyRows is lack stays stops still = told_by no.TooManyRows is stays
  ends_by why.TooManyCvds is lack stays stops still = told_by no.TooManyCvds is stays
  ends_by why.NoNumbers is lack stays stops still = told_by (no.NoNumbers name) is stays
  ends_by (why.FormatOne row) is lack stays stops still = told_by (no.FormatOne row) is stays

  pub done_by : off ≡ None → Only old.tape new.tape (IsEither w (moved m w) (printed_of old)) → IsAtNext (moved m w) after.held old new
      → ((entry : Entry) (past : List Made) → IsWithin entry past before.held → IsWithin entry (and_made past m w) after.held)
      → Does d s t w reply before.held after.held old new
  done_by none stops next within = does_move d s t w m reply before.held after.held old new (done_is none) stops next within

-- nothing is damaged where the World decides
pub spared_by : (name : List ℕ) (off : Option Refusal) (e : StoreErr) → IsRefusedAs name off e → IsUndamaged e
spared_by name off why.Host is = tt
spared_by name off why.Memory is = tt
spared_by name off (why.Damaged area at) is = is
spared_by name off (why.Full pages) is = tt
spared_by name off why.JournalFull is = tt
spared_by name off why.NoCvd is = tt
spared_by name off why.CvdExists is = tt
spared_by name off (why.NoVersion vid) is = tt
spared_by name off (why.RepeatedVersion vid) is = tt
spared_by name off (why.DuplicateKey row) is = tt
spared_by name off why.TooManyVersions is = tt
spared_by name off why.TooManyRecords is = tt
spared_by name off why.TooManyRows is = tt
spared_by name off why.TooManyCvds is = tt
spared_by name off why.NoNumbers is = tt
spared_by name off (why.FormatOne row) is = tt

-- ---- what refuses it

or_assoc : (a b c : Option Refusal) → option_or (option_or a b) c ≡ option_or a (option_or b c)
or_assoc None b c = refl
or_assoc (Some r) b c = refl

or_none : (o : Option Refusal) → option_or o None ≡ o
or_none None = refl
or_none (Some r) = refl

none_first : (a b : Option Refusal) → option_or a b ≡ None → a ≡ None
none_first None b e = refl
none_first (Some r) b e = cc

none_second : (a b : Option Refusal) → option_or a b ≡ None → b ≡ None
none_second None b e = e
none_second (Some r) b e = cc

not_many : (n : ℕ) → if_so (nat_lt 1000000 n) no.TooManyRows ≡ None → n ≤ 1000000
not_many n e = by (nat_lt 1000000 n) refl e
  where
    by : (b : Bool) → nat_lt 1000000 n ≡ b → if_so b no.TooManyRows ≡ None → n ≤ 1000000
    by true is e = cc
    by false is e = grind arith

-- a dataset of these rows
module _ (w : World) (name : List ℕ) (schema : Shape) (rows : List Row) (free : set_named w name ≡ None) (once : repeated_key schema [] 1 rows ≡ None)
    (ordered : length rows ≤ 1000000 → in_key_order schema rows ≡ rows) where
  pub begin_is : begin_refusal w name schema rows ≡ change_refusal w name rows (set_named w name)
  begin_is =
      (λ i. option_or (option_or (if_so (is_some (free i)) (no.CvdExists name)) (more_refusal w name))
      (option_or (if_so (nat_lt 1000000 (length rows)) no.TooManyRows) (option_or (once i) (sym (or_none (format_one w.format false rows)) i))))
      ∙ ap (change_refusal w name rows) (sym free)

  few : change_refusal w name rows (set_named w name) ≡ None → length rows ≤ 1000000
  few e =
      not_many (length rows)
      (none_first (if_so (nat_lt 1000000 (length rows)) no.TooManyRows) (option_or (format_one w.format false rows) None)
      (none_second (more_refusal w name) _ (sym (ap (change_refusal w name rows) free) ∙ e)))

  module _ (s t : Session) (reply : Reply) where
    abbrev d : Deed
    d = changes_to w s t name schema rows reply (set_named w name)

    pub begin_refused : (refusal : Refusal) → begin_refusal w name schema rows ≡ Some refusal → d ≡ refuses s refusal
    begin_refused refusal is = ap (λ o. unless s o (does t (change_of name schema rows (set_named w name)) reply)) (sym begin_is ∙ is)

    pub begin_done : begin_refusal w name schema rows ≡ None → d ≡ does t (first_move name schema rows) reply
    begin_done none =
        let passes : change_refusal w name rows (set_named w name) ≡ None = sym begin_is ∙ none
        in ap (λ o. unless s o (does t (change_of name schema rows (set_named w name)) reply)) passes
        ∙ ap (λ o. does t (change_of name schema rows o) reply) free
        ∙ ap (λ (l : List Row). does t (Init name schema l) reply) (sym (ordered (few passes)))

-- a version of them
name_found : (name : List ℕ) (sets : List Dataset) (d : Dataset) → first_set (named name) sets ≡ Some d → d.cvd.name ≡ name
name_found name [] d e = absurd cc
name_found name (x ∷ sets) d e = by (bytes_eq x.cvd.name name) (λ same. (bytes_eq-Decides x.cvd.name name).0 same) e (name_found name sets d)
  where
    by : (b : Bool) → (b ≡ true → x.cvd.name ≡ name) → (if b then Some x else first_set (named name) sets) ≡ Some d → (first_set (named name) sets ≡ Some d → d.cvd.name ≡ name)
        → d.cvd.name ≡ name
    by true same is later = let one : x ≡ d = ap (λ o. elim o as (λ _. Dataset) [ None ↦ x | Some y ↦ y ]) is in ap (λ (y : Dataset). y.cvd.name) (sym one) ∙ same refl
    by false same is later = later is

vid_passes : (count : ℕ) → 1 ≤ count → vids_refusal count [] (count ∷ []) ≡ None
vid_passes count some =
    let some_ : (count == 0) ≡ false = ne_eqb count 0 (λ e. omega (arith, e, some))
    in let there : nat_lt count count ≡ false = le-ltb count count (omega arith)
    in ap (λ b. if b || nat_lt count count then Some (no.NoVersion count) else None) some_ ∙ ap (λ b. if b then Some (no.NoVersion count) else None) there

module _ (w : World) (name : List ℕ) (rows : List Row) (d : Dataset) (is : set_named w name ≡ Some d) (some : 1 ≤ length d.cvd.versions)
    (once : repeated_key d.cvd.schema [] 1 rows ≡ None) (ordered : length rows ≤ 1000000 → in_key_order d.cvd.schema rows ≡ rows) where
  abbrev pub plain : Wish
  plain = record { vids = last_alone d; message = codes "stage"; added = []; rows = rows }

  abbrev many : Option Refusal
  many = if_so (nat_lt 1000000 (length rows)) no.TooManyRows

  abbrev full : List ℕ → Option Refusal
  full n = if_so (nat_le 65535 (length d.cvd.versions)) (no.TooManyVersions n)

  abbrev nulls : Option Refusal
  nulls = format_one w.format false rows

  abbrev own : List Row → Option Refusal
  own l = records_refusal d (fresh_of d (last_alone d) (codes "stage") l)

  records_same : option_or many (option_or nulls (own (in_key_order d.cvd.schema rows))) ≡ option_or many (option_or nulls (own rows))
  records_same = by (nat_lt 1000000 (length rows)) refl
    where
      by : (b : Bool) → nat_lt 1000000 (length rows) ≡ b
          → option_or (if_so b no.TooManyRows) (option_or nulls (own (in_key_order d.cvd.schema rows))) ≡ option_or (if_so b no.TooManyRows) (option_or nulls (own rows))
      by true few_ = refl
      by false few_ = ap (λ (l : List Row). option_or nulls (own l)) (ordered (not_many (length rows) (ap (λ b. if_so b no.TooManyRows) few_)))

  pub version_is : version_refusal w d plain ≡ change_refusal w name rows (set_named w name)
  version_is =
      (λ i. option_or (option_or (vid_passes (length d.cvd.versions) some i) (full (name_found name w.sets d is i)))
      (option_or (option_or many (option_or (once i) nulls)) (own (in_key_order d.cvd.schema rows))))
      ∙ ap (option_or (full name)) (or_assoc many nulls (own (in_key_order d.cvd.schema rows)) ∙ records_same)
      ∙ ap (change_refusal w name rows) (sym is)

  few_rows : change_refusal w name rows (set_named w name) ≡ None → length rows ≤ 1000000
  few_rows e =
      not_many (length rows)
      (none_first many (option_or nulls (own rows)) (none_second (full name) _ (sym (ap (change_refusal w name rows) is) ∙ e)))

  pub move_is : version_refusal w d plain ≡ None → commit_move d (last_alone d) (codes "stage") [] rows ≡ Commit d.cvd.number (last_alone d) (codes "stage") [] rows
  move_is none = ap (λ (l : List Row). Commit d.cvd.number (last_alone d) (codes "stage") [] l) (ordered (few_rows (sym version_is ∙ none)))

  module _ (s t : Session) (schema : Shape) (reply : Reply) where
    abbrev deed_is : Deed
    deed_is = changes_to w s t name schema rows reply (set_named w name)

    pub version_refused : (refusal : Refusal) → version_refusal w d plain ≡ Some refusal → deed_is ≡ refuses s refusal
    version_refused refusal off = ap (λ o. unless s o (does t (change_of name schema rows (set_named w name)) reply)) (sym version_is ∙ off)

    pub version_done : version_refusal w d plain ≡ None → deed_is ≡ does t (commit_move d (last_alone d) (codes "stage") [] rows) reply
    version_done none =
        ap (λ o. unless s o (does t (change_of name schema rows (set_named w name)) reply)) (sym version_is ∙ none)
        ∙ ap (λ o. does t (change_of name schema rows o) reply) is
        ∙ ap (λ m. does t m reply) (sym (move_is none))

    module _ (x : Wish) (same : x ≡ plain) (before after : Kept) (old new : State) (at : IsAtWorld w before.held old) where
      abbrev m : Move
      m = commit_move d (last_alone d) (codes "stage") [] rows

      world_is : committed name x w ≡ moved m w
      world_is = ap (λ o. with_commit o x w) is ∙ ap (λ (y : Wish). moved (commit_move d y.vids y.message y.added y.rows) w) same

      off_is : version_refusal w d x ≡ version_refusal w d plain
      off_is = ap (λ (y : Wish). version_refusal w d y) same

      stops_is : Only old.tape new.tape (IsEither w (committed name x w) (printed_of old)) → Only old.tape new.tape (IsEither w (moved m w) (printed_of old))
      stops_is stops = subst (λ (v : World). Only old.tape new.tape (IsEither w v (printed_of old))) world_is stops

      pub version_made : version_refusal w d x ≡ None → Only old.tape new.tape (IsEither w (committed name x w) (printed_of old)) → IsAtNext (committed name x w) after.held old new
          → ((entry : Entry) (past : List Made) → IsWithin entry past before.held → IsWithin entry (and_made past (commit_move d x.vids x.message x.added x.rows) w) after.held)
          → Does deed_is s t w reply before.held after.held old new
      version_made none stops next within =
          done_by w s t deed_is m reply name (version_refusal w d plain) version_refused version_done before after old new at (sym off_is ∙ none) (stops_is stops)
          (subst (λ (v : World). IsAtNext v after.held old new) world_is next)
          (λ entry past in_. subst (λ (y : Wish). IsWithin entry (and_made past (commit_move d y.vids y.message y.added y.rows) w) after.held) same (within entry past in_))

      pub version_ends : (e : StoreErr) → IsRefusedAs name (version_refusal w d x) e
          → ((entry : Entry) (past : List Made) → IsWithin entry past before.held → IsLack entry past (commit_move d x.vids x.message x.added x.rows) w e)
          → Stays e before after old new → Only old.tape new.tape (IsEither w (committed name x w) (printed_of old))
          → ((refusal : Refusal) → version_refusal w d x ≡ Some refusal → Only old.tape new.tape (IsWorld w (printed_of old)))
          → Ends name deed_is s w before.held after.held old new e
      version_ends e refused lack stays stops still =
          ends_by w s t deed_is m reply name (version_refusal w d plain) version_refused version_done before after old new at e
          (subst (λ o. IsRefusedAs name o e) off_is refused)
          (λ entry past in_. subst (λ (y : Wish). IsLack entry past (commit_move d y.vids y.message y.added y.rows) w e) same (lack entry past in_))
          stays (stops_is stops) (λ refusal off. still refusal (off_is ∙ off))

-- ---- rows in their order

-- rows of a version as the model has them, or more than one may have, which are refused as they stand
module _ (w : World) (s t : Session) (name : List ℕ) (schema : Shape) (rows made : List Row) (reply : Reply) (d : Option Dataset) (is : IsOrdered schema rows made)
    (once : repeated_key schema [] 1 rows ≡ None) where
  same_rows : length rows ≤ 1000000 → made ≡ version_rows schema rows
  same_rows few_ = is.ordered few_ ∙ sym (once_ordered schema rows once)

  same_length : length made ≡ length (version_rows schema rows)
  same_length =
      length_permutation rows made is.kept ∙ sym (length_ordered schema rows) ∙ ap (λ (l : List Row). length l) (sym (once_ordered schema rows once))

  refused_alike : (o : Option Dataset) → 1000000 < length rows → change_refusal w name made o ≡ change_refusal w name (version_rows schema rows) o
  refused_alike o high =
      let first : nat_lt 1000000 (length made) ≡ true = lt-ltb 1000000 (length made) (omega (arith, high, length_permutation rows made is.kept))
      in let second : nat_lt 1000000 (length (version_rows schema rows)) ≡ true = ap (λ n. nat_lt 1000000 n) (sym same_length) ∙ first
      in by o first second
    where
      by : (p : Option Dataset) → nat_lt 1000000 (length made) ≡ true → nat_lt 1000000 (length (version_rows schema rows)) ≡ true
          → change_refusal w name made p ≡ change_refusal w name (version_rows schema rows) p
      by p first second =
          ap (λ b. option_or (number_refusal w name p) (option_or (if_so b no.TooManyRows) (option_or (format_one w.format false made) (change_records made p)))) first
          ∙ sym (ap (λ b. option_or (number_refusal w name p) (option_or (if_so b no.TooManyRows) (option_or (format_one w.format false (version_rows schema rows)) (change_records (version_rows schema rows) p)))) second)

  some_refused : (o : Option Dataset) → 1000000 < length rows → (refusal : Refusal) × (change_refusal w name made o ≡ Some refusal)
  some_refused o high =
      let first : nat_lt 1000000 (length made) ≡ true = lt-ltb 1000000 (length made) (omega (arith, high, length_permutation rows made is.kept))
      in let there = pick (number_refusal w name o)
      in (there.0, ap (λ b. option_or (number_refusal w name o) (option_or (if_so b no.TooManyRows) (option_or (format_one w.format false made) (change_records made o)))) first ∙ there.1)
    where
      pick : (p : Option Refusal) → (refusal : Refusal) × (option_or p (Some no.TooManyRows) ≡ Some refusal)
      pick None = (no.TooManyRows, refl)
      pick (Some r) = (r, refl)

  pub deeds_alike : changes_to w s t name schema made reply d ≡ changes_to w s t name schema (version_rows schema rows) reply d
  deeds_alike = by (low_or (length rows))
    where
      low_or : (n : ℕ) → (n ≤ 1000000) ⊎ (1000000 < n)
      low_or n = grind arith

      by : (length rows ≤ 1000000) ⊎ (1000000 < length rows) → changes_to w s t name schema made reply d ≡ changes_to w s t name schema (version_rows schema rows) reply d
      by (inl few_) = ap (λ (l : List Row). changes_to w s t name schema l reply d) (same_rows few_)
      by (inr high) =
          let some = some_refused d high
          in ap (λ o. unless s o (does t (change_of name schema made d) reply)) some.1
          ∙ sym (ap (λ o. unless s o (does t (change_of name schema (version_rows schema rows) d) reply)) (sym (refused_alike d high) ∙ some.1))
