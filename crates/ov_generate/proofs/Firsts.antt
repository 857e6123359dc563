-- The first version, and what stays where one isn't made.
use Rattle.std.proofs.Common.{◌≡◌, ◌≤◌, ◌<◌, ◌+◌, ◌∙◌, ℕ, true, false, List, length, refl, sym, ap, subst, arith}
use Rattle.std.specs.Prelude.{Err, MatchResult, None, Ok, OnOk, Option, Result, Some, is_some}
use Rattle.std.specs.Option.{option_or}
use Rattle.ov_host.specs.Host.{State}
use Rattle.ov_host.specs.Stops.{Only}
use Rattle.ov_host.specs.Tape.{Tape}
use Rattle.ov_core.specs.AtWorld.{IsAtNext, IsEither}
use Rattle.ov_core.specs.Held.{Held, IsByJournal}
use Rattle.ov_fetch.specs.Extents.{Looked}
use Rattle.ov_gen.specs.Versions.{IsGrown}
use Rattle.ov_gen.proofs.Fitting.{begin-ordered}
use Rattle.ov_gen.proofs.Orders.{in-order}
use Rattle.ov_model.specs.Act.{if_so, init_refusal, more_refusal, rows_refusal}
use Rattle.ov_model.specs.Book.{Row}
use Rattle.ov_model.specs.Generator.{generated_schema}
use Rattle.ov_model.specs.Moves.{Init, Move, moved}
use Rattle.ov_model.specs.World.{Dataset, World, set_named}
use Rattle.ov_model.specs.declared.refusal.Refusal.TheVariants as no
use Rattle.ov_store.specs.Beginning.{first_move}
use Rattle.ov_store.specs.Kept.{Kept, MayCall, Stays}
use Rattle.ov_store.specs.Worlds.{IsLack, IsRefusedAs, and_made, begin_refusal}
use Rattle.ov_store.specs.declared.errors.StoreErr.{StoreErr}
use Rattle.ov_store.specs.declared.errors.StoreErr.TheVariants as why
use Rattle.ov_store.specs.declared.store.Committed.{Committed}
use Rattle.ov_store.proofs.Journals.{looked_by}
use Rattle.ov_value.specs.Shapes.{Shape}
use Rattle.law_room.specs.Room.{Entry, IsWithin, Made}
use Rattle.law_runs.specs.Stops.{printed_of}
use Rattle.law_moves.specs.Doing.{IsMoved}
use Rattle.ov_generate.specs.Making.{IsUnmoved}
use Rattle.ov_generate.proofs.Making.{rows_pass}

pub free_named : (w : World) (name : List ℕ) → init_refusal w name ≡ None → set_named w name ≡ None
free_named w name free = by (set_named w name) free
  where
    by : (o : Option Dataset) → option_or (if_so (is_some o) (no.CvdExists name)) (more_refusal w name) ≡ None → o ≡ None
    by None e = refl
    by (Some d) e = absurd cc

module _ (w : World) (name : List ℕ) (schema : Shape) (rows : List Row) (count : ℕ) (schema_is : schema ≡ generated_schema) (grown : IsGrown count 2 rows) (few : count + 1 ≤ 1000000) (free : init_refusal w name ≡ None) where
  first_is : first_move name schema rows ≡ Init name generated_schema rows
  first_is =
      ap (λ (s : Shape). first_move name s rows) schema_is
      ∙ ap (Init name generated_schema) (in-order generated_schema rows (begin-ordered count 1 (count + 2) rows grown))

  none_refused : begin_refusal w name schema rows ≡ None
  none_refused =
      ap (λ o. option_or o (rows_refusal w schema false rows)) free
      ∙ ap (λ (s : Shape). rows_refusal w s false rows) schema_is
      ∙ rows_pass w count 2 rows grown (omega arith) (omega (arith, few))

  module _ (before after : Held) (old new : State) (stops : Only old.tape new.tape (IsEither w (moved (first_move name schema rows) w) (printed_of old))) where
    abbrev m : Move
    m = Init name generated_schema rows

    stops_is : Only old.tape new.tape (IsEither w (moved m w) (printed_of old))
    stops_is = subst (λ (x : Move). Only old.tape new.tape (IsEither w (moved x w) (printed_of old))) first_is stops

    unmoved : (off : StoreErr) → IsRefusedAs name (begin_refusal w name schema rows) off
        → ((entry : Entry) (past : List Made) → IsWithin entry past before → IsLack entry past (first_move name schema rows) w off) → IsUnmoved m w before old new off
    unmoved off refused lack =
        by off (subst (λ o. IsRefusedAs name o off) none_refused refused) (λ entry past in_. subst (λ (x : Move). IsLack entry past x w off) first_is (lack entry past in_))
      where
        by : (e : StoreErr) → IsRefusedAs name None e → ((entry : Entry) (past : List Made) → IsWithin entry past before → IsLack entry past m w e) → IsUnmoved m w before old new e
        by why.Host is l = stops_is
        by why.Memory is l = tt
        by (why.Damaged area place) is l = is
        by (why.Full pages) is l = l
        by why.JournalFull is l = l
        by why.NoCvd is l = absurd cc
        by why.CvdExists is l = absurd cc
        by (why.NoVersion vid) is l = absurd cc
        by (why.RepeatedVersion vid) is l = absurd cc
        by (why.DuplicateKey row) is l = absurd cc
        by why.TooManyVersions is l = absurd cc
        by why.TooManyRecords is l = absurd cc
        by why.TooManyRows is l = absurd cc
        by why.TooManyCvds is l = absurd cc
        by why.NoNumbers is l = absurd cc
        by (why.FormatOne row) is l = absurd cc

    pub first_made : (r : Result Committed StoreErr) → OnOk r (IsAtNext (moved (first_move name schema rows) w) after old new)
        → MatchResult r (λ made. begin_refusal w name schema rows ≡ None) (IsRefusedAs name (begin_refusal w name schema rows))
        → ((entry : Entry) (past : List Made) → IsWithin entry past before
        → MatchResult r (λ made. IsWithin entry (and_made past (first_move name schema rows) w) after) (IsLack entry past (first_move name schema rows) w))
        → MatchResult r (λ made. IsMoved m w before after old new) (IsUnmoved m w before old new)
    first_made (Ok made) moves refused room = record {
      stops = stops_is;
      next = subst (λ (x : Move). IsAtNext (moved x w) after old new) first_is moves;
      within = λ entry past in_. subst (λ (x : Move). IsWithin entry (and_made past x w) after) first_is (room entry past in_);
    }
    first_made (Err off) moves refused room = unmoved off refused room

-- ---- what stays

pub may_looked : (k : Kept) (s t : State) → Looked s t → MayCall k s → MayCall k t
may_looked k s t looked may = record {
  usable = may.usable;
  goes_on = λ told.
      let tells : s.tells ≡ true = sym looked.told ∙ told
      in subst (λ (tape : Tape). k.held.journal.end < length tape.disk.journal.bytes) (sym (looked.tape tells)) (may.goes_on tells);
}

still_may : (k l : Kept) (s t : State) → (l ≡ k) × Looked s t → MayCall k s → MayCall l t
still_may k l s t still may = subst (λ (x : Kept). MayCall x t) (sym still.0) (may_looked k s t still.1 may)

still_by : (k l : Kept) (s t : State) → (l ≡ k) × Looked s t → IsByJournal k.held s → IsByJournal l.held t
still_by k l s t still by = subst (λ (x : Kept). IsByJournal x.held t) (sym still.0) (looked_by k.held s t still.1 by)

-- the store is as it was but for a fault of the host
pub still_of : (off : StoreErr) (k l : Kept) (s t : State) → Stays off k l s t → (off ≡ why.Host → ⊥) → (l ≡ k) × Looked s t
still_of why.Host k l s t is fine = absurd (fine refl)
still_of why.Memory k l s t is fine = is
still_of (why.Damaged area at) k l s t is fine = is
still_of (why.Full pages) k l s t is fine = is
still_of why.JournalFull k l s t is fine = is
still_of why.NoCvd k l s t is fine = is
still_of why.CvdExists k l s t is fine = is
still_of (why.NoVersion vid) k l s t is fine = is
still_of (why.RepeatedVersion vid) k l s t is fine = is
still_of (why.DuplicateKey row) k l s t is fine = is
still_of why.TooManyVersions k l s t is fine = is
still_of why.TooManyRecords k l s t is fine = is
still_of why.TooManyRows k l s t is fine = is
still_of why.TooManyCvds k l s t is fine = is
still_of why.NoNumbers k l s t is fine = is
still_of (why.FormatOne row) k l s t is fine = is

pub may_off : (off : StoreErr) (k l : Kept) (s t : State) → Stays off k l s t → MayCall k s → (off ≡ why.Host → ⊥) → MayCall l t
may_off off k l s t is may fine = still_may k l s t (still_of off k l s t is fine) may

pub by_off : (off : StoreErr) (k l : Kept) (s t : State) → Stays off k l s t → IsByJournal k.held s → (off ≡ why.Host → ⊥) → IsByJournal l.held t
by_off off k l s t is by fine = still_by k l s t (still_of off k l s t is fine) by
