-- One change of the staged tables, and the file behind it.
use Rattle.std.proofs.Common.{◌≡◌, ◌∙◌, ℕ, List, [], ◌∷◌, ◌++◌, ◌+◌, length, map, refl, sym, ap, subst, append-nil}
use Rattle.std.specs.Prelude.{IfErr, IfOk, IsErrOf, OnOk, Some, None, Option, Ok, Err, Result, option_map}
use Rattle.std.proofs.lemmas.Option.{same_Some}
use Rattle.ov_core.specs.Held.{Held}
use Rattle.ov_fetch.specs.Extents.{Looked}
use Rattle.ov_host.specs.declared.area.Area.{Area}
use Rattle.ov_host.specs.Disk.{Image}
use Rattle.ov_host.specs.Host.{State}
use Rattle.ov_host.specs.Stage.{Staged}
use Rattle.ov_host.specs.Stops.{Only}
use Rattle.ov_host.specs.Tape.{Tape}
use Rattle.ov_host.proofs.Stops.{only_wider}
use Rattle.law_runs.proofs.Found.{found_within}
use Rattle.law_runs.specs.Serving.{Breaks, Does}
use Rattle.law_runs.specs.Stops.{IsFound, printed_of}
use Rattle.law_steps.specs.Turns.{running}
use Rattle.ov_model.specs.Act.{Deed, Session, gives, merge_of, tells}
use Rattle.ov_model.specs.Book.{Row}
use Rattle.ov_model.specs.Course.{Room, Enough, NoRun, Full, Item, Makes, Says, Served, Space, after, attempt, attempts, first, rest, steps_then}
use Rattle.ov_model.specs.Moves.{Move, moved}
use Rattle.ov_model.specs.World.{Dataset, World}
use Rattle.ov_model.specs.declared.refusal.Refusal.{Refusal}
use Rattle.ov_model.specs.declared.refusal.Refusal.TheVariants as no
use Rattle.ov_model.specs.declared.reply.Reply.{Reply}
use Rattle.ov_model.specs.declared.reply.Reply.TheVariants as says
use Rattle.ov_registry.specs.Changing.{Ends, EndsBy, IsChanged, IsMade, IsUnchanged}
use Rattle.ov_registry.specs.Last.{name_of, schema_of}
use Rattle.ov_registry.specs.declared.registry.Registry.{Registry}
use Rattle.ov_staging.proofs.Ended.{unchanged_end}
use Rattle.ov_staging.proofs.Looks.{alike, rows_again}
use Rattle.ov_staging.specs.Changing.{AreRowsDamaged}
use Rattle.ov_staging.specs.declared.errors.StagingErr.TheVariants as gone
use Rattle.ov_store.proofs.Finishing.{may_call_later}
use Rattle.ov_store.specs.Beginning.{first_of}
use Rattle.ov_store.specs.Committing.{Set}
use Rattle.ov_store.specs.Kept.{Kept, MayCall, Stays}
use Rattle.ov_store.specs.Refusals.{refusal_of}
use Rattle.ov_store.specs.Scanning.{set_in}
use Rattle.ov_store.specs.declared.errors.StoreErr.{StoreErr}
use Rattle.ov_store.specs.declared.errors.StoreErr.TheVariants as why
use Rattle.ov_session.proofs.Calls.{stays_still}
use Rattle.ov_session.proofs.Idling.{committed_none, done_none}
use Rattle.ov_session.proofs.Standing.{the_end}
use Rattle.ov_session.specs.Commands.{Acts, IsDamageOf, IsNoHost}
use Rattle.ov_session.specs.Errors.{end_of, reply_of}
use Rattle.ov_session.specs.Staging.{keeps, with_merge}
use Rattle.ov_session.specs.Standing.{IsAtSilently, IsBehindIt, IsIdleBehind}
use Rattle.ov_session.specs.declared.errors.EndErr.{EndErr}
use Rattle.ov_session.specs.declared.errors.EndErr.TheVariants as ending

-- ---- what was done may be where the run was broken off

abbrev IsFront : List Move → List Item → Type 0
IsFront moves items = (more : List Item) × (items ≡ map Makes moves ++ more)

head_is : (a b : Item) (xs ys : List Item) → a ∷ xs ≡ b ∷ ys → a ≡ b
head_is a b xs ys e = cc

tail_is : (a b : Item) (xs ys : List Item) → a ∷ xs ≡ b ∷ ys → xs ≡ ys
tail_is a b xs ys e = cc

says_makes : (reply : Reply) (m : Move) (xs ys : List Item) → Says reply ∷ xs ≡ Makes m ∷ ys → ⊥
says_makes reply m xs ys e = cc

front : (d : Deed) (s : Session) (taken : ℕ) (ms : List Move) (w : World) (space : Space) (moves : List Move) (reply : Reply)
    → (attempts d s taken ms w space).items ≡ map Makes moves ++ Says reply ∷ [] → IsFront moves (attempts d s taken ms w []).items
front d s taken ms w space [] reply e = ((attempts d s taken ms w []).items, refl)
front d s taken [] w space (x ∷ moves) reply e = absurd (says_makes d.reply x [] (map Makes moves ++ Says reply ∷ []) e)
front d s taken (m ∷ ms) w space (x ∷ moves) reply e =
    by (first space) e (λ left. front d s (taken + 1) ms (moved m w) (rest space) moves reply left)
  where
    more : Served
    more = attempts d s (taken + 1) ms (moved m w) (rest space)

    by : (room : Room) → (attempt room (steps_then d.counts_steps taken w) w s (rest space) (after (Makes m ∷ []) more)).items
        ≡ map Makes (x ∷ moves) ++ Says reply ∷ []
        → (more.items ≡ map Makes moves ++ Says reply ∷ [] → IsFront moves (attempts d s (taken + 1) ms (moved m w) []).items)
        → IsFront (x ∷ moves) (attempts d s taken (m ∷ ms) w []).items
    by Enough e later =
        let one : Makes m ≡ Makes x = head_is (Makes m) (Makes x) more.items (map Makes moves ++ Says reply ∷ []) e
        in let is : IsFront moves (attempts d s (taken + 1) ms (moved m w) []).items
        = later (tail_is (Makes m) (Makes x) more.items (map Makes moves ++ Says reply ∷ []) e)
        in (is.0, λ i. one i ∷ is.1 i)
    by (NoRun pages) e later = absurd (says_makes (says.Refused (no.NoRun pages (steps_then d.counts_steps taken w))) x [] (map Makes moves ++ Says reply ∷ []) e)
    by Full e later = absurd (says_makes (says.Refused (no.JournalFull (steps_then d.counts_steps taken w))) x [] (map Makes moves ++ Says reply ∷ []) e)

found_front : (w : World) (printed : List ℕ) (moves : List Move) (items : List Item) (c : Image) → IsFront moves items → IsFound w printed (map Makes moves) c
    → IsFound w printed items c
found_front w printed moves items c is found =
    found_within w printed [] (map Makes moves) is.0 items c is.1 (subst (λ (p : List ℕ). IsFound w p (map Makes moves) c) (sym (append-nil printed)) found)

pub does_breaks : (d : Deed) (s t : Session) (w : World) (reply : Reply) (before now : Held) (old new : State) → Does d s t w reply before now old new → Breaks d s w old new
does_breaks d s t w reply before now old new is =
    only_wider old.tape new.tape (IsFound w (printed_of old) (map Makes is.moves)) (IsFound w (printed_of old) (attempts d s 0 d.moves w []).items)
    (λ c found. found_front w (printed_of old) is.moves (attempts d s 0 d.moves w []).items c
    (front d s 0 d.moves w (is.used ++ []) is.moves reply (ap (λ (served : Served). served.items) (is.did []))) found)
    is.stops

-- behind a look at the host
pub acts_later : (d : Deed) (s t : Session) (w : World) (r : Result Reply EndErr) (before now : Held) (old mid new : State) → mid.tape ≡ old.tape
    → Acts d s t w r before now mid new → Acts d s t w r before now old new
acts_later d s t w (Ok reply) before now old mid new tape is = record {
  moves = is.moves;
  world = is.world;
  used = is.used;
  did = is.did;
  licensed = is.licensed;
  within = is.within;
  stops = subst (λ (u : Tape). Only u new.tape (IsFound w u.disk.printed (map Makes is.moves))) tape is.stops;
  at = is.at;
  printed = is.printed ∙ ap (λ (u : Tape). u.disk.printed) tape;
}
acts_later d s t w (Err e) before now old mid new tape is =
    subst (λ (u : Tape). Only u new.tape (IsFound w u.disk.printed (attempts d s 0 d.moves w []).items)) tape is

-- ---- the store refused it, or the run ends there

by_end : (P : EndErr → Type 0) (off : StoreErr) (e : EndErr) → end_of off ≡ Some e → (off ≡ why.Host → P ending.Host) → (off ≡ why.Memory → P ending.Memory)
    → ((area : Area) (at : ℕ) → off ≡ why.Damaged area at → P (ending.Damaged area at)) → P e
by_end P why.Host e is host memory damaged = subst P (the_end ending.Host e is) (host refl)
by_end P why.Memory e is host memory damaged = subst P (the_end ending.Memory e is) (memory refl)
by_end P (why.Damaged area at) e is host memory damaged = subst P (the_end (ending.Damaged area at) e is) (damaged area at refl)
by_end P (why.Full pages) e is host memory damaged = absurd cc
by_end P why.JournalFull e is host memory damaged = absurd cc
by_end P why.NoCvd e is host memory damaged = absurd cc
by_end P why.CvdExists e is host memory damaged = absurd cc
by_end P (why.NoVersion vid) e is host memory damaged = absurd cc
by_end P (why.RepeatedVersion vid) e is host memory damaged = absurd cc
by_end P (why.DuplicateKey row) e is host memory damaged = absurd cc
by_end P why.TooManyVersions e is host memory damaged = absurd cc
by_end P why.TooManyRecords e is host memory damaged = absurd cc
by_end P why.TooManyRows e is host memory damaged = absurd cc
by_end P why.TooManyCvds e is host memory damaged = absurd cc
by_end P why.NoNumbers e is host memory damaged = absurd cc
by_end P (why.FormatOne row) e is host memory damaged = absurd cc

module _ (before now : Kept) (old new : State) (off : StoreErr) (stays : Stays off before now old new) where
  still_by : (area : Area) (at : ℕ) → off ≡ why.Damaged area at → (now ≡ before) × Looked old new
  still_by area at same = subst (λ (x : StoreErr). Stays x before now old new) same stays

  -- what the change reads is damaged
  pub off_damaged : (which : Registry) (rows : List Row) (r : Result Reply EndErr) → IfErr r (λ e. end_of off ≡ Some e)
      → IsUnchanged (set_in before.held.numbers (name_of which)) (name_of which) (schema_of which) rows old new before.held off
      → IfErr r (IsDamageOf (AreRowsDamaged which (set_in before.held.numbers (name_of which)) rows before.held new))
  off_damaged which rows (Ok reply) ends un = tt
  off_damaged which rows (Err e) ends un =
      let set : Option Set = set_in before.held.numbers (name_of which)
      in by_end (IsDamageOf (AreRowsDamaged which set rows before.held new)) off e ends (λ same. tt) (λ same. tt)
      (λ area at same.
      let bad = unchanged_end which rows before.held old new (why.Damaged area at) (gone.Damaged area at) refl
      (subst (λ (x : StoreErr). IsUnchanged set (name_of which) (schema_of which) rows old new before.held x) same un)
      in (bad.0, rows_again old new (alike old new (still_by area at same).1) which set rows before.held at bad.1))

  pub off_idle : (stage : Staged) (r : Result Reply EndErr) → IfErr r (λ e. end_of off ≡ Some e) → IfErr r (λ e. IsIdleBehind e before now stage stage old new)
  off_idle stage (Ok reply) ends = tt
  off_idle stage (Err e) ends =
      by_end (λ x. IsIdleBehind x before now stage stage old new) off e ends (λ same. tt) (λ same. tt)
      (λ area at same. let still = still_by area at same in (record { store = still.0; looked = still.1 }, refl))

  pub off_usable : (name : List ℕ) (r : Result Reply EndErr) → IfOk r (λ reply. reply_of name off ≡ Some reply) → MayCall before old → OnOk r (MayCall now new)
  off_usable name (Err e) said may = tt
  off_usable name (Ok reply) said may =
      let still = stays_still name off reply before now old new said stays
      in subst (λ (k : Kept). MayCall k new) (sym still.0) (may_call_later before old new still.1 may)

pub off_alone : (off : StoreErr) (r : Result Reply EndErr) → IfErr r (λ e. end_of off ≡ Some e) → IsErrOf r ending.Stage → ⊥
off_alone off (Ok reply) ends is = cc
off_alone off (Err e) ends is = by_end (λ x. x ≡ ending.Stage → ⊥) off e ends (λ same. λ end. cc) (λ same. λ end. cc) (λ area at same. λ end. cc) (same_end e ending.Stage is)
  where
    same_end : (a b : EndErr) → (let one : Result Reply EndErr = Err a in one) ≡ Err b → a ≡ b
    same_end a b e = cc

-- what it means
pub off_acts : (name : List ℕ) (d : Deed) (s : Session) (w : World) (before now : Held) (old new : State) (off : StoreErr) (r : Result Reply EndErr)
    → IfOk r (λ reply. reply_of name off ≡ Some reply) → Ends name d s w before now old new off → Acts d s s w r before now old new
off_acts name d s w before now old new off (Ok reply) said ends = by (refusal_of name off) said ends
  where
    by : (o : Option Refusal) → option_map says.Refused o ≡ Some reply → EndsBy o d s w before now old new → Does d s s w reply before now old new
    by None said ends = absurd cc
    by (Some refusal) said ends = subst (λ (x : Reply). Does d s s w x before now old new) (same_Some (says.Refused refusal) reply said) ends
off_acts name d s w before now old new off (Err e) said ends = by (refusal_of name off) ends
  where
    by : (o : Option Refusal) → EndsBy o d s w before now old new → Breaks d s w old new
    by None ends = ends
    by (Some refusal) ends = does_breaks d s s w (says.Refused refusal) before now old new ends

-- ---- it was made

pub changed_none : (set : Option Set) (which : Registry) (rows : List Row) (t : State) (before now : Held)
    → IsChanged set (name_of which) (schema_of which) rows t before now → running before.numbers ≡ None → running now.numbers ≡ None
changed_none set which rows t before now is none = by set is.made is.is
  where
    by : (o : Option Set) (made : List Row) → IsMade o (name_of which) (schema_of which) made t before now → running now.numbers ≡ None
    by None made is = done_none _ before now tt is.1 none
    by (Some d) made is = committed_none d _ t before now is.1.0 is.1.1 none

pub changed_behind : (set : Option Set) (which : Registry) (rows : List Row) (t : State) (before now : Kept)
    → IsChanged set (name_of which) (schema_of which) rows t before.held now.held → IsBehindIt before now
changed_behind set which rows t before now is = by set is.made is.is
  where
    by : (o : Option Set) (made : List Row) → IsMade o (name_of which) (schema_of which) made t before.held now.held → IsBehindIt before now
    by None made is = record { brought = first_of (name_of which) (schema_of which) made; done = is.1 }
    by (Some d) made is = record { brought = is.1.1.brought; done = is.1.1.done }

-- and then the file was given
pub given_behind : (before now : Kept) (stage staged : Staged) (old new : State) (r : Result Reply EndErr) → IsBehindIt before now → IfErr r IsNoHost
    → IfErr r (λ e. IsIdleBehind e before now stage staged old new)
given_behind before now stage staged old new (Ok reply) behind alone = tt
given_behind before now stage staged old new (Err ending.Host) behind alone = tt
given_behind before now stage staged old new (Err ending.Memory) behind alone = tt
given_behind before now stage staged old new (Err ending.Stage) behind alone = behind
given_behind before now stage staged old new (Err (ending.Damaged area at)) behind alone = absurd alone

abbrev pub said : Dataset → List ℕ → List ℕ → Reply
said d vids file = says.ToFile d.cvd.name (length (merge_of d.cvd vids)) file

pub given_acts : (w : World) (s t : Session) (rows : List Row) (d : Dataset) (vids file : List ℕ) (before now : Held) (old new : State) (r : Result Reply EndErr)
    → Does (keeps w s rows d vids file) s (with_merge s file d vids) w (said d vids file) before now old new
    → IfOk r (λ reply. gives s d.cvd (merge_of d.cvd vids) (Some file) ≡ tells t reply) → Acts (keeps w s rows d vids file) s t w r before now old new
given_acts w s t rows d vids file before now old new (Ok reply) does given =
    subst (λ (e : Deed). Does (keeps w s rows d vids file) s e.session w e.reply before now old new) given does
given_acts w s t rows d vids file before now old new (Err e) does given =
    does_breaks (keeps w s rows d vids file) s (with_merge s file d vids) w (said d vids file) before now old new does

-- where it leaves the store
pub done_at : (d : Deed) (s t : Session) (w : World) (reply : Reply) (before now : Held) (old new : State) → Does d s t w reply before now old new → IsAtSilently now old new
done_at d s t w reply before now old new is = record { at = (is.world, is.at); printed = is.printed }
