-- A run out of its lines.
use Rattle.std.proofs.Common.{◌≡◌, ◌≤◌, ◌<◌, ◌+◌, ◌||◌, ◌⊎◌, inl, inr, ℕ, Bool, true, false, List, [], ◌∷◌, ◌++◌, length, map, take, refl, sym, ◌∙◌, ap, subst, append-nil, append_assoc, arith}
use Rattle.std.specs.Prelude.{Err, IfErr, IsErr, IsErrOf, IsOk, IsTrue, Ok, Result, ◌^◌, codes, nat_lt, None, Option, Some}
use Rattle.std.specs.Result.{IsErrAnd}
use Rattle.ov_value.specs.Naming.{is_name}
use Rattle.std.proofs.lemmas.List.{length-take, take_all}
use Rattle.std.proofs.lemmas.Bool.{cases_lt, cond-true, lt-ltb}
use Rattle.ov_host.specs.Disk.{Disk, Image, Leaves, Stored, as_read}
use Rattle.ov_host.specs.Host.{Rose, State}
use Rattle.ov_host.specs.Stage.{Files as Map, Staged}
use Rattle.ov_host.specs.Stops.{Only}
use Rattle.ov_host.specs.Tape.{clock, left_since}
use Rattle.ov_host.proofs.Stops.{only_left, only_start, only_then, only_wider}
use Rattle.ov_host.proofs.Writes.{settled_leaves}
use Rattle.ov_event.specs.declared.event.Event.{Event}
use Rattle.ov_event.specs.Spelling.{spelling}
use Rattle.ov_journal.specs.Held.{kept_by}
use Rattle.ov_journal.specs.Opened.{HasStood, IsMade}
use Rattle.ov_catalog.specs.Extents.{covers, live}
use Rattle.ov_catalog.specs.Raw.{numbers_in}
use Rattle.law_image.specs.Images.{StandsAs, StandsBy}
use Rattle.ov_core.specs.AtWorld.{IsAtWorld}
use Rattle.ov_core.specs.Held.{Held}
use Rattle.law_runs.proofs.Found.{found_start}
use Rattle.law_runs.proofs.Due.{is_due}
use Rattle.law_runs.proofs.Due.{begun_where}
use Rattle.law_runs.proofs.Runs.{halts_run, so_far_all, so_far_ends, so_far_halts, so_far_more, so_far_start}
use Rattle.law_runs.specs.Serving as course
use Rattle.law_runs.proofs.Lines.{line_leaves, line_licensed}
use Rattle.law_runs.specs.Serving.{Halts, Runs, Serves, SoFar, session_of}
use Rattle.law_runs.specs.Licence.{Licensed, LicensedLine, made_by}
use Rattle.law_runs.specs.Stops.{IsDue, IsFound, printed_of}
use Rattle.ov_model.specs.Act.{Session}
use Rattle.ov_model.proofs.Replying.{says_some}
use Rattle.ov_model.specs.Course.{Item, SaysSome, Space, line_served, play, served}
use Rattle.ov_model.specs.Forms.{all_forms}
use Rattle.ov_model.specs.Line.{Refused, line_of}
use Rattle.ov_model.specs.Words.{lines_of}
use Rattle.ov_model.specs.World.{World}
use Rattle.ov_model.specs.declared.refusal.Refusal.TheVariants.{LongLine}
use Rattle.ov_open.specs.Opening.{IsOpened, IsOutside, IsWorld}
use Rattle.ov_open.specs.Refusing.{Refuses}
use Rattle.ov_open.specs.declared.errors.OpenErr.{OpenErr}
use Rattle.ov_open.specs.declared.errors.OpenErr.TheVariants as opened
use Rattle.law_room.specs.Room.{Entry, IsWithin, Made}
use Rattle.ov_session.specs.Acting.{user_after}
use Rattle.ov_session.specs.Asking.{line_asked}
use Rattle.ov_session.specs.Commands.{Attended, IsNoDamage}
use Rattle.ov_session.specs.declared.errors.EndErr.{EndErr}
use Rattle.ov_session.specs.declared.errors.EndErr.TheVariants as ending
use Rattle.ov_session.specs.declared.serving.Served.{Served}
use Rattle.ov_script.specs.declared.reader.ReadErr.{ReadErr}
use Rattle.ov_script.specs.declared.reader.ReadErr.TheVariants as reading
use Rattle.ov_top.specs.declared.errors.RunErr.{RunErr}
use Rattle.ov_top.specs.declared.errors.RunErr.TheVariants as running
use Rattle.ov_top.specs.declared.status.Status.{Status}
use Rattle.ov_top.specs.declared.status.Status.TheVariants.{Memory}
use Rattle.ov_top.specs.Ending.{AreWords, Cause, Ends, HasOpened, IsEntry, IsTold, IsUndamaged, Keeps, Played, PlayedTaken, Plays, Stops, StepsBy, course_of, course_taken, lines_taken, session_at}
use Rattle.ov_top.specs.Errors.{by_reading, by_serving}
use Rattle.ov_args.specs.Words.{options_of}
use Rattle.ov_top.specs.Running.{ActsAfter, AllServed, IsHalted, IsReadWhole, IsRunDamage, IsUnharmed, MeetsDamage, ReadsDamage, Spent, status_by, status_by_opening, user_of_run}
use Rattle.ov_script.specs.Reader.{GivesLine, IsCutOff, IsNext, Taken, Took, ended_lines, has_feed, taken_of}
use Rattle.ov_script.proofs.Readers.{ended_at, next_lines, no_ended, taken_is}
use Rattle.ov_host.specs.Source.{Script}

-- ---- what is kept of a line says what it is

pub long_line : (line : List ℕ) → 65536 < length line → line_of all_forms line ≡ Refused LongLine
long_line line long = cond-true (nat_lt 65536 (length line)) (Refused LongLine) _ (lt-ltb 65536 (length line) long)

pub kept_line : (line : List ℕ) → line_of all_forms (take 65537 line) ≡ line_of all_forms line
kept_line line =
    elim (cases_lt 65537 (length line)) [
      | inl long ↦ long_line (take 65537 line) (omega (arith, length-take 65537 line)) ∙ sym (long_line line (omega arith))
      | inr short ↦ ap (line_of all_forms) (take_all 65537 line short)
    ]

pub serves_kept : (steps : ℕ) (w : World) (s t : Session) (line : List ℕ) (ok refused : Bool) (before now : Held) (old new : State)
    → Serves all_forms steps w s t (take 65537 line) ok refused before now old new → Serves all_forms steps w s t line ok refused before now old new
serves_kept steps w s t line ok refused before now old new x =
    record {
      used = x.used;
      did = x.did;
      acts = λ future none. ap (line_served steps w s (x.used ++ future)) (sym (kept_line line)) ∙ x.acts future none;
      licensed = λ entry past within future none. subst (LicensedLine steps entry past w s (x.used ++ future)) (kept_line line) (x.licensed entry past within future none);
      within = x.within;
      stops = x.stops;
      at = x.at;
      printed = x.printed;
      session_is = x.session_is;
      refused_is = x.refused_is;
    }

-- ---- from the opening on

nothing_spelled : (events : List Event) → [] ≡ map spelling events → events ≡ []
nothing_spelled [] e = refl
nothing_spelled (event ∷ events) e = absurd cc

no_numbers : (events : List Event) (held : Held) (page : ℕ) → events ≡ [] → held.numbers ≡ numbers_in events → 1 ≤ covers (live held.numbers) page → page < 0
no_numbers events held page none is covered =
    let nothing : live held.numbers ≡ [] = ap live (is ∙ ap numbers_in none)
    in let zero_ : covers (live held.numbers) page ≡ 0 = ap (λ es. covers es page) nothing
    in absurd (omega (arith, zero_, covered))

module _ (w : World) (d : Disk) (held : Held) (mid : State) (opened : IsOpened d held mid) (at : IsAtWorld w held mid) where
  -- what is kept right after opening is what the bytes at the entry say
  pub enters : (entry : Entry) → IsEntry entry (as_read d) → IsWithin entry [] held
  enters entry is = by opened.journal
    where
      by : HasStood d mid.tape.disk held.journal opened.payloads ⊎ IsMade d held.journal opened.payloads → IsWithin entry [] held
      by (inl stood) =
          let stands : StandsBy (kept_by held.journal at.payloads) at.events w (as_read d)
          = subst (StandsBy (kept_by held.journal at.payloads) at.events w) stood.same at.stands
          in record {
            pages = 0;
            bytes = 0;
            taken = (refl, refl);
            below = λ page covered.
                let bound = is.pages (kept_by held.journal at.payloads) at.events w stands page
                (subst (λ n. 1 ≤ covers (live n) page) at.numbers_are covered)
                in omega (arith, bound);
            within =
                let bound = is.end_ (kept_by held.journal at.payloads) at.events w stands
                in omega (arith, at.at.place, bound);
            epoch =
                let same = is.epoch (kept_by held.journal at.payloads) at.events w stands
                in omega (arith, same);
          }
      by (inr made) =
          let bound = is.unmade made.unmade
          in let place : held.journal.end ≡ 38 = ap (λ n. n.end) made.numbers_new
          in record {
            pages = 0;
            bytes = 0;
            taken = (refl, refl);
            below = λ page covered.
                let none = no_numbers opened.replays.events held page
                (nothing_spelled opened.replays.events (sym made.no_records ∙ opened.replays.written)) opened.replays.end covered
                in omega (arith, none);
            within = omega (arith, place, bound);
            epoch =
                let one : held.journal.epoch ≡ 1 = ap (λ n. n.epoch) made.numbers_new
                in let first = is.first_epoch made.unmade
                in omega (arith, one, first);
          }

  pub printed_still : printed_of mid ≡ d.printed
  printed_still = opened.settled.printed

module _ (w : World) (held : Held) (old mid new : State) (at : IsAtWorld w held mid) (still : printed_of mid ≡ printed_of old)
    (opening : Only old.tape mid.tape (IsWorld w (printed_of old))) (items : List Item) (says : SaysSome items) where
  -- a stop at any moment, in the words of the clock
  pub stops_due : Only mid.tape new.tape (IsFound w (printed_of mid) items) → (c : Image) → left_since new.tape (clock old.tape) c → IsDue w (printed_of old) items c
  stops_due running c left =
      let first : Only old.tape mid.tape (IsFound w (printed_of old) items)
      = only_wider old.tape mid.tape (IsWorld w (printed_of old)) (IsFound w (printed_of old) items) (λ c on. found_start w (printed_of old) items c on.stands on.printed_is) opening
      in let then : Only mid.tape new.tape (IsFound w (printed_of old) items)
      = subst (λ (p : List ℕ). Only mid.tape new.tape (IsFound w p items)) still running
      in is_due w (printed_of old) items c says
      (only_left old.tape new.tape (IsFound w (printed_of old) items) (only_then old.tape mid.tape new.tape (IsFound w (printed_of old) items) first then) c left)

-- where the store wasn't opened, a stop leaves the World as it was
pub stops_unopened : (w : World) (old new : State) (items : List Item) → SaysSome items → Only old.tape new.tape (IsWorld w (printed_of old))
    → (c : Image) → left_since new.tape (clock old.tape) c → IsDue w (printed_of old) items c
stops_unopened w old new items says opening c left =
    let on : IsWorld w (printed_of old) c = only_left old.tape new.tape (IsWorld w (printed_of old)) opening c left
    in is_due w (printed_of old) items c says (found_start w (printed_of old) items c on.stands on.printed_is)

-- ---- the lines

pub given_true : (ended b : Bool) (before now kept : List ℕ) → b ≡ true → GivesLine ended b before now kept → GivesLine ended true before now kept
given_true ended true before now kept e g = g
given_true ended false before now kept e g = cc

pub nothing_left : (ended b : Bool) (before unread left kept : List ℕ) → b ≡ false → GivesLine ended b before (unread ++ left) kept → left ≡ []
nothing_left ended true before unread left kept e g = cc
nothing_left ended false before [] left kept e g = g.1
nothing_left ended false before (x ∷ unread) left kept e g = cc

-- The lines that were served, of all and of those that are left. While the end wasn't seen, their bytes with their line feeds
-- stand in front of what is left.
pub record Gone (steps : ℕ) (w : World) (s t : Session) (all left : List ℕ) (ended failed : Bool) (before now : Held) (old new : State) : Type 0 where
  pub gone : List (List ℕ)
  pub whole : lines_of all ≡ gone ++ lines_of left
  pub bytes : ended ≡ false → (front : List ℕ) × (all ≡ front ++ left) × ((text : List ℕ) → ended_lines (front ++ text) ≡ gone ++ ended_lines text)
  pub acts : ActsAfter gone s.user t.user
  pub so : SoFar all_forms steps w s t gone failed before now old new

pub gone_start : (steps : ℕ) (w : World) (s : Session) (all : List ℕ) (held : Held) (st : State) → IsAtWorld w held st → Gone steps w s s all all false false held held st st
gone_start steps w s all held st at = record {
  gone = [];
  whole = refl;
  bytes = λ open_. ([], refl, λ text. refl);
  acts = refl;
  so = so_far_start all_forms steps w s held st at;
}

-- who acts behind a line more
pub acts_more : (gone : List (List ℕ)) (line first user next : List ℕ) (what : Served) → ActsAfter gone first user → next ≡ user_after (line_asked user line) what user
    → ActsAfter (gone ++ line ∷ []) first next
acts_more [] line first user next what same is = (what, is ∙ ap (λ (u : List ℕ). user_after (line_asked u line) what u) same)
acts_more (g ∷ gone) line first user next what acts is = (acts.0, acts_more gone line (user_after (line_asked first g) acts.0 first) user next what acts.1 is)

-- the bytes of a line more
fed_more : (front line text : List ℕ) → (front ++ (line ++ 10 ∷ [])) ++ text ≡ front ++ (line ++ 10 ∷ text)
fed_more front line text = append_assoc front (line ++ 10 ∷ []) text ∙ ap (λ (later : List ℕ). front ++ later) (append_assoc line (10 ∷ []) text)

bytes_more : (gone : List (List ℕ)) (all before now line : List ℕ) (ended ending : Bool) → (ended ≡ true → ending ≡ true)
    → (ended ≡ false → (front : List ℕ) × (all ≡ front ++ before) × ((text : List ℕ) → ended_lines (front ++ text) ≡ gone ++ ended_lines text))
    → IsNext ending line before now → ending ≡ false
    → (front : List ℕ) × (all ≡ front ++ now) × ((text : List ℕ) → ended_lines (front ++ text) ≡ (gone ++ line ∷ []) ++ ended_lines text)
bytes_more gone all before now line true ending stays bytes next open_ = let seen = stays refl in cc
bytes_more gone all before now line false ending stays bytes (plain, inr last) open_ = let seen = last.0 in cc
bytes_more gone all before now line false ending stays bytes (plain, inl feed) open_ =
    let so = bytes refl
    in (
      so.0 ++ (line ++ 10 ∷ []),
      so.1 ∙ ap (λ (b : List ℕ). so.0 ++ b) feed ∙ sym (fed_more so.0 line now),
      λ text.
          ap ended_lines (fed_more so.0 line text) ∙ so.2 (line ++ 10 ∷ text)
          ∙ ap (λ (ls : List (List ℕ)). gone ++ ls) (ended_at line text plain) ∙ sym (append_assoc gone (line ∷ []) (ended_lines text)),
    )

pub gone_more : (steps : ℕ) (w : World) (s t u : Session) (all left later line : List ℕ) (ended ending failed refused : Bool) (before now held : Held) (old mid new : State) (what : Served)
    → (so : Gone steps w s t all left ended failed before now old mid) → (ended ≡ true → ending ≡ true) → IsNext ending line left later
    → u.user ≡ user_after (line_asked t.user line) what t.user → Serves all_forms steps so.so.world t u line true refused now held mid new → Gone steps w s u all later ending (failed || refused) before held old new
gone_more steps w s t u all left later line ended ending failed refused before now held old mid new what so stays next acts serves = record {
  gone = so.gone ++ line ∷ [];
  whole = so.whole ∙ ap (λ (ls : List (List ℕ)). so.gone ++ ls) (next_lines ending line left later next) ∙ sym (append_assoc so.gone (line ∷ []) (lines_of later));
  bytes = λ open_. bytes_more so.gone all left later line ended ending stays so.bytes next open_;
  acts = acts_more so.gone line s.user t.user u.user what so.acts acts;
  so = so_far_more all_forms steps w s t so.gone line failed before now old mid so.so u refused held new serves;
}

-- it ends in a line
pub gone_ends : (steps : ℕ) (w : World) (s t u : Session) (all left later line : List ℕ) (ended ending failed refused : Bool) (before now held : Held) (old mid new : State)
    → (so : Gone steps w s t all left ended failed before now old mid) → IsNext ending line left later
    → Serves all_forms steps so.so.world t u line false refused now held mid new → Runs all_forms steps w s (lines_of all) before old new
gone_ends steps w s t u all left later line ended ending failed refused before now held old mid new so next serves =
    so_far_ends all_forms steps w s t so.gone line failed before now old mid so.so (lines_of all) (lines_of later)
    (so.whole ∙ ap (λ (ls : List (List ℕ)). so.gone ++ ls) (next_lines ending line left later next)) u refused held new serves

-- it ends at its last line
pub gone_all : (steps : ℕ) (w : World) (s t : Session) (all left : List ℕ) (ended failed : Bool) (before now : Held) (old new : State)
    → Gone steps w s t all left ended failed before now old new → lines_of left ≡ [] → course.Ends all_forms steps w s t (lines_of all) failed before now old new
gone_all steps w s t all left ended failed before now old new so none =
    so_far_all all_forms steps w s t (lines_of all) so.gone (lines_of left) failed before now old new so.whole none so.so

-- and someone acts who may behind all lines
pub gone_acts : (steps : ℕ) (w : World) (s t : Session) (all left : List ℕ) (ended failed : Bool) (before now : Held) (old new : State)
    → Gone steps w s t all left ended failed before now old new → lines_of left ≡ [] → ActsAfter (lines_of all) s.user t.user
gone_acts steps w s t all left ended failed before now old new so none =
    let same : so.gone ≡ lines_of all = sym (append-nil so.gone) ∙ ap (λ (ls : List (List ℕ)). so.gone ++ ls) (sym none) ∙ sym so.whole
    in subst (λ (ls : List (List ℕ)). ActsAfter ls s.user t.user) same so.acts

-- it ends in reading a line
gone_halts : (steps : ℕ) (w : World) (s t : Session) (left : List ℕ) (ended failed : Bool) (before now : Held) (old new : State) (script later : Script)
    → Gone steps w s t script.left left ended failed before now old new → (ended ≡ false) × (part : List ℕ) × (left ≡ part ++ later.left) × (has_feed part ≡ false)
    → ActsAfter (ended_lines (taken_of script later)) s.user t.user
    × Halts all_forms steps w s t (ended_lines (taken_of script later)) (lines_of script.left) failed before now old new
gone_halts steps w s t left ended failed before now old new script later so read =
    let front = so.bytes read.0
    in let whole : script.left ≡ front.0 ++ (read.1 ++ later.left) = front.1 ∙ ap (λ (b : List ℕ). front.0 ++ b) read.2
    in let taken : so.gone ≡ ended_lines (taken_of script later) =
    sym (append-nil so.gone) ∙ ap (λ (ls : List (List ℕ)). so.gone ++ ls) (sym (no_ended read.1 read.3)) ∙ sym (front.2 read.1)
    ∙ ap ended_lines (sym (taken_is front.0 read.1 script later whole))
    in subst (λ (ls : List (List ℕ)). ActsAfter ls s.user t.user × Halts all_forms steps w s t ls (lines_of script.left) failed before now old new) taken
    (so.acts, so_far_halts all_forms steps w s t (lines_of script.left) so.gone (lines_of left) so.whole failed before now old new so.so)

gone_runs : (steps : ℕ) (w : World) (s t : Session) (all left : List ℕ) (ended failed : Bool) (before now : Held) (old new : State)
    → Gone steps w s t all left ended failed before now old new → Runs all_forms steps w s (lines_of all) before old new
gone_runs steps w s t all left ended failed before now old new so =
    halts_run all_forms steps w s t so.gone (lines_of all) failed before now old new
    (so_far_halts all_forms steps w s t (lines_of all) so.gone (lines_of left) so.whole failed before now old new so.so)

-- ---- the lines of a run, at its ends

-- it ends where it begins
pub runs_start : (steps : ℕ) (w : World) (s : Session) (all : List ℕ) (held : Held) (st : State) → IsAtWorld w held st → Runs all_forms steps w s (lines_of all) held st st
runs_start steps w s all held st at = gone_runs steps w s s all all false false held held st st (gone_start steps w s all held st at)

-- it ends in reading the next line
pub ends_reading : (steps : ℕ) (w : World) (s : Session) (files : Map) (user : List ℕ) (e : ReadErr) (reader : Taken) (left : List ℕ) (failed : Bool) (before now : Held) (old new : State) (script later : Script) (still : Type 0)
    → Gone steps w s (session_of files user) script.left left reader.ended failed before now old new → IsCutOff e reader left later
    → AllServed steps w s files (lines_of script.left) (ended_lines (taken_of script later)) still (Err (by_reading e)) before old new
ends_reading steps w s files user reading.Input reader left failed before now old new script later still so cut =
    let halts = gone_halts steps w s (session_of files user) left reader.ended failed before now old new script later so cut
    in (gone_runs steps w s (session_of files user) script.left left reader.ended failed before now old new so, λ same. (now, failed, user, halts.0, halts.1))
ends_reading steps w s files user reading.Memory reader left failed before now old new script later still so cut =
    gone_runs steps w s (session_of files user) script.left left reader.ended failed before now old new so
ends_reading steps w s files user reading.TooLong reader left failed before now old new script later still so cut =
    let halts = gone_halts steps w s (session_of files user) left reader.ended failed before now old new script later so cut
    in (now, failed, user, halts.0, halts.1)

-- it ends in serving a line
pub ends_serving : (steps : ℕ) (w : World) (s : Session) (files : Map) (lines taken : List (List ℕ)) (still : Type 0) (e : EndErr) (before : Held) (old new : State) → IsNoDamage e
    → (e ≡ ending.Stage → still → ⊥) → Runs all_forms steps w s lines before old new
    → AllServed steps w s files lines taken still (Err (by_serving e)) before old new
ends_serving steps w s files lines taken still ending.Host before old new fine rose runs = runs
ends_serving steps w s files lines taken still ending.Stage before old new fine rose runs = (runs, λ same. absurd (rose refl same))
ends_serving steps w s files lines taken still ending.Memory before old new fine rose runs = runs
ends_serving steps w s files lines taken still (ending.Damaged area at) before old new fine rose runs = absurd fine

-- there are no more lines
pub no_lines : (ended b : Bool) (before now kept : List ℕ) → b ≡ false → GivesLine ended b before now kept → lines_of before ≡ []
no_lines ended true before now kept e g = cc
no_lines ended false before now kept e g = ap lines_of g.0

-- ---- a whole run

module _ (steps : ℕ) (w : World) (old mid new : Ends) (told : IsTold w old) (held : Held) (opened : IsOpened old.host.tape.disk held mid.host) (at : IsAtWorld w held mid.host)
    (opening : Only old.host.tape mid.host.tape (IsWorld w (printed_of old.host))) (stage_same : mid.stage.files ≡ old.stage.files) (script_same : mid.script.left ≡ old.script.left) where
  abbrev items_of : Space → List Item
  items_of space = (course_of steps w old space).items

  some : (space : Space) → SaysSome (items_of space)
  some space = says_some all_forms steps w (session_at old) (lines_of old.script.left) space (begun_where w (as_read old.host.tape.disk) told.stands)

  stops_by : (space : Space) → Only mid.host.tape new.host.tape (IsFound w (printed_of mid.host) (items_of space))
      → (c : Image) → left_since new.host.tape (clock old.host.tape) c → IsDue w (printed_of old.host) (items_of space) c
  stops_by space running = stops_due w held old.host mid.host new.host at opened.settled.printed opening (items_of space) (some space) running

  pub stops_of : Runs all_forms steps w (session_at old) (lines_of old.script.left) held mid.host new.host → Stops steps w old new
  stops_of runs = record {
    space = runs.space;
    licensed = λ entry is. runs.licensed entry (enters w old.host.tape.disk held mid.host opened at entry is);
    stops = stops_by runs.space runs.stops;
  }

  pub played_of : (failed : Bool) (now : Held) (user : List ℕ) → ActsAfter (lines_of old.script.left) user_of_run user → course.Ends all_forms steps w (session_at old) (session_of new.stage.files user) (lines_of old.script.left) failed held now mid.host new.host
      → Played steps w failed old new
  played_of failed now user acts ends = record {
    space = ends.space;
    licensed = λ entry is. ends.licensed entry (enters w old.host.tape.disk held mid.host opened at entry is);
    stops = stops_by ends.space ends.stops;
    printed = ends.printed ∙ ap (λ (text : List ℕ). text ++ play (items_of ends.space)) opened.settled.printed;
    settled = record { pages = ends.at.rest.rest; journal = ends.at.at.rest };
    stands = inr (record { kept = kept_by now.journal ends.at.payloads; events = ends.at.events; by = ends.at.stands });
    user = user;
    acts = acts;
    files = sym ends.session_is;
    failed_is = ends.failed_is;
  }

  taken_of_halts : IsHalted steps w (session_at old) new.stage.files (lines_taken old new) (lines_of old.script.left) held mid.host new.host → PlayedTaken steps w old new
  taken_of_halts (now, failed, user, acts, halts) = record {
    space = halts.space;
    licensed = λ entry is. halts.licensed entry (enters w old.host.tape.disk held mid.host opened at entry is);
    stops = stops_by halts.space halts.stops;
    printed = halts.printed ∙ ap (λ (text : List ℕ). text ++ play (course_taken steps w old new halts.space).items) opened.settled.printed;
    settled = record { pages = halts.at.rest.rest; journal = halts.at.at.rest };
    stands = inr (record { kept = kept_by now.journal halts.at.payloads; events = halts.at.events; by = halts.at.stands });
    user = user;
    acts = acts;
    files = sym halts.session_is;
  }

  plays_by : (result : Result Bool RunErr) → AllServed steps w (session_at old) new.stage.files (lines_of old.script.left) (lines_taken old new)
      (Rose old.stage.faults new.stage.faults → ⊥) result held mid.host new.host
      → Plays (status_by result) steps w old new
  plays_by (Ok false) all = played_of false all.0 all.1 all.2 all.3
  plays_by (Ok true) all = played_of true all.0 all.1 all.2 all.3
  plays_by (Err running.Host) all = stops_of all
  plays_by (Err running.Input) (runs, halts) = (stops_of runs, λ still. taken_of_halts (halts still))
  plays_by (Err running.Memory) all = stops_of all
  plays_by (Err running.TooLong) all = taken_of_halts all
  plays_by (Err (running.Damaged area at_)) all = absurd all

  pub plays_status : (status : Status) (result : Result Bool RunErr) → status ≡ status_by result
      → AllServed steps w (session_at old) new.stage.files (lines_of old.script.left) (lines_taken old new) (Rose old.stage.faults new.stage.faults → ⊥) result held mid.host new.host
      → Plays status steps w old new
  plays_status status result is all = subst (λ (x : Status). Plays x steps w old new) (sym is) (plays_by result all)

-- ---- a store that wasn't opened

licensed_none : (entry : Entry) (past : List Made) (n : ℕ) (w : World) (s : Session) (lines : List (List ℕ)) → Licensed entry past all_forms n w s lines []
licensed_none entry past n w s [] = tt
licensed_none entry past n w s (line ∷ lines) = (
  line_licensed n entry past w s (line_of all_forms line),
  subst (λ (space : Space). Licensed entry (past ++ made_by w (served all_forms n w s line []).items) all_forms n
      (served all_forms n w s line []).world (served all_forms n w s line []).session lines space) (sym (line_leaves n w s (line_of all_forms line)))
      (licensed_none entry (past ++ made_by w (served all_forms n w s line []).items) n (served all_forms n w s line []).world (served all_forms n w s line []).session lines),
)

module _ (steps : ℕ) (w : World) (old new : Ends) (told : IsTold w old) (opening : Only old.host.tape new.host.tape (IsWorld w (printed_of old.host))) where
  stops_none : Stops steps w old new
  stops_none = record {
    space = [];
    licensed = λ entry is. licensed_none entry [] steps w (session_at old) (lines_of old.script.left);
    stops = stops_unopened w old.host new.host (course_of steps w old []).items
        (says_some all_forms steps w (session_at old) (lines_of old.script.left) [] (begun_where w (as_read old.host.tape.disk) told.stands)) opening;
  }

  plays_opening : (off : OpenErr) → IsOutside off → Plays (status_by_opening off) steps w old new
  plays_opening opened.Host is = stops_none
  plays_opening opened.Memory is = stops_none
  plays_opening opened.NotAStore is = absurd is
  plays_opening (opened.Format found) is = absurd is
  plays_opening (opened.Damaged area at) is = absurd is

  pub plays_unopened : (status : Status) (off : OpenErr) → status ≡ status_by_opening off → IsOutside off → Plays status steps w old new
  plays_unopened status off is outside = subst (λ (x : Status). Plays x steps w old new) (sym is) (plays_opening off outside)

  pub plays_memory : Plays Memory steps w old new
  plays_memory = stops_none

cause_opening : (off : OpenErr) (words : List (List ℕ)) (old new : Ends) → AreWords words → (off ≡ opened.Host → Rose old.host.faults new.host.faults)
    → (old.host.tells ≡ true → Refuses off old.host.tape.disk new.host.tape.disk) → new.script ≡ old.script → new.stage ≡ old.stage → Cause (status_by_opening off) words old new
cause_opening opened.Host words old new are rose refuses same still = (are, rose refl)
cause_opening opened.Memory words old new are rose refuses same still = λ none. absurd (are none)
cause_opening opened.NotAStore words old new are rose refuses same still = (are, record { refuses = refuses; script_same = same; stage_same = still })
cause_opening (opened.Format found) words old new are rose refuses same still = (are, record { refuses = refuses; script_same = same; stage_same = still })
cause_opening (opened.Damaged area at) words old new are rose refuses same still = (are, inl (record { refuses = refuses; script_same = same; stage_same = still }))

pub cause_unopened : (status : Status) (off : OpenErr) (words : List (List ℕ)) (old new : Ends) → status ≡ status_by_opening off → AreWords words → (off ≡ opened.Host → Rose old.host.faults new.host.faults)
    → (old.host.tells ≡ true → Refuses off old.host.tape.disk new.host.tape.disk) → new.script ≡ old.script → new.stage ≡ old.stage → Cause status words old new
cause_unopened status off words old new is are rose refuses same still = subst (λ (x : Status). Cause x words old new) (sym is) (cause_opening off words old new are rose refuses same still)

-- ---- a store that was opened

-- where a count rose in the end, it rose in all
pub rose_in_all : (old mid new : ℕ) → old ≤ mid → Rose mid new → Rose old new
rose_in_all old mid new so_far rose = omega (arith, so_far, rose)

-- there are words
pub are_words : (words : List (List ℕ)) (o : List ℕ × ℕ) → options_of words ≡ Some o → AreWords words
are_words words o is none = cc

module _ (words : List (List ℕ)) (o : List ℕ × ℕ) (asked : options_of words ≡ Some o) (old mid new : Ends) (opens : HasOpened old) (so_far : old.host.faults ≤ mid.host.faults) where
  are : AreWords words
  are = are_words words o asked

  met_by : (page : ℕ) → MeetsDamage o.1 old.script new.stage new.host page → ReadsDamage old.script new.stage new.host page ⊎ StepsBy words old new page
  met_by page (inl line) = inl line
  met_by page (inr step) = inr (o, asked, step)

  cause_ran : (ran : Result Bool RunErr) → (IsErrOf ran running.Host → Rose mid.host.faults new.host.faults)
      → (IsErrOf ran running.Input → Rose old.script.faults new.script.faults ⊎ Rose old.stage.faults new.stage.faults)
      → IfErr ran (IsRunDamage o.1 old.script new.stage new.host)
      → (IsErrOf ran running.TooLong → old.script.tells ≡ true → length old.script.left ≡ length new.script.left + 2 ^ 32)
      → (old.script.tells ≡ true → IsOk ran → IsReadWhole old.script new.script)
      → Cause (status_by ran) words old new
  cause_ran (Ok false) host input damaged long whole = (are, opens, λ told. whole told refl)
  cause_ran (Ok true) host input damaged long whole = (are, opens, λ told. whole told refl)
  cause_ran (Err running.Host) host input damaged long whole =
      let rose = host refl in (are, rose_in_all old.host.faults mid.host.faults new.host.faults so_far rose)
  cause_ran (Err running.Input) host input damaged long whole = (are, opens, input refl)
  cause_ran (Err running.Memory) host input damaged long whole = λ none. absurd (are none)
  cause_ran (Err (running.Damaged area at)) host input damaged long whole =
      (are, inr (opens, damaged.0, met_by at damaged.1))
  cause_ran (Err running.TooLong) host input damaged long whole = (are, opens, long refl)

  pub cause_opened : (status : Status) (ran : Result Bool RunErr) → status ≡ status_by ran → (IsErrOf ran running.Host → Rose mid.host.faults new.host.faults)
      → (IsErrOf ran running.Input → Rose old.script.faults new.script.faults ⊎ Rose old.stage.faults new.stage.faults)
      → IfErr ran (IsRunDamage o.1 old.script new.stage new.host)
      → (IsErrOf ran running.TooLong → old.script.tells ≡ true → length old.script.left ≡ length new.script.left + 2 ^ 32)
      → (old.script.tells ≡ true → IsOk ran → IsReadWhole old.script new.script)
      → Cause status words old new
  cause_opened status ran is host input damaged long whole =
      subst (λ (x : Status). Cause x words old new) (sym is) (cause_ran ran host input damaged long whole)

-- ---- no damage

undamaged_ran : (ran : Result Bool RunErr) → IfErr ran IsUnharmed → IsUndamaged (status_by ran)
undamaged_ran (Ok false) is = tt
undamaged_ran (Ok true) is = tt
undamaged_ran (Err running.Host) is = tt
undamaged_ran (Err running.Input) is = tt
undamaged_ran (Err running.Memory) is = tt
undamaged_ran (Err running.TooLong) is = tt
undamaged_ran (Err (running.Damaged area at)) is = absurd is

pub undamaged_opened : (status : Status) (ran : Result Bool RunErr) → status ≡ status_by ran → IfErr ran IsUnharmed → IsUndamaged status
undamaged_opened status ran is fine = subst IsUndamaged (sym is) (undamaged_ran ran fine)

undamaged_opening : (off : OpenErr) → IsOutside off → IsUndamaged (status_by_opening off)
undamaged_opening opened.Host is = tt
undamaged_opening opened.Memory is = tt
undamaged_opening opened.NotAStore is = absurd is
undamaged_opening (opened.Format found) is = absurd is
undamaged_opening (opened.Damaged area at) is = absurd is

pub undamaged_unopened : (status : Status) (off : OpenErr) → status ≡ status_by_opening off → IsOutside off → IsUndamaged status
undamaged_unopened status off is outside = subst IsUndamaged (sym is) (undamaged_opening off outside)

-- ---- what a run keeps

pub spent_still : (script : Script) → Spent script script
spent_still script = record { told = refl; faults = omega arith; taken = λ told. omega arith }

pub attended_still : (stage : Staged) → Attended stage stage
attended_still stage = record { told = refl; faults = omega arith; misses = omega arith }

pub keeps_still : (ends : Ends) → Keeps ends ends
keeps_still ends = record {
  host = record { told = refl; kept = refl; faults = omega arith; fetched = omega arith };
  script = spent_still ends.script;
  stage = attended_still ends.stage;
}

pub spent_by : (first mid last : Script) (before now : Taken) → mid.tells ≡ first.tells → first.faults ≤ mid.faults
    → (first.tells ≡ true → length first.left ≡ length mid.left + before.count) → Took before now mid last → now.count ≤ 2 ^ 32 → Spent first last
spent_by first mid last before now told faults counted took bounded = record {
  told = took.told ∙ told;
  faults = omega (arith, faults, took.faults);
  taken = λ tells.
      let so_far = counted tells
      in let more = took.counted (told ∙ tells)
      in omega (arith, so_far, more, bounded);
}

pub read_whole : (first mid last : Script) (before now : Taken) → length first.left ≡ length mid.left + before.count
    → length mid.left + before.count ≡ length last.left + now.count → now.count < 2 ^ 32 → last.left ≡ [] → IsReadWhole first last
read_whole first mid last before now so_far more below none = record {
  left = none;
  fewer = let nothing : length last.left ≡ 0 = ap length none in omega (arith, so_far, more, below, nothing);
}

-- where no end was called, a stop leaves the World as it was
pub still_world : (w : World) (ends : Ends) → IsTold w ends → Only ends.host.tape ends.host.tape (IsWorld w (printed_of ends.host))
still_world w ends told =
    only_start ends.host.tape (IsWorld w (printed_of ends.host)) (λ c left.
    let pages : c.pages ≡ ends.host.tape.disk.pages.bytes
    = settled_leaves ends.host.tape.disk.pages.bytes c.pages (subst (λ (a : Stored). Leaves a c.pages) told.settled.pages left.pages)
    in let journal : c.journal ≡ ends.host.tape.disk.journal.bytes
    = settled_leaves ends.host.tape.disk.journal.bytes c.journal (subst (λ (a : Stored). Leaves a c.journal) told.settled.journal left.journal)
    in let same : c ≡ as_read ends.host.tape.disk = λ i. record { pages = pages i; journal = journal i; printed = left.printed i }
    in record { stands = subst (StandsAs w) (sym same) told.stands; printed_is = left.printed })

-- ---- a line, as it was kept

pub serves_as : (steps : ℕ) (w : World) (s t : Session) (x kept line : List ℕ) (ok refused : Bool) (before now : Held) (old new : State) → x ≡ kept → kept ≡ take 65537 line
    → Serves all_forms steps w s t x ok refused before now old new → Serves all_forms steps w s t line ok refused before now old new
serves_as steps w s t x kept line ok refused before now old new value keeps serves =
    serves_kept steps w s t line ok refused before now old new
    (subst (λ (l : List ℕ). Serves all_forms steps w s t l ok refused before now old new) (value ∙ keeps) serves)

pub not_seen : (b : Bool) → b ≡ true → b ≡ false → ⊥
not_seen true seen open_ = cc
not_seen false seen open_ = cc

-- the first user is a user
pub admin_is_name : IsTrue (is_name (codes "admin"))
unfolding is_name
admin_is_name = refl

-- what a `?` hands on
pub err_is : (r : Result Bool RunErr) (x : RunErr) → IsErr r → IsErrAnd r (λ y. y ≡ x) → r ≡ Err x
err_is (Ok b) x fails is = absurd is
err_is (Err y) x fails is = ap Err is

-- the words ask for one number of steps
pub steps_same : (folder : List ℕ) (steps : ℕ) (o : List ℕ × ℕ) → Some (folder, steps) ≡ Some o → steps ≡ o.1
steps_same folder steps o is = ap (λ (asked : Option (List ℕ × ℕ)). elim asked as (λ _. ℕ) [ None ↦ 0 | Some pair ↦ pair.1 ]) is
