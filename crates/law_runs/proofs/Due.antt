-- From a place among what was to be done and said to the replies that are printed whole, and the World that is due then.
use Rattle.std.proofs.Common.{inl, inr, ◌≡◌, ◌≤◌, ◌+◌, ℕ, zero, suc, Bool, true, false, ◌==◌, List, [], ◌∷◌, ◌++◌, length, drop, refl, sym, ◌∙◌, ap, subst, arith, append_assoc, length-append}
use Rattle.std.specs.Prelude.{◌≢◌, if◌then◌else◌}
use Rattle.std.proofs.lemmas.Bool.{eq-eqb}
use Rattle.ov_host.specs.Disk.{Image}
use Rattle.ov_host.specs.Host.{State}
use Rattle.ov_host.specs.Stops.{Only}
use Rattle.ov_host.specs.Tape.{Tape, clock, left_since}
use Rattle.ov_host.proofs.Stops.{only_left}
use Rattle.ov_model.specs.Act.{Session}
use Rattle.ov_model.specs.Course.{Item, Makes, Says, SaysSome, Space, begins, course, due, moves_of, play, whole, world_after, world_at}
use Rattle.ov_model.specs.Forms.{Form}
use Rattle.ov_model.specs.Moves.{Move, moved}
use Rattle.ov_model.specs.Replies.{reply_text}
use Rattle.ov_model.specs.World.{AllBegun, World, empty_world_of}
use Rattle.ov_model.specs.declared.reply.Reply.{Reply}
use Rattle.ov_model.proofs.Courses.{play_append}
use Rattle.ov_model.proofs.Replying.{begun_moved, says_some}
use Rattle.ov_catalog.specs.Reached.{ByMove, Leads, OldCheckpoint, Past, Reached, passed}
use Rattle.ov_core.specs.AtWorld.{IsAtWorld}
use Rattle.ov_core.specs.Held.{Held}
use Rattle.law_image.specs.Images.{StandsAs}
use Rattle.law_runs.specs.Serving.{Runs}
use Rattle.law_runs.specs.Stops.{IsDue, IsFound, IsPartOfNext, printed_of}

-- ---- texts

begins_front : (text more : List ℕ) → begins (text ++ more) text ≡ true
begins_front [] more = refl
begins_front (b ∷ text) more = by (b == b) (eq-eqb b b refl) (begins_front text more)
  where
    by : (same : Bool) → same ≡ true → begins (text ++ more) text ≡ true → (if same then begins (text ++ more) text else false) ≡ true
    by true is rest = rest
    by false is rest = absurd cc

begins_long : (x text : List ℕ) → begins x text ≡ true → length text ≤ length x
begins_long x [] is = omega arith
begins_long [] (b ∷ text) is = absurd cc
begins_long (a ∷ x) (b ∷ text) is = by (a == b) is (λ rest. begins_long x text rest)
  where
    by : (same : Bool) → (if same then begins x text else false) ≡ true → (begins x text ≡ true → length text ≤ length x) → length (b ∷ text) ≤ length (a ∷ x)
    by true rest long = omega (arith, long rest)
    by false none long = absurd cc

drop_front : (text more : List ℕ) → drop (length text) (text ++ more) ≡ more
drop_front [] more = refl
drop_front (b ∷ text) more = drop_front text more

drop_all : (n : ℕ) (x : List ℕ) → length x ≤ n → drop n x ≡ []
drop_all zero [] long = refl
drop_all zero (b ∷ x) long = absurd (omega (arith, long))
drop_all (suc n) [] long = refl
drop_all (suc n) (b ∷ x) long = drop_all n x (omega (arith, long))

-- ---- the replies that are whole

none_begins : (text : List ℕ) → text ≢ [] → begins [] text ≡ false
none_begins [] some = absurd (some refl)
none_begins (b ∷ text) some = refl

-- none is whole in no text
none_whole : (items : List Item) → SaysSome items → whole items [] ≡ 0
none_whole [] some = refl
none_whole (Makes m ∷ items) some = none_whole items some
none_whole (Says reply ∷ items) some =
    ap (λ (b : Bool). let n : ℕ = (if b then whole items (drop (length (reply_text reply)) []) + 1 else 0) in n) (none_begins (reply_text reply) some.0)

-- one more, in front
more_whole : (reply : Reply) (items : List Item) (x : List ℕ) → whole (Says reply ∷ items) (reply_text reply ++ x) ≡ suc (whole items x)
more_whole reply items x =
    ap (λ (b : Bool). let n : ℕ = (if b then whole items (drop (length (reply_text reply)) (reply_text reply ++ x)) + 1 else 0) in n) (begins_front (reply_text reply) x)
    ∙ ap (λ (rest : List ℕ). whole items rest + 1) (drop_front (reply_text reply) x)
    ∙ omega arith

-- ---- the moves that are due

-- so many moves are due between so many replies and the next one
record IsBetween (j k : ℕ) (items : List Item) : Type 0 where
  low : due j items ≤ k
  high : k ≤ due (suc j) items

none_due : (j : ℕ) (items : List Item) → j ≡ 0 → due j items ≤ 0
none_due j items none = let zero_due : due j items ≡ 0 = ap (λ (i : ℕ). due i items) none in omega (arith, zero_due)

-- after a move
between_move : (j k : ℕ) (items : List Item) (m : Move) → IsBetween j k items → IsBetween j (suc k) (Makes m ∷ items)
between_move zero k items m is = record { low = omega arith; high = omega (arith, is.high) }
between_move (suc j) k items m is = record { low = omega (arith, is.low); high = omega (arith, is.high) }

-- after a reply
between_reply : (j k : ℕ) (items : List Item) (reply : Reply) → IsBetween j k items → IsBetween (suc j) k (Says reply ∷ items)
between_reply zero k items reply is = record { low = omega arith; high = is.high }
between_reply (suc j) k items reply is = record { low = is.low; high = is.high }

-- part of the first reply, or nothing, and no move
at_first : (part : List ℕ) (after : List Item) → SaysSome after → IsPartOfNext part after → due (whole after part) after ≤ 0
at_first part [] some none = omega arith
at_first part (Makes m ∷ after) some none =
    none_due (whole (Makes m ∷ after) part) (Makes m ∷ after) (ap (whole after) none ∙ none_whole after some)
at_first part (Says reply ∷ after) some next = by (begins part (reply_text reply)) refl
  where
    by : (b : Bool) → begins part (reply_text reply) ≡ b → due (if b then whole after (drop (length (reply_text reply)) part) + 1 else 0) (Says reply ∷ after) ≤ 0
    by true is =
        let size : length (part ++ next.0) ≡ length (reply_text reply) = ap length next.1
        in let short : length part ≤ length (reply_text reply) = omega (arith, size, length-append part next.0)
        in let gone : whole after (drop (length (reply_text reply)) part) ≡ 0 = ap (whole after) (drop_all (length (reply_text reply)) part short) ∙ none_whole after some.1
        in let one : whole after (drop (length (reply_text reply)) part) + 1 ≡ suc zero = omega (arith, gone)
        in let none : due (whole after (drop (length (reply_text reply)) part) + 1) (Says reply ∷ after) ≡ 0 = ap (λ (j : ℕ). due j (Says reply ∷ after)) one
        in omega (arith, none)
    by false is = omega arith

between : (before : List Item) (part : List ℕ) (after : List Item) → SaysSome (before ++ after) → IsPartOfNext part after
    → IsBetween (whole (before ++ after) (play before ++ part)) (length (moves_of before)) (before ++ after)
between [] part after some next = record { low = at_first part after some next; high = omega arith }
between (Makes m ∷ before) part after some next =
    between_move (whole (before ++ after) (play before ++ part)) (length (moves_of before)) (before ++ after) m (between before part after some next)
between (Says reply ∷ before) part after some next =
    let k : ℕ = length (moves_of before)
    in let x : List ℕ = play before ++ part
    in let count : suc (whole (before ++ after) (play before ++ part)) ≡ whole (Says reply ∷ (before ++ after)) ((reply_text reply ++ play before) ++ part) =
    sym (ap (whole (Says reply ∷ (before ++ after))) (append_assoc (reply_text reply) (play before) part) ∙ more_whole reply (before ++ after) (play before ++ part))
    in subst (λ (j : ℕ). IsBetween j (length (moves_of before)) (Says reply ∷ (before ++ after))) count
    (between_reply (whole (before ++ after) (play before ++ part)) (length (moves_of before)) (before ++ after) reply (between before part after some.1 next))

-- ---- the World

at_says : (w : World) (reply : Reply) (items : List Item) (k : ℕ) → world_at w (Says reply ∷ items) k ≡ world_at w items k
at_says w reply items zero = refl
at_says w reply items (suc k) = refl

world_there : (w : World) (before after : List Item) → world_at w (before ++ after) (length (moves_of before)) ≡ world_after w before
world_there w [] after = refl
world_there w (Makes m ∷ before) after = world_there (moved m w) before after
world_there w (Says reply ∷ before) after = at_says w reply (before ++ after) (length (moves_of before)) ∙ world_there w before after

-- ---- what is still to be printed

rest_of : (part : List ℕ) (after : List Item) → IsPartOfNext part after → (missing : List ℕ) × (part ++ missing ≡ play after)
rest_of part [] none = ([], ap (λ (p : List ℕ). p ++ []) none)
rest_of part (Makes m ∷ after) none = (play after, ap (λ (p : List ℕ). p ++ play after) none)
rest_of part (Says reply ∷ after) next =
    (next.0 ++ play after, sym (append_assoc part next.0 (play after)) ∙ ap (λ (text : List ℕ). text ++ play after) next.1)

due_at : (w : World) (printed : List ℕ) (before after : List Item) (part : List ℕ) (c : Image) → SaysSome (before ++ after) → IsPartOfNext part after
    → StandsAs (world_after w before) c → c.printed ≡ printed ++ (play before ++ part) → IsDue w printed (before ++ after) c
due_at w printed before after part c some next stands printed_is =
    let rest = rest_of part after next
    in let is : IsBetween (whole (before ++ after) (play before ++ part)) (length (moves_of before)) (before ++ after) = between before part after some next
    in let one : suc (whole (before ++ after) (play before ++ part)) ≡ whole (before ++ after) (play before ++ part) + 1 = omega arith
    in record {
      x = play before ++ part;
      printed_is = printed_is;
      missing = rest.0;
      prefix = append_assoc (play before) part rest.0 ∙ ap (λ (text : List ℕ). play before ++ text) rest.1 ∙ sym (play_append before after);
      k = length (moves_of before);
      low = is.low;
      high = subst (λ (j : ℕ). length (moves_of before) ≤ due j (before ++ after)) one is.high;
      stands = subst (λ (v : World). StandsAs v c) (sym (world_there w before after)) stands;
    }

pub is_due : (w : World) (printed : List ℕ) (items : List Item) (c : Image) → SaysSome items → IsFound w printed items c → IsDue w printed items c
is_due w printed items c some found =
    subst (λ (all : List Item). IsDue w printed all c) (sym found.split)
    (due_at w printed found.before found.after found.part c (subst SaysSome found.split some) found.next found.stands found.printed_is)

-- ---- a run from a World that moves lead to

begun_passed : (p : Past) (w : World) → AllBegun w.sets → AllBegun (passed p w).sets
begun_passed (ByMove m) w begun = begun_moved w m begun
begun_passed OldCheckpoint w begun = begun

begun_leads : (ps : List Past) (v w : World) → Leads v ps w → AllBegun v.sets → AllBegun w.sets
begun_leads [] v w same begun = subst (λ (u : World). AllBegun u.sets) same begun
begun_leads (p ∷ ps) v w leads begun = begun_leads ps (passed p v) w leads.1 (begun_passed p v begun)

-- each dataset of such a World has a version
pub begun : (w : World) → Reached w → AllBegun w.sets
begun w reached = begun_leads reached.2 (empty_world_of reached.0) w reached.3 tt

-- so it is with one that an image stands for
pub begun_where : (w : World) (c : Image) → StandsAs w c → AllBegun w.sets
begun_where w c (inl new) = subst (λ (u : World). AllBegun u.sets) (sym new.world) tt
begun_where w c (inr made) = begun w made.by.stands.reached

module _ (forms : List Form) where
  -- what a stop at some moment may have left is due
  pub stops_are_due : (n : ℕ) (w : World) (s : Session) (lines : List (List ℕ)) (space : Space) (printed : List ℕ) (old new : Tape) → AllBegun w.sets
      → Only old new (IsFound w printed (course forms n w s lines space).items)
      → (c : Image) → left_since new (clock old) c → IsDue w printed (course forms n w s lines space).items c
  stops_are_due n w s lines space printed old new has stops c left =
      is_due w printed (course forms n w s lines space).items c (says_some forms n w s lines space has)
      (only_left old new (IsFound w printed (course forms n w s lines space).items) stops c left)

  pub run_is_due : (n : ℕ) (w : World) (s : Session) (lines : List (List ℕ)) (before : Held) (old new : State) → IsAtWorld w before old → (runs : Runs forms n w s lines before old new)
      → (c : Image) → left_since new.tape (clock old.tape) c → IsDue w (printed_of old) (course forms n w s lines runs.space).items c
  run_is_due n w s lines before old new at runs c left =
      stops_are_due n w s lines runs.space (printed_of old) old.tape new.tape (begun w at.stands.stands.reached) runs.stops c left
