-- Steps that are taken one after another.
use Rattle.std.proofs.Common.{◌≡◌, ◌+◌, ℕ, zero, suc, true, false, List, [], ◌∷◌, ◌++◌, length, refl, sym, ◌∙◌, ap, subst, append-nil, append_assoc, length-append, arith}
use Rattle.std.specs.Prelude.{Option, Some, None}
use Rattle.std.proofs.lemmas.List.{map-append}
use Rattle.ov_host.specs.Host.{State}
use Rattle.ov_host.specs.Stops.{Only}
use Rattle.ov_model.specs.Act.{Session}
use Rattle.ov_model.specs.Course.{Enough, Full, Item, Makes, NoRun, Room, Served, Space, after, nothing, step_by, steps, world_after}
use Rattle.ov_model.specs.Moves.{Move, moved}
use Rattle.ov_model.specs.Steps.{and_after, next_step, next_steps}
use Rattle.ov_model.specs.World.{World}
use Rattle.ov_core.specs.AtWorld.{IsAtWorld, IsEither}
use Rattle.ov_core.specs.Held.{Held}
use Rattle.law_room.specs.Room.{Entry, IsWithin, LacksRecord, LacksRun, Made}
use Rattle.law_runs.specs.Licence.{LicensedRoom, LicensedStep, LicensedSteps, made_by}
use Rattle.law_runs.specs.Moving.{IsMoved}
use Rattle.law_runs.specs.Stepping.{IsStepped, IsStepping}
use Rattle.law_runs.specs.Stops.{IsFound, printed_of}
use Rattle.law_runs.proofs.Doing.{within_still}
use Rattle.law_runs.proofs.Found.{at_same_tape, looked_found}
use Rattle.law_runs.proofs.Lines.{steps_licensed}
use Rattle.law_runs.proofs.Moving.{enough, made, stops_here, stops_next, within_more, world_more}
use Rattle.law_runs.proofs.Steps.{idle_is_licensed, no_steps}

-- ---- the steps that come next

-- none where no plan runs
pub none_next : (n : ℕ) (w : World) → next_step w ≡ None → next_steps n w ≡ []
none_next zero w none = refl
none_next (suc n) w none = ap (and_after (next_steps n) w) none

-- the next one, and then those behind it
pub one_next : (n : ℕ) (w : World) (m : Move) → next_step w ≡ Some m → next_steps (suc n) w ≡ m ∷ next_steps n (moved m w)
one_next n w m is = ap (and_after (next_steps n) w) is

-- a step that is among them is the next one
first_next : (n : ℕ) (w : World) (m : Move) (ms : List Move) → next_steps (suc n) w ≡ m ∷ ms → (next_step w ≡ Some m) × (next_steps n (moved m w) ≡ ms)
first_next n w m ms e = by (next_step w) refl e
  where
    by : (next : Option Move) → next_step w ≡ next → and_after (next_steps n) w next ≡ m ∷ ms → (next_step w ≡ Some m) × (next_steps n (moved m w) ≡ ms)
    by None is none = absurd cc
    by (Some x) is some = (cc, cc)

-- ---- steps that take place

-- where no answer for room is left, all take place
abbrev all_taken : World → Session → List Move → Served
all_taken w s ms = record { items = made ms; world = world_after w (made ms); session = s; left = [] }

pub steps_all : (n : ℕ) (s : Session) (w : World) → steps n s w [] ≡ all_taken w s (next_steps n w)
steps_all zero s w = refl
steps_all (suc n) s w = by (next_step w) (λ v. steps_all n s v)
  where
    by : (next : Option Move) → ((v : World) → steps n s v [] ≡ all_taken v s (next_steps n v))
        → step_by (steps n s) w s [] next ≡ all_taken w s (and_after (next_steps n) w next)
    by None more = refl
    by (Some m) more = ap (after (Makes m ∷ [])) (more (moved m w))

-- one takes place, and then the others
step_made : (n : ℕ) (s : Session) (w : World) (m : Move) (space : Space) → next_step w ≡ Some m
    → steps (suc n) s w (Enough ∷ space) ≡ after (Makes m ∷ []) (steps n s (moved m w) space)
step_made n s w m space is = ap (λ (next : Option Move). step_by (steps n s) w s (Enough ∷ space) next) is

step_licensed : (n : ℕ) (entry : Entry) (past : List Made) (w : World) (m : Move) (room : Room) (space : Space) → next_step w ≡ Some m
    → LicensedRoom entry past m w (LicensedSteps n entry (past ++ record { move = m; world = w } ∷ []) (moved m w) space) room
    → LicensedSteps (suc n) entry past w (room ∷ space)
step_licensed n entry past w m room space is may =
    subst (λ (next : Option Move). LicensedStep (LicensedSteps n entry) entry past w (room ∷ space) next) (sym is) may

-- these moves are steps from one World to the other, with so many left
abbrev AreSteps : List Move → ℕ → ℕ → World → World → Type 0
AreSteps [] n left w v = (n ≡ left) × (w ≡ v)
AreSteps (m ∷ ms) n left w v = (k : ℕ) × (n ≡ suc k) × (next_step w ≡ Some m) × AreSteps ms k left (moved m w) v

are_steps : (ms : List Move) (n left : ℕ) (w v : World) → length ms + left ≡ n → next_steps n w ≡ ms ++ next_steps left v → v ≡ world_after w (made ms)
    → AreSteps ms n left w v
are_steps [] n left w v count split world_is = (omega (arith, count), sym world_is)
are_steps (m ∷ ms) zero left w v count split world_is = absurd (omega (arith, count))
are_steps (m ∷ ms) (suc k) left w v count split world_is =
    let one = first_next k w m (ms ++ next_steps left v) split
    in (k, refl, one.0, are_steps ms k left (moved m w) v (omega (arith, count)) one.1 world_is)

pub steps_made : (s : Session) (ms : List Move) (n left : ℕ) (w v : World) (space : Space) → AreSteps ms n left w v
    → steps n s w (enough ms ++ space) ≡ after (made ms) (steps left s v space)
steps_made s [] n left w v space are = λ i. steps (are.0 i) s (are.1 i) space
steps_made s (m ∷ ms) n left w v space are =
    ap (λ (k : ℕ). steps k s w (Enough ∷ (enough ms ++ space))) are.1
    ∙ step_made are.0 s w m (enough ms ++ space) are.2
    ∙ ap (after (Makes m ∷ [])) (steps_made s ms are.0 left (moved m w) v space are.3)

pub licensed_made : (entry : Entry) (ms : List Move) (past : List Made) (n left : ℕ) (w v : World) (space : Space) → AreSteps ms n left w v
    → LicensedSteps left entry (past ++ made_by w (made ms)) v space → LicensedSteps n entry past w (enough ms ++ space)
licensed_made entry [] past n left w v space are more =
    subst (λ (k : ℕ). LicensedSteps k entry past w space) (sym are.0)
    (subst (λ (u : World). LicensedSteps left entry past u space) (sym are.1)
    (subst (λ (before : List Made). LicensedSteps left entry before v space) (append-nil past) more))
licensed_made entry (m ∷ ms) past n left w v space are more =
    subst (λ (k : ℕ). LicensedSteps k entry past w (Enough ∷ (enough ms ++ space))) (sym are.1)
    (step_licensed are.0 entry past w m Enough (enough ms ++ space) are.2
    (licensed_made entry ms (past ++ record { move = m; world = w } ∷ []) are.0 left (moved m w) v space are.3
    (subst (λ (before : List Made). LicensedSteps left entry before v space)
    (sym (append_assoc past (record { move = m; world = w } ∷ []) (made_by (moved m w) (made ms)))) more)))

-- ---- they are taken

-- none yet
pub stepping_none : (n : ℕ) (w : World) (held : Held) (st : State) → IsAtWorld w held st → IsStepping n n w w held held st st
stepping_none n w held st at = record {
  moves = [];
  count = omega arith;
  split = refl;
  world_is = refl;
  within = λ entry past within. within_still entry past held within;
  stops = looked_found w held st st [] at refl;
  at = at;
  printed = refl;
}

-- they were broken off at a stop that is found among them
pub stepped_off : (n : ℕ) (w : World) (before later : Held) (old new : State) → Only old.tape new.tape (IsFound w (printed_of old) (made (next_steps n w)))
    → IsStepped n w false before later old new
stepped_off n w before later old new stops = record {
  used = [];
  moves = next_steps n w;
  world = world_after w (made (next_steps n w));
  acts = λ s future ends.
      subst (λ (space : Space). steps n s w space ≡ record { items = made (next_steps n w); world = world_after w (made (next_steps n w)); session = s; left = space })
      (sym (ends refl)) (steps_all n s w);
  licensed = λ entry past within future ends. subst (λ (space : Space). LicensedSteps n entry past w space) (sym (ends refl)) (steps_licensed n entry past w);
  within = λ ok. absurd cc;
  stops = stops;
  at = λ ok. absurd cc;
  printed = λ ok. absurd cc;
}

module _ (n left : ℕ) (w v : World) (before now : Held) (old mid : State) (is : IsStepping n left w v before now old mid) where
  -- the host was looked at
  pub stepping_looked : (new : State) → new.tells ≡ mid.tells → new.tape ≡ mid.tape → IsStepping n left w v before now old new
  stepping_looked new told tape = record {
    moves = is.moves;
    count = is.count;
    split = is.split;
    world_is = is.world_is;
    within = is.within;
    stops = subst (λ t. Only old.tape t (IsFound w (printed_of old) (made is.moves))) (sym tape) is.stops;
    at = at_same_tape v now mid new told tape is.at;
    printed = ap (λ t. t.disk.printed) tape ∙ is.printed;
  }

  are : AreSteps is.moves n left w v
  are = are_steps is.moves n left w v is.count is.split is.world_is

  -- they end here, with these answers for room
  ended : (room : Space) → ((s : Session) (future : Space) → steps left s v (room ++ future) ≡ nothing v s future)
      → ((entry : Entry) (past : List Made) → IsWithin entry past now → (future : Space) → LicensedSteps left entry past v (room ++ future))
      → IsStepped n w true before now old mid
  ended room ends may = record {
    used = enough is.moves ++ room;
    moves = is.moves;
    world = v;
    acts = λ s future none.
        ap (steps n s w) (append_assoc (enough is.moves) room future)
        ∙ steps_made s is.moves n left w v (room ++ future) are
        ∙ ap (after (made is.moves)) (ends s future)
        ∙ (λ i. record { items = append-nil (made is.moves) i; world = v; session = s; left = future });
    licensed = λ entry past within future none.
        subst (λ (space : Space). LicensedSteps n entry past w space) (sym (append_assoc (enough is.moves) room future))
        (licensed_made entry is.moves past n left w v (room ++ future) are
        (may entry (past ++ made_by w (made is.moves)) (is.within entry past within) future));
    within = λ ok. is.within;
    stops = is.stops;
    at = λ ok. is.at;
    printed = λ ok. is.printed;
  }

  -- no plan runs
  pub stepped_idle : next_step v ≡ None → IsStepped n w true before now old mid
  stepped_idle none = ended [] (λ s future. no_steps left s v future none) (λ entry past within future. idle_is_licensed left entry past v future none)

  -- broken off between two of them, or in a call that at most looked at the host
  pub stepped_broken_off : (later : Held) (new : State) → new.tape ≡ mid.tape → IsStepped n w false before later old new
  stepped_broken_off later new tape =
      stepped_off n w before later old new
      (subst (λ t. Only old.tape t (IsFound w (printed_of old) (made (next_steps n w)))) (sym tape)
      (subst (λ (items : List Item). Only old.tape mid.tape (IsFound w (printed_of old) items))
      (sym (ap made is.split ∙ map-append Makes is.moves (next_steps left v)))
      (stops_here w v is.moves is.world_is old mid is.printed is.stops (made (next_steps left v)))))

-- all were made
pub stepped_over : (n : ℕ) (w v : World) (before now : Held) (old new : State) → IsStepping n 0 w v before now old new → IsStepped n w true before now old new
stepped_over n w v before now old new is = ended n 0 w v before now old new is [] (λ s future. refl) (λ entry past within future. tt)

-- the next one
module _ (n left : ℕ) (w v : World) (m : Move) (before now : Held) (old mid : State) (is : IsStepping n (suc left) w v before now old mid) (next : next_step v ≡ Some m) where
  split_next : next_steps n w ≡ is.moves ++ m ∷ next_steps left (moved m v)
  split_next = is.split ∙ ap (λ (ms : List Move). is.moves ++ ms) (one_next left v m next)

  -- it was made
  pub stepping_more : (later : Held) (new : State) → IsMoved m v now later mid new → IsStepping n left w (moved m v) before later old new
  stepping_more later new step = record {
    moves = is.moves ++ m ∷ [];
    count = omega (arith, is.count, length-append is.moves (m ∷ []));
    split = split_next ∙ sym (append_assoc is.moves (m ∷ []) (next_steps left (moved m v)));
    world_is = world_more w v is.moves is.world_is m;
    within = λ entry past within.
        within_more w v is.moves is.world_is m entry past later (step.within entry (past ++ made_by w (made is.moves)) (is.within entry past within));
    stops = subst (λ (items : List Item). Only old.tape new.tape (IsFound w (printed_of old) items)) (sym (map-append Makes is.moves (m ∷ [])))
        (stops_next w v is.moves is.world_is old mid is.printed is.stops m new [] step.stops);
    at = step.next.at;
    printed = step.next.printed_same ∙ is.printed;
  }

  -- it was broken off
  pub stepped_broken : (later : Held) (new : State) → Only mid.tape new.tape (IsEither v (moved m v) (printed_of mid)) → IsStepped n w false before later old new
  stepped_broken later new either =
      stepped_off n w before later old new
      (subst (λ (items : List Item). Only old.tape new.tape (IsFound w (printed_of old) items))
      (sym (ap made split_next ∙ map-append Makes is.moves (m ∷ next_steps left (moved m v))))
      (stops_next w v is.moves is.world_is old mid is.printed is.stops m new (made (next_steps left (moved m v))) either))

  -- no run was free for it
  pub stepped_no_run : (pages : ℕ) → ((entry : Entry) (past : List Made) → IsWithin entry past now → LacksRun entry past m v pages) → IsStepped n w true before now old mid
  stepped_no_run pages lacks =
      ended n (suc left) w v before now old mid is (NoRun pages ∷ [])
      (λ s future. ap (λ (o : Option Move). step_by (steps left s) v s (NoRun pages ∷ future) o) next)
      (λ entry past within future. step_licensed left entry past v m (NoRun pages) future next (lacks entry past within))

  -- the journal had no room for its record
  pub stepped_full : ((entry : Entry) (past : List Made) → IsWithin entry past now → LacksRecord entry past m v) → IsStepped n w true before now old mid
  stepped_full lacks =
      ended n (suc left) w v before now old mid is (Full ∷ [])
      (λ s future. ap (λ (o : Option Move). step_by (steps left s) v s (Full ∷ future) o) next)
      (λ entry past within future. step_licensed left entry past v m Full future next (lacks entry past within))
