-- In a run each beginning of a plan has a reply directly behind it that tells what will stand.
use Rattle.std.proofs.Common.{◌≡◌, ℕ, zero, suc, ◌+◌, List, [], ◌∷◌, ◌++◌, refl, sym, ◌∙◌, ap, subst, inl, inr}
use Rattle.std.specs.Prelude.{Option, Some, None, slice_get}
use Rattle.ov_model.specs.Act.{Session, Deed}
use Rattle.ov_model.specs.Course.{Item, Makes, Says, Room, Enough, NoRun, Full, Space, first, rest, Served, after, replied, steps_then, attempt, attempts, try_step, step_by, steps, and_steps, line_served, served, course, moves_of, world_after, world_at}
use Rattle.ov_model.specs.Deed.{deed}
use Rattle.ov_model.specs.Forms.{Form}
use Rattle.ov_model.specs.Line.{Line, Comment, Asks, Refused, line_of}
use Rattle.ov_model.specs.Lists.{IsIn}
use Rattle.ov_model.specs.Moves.{Move, Init, Commit, BeginPlan, Copy, Flip, Drop, Checkpoint, moved}
use Rattle.ov_model.specs.Steps.{next_step}
use Rattle.ov_model.specs.World.{Dataset, World}
use Rattle.ov_model.specs.declared.reply.Reply.{Reply}
use Rattle.ov_model.specs.declared.reply.Reply.TheVariants as says
use Rattle.ov_model.proofs.Courses.{world_append}
use Rattle.law_plans.specs.Runs.{IsRun}
use Rattle.law_plans.specs.Told.{IsAnswered, figures_planned, figures_told, first_reply, reply_behind}
use Rattle.law_plans.proofs.Deeds.{AllPlain, Begins, IsPlain, IsToldOf, PlainIf, deed_told, next_plain}

-- a reply tells what a plan of a dataset of this number comes to
pub record TellsOf (w : World) (number p q : ℕ) (reply : Reply) : Type 0 where
  pub set : Dataset
  pub there : IsIn w.sets set
  pub numbered : set.cvd.number ≡ number
  pub tells : figures_told reply ≡ Some (figures_planned set p q)

-- the reply behind a beginning does
abbrev pub Answers : Move → World → Option Reply → Type 0
Answers (BeginPlan number p q) w None = ⊥
Answers (BeginPlan number p q) w (Some reply) = TellsOf w number p q reply
Answers _ w found = Unit {0}

abbrev pub AllAnswered : World → List Item → Type 0
AllAnswered w [] = Unit {0}
AllAnswered w (Makes m ∷ items) = Answers m w (first_reply items) × AllAnswered (moved m w) items
AllAnswered w (Says reply ∷ items) = AllAnswered w items

plain_answers : (m : Move) (w : World) (found : Option Reply) → IsPlain m → Answers m w found
plain_answers (BeginPlan number p q) w found plain = absurd plain
plain_answers (Init name schema rows) w found plain = tt
plain_answers (Commit cvd parents message added rows) w found plain = tt
plain_answers (Copy cvd) w found plain = tt
plain_answers (Flip cvd) w found plain = tt
plain_answers (Drop cvd) w found plain = tt
plain_answers Checkpoint w found plain = tt

-- ---- one after another

none_answers : (m : Move) (w : World) (found : Option Reply) → Answers m w None → Answers m w found
none_answers (BeginPlan number p q) w found none = absurd none
none_answers (Init name schema rows) w found none = tt
none_answers (Commit cvd parents message added rows) w found none = tt
none_answers (Copy cvd) w found none = tt
none_answers (Flip cvd) w found none = tt
none_answers (Drop cvd) w found none = tt
none_answers Checkpoint w found none = tt

still_answers : (m : Move) (w : World) (a b : List Item) → Answers m w (first_reply a) → Answers m w (first_reply (a ++ b))
still_answers m w [] b answers = none_answers m w (first_reply b) answers
still_answers m w (Makes n ∷ a) b answers = answers
still_answers m w (Says reply ∷ a) b answers = answers

answered_append : (w : World) (a b : List Item) → AllAnswered w a → AllAnswered (world_after w a) b → AllAnswered w (a ++ b)
answered_append w [] b are more = more
answered_append w (Makes m ∷ a) b are more = (still_answers m w a b are.0, answered_append (moved m w) a b are.1 more)
answered_append w (Says reply ∷ a) b are more = answered_append w a b are more

-- ---- what is served

abbrev IsServed : World → Served → Type 0
IsServed w s = AllAnswered w s.items × (s.world ≡ world_after w s.items)

attempt_answered : (room : Room) (taken : Option (ℕ × ℕ)) (w : World) (s : Session) (space : Space) (more : Served) → IsServed w more → IsServed w (attempt room taken w s space more)
attempt_answered Enough taken w s space more is = is
attempt_answered (NoRun pages) taken w s space more is = (tt, refl)
attempt_answered Full taken w s space more is = (tt, refl)

attempts_plain : (d : Deed) (s : Session) (taken : ℕ) (ms : List Move) (w : World) (space : Space) → AllPlain ms → IsServed w (attempts d s taken ms w space)
attempts_plain d s taken [] w space plain = (tt, refl)
attempts_plain d s taken (m ∷ ms) w space plain =
    let behind : Served = attempts d s (taken + 1) ms (moved m w) (rest space)
    in let more = attempts_plain d s (taken + 1) ms (moved m w) (rest space) plain.1
    in attempt_answered (first space) (steps_then d.counts_steps taken w) w s (rest space) (after (Makes m ∷ []) behind)
    ((plain_answers m w (first_reply behind.items) plain.0, more.0), more.1)

attempts_begin : (d : Deed) (s : Session) (w : World) (space : Space) → Begins w d → IsServed w (attempts d s 0 d.moves w space)
attempts_begin d s w space begins =
    let m : Move = BeginPlan begins.set.cvd.number begins.p begins.q
    in let behind : Served = attempts d s (0 + 1) [] (moved m w) (rest space)
    in subst (λ ms. IsServed w (attempts d s 0 ms w space)) (sym begins.moves)
    (attempt_answered (first space) (steps_then d.counts_steps 0 w) w s (rest space) (after (Makes m ∷ []) behind)
    ((record { set = begins.set; there = begins.there; numbered = refl; tells = begins.tells }, tt), refl))

attempts_answered : (d : Deed) (s : Session) (w : World) (space : Space) → IsToldOf w d → IsServed w (attempts d s 0 d.moves w space)
attempts_answered d s w space (inl plain) = attempts_plain d s 0 d.moves w space plain
attempts_answered d s w space (inr begins) = attempts_begin d s w space begins

try_answered : (room : Room) (w : World) (s : Session) (space : Space) (more : Served) → IsServed w more → IsServed w (try_step room w s space more)
try_answered Enough w s space more is = is
try_answered (NoRun pages) w s space more is = (tt, refl)
try_answered Full w s space more is = (tt, refl)

step_answered : (more : World → Space → Served) (w : World) (s : Session) (space : Space) (next : Option Move) → PlainIf next → ((v : World) (left : Space) → IsServed v (more v left)) → IsServed w (step_by more w s space next)
step_answered more w s space None plain later = (tt, refl)
step_answered more w s space (Some m) plain later =
    let behind = later (moved m w) (rest space)
    in try_answered (first space) w s (rest space) (after (Makes m ∷ []) (more (moved m w) (rest space)))
    ((plain_answers m w (first_reply (more (moved m w) (rest space)).items) plain, behind.0), behind.1)

steps_answered : (n : ℕ) (s : Session) (w : World) (space : Space) → IsServed w (steps n s w space)
steps_answered zero s w space = (tt, refl)
steps_answered (suc n) s w space = step_answered (steps n s) w s space (next_step w) (next_plain w) (steps_answered n s)

both_answered : (w : World) (a b : Served) → IsServed w a → IsServed a.world b → IsServed w (after a.items b)
both_answered w a b one later = (
  answered_append w a.items b.items one.0 (subst (λ v. AllAnswered v b.items) one.1 later.0),
  later.1 ∙ ap (λ v. world_after v b.items) one.1 ∙ sym (world_append w a.items b.items),
)

then_answered : (n : ℕ) (w : World) (a : Served) → IsServed w a → IsServed w (and_steps n a)
then_answered n w a is = both_answered w a (steps n a.session a.world a.left) is (steps_answered n a.session a.world a.left)

line_answered : (n : ℕ) (w : World) (s : Session) (space : Space) (line : Line) → IsServed w (line_served n w s space line)
line_answered n w s space Comment = (tt, refl)
line_answered n w s space (Asks command) =
    then_answered n w (attempts (deed w s command) s 0 (deed w s command).moves w space) (attempts_answered (deed w s command) s w space (deed_told w s command))
line_answered n w s space (Refused refusal) = then_answered n w (replied (says.Refused refusal) w s space) (tt, refl)

course_answered : (forms : List Form) (n : ℕ) (w : World) (s : Session) (lines : List (List ℕ)) (space : Space) → IsServed w (course forms n w s lines space)
course_answered forms n w s [] space = (tt, refl)
course_answered forms n w s (line ∷ lines) space =
    let one = served forms n w s line space
    in both_answered w one (course forms n one.world one.session lines one.left) (line_answered n w s space (line_of forms line))
    (course_answered forms n one.world one.session lines one.left)

-- ---- a move of a run

some_same : (a b : Move) → Some a ≡ Some b → a ≡ b
some_same a b e = cc

answers_at : (w : World) (items : List Item) (k : ℕ) (m : Move) → AllAnswered w items → slice_get (moves_of items) k ≡ Some m → Answers m (world_at w items k) (reply_behind items k)
answers_at w [] k m are e = cc
answers_at w (Makes n ∷ items) zero m are e = subst (λ x. Answers x w (first_reply items)) (some_same n m e) are.0
answers_at w (Makes n ∷ items) (suc k) m are e = answers_at (moved n w) items k m are.1 e
answers_at w (Says reply ∷ items) zero m are e = answers_at w items zero m are e
answers_at w (Says reply ∷ items) (suc k) m are e = answers_at w items (suc k) m are e

answer_of : (w : World) (items : List Item) (b number p q : ℕ) (found : Option Reply) → reply_behind items b ≡ found → Answers (BeginPlan number p q) (world_at w items b) found → IsAnswered w items b number p q
answer_of w items b number p q None e none = absurd none
answer_of w items b number p q (Some reply) e of =
    record { set = of.set; there = of.there; numbered = of.numbered; reply = reply; behind = e; tells = of.tells }

pub answered : (w : World) (items : List Item) (b number p q : ℕ) → IsRun w items → slice_get (moves_of items) b ≡ Some (BeginPlan number p q) → IsAnswered w items b number p q
answered w items b number p q run e =
    answer_of w items b number p q (reply_behind items b) refl
    (answers_at w items b (BeginPlan number p q)
    (subst (AllAnswered w) (sym run.are) (course_answered run.forms run.steps w run.session run.lines run.space).0) e)
