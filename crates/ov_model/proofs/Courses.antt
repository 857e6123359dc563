-- What a run does, in parts.
use Rattle.std.proofs.Common.{◌≡◌, ◌≤◌, ◌+◌, ℕ, zero, suc, Bool, true, false, ◌==◌, List, [], ◌∷◌, ◌++◌, length, refl, sym, ◌∙◌, ap, subst, arith, append_assoc}
use Rattle.std.specs.Prelude.{Option, Some, None, slice_get}
use Rattle.std.specs.List.{onto_first}
use Rattle.std.specs.Prelude.{◌≢◌, if◌then◌else◌}
use Rattle.ov_model.specs.Act.{Session, Deed}
use Rattle.ov_model.specs.Deed.{deed}
use Rattle.ov_model.specs.Course.{Item, Makes, Says, Room, Enough, NoRun, Full, Space, first, rest, Served, after, replied, attempt, attempts, try_step, step_by, steps, and_steps, line_served, served, course, due, moves_of, play, world_after, world_at}
use Rattle.ov_model.specs.Forms.{Form}
use Rattle.ov_model.specs.Line.{Line, Comment, Asks, Refused, line_of}
use Rattle.ov_model.specs.Moves.{Move, moved}
use Rattle.ov_model.specs.Steps.{next_step}
use Rattle.ov_model.specs.Words.{lines_of}
use Rattle.ov_model.specs.World.{World}
use Rattle.ov_model.specs.Replies.{reply_text}
use Rattle.ov_model.specs.declared.reply.Reply.{Reply}
use Rattle.ov_model.specs.declared.reply.Reply.TheVariants as says

after_after : (xs ys : List Item) (s : Served) → after xs (after ys s) ≡ after (xs ++ ys) s
after_after xs ys s = λ i. record s { items = sym (append_assoc xs ys s.items) i }

pub goes_on : (f : List Form) (n : ℕ) (w : World) (s : Session) (a b : List (List ℕ)) (space : Space)
    → course f n w s (a ++ b) space ≡ after (course f n w s a space).items
    (course f n (course f n w s a space).world (course f n w s a space).session b (course f n w s a space).left)
goes_on f n w s [] b space = refl
goes_on f n w s (line ∷ a) b space =
    let one = served f n w s line space
    in let more = course f n one.world one.session a one.left
    in ap (after one.items) (goes_on f n one.world one.session a b one.left)
    ∙ after_after one.items more.items (course f n more.world more.session b more.left)

pub play_append : (a b : List Item) → play (a ++ b) ≡ play a ++ play b
play_append [] b = refl
play_append (Makes m ∷ a) b = play_append a b
play_append (Says reply ∷ a) b = ap (λ t. reply_text reply ++ t) (play_append a b) ∙ sym (append_assoc (reply_text reply) (play a) (play b))

onto_append : (x : ℕ) (line : List ℕ) (a b : List (List ℕ)) → onto_first x ((line ∷ a) ++ b) ≡ onto_first x (line ∷ a) ++ b
onto_append x line a b = refl

pub world_append : (w : World) (a b : List Item) → world_after w (a ++ b) ≡ world_after (world_after w a) b
world_append w [] b = refl
world_append w (Makes m ∷ a) b = world_append (moved m w) a b
world_append w (Says reply ∷ a) b = world_append w a b

-- the World that is left is the one after the moves
abbrev pub Ends : World → Served → Type 0
Ends w s = s.world ≡ world_after w s.items

attempt_ends : (room : Room) (taken : Option (ℕ × ℕ)) (w : World) (s : Session) (space : Space) (more : Served) → Ends w more → Ends w (attempt room taken w s space more)
attempt_ends Enough taken w s space more ends = ends
attempt_ends (NoRun pages) taken w s space more ends = refl
attempt_ends Full taken w s space more ends = refl

attempts_end : (d : Deed) (s : Session) (taken : ℕ) (ms : List Move) (w : World) (space : Space) → Ends w (attempts d s taken ms w space)
attempts_end d s taken [] w space = refl
attempts_end d s taken (m ∷ ms) w space =
    attempt_ends (first space) _ w s (rest space) (after (Makes m ∷ []) (attempts d s (taken + 1) ms (moved m w) (rest space)))
    (attempts_end d s (taken + 1) ms (moved m w) (rest space))

try_ends : (room : Room) (w : World) (s : Session) (space : Space) (more : Served) → Ends w more → Ends w (try_step room w s space more)
try_ends Enough w s space more ends = ends
try_ends (NoRun pages) w s space more ends = refl
try_ends Full w s space more ends = refl

step_ends : (more : World → Space → Served) (w : World) (s : Session) (space : Space) (next : Option Move) → ((v : World) (left : Space) → Ends v (more v left)) → Ends w (step_by more w s space next)
step_ends more w s space None ends = refl
step_ends more w s space (Some m) ends =
    try_ends (first space) w s (rest space) (after (Makes m ∷ []) (more (moved m w) (rest space))) (ends (moved m w) (rest space))

steps_end : (n : ℕ) (s : Session) (w : World) (space : Space) → Ends w (steps n s w space)
steps_end zero s w space = refl
steps_end (suc n) s w space = step_ends (steps n s) w s space (next_step w) (λ v left. steps_end n s v left)

-- one after another
both_end : (w : World) (a b : Served) → Ends w a → Ends a.world b → Ends w (after a.items b)
both_end w a b first later =
    later ∙ ap (λ v. world_after v b.items) first ∙ sym (world_append w a.items b.items)

then_ends : (n : ℕ) (w : World) (a : Served) → Ends w a → Ends w (and_steps n a)
then_ends n w a ends = both_end w a (steps n a.session a.world a.left) ends (steps_end n a.session a.world a.left)

line_ends : (n : ℕ) (w : World) (s : Session) (space : Space) (line : Line) → Ends w (line_served n w s space line)
line_ends n w s space Comment = refl
line_ends n w s space (Asks command) = then_ends n w (attempts (deed w s command) s 0 (deed w s command).moves w space) (attempts_end (deed w s command) s 0 (deed w s command).moves w space)
line_ends n w s space (Refused refusal) = then_ends n w (replied (says.Refused refusal) w s space) refl

pub course_ends : (f : List Form) (n : ℕ) (w : World) (s : Session) (lines : List (List ℕ)) (space : Space) → Ends w (course f n w s lines space)
course_ends f n w s [] space = refl
course_ends f n w s (line ∷ lines) space =
    let one = served f n w s line space
    in both_end w one (course f n one.world one.session lines one.left) (line_ends n w s space (line_of f line))
    (course_ends f n one.world one.session lines one.left)

same_some : {X : Type 0} (x y : X) → Some x ≡ Some y → x ≡ y
same_some x y e = cc

step_next : (w : World) (items : List Item) (k : ℕ) (m : Move) → slice_get (moves_of items) k ≡ Some m → world_at w items (suc k) ≡ moved m (world_at w items k)
step_next w [] k m e = cc
step_next w (Makes n ∷ items) zero m e = ap (λ x. moved x w) (same_some n m e)
step_next w (Makes n ∷ items) (suc k) m e = step_next (moved n w) items k m e
step_next w (Says reply ∷ items) zero m e = step_next w items zero m e
step_next w (Says reply ∷ items) (suc k) m e = step_next w items (suc k) m e

at_says : (w : World) (reply : Reply) (items : List Item) (k : ℕ) → world_at w (Says reply ∷ items) k ≡ world_at w items k
at_says w reply items zero = refl
at_says w reply items (suc k) = refl

pub at_last : (w : World) (items : List Item) → world_at w items (length (moves_of items)) ≡ world_after w items
at_last w [] = refl
at_last w (Makes m ∷ items) = at_last (moved m w) items
at_last w (Says reply ∷ items) = at_says w reply items (length (moves_of items)) ∙ at_last w items

pub at_next : (w : World) (items : List Item) (k : ℕ) (m : Move) → slice_get (moves_of items) k ≡ Some m → world_at w items (k + 1) ≡ moved m (world_at w items k)
at_next w items k m e = let one : k + 1 ≡ suc k = omega arith in ap (world_at w items) one ∙ step_next w items k m e

due_up : (j : ℕ) (items : List Item) → due j items ≤ due (suc j) items
due_up zero items = omega arith
due_up (suc j) [] = omega arith
due_up (suc j) (Makes m ∷ items) = omega (arith, due_up (suc j) items)
due_up (suc zero) (Says reply ∷ items) = omega arith
due_up (suc (suc j)) (Says reply ∷ items) = due_up (suc j) items

pub due_next : (j : ℕ) (items : List Item) → due j items ≤ due (j + 1) items
due_next j items = let one : suc j ≡ j + 1 = omega arith in subst (λ k. due j items ≤ due k items) one (due_up j items)

pub due_most : (j : ℕ) (items : List Item) → due j items ≤ length (moves_of items)
due_most zero items = omega arith
due_most (suc j) [] = omega arith
due_most (suc j) (Makes m ∷ items) = omega (arith, due_most (suc j) items)
due_most (suc zero) (Says reply ∷ items) = omega arith
due_most (suc (suc j)) (Says reply ∷ items) = due_most (suc j) items

onto_front : (x : ℕ) (a b : List (List ℕ)) → a ≢ [] → onto_first x (a ++ b) ≡ onto_first x a ++ b
onto_front x [] b some = absurd (some refl)
onto_front x (line ∷ a) b some = refl

onto_some : (x : ℕ) (a : List (List ℕ)) → onto_first x a ≢ []
onto_some x [] e = cc
onto_some x (line ∷ a) e = cc

either_some : (t : Bool) (x : ℕ) (a : List (List ℕ)) → (if t then [] ∷ a else onto_first x a) ≢ []
either_some true x a e = cc
either_some false x a e = onto_some x a e

some_line : (a : List ℕ) → lines_of (a ++ 10 ∷ []) ≢ []
some_line [] e = cc
some_line (x ∷ a) e = either_some (x == 10) x (lines_of (a ++ 10 ∷ [])) e

either_front : (t : Bool) (x : ℕ) (a b both : List (List ℕ)) → a ≢ [] → both ≡ a ++ b
    → (if t then [] ∷ both else onto_first x both) ≡ (if t then [] ∷ a else onto_first x a) ++ b
either_front true x a b both some e = ap (λ lines. [] ∷ lines) e
either_front false x a b both some e = ap (onto_first x) e ∙ onto_front x a b some

pub whole_lines : (a b : List ℕ) → lines_of ((a ++ 10 ∷ []) ++ b) ≡ lines_of (a ++ 10 ∷ []) ++ lines_of b
whole_lines [] b = refl
whole_lines (x ∷ a) b =
    either_front (x == 10) x (lines_of (a ++ 10 ∷ [])) (lines_of b) (lines_of ((a ++ 10 ∷ []) ++ b)) (some_line a) (whole_lines a b)
