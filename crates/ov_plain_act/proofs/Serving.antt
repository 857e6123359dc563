-- What comes of a deed where there is room for its moves, and the steps behind its reply.
use Rattle.std.proofs.Common.{◌≡◌, ℕ, zero, suc, ◌+◌, ◌-◌, ◌<◌, ◌≤◌, List, [], ◌∷◌, ◌++◌, length, map, take, drop, get_or, refl, sym, ◌∙◌, ap, subst, arith}
use Rattle.std.specs.Prelude.{Some, None}
use Rattle.std.proofs.lemmas.Grind.{common_steps}
use Rattle.std.proofs.lemmas.List.{append-nil, append_assoc}
use Rattle.ov_model.specs.Act.{Session, Deed}
use Rattle.ov_model.specs.Course.{Item, Makes, Served, after, attempts, steps, and_steps, line_served}
use Rattle.ov_model.specs.Deed.{deed}
use Rattle.ov_model.specs.Line.{Asks}
use Rattle.ov_model.specs.Moves.{Move, moved}
use Rattle.ov_model.specs.Steps.{next_step}
use Rattle.ov_model.specs.World.{World}
use Rattle.ov_model.specs.declared.command.Command.{Command}
use Rattle.ov_model.specs.declared.reply.Reply.{Reply}
use Rattle.ov_plain_act.specs.Acts.{deed_of, move_of, session_of}
use Rattle.ov_plain_act.specs.Runs.{item_of, made, run_of}
use Rattle.ov_plain_act.specs.declared.deed.Deed.{Deed as KeptDeed}
use Rattle.ov_plain_act.specs.declared.deed.Move.{Move as Kept}
use Rattle.ov_plain_act.specs.declared.running.Run.{Run}

attempts_made : (d : Deed) (s : Session) (taken : ℕ) (ms : List Move) (w : World) → attempts d s taken ms w [] ≡ made ms w d.reply d.session
attempts_made d s taken [] w = refl
attempts_made d s taken (m ∷ ms) w = ap (λ (k : Served). after (Makes m ∷ []) k) (attempts_made d s (taken + 1) ms (moved m w))

-- what comes of a command, by its deed's moves and reply
pub served_made : (n : ℕ) (w : World) (s : Session) (c : Command) (d : KeptDeed) (run all : Run)
    → deed_of d ≡ deed w s c → made (deed_of d).moves w d.reply (session_of d.session) ≡ run_of run
    → and_steps n (run_of run) ≡ run_of all → line_served n w s [] (Asks c) ≡ run_of all
served_made n w s c d run all e f more =
    ap (λ (k : Deed). and_steps n (attempts k s 0 k.moves w [])) (sym e)
    ∙ ap (λ (k : Served). and_steps n k) (attempts_made (deed_of d) s 0 (deed_of d).moves w ∙ f)
    ∙ more

-- those behind the first one
abbrev pub other_moves : List Kept → List Kept
other_moves ms = take (length ms - 1) (drop 1 ms)

all_but_first : (m : Kept) (ms : List Kept) → other_moves (m ∷ ms) ≡ ms
all_but_first m ms = grind (arith, common_steps)

-- a move, and then the others and the reply
pub made_more : (ms : List Kept) (m : Kept) (w next : World) (reply : Reply) (s : Session) (later all : Run)
    → 1 ≤ length ms → m ≡ get_or ms 0 m → next ≡ moved (move_of m) w
    → made (map move_of (other_moves ms)) next reply s ≡ run_of later
    → run_of all ≡ after (Makes (move_of m) ∷ []) (run_of later) → made (map move_of ms) w reply s ≡ run_of all
made_more [] m w next reply s later all some first e f is = absurd (omega arith)
made_more (x ∷ xs) m w next reply s later all some first e f is =
    ap (λ (k : Kept). after (Makes (move_of k) ∷ []) (made (map move_of xs) (moved (move_of k) w) reply s)) (sym first)
    ∙ ap (λ (v : World). after (Makes (move_of m) ∷ []) (made (map move_of xs) v reply s)) (sym e)
    ∙ ap (λ (ks : List Kept). after (Makes (move_of m) ∷ []) (made (map move_of ks) next reply s)) (sym (all_but_first x xs))
    ∙ ap (λ (k : Served). after (Makes (move_of m) ∷ []) k) f
    ∙ sym is

-- with these items, which end where they are
abbrev ended : List Item → Served → Served
ended items k = record k { items = items }

pub none_taken : (r : Run) → and_steps 0 (run_of r) ≡ run_of r
none_taken r = ap (λ (items : List Item). ended items (run_of r)) (append-nil (map item_of r.items))

pub none_runs : (n : ℕ) (r : Run) → next_step r.world ≡ None → and_steps n (run_of r) ≡ run_of r
none_runs zero r e = none_taken r
none_runs (suc n) r e = rw e (none_taken r)

one_behind : (items : List Item) (item : Item) (k : Served) → after items (after (item ∷ []) k) ≡ after (items ++ item ∷ []) k
one_behind items item k = ap (λ (all : List Item). ended all k) (sym (append_assoc items (item ∷ []) k.items))

-- the first of some steps
pub one_taken : (n : ℕ) (m : Move) (r later : Run) → next_step r.world ≡ Some m
    → map item_of later.items ≡ map item_of r.items ++ Makes m ∷ [] → later.world ≡ moved m r.world → later.session ≡ r.session
    → and_steps (suc n) (run_of r) ≡ and_steps n (run_of later)
one_taken n m r later e items world session =
    rw (e, items, world, session) (one_behind (map item_of r.items) (Makes m) (steps n (session_of r.session) (moved m r.world) []))

-- a step, and then those behind it
pub steps_more : (count : ℕ) (m : Kept) (r later all : Run) → 0 < count → Some (move_of m) ≡ next_step r.world
    → map item_of later.items ≡ map item_of r.items ++ Makes (move_of m) ∷ [] → later.world ≡ moved (move_of m) r.world
    → later.session ≡ r.session → and_steps (count - 1) (run_of later) ≡ run_of all → and_steps count (run_of r) ≡ run_of all
steps_more zero m r later all some e items world session more = absurd (omega arith)
steps_more (suc n) m r later all some e items world session more =
    let less : suc n - 1 ≡ n = omega arith
    in one_taken n (move_of m) r later (sym e) items world session ∙ subst (λ (k : ℕ). and_steps k (run_of later) ≡ run_of all) less more
