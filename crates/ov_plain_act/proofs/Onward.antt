-- A course goes on behind its first command.
use Rattle.std.proofs.Common.{◌≡◌, ℕ, ◌-◌, ◌≤◌, true, List, [], ◌∷◌, length, map, take, drop, get_or, sym, ◌∙◌, ap, subst, arith}
use Rattle.std.proofs.lemmas.Grind.{common_steps}
use Rattle.ov_model.specs.Act.{Session}
use Rattle.ov_model.specs.Course.{Served, after, line_served}
use Rattle.ov_model.specs.Line.{Asks}
use Rattle.ov_model.specs.World.{World}
use Rattle.ov_model.specs.declared.command.Command.{Command}
use Rattle.ov_plain_act.specs.Acts.{is_plain, session_of}
use Rattle.ov_plain_act.specs.Runs.{IsReady, IsPlainCourse, commanded, item_of, run_of}
use Rattle.ov_plain_act.specs.Small.{IsSmallCommand}
use Rattle.ov_plain_act.specs.declared.running.Run.{Run}

-- those behind the first one
abbrev pub others : List Command → List Command
others cs = take (length cs - 1) (drop 1 cs)

all_but_first : (c : Command) (cs : List Command) → others (c ∷ cs) ≡ cs
all_but_first c cs = grind (arith, common_steps)

pub first_and_others : (cs : List Command) (f : Command) → 1 ≤ length cs → f ≡ get_or cs 0 f → cs ≡ f ∷ others cs
first_and_others [] f some e = absurd (omega arith)
first_and_others (c ∷ cs) f some e = ap (λ (x : Command). x ∷ cs) (sym e) ∙ ap (λ (rest : List Command). f ∷ rest) (sym (all_but_first c cs))

pub course_more : (n : ℕ) (w : World) (s : Session) (cs : List Command) (f : Command) (run later all : Run)
    → cs ≡ f ∷ others cs → line_served n w s [] (Asks f) ≡ run_of run → commanded n run.world (session_of run.session) (others cs) ≡ run_of later
    → run_of all ≡ after (map item_of run.items) (run_of later) → commanded n w s cs ≡ run_of all
course_more n w s cs f run later all split e more is =
    ap (λ (these : List Command). commanded n w s these) split
    ∙ ap (λ (k : Served). after k.items (commanded n k.world k.session (others cs))) e
    ∙ ap (λ (k : Served). after (map item_of run.items) k) more
    ∙ sym is

pub course_ready : (n : ℕ) (w : World) (s : Session) (cs : List Command) (f : Command) (run : Run)
    → cs ≡ f ∷ others cs → IsReady w → is_plain f ≡ true → IsSmallCommand f → line_served n w s [] (Asks f) ≡ run_of run
    → IsPlainCourse n run.world (session_of run.session) (others cs) → IsPlainCourse n w s cs
course_ready n w s cs f run split ready plain small e later =
    subst (λ (these : List Command). IsPlainCourse n w s these) (sym split)
    (ready, (plain, (small, subst (λ (k : Served). IsPlainCourse n k.world k.session (others cs)) (sym e) later)))

pub course_rest : (n : ℕ) (w : World) (s : Session) (cs : List Command) (f : Command) (run : Run)
    → cs ≡ f ∷ others cs → line_served n w s [] (Asks f) ≡ run_of run → IsPlainCourse n w s cs → IsPlainCourse n run.world (session_of run.session) (others cs)
course_rest n w s cs f run split e all =
    let parts = subst (λ (these : List Command). IsPlainCourse n w s these) split all
    in subst (λ (k : Served). IsPlainCourse n k.world k.session (others cs)) e parts.1.1.1
