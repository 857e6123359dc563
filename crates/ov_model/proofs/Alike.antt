-- What a reply doesn't depend on: the epoch and the records of the journal; and of a checkout, all but the book and the files.
use Rattle.std.proofs.Common.{◌≡◌, ℕ, zero, suc, ◌+◌, Bool, true, false, List, [], ◌∷◌, ◌++◌, length, map, filter, refl, sym, ◌∙◌, ap}
use Rattle.std.specs.Prelude.{Option, Some, None, not, if◌then◌else◌}
use Rattle.std.specs.Str.{bytes_eq}
use Rattle.ov_model.specs.Act.{Session, Deed, checkout_deed, vids_refusal, gives, merge_of, unless, refuses, generated_reply, init_refusal}
use Rattle.ov_model.specs.Deed.{deed, permitted}
use Rattle.ov_model.specs.Book.{Cvd}
use Rattle.ov_model.specs.Generator.{generated}
use Rattle.ov_model.specs.Moves.{Move, Init, Commit, BeginPlan, Copy, Flip, Drop, Checkpoint, moved, change, new_set, committed, numbered}
use Rattle.ov_model.specs.Plans.{planned, copied_more, flipped}
use Rattle.ov_model.specs.Steps.{next_step, next_steps, and_after, first_step, all_moved, steps_left, steps_of_all}
use Rattle.ov_model.specs.Users.{permit}
use Rattle.ov_model.specs.World.{Dataset, World, book, cvd_in, first_set, named, set_named}
use Rattle.ov_model.specs.declared.command.Command.{Command}
use Rattle.ov_model.specs.declared.command.Command.TheVariants as asks
use Rattle.ov_model.specs.declared.refusal.Refusal.{Refusal}
use Rattle.ov_model.specs.declared.refusal.Refusal.TheVariants as no
use Rattle.ov_model.specs.declared.reply.Reply.TheVariants as says

-- the same datasets and the same next number
pub record AreAlike (w v : World) : Type 0 where
  pub sets : w.sets ≡ v.sets
  pub next : w.next ≡ v.next

alike_moved : (m : Move) (w v : World) → AreAlike w v → AreAlike (moved m w) (moved m v)
alike_moved (Init name schema rows) w v a = record { sets = λ i. a.sets i ++ new_set (a.next i) name schema rows ∷ []; next = ap (λ n. n + 1) a.next }
alike_moved (Commit cvd parents message added rows) w v a = record { sets = ap (change cvd (committed parents message added rows)) a.sets; next = a.next }
alike_moved (BeginPlan cvd p q) w v a = record { sets = ap (change cvd (planned p q)) a.sets; next = a.next }
alike_moved (Copy cvd) w v a = record { sets = ap (change cvd copied_more) a.sets; next = a.next }
alike_moved (Flip cvd) w v a = record { sets = ap (change cvd flipped) a.sets; next = a.next }
alike_moved (Drop cvd) w v a = record { sets = ap (filter (λ d. not (numbered cvd d))) a.sets; next = a.next }
alike_moved Checkpoint w v a = record { sets = a.sets; next = a.next }

all_alike : (ms : List Move) (w v : World) → AreAlike w v → AreAlike (all_moved ms w) (all_moved ms v)
all_alike [] w v a = a
all_alike (m ∷ ms) w v a = all_alike ms (moved m w) (moved m v) (alike_moved m w v a)

after_alike : (more : World → List Move) (w v : World) (step : Option Move) → ((m : Move) → more (moved m w) ≡ more (moved m v)) → and_after more w step ≡ and_after more v step
after_alike more w v None same = refl
after_alike more w v (Some m) same = ap (λ ms. m ∷ ms) (same m)

steps_alike : (n : ℕ) (w v : World) → AreAlike w v → next_steps n w ≡ next_steps n v
steps_alike zero w v a = refl
steps_alike (suc n) w v a =
    ap (and_after (next_steps n) w) (ap first_step a.sets)
    ∙ after_alike (next_steps n) w v (next_step v) (λ m. steps_alike n (moved m w) (moved m v) (alike_moved m w v a))

unless_same : (s : Session) (refusal : Option Refusal) (d e : Deed) → d.reply ≡ e.reply → (unless s refusal d).reply ≡ (unless s refusal e).reply
unless_same s None d e same = same
unless_same s (Some refusal) d e same = refl

-- a World with other numbers of its journal
abbrev numbered_so : World → ℕ → ℕ → ℕ → World
numbered_so w epoch records format = record w { epoch = epoch; records = records; format = format }

migrate_same : (n : ℕ) (w v : World) → AreAlike w v → says.Migrate (length (next_steps n w)) (steps_left (all_moved (next_steps n w) w)) ≡ says.Migrate (length (next_steps n v)) (steps_left (all_moved (next_steps n v) v))
migrate_same n w v a =
    ap (λ ms. says.Migrate (length ms) (steps_left (all_moved ms w))) (steps_alike n w v a)
    ∙ ap (λ sets. says.Migrate (length (next_steps n v)) (steps_of_all sets)) (all_alike (next_steps n v) w v a).sets

generate_same : (name : List ℕ) (ms : List Move) (w v : World) → AreAlike w v → generated_reply name (set_named (all_moved ms w) name) ≡ generated_reply name (set_named (all_moved ms v) name)
generate_same name ms w v a = ap (λ sets. generated_reply name (first_set (named name) sets)) (all_alike ms w v a).sets

numbers_same : (w : World) (epoch records : ℕ) (s : Session) (command : Command) → (permitted (numbered_so w epoch records w.format) s command).reply ≡ (permitted w s command).reply
numbers_same w epoch records s (asks.Init cvd schema file) = refl
numbers_same w epoch records s (asks.Checkout cvd vids file None) = refl
numbers_same w epoch records s (asks.Checkout cvd vids file (Some table)) = refl
numbers_same w epoch records s (asks.Commit cvd vids file message added) = refl
numbers_same w epoch records s (asks.CommitStaged user table message) = refl
numbers_same w epoch records s (asks.Run text) = refl
numbers_same w epoch records s (asks.Optimize cvd p q) = refl
numbers_same w epoch records s (asks.OptimizeWithin cvd budget) = refl
numbers_same w epoch records s (asks.Advise cvd budget a b) = refl
numbers_same w epoch records s (asks.Migrate count) = migrate_same count (numbered_so w epoch records w.format) w (record { sets = refl; next = refl })
numbers_same w epoch records s (asks.Layout cvd) = refl
numbers_same w epoch records s (asks.Log cvd) = refl
numbers_same w epoch records s asks.Ls = refl
numbers_same w epoch records s (asks.DropCvd cvd) = refl
numbers_same w epoch records s asks.Checkpoint = refl
numbers_same w epoch records s (asks.Generate cvd seed rows versions) =
    unless_same s (init_refusal w cvd) _ _
    (generate_same cvd (generated w.next cvd seed rows versions) (numbered_so w epoch records w.format) w (record { sets = refl; next = refl }))
numbers_same w epoch records s (asks.CreateUser name) = refl
numbers_same w epoch records s (asks.Config name) = refl
numbers_same w epoch records s asks.Whoami = refl
numbers_same w epoch records s (asks.Unstage user table) = refl
numbers_same w epoch records s asks.Tables = refl

deeds_same : (w : World) (epoch records : ℕ) (s : Session) (command : Command) → (deed (numbered_so w epoch records w.format) s command).reply ≡ (deed w s command).reply
deeds_same w epoch records s command =
    unless_same s (permit s.user command) (permitted (numbered_so w epoch records w.format) s command) (permitted w s command)
    (numbers_same w epoch records s command)

pub checkpoint_same : (w : World) (s : Session) (command : Command) → w.format ≡ 2 → (deed (moved Checkpoint w) s command).reply ≡ (deed w s command).reply
checkpoint_same w s command two =
    ap (λ format. (deed (numbered_so w (w.epoch + 1) (length w.sets + 1) format) s command).reply) (sym two)
    ∙ deeds_same w (w.epoch + 1) (length w.sets + 1) s command

-- the dataset of a name, in a book
abbrev pub first_named : List ℕ → List Cvd → Option Cvd
first_named name [] = None
first_named name (c ∷ cs) = if bytes_eq c.name name then Some c else first_named name cs

cvd_if : (t : Bool) (d : Dataset) (later : Option Dataset) (rest : Option Cvd) → cvd_in later ≡ rest → cvd_in (if t then Some d else later) ≡ (if t then Some d.cvd else rest)
cvd_if true d later rest same = refl
cvd_if false d later rest same = same

pub found_in_book : (name : List ℕ) (sets : List Dataset) → cvd_in (first_set (named name) sets) ≡ first_named name (map (λ d. d.cvd) sets)
found_in_book name [] = refl
found_in_book name (d ∷ sets) = cvd_if (named name d) d (first_set (named name) sets) (first_named name (map (λ x. x.cvd) sets)) (found_in_book name sets)

abbrev checkout_in_book : Session → List ℕ → Option (List ℕ) → List ℕ → Option Cvd → Deed
checkout_in_book s vids file name None = refuses s (no.NoCvd name)
checkout_in_book s vids file name (Some cvd) = unless s (vids_refusal (length cvd.versions) [] vids) (gives s cvd (merge_of cvd vids) file)

checkout_is : (s : Session) (vids : List ℕ) (file : Option (List ℕ)) (name : List ℕ) (d : Option Dataset) → checkout_deed s vids file name d ≡ checkout_in_book s vids file name (cvd_in d)
checkout_is s vids file name None = refl
checkout_is s vids file name (Some d) = refl

checkout_in : (w : World) (s : Session) (vids : List ℕ) (file : Option (List ℕ)) (name : List ℕ) → permitted w s (asks.Checkout name vids file None) ≡ checkout_in_book s vids file name (first_named name (book w))
checkout_in w s vids file name = checkout_is s vids file name (set_named w name) ∙ ap (checkout_in_book s vids file name) (found_in_book name w.sets)

pub checkout_same : (w v : World) (s : Session) (vids : List ℕ) (file : Option (List ℕ)) (name : List ℕ) → book w ≡ book v → deed w s (asks.Checkout name vids file None) ≡ deed v s (asks.Checkout name vids file None)
checkout_same w v s vids file name same =
    ap (unless s (permit s.user (asks.Checkout name vids file None)))
    (checkout_in w s vids file name ∙ ap (λ b. checkout_in_book s vids file name (first_named name b)) same ∙ sym (checkout_in v s vids file name))
