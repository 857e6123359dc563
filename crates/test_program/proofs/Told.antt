-- Fresh ends meet the premises of a run's clause, with the empty World.
--     one_word      a list of one word
--     new_host      a new host of no bytes
--     ends_are      the ends that were made
--     is_told      fresh ends are told
--     plays_fresh      so what a run over them said and did is what the clause says
use Rattle.std.specs.Prelude.{◌≡◌, ℕ, List, [], ◌∷◌, ◌++◌, String, Vec, Some, codes}
use Rattle.std.proofs.Common.{◌∙◌, ap, arith, inl, refl, subst, sym}
use Rattle.std.specs.declared.alloc.Global.{Global}
use Rattle.ov_host.specs.Host.{State}
use Rattle.ov_host.specs.Source.{Script}
use Rattle.ov_host.specs.Stage.{Staged}
use Rattle.law_image.proofs.Standing.{unmade_stands}
use Rattle.ov_memhost.specs.Host.{new_state}
use Rattle.ov_model.specs.World.{World, empty_world}
use Rattle.ov_args.specs.Words.{options_of}
use Rattle.ov_top.specs.Ending.{Ends, IsTold, Plays}
use Rattle.ov_top.specs.declared.status.Status.{Status}
use Rattle.test_program.specs.Fresh.{fresh_ends}

pub one_word : (all none : List (List ℕ)) (word : List ℕ) → all ≡ none ++ word ∷ [] → none ≡ [] → word ≡ codes "s" → all ≡ codes "s" ∷ []
one_word all none word is empty s = is ∙ (ap (λ (x : List (List ℕ)). x ++ word ∷ []) empty ∙ ap (λ (x : List ℕ). x ∷ []) s)

pub new_host : (pages journal : List ℕ) → pages ≡ [] → journal ≡ []
    → new_state (record { pages = pages; journal = journal }) [] ≡ new_state (record { pages = []; journal = [] }) []
new_host pages journal p j =
    ap (λ (x : List ℕ). new_state (record { pages = x; journal = journal }) []) p ∙ ap (λ (x : List ℕ). new_state (record { pages = []; journal = x }) []) j

pub ends_are : (script : List ℕ) (files : List (String Global × Vec ℕ Global)) (host : State) (source : Script) (stage : Staged)
    → host ≡ (fresh_ends script files).host → source ≡ (fresh_ends script files).script → stage ≡ (fresh_ends script files).stage
    → record { host = host; script = source; stage = stage } ≡ fresh_ends script files
ends_are script files host source stage h s t =
    ap (λ (x : State). record { host = x; script = source; stage = stage }) h
    ∙ (ap (λ (x : Script). record { host = (fresh_ends script files).host; script = x; stage = stage }) s
    ∙ ap (λ (x : Staged). record { host = (fresh_ends script files).host; script = (fresh_ends script files).script; stage = x }) t)

is_told : (script : List ℕ) (files : List (String Global × Vec ℕ Global)) → IsTold empty_world (fresh_ends script files)
is_told script files =
    record {
      host = refl;
      settled = record { pages = refl; journal = refl };
      stands = unmade_stands (record { pages = []; journal = []; printed = [] }) (inl (omega arith)) refl;
      script = refl;
      stage = refl;
    }

pub plays_fresh : (script : List ℕ) (files : List (String Global × Vec ℕ Global)) (status : Status) (words : List (List ℕ)) (old new : Ends)
    → words ≡ codes "s" ∷ [] → old ≡ fresh_ends script files
    → ((w : World) (o : List ℕ × ℕ) → options_of words ≡ Some o → IsTold w old → Plays status o.1 w old new)
    → Plays status 0 empty_world (fresh_ends script files) new
plays_fresh script files status words old new words_are is plays =
    subst (λ (e : Ends). Plays status 0 empty_world e new) is
    (plays empty_world (codes "s", 0) (ap (λ (x : List (List ℕ)). options_of x) words_are)
    (subst (λ (e : Ends). IsTold empty_world e) (sym is) (is_told script files)))
