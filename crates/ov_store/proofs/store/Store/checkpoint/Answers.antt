use Rattle.std.proofs.Common.{◌≡◌, ◌<◌, ◌^◌, ℕ, length, map, sym, ◌∙◌, ap, subst, arith}
use Rattle.std.proofs.lemmas.List.{length-map}
use Rattle.ov_journal.specs.Held.{IsAt}
use Rattle.ov_model.specs.Moves.{Checkpoint}
use Rattle.ov_catalog.specs.Sets.{set_in}
use Rattle.law_room.specs.Room.{IsWithin}
use Rattle.law_room.proofs.Checkpoints.{within_taken}
use Rattle.ov_core.specs.AtWorld.{IsAtWorld}
use Rattle.ov_core.specs.Held.{Held}
use Rattle.ov_store.specs.Worlds.{IsLack}
use Rattle.ov_store.proofs.Taken.{as_many, few_sets, untaken_lacks}
use Rattle.ov_store.proofs.store.Store.checkpoint.Goals as goal

pub overflow_cast-datasets : goal.overflow_cast-datasets
overflow_cast-datasets g c =
    let few : length c.self.inside.core.numbers.sets < 2 ^ 32 = few_sets c.self.inside.core c.is_replayed.ensures in
    omega (arith, few, length-map c.cvds.result.now set_in, ap length c.cvds.ensures.sets, ap (λ n. length n.sets) c.catalog.ensures)

pub returns-in-Ok-clause-stops : goal.returns-in-Ok-clause-stops
returns-in-Ok-clause-stops g c = λ w at.
    c.checkpoint.ensures.stops w (subst (λ held. IsAtWorld w held (g.H.Host.state c.args.host.now)) (sym (ap (λ kept. kept.held) c.self.view_is)) at)

pub returns-in-Ok-clause-moves : goal.returns-in-Ok-clause-moves
returns-in-Ok-clause-moves g c = λ w at.
    c.in-Ok.ensures.done w (subst (λ held. IsAtWorld w held (g.H.Host.state c.args.host.now)) (sym (ap (λ kept. kept.held) c.self.view_is)) at)

pub returns-in-Ok-clause-world : goal.returns-in-Ok-clause-world
returns-in-Ok-clause-world g c = λ w at.
    let inside : IsAtWorld w c.self.inside.core (g.H.Host.state c.args.host.now) = subst (λ held. IsAtWorld w held (g.H.Host.state c.args.host.now)) (sym (ap (λ kept. kept.held) c.self.view_is)) at
    in sym (length-map c.cvds.result.now set_in) ∙ ap length c.cvds.ensures.sets ∙ ap (λ n. length n.sets) c.catalog.ensures
    ∙ as_many w c.self.inside.core (g.H.Host.state c.args.host.now) inside

pub returns-in-Ok-clause-room : goal.returns-in-Ok-clause-room
returns-in-Ok-clause-room g c = λ w entry past at within.
    let inside : IsAtWorld w c.self.inside.core (g.H.Host.state c.args.host.now) = subst (λ held. IsAtWorld w held (g.H.Host.state c.args.host.now)) (sym (ap (λ kept. kept.held) c.self.view_is)) at
    in let before : IsWithin entry past c.self.inside.core = subst (IsWithin entry past) (sym (ap (λ kept. kept.held) c.self.view_is)) within
    in within_taken entry past c.self.inside.core c.checkpoint.new.self w (g.H.Host.state c.args.host.now) before inside c.in-Ok.ensures.taken

pub returns-in-Err-clause-stops : goal.returns-in-Err-clause-stops
returns-in-Err-clause-stops g c = λ w at.
    c.checkpoint.ensures.stops w (subst (λ held. IsAtWorld w held (g.H.Host.state c.args.host.now)) (sym (ap (λ kept. kept.held) c.self.view_is)) at)

pub returns-in-Err-clause-room : goal.returns-in-Err-clause-room
returns-in-Err-clause-room g c = λ w entry past at within.
    let inside : IsAtWorld w c.self.inside.core (g.H.Host.state c.args.host.now) = subst (λ held. IsAtWorld w held (g.H.Host.state c.args.host.now)) (sym (ap (λ kept. kept.held) c.self.view_is)) at
    in let before : IsWithin entry past c.self.inside.core = subst (IsWithin entry past) (sym (ap (λ kept. kept.held) c.self.view_is)) within
    in subst (IsLack entry past Checkpoint w) (sym c.refusal.ensures.answer)
    (untaken_lacks w c.self.inside.core (g.H.Host.state c.args.host.now) (g.H.Host.state c.args.host.now) (g.H.Host.state c.checkpoint.new.host) entry past inside before c.in-Err.off c.in-Err.ensures.why)

pub returns-in-Ok-clause-pages : goal.returns-in-Ok-clause-pages
returns-in-Ok-clause-pages g c = λ payloads at.
    c.checkpoint.ensures.pages payloads (subst (λ (held : Held). IsAt payloads held.journal (g.H.Host.state c.args.host.now)) (sym (ap (λ kept. kept.held) c.self.view_is)) at)

pub returns-in-Err-clause-pages : goal.returns-in-Err-clause-pages
returns-in-Err-clause-pages g c = λ payloads at.
    c.checkpoint.ensures.pages payloads (subst (λ (held : Held). IsAt payloads held.journal (g.H.Host.state c.args.host.now)) (sym (ap (λ kept. kept.held) c.self.view_is)) at)
