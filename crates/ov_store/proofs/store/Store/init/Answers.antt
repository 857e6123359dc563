use Rattle.std.proofs.Common.{rules, ◌≡◌, ◌∙◌, sym, ap, subst}
use Rattle.std.specs.Prelude.{None, Some}
use Rattle.ov_model.specs.Moves.{moved}
use Rattle.ov_store.specs.Beginning.{first_move, first_of, init_off}
use Rattle.ov_store.specs.Changes.{IsUnstored, IsWhy, bringing_of}
use Rattle.ov_store.specs.Refusals.{refused}
use Rattle.ov_new_version.proofs.Answering.{err_match}
use Rattle.law_room.specs.Room.{IsWithin}
use Rattle.ov_store.specs.declared.store.Committed.{Committed}
use Rattle.ov_store.specs.Worlds.{IsLack, IsRefusedAs, and_made, begin_refusal}
use Rattle.ov_store.proofs.Answering.{why_unstored}
use Rattle.ov_store.proofs.Deciding.{begin_refused}
use Rattle.ov_store.proofs.Lacking.{begin_lacks, begin_refused_as, done_within, unstored_lacks, unstored_refused, same_epoch}
use Rattle.ov_store.proofs.Unreadying.{unready_why}
use Rattle.ov_store.proofs.Still.{still, still_world}
use Rattle.ov_store.proofs.store.Store.init.Goals as goal

pub returns-in-Err-clause-why : goal.returns-in-Err-clause-why
returns-in-Err-clause-why g c =
    unready_why (init_off c.args.self.now.held c.args.name.now c.args.schema c.args.rows) (first_of c.args.name.now c.args.schema c.args.rows) c.args.self.now.held
    (g.H.Host.state c.args.host.now) (g.H.Host.state c.args.host.now) c.in-Err.why c.unready.result c.in-Err.ensures.why c.unready.ensures.off c.unready.ensures.long

pub returns-in-Err-clause-stops : goal.returns-in-Err-clause-stops
returns-in-Err-clause-stops g c = λ w at. still w (moved (first_move c.args.name.now c.args.schema c.args.rows) w) c.args.self.now.held (g.H.Host.state c.args.host.now) at

pub returns-in_err-change-clause-why : goal.returns-in_err-change-clause-why
returns-in_err-change-clause-why g c =
    let fact : IsWhy (init_off c.args.self.now.held c.args.name.now c.args.schema c.args.rows) (first_of c.args.name.now c.args.schema c.args.rows)
    c.args.self.now.held (g.H.Host.state c.args.host.now) (g.H.Host.state c.change.new.host) c.in_err-change.field-0.0
    = why_unstored (init_off c.args.self.now.held c.args.name.now c.args.schema c.args.rows) (first_of c.args.name.now c.args.schema c.args.rows)
    c.args.self.now.held (g.H.Host.state c.args.host.now) (g.H.Host.state c.change.new.host) c.in_err-change.field-0.0 c.in-Ok.ensures.allowed
    (subst (λ b. IsUnstored c.args.self.now.held b (g.H.Host.state c.args.host.now) (g.H.Host.state c.change.new.host) c.in_err-change.field-0.0) c.in-Ok.ensures.is c.in_err-change.ensures.why)
    in search (rules, fact)

pub returns-in_err-change-clause-stops : goal.returns-in_err-change-clause-stops
returns-in_err-change-clause-stops g c = λ w at.
    c.change.ensures.stops w (first_move c.args.name.now c.args.schema c.args.rows) at (c.in-Ok.ensures.brings w (g.H.Host.state c.args.host.now) at)

pub returns-clause-stops : goal.returns-clause-stops
returns-clause-stops g c = λ w at.
    c.change.ensures.stops w (first_move c.args.name.now c.args.schema c.args.rows) at (c.in-Ok.ensures.brings w (g.H.Host.state c.args.host.now) at)

pub returns-clause-moves : goal.returns-clause-moves
returns-clause-moves g c = λ w at.
    c.in_ok-change.ensures.moves w (first_move c.args.name.now c.args.schema c.args.rows) at (c.in-Ok.ensures.brings w (g.H.Host.state c.args.host.now) at)

pub returns-in-Err-clause-refused : goal.returns-in-Err-clause-refused
returns-in-Err-clause-refused g c = λ w at.
    begin_refused_as c.args.name.now (init_off c.args.self.now.held c.args.name.now c.args.schema c.args.rows) (begin_refusal w c.args.name.now c.args.schema c.args.rows) c.args.self.now.held (first_of c.args.name.now c.args.schema c.args.rows) c.in-Err.why c.unready.result
    (begin_refused w c.args.self.now.held (g.H.Host.state c.args.host.now) at c.args.name.now c.args.schema c.args.rows) c.in-Err.ensures.why c.unready.ensures.off c.unready.ensures.long

pub returns-in-Err-clause-still : goal.returns-in-Err-clause-still
returns-in-Err-clause-still g c = λ w refusal at no. still_world w c.args.self.now.held (g.H.Host.state c.args.host.now) at

pub returns-in-Err-clause-room : goal.returns-in-Err-clause-room
returns-in-Err-clause-room g c = λ w entry past at within.
    begin_lacks entry past c.args.self.now.held (first_move c.args.name.now c.args.schema c.args.rows) w within (init_off c.args.self.now.held c.args.name.now c.args.schema c.args.rows) (first_of c.args.name.now c.args.schema c.args.rows) c.in-Err.why c.unready.result c.in-Err.ensures.why (c.in-Err.ensures.long w) c.unready.ensures.off c.unready.ensures.long

pub returns-in_err-change-clause-refused : goal.returns-in_err-change-clause-refused
returns-in_err-change-clause-refused g c = λ w at.
    let none : begin_refusal w c.args.name.now c.args.schema c.args.rows ≡ None = (sym (begin_refused w c.args.self.now.held (g.H.Host.state c.args.host.now) at c.args.name.now c.args.schema c.args.rows) ∙ ap (refused c.args.name.now) c.in-Ok.ensures.allowed)
    in let fact : IsRefusedAs c.args.name.now (begin_refusal w c.args.name.now c.args.schema c.args.rows) c.in_err-change.field-0.0
    = unstored_refused c.args.name.now (begin_refusal w c.args.name.now c.args.schema c.args.rows) c.args.self.now.held (bringing_of c.in-Ok.brought) (g.H.Host.state c.args.host.now) (g.H.Host.state c.change.new.host) c.in_err-change.field-0.0 none c.in_err-change.ensures.why
    in err_match (λ (made : Committed). (begin_refusal w c.args.name.now c.args.schema c.args.rows) ≡ None) (IsRefusedAs c.args.name.now (begin_refusal w c.args.name.now c.args.schema c.args.rows)) c.from_residual.result c.in_err-change.field-0.0 c.from_residual.ensures fact

pub returns-in_err-change-clause-still : goal.returns-in_err-change-clause-still
returns-in_err-change-clause-still g c = λ w refusal at no.
    let none : begin_refusal w c.args.name.now c.args.schema c.args.rows ≡ None = (sym (begin_refused w c.args.self.now.held (g.H.Host.state c.args.host.now) at c.args.name.now c.args.schema c.args.rows) ∙ ap (refused c.args.name.now) c.in-Ok.ensures.allowed) in let clash : None ≡ Some refusal = sym none ∙ no in absurd cc

pub returns-in_err-change-clause-room : goal.returns-in_err-change-clause-room
returns-in_err-change-clause-room g c = λ w entry past at within.
    let fact : IsLack entry past (first_move c.args.name.now c.args.schema c.args.rows) w c.in_err-change.field-0.0
    = unstored_lacks entry past c.args.self.now.held (first_move c.args.name.now c.args.schema c.args.rows) w within c.in-Ok.brought (g.H.Host.state c.args.host.now) (g.H.Host.state c.change.new.host) c.in_err-change.field-0.0 c.in-Ok.ensures.ready.unplaced (c.in-Ok.ensures.brings w (g.H.Host.state c.args.host.now) at) c.in_err-change.ensures.why
    in err_match (λ (made : Committed). IsWithin entry (and_made past (first_move c.args.name.now c.args.schema c.args.rows) w) c.change.new.self.held) (IsLack entry past (first_move c.args.name.now c.args.schema c.args.rows) w) c.from_residual.result c.in_err-change.field-0.0 c.from_residual.ensures fact

pub returns-clause-refused : goal.returns-clause-refused
returns-clause-refused g c = λ w at. sym (begin_refused w c.args.self.now.held (g.H.Host.state c.args.host.now) at c.args.name.now c.args.schema c.args.rows) ∙ ap (refused c.args.name.now) c.in-Ok.ensures.allowed

pub returns-clause-still : goal.returns-clause-still
returns-clause-still g c = λ w refusal at no.
    let none : begin_refusal w c.args.name.now c.args.schema c.args.rows ≡ None = (sym (begin_refused w c.args.self.now.held (g.H.Host.state c.args.host.now) at c.args.name.now c.args.schema c.args.rows) ∙ ap (refused c.args.name.now) c.in-Ok.ensures.allowed) in let clash : None ≡ Some refusal = sym none ∙ no in absurd cc

pub returns-clause-room : goal.returns-clause-room
returns-clause-room g c = λ w entry past at within.
    done_within entry past c.args.self.now.held (first_move c.args.name.now c.args.schema c.args.rows) w within c.in-Ok.brought c.change.new.self.held c.in-Ok.ensures.ready.unplaced (c.in-Ok.ensures.brings w (g.H.Host.state c.args.host.now) at) c.in_ok-change.ensures.done (c.in_ok-change.ensures.grows w at)
    (same_epoch w (first_move c.args.name.now c.args.schema c.args.rows) c.args.self.now.held c.change.new.self.held (g.H.Host.state c.args.host.now) (g.H.Host.state c.change.new.host)
    (λ same. cc) (c.in-Ok.ensures.brings w (g.H.Host.state c.args.host.now) at).fits at
    (c.in_ok-change.ensures.moves w (first_move c.args.name.now c.args.schema c.args.rows) at (c.in-Ok.ensures.brings w (g.H.Host.state c.args.host.now) at)))
