use Rattle.std.proofs.Common.{rules, ◌≡◌, ◌∙◌, ap, arith, refl, subst, sym}
use Rattle.std.specs.Prelude.{None, Some}
use Rattle.ov_host.specs.Stops.{Only}
use Rattle.ov_host.specs.Tape.{Tape}
use Rattle.ov_model.specs.Moves.{moved}
use Rattle.ov_open.specs.Opening.{IsWorld}
use Rattle.ov_core.specs.AtWorld.{IsAtNext, IsEither}
use Rattle.ov_store.specs.Changes.{bringing_of}
use Rattle.ov_store.specs.Committing.{IsUncommitted, commit_move, committed}
use Rattle.ov_new_version.proofs.Answering.{err_match}
use Rattle.law_room.specs.Room.{IsWithin}
use Rattle.ov_store.specs.declared.store.Committed.{Committed}
use Rattle.ov_store.specs.Worlds.{IsLack, IsRefusedAs, and_made, version_refusal}
use Rattle.ov_store.proofs.Deciding.{version_fits}
use Rattle.ov_store.proofs.Lacking.{done_within, unstored_lacks, unstored_refused, version_lacks, version_refused_as, same_epoch}
use Rattle.ov_store.proofs.Finishing.{commits, set_there, unready_spared, unready_uncommitted, unstored_uncommitted}
use Rattle.ov_store.proofs.Journals.{looked_by}
use Rattle.ov_store.proofs.Looking.{looked_at}
use Rattle.ov_store.proofs.Still.{still, still_world}
use Rattle.ov_store.proofs.Undamaged.{read_not_damaged}
use Rattle.ov_store.proofs.Versions.{never_both}
use Rattle.ov_store.proofs.store.Store.commit.Goals as goal

pub returns-in-Err-clause-why : goal.returns-in-Err-clause-why
returns-in-Err-clause-why g c =
    unready_uncommitted c.args.self.now.held c.args.name.now (record { vids = c.args.parents.now; message = c.args.message.now; added = c.args.added.now; rows = c.args.rows }) (g.H.Host.state c.args.host.now) (g.H.Host.state c.next.new.host) c.uncommitted.result c.in-Err.why c.in-Err.ensures.why c.uncommitted.ensures.off c.uncommitted.ensures.long

pub returns-in-Err-clause-stops : goal.returns-in-Err-clause-stops
returns-in-Err-clause-stops g c = λ w at.
    subst (λ (tape : Tape). Only (g.H.Host.state c.args.host.now).tape tape (IsEither w (committed c.args.name.now (record { vids = c.args.parents.now; message = c.args.message.now; added = c.args.added.now; rows = c.args.rows }) w) (g.H.Host.state c.args.host.now).tape.disk.printed)) (sym (c.next.ensures.looked.tape at.at.told))
    (still w (committed c.args.name.now (record { vids = c.args.parents.now; message = c.args.message.now; added = c.args.added.now; rows = c.args.rows }) w) c.args.self.now.held (g.H.Host.state c.args.host.now) at)

pub returns-in-Err-clause-spared : goal.returns-in-Err-clause-spared
returns-in-Err-clause-spared g c = λ w d at named.
    unready_spared c.args.self.now.held c.args.name.now (record { vids = c.args.parents.now; message = c.args.message.now; added = c.args.added.now; rows = c.args.rows }) (g.H.Host.state c.args.host.now) (g.H.Host.state c.next.new.host) c.uncommitted.result w d c.in-Err.why c.in-Err.ensures.why c.uncommitted.ensures.off c.uncommitted.ensures.long
    (c.in-Err.ensures.spared w d at named)

pub returns-in_err-change-clause-why : goal.returns-in_err-change-clause-why
returns-in_err-change-clause-why g c =
    let there = set_there c.args.self.now.held c.args.name.now c.args.parents.now c.args.added.now c.args.rows c.in-Ok.ensures.allowed
    in let fact : IsUncommitted c.args.self.now.held c.args.name.now (record { vids = c.args.parents.now; message = c.args.message.now; added = c.args.added.now; rows = c.args.rows }) (g.H.Host.state c.args.host.now) (g.H.Host.state c.change.new.host) c.in_err-change.field-0.0
    = unstored_uncommitted c.args.self.now.held c.args.name.now there.0 (record { vids = c.args.parents.now; message = c.args.message.now; added = c.args.added.now; rows = c.args.rows }) (g.H.Host.state c.args.host.now) (g.H.Host.state c.next.new.host) (g.H.Host.state c.change.new.host) (bringing_of c.in-Ok.next.brought) c.in-Ok.next.fresh c.in_err-change.field-0.0
    there.1 c.in-Ok.ensures.allowed (c.in-Ok.ensures.by there.0 there.1) c.next.ensures.looked.faults c.in_err-change.ensures.why
    in search (rules, fact)

pub returns-in_err-change-clause-stops : goal.returns-in_err-change-clause-stops
returns-in_err-change-clause-stops g c = λ w at.
    commits w c.args.self.now.held (g.H.Host.state c.args.host.now) at c.args.name.now (record { vids = c.args.parents.now; message = c.args.message.now; added = c.args.added.now; rows = c.args.rows }) c.in-Ok.ensures.allowed (λ v. Only (g.H.Host.state c.args.host.now).tape (g.H.Host.state c.change.new.host).tape (IsEither w v (g.H.Host.state c.args.host.now).tape.disk.printed))
    (λ d named. subst (λ (tape : Tape). Only tape (g.H.Host.state c.change.new.host).tape (IsEither w (moved (commit_move d c.args.parents.now c.args.message.now c.args.added.now c.args.rows) w) tape.disk.printed)) (c.next.ensures.looked.tape at.at.told)
    (c.change.ensures.stops w (commit_move d c.args.parents.now c.args.message.now c.args.added.now c.args.rows) (looked_at w c.args.self.now.held (g.H.Host.state c.args.host.now) (g.H.Host.state c.next.new.host) c.next.ensures.looked at) (c.in-Ok.ensures.brings w d at named)))

pub returns-clause-done : goal.returns-clause-done
returns-clause-done g c = λ s named. record {
  brought = bringing_of c.in-Ok.next.brought;
  by = c.in-Ok.ensures.by s named;
  done = c.in_ok-change.ensures.done;
  vid_is = c.in-Ok.ensures.vid s named;
  rows_is = search rules;
}

pub returns-clause-stops : goal.returns-clause-stops
returns-clause-stops g c = λ w at.
    commits w c.args.self.now.held (g.H.Host.state c.args.host.now) at c.args.name.now (record { vids = c.args.parents.now; message = c.args.message.now; added = c.args.added.now; rows = c.args.rows }) c.in-Ok.ensures.allowed (λ v. Only (g.H.Host.state c.args.host.now).tape (g.H.Host.state c.change.new.host).tape (IsEither w v (g.H.Host.state c.args.host.now).tape.disk.printed))
    (λ d named. subst (λ (tape : Tape). Only tape (g.H.Host.state c.change.new.host).tape (IsEither w (moved (commit_move d c.args.parents.now c.args.message.now c.args.added.now c.args.rows) w) tape.disk.printed)) (c.next.ensures.looked.tape at.at.told)
    (c.change.ensures.stops w (commit_move d c.args.parents.now c.args.message.now c.args.added.now c.args.rows) (looked_at w c.args.self.now.held (g.H.Host.state c.args.host.now) (g.H.Host.state c.next.new.host) c.next.ensures.looked at) (c.in-Ok.ensures.brings w d at named)))

pub returns-clause-moves : goal.returns-clause-moves
returns-clause-moves g c = λ w at.
    commits w c.args.self.now.held (g.H.Host.state c.args.host.now) at c.args.name.now (record { vids = c.args.parents.now; message = c.args.message.now; added = c.args.added.now; rows = c.args.rows }) c.in-Ok.ensures.allowed (λ v. IsAtNext v c.change.new.self.held (g.H.Host.state c.args.host.now) (g.H.Host.state c.change.new.host))
    (λ d named.
    let next : IsAtNext (moved (commit_move d c.args.parents.now c.args.message.now c.args.added.now c.args.rows) w) c.change.new.self.held (g.H.Host.state c.next.new.host) (g.H.Host.state c.change.new.host)
    = c.in_ok-change.ensures.moves w (commit_move d c.args.parents.now c.args.message.now c.args.added.now c.args.rows) (looked_at w c.args.self.now.held (g.H.Host.state c.args.host.now) (g.H.Host.state c.next.new.host) c.next.ensures.looked at) (c.in-Ok.ensures.brings w d at named)
    in record { at = next.at; printed_same = next.printed_same ∙ ap (λ (tape : Tape). tape.disk.printed) (c.next.ensures.looked.tape at.at.told) })

pub returns-in-Err-clause-refused : goal.returns-in-Err-clause-refused
returns-in-Err-clause-refused g c = λ w d at named.
    version_refused_as w c.args.self.now.held (g.H.Host.state c.args.host.now) at c.args.name.now d named (record { vids = c.args.parents.now; message = c.args.message.now; added = c.args.added.now; rows = c.args.rows }) (g.H.Host.state c.next.new.host) c.in-Err.why c.uncommitted.result c.in-Err.ensures.why (c.in-Err.ensures.spared w d at named)
    c.uncommitted.ensures.off c.uncommitted.ensures.long

pub returns-in-Err-clause-still : goal.returns-in-Err-clause-still
returns-in-Err-clause-still g c = λ w d refusal at named no.
    subst (λ (tape : Tape). Only (g.H.Host.state c.args.host.now).tape tape (IsWorld w (g.H.Host.state c.args.host.now).tape.disk.printed)) (sym (c.next.ensures.looked.tape at.at.told)) (still_world w c.args.self.now.held (g.H.Host.state c.args.host.now) at)

pub returns-in-Err-clause-room : goal.returns-in-Err-clause-room
returns-in-Err-clause-room g c = λ w d entry past at named within.
    version_lacks entry past c.args.self.now.held (commit_move d c.args.parents.now c.args.message.now c.args.added.now c.args.rows) w within d (record { vids = c.args.parents.now; message = c.args.message.now; added = c.args.added.now; rows = c.args.rows }) refl c.in-Err.why c.uncommitted.result (c.in-Err.ensures.spared w d at named) c.uncommitted.ensures.off c.uncommitted.ensures.long

pub returns-in_err-change-clause-refused : goal.returns-in_err-change-clause-refused
returns-in_err-change-clause-refused g c = λ w d at named.
    let none : version_refusal w d (record { vids = c.args.parents.now; message = c.args.message.now; added = c.args.added.now; rows = c.args.rows }) ≡ None = version_fits w c.args.self.now.held (g.H.Host.state c.args.host.now) at c.args.name.now d named (record { vids = c.args.parents.now; message = c.args.message.now; added = c.args.added.now; rows = c.args.rows }) c.in-Ok.ensures.allowed (c.in-Ok.ensures.brings w d at named).fits
    in let fact : IsRefusedAs c.args.name.now (version_refusal w d (record { vids = c.args.parents.now; message = c.args.message.now; added = c.args.added.now; rows = c.args.rows })) c.in_err-change.field-0.0
    = unstored_refused c.args.name.now (version_refusal w d (record { vids = c.args.parents.now; message = c.args.message.now; added = c.args.added.now; rows = c.args.rows })) c.args.self.now.held (bringing_of c.in-Ok.next.brought) (g.H.Host.state c.next.new.host) (g.H.Host.state c.change.new.host) c.in_err-change.field-0.0 none c.in_err-change.ensures.why
    in err_match (λ (made : Committed). (version_refusal w d (record { vids = c.args.parents.now; message = c.args.message.now; added = c.args.added.now; rows = c.args.rows })) ≡ None) (IsRefusedAs c.args.name.now (version_refusal w d (record { vids = c.args.parents.now; message = c.args.message.now; added = c.args.added.now; rows = c.args.rows }))) c.from_residual.result c.in_err-change.field-0.0 c.from_residual.ensures fact

pub returns-in_err-change-clause-still : goal.returns-in_err-change-clause-still
returns-in_err-change-clause-still g c = λ w d refusal at named no.
    let none : version_refusal w d (record { vids = c.args.parents.now; message = c.args.message.now; added = c.args.added.now; rows = c.args.rows }) ≡ None = version_fits w c.args.self.now.held (g.H.Host.state c.args.host.now) at c.args.name.now d named (record { vids = c.args.parents.now; message = c.args.message.now; added = c.args.added.now; rows = c.args.rows }) c.in-Ok.ensures.allowed (c.in-Ok.ensures.brings w d at named).fits in let clash : None ≡ Some refusal = sym none ∙ no in absurd cc

pub returns-in_err-change-clause-room : goal.returns-in_err-change-clause-room
returns-in_err-change-clause-room g c = λ w d entry past at named within.
    let fact : IsLack entry past (commit_move d c.args.parents.now c.args.message.now c.args.added.now c.args.rows) w c.in_err-change.field-0.0
    = unstored_lacks entry past c.args.self.now.held (commit_move d c.args.parents.now c.args.message.now c.args.added.now c.args.rows) w within c.in-Ok.next.brought (g.H.Host.state c.next.new.host) (g.H.Host.state c.change.new.host) c.in_err-change.field-0.0 c.in-Ok.ensures.ready.unplaced (c.in-Ok.ensures.brings w d at named) c.in_err-change.ensures.why
    in err_match (λ (made : Committed). IsWithin entry (and_made past (commit_move d c.args.parents.now c.args.message.now c.args.added.now c.args.rows) w) c.change.new.self.held) (IsLack entry past (commit_move d c.args.parents.now c.args.message.now c.args.added.now c.args.rows) w) c.from_residual.result c.in_err-change.field-0.0 c.from_residual.ensures fact

pub returns-clause-refused : goal.returns-clause-refused
returns-clause-refused g c = λ w d at named. version_fits w c.args.self.now.held (g.H.Host.state c.args.host.now) at c.args.name.now d named (record { vids = c.args.parents.now; message = c.args.message.now; added = c.args.added.now; rows = c.args.rows }) c.in-Ok.ensures.allowed (c.in-Ok.ensures.brings w d at named).fits

pub returns-clause-still : goal.returns-clause-still
returns-clause-still g c = λ w d refusal at named no.
    let none : version_refusal w d (record { vids = c.args.parents.now; message = c.args.message.now; added = c.args.added.now; rows = c.args.rows }) ≡ None = version_fits w c.args.self.now.held (g.H.Host.state c.args.host.now) at c.args.name.now d named (record { vids = c.args.parents.now; message = c.args.message.now; added = c.args.added.now; rows = c.args.rows }) c.in-Ok.ensures.allowed (c.in-Ok.ensures.brings w d at named).fits in let clash : None ≡ Some refusal = sym none ∙ no in absurd cc

pub returns-clause-room : goal.returns-clause-room
returns-clause-room g c = λ w d entry past at named within.
    done_within entry past c.args.self.now.held (commit_move d c.args.parents.now c.args.message.now c.args.added.now c.args.rows) w within c.in-Ok.next.brought c.change.new.self.held c.in-Ok.ensures.ready.unplaced (c.in-Ok.ensures.brings w d at named) c.in_ok-change.ensures.done
    (c.in_ok-change.ensures.grows w (looked_at w c.args.self.now.held (g.H.Host.state c.args.host.now) (g.H.Host.state c.next.new.host) c.next.ensures.looked at))
    (same_epoch w (commit_move d c.args.parents.now c.args.message.now c.args.added.now c.args.rows) c.args.self.now.held c.change.new.self.held (g.H.Host.state c.next.new.host) (g.H.Host.state c.change.new.host)
    (λ same. cc) (c.in-Ok.ensures.brings w d at named).fits (looked_at w c.args.self.now.held (g.H.Host.state c.args.host.now) (g.H.Host.state c.next.new.host) c.next.ensures.looked at)
    (c.in_ok-change.ensures.moves w (commit_move d c.args.parents.now c.args.message.now c.args.added.now c.args.rows) (looked_at w c.args.self.now.held (g.H.Host.state c.args.host.now) (g.H.Host.state c.next.new.host) c.next.ensures.looked at) (c.in-Ok.ensures.brings w d at named)))

pub returns-clause-undamaged : goal.returns-clause-undamaged
returns-clause-undamaged g c = λ s told named page.
    let by = c.in-Ok.ensures.by s named
    in read_not_damaged s (record { vids = c.args.parents.now; message = c.args.message.now; added = c.args.added.now; rows = c.args.rows }) (g.H.Host.state c.args.host.now) by.parents page told by.are

pub returns-clause-by_journal : goal.returns-clause-by_journal
returns-clause-by_journal g c = λ before.
    c.in_ok-change.ensures.by_journal (looked_by c.args.self.now.held (g.H.Host.state c.args.host.now) (g.H.Host.state c.next.new.host) c.next.ensures.looked before)

pub returns-in_err-change-clause-counted : goal.returns-in_err-change-clause-counted
returns-in_err-change-clause-counted g c = omega (arith, c.next.ensures.looked.fetched, c.change.ensures.passes.fetched)

pub returns-clause-counted : goal.returns-clause-counted
returns-clause-counted g c = omega (arith, c.next.ensures.looked.fetched, c.change.ensures.passes.fetched)

pub returns-in_err-change-clause-unread : goal.returns-in_err-change-clause-unread
returns-in_err-change-clause-unread g c = λ off is. absurd (never_both off c.in-Ok.ensures.allowed is)

pub returns-clause-unread : goal.returns-clause-unread
returns-clause-unread g c = λ off is. absurd (never_both off c.in-Ok.ensures.allowed is)
