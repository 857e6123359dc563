use Rattle.std.proofs.Common.{rules, ◌≡◌, ◌∙◌, Some, ap, sym, subst}
use Rattle.std.proofs.lemmas.Result.{err_from_is_err_and}
use Rattle.ov_fetch.specs.Extents.{page_bytes}
use Rattle.ov_fetch.specs.Scans.{IsSound}
use Rattle.ov_join.specs.Meeting.{rows_shown}
use Rattle.ov_model.specs.Records.{rows_at}
use Rattle.ov_model.specs.World.{Dataset, set_named}
use Rattle.ov_model.specs.declared.query.JoinQuery.{JoinQuery}
use Rattle.ov_store.proofs.Looking.{looked_at}
use Rattle.ov_store.specs.Scanning.{IsDamagedIn, set_in}
use Rattle.ov_value.specs.Shapes.{Shape}
use Rattle.ov_query.proofs.Both.{both_whole}
use Rattle.ov_query.proofs.Joined.{join_replied, join_tells}
use Rattle.ov_query.proofs.Known.{side_set}
use Rattle.ov_query.specs.Joining.{IsVersionRead}
use Rattle.ov_query.specs.Queries.{side_read}
use Rattle.ov_query.proofs.joining.read_and_join.Goals as goal

pub returns-in_err-left-clause-undamaged : goal.returns-in_err-left-clause-undamaged
returns-in_err-left-clause-undamaged g c = λ w at. let fact = c.in_err-left.ensures.undamaged w at in search (rules, fact)

pub returns-in_err-right-clause-undamaged : goal.returns-in_err-right-clause-undamaged
returns-in_err-right-clause-undamaged g c = λ w at.
    let fact = c.in_err-right.ensures.undamaged w
    (looked_at w c.args.store.now.held (g.H.Host.state c.args.host.now) (g.H.Host.state c.scan_side.new.host) c.in_ok-left.ensures.looked at)
    in search (rules, fact)

pub returns-in_err-join_over-clause-undamaged : goal.returns-in_err-join_over-clause-undamaged
returns-in_err-join_over-clause-undamaged g c = λ w at.
    let p = err_from_is_err_and c.from_residual-in_err-join_over.result c.from_residual-in_err-join_over.ensures.1 in rw (p.1, p.2) tt

-- ---- the sides are sound

pub join_over-requires-clause-left : goal.join_over-requires-clause-left
join_over-requires-clause-left g c =
    let n = c.args.store.now.held.numbers
    in let side = c.args.typed.now.join.left
    in let it = side_set side (set_in n side.cvd) c.args.typed.now.left c.requires.left
    in subst (λ (schema : Shape). IsSound schema c.in_ok-left.left) (sym it.2)
    (c.in_ok-left.ensures.sound it.0 (ap (λ (j : JoinQuery). set_in n j.left.cvd) c.join.ensures ∙ it.1))

pub join_over-requires-clause-right : goal.join_over-requires-clause-right
join_over-requires-clause-right g c =
    let n = c.args.store.now.held.numbers
    in let side = c.args.typed.now.join.right
    in let it = side_set side (set_in n side.cvd) c.args.typed.now.right c.requires.right
    in subst (λ (schema : Shape). IsSound schema c.in_ok-right.right) (sym it.2)
    (c.in_ok-right.ensures.sound it.0 (ap (λ (j : JoinQuery). set_in n j.right.cvd) c.join-2.ensures ∙ it.1))

-- ---- what it says

pub returns-clause-reply : goal.returns-clause-reply
returns-clause-reply g c =
    let n = c.args.store.now.held.numbers
    in let old = g.H.Host.state c.args.host.now
    in let mid = g.H.Host.state c.scan_side.new.host
    in let join = c.args.typed.now.join
    in let l = side_set join.left (set_in n join.left.cvd) c.args.typed.now.left c.requires.left
    in let r = side_set join.right (set_in n join.right.cvd) c.args.typed.now.right c.requires.right
    in join_replied join (set_in n join.left.cvd) (set_in n join.right.cvd) l.0 r.0 c.args.typed.now.left c.args.typed.now.right
    (rows_shown c.in_ok-left.left) (rows_shown c.in_ok-right.right) old mid c.in_ok-join_over.field-0 l.1 r.1 l.2 r.2 c.in_ok-left.ensures.looked
    (λ told. subst (λ (j : JoinQuery). set_in n j.left.cvd ≡ Some l.0 → IsVersionRead l.0 j.left.vid (page_bytes old) (rows_shown c.in_ok-left.left)) c.join.ensures
    (λ found. c.in_ok-left.ensures.read l.0 told found) l.1)
    (λ told. subst (λ (j : JoinQuery). set_in n j.right.cvd ≡ Some r.0 → IsVersionRead r.0 j.right.vid (page_bytes mid) (rows_shown c.in_ok-right.right)) c.join-2.ensures
    (λ found. c.in_ok-right.ensures.read r.0 told found) r.1)
    c.requires.fits c.in_ok-join_over.ensures

pub returns-clause-whole : goal.returns-clause-whole
returns-clause-whole g c = λ page told.
    let n = c.args.store.now.held.numbers
    in let old = g.H.Host.state c.args.host.now
    in let mid = g.H.Host.state c.scan_side.new.host
    in let join = c.args.typed.now.join
    in both_whole (side_read join.left (set_in n join.left.cvd)) (side_read join.right (set_in n join.right.cvd)) old mid
    (g.H.Host.state c.scan_side-2.new.host) c.in_ok-left.ensures.looked
    (λ page told. subst (λ (j : JoinQuery). IsDamagedIn (set_in n j.left.cvd) (side_read j.left (set_in n j.left.cvd)).vids old page → ⊥) c.join.ensures
    (c.in_ok-left.ensures.whole page told))
    told page
    (subst (λ (j : JoinQuery). IsDamagedIn (set_in n j.right.cvd) (side_read j.right (set_in n j.right.cvd)).vids mid page → ⊥) c.join-2.ensures
    (c.in_ok-right.ensures.whole page (c.in_ok-left.ensures.looked.told ∙ told)))

pub returns-clause-world : goal.returns-clause-world
returns-clause-world g c = λ w s at.
    let held = c.args.store.now.held
    in let old = g.H.Host.state c.args.host.now
    in let mid = g.H.Host.state c.scan_side.new.host
    in join_tells w held old at c.args.typed.now.join c.args.typed.now.left c.args.typed.now.right c.requires.left c.requires.right s
    (rows_shown c.in_ok-left.left) (rows_shown c.in_ok-right.right) c.in_ok-join_over.field-0
    (subst (λ (j : JoinQuery). (d : Dataset) → set_named w j.left.cvd ≡ Some d → rows_shown c.in_ok-left.left ≡ rows_at d.cvd.versions j.left.vid) c.join.ensures
    (λ d named. c.in_ok-left.ensures.world w d at named))
    (subst (λ (j : JoinQuery). (d : Dataset) → set_named w j.right.cvd ≡ Some d → rows_shown c.in_ok-right.right ≡ rows_at d.cvd.versions j.right.vid) c.join-2.ensures
    (λ d named. c.in_ok-right.ensures.world w d (looked_at w held old mid c.in_ok-left.ensures.looked at) named))
    c.in_ok-join_over.ensures
