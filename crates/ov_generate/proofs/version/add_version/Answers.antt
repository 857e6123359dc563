use Rattle.std.proofs.Common.{◌≡◌, ◌≤◌, ◌+◌, ◌-◌, ◌∙◌, ℕ, List, [], ◌∷◌, length, refl, sym, ap, subst, arith}
use Rattle.std.specs.Prelude.{None, Some}
use Rattle.std.specs.List.{All}
use Rattle.ov_value.specs.Shapes.{Shape}
use Rattle.ov_value.specs.Spelling.{IsRow}
use Rattle.ov_store.specs.Committing.{Set}
use Rattle.ov_core.specs.AtWorld.{IsAtWorld}
use Rattle.ov_gen.specs.Versions.{IsGrown, Source}
use Rattle.ov_gen.proofs.Growing.{begin-few}
use Rattle.ov_model.specs.Book.{Row}
use Rattle.ov_model.specs.Generator.{Drawn, child_of, parent_drawn}
use Rattle.ov_model.specs.Records.{rows_at}
use Rattle.ov_store.specs.Scanning.{scan_off, set_in}
use Rattle.ov_store.proofs.Looking.{looked_at}
use Rattle.law_generated.specs.Grown.{move_next, parent_next, rows_next, rows_of_parent}
use Rattle.law_generated.proofs.Steps.{parent_rows}
use Rattle.ov_generate.specs.Making.{AreRowsRead, HasDamage, IsDamageOf, IsUnmoved}
use Rattle.ov_generate.proofs.Drawing.{child_draws}
use Rattle.ov_generate.proofs.Fetching.{bytes_there, version_is_made}
use Rattle.ov_generate.proofs.Reading.{commit_damage, if_err, match_err, ok_const, parent_there, read_later, result_const, result_journal, result_stays, unread_damage, unread_unmoved}
use Rattle.ov_generate.proofs.Versions.{child_is, known_ok, parent_is, rows_ok, state_is, version_made, world_rows}
use Rattle.ov_generate.proofs.version.add_version.Goals as goal

pub returns-in_err-rows-clause-world : goal.returns-in_err-rows-clause-world
returns-in_err-rows-clause-world g c = λ w grown number at has long state.
    let old = g.H.Host.state c.args.host.now
    in let new = g.H.Host.state c.parent_rows.new.host
    in let drawn : c.parent-parent.result ≡ (parent_next grown).is = parent_is grown c.args.vid c.args.source.now.state c.parent-parent.result long state c.parent-parent.ensures.drawn
    in let rows = world_rows w c.args.cvd.now number c.args.count grown has c.args.vid c.parent-parent.result long drawn
    in let not_made : IsUnmoved (move_next number c.args.count grown) w c.args.store.now.held old new c.in_err-rows.field-0.0
    = unread_unmoved w c.args.store.now.held old new at (move_next number c.args.count grown) c.args.cvd.now c.parent-parent.result c.args.count c.args.vid c.in_err-rows.field-0.0
    c.parent_rows.ensures.looked
    (subst (λ p. scan_off c.args.store.now.held.numbers c.args.cvd.now (p ∷ []) ≡ None) (sym drawn)
    (parent_there w c.args.store.now.held old at c.args.cvd.now number c.args.count grown has c.requires.known))
    (c.in_err-rows.ensures.world w has.set at has.named rows) c.in_err-rows.ensures.why
    in match_err _ (IsUnmoved (move_next number c.args.count grown) w c.args.store.now.held old new) c.from_residual.result c.in_err-rows.field-0.0 c.from_residual.ensures not_made

pub commit-requires-clause-fit : goal.commit-requires-clause-fit
commit-requires-clause-fit g c = λ s named.
    let known = c.requires.known
    in let same : known.set ≡ s = ap (λ o. elim o as (λ _. Set) [ None ↦ known.set | Some x ↦ x ]) (sym known.named ∙ named)
    in record {
      wider = s.schema;
      with = refl;
      fit = subst (λ (x : Shape). All (IsRow x) c.in_ok-rows-2.rows) (sym known.schema_is ∙ ap (λ (x : Set). x.schema) same) c.in_ok-rows-2.ensures.fit;
    }

pub returns-clause-known : goal.returns-clause-known
returns-clause-known g c =
    known_ok c.commit.result c.args.cvd.now c.args.store.now.held c.commit.new.self.held c.requires.known _ _ refl (c.commit.ensures.done c.requires.known.set c.requires.known.named)

pub returns-clause-source : goal.returns-clause-source
returns-clause-source g c =
    let same : c.child_table.new.source.rows ≡ c.args.count
    = ap (λ (x : Source). x.rows) c.in_ok-rows-2.ensures.state ∙ ap (λ (x : Source). x.rows) c.parent-parent.ensures.state ∙ c.requires.source
    in result_const c.commit.result (c.child_table.new.source.rows ≡ c.args.count) same

pub returns-clause-drawn : goal.returns-clause-drawn
returns-clause-drawn g c =
    let x = c.args.source.now.state
    in let count : c.parent-parent.new.self.rows ≡ c.args.count = ap (λ (y : Source). y.rows) c.parent-parent.ensures.state ∙ c.requires.source
    in let state : c.parent-parent.new.self.state ≡ (parent_drawn (c.args.vid - 1) x).state = ap (λ (y : Source). y.state) c.parent-parent.ensures.state
    in ok_const c.commit.result _
    (ap (λ (y : Source). y.state) c.in_ok-rows-2.ensures.state ∙ (λ i. (child_of (count i) c.args.vid (state i) c.in_ok-rows.rows.items).state)
    ∙ child_draws c.args.count c.args.vid (parent_drawn (c.args.vid - 1) x).state c.in_ok-rows.rows.items)

pub returns-clause-stays : goal.returns-clause-stays
returns-clause-stays g c =
    result_stays c.commit.result c.args.store.now c.commit.new.self (g.H.Host.state c.args.host.now) (g.H.Host.state c.parent_rows.new.host) (g.H.Host.state c.commit.new.host)
    c.parent_rows.ensures.looked c.commit.ensures.stays

pub returns-clause-by_journal : goal.returns-clause-by_journal
returns-clause-by_journal g c =
    result_journal c.commit.result c.args.store.now.held c.commit.new.self.held (g.H.Host.state c.args.host.now) (g.H.Host.state c.parent_rows.new.host) (g.H.Host.state c.commit.new.host)
    c.parent_rows.ensures.looked (λ by. c.commit.ensures.by_journal by)

pub returns-clause-world : goal.returns-clause-world
returns-clause-world g c = λ w grown number at has long state.
    let old = g.H.Host.state c.args.host.now
    in let mid = g.H.Host.state c.parent_rows.new.host
    in let new = g.H.Host.state c.commit.new.host
    in let drawn : c.parent-parent.result ≡ (parent_next grown).is = parent_is grown c.args.vid c.args.source.now.state c.parent-parent.result long state c.parent-parent.ensures.drawn
    in let at_mid : IsAtWorld w c.args.store.now.held mid = looked_at w c.args.store.now.held old mid c.parent_rows.ensures.looked at
    in let grown_rows = world_rows w c.args.cvd.now number c.args.count grown has c.args.vid c.parent-parent.result long drawn
    in let parent : c.in_ok-rows.rows.items ≡ rows_of_parent grown
    = c.in_ok-rows.ensures.world w has.set at has.named grown_rows ∙ ap (rows_at has.set.cvd.versions) drawn ∙ parent_rows w c.args.cvd.now number c.args.count grown has
    in let drawn_state : c.parent-parent.new.self.state ≡ (parent_next grown).state
    = ap (λ (x : Source). x.state) c.parent-parent.ensures.state ∙ state_is grown c.args.vid c.args.source.now.state long state
    in let count : c.parent-parent.new.self.rows ≡ c.args.count = ap (λ (x : Source). x.rows) c.parent-parent.ensures.state ∙ c.requires.source
    in let child : child_of c.parent-parent.new.self.rows c.args.vid c.parent-parent.new.self.state c.in_ok-rows.rows.items ≡ rows_next c.args.count grown
    = child_is grown c.args.count c.args.vid c.parent-parent.new.self.rows c.parent-parent.new.self.state c.in_ok-rows.rows.items count long drawn_state parent
    in version_made w c.args.cvd.now number c.args.count grown has
    (record { vids = c.from.result ∷ []; message = c.args.message.now; added = []; rows = c.in_ok-rows-2.rows })
    (ap (λ (n : ℕ). n ∷ []) (c.from.ensures ∙ drawn)) c.requires.message refl
    (c.in_ok-rows-2.ensures.rows ∙ ap (λ (x : Drawn (List Row)). x.is) child)
    (omega (arith, long, c.requires.versions)) (omega (arith, long, c.requires.few))
    c.args.store.now.held c.commit.new.self.held old mid new at c.parent_rows.ensures.looked (c.commit.ensures.stops w at_mid)
    c.child_table.new.source.state (ap (λ (x : Source). x.state) c.in_ok-rows-2.ensures.state ∙ ap (λ (x : Drawn (List Row)). x.state) child)
    c.commit.result c.requires.known.set mid (c.commit.ensures.moves w at_mid) (c.commit.ensures.refused w has.set at_mid has.named)
    (λ entry past within. c.commit.ensures.room w has.set entry past at_mid has.named within)
    (c.commit.ensures.done c.requires.known.set c.requires.known.named)

pub returns-in_err-rows-clause-damaged : goal.returns-in_err-rows-clause-damaged
returns-in_err-rows-clause-damaged g c =
    let new = g.H.Host.state c.parent_rows.new.host
    in let x = c.args.source.now.state
    in let damage : IsDamageOf (HasDamage c.args.store.now.held c.args.cvd.now x c.args.count c.args.vid new) c.in_err-rows.field-0.0
    = unread_damage c.args.store.now.held c.args.cvd.now c.requires.known x c.parent-parent.result c.args.count c.args.vid (g.H.Host.state c.args.host.now) new c.in_err-rows.field-0.0
    c.parent-parent.ensures.drawn c.parent_rows.ensures.looked c.in_err-rows.ensures.why
    in if_err (IsDamageOf (HasDamage c.args.store.now.held c.args.cvd.now x c.args.count c.args.vid new)) c.from_residual.result c.in_err-rows.field-0.0 c.from_residual.ensures damage

pub returns-clause-damaged : goal.returns-clause-damaged
returns-clause-damaged g c =
    let old = g.H.Host.state c.args.host.now
    in let mid = g.H.Host.state c.parent_rows.new.host
    in let new = g.H.Host.state c.commit.new.host
    in let set = c.requires.known.set
    in let x = c.args.source.now.state
    in let drawn = c.parent-parent.ensures.drawn
    in let count : c.parent-parent.new.self.rows ≡ c.args.count = ap (λ (y : Source). y.rows) c.parent-parent.ensures.state ∙ c.requires.source
    in let state : c.parent-parent.new.self.state ≡ (parent_drawn (c.args.vid - 1) x).state = ap (λ (y : Source). y.state) c.parent-parent.ensures.state
    in let rows = c.in_ok-rows.rows.items
    in commit_damage c.commit.result c.args.store.now.held c.args.cvd.now c.requires.known x c.args.count c.args.vid rows
    (record { vids = c.from.result ∷ []; message = c.args.message.now; added = []; rows = c.in_ok-rows-2.rows }) c.args.store.now c.commit.new.self mid new
    (record {
      vids_are = ap (λ (n : ℕ). n ∷ []) (c.from.ensures ∙ drawn);
      message_is = c.requires.message;
      none_added = refl;
      rows_are = c.in_ok-rows-2.ensures.rows ∙ (λ i. (child_of (count i) c.args.vid (state i) rows).is);
    })
    c.in_ok-rows.ensures.grown
    (read_later set (parent_drawn (c.args.vid - 1) x).is old mid rows c.parent_rows.ensures.looked
    (subst (λ p. AreRowsRead set p old rows) drawn (c.in_ok-rows.ensures.read set c.requires.known.named)))
    c.commit.ensures.why c.commit.ensures.stays

pub returns-clause-rows_few : goal.returns-clause-rows_few
returns-clause-rows_few g c =
    let count : c.parent-parent.new.self.rows ≡ c.args.count = ap (λ (x : Source). x.rows) c.parent-parent.ensures.state ∙ c.requires.source
    in let few : length c.in_ok-rows-2.rows ≤ 1000000
    = omega (arith, c.requires.few, begin-few c.parent-parent.new.self.rows 1 (c.parent-parent.new.self.rows + (c.args.vid + 1)) c.in_ok-rows-2.rows (omega arith) c.in_ok-rows-2.ensures.grown, count)
    in rows_ok c.commit.result c.requires.known.set _ _ c.args.store.now.held c.commit.new.self.held (c.commit.ensures.done c.requires.known.set c.requires.known.named) few

-- ---- what is fetched

pub returns-in_err-rows-clause-fetched : goal.returns-in_err-rows-clause-fetched
returns-in_err-rows-clause-fetched g c =
    omega (
      arith,
      c.parent_rows.ensures.fetched c.requires.known.set c.requires.known.named,
      bytes_there (set_in c.args.store.now.held.numbers c.args.cvd.now) c.requires.known.set _ _ c.requires.known.named c.parent-parent.ensures.drawn,
    )

pub returns-clause-fetched : goal.returns-clause-fetched
returns-clause-fetched g c =
    omega (
      arith,
      c.parent_rows.ensures.fetched c.requires.known.set c.requires.known.named,
      c.commit.ensures.fetched c.requires.known.set c.requires.known.named,
      bytes_there (set_in c.args.store.now.held.numbers c.args.cvd.now) c.requires.known.set _ _ c.requires.known.named c.parent-parent.ensures.drawn,
      bytes_there (set_in c.args.store.now.held.numbers c.args.cvd.now) c.requires.known.set _ _ c.requires.known.named (c.from.ensures ∙ c.parent-parent.ensures.drawn),
    )

pub returns-clause-made : goal.returns-clause-made
returns-clause-made g c =
    let count : c.parent-parent.new.self.rows ≡ c.args.count = ap (λ (x : Source). x.rows) c.parent-parent.ensures.state ∙ c.requires.source
    in version_is_made c.commit.result c.args.cvd.now c.args.count c.args.vid _ c.args.store.now.held c.commit.new.self.held c.requires.known _ _
    (ap (λ (n : ℕ). n ∷ []) (c.from.ensures ∙ c.parent-parent.ensures.drawn)) refl (subst (λ n. IsGrown n (c.args.vid + 1) c.in_ok-rows-2.rows) count c.in_ok-rows-2.ensures.grown)
    (c.commit.ensures.done c.requires.known.set c.requires.known.named)
