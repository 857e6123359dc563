use Rattle.std.proofs.Common.{true, ◌≡◌, ◌≢◌, ◌≤◌, ◌+◌, ◌∙◌, ℕ, List, [], ◌∷◌, length, inl, inr, refl, sym, ap, subst, arith}
use Rattle.std.specs.Prelude.{Some, None, Option}
use Rattle.std.proofs.lemmas.Bool.{false≢true}
use Rattle.std.proofs.lemmas.List.{length-map}
use Rattle.ov_catalog.specs.Sets as sets
use Rattle.ov_model.specs.Act.{repeated_key}
use Rattle.ov_model.specs.Book.{Row}
use Rattle.ov_model.specs.Lists.{Rises}
use Rattle.ov_model.specs.Records.{rows_at}
use Rattle.ov_read.specs.Sizes.{bytes_for}
use Rattle.ov_store.specs.Committing.{Set}
use Rattle.ov_store.specs.Scanning.{IsDamagedIn, IsUndamaged, IsUnscanned, scan_off, set_in}
use Rattle.ov_value.specs.Rows.{key_cmp}
use Rattle.ov_host.specs.Host.{State}
use Rattle.law_users.proofs.Times.{moved_once}
use Rattle.ov_registry.specs.Last.{IsLast, IsUnread}
use Rattle.ov_registry.proofs.Once.{last_moved}
use Rattle.ov_registry.proofs.Versions.{count_is, if_err, last_passes, match_err, unscanned_unread, world_rises}
use Rattle.ov_registry.proofs.Rising.{sorted_rises}
use Rattle.ov_registry.proofs.Stored.{can_store}
use Rattle.ov_registry.proofs.reading.rows_of_live.Goals as goal

pub rows_of_version-requires-clause-live : goal.rows_of_version-requires-clause-live
rows_of_version-requires-clause-live g c = record { set = sets.set_in c.args.d.now; named = c.requires.named }

some_versions : (n m : ℕ) → 1 ≤ n → m ≡ n → 1 ≤ m
some_versions n m some same = omega (arith, some, same)

pub returns-in_err-rows-clause-why : goal.returns-in_err-rows-clause-why
returns-in_err-rows-clause-why g c =
    let set = sets.set_in c.args.d.now
    in let n = c.args.store.now.held.numbers
    in let name = c.args.name.now
    in let old = g.H.Host.state c.args.host.now
    in let new = g.H.Host.state c.rows_of_version.new.host
    in let some = some_versions (length c.args.d.now.versions.items) (length set.versions) c.requires.sound.some (length-map c.args.d.now.versions.items sets.version_in)
    in let off : IsUnscanned (scan_off n name (length set.versions ∷ [])) (Some set) (length set.versions ∷ []) old new c.in_err-rows.field-0.0
    = subst (λ (o : Option Set). IsUnscanned (scan_off n name (length set.versions ∷ [])) o (length set.versions ∷ []) old new c.in_err-rows.field-0.0) c.requires.named
    (subst (λ v. IsUnscanned (scan_off n name (v ∷ [])) (set_in n name) (v ∷ []) old new c.in_err-rows.field-0.0) c.last_version.ensures c.in_err-rows.ensures.why)
    in if_err (IsUnread (Some set) old new) c.from_residual.result c.in_err-rows.field-0.0 c.from_residual.ensures
    (unscanned_unread (scan_off n name (length set.versions ∷ [])) set old new c.in_err-rows.field-0.0 (last_passes n name set c.requires.named some) off)

pub returns-in_err-rows-clause-world : goal.returns-in_err-rows-clause-world
returns-in_err-rows-clause-world g c = λ w e at named.
    let spared : IsUndamaged c.in_err-rows.field-0.0 = c.in_err-rows.ensures.world w e at named
    in match_err _ IsUndamaged c.from_residual.result c.in_err-rows.field-0.0 c.from_residual.ensures spared

pub returns-in_err-rows-clause-fetched : goal.returns-in_err-rows-clause-fetched
returns-in_err-rows-clause-fetched g c =
    subst (λ v. (g.H.Host.state c.rows_of_version.new.host).fetched ≤ (g.H.Host.state c.args.host.now).fetched + bytes_for (sets.set_in c.args.d.now) (v ∷ [])) c.last_version.ensures
    (c.rows_of_version.ensures.fetched (sets.set_in c.args.d.now) c.requires.named)

pub returns-then-are_rising-clause-fetched : goal.returns-then-are_rising-clause-fetched
returns-then-are_rising-clause-fetched g c =
    subst (λ v. (g.H.Host.state c.rows_of_version.new.host).fetched ≤ (g.H.Host.state c.args.host.now).fetched + bytes_for (sets.set_in c.args.d.now) (v ∷ [])) c.last_version.ensures
    (c.rows_of_version.ensures.fetched (sets.set_in c.args.d.now) c.requires.named)

pub returns-clause-fetched : goal.returns-clause-fetched
returns-clause-fetched g c =
    subst (λ v. (g.H.Host.state c.rows_of_version.new.host).fetched ≤ (g.H.Host.state c.args.host.now).fetched + bytes_for (sets.set_in c.args.d.now) (v ∷ [])) c.last_version.ensures
    (c.rows_of_version.ensures.fetched (sets.set_in c.args.d.now) c.requires.named)

pub returns-then-are_rising-clause-rise : goal.returns-then-are_rising-clause-rise
returns-then-are_rising-clause-rise g c =
    subst (λ (l : List Row). Rises (key_cmp c.args.d.now.schema) l) c.as_slice.ensures.value (c.are_rising.ensures.0 c.if-are_rising.true)

pub returns-then-are_rising-clause-last : goal.returns-then-are_rising-clause-last
returns-then-are_rising-clause-last g c = λ told. c.in_ok-rows.ensures.read (sets.set_in c.args.d.now) c.requires.named c.last_version.ensures told

pub returns-then-are_rising-clause-stored : goal.returns-then-are_rising-clause-stored
returns-then-are_rising-clause-stored g c = λ told.
    let set = sets.set_in c.args.d.now
    in can_store set (g.H.Host.state c.args.host.now) c.in_ok-rows.rows.items (c.in_ok-rows.ensures.read set c.requires.named c.last_version.ensures told)

pub returns-then-are_rising-clause-whole : goal.returns-then-are_rising-clause-whole
returns-then-are_rising-clause-whole g c = λ page told damaged. elim damaged [ inl scan ↦ unscanned page told scan | inr twice ↦ once told (twice told) ]
  where
    set : Set
    set = sets.set_in c.args.d.now

    old : State
    old = g.H.Host.state c.args.host.now

    unscanned : (page : ℕ) → old.tells ≡ true → IsDamagedIn (Some set) (length set.versions ∷ []) old page → ⊥
    unscanned page told scan =
        c.in_ok-rows.ensures.whole page told
        (subst (λ (o : Option Set). IsDamagedIn o (c.last_version.result ∷ []) old page) (sym c.requires.named)
        (subst (λ v. IsDamagedIn (Some set) (v ∷ []) old page) (sym c.last_version.ensures) scan))

    once : {P : Type 0} → old.tells ≡ true → (rows : List Row) × IsLast set old rows × (repeated_key set.schema [] 1 rows ≢ None) × P → ⊥
    once told twice =
        twice.2 (moved_once set.schema c.in_ok-rows.rows.items twice.0
        (last_moved set old c.in_ok-rows.rows.items twice.0 (c.in_ok-rows.ensures.read set c.requires.named c.last_version.ensures told) twice.1)
        (subst (λ (l : List Row). Rises (key_cmp c.args.d.now.schema) l) c.as_slice.ensures.value (c.are_rising.ensures.0 c.if-are_rising.true)))

pub returns-then-are_rising-clause-world : goal.returns-then-are_rising-clause-world
returns-then-are_rising-clause-world g c = λ w e at named.
    c.in_ok-rows.ensures.world w e at named
    ∙ ap (rows_at e.cvd.versions) (c.last_version.ensures ∙ count_is w c.args.store.now.held (g.H.Host.state c.args.host.now) at c.args.name.now e named (sets.set_in c.args.d.now) c.requires.named)

pub returns-clause-why : goal.returns-clause-why
returns-clause-why g c =
    let set = sets.set_in c.args.d.now
    in (
      refl,
      inr
          (λ told. (
            c.in_ok-rows.rows.items,
            c.in_ok-rows.ensures.read set c.requires.named c.last_version.ensures told,
            (λ once.
                false≢true (sym c.if-are_rising.false
                ∙ c.are_rising.ensures.1 (subst (λ (l : List Row). Rises (key_cmp c.args.d.now.schema) l) (sym c.as_slice.ensures.value)
                (sorted_rises c.args.d.now.schema c.in_ok-rows.rows.items (c.in_ok-rows.ensures.ordered set c.requires.named) once)))),
            c.from.ensures ∙ c.list_page.ensures,
          )),
    )

pub returns-clause-world : goal.returns-clause-world
returns-clause-world g c = λ w e at named.
    let set = sets.set_in c.args.d.now
    in let old = g.H.Host.state c.args.host.now
    in let rises : Rises (key_cmp c.args.d.now.schema) c.in_ok-rows.rows.items
    = subst (λ (l : List Row). Rises (key_cmp c.args.d.now.schema) l) (sym (c.in_ok-rows.ensures.world w e at named))
    (world_rises w c.args.store.now.held old at c.args.name.now e named set c.requires.named c.last_version.result)
    in false≢true (sym c.if-are_rising.false ∙ c.are_rising.ensures.1 (subst (λ (l : List Row). Rises (key_cmp c.args.d.now.schema) l) (sym c.as_slice.ensures.value) rises))
