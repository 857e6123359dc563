use Rattle.std.proofs.Common.{rules, ◌≡◌, ◌≤◌, ◌+◌, ◌∙◌, ◌⊎◌, inl, inr, ℕ, List, [], sym, ap, subst, arith}
use Rattle.std.specs.Prelude.{Some, None, Option, IfOk, IfErr, OnOk, MatchResult}
use Rattle.std.specs.List.{All}
use Rattle.std.proofs.lemmas.List.Elements.{All-nil}
use Rattle.ov_host.specs.declared.area.Extent.{Extent}
use Rattle.ov_catalog.specs.Numbers.{Numbers}
use Rattle.ov_catalog.specs.Sets as sets
use Rattle.ov_model.specs.Lists.{Rises}
use Rattle.ov_model.specs.Registry.{last_rows}
use Rattle.ov_model.specs.World.{Dataset, set_named}
use Rattle.ov_store.specs.Committing.{Set}
use Rattle.ov_store.specs.Scanning.{IsUndamaged, set_in}
use Rattle.ov_store.proofs.Deciding.{none_named, world_named}
use Rattle.ov_value.specs.Rows.{key_cmp}
use Rattle.ov_value.specs.Shapes.{Shape}
use Rattle.ov_registry.specs.Last.{AreLast, IsLastDamaged, IsUnread, bytes_in, last_vid, name_of, schema_of}
use Rattle.ov_registry.specs.Storable.{CanStore}
use Rattle.ov_registry.proofs.Versions.{own_schema}
use Rattle.ov_registry.proofs.reading.last_rows.Goals as goal

pub rows_of_live-requires-clause-named : goal.rows_of_live-requires-clause-named
rows_of_live-requires-clause-named g c =
    subst (λ (n : Numbers Extent Extent). set_in n c.name-name.result.now ≡ Some (sets.set_in c.in-Some.d.now)) c.catalog.ensures (sym c.in-Some.ensures.found)

pub returns-in-Some-clause-fetched : goal.returns-in-Some-clause-fetched
returns-in-Some-clause-fetched g c =
    let named : set_in c.args.store.now.held.numbers (name_of c.args.which) ≡ Some (sets.set_in c.in-Some.d.now)
    = subst (λ (name : List ℕ). set_in c.args.store.now.held.numbers name ≡ Some (sets.set_in c.in-Some.d.now)) c.name-name.ensures
    (subst (λ (n : Numbers Extent Extent). set_in n c.name-name.result.now ≡ Some (sets.set_in c.in-Some.d.now)) c.catalog.ensures (sym c.in-Some.ensures.found))
    in subst (λ (o : Option Set). (g.H.Host.state c.rows_of_live.new.host).fetched ≤ (g.H.Host.state c.args.host.now).fetched + bytes_in o (last_vid o)) (sym named)
    c.rows_of_live.ensures.fetched

pub returns-in-Some-clause-rise : goal.returns-in-Some-clause-rise
returns-in-Some-clause-rise g c =
    let named : set_in c.args.store.now.held.numbers (name_of c.args.which) ≡ Some (sets.set_in c.in-Some.d.now)
    = subst (λ (name : List ℕ). set_in c.args.store.now.held.numbers name ≡ Some (sets.set_in c.in-Some.d.now)) c.name-name.ensures
    (subst (λ (n : Numbers Extent Extent). set_in n c.name-name.result.now ≡ Some (sets.set_in c.in-Some.d.now)) c.catalog.ensures (sym c.in-Some.ensures.found))
    in subst (λ (schema : Shape). IfOk c.rows_of_live.result (λ rows. Rises (key_cmp schema) rows.items))
    (own_schema (schema_of c.args.which) (set_in c.args.store.now.held.numbers (name_of c.args.which)) (sets.set_in c.in-Some.d.now) named c.requires.own)
    c.rows_of_live.ensures.rise

pub returns-in-Some-clause-last : goal.returns-in-Some-clause-last
returns-in-Some-clause-last g c =
    let named : set_in c.args.store.now.held.numbers (name_of c.args.which) ≡ Some (sets.set_in c.in-Some.d.now)
    = subst (λ (name : List ℕ). set_in c.args.store.now.held.numbers name ≡ Some (sets.set_in c.in-Some.d.now)) c.name-name.ensures
    (subst (λ (n : Numbers Extent Extent). set_in n c.name-name.result.now ≡ Some (sets.set_in c.in-Some.d.now)) c.catalog.ensures (sym c.in-Some.ensures.found))
    in subst (λ (o : Option Set). IfOk c.rows_of_live.result (λ rows. AreLast o (g.H.Host.state c.args.host.now) rows.items)) (sym named) c.rows_of_live.ensures.last

pub returns-in-Some-clause-stored : goal.returns-in-Some-clause-stored
returns-in-Some-clause-stored g c = λ told.
    let named : set_in c.args.store.now.held.numbers (name_of c.args.which) ≡ Some (sets.set_in c.in-Some.d.now)
    = subst (λ (name : List ℕ). set_in c.args.store.now.held.numbers name ≡ Some (sets.set_in c.in-Some.d.now)) c.name-name.ensures
    (subst (λ (n : Numbers Extent Extent). set_in n c.name-name.result.now ≡ Some (sets.set_in c.in-Some.d.now)) c.catalog.ensures (sym c.in-Some.ensures.found))
    in subst (λ (schema : Shape). IfOk c.rows_of_live.result (λ rows. All (CanStore schema) rows.items))
    (own_schema (schema_of c.args.which) (set_in c.args.store.now.held.numbers (name_of c.args.which)) (sets.set_in c.in-Some.d.now) named c.requires.own)
    (c.rows_of_live.ensures.stored told)

pub returns-in-Some-clause-why : goal.returns-in-Some-clause-why
returns-in-Some-clause-why g c =
    let named : set_in c.args.store.now.held.numbers (name_of c.args.which) ≡ Some (sets.set_in c.in-Some.d.now)
    = subst (λ (name : List ℕ). set_in c.args.store.now.held.numbers name ≡ Some (sets.set_in c.in-Some.d.now)) c.name-name.ensures
    (subst (λ (n : Numbers Extent Extent). set_in n c.name-name.result.now ≡ Some (sets.set_in c.in-Some.d.now)) c.catalog.ensures (sym c.in-Some.ensures.found))
    in subst (λ (o : Option Set). IfErr c.rows_of_live.result (IsUnread o (g.H.Host.state c.args.host.now) (g.H.Host.state c.rows_of_live.new.host))) (sym named)
    c.rows_of_live.ensures.why

pub returns-in-Some-clause-whole : goal.returns-in-Some-clause-whole
returns-in-Some-clause-whole g c = λ page told.
    let named : set_in c.args.store.now.held.numbers (name_of c.args.which) ≡ Some (sets.set_in c.in-Some.d.now)
    = subst (λ (name : List ℕ). set_in c.args.store.now.held.numbers name ≡ Some (sets.set_in c.in-Some.d.now)) c.name-name.ensures
    (subst (λ (n : Numbers Extent Extent). set_in n c.name-name.result.now ≡ Some (sets.set_in c.in-Some.d.now)) c.catalog.ensures (sym c.in-Some.ensures.found))
    in subst (λ (o : Option Set). OnOk c.rows_of_live.result (IsLastDamaged o (g.H.Host.state c.args.host.now) page → ⊥)) (sym named)
    (c.rows_of_live.ensures.whole page told)

pub returns-in-Some-clause-world : goal.returns-in-Some-clause-world
returns-in-Some-clause-world g c = λ w at.
    let named : set_in c.args.store.now.held.numbers (name_of c.args.which) ≡ Some (sets.set_in c.in-Some.d.now)
    = subst (λ (name : List ℕ). set_in c.args.store.now.held.numbers name ≡ Some (sets.set_in c.in-Some.d.now)) c.name-name.ensures
    (subst (λ (n : Numbers Extent Extent). set_in n c.name-name.result.now ≡ Some (sets.set_in c.in-Some.d.now)) c.catalog.ensures (sym c.in-Some.ensures.found))
    in let there = world_named w c.args.store.now.held (g.H.Host.state c.args.host.now) at (name_of c.args.which) (sets.set_in c.in-Some.d.now) named
    in let is : set_named w c.name-name.result.now ≡ Some there.0 = ap (set_named w) c.name-name.ensures ∙ there.1
    in subst (λ (o : Option Dataset). MatchResult c.rows_of_live.result (λ rows. rows.items ≡ last_rows o) IsUndamaged) (sym there.1)
    (c.rows_of_live.ensures.world w there.0 at is)

pub returns-in-None-clause-fetched : goal.returns-in-None-clause-fetched
returns-in-None-clause-fetched g c = omega arith

pub returns-in-None-clause-last : goal.returns-in-None-clause-last
returns-in-None-clause-last g c =
    let none : set_in c.args.store.now.held.numbers (name_of c.args.which) ≡ None
    = subst (λ (name : List ℕ). set_in c.args.store.now.held.numbers name ≡ None) c.name-name.ensures
    (subst (λ (n : Numbers Extent Extent). set_in n c.name-name.result.now ≡ None) c.catalog.ensures (sym c.in-None.ensures.found))
    in let empty : c.new.result.items ≡ [] = search rules
    in subst (λ (o : Option Set). AreLast o (g.H.Host.state c.args.host.now) c.new.result.items) (sym none) empty

pub returns-in-None-clause-stored : goal.returns-in-None-clause-stored
returns-in-None-clause-stored g c = λ told.
    let empty : c.new.result.items ≡ [] = search rules
    in subst (All (CanStore (schema_of c.args.which))) (sym empty) (All-nil (CanStore (schema_of c.args.which)))

pub returns-in-None-clause-whole : goal.returns-in-None-clause-whole
returns-in-None-clause-whole g c = λ page told damaged.
    let none : set_in c.args.store.now.held.numbers (name_of c.args.which) ≡ None
    = subst (λ (name : List ℕ). set_in c.args.store.now.held.numbers name ≡ None) c.name-name.ensures
    (subst (λ (n : Numbers Extent Extent). set_in n c.name-name.result.now ≡ None) c.catalog.ensures (sym c.in-None.ensures.found))
    in never (subst (λ (o : Option Set). IsLastDamaged o (g.H.Host.state c.args.host.now) page) none damaged)
  where
    never : ⊥ ⊎ ⊥ → ⊥
    never (inl a) = a
    never (inr b) = b

pub returns-in-None-clause-world : goal.returns-in-None-clause-world
returns-in-None-clause-world g c = λ w at.
    let none : set_in c.args.store.now.held.numbers (name_of c.args.which) ≡ None
    = subst (λ (name : List ℕ). set_in c.args.store.now.held.numbers name ≡ None) c.name-name.ensures
    (subst (λ (n : Numbers Extent Extent). set_in n c.name-name.result.now ≡ None) c.catalog.ensures (sym c.in-None.ensures.found))
    in let empty : c.new.result.items ≡ [] = search rules
    in empty ∙ sym (ap last_rows (none_named w c.args.store.now.held (g.H.Host.state c.args.host.now) at (name_of c.args.which) none))
