use Rattle.std.proofs.Common.{◌≡◌, ◌≤◌, ◌+◌, ◌∙◌, ℕ, List, [], length, inl, inr, refl, sym, ap, subst, arith}
use Rattle.std.specs.Prelude.{Some, None, Option, Ok, Err, Result, IsTrue, IfErr, OnOk, MatchResult}
use Rattle.std.specs.List.{All}
use Rattle.std.specs.Option.{option_map}
use Rattle.std.proofs.lemmas.List.Sorted.{length_permutation}
use Rattle.law_runs.specs.Serving.{Does}
use Rattle.law_runs.proofs.Doing.{breaks_looked}
use Rattle.law_users.proofs.Ordering.{rising_ordered}
use Rattle.ov_catalog.specs.Numbers.{Numbers}
use Rattle.ov_host.specs.declared.area.Extent.{Extent}
use Rattle.ov_model.specs.Act.{Deed, repeated_key}
use Rattle.ov_model.specs.Book.{Row}
use Rattle.ov_model.specs.Deed.{changes}
use Rattle.ov_model.specs.Merge.{in_key_order}
use Rattle.ov_model.specs.World.{set_named}
use Rattle.ov_store.specs.Committing.{Set}
use Rattle.ov_store.specs.Scanning.{IsUndamaged, set_in}
use Rattle.ov_store.specs.declared.errors.StoreErr.{StoreErr}
use Rattle.ov_store.specs.declared.errors.StoreErr.TheVariants as why
use Rattle.ov_value.specs.Naming.{is_name}
use Rattle.ov_value.specs.Shapes.{Shape}
use Rattle.ov_value.specs.Spelling.{IsRow}
use Rattle.ov_registry.specs.Changing.{Ends, IsMade, IsOrdered, IsUnmade, changes_to}
use Rattle.ov_registry.specs.Last.{IsLiveTo, bytes_in, last_vid, name_of, schema_of}
use Rattle.ov_registry.specs.declared.registry.Registry.{Registry}
use Rattle.ov_registry.specs.declared.registry.Registry.TheVariants as registry
use Rattle.ov_registry.proofs.Deeds.{deeds_alike}
use Rattle.ov_registry.proofs.Versions.{if_err, match_err, own_schema}
use Rattle.ov_registry.proofs.changing.change.Goals as goal

names_are : (which : Registry) → IsTrue (is_name (name_of which))
unfolding is_name
names_are registry.Users = refl
names_are registry.Stage = refl

live_to : (n : Numbers Extent Extent) (name : List ℕ) (last : ℕ) → Some last ≡ option_map (λ (set : Set). length set.versions) (set_in n name) → 1 ≤ last → IsLiveTo n name last
live_to n name last is some = by (set_in n name) refl is
  where
    by : (o : Option Set) → set_in n name ≡ o → Some last ≡ option_map (λ (set : Set). length set.versions) o → IsLiveTo n name last
    by None there is = absurd cc
    by (Some set) there is = record { set = set; named = there; last_is = cc; some = some }

none_there : (o : Option Set) → (let x : Option ℕ = None in x) ≡ option_map (λ (set : Set). length set.versions) o → o ≡ None
none_there None is = refl
none_there (Some set) is = absurd cc

settled : (schema : Shape) (rows made : List Row) → IsOrdered schema rows made → length made ≤ 1000000 → in_key_order schema made ≡ made
settled schema rows made is few = rising_ordered schema made (is.rises (omega (arith, few, length_permutation rows made is.kept)))

pub returns-in_err-name-clause-why : goal.returns-in_err-name-clause-why
returns-in_err-name-clause-why g c = if_err _ c.from_residual.result why.Memory c.from_residual.ensures (inl refl)

pub returns-in_err-name-clause-undamaged : goal.returns-in_err-name-clause-undamaged
returns-in_err-name-clause-undamaged g c = λ w at. if_err IsUndamaged c.from_residual.result why.Memory c.from_residual.ensures tt

pub returns-in_err-name-clause-acts : goal.returns-in_err-name-clause-acts
returns-in_err-name-clause-acts g c = λ w s t reply at.
    let name = name_of c.args.which
    in let old = g.H.Host.state c.args.host.now
    in let held = c.args.store.now.held
    in let d : Deed = changes w s t name (schema_of c.args.which) c.args.rows.now reply (set_named w name)
    in match_err _ (Ends name d s w held held old old) c.from_residual.result why.Memory c.from_residual.ensures (breaks_looked d s w held old old at refl)

-- ---- a version

pub add_version-requires-clause-live : goal.add_version-requires-clause-live
add_version-requires-clause-live g c =
    let p = c.in_ok-name.field-0
    in live_to c.args.store.now.held.numbers p.name c.in-Some.last
    (subst (λ (n : List ℕ). Some c.in-Some.last ≡ option_map (λ (set : Set). length set.versions) (set_in c.args.store.now.held.numbers n)) c.as_str.ensures.text c.in-Some.ensures.last)
    c.in-Some.ensures.some

pub add_version-requires-clause-fit : goal.add_version-requires-clause-fit
add_version-requires-clause-fit g c = λ set is.
    let p = c.in_ok-name.field-0
    in let own = own_schema (schema_of c.args.which) (set_in c.args.store.now.held.numbers (name_of c.args.which)) set
    (ap (set_in c.args.store.now.held.numbers) (sym c.in_ok-name.ensures.name) ∙ is) c.requires.own
    in subst (λ (x : Shape). All (IsRow x) p.rows) (sym own) c.in_ok-name.ensures.fit

pub add_version-requires-clause-once : goal.add_version-requires-clause-once
add_version-requires-clause-once g c = λ set is.
    let p = c.in_ok-name.field-0
    in let own = own_schema (schema_of c.args.which) (set_in c.args.store.now.held.numbers (name_of c.args.which)) set
    (ap (set_in c.args.store.now.held.numbers) (sym c.in_ok-name.ensures.name) ∙ is) c.requires.own
    in subst (λ (x : Shape). repeated_key x [] 1 p.rows ≡ None) (sym own) c.in_ok-name.ensures.ordered.once

pub add_version-requires-clause-ordered : goal.add_version-requires-clause-ordered
add_version-requires-clause-ordered g c = λ set is few.
    let p = c.in_ok-name.field-0
    in let own = own_schema (schema_of c.args.which) (set_in c.args.store.now.held.numbers (name_of c.args.which)) set
    (ap (set_in c.args.store.now.held.numbers) (sym c.in_ok-name.ensures.name) ∙ is) c.requires.own
    in subst (λ (x : Shape). in_key_order x p.rows ≡ p.rows) (sym own) (settled (schema_of c.args.which) c.args.rows.now p.rows c.in_ok-name.ensures.ordered few)

pub returns-in-Some-clause-fetched : goal.returns-in-Some-clause-fetched
returns-in-Some-clause-fetched g c =
    let n = c.args.store.now.held.numbers
    in let p = c.in_ok-name.field-0
    in let live = live_to n p.name c.in-Some.last
    (subst (λ (m : List ℕ). Some c.in-Some.last ≡ option_map (λ (set : Set). length set.versions) (set_in n m)) c.as_str.ensures.text c.in-Some.ensures.last) c.in-Some.ensures.some
    in subst (λ (o : Option Set). (g.H.Host.state c.add_version.new.host).fetched ≤ (g.H.Host.state c.args.host.now).fetched + bytes_in o (last_vid o))
    (sym live.named ∙ ap (set_in n) c.in_ok-name.ensures.name) (c.add_version.ensures.fetched live.set live.named)

pub returns-in-Some-clause-done : goal.returns-in-Some-clause-done
returns-in-Some-clause-done g c =
    let n = c.args.store.now.held.numbers
    in let p = c.in_ok-name.field-0
    in let old = g.H.Host.state c.args.host.now
    in let live = live_to n p.name c.in-Some.last
    (subst (λ (m : List ℕ). Some c.in-Some.last ≡ option_map (λ (set : Set). length set.versions) (set_in n m)) c.as_str.ensures.text c.in-Some.ensures.last) c.in-Some.ensures.some
    in let is : Some live.set ≡ set_in n (name_of c.args.which) = sym live.named ∙ ap (set_in n) c.in_ok-name.ensures.name
    in map_ok _ _ c.add_version.result
    (λ made. record {
      made = p.rows;
      ordered = c.in_ok-name.ensures.ordered;
      is = subst (λ (o : Option Set). IsMade o (name_of c.args.which) (schema_of c.args.which) p.rows old c.args.store.now.held c.add_version.new.store.held) is
          (subst (λ (m : List ℕ). IsMade (Some live.set) m (schema_of c.args.which) p.rows old c.args.store.now.held c.add_version.new.store.held) c.in_ok-name.ensures.name made);
    })
    (c.add_version.ensures.done live.set live.named)
  where
    map_ok : {A B : Type 0} (P Q : Type 0) (result : Result A B) → (P → Q) → OnOk result P → OnOk result Q
    map_ok P Q (Ok a) to p = to p
    map_ok P Q (Err e) to p = tt

pub returns-in-Some-clause-why : goal.returns-in-Some-clause-why
returns-in-Some-clause-why g c =
    let n = c.args.store.now.held.numbers
    in let p = c.in_ok-name.field-0
    in let old = g.H.Host.state c.args.host.now
    in let new = g.H.Host.state c.add_version.new.host
    in let live = live_to n p.name c.in-Some.last
    (subst (λ (m : List ℕ). Some c.in-Some.last ≡ option_map (λ (set : Set). length set.versions) (set_in n m)) c.as_str.ensures.text c.in-Some.ensures.last) c.in-Some.ensures.some
    in let is : Some live.set ≡ set_in n (name_of c.args.which) = sym live.named ∙ ap (set_in n) c.in_ok-name.ensures.name
    in map_err (IsUnmade (Some live.set) p.name live.set.schema p.rows old new c.args.store.now.held) _ c.add_version.result
    (λ off unmade. inr (record {
      made = p.rows;
      ordered = c.in_ok-name.ensures.ordered;
      is = subst (λ (o : Option Set). IsUnmade o (name_of c.args.which) (schema_of c.args.which) p.rows old new c.args.store.now.held off) is
          (subst (λ (m : List ℕ). IsUnmade (Some live.set) m (schema_of c.args.which) p.rows old new c.args.store.now.held off) c.in_ok-name.ensures.name unmade);
    }))
    (c.add_version.ensures.why live.set live.named)
  where
    map_err : {A : Type 0} (P Q : StoreErr → Type 0) (result : Result A StoreErr) → ((off : StoreErr) → P off → Q off) → IfErr result P → IfErr result Q
    map_err P Q (Ok a) to p = tt
    map_err P Q (Err e) to p = to e p

pub returns-in-Some-clause-acts : goal.returns-in-Some-clause-acts
returns-in-Some-clause-acts g c = λ w s t reply at.
    let p = c.in_ok-name.field-0
    in let name = name_of c.args.which
    in let schema = schema_of c.args.which
    in let old = g.H.Host.state c.args.host.now
    in let new = g.H.Host.state c.add_version.new.host
    in let held = c.args.store.now.held
    in let now = c.add_version.new.store.held
    in subst (λ (d : Deed). MatchResult c.add_version.result (λ done. Does d s t w reply held now old new) (Ends name d s w held now old new))
    (deeds_alike w s t name schema c.args.rows.now p.rows reply (set_named w name) c.in_ok-name.ensures.ordered c.requires.once)
    (subst (λ (m : List ℕ). MatchResult c.add_version.result (λ done. Does (changes_to w s t m schema p.rows reply (set_named w m)) s t w reply held now old new)
    (Ends m (changes_to w s t m schema p.rows reply (set_named w m)) s w held now old new)) c.in_ok-name.ensures.name
    (c.add_version.ensures.acts w s t schema reply at))

-- ---- a dataset

pub begin-requires-clause-name : goal.begin-requires-clause-name
begin-requires-clause-name g c = subst (λ (m : List ℕ). IsTrue (is_name m)) (sym c.in_ok-name.ensures.name) (names_are c.args.which)

pub begin-requires-clause-free : goal.begin-requires-clause-free
begin-requires-clause-free g c =
    none_there (set_in c.args.store.now.held.numbers c.in_ok-name.field-0.name)
    (subst (λ (m : List ℕ). None ≡ option_map (λ (set : Set). length set.versions) (set_in c.args.store.now.held.numbers m)) c.as_str.ensures.text c.in-None.ensures.last)

pub begin-requires-clause-fit : goal.begin-requires-clause-fit
begin-requires-clause-fit g c = subst (λ (x : Shape). All (IsRow x) c.in_ok-name.field-0.rows) (sym c.in_ok-name.ensures.schema) c.in_ok-name.ensures.fit

pub begin-requires-clause-once : goal.begin-requires-clause-once
begin-requires-clause-once g c =
    subst (λ (x : Shape). repeated_key x [] 1 c.in_ok-name.field-0.rows ≡ None) (sym c.in_ok-name.ensures.schema) c.in_ok-name.ensures.ordered.once

pub begin-requires-clause-ordered : goal.begin-requires-clause-ordered
begin-requires-clause-ordered g c = λ few.
    subst (λ (x : Shape). in_key_order x c.in_ok-name.field-0.rows ≡ c.in_ok-name.field-0.rows) (sym c.in_ok-name.ensures.schema)
    (settled (schema_of c.args.which) c.args.rows.now c.in_ok-name.field-0.rows c.in_ok-name.ensures.ordered few)

none_named : (n : Numbers Extent Extent) (name own : List ℕ) → name ≡ own → set_in n name ≡ None → set_in n own ≡ None
none_named n name own same none = ap (set_in n) (sym same) ∙ none

pub returns-clause-fetched : goal.returns-clause-fetched
returns-clause-fetched g c = omega (arith, c.begin.ensures.fetched)

pub returns-clause-done : goal.returns-clause-done
returns-clause-done g c =
    let n = c.args.store.now.held.numbers
    in let p = c.in_ok-name.field-0
    in let old = g.H.Host.state c.args.host.now
    in let held = c.args.store.now.held
    in let now = c.begin.new.store.held
    in let none : set_in n (name_of c.args.which) ≡ None
    = none_named n p.name (name_of c.args.which) c.in_ok-name.ensures.name
    (none_there (set_in n p.name) (subst (λ (m : List ℕ). None ≡ option_map (λ (set : Set). length set.versions) (set_in n m)) c.as_str.ensures.text c.in-None.ensures.last))
    in map_ok _ _ c.begin.result
    (λ made. record {
      made = p.rows;
      ordered = c.in_ok-name.ensures.ordered;
      is = subst (λ (o : Option Set). IsMade o (name_of c.args.which) (schema_of c.args.which) p.rows old held now) (sym none)
          (subst (λ (m : List ℕ). IsMade None m (schema_of c.args.which) p.rows old held now) c.in_ok-name.ensures.name
          (subst (λ (x : Shape). IsMade None p.name x p.rows old held now) c.in_ok-name.ensures.schema made));
    })
    c.begin.ensures.done
  where
    map_ok : {A B : Type 0} (P Q : Type 0) (result : Result A B) → (P → Q) → OnOk result P → OnOk result Q
    map_ok P Q (Ok a) to p = to p
    map_ok P Q (Err e) to p = tt

pub returns-clause-why : goal.returns-clause-why
returns-clause-why g c =
    let n = c.args.store.now.held.numbers
    in let p = c.in_ok-name.field-0
    in let old = g.H.Host.state c.args.host.now
    in let new = g.H.Host.state c.begin.new.host
    in let held = c.args.store.now.held
    in let none : set_in n (name_of c.args.which) ≡ None
    = none_named n p.name (name_of c.args.which) c.in_ok-name.ensures.name
    (none_there (set_in n p.name) (subst (λ (m : List ℕ). None ≡ option_map (λ (set : Set). length set.versions) (set_in n m)) c.as_str.ensures.text c.in-None.ensures.last))
    in map_err (IsUnmade None p.name p.schema p.rows old new held) _ c.begin.result
    (λ off unmade. inr (record {
      made = p.rows;
      ordered = c.in_ok-name.ensures.ordered;
      is = subst (λ (o : Option Set). IsUnmade o (name_of c.args.which) (schema_of c.args.which) p.rows old new held off) (sym none)
          (subst (λ (m : List ℕ). IsUnmade None m (schema_of c.args.which) p.rows old new held off) c.in_ok-name.ensures.name
          (subst (λ (x : Shape). IsUnmade None p.name x p.rows old new held off) c.in_ok-name.ensures.schema unmade));
    }))
    c.begin.ensures.why
  where
    map_err : {A : Type 0} (P Q : StoreErr → Type 0) (result : Result A StoreErr) → ((off : StoreErr) → P off → Q off) → IfErr result P → IfErr result Q
    map_err P Q (Ok a) to p = tt
    map_err P Q (Err e) to p = to e p

pub returns-clause-acts : goal.returns-clause-acts
returns-clause-acts g c = λ w s t reply at.
    let p = c.in_ok-name.field-0
    in let name = name_of c.args.which
    in let schema = schema_of c.args.which
    in let old = g.H.Host.state c.args.host.now
    in let new = g.H.Host.state c.begin.new.host
    in let held = c.args.store.now.held
    in let now = c.begin.new.store.held
    in subst (λ (d : Deed). MatchResult c.begin.result (λ done. Does d s t w reply held now old new) (Ends name d s w held now old new))
    (deeds_alike w s t name schema c.args.rows.now p.rows reply (set_named w name) c.in_ok-name.ensures.ordered c.requires.once)
    (subst (λ (m : List ℕ). MatchResult c.begin.result (λ done. Does (changes_to w s t m schema p.rows reply (set_named w m)) s t w reply held now old new)
    (Ends m (changes_to w s t m schema p.rows reply (set_named w m)) s w held now old new)) c.in_ok-name.ensures.name
    (subst (λ (x : Shape). MatchResult c.begin.result (λ done. Does (changes_to w s t p.name x p.rows reply (set_named w p.name)) s t w reply held now old new)
    (Ends p.name (changes_to w s t p.name x p.rows reply (set_named w p.name)) s w held now old new)) c.in_ok-name.ensures.schema
    (c.begin.ensures.acts w s t reply at)))
