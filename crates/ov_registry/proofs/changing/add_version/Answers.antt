use Rattle.std.proofs.Common.{◌≡◌, ◌≤◌, ◌+◌, ◌∙◌, ℕ, List, [], ◌∷◌, length, refl, sym, ap, subst, arith}
use Rattle.std.specs.Prelude.{Some, None, Option, codes}
use Rattle.law_runs.specs.Serving.{Does}
use Rattle.ov_core.specs.AtWorld.{IsAtWorld}
use Rattle.ov_core.specs.Held.{Held}
use Rattle.ov_host.specs.Host.{State}
use Rattle.ov_model.specs.Act.{repeated_key}
use Rattle.ov_model.specs.Merge.{in_key_order}
use Rattle.ov_model.specs.Registry.{last_alone}
use Rattle.ov_model.specs.World.{Dataset, World, set_named}
use Rattle.ov_read.specs.Sizes.{bytes_for}
use Rattle.ov_store.specs.Committing.{IsCommitted, IsUncommitted, Set, Wish, commit_off}
use Rattle.ov_store.specs.Scanning.{set_in}
use Rattle.ov_store.specs.Worlds.{version_refusal}
use Rattle.ov_store.proofs.Deciding.{counts, world_named}
use Rattle.ov_value.specs.declared.value.Value.{Value}
use Rattle.ov_value.specs.Shapes.{Shape}
use Rattle.ov_registry.specs.Changing.{Ends, changes_to, wish_of}
use Rattle.ov_registry.specs.Last.{IsLiveTo}
use Rattle.ov_registry.proofs.Deeds.{spared_by, version_ends, version_made}
use Rattle.ov_registry.proofs.changing.add_version.Goals as goal

-- what is asked of the store is the version with the last one as its parent
wish_is : (last : ℕ) (message : List ℕ) (rows : List (List Value)) (set : Set) → last ≡ length set.versions → message ≡ codes "stage"
    → (let x : Wish = record { vids = last ∷ []; message = message; added = []; rows = rows } in x) ≡ wish_of set rows
wish_is last message rows set last_is stage = λ i. record { vids = last_is i ∷ []; message = stage i; added = []; rows = rows }

same_set : (a b : Set) (o : Option Set) → o ≡ Some a → o ≡ Some b → a ≡ b
same_set a b o e f = let both : Some a ≡ Some b = sym e ∙ f in ap (λ x. elim x as (λ _. Set) [ None ↦ a | Some z ↦ z ]) both

last_of_set : (live_set set : Set) (last : ℕ) → live_set ≡ set → last ≡ length live_set.versions → last ≡ length set.versions
last_of_set live_set set last same is = is ∙ ap (λ (x : Set). length x.versions) same

pub commit-requires-clause-fit : goal.commit-requires-clause-fit
commit-requires-clause-fit g c = λ set is.
    record { wider = set.schema; with = refl; fit = c.requires.fit set (ap (set_in c.args.store.now.held.numbers) (sym c.as_str.ensures.text) ∙ is) }

pub returns-in-Ok-clause-fetched : goal.returns-in-Ok-clause-fetched
returns-in-Ok-clause-fetched g c = λ set is.
    let live = c.requires.live
    in let last = last_of_set live.set set c.args.last (same_set live.set set (set_in c.args.store.now.held.numbers c.args.name.now) live.named is) live.last_is
    in subst (λ v. (g.H.Host.state c.commit.new.host).fetched ≤ (g.H.Host.state c.args.host.now).fetched + bytes_for set (v ∷ [])) last
    (c.commit.ensures.fetched set (ap (set_in c.args.store.now.held.numbers) c.as_str.ensures.text ∙ is))

pub returns-in-Err-clause-fetched : goal.returns-in-Err-clause-fetched
returns-in-Err-clause-fetched g c = λ set is.
    let live = c.requires.live
    in let last = last_of_set live.set set c.args.last (same_set live.set set (set_in c.args.store.now.held.numbers c.args.name.now) live.named is) live.last_is
    in subst (λ v. (g.H.Host.state c.commit.new.host).fetched ≤ (g.H.Host.state c.args.host.now).fetched + bytes_for set (v ∷ [])) last
    (c.commit.ensures.fetched set (ap (set_in c.args.store.now.held.numbers) c.as_str.ensures.text ∙ is))

pub returns-in-Ok-clause-done : goal.returns-in-Ok-clause-done
returns-in-Ok-clause-done g c = λ set is.
    let live = c.requires.live
    in let last = last_of_set live.set set c.args.last (same_set live.set set (set_in c.args.store.now.held.numbers c.args.name.now) live.named is) live.last_is
    in (
      subst (λ v. commit_off c.args.store.now.held c.args.name.now (v ∷ []) [] c.args.rows ≡ None) last
          (subst (λ (n : List ℕ). commit_off c.args.store.now.held n (c.args.last ∷ []) [] c.args.rows ≡ None) c.as_str.ensures.text c.in-Ok.ensures.allowed),
      (
        c.in-Ok._made,
        subst (λ (x : Wish). IsCommitted set x (g.H.Host.state c.args.host.now) c.args.store.now.held c.commit.new.self.held c.in-Ok._made)
            (wish_is c.args.last c.args.message.now c.args.rows set last c.requires.message)
            (c.in-Ok.ensures.done set (ap (set_in c.args.store.now.held.numbers) c.as_str.ensures.text ∙ is)),
      ),
    )

pub returns-in-Err-clause-why : goal.returns-in-Err-clause-why
returns-in-Err-clause-why g c = λ set is.
    let live = c.requires.live
    in let last = last_of_set live.set set c.args.last (same_set live.set set (set_in c.args.store.now.held.numbers c.args.name.now) live.named is) live.last_is
    in subst (λ (n : List ℕ). IsUncommitted c.args.store.now.held n (wish_of set c.args.rows) (g.H.Host.state c.args.host.now) (g.H.Host.state c.commit.new.host) c.in-Err.off) c.as_str.ensures.text
    (subst (λ (x : Wish). IsUncommitted c.args.store.now.held c.as_str.result.now x (g.H.Host.state c.args.host.now) (g.H.Host.state c.commit.new.host) c.in-Err.off)
    (wish_is c.args.last c.args.message.now c.args.rows set last c.requires.message) c.in-Err.ensures.why)

-- ---- at a World

record Found (w : World) (held : Held) (s : State) (name n : List ℕ) (rows : List (List Value)) (last : ℕ) (message : List ℕ) : Type 0 where
  d : Dataset
  named : set_named w name ≡ Some d
  here : set_named w n ≡ Some d
  some : 1 ≤ length d.cvd.versions
  once : repeated_key d.cvd.schema [] 1 rows ≡ None
  ordered : length rows ≤ 1000000 → in_key_order d.cvd.schema rows ≡ rows
  asked : (let x : Wish = record { vids = last ∷ []; message = message; added = []; rows = rows } in x) ≡ record { vids = last_alone d; message = codes "stage"; added = []; rows = rows }

found_in : (w : World) (held : Held) (s : State) → IsAtWorld w held s → (name n : List ℕ) → n ≡ name → (rows : List (List Value)) (last : ℕ) (message : List ℕ) → IsLiveTo held.numbers name last
    → ((set : Set) → set_in held.numbers name ≡ Some set → repeated_key set.schema [] 1 rows ≡ None)
    → ((set : Set) → set_in held.numbers name ≡ Some set → length rows ≤ 1000000 → in_key_order set.schema rows ≡ rows) → message ≡ codes "stage"
    → Found w held s name n rows last message
found_in w held s at name n same rows last message live once ordered stage =
    let there = world_named w held s at name live.set live.named
    in let numbers = counts w held s at name there.0 there.1 live.set live.named
    in let count : last ≡ length there.0.cvd.versions = live.last_is ∙ numbers.versions
    in record {
      d = there.0;
      named = there.1;
      here = ap (set_named w) same ∙ there.1;
      some = omega (arith, live.some, count);
      once = subst (λ (x : Shape). repeated_key x [] 1 rows ≡ None) numbers.schema (once live.set live.named);
      ordered = λ few. subst (λ (x : Shape). in_key_order x rows ≡ rows) numbers.schema (ordered live.set live.named few);
      asked = λ i. record { vids = count i ∷ []; message = stage i; added = []; rows = rows };
    }

pub returns-in-Ok-clause-acts : goal.returns-in-Ok-clause-acts
returns-in-Ok-clause-acts g c = λ w s t schema reply at.
    let old = g.H.Host.state c.args.host.now
    in let new = g.H.Host.state c.commit.new.host
    in let n = c.as_str.result.now
    in let rows = c.args.rows
    in let f = found_in w c.args.store.now.held old at c.args.name.now n c.as_str.ensures.text rows c.args.last c.args.message.now c.requires.live c.requires.once c.requires.ordered c.requires.message
    in subst (λ (m : List ℕ). Does (changes_to w s t m schema rows reply (set_named w m)) s t w reply c.args.store.now.held c.commit.new.self.held old new) c.as_str.ensures.text
    (version_made w n rows f.d f.here f.some f.once f.ordered s t schema reply (record { vids = c.args.last ∷ []; message = c.args.message.now; added = []; rows = rows }) f.asked
    c.args.store.now c.commit.new.self old new at (c.in-Ok.ensures.refused w f.d at f.here) (c.commit.ensures.stops w at) (c.in-Ok.ensures.moves w at)
    (λ entry past within. c.in-Ok.ensures.room w f.d entry past at f.here within))

pub returns-in-Err-clause-acts : goal.returns-in-Err-clause-acts
returns-in-Err-clause-acts g c = λ w s t schema reply at.
    let old = g.H.Host.state c.args.host.now
    in let new = g.H.Host.state c.commit.new.host
    in let n = c.as_str.result.now
    in let rows = c.args.rows
    in let f = found_in w c.args.store.now.held old at c.args.name.now n c.as_str.ensures.text rows c.args.last c.args.message.now c.requires.live c.requires.once c.requires.ordered c.requires.message
    in subst (λ (m : List ℕ). Ends m (changes_to w s t m schema rows reply (set_named w m)) s w c.args.store.now.held c.commit.new.self.held old new c.in-Err.off) c.as_str.ensures.text
    (version_ends w n rows f.d f.here f.some f.once f.ordered s t schema reply (record { vids = c.args.last ∷ []; message = c.args.message.now; added = []; rows = rows }) f.asked
    c.args.store.now c.commit.new.self old new at c.in-Err.off (c.in-Err.ensures.refused w f.d at f.here) (λ entry past within. c.in-Err.ensures.room w f.d entry past at f.here within)
    c.in-Err.ensures.stays (c.commit.ensures.stops w at) (λ refusal is. c.commit.ensures.still w f.d refusal at f.here is))

pub returns-in-Err-clause-undamaged : goal.returns-in-Err-clause-undamaged
returns-in-Err-clause-undamaged g c = λ w at.
    let old = g.H.Host.state c.args.host.now
    in let n = c.as_str.result.now
    in let f = found_in w c.args.store.now.held old at c.args.name.now n c.as_str.ensures.text c.args.rows c.args.last c.args.message.now c.requires.live c.requires.once c.requires.ordered c.requires.message
    in spared_by n (version_refusal w f.d (record { vids = c.args.last ∷ []; message = c.args.message.now; added = []; rows = c.args.rows })) c.in-Err.off (c.in-Err.ensures.refused w f.d at f.here)
