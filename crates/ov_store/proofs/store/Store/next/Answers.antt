use Rattle.std.proofs.Common.{rules, ◌≡◌, ◌≤◌, ◌<◌, ◌+◌, ◌∙◌, ℕ, true, List, slice_index_or, length, map, sym, ap, subst}
use Rattle.std.specs.Prelude.{IsUtf8, None, Some, Ok, Err}
use Rattle.std.specs.List.{All, AllZip}
use Rattle.std.proofs.lemmas.List.{length-map}
use Rattle.ov_fetch.specs.Extents.{page_bytes}
use Rattle.ov_segment.specs.declared.numbered.Record.{Record}
use Rattle.ov_journal.specs.Journal.{IsKnown}
use Rattle.ov_value.specs.Shapes.{Shape}
use Rattle.ov_records.specs.Records.{InKeyOrder, RowsFit}
use Rattle.ov_model.specs.Act.{schema_with}
use Rattle.ov_model.specs.Merge.{in_key_order}
use Rattle.ov_catalog.specs.Applying.{set_numbered}
use Rattle.ov_catalog.specs.Raw.{numbers_in}
use Rattle.ov_catalog.specs.Reached.{AreParents}
use Rattle.ov_catalog.specs.Sets as sets
use Rattle.ov_core.specs.Held.{IsReplayed}
use Rattle.law_commits.specs.Agreeing.{ParentsAgree}
use Rattle.law_commits.proofs.Room.{few_records}
use Rattle.ov_read.specs.Agreement.{IsThere}
use Rattle.ov_read.specs.Partitions.{AreHeld, IsHeld}
use Rattle.ov_read.specs.Sizes.{bytes_for}
use Rattle.ov_read.proofs.Gatherings.{zip_length}
use Rattle.ov_new_version.proofs.Served.{if_told}
use Rattle.ov_parents.specs.Parents.{IsParent, RefusesParents, with_added}
use Rattle.ov_parents.proofs.Longer.{agree_with, fit_with, order_with}
use Rattle.ov_parents.proofs.Adding.{all_counted}
use Rattle.ov_store.specs.Changes.{bringing_of}
use Rattle.ov_store.specs.Committing.{IsCommitBy, IsSparedBy, IsSparedYet, IsUncommitted, IsUnready, Set}
use Rattle.ov_store.specs.Errors.{of_commit, of_fetch}
use Rattle.ov_store.specs.Scanning.{set_in}
use Rattle.ov_store.proofs.Commits.{commit_spared, other_format, refused_uncommitted, there_all}
use Rattle.ov_store.proofs.Numbers.{found_in, named_numbered}
use Rattle.ov_store.proofs.Readying.{asked_there, fits_there, fresh_there, made_by, reading_spared, reading_unready, says_there, spared_there, unready_by}
use Rattle.ov_store.proofs.Versions.{never_both, served_there}
use Rattle.ov_store.proofs.Widening.{last_ones, may_add, room_for, wider_is}
use Rattle.ov_store.proofs.store.Store.next.Goals as goal

pub returns-in_err-d-clause-why : goal.returns-in_err-d-clause-why
returns-in_err-d-clause-why g c =
    let fact : IsUncommitted c.args.self.now.held c.args.name.now (record { vids = c.args.parents.now; message = c.args.message.now; added = c.args.added.now; rows = c.args.rows }) (g.H.Host.state c.args.host.now) (g.H.Host.state c.args.host.now) c.in_err-d.field-0.0
    = refused_uncommitted c.args.self.now.held c.args.name.now (record { vids = c.args.parents.now; message = c.args.message.now; added = c.args.added.now; rows = c.args.rows }) (g.H.Host.state c.args.host.now) c.in_err-d.field-0.0 c.in_err-d.ensures.why
    in search (rules, fact)

pub returns-in_err-d-clause-spared : goal.returns-in_err-d-clause-spared
returns-in_err-d-clause-spared g c = λ w d at named.
    let fact : IsSparedYet d (record { vids = c.args.parents.now; message = c.args.message.now; added = c.args.added.now; rows = c.args.rows }) c.in_err-d.field-0.0
    = commit_spared c.args.self.now.held c.args.name.now d (record { vids = c.args.parents.now; message = c.args.message.now; added = c.args.added.now; rows = c.args.rows }) c.in_err-d.field-0.0 c.in_err-d.ensures.why
    in search (rules, fact)

pub parents_of-requires-clause-there : goal.parents_of-requires-clause-there
parents_of-requires-clause-there g c =
    let there : All (IsThere (sets.set_in c.in_ok-d.field-0.d.now)) c.deref.result.now
    = subst (λ (xs : List ℕ). All (IsThere (sets.set_in c.in_ok-d.field-0.d.now)) xs) (sym c.deref.ensures.value)
    (subst (λ (n : ℕ). All (λ vid. (1 ≤ vid) × (vid ≤ n)) c.in_ok-d.field-0.vids.items) (sym (length-map c.in_ok-d.field-0.d.now.versions.items sets.version_in))
    (there_all (length c.in_ok-d.field-0.d.now.versions.items) c.in_ok-d.field-0.vids.items c.in_ok-d.ensures.parents.there))
    in there

pub parents_of-requires-clause-placed : goal.parents_of-requires-clause-placed
parents_of-requires-clause-placed g c = λ k d below.
    let there : All (λ vid. (1 ≤ vid) × (vid ≤ length c.in_ok-d.field-0.d.now.versions.items)) c.deref.result.now
    = subst (λ (xs : List ℕ). All (λ vid. (1 ≤ vid) × (vid ≤ length c.in_ok-d.field-0.d.now.versions.items)) xs) (sym c.deref.ensures.value)
    (there_all (length c.in_ok-d.field-0.d.now.versions.items) c.in_ok-d.field-0.vids.items c.in_ok-d.ensures.parents.there)
    in served_there c.in_ok-d.field-0.d.now (slice_index_or c.deref.result.now k d) c.in_ok-d.ensures.sound (there k d below).0 (there k d below).1

pub parents_of-requires-clause-counted : goal.parents_of-requires-clause-counted
parents_of-requires-clause-counted g c =
    let numbers : c.self.inside.core.numbers ≡ c.args.self.now.held.numbers = ap (λ kept. kept.held.numbers) c.self.view_is
    in let replayed : IsReplayed c.args.self.now.held.numbers = subst (λ n. IsReplayed n) numbers c.is_replayed.ensures
    in all_counted replayed.format replayed.events (sets.set_in c.in_ok-d.field-0.d.now) replayed.follow
    (found_in c.args.name.now (numbers_in replayed.events).sets (sets.set_in c.in_ok-d.field-0.d.now) (subst (λ n. set_in n c.args.name.now ≡ Some (sets.set_in c.in_ok-d.field-0.d.now)) replayed.are c.in_ok-d.ensures.found))

pub returns-in_err-records-clause-spared : goal.returns-in_err-records-clause-spared
returns-in_err-records-clause-spared g c = λ w d at named.
    let there : All (IsThere (sets.set_in c.in_ok-d.field-0.d.now)) c.deref.result.now
    = subst (λ (xs : List ℕ). All (IsThere (sets.set_in c.in_ok-d.field-0.d.now)) xs) (sym c.deref.ensures.value)
    (subst (λ (n : ℕ). All (λ vid. (1 ≤ vid) × (vid ≤ n)) c.in_ok-d.field-0.vids.items) (sym (length-map c.in_ok-d.field-0.d.now.versions.items sets.version_in))
    (there_all (length c.in_ok-d.field-0.d.now.versions.items) c.in_ok-d.field-0.vids.items c.in_ok-d.ensures.parents.there))
    in let fact : IsSparedYet d (record { vids = c.args.parents.now; message = c.args.message.now; added = c.args.added.now; rows = c.args.rows }) (of_fetch c.in_err-records.field-0.0)
    = reading_spared w c.args.self.now.held (g.H.Host.state c.args.host.now) at c.args.name.now (sets.set_in c.in_ok-d.field-0.d.now) d (record { vids = c.args.parents.now; message = c.args.message.now; added = c.args.added.now; rows = c.args.rows }) c.deref.result.now c.in_err-records.field-0.0 c.in_ok-d.ensures.found named there (c.in_err-records.ensures.answer at.at.told)
    in search (rules, fact)

pub commit_of-requires-clause-most : goal.commit_of-requires-clause-most
commit_of-requires-clause-most g c =
    let numbers : c.self.inside.core.numbers ≡ c.args.self.now.held.numbers = ap (λ kept. kept.held.numbers) c.self.view_is
    in let replayed : IsReplayed c.args.self.now.held.numbers = subst (λ n. IsReplayed n) numbers c.is_replayed.ensures
    in few_records replayed.format replayed.events (sets.set_in c.in_ok-d.field-0.d.now) replayed.follow
    (found_in c.args.name.now (numbers_in replayed.events).sets (sets.set_in c.in_ok-d.field-0.d.now) (subst (λ n. set_in n c.args.name.now ≡ Some (sets.set_in c.in_ok-d.field-0.d.now)) replayed.are c.in_ok-d.ensures.found))

pub returns-in_err-brought-clause-why : goal.returns-in_err-brought-clause-why
returns-in_err-brought-clause-why g c =
    let vids_are : c.deref-2.result.now ≡ c.args.parents.now = c.deref-2.ensures.value ∙ c.in_ok-d.ensures.vids
    in let sorted : c.in_ok-d.field-0.rows ≡ in_key_order c.in_ok-d.field-0.schema c.args.rows = c.in_ok-d.ensures.rows
    in let with : schema_with (sets.set_in c.in_ok-d.field-0.d.now).schema c.args.added.now ≡ Ok c.in_ok-d.field-0.schema = c.in_ok-d.ensures.schema
    in let same : c.deref.result.now ≡ c.deref-2.result.now = c.deref.ensures.value ∙ sym c.deref-2.ensures.value
    in let held : AreHeld (g.H.Host.state c.args.host.now).tells (page_bytes (g.H.Host.state c.args.host.now)) (sets.set_in c.in_ok-d.field-0.d.now) c.deref-2.result.now c.deref-4.result.now
    = subst (λ (xs : List (List (List ℕ))). AreHeld (g.H.Host.state c.args.host.now).tells (page_bytes (g.H.Host.state c.args.host.now)) (sets.set_in c.in_ok-d.field-0.d.now) c.deref-2.result.now xs) (sym c.deref-4.ensures.value)
    (subst (λ (xs : List ℕ). AreHeld (g.H.Host.state c.args.host.now).tells (page_bytes (g.H.Host.state c.args.host.now)) (sets.set_in c.in_ok-d.field-0.d.now) xs c.in_ok-records.field-0.held.items) same c.in_ok-records.ensures.held)
    in let given : c.deref-3.result.now ≡ with_added c.args.added.now c.in_ok-records.field-0.records.items = c.deref-3.ensures.value ∙ c.in_ok-wide.ensures.same
    in let read : (g.H.Host.state c.args.host.now).tells ≡ true → AllZip (IsParent (page_bytes (g.H.Host.state c.args.host.now)) (sets.set_in c.in_ok-d.field-0.d.now)) c.deref-2.result.now c.in_ok-records.field-0.records.items
    = λ told. subst (λ (xs : List ℕ). AllZip (IsParent (page_bytes (g.H.Host.state c.args.host.now)) (sets.set_in c.in_ok-d.field-0.d.now)) xs c.in_ok-records.field-0.records.items) same (c.in_ok-records.ensures.answer told)
    in let agree : ParentsAgree (sets.set_in c.in_ok-d.field-0.d.now) c.deref-2.result.now c.in_ok-records.field-0.records.items
    = subst (λ (xs : List ℕ). ParentsAgree (sets.set_in c.in_ok-d.field-0.d.now) xs c.in_ok-records.field-0.records.items) same c.in_ok-records.ensures.agree
    in let fact : IsUnready c.args.self.now.held c.args.name.now (record { vids = c.args.parents.now; message = c.args.message.now; added = c.args.added.now; rows = c.args.rows }) (g.H.Host.state c.args.host.now) (g.H.Host.state c.parents_of.new.host) (of_commit c.in_err-brought.field-0.0)
    = unready_by (sets.set_in c.in_ok-d.field-0.d.now) (record { vids = c.args.parents.now; message = c.args.message.now; added = c.args.added.now; rows = c.args.rows }) c.deref-2.result.now c.in_ok-records.field-0.records.items c.deref-3.result.now c.in_ok-d.field-0.schema c.in_ok-d.field-0.rows vids_are given with sorted (g.H.Host.state c.args.host.now) read agree c.args.self.now.held c.args.name.now (g.H.Host.state c.parents_of.new.host) c.in_err-brought.field-0.0 c.in_ok-d.ensures.found c.in_ok-d.ensures.allowed c.in_ok-d.ensures.fit.few
    (c.in_err-brought.ensures.refuses (g.H.Host.state c.args.host.now).tells (page_bytes (g.H.Host.state c.args.host.now)) held)
    in search (rules, fact)

pub returns-in_err-brought-clause-spared : goal.returns-in_err-brought-clause-spared
returns-in_err-brought-clause-spared g c = λ w d at named.
    let vids_are : c.deref-2.result.now ≡ c.args.parents.now = c.deref-2.ensures.value ∙ c.in_ok-d.ensures.vids
    in let sorted : c.in_ok-d.field-0.rows ≡ in_key_order c.in_ok-d.field-0.schema c.args.rows = c.in_ok-d.ensures.rows
    in let with : schema_with (sets.set_in c.in_ok-d.field-0.d.now).schema c.args.added.now ≡ Ok c.in_ok-d.field-0.schema = c.in_ok-d.ensures.schema
    in let same : c.deref.result.now ≡ c.deref-2.result.now = c.deref.ensures.value ∙ sym c.deref-2.ensures.value
    in let held : AreHeld (g.H.Host.state c.args.host.now).tells (page_bytes (g.H.Host.state c.args.host.now)) (sets.set_in c.in_ok-d.field-0.d.now) c.deref-2.result.now c.deref-4.result.now
    = subst (λ (xs : List (List (List ℕ))). AreHeld (g.H.Host.state c.args.host.now).tells (page_bytes (g.H.Host.state c.args.host.now)) (sets.set_in c.in_ok-d.field-0.d.now) c.deref-2.result.now xs) (sym c.deref-4.ensures.value)
    (subst (λ (xs : List ℕ). AreHeld (g.H.Host.state c.args.host.now).tells (page_bytes (g.H.Host.state c.args.host.now)) (sets.set_in c.in_ok-d.field-0.d.now) xs c.in_ok-records.field-0.held.items) same c.in_ok-records.ensures.held)
    in let given : c.deref-3.result.now ≡ with_added c.args.added.now c.in_ok-records.field-0.records.items = c.deref-3.ensures.value ∙ c.in_ok-wide.ensures.same
    in let read : (g.H.Host.state c.args.host.now).tells ≡ true → AllZip (IsParent (page_bytes (g.H.Host.state c.args.host.now)) (sets.set_in c.in_ok-d.field-0.d.now)) c.deref-2.result.now c.in_ok-records.field-0.records.items
    = λ told. subst (λ (xs : List ℕ). AllZip (IsParent (page_bytes (g.H.Host.state c.args.host.now)) (sets.set_in c.in_ok-d.field-0.d.now)) xs c.in_ok-records.field-0.records.items) same (c.in_ok-records.ensures.answer told)
    in let there : All (IsThere (sets.set_in c.in_ok-d.field-0.d.now)) c.deref-2.result.now
    = subst (λ (xs : List ℕ). All (IsThere (sets.set_in c.in_ok-d.field-0.d.now)) xs) (sym c.deref-2.ensures.value)
    (subst (λ (n : ℕ). All (λ vid. (1 ≤ vid) × (vid ≤ n)) c.in_ok-d.field-0.vids.items) (sym (length-map c.in_ok-d.field-0.d.now.versions.items sets.version_in))
    (there_all (length c.in_ok-d.field-0.d.now.versions.items) c.in_ok-d.field-0.vids.items c.in_ok-d.ensures.parents.there))
    in let count : length c.in_ok-d.field-0.d.now.versions.items ≡ length (sets.set_in c.in_ok-d.field-0.d.now).versions = sym (length-map c.in_ok-d.field-0.d.now.versions.items sets.version_in)
    in let are : AreParents (length (sets.set_in c.in_ok-d.field-0.d.now).versions) c.deref-2.result.now
    = subst (λ (n : ℕ). AreParents n c.deref-2.result.now) count (subst (λ (xs : List ℕ). AreParents (length c.in_ok-d.field-0.d.now.versions.items) xs) (sym c.deref-2.ensures.value) c.in_ok-d.ensures.parents)
    in let text : IsUtf8 c.args.message.now = subst (λ (xs : List ℕ). IsUtf8 xs) c.as_str.ensures.text c.as_str.ensures.utf8
    in let few : length (sets.set_in c.in_ok-d.field-0.d.now).versions < 65535 = subst (λ (n : ℕ). n < 65535) count c.in_ok-d.ensures.few
    in let fact : IsSparedBy w d (record { vids = c.args.parents.now; message = c.args.message.now; added = c.args.added.now; rows = c.args.rows }) (of_commit c.in_err-brought.field-0.0)
    = spared_there (sets.set_in c.in_ok-d.field-0.d.now) (record { vids = c.args.parents.now; message = c.args.message.now; added = c.args.added.now; rows = c.args.rows }) c.deref-2.result.now c.in_ok-records.field-0.records.items c.deref-3.result.now c.in_ok-d.field-0.schema c.in_ok-d.field-0.rows vids_are given with sorted (g.H.Host.state c.args.host.now) read w c.args.self.now.held at c.args.name.now d c.in_ok-d.ensures.found named there are text c.requires.message few c.in_ok-d.ensures.fit c.in_ok-d.ensures.allowed c.in_err-brought.field-0.0
    (c.in_err-brought.ensures.world (page_bytes (g.H.Host.state c.args.host.now)) w d (if_told (g.H.Host.state c.args.host.now).tells (page_bytes (g.H.Host.state c.args.host.now)) (sets.set_in c.in_ok-d.field-0.d.now) c.deref-2.result.now c.deref-4.result.now held at.at.told) (asked_there (sets.set_in c.in_ok-d.field-0.d.now) (record { vids = c.args.parents.now; message = c.args.message.now; added = c.args.added.now; rows = c.args.rows }) c.deref-2.result.now c.in_ok-records.field-0.records.items c.deref-3.result.now c.in_ok-d.field-0.schema c.in_ok-d.field-0.rows vids_are given with sorted (g.H.Host.state c.args.host.now) read w c.args.self.now.held at c.args.name.now d c.in_ok-d.ensures.found named there))
    in search (rules, fact)

pub returns-clause-ready : goal.returns-clause-ready
returns-clause-ready g c =
    let numbers : c.self.inside.core.numbers ≡ c.args.self.now.held.numbers = ap (λ kept. kept.held.numbers) c.self.view_is
    in let replayed : IsReplayed c.args.self.now.held.numbers = subst (λ n. IsReplayed n) numbers c.is_replayed.ensures
    in let numbered : set_numbered (sets.set_in c.in_ok-d.field-0.d.now).number c.args.self.now.held.numbers ≡ Some (sets.set_in c.in_ok-d.field-0.d.now)
    = subst (λ n. set_numbered (sets.set_in c.in_ok-d.field-0.d.now).number n ≡ Some (sets.set_in c.in_ok-d.field-0.d.now)) (sym replayed.are)
    (named_numbered replayed.format replayed.events replayed.follow c.args.name.now (sets.set_in c.in_ok-d.field-0.d.now) (subst (λ n. set_in n c.args.name.now ≡ Some (sets.set_in c.in_ok-d.field-0.d.now)) replayed.are c.in_ok-d.ensures.found))
    in let known : IsKnown c.args.self.now.held.journal.format
    = subst IsKnown (ap (λ j. j.format) c.journal.ensures ∙ ap (λ kept. kept.held.journal.format) c.self.view_is) c.is_known.ensures
    in record {
      unplaced = c.in_ok-brought.ensures.unplaced;
      event = c.in_ok-brought.ensures.event;
      applies = c.in_ok-brought.ensures.applies c.args.self.now.held.journal.format
          (may_add c.args.self.now.held.journal.format (sets.set_in c.in_ok-d.field-0.d.now) c.in_ok-d.field-0.schema c.args.added.now known
          (other_format c.args.self.now.held c.args.name.now (sets.set_in c.in_ok-d.field-0.d.now) c.args.parents.now c.args.added.now c.args.rows c.in_ok-d.ensures.found c.in_ok-d.ensures.allowed)
          c.in_ok-d.ensures.schema)
          c.args.self.now.held.numbers numbered;
    }

pub returns-clause-by : goal.returns-clause-by
returns-clause-by g c = λ s named.
    let vids_are : c.deref-2.result.now ≡ c.args.parents.now = c.deref-2.ensures.value ∙ c.in_ok-d.ensures.vids
    in let sorted : c.in_ok-d.field-0.rows ≡ in_key_order c.in_ok-d.field-0.schema c.args.rows = c.in_ok-d.ensures.rows
    in let with : schema_with (sets.set_in c.in_ok-d.field-0.d.now).schema c.args.added.now ≡ Ok c.in_ok-d.field-0.schema = c.in_ok-d.ensures.schema
    in let same : c.deref.result.now ≡ c.deref-2.result.now = c.deref.ensures.value ∙ sym c.deref-2.ensures.value
    in let held : AreHeld (g.H.Host.state c.args.host.now).tells (page_bytes (g.H.Host.state c.args.host.now)) (sets.set_in c.in_ok-d.field-0.d.now) c.deref-2.result.now c.deref-4.result.now
    = subst (λ (xs : List (List (List ℕ))). AreHeld (g.H.Host.state c.args.host.now).tells (page_bytes (g.H.Host.state c.args.host.now)) (sets.set_in c.in_ok-d.field-0.d.now) c.deref-2.result.now xs) (sym c.deref-4.ensures.value)
    (subst (λ (xs : List ℕ). AreHeld (g.H.Host.state c.args.host.now).tells (page_bytes (g.H.Host.state c.args.host.now)) (sets.set_in c.in_ok-d.field-0.d.now) xs c.in_ok-records.field-0.held.items) same c.in_ok-records.ensures.held)
    in let given : c.deref-3.result.now ≡ with_added c.args.added.now c.in_ok-records.field-0.records.items = c.deref-3.ensures.value ∙ c.in_ok-wide.ensures.same
    in let read : (g.H.Host.state c.args.host.now).tells ≡ true → AllZip (IsParent (page_bytes (g.H.Host.state c.args.host.now)) (sets.set_in c.in_ok-d.field-0.d.now)) c.deref-2.result.now c.in_ok-records.field-0.records.items
    = λ told. subst (λ (xs : List ℕ). AllZip (IsParent (page_bytes (g.H.Host.state c.args.host.now)) (sets.set_in c.in_ok-d.field-0.d.now)) xs c.in_ok-records.field-0.records.items) same (c.in_ok-records.ensures.answer told)
    in let agree : ParentsAgree (sets.set_in c.in_ok-d.field-0.d.now) c.deref-2.result.now c.in_ok-records.field-0.records.items
    = subst (λ (xs : List ℕ). ParentsAgree (sets.set_in c.in_ok-d.field-0.d.now) xs c.in_ok-records.field-0.records.items) same c.in_ok-records.ensures.agree
    in let is : (sets.set_in c.in_ok-d.field-0.d.now) ≡ s = ap (λ o. elim o as (λ _. Set) [ None ↦ (sets.set_in c.in_ok-d.field-0.d.now) | Some x ↦ x ]) (sym c.in_ok-d.ensures.found ∙ named)
    in subst (λ x. IsCommitBy x (record { vids = c.args.parents.now; message = c.args.message.now; added = c.args.added.now; rows = c.args.rows }) (g.H.Host.state c.args.host.now) (bringing_of c.in_ok-brought.field-0.brought) c.in_ok-brought.field-0.fresh) is
    (made_by (sets.set_in c.in_ok-d.field-0.d.now) (record { vids = c.args.parents.now; message = c.args.message.now; added = c.args.added.now; rows = c.args.rows }) c.deref-2.result.now c.in_ok-records.field-0.records.items c.deref-3.result.now c.in_ok-d.field-0.schema c.in_ok-d.field-0.rows vids_are given with sorted (g.H.Host.state c.args.host.now) read agree (bringing_of c.in_ok-brought.field-0.brought) c.in_ok-brought.field-0.fresh (c.in_ok-brought.ensures.is (g.H.Host.state c.args.host.now).tells (page_bytes (g.H.Host.state c.args.host.now)) held) c.in_ok-brought.ensures.fresh)

pub returns-clause-brings : goal.returns-clause-brings
returns-clause-brings g c = λ w d at named.
    let vids_are : c.deref-2.result.now ≡ c.args.parents.now = c.deref-2.ensures.value ∙ c.in_ok-d.ensures.vids
    in let sorted : c.in_ok-d.field-0.rows ≡ in_key_order c.in_ok-d.field-0.schema c.args.rows = c.in_ok-d.ensures.rows
    in let with : schema_with (sets.set_in c.in_ok-d.field-0.d.now).schema c.args.added.now ≡ Ok c.in_ok-d.field-0.schema = c.in_ok-d.ensures.schema
    in let same : c.deref.result.now ≡ c.deref-2.result.now = c.deref.ensures.value ∙ sym c.deref-2.ensures.value
    in let held : AreHeld (g.H.Host.state c.args.host.now).tells (page_bytes (g.H.Host.state c.args.host.now)) (sets.set_in c.in_ok-d.field-0.d.now) c.deref-2.result.now c.deref-4.result.now
    = subst (λ (xs : List (List (List ℕ))). AreHeld (g.H.Host.state c.args.host.now).tells (page_bytes (g.H.Host.state c.args.host.now)) (sets.set_in c.in_ok-d.field-0.d.now) c.deref-2.result.now xs) (sym c.deref-4.ensures.value)
    (subst (λ (xs : List ℕ). AreHeld (g.H.Host.state c.args.host.now).tells (page_bytes (g.H.Host.state c.args.host.now)) (sets.set_in c.in_ok-d.field-0.d.now) xs c.in_ok-records.field-0.held.items) same c.in_ok-records.ensures.held)
    in let given : c.deref-3.result.now ≡ with_added c.args.added.now c.in_ok-records.field-0.records.items = c.deref-3.ensures.value ∙ c.in_ok-wide.ensures.same
    in let read : (g.H.Host.state c.args.host.now).tells ≡ true → AllZip (IsParent (page_bytes (g.H.Host.state c.args.host.now)) (sets.set_in c.in_ok-d.field-0.d.now)) c.deref-2.result.now c.in_ok-records.field-0.records.items
    = λ told. subst (λ (xs : List ℕ). AllZip (IsParent (page_bytes (g.H.Host.state c.args.host.now)) (sets.set_in c.in_ok-d.field-0.d.now)) xs c.in_ok-records.field-0.records.items) same (c.in_ok-records.ensures.answer told)
    in let there : All (IsThere (sets.set_in c.in_ok-d.field-0.d.now)) c.deref-2.result.now
    = subst (λ (xs : List ℕ). All (IsThere (sets.set_in c.in_ok-d.field-0.d.now)) xs) (sym c.deref-2.ensures.value)
    (subst (λ (n : ℕ). All (λ vid. (1 ≤ vid) × (vid ≤ n)) c.in_ok-d.field-0.vids.items) (sym (length-map c.in_ok-d.field-0.d.now.versions.items sets.version_in))
    (there_all (length c.in_ok-d.field-0.d.now.versions.items) c.in_ok-d.field-0.vids.items c.in_ok-d.ensures.parents.there))
    in let answered = c.in_ok-brought.ensures.world (page_bytes (g.H.Host.state c.args.host.now)) w d (if_told (g.H.Host.state c.args.host.now).tells (page_bytes (g.H.Host.state c.args.host.now)) (sets.set_in c.in_ok-d.field-0.d.now) c.deref-2.result.now c.deref-4.result.now held at.at.told) (asked_there (sets.set_in c.in_ok-d.field-0.d.now) (record { vids = c.args.parents.now; message = c.args.message.now; added = c.args.added.now; rows = c.args.rows }) c.deref-2.result.now c.in_ok-records.field-0.records.items c.deref-3.result.now c.in_ok-d.field-0.schema c.in_ok-d.field-0.rows vids_are given with sorted (g.H.Host.state c.args.host.now) read w c.args.self.now.held at c.args.name.now d c.in_ok-d.ensures.found named there)
    in let count : length c.in_ok-d.field-0.d.now.versions.items ≡ length (sets.set_in c.in_ok-d.field-0.d.now).versions = sym (length-map c.in_ok-d.field-0.d.now.versions.items sets.version_in)
    in let are : AreParents (length (sets.set_in c.in_ok-d.field-0.d.now).versions) c.deref-2.result.now
    = subst (λ (n : ℕ). AreParents n c.deref-2.result.now) count (subst (λ (xs : List ℕ). AreParents (length c.in_ok-d.field-0.d.now.versions.items) xs) (sym c.deref-2.ensures.value) c.in_ok-d.ensures.parents)
    in let text : IsUtf8 c.args.message.now = subst (λ (xs : List ℕ). IsUtf8 xs) c.as_str.ensures.text c.as_str.ensures.utf8
    in record {
      fits = fits_there (sets.set_in c.in_ok-d.field-0.d.now) (record { vids = c.args.parents.now; message = c.args.message.now; added = c.args.added.now; rows = c.args.rows }) c.deref-2.result.now c.in_ok-records.field-0.records.items c.deref-3.result.now c.in_ok-d.field-0.schema c.in_ok-d.field-0.rows vids_are given with sorted (g.H.Host.state c.args.host.now) read w c.args.self.now.held at c.args.name.now d c.in_ok-d.ensures.found named there are text c.requires.message
          (subst (λ (n : ℕ). n < 65535) count c.in_ok-d.ensures.few) c.in_ok-d.ensures.fit c.in_ok-d.ensures.allowed c.in_ok-brought.field-0.brought.event c.in_ok-brought.field-0.fresh
          c.in_ok-brought.field-0.brought.list.items c.in_ok-brought.field-0.brought.segment.items answered;
      says = says_there (sets.set_in c.in_ok-d.field-0.d.now) (record { vids = c.args.parents.now; message = c.args.message.now; added = c.args.added.now; rows = c.args.rows }) c.deref-2.result.now c.in_ok-records.field-0.records.items c.deref-3.result.now c.in_ok-d.field-0.schema c.in_ok-d.field-0.rows vids_are given with sorted (g.H.Host.state c.args.host.now) read w c.args.self.now.held at c.args.name.now d c.in_ok-d.ensures.found named there c.in_ok-brought.field-0.brought.event c.in_ok-brought.field-0.fresh
          c.in_ok-brought.field-0.brought.list.items c.in_ok-brought.field-0.brought.segment.items answered;
    }

pub returns-clause-fresh : goal.returns-clause-fresh
returns-clause-fresh g c = λ w d at named.
    let vids_are : c.deref-2.result.now ≡ c.args.parents.now = c.deref-2.ensures.value ∙ c.in_ok-d.ensures.vids
    in let sorted : c.in_ok-d.field-0.rows ≡ in_key_order c.in_ok-d.field-0.schema c.args.rows = c.in_ok-d.ensures.rows
    in let with : schema_with (sets.set_in c.in_ok-d.field-0.d.now).schema c.args.added.now ≡ Ok c.in_ok-d.field-0.schema = c.in_ok-d.ensures.schema
    in let same : c.deref.result.now ≡ c.deref-2.result.now = c.deref.ensures.value ∙ sym c.deref-2.ensures.value
    in let held : AreHeld (g.H.Host.state c.args.host.now).tells (page_bytes (g.H.Host.state c.args.host.now)) (sets.set_in c.in_ok-d.field-0.d.now) c.deref-2.result.now c.deref-4.result.now
    = subst (λ (xs : List (List (List ℕ))). AreHeld (g.H.Host.state c.args.host.now).tells (page_bytes (g.H.Host.state c.args.host.now)) (sets.set_in c.in_ok-d.field-0.d.now) c.deref-2.result.now xs) (sym c.deref-4.ensures.value)
    (subst (λ (xs : List ℕ). AreHeld (g.H.Host.state c.args.host.now).tells (page_bytes (g.H.Host.state c.args.host.now)) (sets.set_in c.in_ok-d.field-0.d.now) xs c.in_ok-records.field-0.held.items) same c.in_ok-records.ensures.held)
    in let given : c.deref-3.result.now ≡ with_added c.args.added.now c.in_ok-records.field-0.records.items = c.deref-3.ensures.value ∙ c.in_ok-wide.ensures.same
    in let read : (g.H.Host.state c.args.host.now).tells ≡ true → AllZip (IsParent (page_bytes (g.H.Host.state c.args.host.now)) (sets.set_in c.in_ok-d.field-0.d.now)) c.deref-2.result.now c.in_ok-records.field-0.records.items
    = λ told. subst (λ (xs : List ℕ). AllZip (IsParent (page_bytes (g.H.Host.state c.args.host.now)) (sets.set_in c.in_ok-d.field-0.d.now)) xs c.in_ok-records.field-0.records.items) same (c.in_ok-records.ensures.answer told)
    in let there : All (IsThere (sets.set_in c.in_ok-d.field-0.d.now)) c.deref-2.result.now
    = subst (λ (xs : List ℕ). All (IsThere (sets.set_in c.in_ok-d.field-0.d.now)) xs) (sym c.deref-2.ensures.value)
    (subst (λ (n : ℕ). All (λ vid. (1 ≤ vid) × (vid ≤ n)) c.in_ok-d.field-0.vids.items) (sym (length-map c.in_ok-d.field-0.d.now.versions.items sets.version_in))
    (there_all (length c.in_ok-d.field-0.d.now.versions.items) c.in_ok-d.field-0.vids.items c.in_ok-d.ensures.parents.there))
    in let answered = c.in_ok-brought.ensures.world (page_bytes (g.H.Host.state c.args.host.now)) w d (if_told (g.H.Host.state c.args.host.now).tells (page_bytes (g.H.Host.state c.args.host.now)) (sets.set_in c.in_ok-d.field-0.d.now) c.deref-2.result.now c.deref-4.result.now held at.at.told) (asked_there (sets.set_in c.in_ok-d.field-0.d.now) (record { vids = c.args.parents.now; message = c.args.message.now; added = c.args.added.now; rows = c.args.rows }) c.deref-2.result.now c.in_ok-records.field-0.records.items c.deref-3.result.now c.in_ok-d.field-0.schema c.in_ok-d.field-0.rows vids_are given with sorted (g.H.Host.state c.args.host.now) read w c.args.self.now.held at c.args.name.now d c.in_ok-d.ensures.found named there)
    in fresh_there (sets.set_in c.in_ok-d.field-0.d.now) (record { vids = c.args.parents.now; message = c.args.message.now; added = c.args.added.now; rows = c.args.rows }) c.deref-2.result.now c.in_ok-records.field-0.records.items c.deref-3.result.now c.in_ok-d.field-0.schema c.in_ok-d.field-0.rows vids_are given with sorted (g.H.Host.state c.args.host.now) read w c.args.self.now.held at c.args.name.now d c.in_ok-d.ensures.found named there c.in_ok-brought.field-0.brought.event c.in_ok-brought.field-0.fresh
    c.in_ok-brought.field-0.brought.list.items c.in_ok-brought.field-0.brought.segment.items answered

pub returns-in_err-brought-clause-fetched : goal.returns-in_err-brought-clause-fetched
returns-in_err-brought-clause-fetched g c = λ s named.
    let vids_are : c.deref.result.now ≡ c.args.parents.now = c.deref.ensures.value ∙ c.in_ok-d.ensures.vids
    in let is : (sets.set_in c.in_ok-d.field-0.d.now) ≡ s = ap (λ o. elim o as (λ _. Set) [ None ↦ (sets.set_in c.in_ok-d.field-0.d.now) | Some x ↦ x ]) (sym c.in_ok-d.ensures.found ∙ named)
    in subst (λ x. (g.H.Host.state c.parents_of.new.host).fetched ≤ (g.H.Host.state c.args.host.now).fetched + bytes_for x c.args.parents.now) is
    (subst (λ (xs : List ℕ). (g.H.Host.state c.parents_of.new.host).fetched ≤ (g.H.Host.state c.args.host.now).fetched + bytes_for (sets.set_in c.in_ok-d.field-0.d.now) xs) vids_are c.parents_of.ensures.fetched)

pub returns-clause-fetched : goal.returns-clause-fetched
returns-clause-fetched g c = λ s named.
    let vids_are : c.deref.result.now ≡ c.args.parents.now = c.deref.ensures.value ∙ c.in_ok-d.ensures.vids
    in let is : (sets.set_in c.in_ok-d.field-0.d.now) ≡ s = ap (λ o. elim o as (λ _. Set) [ None ↦ (sets.set_in c.in_ok-d.field-0.d.now) | Some x ↦ x ]) (sym c.in_ok-d.ensures.found ∙ named)
    in subst (λ x. (g.H.Host.state c.parents_of.new.host).fetched ≤ (g.H.Host.state c.args.host.now).fetched + bytes_for x c.args.parents.now) is
    (subst (λ (xs : List ℕ). (g.H.Host.state c.parents_of.new.host).fetched ≤ (g.H.Host.state c.args.host.now).fetched + bytes_for (sets.set_in c.in_ok-d.field-0.d.now) xs) vids_are c.parents_of.ensures.fetched)

pub commit_of-requires-clause-held : goal.commit_of-requires-clause-held
commit_of-requires-clause-held g c =
    ap length c.deref-4.ensures.value
    ∙ (zip_length (IsHeld (g.H.Host.state c.args.host.now).tells (page_bytes (g.H.Host.state c.args.host.now)) c.in_ok-d.field-0.d.now.schema c.deref.result.now) (map sets.part_in c.in_ok-d.field-0.d.now.layout.parts) c.in_ok-records.field-0.held.items c.in_ok-records.ensures.held
    ∙ length-map c.in_ok-d.field-0.d.now.layout.parts sets.part_in)

pub returns-in_err-records-clause-unread : goal.returns-in_err-records-clause-unread
returns-in_err-records-clause-unread g c = λ off is. absurd (never_both off c.in_ok-d.ensures.allowed is)

pub returns-in_err-brought-clause-unread : goal.returns-in_err-brought-clause-unread
returns-in_err-brought-clause-unread g c = λ off is. absurd (never_both off c.in_ok-d.ensures.allowed is)

pub returns-clause-unread : goal.returns-clause-unread
returns-clause-unread g c = λ off is. absurd (never_both off c.in_ok-d.ensures.allowed is)

pub with_columns-requires : goal.with_columns-requires
with_columns-requires g c = record {
  fit = (
    c.in_ok-d.field-0.d.now.schema,
    c.in_ok-records.ensures.fit,
    room_for c.in_ok-d.field-0.d.now.schema c.in_ok-d.field-0.schema c.args.added.now c.columns.ensures.sound.few_columns c.in_ok-d.ensures.schema,
  );
}

pub commit_of-requires-clause-columns : goal.commit_of-requires-clause-columns
commit_of-requires-clause-columns g c =
    last_ones c.in_ok-d.field-0.d.now.schema c.in_ok-d.field-0.schema c.args.added.now c.columns.ensures.sound c.in_ok-d.ensures.schema

pub commit_of-requires-clause-order : goal.commit_of-requires-clause-order
commit_of-requires-clause-order g c =
    let wider = wider_is c.in_ok-d.field-0.d.now.schema c.in_ok-d.field-0.schema c.args.added.now c.in_ok-d.ensures.schema
    in subst (λ (xs : List (List Record)). All (InKeyOrder c.in_ok-d.field-0.schema) xs) (sym (c.deref-3.ensures.value ∙ c.in_ok-wide.ensures.same))
    (order_with c.in_ok-d.field-0.d.now.schema c.in_ok-d.field-0.schema c.args.added.now c.in_ok-records.field-0.records.items (sym (ap (λ (s : Shape). s.key) wider)) c.in_ok-records.ensures.order)

pub commit_of-requires-clause-fit : goal.commit_of-requires-clause-fit
commit_of-requires-clause-fit g c =
    let wider = wider_is c.in_ok-d.field-0.d.now.schema c.in_ok-d.field-0.schema c.args.added.now c.in_ok-d.ensures.schema
    in subst (λ (xs : List (List Record)). All (RowsFit c.in_ok-d.field-0.schema) xs) (sym (c.deref-3.ensures.value ∙ c.in_ok-wide.ensures.same))
    (fit_with c.in_ok-d.field-0.d.now.schema c.in_ok-d.field-0.schema c.args.added.now c.in_ok-records.field-0.records.items (sym (ap (λ (s : Shape). s.key) wider))
    (sym (ap (λ (s : Shape). s.columns) wider)) c.in_ok-records.ensures.fit)

pub commit_of-requires-clause-agree : goal.commit_of-requires-clause-agree
commit_of-requires-clause-agree g c =
    let same : c.deref.result.now ≡ c.deref-2.result.now = c.deref.ensures.value ∙ sym c.deref-2.ensures.value
    in subst (λ (xs : List (List Record)). ParentsAgree (sets.set_in c.in_ok-d.field-0.d.now) c.deref-2.result.now xs) (sym (c.deref-3.ensures.value ∙ c.in_ok-wide.ensures.same))
    (agree_with (sets.set_in c.in_ok-d.field-0.d.now) c.deref-2.result.now c.args.added.now c.in_ok-records.field-0.records.items
    (subst (λ (xs : List ℕ). ParentsAgree (sets.set_in c.in_ok-d.field-0.d.now) xs c.in_ok-records.field-0.records.items) same c.in_ok-records.ensures.agree))

pub returns-in_err-records-clause-why : goal.returns-in_err-records-clause-why
returns-in_err-records-clause-why g c =
    let old = g.H.Host.state c.args.host.now
    in let new = g.H.Host.state c.parents_of.new.host
    in let vids_are : c.deref.result.now ≡ c.args.parents.now = c.deref.ensures.value ∙ c.in_ok-d.ensures.vids
    in let fact : IsUncommitted c.args.self.now.held c.args.name.now (record { vids = c.args.parents.now; message = c.args.message.now; added = c.args.added.now; rows = c.args.rows }) old new
    (of_fetch c.in_err-records.field-0.0)
    = reading_unready old new c.args.self.now.held c.args.name.now (sets.set_in c.in_ok-d.field-0.d.now)
    (record { vids = c.args.parents.now; message = c.args.message.now; added = c.args.added.now; rows = c.args.rows }) c.in_err-records.field-0.0 c.in_ok-d.ensures.found c.in_ok-d.ensures.allowed
    (λ host. c.in_err-records.ensures.cause (ap Err host))
    (λ told. subst (λ (xs : List ℕ). RefusesParents c.in_err-records.field-0.0 (page_bytes old) (sets.set_in c.in_ok-d.field-0.d.now) xs) vids_are (c.in_err-records.ensures.answer told))
    in search (rules, fact)
