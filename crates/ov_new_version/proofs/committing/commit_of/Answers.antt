use Rattle.std.proofs.Common.{rules, ◌≡◌, ◌≤◌, ◌<◌, ◌+◌, ◌^◌, [], true, length, refl, sym, ◌∙◌, ap, subst}
use Rattle.ov_place.specs.declared.place_facts.Place.TheVariants.{Own}
use Rattle.ov_catalog.specs.Sets.{set_in}
use Rattle.ov_read.proofs.Matching.{err_on}
use Rattle.ov_version_bytes.specs.Written.{AreGiven}
use Rattle.ov_new_version.specs.Asked.{Asked, asked_in, fresh_of}
use Rattle.ov_new_version.specs.Commits.{event_for, Refuses}
use Rattle.ov_new_version.specs.Errors.{of_write}
use Rattle.ov_new_version.specs.Held.{IsServed}
use Rattle.ov_new_version.proofs.Served.{if_told, joined_served}
use Rattle.ov_new_version.specs.OfWorld.{IsAnswered, IsSpared, version_in}
use Rattle.ov_new_version.specs.declared.errors.CommitErr.TheVariants.{Memory, TooManyRecords}
use Rattle.ov_records.specs.Committed.{AreRecords}
use Rattle.law_reads.proofs.Counted.{numbers}
use Rattle.std.specs.Prelude.{◌⊎◌}
use Rattle.ov_new_version.specs.Joined.{part_at, joined_of, IsPlaceThere, IsReadOf}
use Rattle.ov_new_version.proofs.Answering.{err_match, not_held, not_written}
use Rattle.ov_new_version.proofs.Making.{MayBe, IsMade, made_is, may_be, vid_is, few_named, rids_given, event_told, commit_is, applies}
use Rattle.ov_new_version.proofs.Worlds.{all_records, is_next, made_spared, spared, too_much}
use Rattle.ov_model.specs.Moves.{wide}
use Rattle.ov_new_version.proofs.Widened.{wide_records}
use Rattle.ov_new_version.proofs.Placing.{as_many, place_there, joined_is}
use Rattle.ov_new_version.proofs.committing.commit_of.Goals as goal

pub returns-in_err-made-clause-world : goal.returns-in_err-made-clause-world
returns-in_err-made-clause-world c =
    λ area w ds have asked.
    let a : Asked = asked_in c.args.d.now c.args.wanted
    in let e = c.in_err-made.field-0.0
    in let why : (e ≡ Memory) ⊎ ((e ≡ TooManyRecords) × (2 ^ 31 < a.set.records + fresh_of a)) =
    c.in_err-made.ensures.cause
    in err_match (λ m. IsAnswered a w ds m.brought.event m.fresh m.brought.list.items m.brought.segment.items) (λ x. IsSpared x a w ds) c.from_residual.result e c.from_residual.ensures
    (made_spared a w ds area asked e why)

pub held_at-requires-clause-there : goal.held_at-requires-clause-there
held_at-requires-clause-there c =
    let a : Asked = asked_in c.args.d.now c.args.wanted
    in let is : IsMade a c.in_ok-made.made c.in_ok-place.place =
    made_is a c.in_ok-made.made c.as_slice.result.now c.in_ok-place.place c.as_slice.ensures c.in_ok-made.ensures.rids c.in_ok-made.ensures.weights c.in_ok-made.ensures.fresh c.in_ok-place.ensures
    in subst (IsPlaceThere (set_in c.args.d.now)) (sym is.place_is) (place_there c.args.d.now c.args.wanted c.requires.set c.requires.named c.requires.agree.each)

pub returns-in_err-held-clause-refuses : goal.returns-in_err-held-clause-refuses
returns-in_err-held-clause-refuses c =
    λ told area have.
    let a : Asked = asked_in c.args.d.now c.args.wanted
    in let is : IsMade a c.in_ok-made.made c.in_ok-place.place =
    made_is a c.in_ok-made.made c.as_slice.result.now c.in_ok-place.place c.as_slice.ensures c.in_ok-made.ensures.rids c.in_ok-made.ensures.weights c.in_ok-made.ensures.fresh c.in_ok-place.ensures
    in let part : part_at (set_in c.args.d.now) c.in_ok-place.place ≡ joined_of a =
    ap (part_at (set_in c.args.d.now)) is.place_is ∙ joined_is c.args.d.now c.args.wanted c.requires.set c.requires.named c.requires.agree.each c.held_at.ensures.sound
    in let served : IsServed a.vids (part_at (set_in c.args.d.now) c.in_ok-place.place) =
    joined_served a (part_at (set_in c.args.d.now) c.in_ok-place.place) c.requires.named.some (as_many (set_in c.args.d.now) c.args.wanted.vids.now c.args.wanted.parents.now c.requires.agree.each) part
    in err_on (λ why. Refuses why a told area) c.from_residual-in_err-held.result c.in_err-held.field-0.0 c.from_residual-in_err-held.ensures
    (not_held a c.in_ok-made.ensures.room told area (part_at (set_in c.args.d.now) c.in_ok-place.place) c.in_err-held.field-0.0 part (λ tells. c.in_err-held.ensures.answer area a.vids (if_told told area a.set a.vids c.args.wanted.held.now have tells) served) c.in_err-held.ensures.cause)

pub returns-in_err-held-clause-world : goal.returns-in_err-held-clause-world
returns-in_err-held-clause-world c =
    λ area w ds have asked.
    let a : Asked = asked_in c.args.d.now c.args.wanted
    in let is : IsMade a c.in_ok-made.made c.in_ok-place.place =
    made_is a c.in_ok-made.made c.as_slice.result.now c.in_ok-place.place c.as_slice.ensures c.in_ok-made.ensures.rids c.in_ok-made.ensures.weights c.in_ok-made.ensures.fresh c.in_ok-place.ensures
    in let part : part_at (set_in c.args.d.now) c.in_ok-place.place ≡ joined_of a =
    ap (part_at (set_in c.args.d.now)) is.place_is ∙ joined_is c.args.d.now c.args.wanted c.requires.set c.requires.named c.requires.agree.each c.held_at.ensures.sound
    in let served : IsServed a.vids (part_at (set_in c.args.d.now) c.in_ok-place.place) =
    joined_served a (part_at (set_in c.args.d.now) c.in_ok-place.place) c.requires.named.some (as_many (set_in c.args.d.now) c.args.wanted.vids.now c.args.wanted.parents.now c.requires.agree.each) part
    in let there : IsPlaceThere a.set c.in_ok-place.place =
    subst (IsPlaceThere a.set) (sym is.place_is) (place_there c.args.d.now c.args.wanted c.requires.set c.requires.named c.requires.agree.each)
    in let e = c.in_err-held.field-0.0
    in err_match (λ m. IsAnswered a w ds m.brought.event m.fresh m.brought.list.items m.brought.segment.items) (λ x. IsSpared x a w ds) c.from_residual-in_err-held.result e c.from_residual-in_err-held.ensures
    (spared a w ds area asked c.in_ok-place.place e there (c.in_err-held.ensures.answer area a.vids have served))

pub next_version-requires-clause-given : goal.next_version-requires-clause-given
next_version-requires-clause-given c =
    let a : Asked = asked_in c.args.d.now c.args.wanted
    in let is : IsMade a c.in_ok-made.made c.in_ok-place.place =
    made_is a c.in_ok-made.made c.as_slice.result.now c.in_ok-place.place c.as_slice.ensures c.in_ok-made.ensures.rids c.in_ok-made.ensures.weights c.in_ok-made.ensures.fresh c.in_ok-place.ensures
    in let may : MayBe a =
    may_be c.args.d.now c.args.wanted c.requires.named c.requires.few c.requires.message c.requires.rows c.requires.agree
    c.in_ok-made.ensures.room
    in subst (λ rids. AreGiven rids a.rows) (sym is.rids) (rids_given a may)

pub next_version-requires-clause-parents : goal.next_version-requires-clause-parents
next_version-requires-clause-parents c =
    few_named (length c.args.d.now.versions.items) c.args.wanted.vids.now c.requires.few c.requires.named

pub returns-in_err-brought-clause-refuses : goal.returns-in_err-brought-clause-refuses
returns-in_err-brought-clause-refuses c =
    λ told area have.
    let a : Asked = asked_in c.args.d.now c.args.wanted
    in let is : IsMade a c.in_ok-made.made c.in_ok-place.place =
    made_is a c.in_ok-made.made c.as_slice.result.now c.in_ok-place.place c.as_slice.ensures c.in_ok-made.ensures.rids c.in_ok-made.ensures.weights c.in_ok-made.ensures.fresh c.in_ok-place.ensures
    in let part : part_at (set_in c.args.d.now) c.in_ok-place.place ≡ joined_of a =
    ap (part_at (set_in c.args.d.now)) is.place_is ∙ joined_is c.args.d.now c.args.wanted c.requires.set c.requires.named c.requires.agree.each c.held_at.ensures.sound
    in let served : IsServed a.vids (part_at (set_in c.args.d.now) c.in_ok-place.place) =
    joined_served a (part_at (set_in c.args.d.now) c.in_ok-place.place) c.requires.named.some (as_many (set_in c.args.d.now) c.args.wanted.vids.now c.args.wanted.parents.now c.requires.agree.each) part
    in let held = c.in_ok-held.held
    in let own : c.in_ok-place.place ≡ Own → held ≡ [] = c.in_ok-held.ensures.own
    in let read : told ≡ true → IsReadOf a.set area (joined_of a) held = λ tells. subst (λ o. IsReadOf a.set area o held) part (c.in_ok-held.ensures.answer area a.vids (if_told told area a.set a.vids c.args.wanted.held.now have tells) served)
    in err_on (λ why. Refuses why a told area) c.from_residual-in_err-brought.result (of_write c.in_err-brought.field-0.0) c.from_residual-in_err-brought.ensures
    (not_written a c.in_ok-made.made c.in_ok-place.place is held own c.in_ok-made.ensures.room told area c.in_err-brought.field-0.0 c.in_ok-held.ensures.agrees read c.in_err-brought.ensures.cause)

pub returns-clause-applies : goal.returns-clause-applies
returns-clause-applies c =
    λ format may_add n.
    let a : Asked = asked_in c.args.d.now c.args.wanted
    in let is : IsMade a c.in_ok-made.made c.in_ok-place.place =
    made_is a c.in_ok-made.made c.as_slice.result.now c.in_ok-place.place c.as_slice.ensures c.in_ok-made.ensures.rids c.in_ok-made.ensures.weights c.in_ok-made.ensures.fresh c.in_ok-place.ensures
    in let held = c.in_ok-held.held
    in let own : c.in_ok-place.place ≡ Own → held ≡ [] = c.in_ok-held.ensures.own
    in let may : MayBe a =
    may_be c.args.d.now c.args.wanted c.requires.named c.requires.few c.requires.message c.requires.rows c.requires.agree
    c.in_ok-made.ensures.room
    in let count : c.len.result ≡ length c.args.d.now.versions.items = search rules
    in let b = c.in_ok-brought.brought
    in let e_is : b.event ≡ event_for a held b.list.items b.segment.items =
    event_told a c.in_ok-made.made c.in_ok-place.place is held own b.event (c.len.result + 1) b.list.items b.segment.items
    (vid_is c.args.d.now (c.len.result + 1) (ap (λ n. n + 1) count))
    (c.in_ok-brought.ensures.event_is)
    in applies a c.in_ok-made.made c.in_ok-place.place is held own may b.event b.list.items b.segment.items c.in_ok-held.ensures.agrees e_is c.in_ok-brought.ensures.sound format may_add n

pub returns-clause-is : goal.returns-clause-is
returns-clause-is c =
    λ told area have.
    let a : Asked = asked_in c.args.d.now c.args.wanted
    in let is : IsMade a c.in_ok-made.made c.in_ok-place.place =
    made_is a c.in_ok-made.made c.as_slice.result.now c.in_ok-place.place c.as_slice.ensures c.in_ok-made.ensures.rids c.in_ok-made.ensures.weights c.in_ok-made.ensures.fresh c.in_ok-place.ensures
    in let part : part_at (set_in c.args.d.now) c.in_ok-place.place ≡ joined_of a =
    ap (part_at (set_in c.args.d.now)) is.place_is ∙ joined_is c.args.d.now c.args.wanted c.requires.set c.requires.named c.requires.agree.each c.held_at.ensures.sound
    in let served : IsServed a.vids (part_at (set_in c.args.d.now) c.in_ok-place.place) =
    joined_served a (part_at (set_in c.args.d.now) c.in_ok-place.place) c.requires.named.some (as_many (set_in c.args.d.now) c.args.wanted.vids.now c.args.wanted.parents.now c.requires.agree.each) part
    in let held = c.in_ok-held.held
    in let own : c.in_ok-place.place ≡ Own → held ≡ [] = c.in_ok-held.ensures.own
    in let read : told ≡ true → IsReadOf a.set area (joined_of a) held = λ tells. subst (λ o. IsReadOf a.set area o held) part (c.in_ok-held.ensures.answer area a.vids (if_told told area a.set a.vids c.args.wanted.held.now have tells) served)
    in let count : c.len.result ≡ length c.args.d.now.versions.items = search rules
    in let b = c.in_ok-brought.brought
    in let e_is : b.event ≡ event_for a held b.list.items b.segment.items =
    event_told a c.in_ok-made.made c.in_ok-place.place is held own b.event (c.len.result + 1) b.list.items b.segment.items
    (vid_is c.args.d.now (c.len.result + 1) (ap (λ n. n + 1) count))
    (c.in_ok-brought.ensures.event_is)
    in commit_is a c.in_ok-made.made c.in_ok-place.place is held own c.in_ok-made.ensures.room told area b.event b.list.items b.segment.items c.in_ok-held.ensures.agrees read e_is
    c.in_ok-brought.ensures.list c.in_ok-brought.ensures.segment

pub returns-in_err-brought-clause-world : goal.returns-in_err-brought-clause-world
returns-in_err-brought-clause-world c =
    λ area w ds have asked.
    let a : Asked = asked_in c.args.d.now c.args.wanted
    in let is : IsMade a c.in_ok-made.made c.in_ok-place.place =
    made_is a c.in_ok-made.made c.as_slice.result.now c.in_ok-place.place c.as_slice.ensures c.in_ok-made.ensures.rids c.in_ok-made.ensures.weights c.in_ok-made.ensures.fresh c.in_ok-place.ensures
    in let part : part_at (set_in c.args.d.now) c.in_ok-place.place ≡ joined_of a =
    ap (part_at (set_in c.args.d.now)) is.place_is ∙ joined_is c.args.d.now c.args.wanted c.requires.set c.requires.named c.requires.agree.each c.held_at.ensures.sound
    in let served : IsServed a.vids (part_at (set_in c.args.d.now) c.in_ok-place.place) =
    joined_served a (part_at (set_in c.args.d.now) c.in_ok-place.place) c.requires.named.some (as_many (set_in c.args.d.now) c.args.wanted.vids.now c.args.wanted.parents.now c.requires.agree.each) part
    in let there : IsPlaceThere a.set c.in_ok-place.place =
    subst (IsPlaceThere a.set) (sym is.place_is) (place_there c.args.d.now c.args.wanted c.requires.set c.requires.named c.requires.agree.each)
    in let may : MayBe a =
    may_be c.args.d.now c.args.wanted c.requires.named c.requires.few c.requires.message c.requires.rows c.requires.agree
    c.in_ok-made.ensures.room
    in let held = c.in_ok-held.held
    in let count : c.len.result ≡ length c.args.d.now.versions.items = search rules
    in let read : IsReadOf a.set area (part_at a.set c.in_ok-place.place) held = c.in_ok-held.ensures.answer area a.vids have served
    in let made = c.in_ok-made.made
    in let counts = numbers w area a.set ds asked.of_world
    in let are : AreRecords (wide a.added ds).cvd.versions (version_in a) made.rids made.weights made.fresh =
    c.in_ok-made.ensures.records (wide a.added ds).cvd.versions (version_in a) refl asked.parents (counts.records ∙ sym (wide_records a.added ds))
    in let next = is_next a w ds area asked made c.in_ok-place.place is are (c.len.result + 1) held (vid_is c.args.d.now (c.len.result + 1) (ap (λ n. n + 1) count)) there read
    in let given : AreGiven made.rids a.rows = subst (λ rids. AreGiven rids a.rows) (sym is.rids) (rids_given a may)
    in let e = c.in_err-brought.field-0.0
    in err_match (λ m. IsAnswered a w ds m.brought.event m.fresh m.brought.list.items m.brought.segment.items) (λ x. IsSpared x a w ds) c.from_residual-in_err-brought.result (of_write e) c.from_residual-in_err-brought.ensures
    (too_much a w ds area asked made c.in_ok-place.place is are may given (c.len.result + 1) held next e c.in_err-brought.ensures.cause)

pub returns-clause-world : goal.returns-clause-world
returns-clause-world c =
    λ area w ds have asked.
    let a : Asked = asked_in c.args.d.now c.args.wanted
    in let is : IsMade a c.in_ok-made.made c.in_ok-place.place =
    made_is a c.in_ok-made.made c.as_slice.result.now c.in_ok-place.place c.as_slice.ensures c.in_ok-made.ensures.rids c.in_ok-made.ensures.weights c.in_ok-made.ensures.fresh c.in_ok-place.ensures
    in let part : part_at (set_in c.args.d.now) c.in_ok-place.place ≡ joined_of a =
    ap (part_at (set_in c.args.d.now)) is.place_is ∙ joined_is c.args.d.now c.args.wanted c.requires.set c.requires.named c.requires.agree.each c.held_at.ensures.sound
    in let served : IsServed a.vids (part_at (set_in c.args.d.now) c.in_ok-place.place) =
    joined_served a (part_at (set_in c.args.d.now) c.in_ok-place.place) c.requires.named.some (as_many (set_in c.args.d.now) c.args.wanted.vids.now c.args.wanted.parents.now c.requires.agree.each) part
    in let there : IsPlaceThere a.set c.in_ok-place.place =
    subst (IsPlaceThere a.set) (sym is.place_is) (place_there c.args.d.now c.args.wanted c.requires.set c.requires.named c.requires.agree.each)
    in let may : MayBe a =
    may_be c.args.d.now c.args.wanted c.requires.named c.requires.few c.requires.message c.requires.rows c.requires.agree
    c.in_ok-made.ensures.room
    in let held = c.in_ok-held.held
    in let count : c.len.result ≡ length c.args.d.now.versions.items = search rules
    in let read : IsReadOf a.set area (part_at a.set c.in_ok-place.place) held = c.in_ok-held.ensures.answer area a.vids have served
    in let made = c.in_ok-made.made
    in let counts = numbers w area a.set ds asked.of_world
    in let are : AreRecords (wide a.added ds).cvd.versions (version_in a) made.rids made.weights made.fresh =
    c.in_ok-made.ensures.records (wide a.added ds).cvd.versions (version_in a) refl asked.parents (counts.records ∙ sym (wide_records a.added ds))
    in let next = is_next a w ds area asked made c.in_ok-place.place is are (c.len.result + 1) held (vid_is c.args.d.now (c.len.result + 1) (ap (λ n. n + 1) count)) there read
    in record {
      says = c.in_ok-brought.ensures.says w ds asked.of_world.reached asked.of_world.among next;
      fresh_is = are.fresh_is;
      room = subst (λ n. n ≤ 2 ^ 31) (sym (all_records a w ds area asked)) may.room;
    }
