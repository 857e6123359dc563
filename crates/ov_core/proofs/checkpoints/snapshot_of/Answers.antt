use Rattle.std.proofs.Common.{◌≡◌, ◌<◌, ◌^◌, inl, inr, true, false, map, sym, ◌∙◌, ap, subst}
use Rattle.std.specs.Prelude.{All, IfNone, IfSome}
use Rattle.std.specs.List.{AllByRecursion}
use Rattle.std.proofs.lemmas.Bool.{cases_lt}
use Rattle.ov_event.specs.Spelling.{IsEvent, spelling}
use Rattle.ov_journal.specs.Snapshots.{size_of}
use Rattle.law_snapshots.specs.Said.{snapshot_in}
use Rattle.law_snapshots.proofs.Saying.{one_snapshot}
use Rattle.ov_core.specs.Snapshots.{IsOfSnapshot}
use Rattle.ov_core.proofs.Spelled.{of_snapshot}
use Rattle.ov_core.proofs.Taking.{too_long}
use Rattle.ov_core.proofs.checkpoints.snapshot_of.Goals as goal

contrary : false ≡ true → ⊥
contrary e = cc

pub payloads_of-requires : goal.payloads_of-requires
payloads_of-requires c =
    let n = c.args.catalog.now.numbers in
    let said : c.deref.result.now ≡ snapshot_in n = c.deref.ensures.value ∙ one_snapshot c.in_ok-events.field-0.items n c.in_ok-events.ensures in
    subst (All IsOfSnapshot) (sym said) (of_snapshot n c.requires)

pub returns-in_default-clause-why : goal.returns-in_default-clause-why
returns-in_default-clause-why c =
    let n = c.args.catalog.now.numbers in
    let said : c.deref.result.now ≡ snapshot_in n = c.deref.ensures.value ∙ one_snapshot c.in_ok-events.field-0.items n c.in_ok-events.ensures in
    let long : 2 ^ 28 < size_of (map spelling c.deref.result.now) =
    subst (λ o. IfNone o (2 ^ 28 < size_of (map spelling c.deref.result.now))) c.in_default.is c.in_ok-payloads.ensures.long in
    too_long c.args.journal.now (map spelling (snapshot_in n)) c.lies_within.ensures.1 c.lies_within.ensures.2 (subst (λ es. 2 ^ 28 < size_of (map spelling es)) said long)

pub returns-then-not-can_snapshot-clause-why : goal.returns-then-not-can_snapshot-clause-why
returns-then-not-can_snapshot-clause-why c =
    let n = c.args.catalog.now.numbers in
    let said : c.deref.result.now ≡ snapshot_in n = c.deref.ensures.value ∙ one_snapshot c.in_ok-events.field-0.items n c.in_ok-events.ensures in
    let all : c.in-Some.payloads.items ≡ map spelling c.deref.result.now =
    subst (λ o. IfSome o (λ payloads. payloads.items ≡ map spelling c.deref.result.now)) c.in-Some.is c.in_ok-payloads.ensures.payloads in
    let whole : c.deref-2.result.now ≡ map spelling (snapshot_in n) = c.deref-2.ensures.value ∙ all ∙ ap (map spelling) said in
    let long : 2 ^ 28 < size_of c.deref-2.result.now =
    elim (cases_lt (2 ^ 28) (size_of c.deref-2.result.now)) [
      | inl more ↦ more
      | inr fits ↦ absurd (contrary (c.if-not-can_snapshot.ensures.1 fits))
    ] in
    too_long c.args.journal.now (map spelling (snapshot_in n)) c.lies_within.ensures.1 c.lies_within.ensures.2 (subst (λ ps. 2 ^ 28 < size_of ps) whole long)

pub returns-clause-payloads : goal.returns-clause-payloads
returns-clause-payloads c =
    let n = c.args.catalog.now.numbers in
    let said : c.deref.result.now ≡ snapshot_in n = c.deref.ensures.value ∙ one_snapshot c.in_ok-events.field-0.items n c.in_ok-events.ensures in
    let all : c.in-Some.payloads.items ≡ map spelling c.deref.result.now =
    subst (λ o. IfSome o (λ payloads. payloads.items ≡ map spelling c.deref.result.now)) c.in-Some.is c.in_ok-payloads.ensures.payloads in
    c.in_ok-snapshot.ensures ∙ c.deref-3.ensures.value ∙ all ∙ ap (map spelling) said

pub returns-clause-events : goal.returns-clause-events
returns-clause-events c =
    let n = c.args.catalog.now.numbers in
    let said : c.deref.result.now ≡ snapshot_in n = c.deref.ensures.value ∙ one_snapshot c.in_ok-events.field-0.items n c.in_ok-events.ensures in
    let are : AllByRecursion IsEvent c.deref.result.now =
    subst (λ o. IfSome o (λ payloads. AllByRecursion IsEvent c.deref.result.now)) c.in-Some.is c.in_ok-payloads.ensures.events in
    subst (AllByRecursion IsEvent) said are
