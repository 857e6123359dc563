use Rattle.std.proofs.Common.{◌≡◌, ℕ, List, length, sym, ◌∙◌, ap, subst, rules}
use Rattle.std.specs.List.{AllZip}
use Rattle.ov_catalog.specs.Sets.{set_in}
use Rattle.ov_fetch.specs.Extents.{IsList, page_bytes}
use Rattle.ov_fetch.proofs.Looks.{same_pages}
use Rattle.ov_read.specs.Agreement.{Agrees, list_of}
use Rattle.ov_read.specs.Gathered.{AreGathered}
use Rattle.ov_read.specs.Partitions.{AreHeld}
use Rattle.ov_read.proofs.Keeping.{held_before}
use Rattle.ov_read.proofs.Gatherings.{zip_length}
use Rattle.ov_read.proofs.Ending.{are_listed, have_rows, are_sound, are_scanned}
use Rattle.ov_read.proofs.scans.read_versions.Goals as goal

pub gather-requires-clause-paired : goal.gather-requires-clause-paired
gather-requires-clause-paired g c =
    ap length c.deref-3.ensures.value
    ∙ (zip_length (Agrees (set_in c.args.d.now)) c.deref.result.now c.in_ok-lists.lists.items c.in_ok-lists.ensures.agree
    ∙ ap length (c.deref.ensures.value ∙ sym c.deref-2.ensures.value))

pub gather-requires-clause-lists : goal.gather-requires-clause-lists
gather-requires-clause-lists g c told =
    let s0 = g.H.Host.state c.args.host.now in
    let s1 = g.H.Host.state c.lists_of.new.host in
    let told0 = sym c.in_ok-lists.ensures.looked.told ∙ told in
    let all = c.in_ok-lists.ensures.answer told0 in
    subst (λ (a : List ℕ). AllZip (λ vid. IsList a (list_of (set_in c.args.d.now) vid)) c.deref-2.result.now c.deref-3.result.now) (sym (same_pages s0 s1 c.in_ok-lists.ensures.looked told0))
    (subst (λ (vs : List ℕ). AllZip (λ vid. IsList (page_bytes s0) (list_of (set_in c.args.d.now) vid)) vs c.deref-3.result.now) (c.deref.ensures.value ∙ sym c.deref-2.ensures.value)
    (subst (AllZip (λ vid. IsList (page_bytes s0) (list_of (set_in c.args.d.now) vid)) c.deref.result.now) (sym c.deref-3.ensures.value) all))

pub returns-clause-sound : goal.returns-clause-sound
returns-clause-sound g c =
    let s1 = g.H.Host.state c.lists_of.new.host in
    let n = set_in c.args.d.now in
    let found = c.in_ok-found.field-0.found in
    let vids : List ℕ = c.args.vids.items in
    let lists : List (List ℕ) = c.deref-3.result.now in
    let h = subst (λ (vs : List ℕ). AreGathered s1 n vs lists found) c.deref-2.ensures.value c.in_ok-found.ensures.gathered in
    are_sound s1 n vids lists found _ c.new.ensures c.new-2.ensures (c.new-3.ensures ∙ search rules) h c.requires.placed

pub returns-clause-rows : goal.returns-clause-rows
returns-clause-rows g c =
    let s1 = g.H.Host.state c.lists_of.new.host in
    let n = set_in c.args.d.now in
    let found = c.in_ok-found.field-0.found in
    let vids : List ℕ = c.args.vids.items in
    let lists : List (List ℕ) = c.in_ok-lists.lists.items in
    let h0 = subst (λ (vs : List ℕ). AreGathered s1 n vs c.deref-3.result.now found) c.deref-2.ensures.value c.in_ok-found.ensures.gathered in
    let h = subst (λ (ls : List (List ℕ)). AreGathered s1 n vids ls found) c.deref-3.ensures.value h0 in
    let agree = subst (λ (vs : List ℕ). AllZip (Agrees n) vs lists) c.deref.ensures.value c.in_ok-lists.ensures.agree in
    let picks : c.new-3.result ≡ c.in_ok-found.field-0.found.picks.items = c.new-3.ensures ∙ search rules in
    rw picks (have_rows s1 n vids lists found h c.requires.placed agree)

pub returns-clause-distinct : goal.returns-clause-distinct
returns-clause-distinct g c =
    let s1 = g.H.Host.state c.lists_of.new.host in
    let n = set_in c.args.d.now in
    let found = c.in_ok-found.field-0.found in
    let vids : List ℕ = c.args.vids.items in
    let lists : List (List ℕ) = c.in_ok-lists.lists.items in
    let h0 = subst (λ (vs : List ℕ). AreGathered s1 n vs c.deref-3.result.now found) c.deref-2.ensures.value c.in_ok-found.ensures.gathered in
    let h = subst (λ (ls : List (List ℕ)). AreGathered s1 n vids ls found) c.deref-3.ensures.value h0 in
    let agree = subst (λ (vs : List ℕ). AllZip (Agrees n) vs lists) c.deref.ensures.value c.in_ok-lists.ensures.agree in
    let records : c.new-2.result ≡ c.in_ok-found.field-0.found.records.records = c.new-2.ensures in
    let picks : c.new-3.result ≡ c.in_ok-found.field-0.found.picks.items = c.new-3.ensures ∙ search rules in
    rw (records, picks) (are_listed s1 n vids lists found h c.requires.placed agree)

pub returns-clause-answer : goal.returns-clause-answer
returns-clause-answer g c told =
    let s0 = g.H.Host.state c.args.host.now in
    let s1 = g.H.Host.state c.lists_of.new.host in
    let n = set_in c.args.d.now in
    let found = c.in_ok-found.field-0.found in
    let vids : List ℕ = c.args.vids.items in
    let lists : List (List ℕ) = c.in_ok-lists.lists.items in
    let h0 = subst (λ (vs : List ℕ). AreGathered s1 n vs c.deref-3.result.now found) c.deref-2.ensures.value c.in_ok-found.ensures.gathered in
    let h = subst (λ (ls : List (List ℕ)). AreGathered s1 n vids ls found) c.deref-3.ensures.value h0 in
    let all = subst (λ (vs : List ℕ). AllZip (λ vid. IsList (page_bytes s0) (list_of n vid)) vs lists) c.deref.ensures.value (c.in_ok-lists.ensures.answer told) in
    let agree = subst (λ (vs : List ℕ). AllZip (Agrees n) vs lists) c.deref.ensures.value c.in_ok-lists.ensures.agree in
    let records : c.new-2.result ≡ c.in_ok-found.field-0.found.records.records = c.new-2.ensures in
    let picks : c.new-3.result ≡ c.in_ok-found.field-0.found.picks.items = c.new-3.ensures ∙ search rules in
    rw (records, picks) (are_scanned s0 s1 n vids lists found c.in_ok-lists.ensures.looked told h c.requires.placed all agree)

pub returns-clause-held : goal.returns-clause-held
returns-clause-held g c =
    let s0 = g.H.Host.state c.args.host.now in
    let s1 = g.H.Host.state c.lists_of.new.host in
    let d = c.args.d.now in
    held_before s0 s1 d c.args.vids.items c.in_ok-found.field-0.held.items c.in_ok-lists.ensures.looked
    (subst (λ (vs : List ℕ). AreHeld s1.tells (page_bytes s1) (set_in d) vs c.in_ok-found.field-0.held.items) c.deref-2.ensures.value c.in_ok-found.ensures.held)
