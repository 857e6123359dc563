-- One event more, behind those of a journal.
use Rattle.std.proofs.Common.{◌≡◌, ℕ, List, [], ◌∷◌, ◌++◌, None, sym, ◌∙◌, ap, subst}
use Rattle.std.specs.List.{AllByRecursion}
use Rattle.std.proofs.lemmas.List.{map-append}
use Rattle.ov_host.specs.declared.area.Extent.{Extent}
use Rattle.ov_host.specs.Host.{State}
use Rattle.ov_event.specs.declared.event.Event.{Event}
use Rattle.ov_event.specs.Spelling.{IsEvent, spelling}
use Rattle.ov_journal.specs.Held.{IsAt}
use Rattle.ov_catalog.specs.Applying.{first_off}
use Rattle.ov_catalog.specs.Events.{applied}
use Rattle.ov_catalog.specs.Numbers.{Numbers}
use Rattle.ov_catalog.specs.Raw.{event_in}
use Rattle.ov_core.specs.Held.{Held, IsByJournal, IsReplay}
use Rattle.ov_catalog.proofs.Serving.{all_follow, numbers_more}

all_more : (es : List Event) (e : Event) → AllByRecursion IsEvent es → IsEvent e → AllByRecursion IsEvent (es ++ e ∷ [])
all_more [] e are is = (is, tt)
all_more (x ∷ es) e are is = (are.0, all_more es e are.1 is)

pub replay_more : (format : ℕ) (payloads : List (List ℕ)) (e : Event) (old new : Numbers Extent Extent) → IsReplay format payloads old → IsEvent e
    → first_off format e old ≡ None → new ≡ applied (event_in e) old → IsReplay format (payloads ++ spelling e ∷ []) new
replay_more format payloads e old new before is applies now = record {
  events = before.events ++ e ∷ [];
  are = all_more before.events e before.are is;
  written = ap (λ (l : List (List ℕ)). l ++ spelling e ∷ []) before.written ∙ sym (map-append spelling before.events (e ∷ []));
  follow = all_follow format before.events e before.follow (subst (λ (n : Numbers Extent Extent). first_off format e n ≡ None) before.end applies);
  end = now ∙ ap (applied (event_in e)) before.end ∙ sym (numbers_more before.events e);
}

-- after a change whose record was appended
pub by_journal_more : (held later : Held) (e : Event) (p : List ℕ) (s0 s1 : State) → IsEvent e → first_off held.journal.format e held.numbers ≡ None → p ≡ spelling e
    → later.journal.format ≡ held.journal.format → later.numbers ≡ applied (event_in e) held.numbers → ((payloads : List (List ℕ)) → IsAt payloads held.journal s0 → IsAt (payloads ++ p ∷ []) later.journal s1)
    → IsByJournal held s0 → IsByJournal later s1
by_journal_more held later e p s0 s1 is applies spells format_same numbers added by = record {
  payloads = by.payloads ++ spelling e ∷ [];
  at = subst (λ (q : List ℕ). IsAt (by.payloads ++ q ∷ []) later.journal s1) spells (added by.payloads by.at);
  replays = subst (λ (format : ℕ). IsReplay format (by.payloads ++ spelling e ∷ []) later.numbers) (sym format_same)
      (replay_more held.journal.format by.payloads e held.numbers later.numbers by.replays is applies numbers);
}
