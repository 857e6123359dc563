-- What one call more makes of a history.
use Rattle.std.proofs.Common.{◌≡◌, refl, sym, ◌∙◌, ap, take, ℕ, List, [], ◌∷◌, ◌++◌}
use Rattle.ov_host.specs.declared.area.Area.{Area}
use Rattle.ov_host.specs.declared.area.Area.TheVariants.{Pages, Journal}
use Rattle.ov_host.specs.Tape.{Call, Writes, Syncs, Prints, Tape, fresh, onto, done, overwritten}
use Rattle.ov_memhost.specs.declared.history.History.{History}
use Rattle.ov_memhost.specs.declared.host.MemHost.{MemHost}
use Rattle.ov_memhost.specs.Host.{Does, kept_by}
use Rattle.ov_memhost.specs.Kept.{Kept, Contents, replayed, at_start, at_rest, tape_by, Agrees}
use Rattle.ov_memhost.specs.Done.{contents, kept_in, bytes_in, with_bytes}

replayed-push : (ks : List Kept) (k : Kept) (t : Tape) → replayed (ks ++ k ∷ []) t ≡ onto k.call (done k.call (replayed ks t).disk) (replayed ks t)
replayed-push [] k t = refl
replayed-push (j ∷ ks) k t = replayed-push ks k (onto j.call (done j.call t.disk) t)

at_start-push : (ks : List Kept) (k : Kept) (first now : Contents) → at_start (ks ++ k ∷ []) first now ≡ first
at_start-push [] k first now = refl
at_start-push (j ∷ ks) k first now = refl

-- a call was kept, over room that was made for it
module _ (old mid new : History) (now : Contents) (number : ℕ) (call : Call)
    (same : mid.past.items ≡ old.past.items)
    (kept : kept_in new.past.items ≡ kept_in mid.past.items ++ record { number = number; call = call } ∷ [])
    (first : contents mid.first ≡ at_start (kept_in old.past.items) (contents old.first) now)
    (stays : new.first ≡ mid.first) where
  pub kept_more : kept_in new.past.items ≡ kept_in old.past.items ++ record { number = number; call = call } ∷ []
  kept_more = kept ∙ ap (λ ps. kept_in ps ++ record { number = number; call = call } ∷ []) same

  start_same : (later : Contents) → at_start (kept_in new.past.items) (contents new.first) later ≡ at_start (kept_in old.past.items) (contents old.first) now
  start_same later =
      ap (λ ks. at_start ks (contents new.first) later) kept_more
      ∙ at_start-push (kept_in old.past.items) (record { number = number; call = call }) (contents new.first) later
      ∙ ap (λ h. contents h) stays
      ∙ first

  pub tape_more : (later : Contents) (printed printed' : List ℕ) → printed' ≡ printed → tape_by (kept_in new.past.items) (contents new.first) later printed' ≡ onto call (done call (tape_by (kept_in old.past.items) (contents old.first) now printed).disk) (tape_by (kept_in old.past.items) (contents old.first) now printed)
  tape_more later printed printed' is =
      ap (λ c. replayed (kept_in new.past.items) (fresh (at_rest c printed'))) (start_same later)
      ∙ ap (λ text. replayed (kept_in new.past.items) (fresh (at_rest (at_start (kept_in old.past.items) (contents old.first) now) text))) is
      ∙ ap (λ ks. replayed ks (fresh (at_rest (at_start (kept_in old.past.items) (contents old.first) now) printed))) kept_more
      ∙ replayed-push (kept_in old.past.items) (record { number = number; call = call }) (fresh (at_rest (at_start (kept_in old.past.items) (contents old.first) now) printed))

-- a host did a call
pub does_more : (m n : MemHost) (mid : History) (number : ℕ) (call : Call) → mid.past.items ≡ m.history.past.items → kept_by n ≡ kept_in mid.past.items ++ record { number = number; call = call } ∷ [] → contents mid.first ≡ at_start (kept_by m) (contents m.history.first) (contents m.areas) → n.history.first ≡ mid.first → take n.before n.printed.items ≡ take m.before m.printed.items → Does call number m n
does_more m n mid number call same kept first stays text =
    record {
      tape =
          tape_more m.history mid n.history (contents m.areas) number call same kept first stays (contents n.areas)
          (take m.before m.printed.items) (take n.before n.printed.items) text;
      kept = kept_more m.history mid n.history (contents m.areas) number call same kept first stays;
      start =
          ap (λ c. at_rest c (take n.before n.printed.items))
          (start_same m.history mid n.history (contents m.areas) number call same kept first stays (contents n.areas))
          ∙ ap (λ printed. at_rest (at_start (kept_by m) (contents m.history.first) (contents m.areas)) printed) text;
    }

-- what is there after a call is what the tape says
pub agrees_wrote : (t u : Tape) (area : Area) (at : ℕ) (bytes : List ℕ) (now later : Contents) (printed : List ℕ) → u ≡ onto (Writes area at bytes) (done (Writes area at bytes) t.disk) t → later ≡ with_bytes area (overwritten (bytes_in area now) at bytes) now → Agrees t now printed → Agrees u later printed
agrees_wrote t u Pages at bytes now later printed is becomes a =
    record {
      pages = ap (λ x. x.disk.pages.bytes) is ∙ ap (λ old. overwritten old at bytes) a.pages ∙ sym (ap (λ c. c.pages) becomes);
      journal = ap (λ x. x.disk.journal.bytes) is ∙ a.journal ∙ sym (ap (λ c. c.journal) becomes);
      printed_is = ap (λ x. x.disk.printed) is ∙ a.printed_is;
    }
agrees_wrote t u Journal at bytes now later printed is becomes a =
    record {
      pages = ap (λ x. x.disk.pages.bytes) is ∙ a.pages ∙ sym (ap (λ c. c.pages) becomes);
      journal = ap (λ x. x.disk.journal.bytes) is ∙ ap (λ old. overwritten old at bytes) a.journal ∙ sym (ap (λ c. c.journal) becomes);
      printed_is = ap (λ x. x.disk.printed) is ∙ a.printed_is;
    }

pub agrees_synced : (t u : Tape) (area : Area) (now : Contents) (printed : List ℕ) → u ≡ onto (Syncs area) (done (Syncs area) t.disk) t → Agrees t now printed → Agrees u now printed
agrees_synced t u Pages now printed is a =
    record {
      pages = ap (λ x. x.disk.pages.bytes) is ∙ a.pages;
      journal = ap (λ x. x.disk.journal.bytes) is ∙ a.journal;
      printed_is = ap (λ x. x.disk.printed) is ∙ a.printed_is;
    }
agrees_synced t u Journal now printed is a =
    record {
      pages = ap (λ x. x.disk.pages.bytes) is ∙ a.pages;
      journal = ap (λ x. x.disk.journal.bytes) is ∙ a.journal;
      printed_is = ap (λ x. x.disk.printed) is ∙ a.printed_is;
    }

pub agrees_printed : (t u : Tape) (bytes : List ℕ) (now : Contents) (printed later : List ℕ) → u ≡ onto (Prints bytes) (done (Prints bytes) t.disk) t → later ≡ printed ++ bytes → Agrees t now printed → Agrees u now later
agrees_printed t u bytes now printed later is becomes a =
    record {
      pages = ap (λ x. x.disk.pages.bytes) is ∙ a.pages;
      journal = ap (λ x. x.disk.journal.bytes) is ∙ a.journal;
      printed_is = ap (λ x. x.disk.printed) is ∙ ap (λ text. text ++ bytes) a.printed_is ∙ sym becomes;
    }
