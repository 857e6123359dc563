-- A stop is found at some place among what was to be done and said: where nothing happened yet, in a part of it, after a move,
-- and in a print.
use Rattle.std.proofs.Common.{◌≡◌, inr, ℕ, Bool, true, false, List, [], ◌∷◌, ◌++◌, take, drop, refl, sym, ◌∙◌, ap, subst, append-nil, append_assoc}
use Rattle.std.proofs.lemmas.List.{take-append-drop}
use Rattle.ov_host.specs.Disk.{Image, Leaves, MayLeave, MayPrint, Stored, settled}
use Rattle.ov_host.specs.Host.{Calls, State}
use Rattle.ov_host.specs.Stops.{Only}
use Rattle.ov_host.specs.Tape.{Prints, done}
use Rattle.ov_host.proofs.Stops.{call_only, done_disk, only_start}
use Rattle.ov_host.proofs.Writes.{settled_leaves}
use Rattle.ov_journal.specs.Bytes.{IsLive}
use Rattle.ov_journal.specs.Held.{kept_by}
use Rattle.ov_journal.specs.Journal.{IsJournal, Kept}
use Rattle.ov_model.specs.Course.{Item, Makes, Says, play, world_after}
use Rattle.ov_model.specs.Moves.{Move, moved}
use Rattle.ov_model.specs.Replies.{reply_text}
use Rattle.ov_model.specs.World.{World}
use Rattle.ov_model.specs.declared.reply.Reply.{Reply}
use Rattle.ov_model.proofs.Courses.{play_append, world_append}
use Rattle.ov_catalog.specs.Stands.{StandsFor}
use Rattle.law_image.specs.Images.{StandsAs}
use Rattle.law_image.specs.Pages.{readings_of}
use Rattle.ov_core.specs.AtWorld.{IsAtWorld}
use Rattle.ov_core.specs.Held.{Held}
use Rattle.law_runs.specs.Stops.{IsFound, IsPartOfNext, printed_of}

-- ---- places

part_none : (items : List Item) → IsPartOfNext [] items
part_none [] = refl
part_none (Makes m ∷ items) = refl
part_none (Says reply ∷ items) = (reply_text reply, refl)

-- where more comes behind, part of what comes next stays so
part_more : (part : List ℕ) (items more : List Item) → IsPartOfNext part items → IsPartOfNext part (items ++ more)
part_more part [] more none = subst (λ p. IsPartOfNext p more) (sym none) (part_none more)
part_more part (Makes m ∷ items) more none = none
part_more part (Says reply ∷ items) more is = is

-- nothing happened yet
pub found_start : (w : World) (printed : List ℕ) (items : List Item) (c : Image) → StandsAs w c → c.printed ≡ printed → IsFound w printed items c
found_start w printed items c stands same = record {
  before = [];
  after = items;
  split = refl;
  stands = stands;
  part = [];
  next = part_none items;
  printed_is = same ∙ sym (append-nil printed);
}

-- all of it was done and said
pub found_end : (w : World) (printed : List ℕ) (items : List Item) (c : Image) → StandsAs (world_after w items) c → c.printed ≡ printed ++ play items → IsFound w printed items c
found_end w printed items c stands same = record {
  before = items;
  after = [];
  split = sym (append-nil items);
  stands = stands;
  part = [];
  next = refl;
  printed_is = same ∙ ap (λ (text : List ℕ). printed ++ text) (sym (append-nil (play items)));
}

-- in a part of it
pub found_within : (w : World) (printed : List ℕ) (before mid after items : List Item) (c : Image) → items ≡ before ++ (mid ++ after)
    → IsFound (world_after w before) (printed ++ play before) mid c → IsFound w printed items c
found_within w printed before mid after items c split found = record {
  before = before ++ found.before;
  after = found.after ++ after;
  split = split
      ∙ ap (λ (m : List Item). before ++ (m ++ after)) found.split
      ∙ ap (λ (m : List Item). before ++ m) (append_assoc found.before found.after after)
      ∙ sym (append_assoc before found.before (found.after ++ after));
  stands = subst (λ v. StandsAs v c) (sym (world_append w before found.before)) found.stands;
  part = found.part;
  next = part_more found.part found.after after found.next;
  printed_is = found.printed_is
      ∙ append_assoc printed (play before) (play found.before ++ found.part)
      ∙ ap (λ (text : List ℕ). printed ++ text)
      (sym (append_assoc (play before) (play found.before) found.part) ∙ ap (λ (text : List ℕ). text ++ found.part) (sym (play_append before found.before)));
}

-- at the front of it
pub found_front : (w : World) (printed : List ℕ) (mid after : List Item) (c : Image) → IsFound w printed mid c → IsFound w printed (mid ++ after) c
found_front w printed mid after c found =
    found_within w printed [] mid after (mid ++ after) c refl (subst (λ (text : List ℕ). IsFound w text mid c) (sym (append-nil printed)) found)

-- at the end of it, from the World and the output that the first of it leaves
pub found_behind : (w v : World) (printed there : List ℕ) (before mid : List Item) (c : Image) → v ≡ world_after w before → there ≡ printed ++ play before
    → IsFound v there mid c → IsFound w printed (before ++ mid) c
found_behind w v printed there before mid c world text found =
    found_within w printed before mid [] (before ++ mid) c (ap (λ (items : List Item). before ++ items) (sym (append-nil mid)))
    (subst (λ (out : List ℕ). IsFound (world_after w before) out mid c) text (subst (λ (u : World). IsFound u there mid c) world found))

-- after a move that comes first
pub found_moved : (w : World) (m : Move) (printed : List ℕ) (items : List Item) (c : Image) → StandsAs (moved m w) c → c.printed ≡ printed → IsFound w printed (Makes m ∷ items) c
found_moved w m printed items c stands same = record {
  before = Makes m ∷ [];
  after = items;
  split = refl;
  stands = stands;
  part = [];
  next = part_none items;
  printed_is = same ∙ sym (append-nil printed);
}

-- ---- a store at a World

module _ (w : World) (held : Held) (s : State) (at : IsAtWorld w held s) (c : Image) (pages : Leaves s.tape.disk.pages c.pages) (journal : Leaves s.tape.disk.journal c.journal) where
  pages_same : c.pages ≡ s.tape.disk.pages.bytes
  pages_same = settled_leaves s.tape.disk.pages.bytes c.pages (subst (λ a. Leaves a c.pages) at.rest.rest pages)

  journal_same : c.journal ≡ s.tape.disk.journal.bytes
  journal_same = settled_leaves s.tape.disk.journal.bytes c.journal (subst (λ a. Leaves a c.journal) at.at.rest journal)

  -- what a stop leaves of both areas stands for it
  pub stands_left : StandsAs w c
  stands_left = inr (record {
    kept = kept_by held.journal at.payloads;
    events = at.events;
    by = record {
      journal = subst (IsJournal (kept_by held.journal at.payloads)) (sym journal_same) at.stands.journal;
      spell = at.stands.spell;
      stands = subst (λ bytes. StandsFor held.journal.format at.events (readings_of bytes) w) (sym pages_same) at.stands.stands;
      epoch = at.stands.epoch;
      format = at.stands.format;
      records = at.stands.records;
    };
  })

-- it stays so where both areas stay
pub at_same_areas : (w : World) (held : Held) (old new : State) → new.tells ≡ old.tells → new.tape.disk.pages ≡ old.tape.disk.pages → new.tape.disk.journal ≡ old.tape.disk.journal
    → IsAtWorld w held old → IsAtWorld w held new
at_same_areas w held old new told pages journal at =
    let kept : Kept = kept_by held.journal at.payloads
    in record {
      payloads = at.payloads;
      events = at.events;
      at = record {
        told = told ∙ at.at.told;
        rest = subst (λ (a : Stored). a ≡ settled a.bytes) (sym journal) at.at.rest;
        spells = subst (λ (a : Stored). IsJournal kept a.bytes) (sym journal) at.at.spells;
        place = at.at.place;
        slots = subst (λ (a : Stored). IsLive held.journal.side held.journal.spare_open (take 38 a.bytes)) (sym journal) at.at.slots;
      };
      rest = record { told = told ∙ at.rest.told; rest = subst (λ (a : Stored). a ≡ settled a.bytes) (sym pages) at.rest.rest };
      stands = record {
        journal = subst (λ (a : Stored). IsJournal kept a.bytes) (sym journal) at.stands.journal;
        spell = at.stands.spell;
        stands = subst (λ (a : Stored). StandsFor held.journal.format at.events (readings_of a.bytes) w) (sym pages) at.stands.stands;
        epoch = at.stands.epoch;
        format = at.stands.format;
        records = at.stands.records;
      };
      numbers_are = at.numbers_are;
    }

-- the host was at most looked at
pub at_same_tape : (w : World) (held : Held) (old new : State) → new.tells ≡ old.tells → new.tape ≡ old.tape → IsAtWorld w held old → IsAtWorld w held new
at_same_tape w held old new told tape at = at_same_areas w held old new told (λ i. (tape i).disk.pages) (λ i. (tape i).disk.journal) at

-- a stop meanwhile, whatever was to come
pub looked_found : (w : World) (held : Held) (old new : State) (items : List Item) → IsAtWorld w held old → new.tape ≡ old.tape
    → Only old.tape new.tape (IsFound w (printed_of old) items)
looked_found w held old new items at tape =
    subst (λ t. Only old.tape t (IsFound w (printed_of old) items)) (sym tape)
    (only_start old.tape (IsFound w (printed_of old) items)
    (λ c left. found_start w (printed_of old) items c (stands_left w held old at c left.pages left.journal) left.printed))

-- ---- a print

-- what was printed of it is part of the reply
pub printing : (w : World) (held : Held) (reply : Reply) (old new : State) (ok : Bool) (bytes : List ℕ) → bytes ≡ reply_text reply → IsAtWorld w held old → Calls (Prints bytes) ok old new
    → Only old.tape new.tape (IsFound w (printed_of old) (Says reply ∷ []))
printing w held reply old new ok bytes text at call =
    call_only (Prints bytes) ok old.tape new.tape (IsFound w (printed_of old) (Says reply ∷ [])) (call.plays at.at.told) during (λ is. whole)
  where
    during : (c : Image) → MayPrint old.tape.disk bytes c → IsFound w (printed_of old) (Says reply ∷ []) c
    during c left = record {
      before = [];
      after = Says reply ∷ [];
      split = refl;
      stands = stands_left w held old at c left.pages left.journal;
      part = take left.count bytes;
      next = (drop left.count bytes, take-append-drop left.count bytes ∙ text);
      printed_is = left.printed;
    }

    whole : (c : Image) → MayLeave (done (Prints bytes) old.tape.disk) c → IsFound w (printed_of old) (Says reply ∷ []) c
    whole c left =
        found_end w (printed_of old) (Says reply ∷ []) c (stands_left w held old at c left.pages left.journal)
        (left.printed ∙ ap (λ (t : List ℕ). printed_of old ++ t) (text ∙ sym (append-nil (reply_text reply))))

printed_disk : (old new : State) (ok : Bool) (bytes : List ℕ) → ok ≡ true → old.tells ≡ true → Calls (Prints bytes) ok old new → new.tape.disk ≡ done (Prints bytes) old.tape.disk
printed_disk old new true bytes is told call = done_disk (Prints bytes) old.tape new.tape (call.plays told)
printed_disk old new false bytes is told call = absurd cc

-- the store is where it was, with the text behind what was printed
pub printed_at : (w : World) (held : Held) (old new : State) (ok : Bool) (bytes : List ℕ) → ok ≡ true → IsAtWorld w held old → Calls (Prints bytes) ok old new → IsAtWorld w held new
printed_at w held old new ok bytes is at call =
    let disk : new.tape.disk ≡ done (Prints bytes) old.tape.disk = printed_disk old new ok bytes is at.at.told call
    in at_same_areas w held old new call.told (λ i. (disk i).pages) (λ i. (disk i).journal) at

pub printed_more : (w : World) (held : Held) (old new : State) (ok : Bool) (bytes : List ℕ) → ok ≡ true → IsAtWorld w held old → Calls (Prints bytes) ok old new → printed_of new ≡ printed_of old ++ bytes
printed_more w held old new ok bytes is at call = λ i. (printed_disk old new ok bytes is at.at.told call i).printed
