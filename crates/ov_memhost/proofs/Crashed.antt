-- The new host after a crash has the image that the arguments name.
use Rattle.std.proofs.Common.{◌≡◌, ◌<◌, ◌≤◌, ◌-◌, ◌^◌, true, refl, sym, ◌∙◌, ap, subst, ℕ, ◌+◌, ◌%◌, List, length, arith}
use Rattle.ov_host.specs.Disk.{Disk, Image, as_read}
use Rattle.ov_host.specs.Tape.{fresh, left_since}
use Rattle.ov_memhost.specs.declared.host.MemHost.{MemHost}
use Rattle.ov_memhost.specs.Kept.{Kept, Contents, is_numbered}
use Rattle.ov_memhost.specs.Host.{state_of, tape_of, kept_by, start_of, image_of, new_state}
use Rattle.ov_memhost.specs.Picked.{IsPicked, IsNamed, doubts_below}
use Rattle.ov_memhost.specs.Stopped.{stopped, StopIn, moments_before}
use Rattle.ov_memhost.specs.Sound.{sound_start}
use Rattle.ov_memhost.proofs.Numbers.{stopped_last}
use Rattle.ov_memhost.proofs.Allowed.{named_stop, stop_since, picked_from}

-- the bytes that were taken are those that the arguments name
named_bytes : (d : Disk) (pages journal next : ℕ) (pick : List ℕ) (c : Image) → IsPicked d.pages pages 0 pick c.pages → next ≡ (0 + doubts_below d.pages (length c.pages)) % length pick → IsPicked d.journal journal next pick c.journal → c.printed ≡ d.printed → IsNamed d pages journal pick c
named_bytes d pages journal next pick c first at second printed =
    let begins : next ≡ doubts_below d.pages (length c.pages) % length pick = at ∙ ap (λ n. n % length pick) (omega arith)
    in record {
      pages_are = first;
      journal_is =
          picked_from d.journal journal (doubts_below d.pages (length c.pages)) pick c.journal
          (subst (λ n. IsPicked d.journal journal n pick c.journal) begins second);
      printed_is = printed;
    }

-- the image of a host that was just made
new_image : (m : MemHost) (c made : Contents) (printed : List ℕ) → state_of m ≡ new_state c printed → c ≡ made → image_of m ≡ record { pages = made.pages; journal = made.journal; printed = printed }
new_image m c made printed is same =
    ap (λ s. as_read s.tape.disk) is
    ∙ ap (λ k. as_read (new_state k printed).tape.disk) same

pub crash_named : (m : MemHost) (c : Contents) (d : Disk) (ks : List Kept) (call cut : ℕ) (start : Disk) (pages journal next : ℕ) (pick first second : List ℕ) → d ≡ stopped ks call cut start → IsPicked d.pages pages 0 pick first → next ≡ (0 + doubts_below d.pages (length first)) % length pick → IsPicked d.journal journal next pick second → c ≡ record { pages = first; journal = second } → state_of m ≡ new_state c d.printed → IsNamed (stopped ks call cut start) pages journal pick (image_of m)
crash_named m c d ks call cut start pages journal next pick first second is picked at picked' made state =
    let image : Image = record { pages = first; journal = second; printed = d.printed }
    in subst (λ e. IsNamed e pages journal pick (image_of m)) is
    (subst (λ i. IsNamed d pages journal pick i) (sym (new_image m c (record { pages = first; journal = second }) d.printed state made))
    (named_bytes d pages journal next pick image picked at picked' refl))

-- and so a stop in that call may leave it
pub crash_stop : (m : MemHost) (call cut pages journal : ℕ) (pick : List ℕ) (i : Image) → IsNamed (stopped (kept_by m) call cut (start_of m)) pages journal pick i → StopIn (kept_by m) call (start_of m) i
crash_stop m call cut pages journal pick i named =
    named_stop (kept_by m) call cut (start_of m) pages journal pick i (sound_start _ _) named

pub crash_left : (m : MemHost) (call moment : ℕ) (i : Image) → StopIn (kept_by m) call (start_of m) i → moment ≤ moments_before (kept_by m) call → left_since (tape_of m) moment i
crash_left m call moment i stop le = stop_since (kept_by m) call moment (start_of m) i stop le

-- after the last call, the disk is the one that there is
pub crash_last : (m : MemHost) (call cut pages journal : ℕ) (pick : List ℕ) (i : Image) → call ≡ m.counts.calls → call < 2 ^ 64 - 1 → IsNamed (stopped (kept_by m) call cut (start_of m)) pages journal pick i → IsNamed (tape_of m).disk pages journal pick i
crash_last m call cut pages journal pick i last small named =
    let numbered : is_numbered 0 (kept_by m) call ≡ true = ap (is_numbered 0 (kept_by m)) last ∙ m.numbered
    in subst (λ d. IsNamed d pages journal pick i) (stopped_last 0 (kept_by m) call cut (fresh (start_of m)) small numbered) named
