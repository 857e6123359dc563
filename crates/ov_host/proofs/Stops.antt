-- How stops of calls that follow one another compose.
use Rattle.std.proofs.Common.{◌≡◌, ◌≤◌, ◌⊎◌, inl, inr, ℕ, ◌+◌, Bool, true, false, List, [], ◌∷◌, ◌++◌, length, take, drop, refl, sym, ◌∙◌, ap, subst, arith}
use Rattle.std.proofs.lemmas.List.{append-nil, append_assoc, length-append}
use Rattle.std.proofs.Math.Seq.{drop-append_seam}
use Rattle.ov_host.specs.declared.area.Area.{Area}
use Rattle.ov_host.specs.declared.area.Area.TheVariants.{Pages, Journal}
use Rattle.ov_host.specs.Disk.{Disk, Image, MayLeave, area_of, with_area}
use Rattle.ov_host.specs.Tape.{Call, Looks, Writes, Syncs, Prints, Torn, marked, done, PartlyDone, During, Moment, Tape, onto, Plays, clock, HadLeft, left_since}
use Rattle.ov_host.specs.Stops.{AllLeave, Only}
use Rattle.ov_host.proofs.Writes.{leaves_torn, leaves_more}

AllLeave-append : (P : Image → Type 0) (ms ns : List Moment) → AllLeave P ms → AllLeave P ns → AllLeave P (ms ++ ns)
AllLeave-append P [] ns a b = b
AllLeave-append P (m ∷ ms) ns a b = (a.0, AllLeave-append P ms ns a.1 b)

AllLeave-wider : (P Q : Image → Type 0) (ms : List Moment) → ((c : Image) → P c → Q c) → AllLeave P ms → AllLeave Q ms
AllLeave-wider P Q [] w a = tt
AllLeave-wider P Q (m ∷ ms) w a = (λ c d. w c (a.0 c d), AllLeave-wider P Q ms w a.1)

AllLeave-had : (P : Image → Type 0) (ms : List Moment) → AllLeave P ms → (c : Image) → HadLeft ms c → P c
AllLeave-had P [] a c had = absurd had
AllLeave-had P (m ∷ ms) a c (inl during) = a.0 c during
AllLeave-had P (m ∷ ms) a c (inr had) = AllLeave-had P ms a.1 c had

-- nothing happened yet
pub only_start : (t : Tape) (P : Image → Type 0) → ((c : Image) → MayLeave t.disk c → P c) → Only t t P
only_start t P now = record { more = []; past = sym (append-nil t.past); during = tt; now = now }

-- one call
pub only_call : (call : Call) (e : Disk) (t : Tape) (P : Image → Type 0) → ((c : Image) → During call t.disk c → P c) → ((c : Image) → MayLeave e c → P c) → Only t (onto call e t) P
only_call call e t P during now =
    record { more = record { call = call; disk = t.disk } ∷ []; past = refl; during = (during, tt); now = now }

-- calls, and then further ones
pub only_then : (a b c : Tape) (P : Image → Type 0) → Only a b P → Only b c P → Only a c P
only_then a b c P x y =
    record {
      more = x.more ++ y.more;
      past = y.past ∙ ap (λ p. p ++ y.more) x.past ∙ append_assoc a.past x.more y.more;
      during = AllLeave-append P x.more y.more x.during y.during;
      now = y.now;
    }

-- what has a property has a weaker one
pub only_wider : (a b : Tape) (P Q : Image → Type 0) → ((c : Image) → P c → Q c) → Only a b P → Only a b Q
only_wider a b P Q wider x =
    record {
      more = x.more;
      past = x.past;
      during = AllLeave-wider P Q x.more wider x.during;
      now = λ c left. wider c (x.now c left);
    }

-- in the words of the clock
pub only_left : (old new : Tape) (P : Image → Type 0) → Only old new P → (c : Image) → left_since new (clock old) c → P c
only_left old new P x c (inl now) = x.now c now
only_left old new P x c (inr had) =
    AllLeave-had P x.more x.during c
    (let Had : List Moment → Type 0 = λ ms. HadLeft ms c
    in subst Had (ap (drop (clock old)) x.past ∙ drop-append_seam old.past x.more) had)

pages_torn : (at n : ℕ) (torn : List ℕ) (d : Disk) (c : Image) → Torn at n d.pages.bytes torn → MayLeave (with_area Pages (marked at n torn d.pages) d) c → MayLeave (with_area Pages (marked at n d.pages.bytes d.pages) d) c
pages_torn at n torn d c is left =
    record {
      pages = leaves_torn d.pages at n d.pages.bytes torn c.pages is left.pages;
      journal = left.journal;
      printed = left.printed;
    }

journal_torn : (at n : ℕ) (torn : List ℕ) (d : Disk) (c : Image) → Torn at n d.journal.bytes torn → MayLeave (with_area Journal (marked at n torn d.journal) d) c → MayLeave (with_area Journal (marked at n d.journal.bytes d.journal) d) c
journal_torn at n torn d c is left =
    record {
      pages = left.pages;
      journal = leaves_torn d.journal at n d.journal.bytes torn c.journal is left.journal;
      printed = left.printed;
    }

-- what a torn write leaves could be left while the write went on
pub during_torn : (area : Area) (at n : ℕ) (torn : List ℕ) (d : Disk) (c : Image) → Torn at n (area_of area d).bytes torn → MayLeave (with_area area (marked at n torn (area_of area d)) d) c → MayLeave (with_area area (marked at n (area_of area d).bytes (area_of area d)) d) c
during_torn Pages at n torn d c is left = pages_torn at n torn d c is left
during_torn Journal at n torn d c is left = journal_torn at n torn d c is left

-- what could be left before a call could be left while it went on
pub during_start : (call : Call) (d : Disk) (c : Image) → MayLeave d c → During call d c
during_start Looks d c left = left
during_start (Writes Pages at bytes) d c left =
    record { pages = leaves_more d.pages at (length bytes) c.pages left.pages; journal = left.journal; printed = left.printed }
during_start (Writes Journal at bytes) d c left =
    record { pages = left.pages; journal = leaves_more d.journal at (length bytes) c.journal left.journal; printed = left.printed }
during_start (Syncs area) d c left = left
during_start (Prints bytes) d c left =
    record { pages = left.pages; journal = left.journal; count = 0; printed = left.printed ∙ sym (append-nil d.printed) }

-- what a call leaves that failed halfway could be left while it went on
pub during_partly : (call : Call) (d e : Disk) (c : Image) → PartlyDone call d e → MayLeave e c → During call d c
during_partly Looks d e c is left = subst (λ x. MayLeave x c) is left
during_partly (Writes area at bytes) d e c is left =
    during_torn area at (length bytes) is.0 d c is.1 (subst (λ x. MayLeave x c) is.2 left)
during_partly (Syncs area) d e c is left = subst (λ x. MayLeave x c) is left
during_partly (Prints bytes) d e c is left =
    let there : MayLeave (record { pages = d.pages; journal = d.journal; printed = d.printed ++ take is.0 bytes }) c =
    subst (λ x. MayLeave x c) is.1 left
    in record { pages = there.pages; journal = there.journal; count = is.0; printed = there.printed }

partly_only : (call : Call) (t u : Tape) (P : Image → Type 0) → ((c : Image) → During call t.disk c → P c) → (u ≡ t) ⊎ ((e : Disk) × PartlyDone call t.disk e × (u ≡ onto call e t)) → Only t u P
partly_only call t u P during (inl same) =
    subst (λ x. Only t x P) (sym same) (only_start t P (λ c left. during c (during_start call t.disk c left)))
partly_only call t u P during (inr is) =
    subst (λ x. Only t x P) (sym is.2)
    (only_call call is.0 t P during (λ c left. during c (during_partly call t.disk is.0 c is.1 left)))

-- a call that failed
pub failed_only : (call : Call) (t u : Tape) (P : Image → Type 0) → Plays call false t u → ((c : Image) → During call t.disk c → P c) → Only t u P
failed_only Looks t u P same during = subst (λ x. Only t x P) (sym same) (only_start t P during)
failed_only (Writes area at bytes) t u P plays during = partly_only (Writes area at bytes) t u P during plays
failed_only (Syncs area) t u P plays during = partly_only (Syncs area) t u P during plays
failed_only (Prints bytes) t u P plays during = partly_only (Prints bytes) t u P during plays

-- a call that answered Ok
pub done_only : (call : Call) (t u : Tape) (P : Image → Type 0) → Plays call true t u → ((c : Image) → During call t.disk c → P c) → ((c : Image) → MayLeave (done call t.disk) c → P c) → Only t u P
done_only Looks t u P same during after = subst (λ x. Only t x P) (sym same) (only_start t P during)
done_only (Writes area at bytes) t u P is during after =
    subst (λ x. Only t x P) (sym is) (only_call (Writes area at bytes) (done (Writes area at bytes) t.disk) t P during after)
done_only (Syncs area) t u P is during after =
    subst (λ x. Only t x P) (sym is) (only_call (Syncs area) (done (Syncs area) t.disk) t P during after)
done_only (Prints bytes) t u P is during after =
    subst (λ x. Only t x P) (sym is) (only_call (Prints bytes) (done (Prints bytes) t.disk) t P during after)

-- a call, whatever it answered
pub call_only : (call : Call) (ok : Bool) (t u : Tape) (P : Image → Type 0) → Plays call ok t u → ((c : Image) → During call t.disk c → P c) → (ok ≡ true → (c : Image) → MayLeave (done call t.disk) c → P c) → Only t u P
call_only call true t u P plays during after = done_only call t u P plays during (after refl)
call_only call false t u P plays during after = failed_only call t u P plays during

-- the disk after a call that answered Ok
pub done_disk : (call : Call) (t u : Tape) → Plays call true t u → u.disk ≡ done call t.disk
done_disk Looks t u same = ap (λ x. x.disk) same
done_disk (Writes area at bytes) t u is = ap (λ x. x.disk) is
done_disk (Syncs area) t u is = ap (λ x. x.disk) is
done_disk (Prints bytes) t u is = ap (λ x. x.disk) is

later_partly : (call : Call) (t u : Tape) → (u ≡ t) ⊎ ((e : Disk) × PartlyDone call t.disk e × (u ≡ onto call e t)) → clock t ≤ clock u
later_partly call t u (inl same) = let e : clock u ≡ clock t = ap clock same in omega (arith, e)
later_partly call t u (inr is) =
    let e : clock u ≡ clock t + 1 = ap clock is.2 ∙ length-append t.past (record { call = call; disk = t.disk } ∷ [])
    in omega (arith, e)

later_done : (call : Call) (t u : Tape) → u ≡ onto call (done call t.disk) t → clock t ≤ clock u
later_done call t u is =
    let e : clock u ≡ clock t + 1 = ap clock is ∙ length-append t.past (record { call = call; disk = t.disk } ∷ [])
    in omega (arith, e)

-- the clock never goes back
pub later : (call : Call) (ok : Bool) (t u : Tape) → Plays call ok t u → clock t ≤ clock u
later Looks ok t u same = let e : clock u ≡ clock t = ap clock same in omega (arith, e)
later (Writes area at bytes) true t u is = later_done (Writes area at bytes) t u is
later (Writes area at bytes) false t u is = later_partly (Writes area at bytes) t u is
later (Syncs area) true t u is = later_done (Syncs area) t u is
later (Syncs area) false t u is = later_partly (Syncs area) t u is
later (Prints bytes) true t u is = later_done (Prints bytes) t u is
later (Prints bytes) false t u is = later_partly (Prints bytes) t u is
