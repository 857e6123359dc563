-- The image that the arguments of a crash name is one that the model of a disk allows.
use Rattle.std.proofs.Common.{◌≡◌, ◌<◌, ◌≤◌, ◌⊎◌, inl, inr, refl, sym, ◌∙◌, ap, subst, ℕ, zero, suc, ◌+◌, ◌%◌, Bool, true, false, cond, ◌==◌, nat_lt, List, [], ◌∷◌, ◌++◌, length, drop, get_or, arith}
use Rattle.std.specs.Bool.{MatchBool}
use Rattle.std.proofs.Math.Nat.{mod-add-mod}
use Rattle.std.proofs.lemmas.Bool.Decides.{nat_tests}
use Rattle.std.proofs.lemmas.List.{append-nil, append_assoc}
use Rattle.std.proofs.Math.Seq.{drop-nil}
use Rattle.std.proofs.lemmas.Grind.{same_number_lists}
use Rattle.ov_host.specs.declared.area.Area.TheVariants.{Pages, Journal}
use Rattle.ov_host.specs.Disk.{Stored, Disk, Image, IsWritten, Leaves, MayLeave}
use Rattle.ov_host.specs.Tape.{Call, Looks, Writes, Syncs, Prints, Tape, Moment, fresh, onto, done, marked, During, HadLeft, left_since}
use Rattle.ov_host.proofs.Stops.{during_start}
use Rattle.ov_memhost.specs.Kept.{Kept, replayed}
use Rattle.ov_memhost.specs.Picked.{is_written, is_doubtful, byte_left, doubts_below, IsPicked, IsNamed}
use Rattle.ov_memhost.specs.Sound.{IsSound, AreSound, sound_done}
use Rattle.ov_memhost.specs.Stopped.{begun, stopped, StopIn, moments_before}

-- a place in none of the ranges
off_ranges : (rs : List (ℕ × ℕ)) (p : ℕ) → (IsWritten rs p → ⊥) → is_written rs p ≡ false
off_ranges [] p off = refl
off_ranges (r ∷ rs) p off =
    let rest = off_ranges rs p (λ w. off (inr w))
    in let out : (r.0 ≤ p) × (p < r.1) → ⊥ = λ w. off (inl w)
    in grind (arith, nat_tests)

-- a byte that is settled is left as it reads
settled_byte : (a : Stored) (taken : ℕ) (pick : List ℕ) (p : ℕ) → p < a.synced → (IsWritten a.written p → ⊥) → byte_left a taken pick p ≡ get_or a.bytes p 0
settled_byte a taken pick p below off =
    let written = off_ranges a.written p off
    in let sure : is_doubtful a p ≡ false = grind (arith, nat_tests)
    in ap (λ b. cond b (get_or pick ((taken + doubts_below a p) % length pick) 0) (get_or a.bytes p 0)) sure

picked_leaves : (a : Stored) (asked taken : ℕ) (pick c : List ℕ) → IsSound a → IsPicked a asked taken pick c → Leaves a c
picked_leaves a asked taken pick c sound is =
    record {
      no_shorter = omega (arith, is.long);
      no_longer = omega (arith, is.long, sound.low, sound.high);
      same = λ p below off. is.bytes p (omega (arith, is.long)) ∙ settled_byte a taken pick p below off;
    }

-- where the doubtful bytes begin counts only up to the length of `pick`
pub picked_from : (a : Stored) (asked taken : ℕ) (pick c : List ℕ) → IsPicked a asked (taken % length pick) pick c → IsPicked a asked taken pick c
picked_from a asked taken pick c is =
    record {
      long = is.long;
      bytes = λ p below.
          is.bytes p below
          ∙ ap (λ n. cond (is_doubtful a p) (get_or pick n 0) (get_or a.bytes p 0)) (mod-add-mod taken (length pick) (doubts_below a p));
    }

named_left : (d : Disk) (pages journal : ℕ) (pick : List ℕ) (c : Image) → AreSound d → IsNamed d pages journal pick c → MayLeave d c
named_left d pages journal pick c sound is =
    record {
      pages = picked_leaves d.pages pages 0 pick c.pages sound.pages is.pages_are;
      journal = picked_leaves d.journal journal (doubts_below d.pages (length c.pages)) pick c.journal sound.journal is.journal_is;
      printed = is.printed_is;
    }

sound_marked : (a : Stored) (at n : ℕ) → IsSound a → IsSound (marked at n a.bytes a)
sound_marked a at n s = record { low = s.low; high = omega (arith, s.high) }

sound_begun : (cut : ℕ) (call : Call) (d : Disk) → AreSound d → AreSound (begun cut call d)
sound_begun cut Looks d s = s
sound_begun cut (Writes Pages at bytes) d s = record { pages = sound_marked d.pages at (length bytes) s.pages; journal = s.journal }
sound_begun cut (Writes Journal at bytes) d s = record { pages = s.pages; journal = sound_marked d.journal at (length bytes) s.journal }
sound_begun cut (Syncs area) d s = s
sound_begun cut (Prints bytes) d s = record { pages = s.pages; journal = s.journal }

-- what is left of a call that has begun
begun_during : (cut : ℕ) (call : Call) (d : Disk) (c : Image) → MayLeave (begun cut call d) c → During call d c
begun_during cut Looks d c left = left
begun_during cut (Writes area at bytes) d c left = left
begun_during cut (Syncs area) d c left = left
begun_during cut (Prints bytes) d c left =
    record { pages = left.pages; journal = left.journal; count = cut; printed = left.printed }

by_tests : (lower same : Bool) (x y z : Disk) (P : Disk → Type 0) (X Y Z : Type 0) → (P x → X) → (P y → Y) → (P z → Z) → P (cond lower x (cond same y z)) → MatchBool lower X (MatchBool same Y Z)
by_tests true same x y z P X Y Z f g h is = f is
by_tests false true x y z P X Y Z f g h is = g is
by_tests false false x y z P X Y Z f g h is = h is

-- the image that the arguments name is left by a stop in that call
pub named_stop : (ks : List Kept) (call cut : ℕ) (d : Disk) (pages journal : ℕ) (pick : List ℕ) (c : Image) → AreSound d → IsNamed (stopped ks call cut d) pages journal pick c → StopIn ks call d c
named_stop [] call cut d pages journal pick c sound is = named_left d pages journal pick c sound is
named_stop (k ∷ ks) call cut d pages journal pick c sound is =
    by_tests (nat_lt k.number call) (k.number == call) (stopped ks call cut (done k.call d)) (begun cut k.call d) d
    (λ e. IsNamed e pages journal pick c)
    (StopIn ks call (done k.call d) c) (During k.call d c) (MayLeave d c)
    (λ later. named_stop ks call cut (done k.call d) pages journal pick c (sound_done k.call d sound) later)
    (λ there. begun_during cut k.call d c (named_left (begun cut k.call d) pages journal pick c (sound_begun cut k.call d sound) there))
    (λ before. named_left d pages journal pick c sound before)
    is

-- the moments that kept calls are
moments : List Kept → Disk → List Moment
moments [] d = []
moments (k ∷ ks) d = record { call = k.call; disk = d } ∷ moments ks (done k.call d)

past_replayed : (ks : List Kept) (t : Tape) → (replayed ks t).past ≡ t.past ++ moments ks t.disk
unfolding moments
past_replayed [] t = sym (append-nil t.past)
past_replayed (k ∷ ks) t =
    past_replayed ks (onto k.call (done k.call t.disk) t)
    ∙ append_assoc t.past (record { call = k.call; disk = t.disk } ∷ []) (moments ks (done k.call t.disk))

left_by : (lower same : Bool) (later : ℕ) (m : Moment) (ms : List Moment) (e : Disk) (c : Image) (X : Type 0) → (X → MayLeave e c ⊎ HadLeft (drop later ms) c) → MatchBool lower X (MatchBool same (During m.call m.disk c) (MayLeave m.disk c)) → MayLeave e c ⊎ HadLeft (drop (cond lower (suc later) 0) (m ∷ ms)) c
left_by true same later m ms e c X after stop = after stop
left_by false true later m ms e c X after stop = inr (inl stop)
left_by false false later m ms e c X after stop = inr (inl (during_start m.call m.disk c stop))

stop_left : (ks : List Kept) (call : ℕ) (t : Tape) (c : Image) → StopIn ks call t.disk c → MayLeave (replayed ks t).disk c ⊎ HadLeft (drop (moments_before ks call) (moments ks t.disk)) c
unfolding moments
stop_left [] call t c stop = inl stop
stop_left (k ∷ ks) call t c stop =
    left_by (nat_lt k.number call) (k.number == call) (moments_before ks call) (record { call = k.call; disk = t.disk })
    (moments ks (done k.call t.disk)) (replayed ks (onto k.call (done k.call t.disk) t)).disk c (StopIn ks call (done k.call t.disk) c)
    (λ later. stop_left ks call (onto k.call (done k.call t.disk) t) c later) stop

had_along : (ms ns : List Moment) (n : ℕ) (e : Disk) (c : Image) → ms ≡ ns → MayLeave e c ⊎ HadLeft (drop n ms) c → MayLeave e c ⊎ HadLeft (drop n ns) c
had_along ms ns n e c same left = subst (λ xs. MayLeave e c ⊎ HadLeft (drop n xs) c) same left

-- what was left since a moment was left since each earlier one
had_earlier : (ms : List Moment) (early late : ℕ) (c : Image) → early ≤ late → HadLeft (drop late ms) c → HadLeft (drop early ms) c
had_earlier [] early late c le had = absurd (subst (λ xs. HadLeft xs c) (drop-nil late) had)
had_earlier (m ∷ ms) zero zero c le had = had
had_earlier (m ∷ ms) zero (suc late) c le had = inr (had_earlier ms zero late c (omega arith) had)
had_earlier (m ∷ ms) (suc early) zero c le had = absurd (omega arith)
had_earlier (m ∷ ms) (suc early) (suc late) c le had = had_earlier ms early late c (omega arith) had

since_earlier : (t : Tape) (early late : ℕ) (c : Image) → early ≤ late → left_since t late c → left_since t early c
since_earlier t early late c le (inl now) = inl now
since_earlier t early late c le (inr had) = inr (had_earlier t.past early late c le had)

-- a stop in a call is one since each moment up to the clock as that call began
pub stop_since : (ks : List Kept) (call moment : ℕ) (start : Disk) (c : Image) → StopIn ks call start c → moment ≤ moments_before ks call → left_since (replayed ks (fresh start)) moment c
stop_since ks call moment start c stop le =
    since_earlier (replayed ks (fresh start)) moment (moments_before ks call) c le
    (had_along (moments ks start) (replayed ks (fresh start)).past (moments_before ks call) (replayed ks (fresh start)).disk c
    (sym (past_replayed ks (fresh start))) (stop_left ks call (fresh start) c stop))

picked_one : (a : Stored) (asked taken : ℕ) (pick b c : List ℕ) → IsPicked a asked taken pick b → IsPicked a asked taken pick c → b ≡ c
picked_one a asked taken pick b c is is' =
    same_number_lists b c (is.long ∙ sym is'.long) (λ p below. is.bytes p below ∙ sym (is'.bytes p (omega (arith, is.long, is'.long))))

same_image : (b c : Image) → b.pages ≡ c.pages → b.journal ≡ c.journal → b.printed ≡ c.printed → b ≡ c
same_image b c pages journal printed = λ i. record { pages = pages i; journal = journal i; printed = printed i }

-- there is only one such image
pub named_one : (d : Disk) (pages journal : ℕ) (pick : List ℕ) (b c : Image) → IsNamed d pages journal pick b → IsNamed d pages journal pick c → b ≡ c
named_one d pages journal pick b c is is' =
    let same : length c.pages ≡ length b.pages = is'.pages_are.long ∙ sym is.pages_are.long
    in let there : IsPicked d.journal journal (doubts_below d.pages (length b.pages)) pick c.journal =
    subst (λ n. IsPicked d.journal journal (doubts_below d.pages n) pick c.journal) same is'.journal_is
    in same_image b c (picked_one d.pages pages 0 pick b.pages c.pages is.pages_are is'.pages_are)
    (picked_one d.journal journal (doubts_below d.pages (length b.pages)) pick b.journal c.journal is.journal_is there)
    (is.printed_is ∙ sym is'.printed_is)
