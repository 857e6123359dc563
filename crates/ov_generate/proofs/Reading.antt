-- The rows of a parent, read back at a World, and what stays while they are.
use Rattle.std.proofs.Common.{◌≡◌, ◌≤◌, ◌<◌, ◌==◌, ◌||◌, ◌⊎◌, ◌-◌, inl, inr, ℕ, zero, suc, true, false, List, [], ◌∷◌, length, map, get_or, refl, sym, ◌∙◌, ap, subst, arith}
use Rattle.std.specs.Prelude.{nat_lt, if◌then◌else◌, IsErr, IsErrOf, MatchResult, Option, Some, None, IfErr, IfOk, OnOk, Result, Ok, Err}
use Rattle.std.specs.List.{AllZip}
use Rattle.std.specs.Result.{IsErrAnd}
use Rattle.std.proofs.lemmas.Bool.{true≢false}
use Rattle.std.proofs.lemmas.Bool.{le-ltb, lt-ltb, ne_eqb}
use Rattle.ov_host.specs.Host.{State}
use Rattle.ov_host.specs.Stops.{Only}
use Rattle.ov_host.specs.declared.area.Area.TheVariants.{Pages}
use Rattle.ov_host.proofs.Stops.{only_start}
use Rattle.ov_core.specs.AtWorld.{IsAtWorld, IsEither}
use Rattle.ov_core.specs.Held.{Held, IsByJournal}
use Rattle.ov_fetch.specs.Extents.{Looked}
use Rattle.ov_fetch.proofs.Looks.{looked_again, same_pages}
use Rattle.ov_gen.specs.Versions.{IsGrown}
use Rattle.ov_model.specs.Book.{Row, Version}
use Rattle.ov_model.specs.Generator.{parent_drawn}
use Rattle.ov_model.specs.Moves.{Move, moved}
use Rattle.ov_model.specs.World.{World}
use Rattle.ov_store.specs.Committing.{IfSet, IsDamagedAt, IsUncommitted, Set, Wish}
use Rattle.ov_store.specs.Kept.{Kept, Stays}
use Rattle.ov_store.specs.Refusals.{vids_off}
use Rattle.ov_store.specs.Scanning.{IsUndamaged, scan_off, set_in, versions_off}
use Rattle.ov_store.specs.declared.errors.StoreErr.{StoreErr}
use Rattle.ov_store.specs.declared.errors.StoreErr.TheVariants as why
use Rattle.ov_store.proofs.Deciding.{counts}
use Rattle.ov_store.proofs.Journals.{looked_by}
use Rattle.law_runs.specs.Stops.{printed_of}
use Rattle.law_runs.proofs.Found.{stands_left}
use Rattle.law_generated.specs.Grown.{Grown, HasGrown, parent_next}
use Rattle.law_generated.proofs.Steps.{parent_least, parent_most}
use Rattle.ov_generate.specs.Making.{AreRowsRead, AreScanned, HasDamage, IsDamageOf, IsKnown, IsNotGrownIn, IsUnmoved, IsUnread, IsWishOf}

-- ---- the host was looked at

pub looked_stays : (off : StoreErr) (k : Kept) (s t : State) → Looked s t → Stays off k k s t
looked_stays why.Host k s t looked = tt
looked_stays why.Memory k s t looked = (refl, looked)
looked_stays (why.Damaged area at) k s t looked = (refl, looked)
looked_stays (why.Full pages) k s t looked = (refl, looked)
looked_stays why.JournalFull k s t looked = (refl, looked)
looked_stays why.NoCvd k s t looked = (refl, looked)
looked_stays why.CvdExists k s t looked = (refl, looked)
looked_stays (why.NoVersion vid) k s t looked = (refl, looked)
looked_stays (why.RepeatedVersion vid) k s t looked = (refl, looked)
looked_stays (why.DuplicateKey row) k s t looked = (refl, looked)
looked_stays why.TooManyVersions k s t looked = (refl, looked)
looked_stays why.TooManyRecords k s t looked = (refl, looked)
looked_stays why.TooManyRows k s t looked = (refl, looked)
looked_stays why.TooManyCvds k s t looked = (refl, looked)
looked_stays why.NoNumbers k s t looked = (refl, looked)
looked_stays (why.FormatOne row) k s t looked = (refl, looked)

pub stays_behind : (off : StoreErr) (k l : Kept) (s t u : State) → Looked s t → Stays off k l t u → Stays off k l s u
stays_behind why.Host k l s t u looked is = tt
stays_behind why.Memory k l s t u looked is = (is.0, looked_again s t u looked is.1)
stays_behind (why.Damaged area at) k l s t u looked is = (is.0, looked_again s t u looked is.1)
stays_behind (why.Full pages) k l s t u looked is = (is.0, looked_again s t u looked is.1)
stays_behind why.JournalFull k l s t u looked is = (is.0, looked_again s t u looked is.1)
stays_behind why.NoCvd k l s t u looked is = (is.0, looked_again s t u looked is.1)
stays_behind why.CvdExists k l s t u looked is = (is.0, looked_again s t u looked is.1)
stays_behind (why.NoVersion vid) k l s t u looked is = (is.0, looked_again s t u looked is.1)
stays_behind (why.RepeatedVersion vid) k l s t u looked is = (is.0, looked_again s t u looked is.1)
stays_behind (why.DuplicateKey row) k l s t u looked is = (is.0, looked_again s t u looked is.1)
stays_behind why.TooManyVersions k l s t u looked is = (is.0, looked_again s t u looked is.1)
stays_behind why.TooManyRecords k l s t u looked is = (is.0, looked_again s t u looked is.1)
stays_behind why.TooManyRows k l s t u looked is = (is.0, looked_again s t u looked is.1)
stays_behind why.TooManyCvds k l s t u looked is = (is.0, looked_again s t u looked is.1)
stays_behind why.NoNumbers k l s t u looked is = (is.0, looked_again s t u looked is.1)
stays_behind (why.FormatOne row) k l s t u looked is = (is.0, looked_again s t u looked is.1)

pub result_stays : {A : Type 0} (r : Result A StoreErr) (k l : Kept) (s t u : State) → Looked s t → IfErr r (λ off. Stays off k l t u) → IfErr r (λ off. Stays off k l s u)
result_stays (Ok x) k l s t u looked is = tt
result_stays (Err off) k l s t u looked is = stays_behind off k l s t u looked is

pub result_journal : {A : Type 0} (r : Result A StoreErr) (held later : Held) (s t u : State) → Looked s t → (IsByJournal held t → OnOk r (IsByJournal later u)) → IsByJournal held s
    → OnOk r (IsByJournal later u)
result_journal r held later s t u looked then_ by = then_ (looked_by held s t looked by)

-- ---- at a World

module _ (w : World) (held : Held) (old new : State) (at : IsAtWorld w held old) (m : Move) where
  either_looked : Looked old new → Only old.tape new.tape (IsEither w (moved m w) (printed_of old))
  either_looked looked =
      subst (λ t. Only old.tape t (IsEither w (moved m w) (printed_of old))) (sym (looked.tape at.at.told))
      (only_start old.tape (IsEither w (moved m w) (printed_of old))
      (λ c left. record { stands = inl (stands_left w held old at c left.pages left.journal); printed_is = left.printed }))

  pub unread_unmoved : (name : List ℕ) (parent count vid : ℕ) (off : StoreErr) → Looked old new → scan_off held.numbers name (parent ∷ []) ≡ None → IsUndamaged off
      → IsUnread held name parent count vid old new off → IsUnmoved m w held old new off
  unread_unmoved name parent count vid off looked passes spared unread = by off spared unread
    where
      never : (e : StoreErr) → scan_off held.numbers name (parent ∷ []) ≡ Some e → ⊥
      never e is = let clash : None ≡ Some e = sym passes ∙ is in absurd cc

      by : (e : StoreErr) → IsUndamaged e → IsUnread held name parent count vid old new e → IsUnmoved m w held old new e
      by why.Host s u = either_looked looked
      by why.Memory s u = tt
      by (why.Damaged area place) s u = absurd s
      by (why.Full pages) s (inl u) = absurd (never (why.Full pages) u.0)
      by (why.Full pages) s (inr u) = let e = u.1 in absurd cc
      by why.JournalFull s (inl u) = absurd (never why.JournalFull u.0)
      by why.JournalFull s (inr u) = let e = u.1 in absurd cc
      by why.NoCvd s (inl u) = never why.NoCvd u.0
      by why.NoCvd s (inr u) = let e = u.1 in absurd cc
      by why.CvdExists s (inl u) = never why.CvdExists u.0
      by why.CvdExists s (inr u) = let e = u.1 in absurd cc
      by (why.NoVersion v) s (inl u) = never (why.NoVersion v) u.0
      by (why.NoVersion v) s (inr u) = let e = u.1 in absurd cc
      by (why.RepeatedVersion v) s (inl u) = never (why.RepeatedVersion v) u.0
      by (why.RepeatedVersion v) s (inr u) = let e = u.1 in absurd cc
      by (why.DuplicateKey row) s (inl u) = never (why.DuplicateKey row) u.0
      by (why.DuplicateKey row) s (inr u) = let e = u.1 in absurd cc
      by why.TooManyVersions s (inl u) = never why.TooManyVersions u.0
      by why.TooManyVersions s (inr u) = let e = u.1 in absurd cc
      by why.TooManyRecords s (inl u) = never why.TooManyRecords u.0
      by why.TooManyRecords s (inr u) = let e = u.1 in absurd cc
      by why.TooManyRows s (inl u) = never why.TooManyRows u.0
      by why.TooManyRows s (inr u) = let e = u.1 in absurd cc
      by why.TooManyCvds s (inl u) = never why.TooManyCvds u.0
      by why.TooManyCvds s (inr u) = let e = u.1 in absurd cc
      by why.NoNumbers s (inl u) = never why.NoNumbers u.0
      by why.NoNumbers s (inr u) = let e = u.1 in absurd cc
      by (why.FormatOne row) s (inl u) = never (why.FormatOne row) u.0
      by (why.FormatOne row) s (inr u) = let e = u.1 in absurd cc

one_passes : (count vid : ℕ) → 1 ≤ vid → vid ≤ count → vids_off count [] (vid ∷ []) ≡ None
one_passes count vid some most =
    let some_ : (vid == 0) ≡ false = ne_eqb vid 0 (λ e. omega (arith, e, some))
    in let there : nat_lt count vid ≡ false = le-ltb count vid most
    in ap (λ b. if b || nat_lt count vid then Some (why.NoVersion vid) else None) some_ ∙ ap (λ b. if b then Some (why.NoVersion vid) else None) there

map_long : (vs : List Version) → length (map (λ (v : Version). v.rows) vs) ≡ length vs
map_long [] = refl
map_long (v ∷ vs) = omega (arith, map_long vs)

-- the parent that is drawn is there
pub parent_there : (w : World) (held : Held) (s : State) (at : IsAtWorld w held s) (name : List ℕ) (number count : ℕ) (g : Grown) (h : HasGrown w name number count g) (k : IsKnown held.numbers name)
    → scan_off held.numbers name ((parent_next g).is ∷ []) ≡ None
parent_there w held s at name number count g h k =
    let same : length k.set.versions ≡ length h.set.cvd.versions = (counts w held s at name h.set h.named k.set k.named).versions
    in let long : length h.set.cvd.versions ≡ length g.done = omega (arith, map_long h.set.cvd.versions, ap (λ (l : List (List Row)). length l) h.rows_are)
    in ap (λ o. versions_off o ((parent_next g).is ∷ [])) k.named
    ∙ one_passes (length k.set.versions) (parent_next g).is (parent_least g h.some) (omega (arith, same, long, parent_most g h.some))

-- ---- one version of a scan

pub one_pick : (f : List ℕ → List Row) (picks : List (List ℕ)) (x : List Row) (p : List ℕ) → map f picks ≡ x ∷ [] → p ≡ get_or picks 0 p → f p ≡ x
one_pick f [] x p e is = absurd cc
one_pick f (q ∷ qs) x p e is = ap f is ∙ ap (λ (l : List (List Row)). get_or l 0 []) e

pub one_beside : (R : ℕ → List ℕ → Type 0) (vid : ℕ) (picks : List (List ℕ)) (p : List ℕ) → AllZip R (vid ∷ []) picks → p ≡ get_or picks 0 p → R vid p
one_beside R vid [] p all is = absurd all
one_beside R vid (q ∷ qs) p all is = subst (R vid) (sym is) all.0

vid_at_least : (count vid : ℕ) → vids_off count [] (vid ∷ []) ≡ None → 1 ≤ vid
vid_at_least count zero e = let is : Some (why.NoVersion 0) ≡ None = e in absurd cc
vid_at_least count (suc vid) e = omega arith

pub vid_there : (count vid : ℕ) → vids_off count [] (vid ∷ []) ≡ None → (1 ≤ vid) × (vid ≤ count)
vid_there count vid e =
    let some : 1 ≤ vid = vid_at_least count vid e
    in let some_ : (vid == 0) ≡ false = ne_eqb vid 0 (λ is. omega (arith, is, some))
    in let within : (if nat_lt count vid then Some (why.NoVersion vid) else None) ≡ None = sym (ap (λ b. if b || nat_lt count vid then Some (why.NoVersion vid) else None) some_) ∙ e
    in (some, elim (low_or count vid) [ inl low ↦ low | inr high ↦ absurd (off within (lt-ltb count vid high)) ])
  where
    low_or : (n v : ℕ) → (v ≤ n) ⊎ (n < v)
    low_or n v = grind arith

    off : (if nat_lt count vid then Some (why.NoVersion vid) else None) ≡ None → nat_lt count vid ≡ true → ⊥
    off within high = let clash : Some (why.NoVersion vid) ≡ None = sym (ap (λ b. if b then Some (why.NoVersion vid) else None) high) ∙ within in absurd cc

pub set_same : (a b : Set) (o : Option Set) → Some a ≡ o → o ≡ Some b → a ≡ b
set_same a b o e f = let both : Some a ≡ Some b = e ∙ f in ap (λ x. elim x as (λ _. Set) [ None ↦ a | Some z ↦ z ]) both

pub result_const : {A : Type 0} (r : Result A StoreErr) (P : Type 0) → P → IfOk r (λ _. P)
result_const (Ok x) P p = p
result_const (Err off) P p = tt

pub ok_const : {A : Type 0} (r : Result A StoreErr) (P : Type 0) → P → OnOk r P
ok_const (Ok x) P p = p
ok_const (Err off) P p = tt

-- what leaves by a `?`
pub match_err : {A E : Type 0} (P : A → Type 0) (Q : E → Type 0) (r : Result A E) (e : E) → IsErr r × IsErrAnd r (λ x. x ≡ e) → Q e → MatchResult r P Q
match_err P Q (Ok x) e h q = absurd (true≢false (sym h.0))
match_err P Q (Err x) e h q = subst Q (sym h.1) q

pub if_err : {A E : Type 0} (Q : E → Type 0) (r : Result A E) (e : E) → IsErr r × IsErrAnd r (λ x. x ≡ e) → Q e → IfErr r Q
if_err Q (Ok x) e h q = tt
if_err Q (Err x) e h q = subst Q (sym h.1) q

pub err_of : {A E : Type 0} (r : Result A E) (e x : E) → IsErr r × IsErrAnd r (λ y. y ≡ e) → e ≡ x → IsErrOf r x
err_of (Ok y) e x h is = absurd (true≢false (sym h.0))
err_of (Err y) e x h is = ap Err (h.1 ∙ is)

err_same : {A E : Type 0} (r : Result A E) (a b : E) → r ≡ Err a → r ≡ Err b → a ≡ b
err_same r a b x y = cc

pub of_err : {A E : Type 0} (r : Result A E) (e x : E) → IsErr r × IsErrAnd r (λ y. y ≡ e) → IsErrOf r x → e ≡ x
of_err (Ok y) e x h is = absurd (true≢false (sym h.0))
of_err (Err y) e x h is = sym h.1 ∙ err_same (Err y) y x refl is

-- ---- damage

-- rows that were read at a state are those at one at which the host was at most looked at since
pub read_later : (set : Set) (parent : ℕ) (old mid : State) (rows : List Row) → Looked old mid → AreRowsRead set parent old rows → AreRowsRead set parent mid rows
read_later set parent old mid rows looked read told =
    let before : old.tells ≡ true = sym looked.told ∙ told
    in subst (λ (area : List ℕ). AreScanned area set parent rows) (sym (same_pages old mid looked before)) (read before)

pub unread_damage : (held : Held) (name : List ℕ) (k : IsKnown held.numbers name) (x parent count vid : ℕ) (old new : State) (off : StoreErr) → parent ≡ (parent_drawn (vid - 1) x).is → Looked old new
    → IsUnread held name parent count vid old new off → IsDamageOf (HasDamage held name x count vid new) off
unread_damage held name k x parent count vid old new off drawn looked unread = by off (subst (λ p. IsUnread held name p count vid old new off) drawn unread)
  where
    p : ℕ
    p = (parent_drawn (vid - 1) x).is

    page_of : (e : StoreErr) (page : ℕ) → e ≡ why.Damaged Pages page → IsNotGrownIn (set_in held.numbers name) p count vid old page → IsDamageOf (HasDamage held name x count vid new) e
    page_of e page is off_ = subst (IsDamageOf (HasDamage held name x count vid new)) (sym is) (refl, record { known = k; before = old; looked = looked; damaged = inr (inl off_) })

    by : (e : StoreErr) → IsUnread held name p count vid old new e → IsDamageOf (HasDamage held name x count vid new) e
    by (why.Damaged area at) (inl u) = (u.0, record { known = k; before = old; looked = looked; damaged = inl u.2 })
    by (why.Damaged area at) (inr u) = page_of (why.Damaged area at) u.0 u.1 u.2
    by why.Host u = tt
    by why.Memory u = tt
    by (why.Full pages) u = tt
    by why.JournalFull u = tt
    by why.NoCvd u = tt
    by why.CvdExists u = tt
    by (why.NoVersion v) u = tt
    by (why.RepeatedVersion v) u = tt
    by (why.DuplicateKey row) u = tt
    by why.TooManyVersions u = tt
    by why.TooManyRecords u = tt
    by why.TooManyRows u = tt
    by why.TooManyCvds u = tt
    by why.NoNumbers u = tt
    by (why.FormatOne row) u = tt

pub commit_damage : {A : Type 0} (r : Result A StoreErr) (held : Held) (name : List ℕ) (known : IsKnown held.numbers name) (x count vid : ℕ) (rows : List Row) (wish : Wish) (k l : Kept) (mid new : State)
    → IsWishOf x count vid rows wish → IsGrown count vid rows → AreRowsRead known.set (parent_drawn (vid - 1) x).is mid rows
    → IfErr r (IsUncommitted held name wish mid new) → IfErr r (λ off. Stays off k l mid new) → IfErr r (IsDamageOf (HasDamage held name x count vid new))
commit_damage (Ok y) held name known x count vid rows wish k l mid new asked grown read why_ stays = tt
commit_damage (Err off) held name known x count vid rows wish k l mid new asked grown read why_ stays = by off why_ stays
  where
    by : (e : StoreErr) → IsUncommitted held name wish mid new e → Stays e k l mid new → IsDamageOf (HasDamage held name x count vid new) e
    by (why.Damaged area at) u s = (
      u.0,
      record {
        known = known;
        before = mid;
        looked = s.1;
        damaged = inr (inr (record {
          rows = rows;
          read = read;
          grown = grown;
          wish = wish;
          asked = asked;
          damaged = subst (λ (o : Option Set). IfSet (λ set. IsDamagedAt set wish mid at) o) known.named u.2;
        }));
      },
    )
    by why.Host u s = tt
    by why.Memory u s = tt
    by (why.Full pages) u s = tt
    by why.JournalFull u s = tt
    by why.NoCvd u s = tt
    by why.CvdExists u s = tt
    by (why.NoVersion v) u s = tt
    by (why.RepeatedVersion v) u s = tt
    by (why.DuplicateKey row) u s = tt
    by why.TooManyVersions u s = tt
    by why.TooManyRecords u s = tt
    by why.TooManyRows u s = tt
    by why.TooManyCvds u s = tt
    by why.NoNumbers u s = tt
    by (why.FormatOne row) u s = tt
