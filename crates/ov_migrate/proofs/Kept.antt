-- The rids of segments, one after another.
use Rattle.std.proofs.Common.{◌≡◌, ◌<◌, ◌≤◌, ◌+◌, ◌-◌, ℕ, zero, suc, true, List, [], ◌∷◌, ◌++◌, length, map, take, get_or, refl, sym, ◌∙◌, ap, subst, arith}
use Rattle.std.specs.Prelude.{if◌then◌else◌}
use Rattle.std.specs.List.{Contains}
use Rattle.std.proofs.lemmas.Bool.{ne_eqb}
use Rattle.std.proofs.lemmas.Grind.{flat_map-append}
use Rattle.std.proofs.lemmas.List.{append-nil, map-append, take_more}
use Rattle.ov_host.specs.declared.area.Extent.{Extent}
use Rattle.ov_host.specs.Host.{State}
use Rattle.ov_value.specs.Shapes.{Shape}
use Rattle.ov_segment.specs.declared.numbered.Record.{Record}
use Rattle.ov_catalog.specs.Events.{chosen, one_at}
use Rattle.ov_fetch.specs.declared.errors.FetchErr.{FetchErr}
use Rattle.ov_fetch.specs.declared.errors.FetchErr.TheVariants.{Host, Memory, Damaged}
use Rattle.ov_fetch.specs.Extents.{Looked, HasRids, IsSegment, RefusesSegment, page_bytes, rids_of}
use Rattle.ov_fetch.specs.Gathering.{RefusesSegments}
use Rattle.ov_fetch.specs.Rows.{AreSegments, HaveRids}
use Rattle.ov_fetch.proofs.Looks.{looked_at_all, looked_again, same_pages}

segments-push : (schema : Shape) (area : List ℕ) (segments : List Extent) (contents : List (List Record)) (s : Extent) (rs : List Record) → AreSegments schema area segments contents
    → IsSegment schema area s rs → AreSegments schema area (segments ++ s ∷ []) (contents ++ rs ∷ [])
segments-push schema area [] [] s rs h is = (is, tt)
segments-push schema area (x ∷ xs) (c ∷ cs) s rs h is = (h.0, segments-push schema area xs cs s rs h.1 is)
segments-push schema area [] (c ∷ cs) s rs h is = absurd h
segments-push schema area (x ∷ xs) [] s rs h is = absurd h

-- so many segments were read
pub record HasSets (schema : Shape) (before now : State) (segments : List Extent) (sets : List (List ℕ)) : Type 0 where
  pub looked : Looked before now
  pub told : before.tells ≡ true → HaveRids schema (page_bytes before) segments sets

pub starts : (schema : Shape) (s : State) (sets : List (List ℕ)) → sets ≡ [] → HasSets schema s s [] sets
starts schema s sets none = record { looked = looked_at_all s; told = λ told. record { contents = []; read = tt; sets_are = none } }

pub goes_on : (schema : Shape) (s0 s1 s2 : State) (segments : List Extent) (segment : Extent) (sets : List (List ℕ)) (rids : List ℕ) → HasSets schema s0 s1 segments sets
    → Looked s1 s2 → (s1.tells ≡ true → HasRids schema (page_bytes s1) segment rids) → HasSets schema s0 s2 (segments ++ segment ∷ []) (sets ++ rids ∷ [])
goes_on schema s0 s1 s2 segments segment sets rids h looked new = record {
  looked = looked_again s0 s1 s2 h.looked looked;
  told = λ told.
      let old = h.told told
      in let it : HasRids schema (page_bytes s0) segment rids = subst (λ (a : List ℕ). HasRids schema a segment rids) (same_pages s0 s1 h.looked told) (new (h.looked.told ∙ told))
      in record {
        contents = old.contents ++ it.records ∷ [];
        read = segments-push schema (page_bytes s0) segments old.contents segment it.records old.read it.stands;
        sets_are = ap (λ (l : List (List ℕ)). l ++ rids ∷ []) old.sets_are ∙ ap (λ (r : List ℕ). map rids_of old.contents ++ r ∷ []) it.rids_are
            ∙ sym (map-append rids_of old.contents (it.records ∷ []));
      };
}

-- one of them is off
pub stops : (schema : Shape) (s0 s1 : State) (segments some : List Extent) (segment : Extent) (sets : List (List ℕ)) (e : FetchErr) → HasSets schema s0 s1 some sets → Contains segments segment
    → (s1.tells ≡ true → RefusesSegment e schema (page_bytes s1) segment) → s0.tells ≡ true → RefusesSegments e schema (page_bytes s0) segments
stops schema s0 s1 segments some segment sets Host h among refuses told = tt
stops schema s0 s1 segments some segment sets Memory h among refuses told = tt
stops schema s0 s1 segments some segment sets (Damaged page) h among refuses told =
    let why = subst (λ (a : List ℕ). RefusesSegment (Damaged page) schema a segment) (same_pages s0 s1 h.looked told) (refuses (h.looked.told ∙ told))
    in record { segment = segment; among = among; off = why.1; page_is = why.0 }

-- ---- those at some places

less : (n : ℕ) → suc n - 1 ≡ n
less n = omega arith

later : (s : Extent) (segments : List Extent) (place : ℕ) → one_at (s ∷ segments) (suc place) ≡ one_at segments place
later s segments place =
    ap (λ b. if b then s ∷ [] else one_at segments (suc place - 1)) (ne_eqb (suc place) 0 (λ e. absurd (omega (arith, e)))) ∙ ap (one_at segments) (less place)

pub one_found : (segments : List Extent) (place : ℕ) (x d : Extent) → place < length segments → x ≡ get_or segments place d → one_at segments place ≡ x ∷ []
one_found [] place x d low e = absurd (omega (arith, low))
one_found (s ∷ segments) zero x d low e = ap (λ y. y ∷ []) (sym e)
one_found (s ∷ segments) (suc place) x d low e = later s segments place ∙ one_found segments place x d (omega (arith, low)) e

pub one_none : (segments : List Extent) (place : ℕ) → length segments ≤ place → one_at segments place ≡ []
one_none [] place high = refl
one_none (s ∷ segments) zero high = absurd (omega (arith, high))
one_none (s ∷ segments) (suc place) high = later s segments place ∙ one_none segments place (omega (arith, high))

pub chosen_more : (segments : List Extent) (places : List ℕ) (k : ℕ) → k < length places
    → chosen (take (k + 1) places) segments ≡ chosen (take k places) segments ++ one_at segments (get_or places k 0)
chosen_more segments places k low =
    ap (λ (l : List ℕ). chosen l segments) (take_more places k 0 low)
    ∙ flat_map-append (one_at segments) (take k places) (get_or places k 0 ∷ [])
    ∙ ap (λ (l : List Extent). chosen (take k places) segments ++ l) (append-nil (one_at segments (get_or places k 0)))
