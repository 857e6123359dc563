-- Room, and numbers that fit.
use Rattle.std.proofs.Common.{◌≡◌, ℕ, ◌-◌, ◌^◌, ◌<◌, ◌≤◌, true, max, List, length, get_or, sym, ap, subst, ◌∙◌, arith, vec_len, vec_capacity, Vec, Global}
use Rattle.std.specs.Prelude.{All}
use Rattle.ov_layout.specs.declared.index.Entry.{Entry}
use Rattle.ov_layout.specs.declared.part.Part.{Part}
use Rattle.ov_layout.specs.declared.room.Room.{Room}
use Rattle.ov_layout.specs.declared.room.Room.TheVariants.{Nothing, Placing, Joining}
use Rattle.ov_layout.specs.declared.spares.Spares.{Spares}
use Rattle.ov_layout.specs.Parts.{Ascend, is_number}
use Rattle.ov_layout.specs.Index.{numbers_of, versions_in}
use Rattle.ov_layout.specs.Changes.{IsRoomFor}
use Rattle.ov_layout.specs.Spares.{HaveRoom, FitsPart, FitsNumbered}
use Rattle.ov_layout.specs.Kept.{AreNumbers, HasSpace, IsReady, NeedsEntry}
use Rattle.ov_layout.proofs.VidLemmas.{keys-one}
use Rattle.ov_layout.proofs.LeaveLemmas.{get_or-any}
use Rattle.ov_layout.proofs.SumLemmas.{entries-few, parts-few, stored-bound, cost-fits, stored-fits}

-- room to place so many versions
pub record HasPlace (count : ℕ) (parts : Vec Part Global) (index : Vec Entry Global) (fresh : Spares) : Type 0 where
  pub parts_fit : vec_len parts < vec_capacity parts
  pub index_fit : vec_len index < vec_capacity index
  pub fresh_fit : HaveRoom 1 (max 1 count) 1 fresh

placing : (room : Room) (count : ℕ) (parts : Vec Part Global) (index : Vec Entry Global) (fresh spare : Spares) → IsRoomFor count room → IsReady room parts fresh spare → NeedsEntry room index → HasPlace count parts index fresh
placing Nothing count parts index fresh spare fits ready entry = absurd fits
placing (Joining id) count parts index fresh spare fits ready entry = absurd fits
placing (Placing versions) count parts index fresh spare fits ready entry =
    let parts_len = parts.ok.0 in
    let index_len = index.ok.0 in
    let room = ready.1 in
    record {
      parts_fit = omega (arith, parts_len, ready.0);
      index_fit = omega (arith, index_len, entry);
      fresh_fit = record { versions_fit = room.versions_fit; holds_fit = (let le = room.holds_fit in omega (arith, le, fits)); segments_fit = room.segments_fit };
    }

pub placing-room : (room : Room) (count : ℕ) (parts : Vec Part Global) (index : Vec Entry Global) (fresh spare : Spares) → IsRoomFor count room → HasSpace room parts index fresh spare → HasPlace count parts index fresh
placing-room room count parts index fresh spare fits space = placing room count parts index fresh spare fits space.ready space.entry

-- the numbers fit
pub record NumbersFit (parts : List Part) (stored cost : ℕ) : Type 0 where
  pub stored_fits : stored < 2 ^ 64
  pub cost_fits : cost < 2 ^ 64
  pub versions_fit : versions_in parts ≤ 2 ^ 32

pub numbers-fit : (index : List Entry) (parts : List Part) (next stored cost : ℕ) → AreNumbers index parts next stored cost → NumbersFit parts stored cost
numbers-fit index parts next stored cost h =
    let count = h.index_is.count in
    let most = entries-few 0 index h.index_is.entries in
    let versions : versions_in parts ≤ 2 ^ 32 = omega (arith, count, most) in
    let s = stored-fits 1 next parts h.sound.sound h.few versions in
    let c = cost-fits parts h.few versions in
    record { stored_fits = (let e = h.stored_is in omega (arith, e, s)); cost_fits = (let e = h.cost_is in omega (arith, e, c)); versions_fit = versions }

-- the spare lists fit the one partition with the number
pub fits-numbered : (parts : List Part) (at id : ℕ) (d : Part) (spare : Spares) → Ascend 0 (numbers_of parts) → at < length parts → (get_or parts at d).id ≡ id → FitsPart spare (get_or parts at d) → All (FitsNumbered spare id) parts
fits-numbered parts at id d spare ascend within here fits k e lt same =
    let first : (get_or parts at e) ≡ (get_or parts at d) = get_or-any parts at e d within in
    let place : at ≡ k = keys-one (λ (p : Part). p.id) parts e 0 at k ascend within lt (ap (λ (p : Part). p.id) first ∙ here ∙ sym same) in
    subst (λ (i : ℕ). FitsPart spare (get_or parts i e)) place (subst (FitsPart spare) (sym first) fits)

-- room for a join
pub record HasJoin (id : ℕ) (parts : Vec Part Global) (index : Vec Entry Global) (spare : Spares) : Type 0 where
  pub there : is_number parts.items id ≡ true
  pub fits : All (FitsNumbered spare id) parts.items
  pub index_fit : vec_len index < vec_capacity index

pub joining-room : (room : Room) (id : ℕ) (parts : Vec Part Global) (index : Vec Entry Global) (fresh spare : Spares) → room ≡ Joining id → HasSpace room parts index fresh spare → HasJoin id parts index spare
joining-room room id parts index fresh spare e space =
    let ready : IsReady (Joining id) parts fresh spare = subst (λ (r : Room). IsReady r parts fresh spare) e space.ready in
    let entry : NeedsEntry (Joining id) index = subst (λ (r : Room). NeedsEntry r index) e space.entry in
    let len = index.ok.0 in
    record { there = ready.0; fits = ready.1; index_fit = omega (arith, len, entry) }

-- what is stored leaves room for one partition's records more
pub stored-leaves : (index : List Entry) (parts : List Part) (next stored cost : ℕ) → AreNumbers index parts next stored cost → stored ≤ 2 ^ 64 - 2 ^ 32
stored-leaves index parts next stored cost h =
    let count = h.index_is.count in
    let most = entries-few 0 index h.index_is.entries in
    let parts_few = parts-few 1 next parts h.sound.sound in
    let bound = stored-bound parts h.few in
    let is = h.stored_is in
    omega (arith, count, most, parts_few, bound, is)
