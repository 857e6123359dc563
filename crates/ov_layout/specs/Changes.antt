-- What a new version changes.
--     IsNew vid parts      a version that no partition knows yet, nor a later one
--     with_own vid records segment layout      it gets a partition of its own
--     with_joined vid id added segment layout      it joins a partition
use Rattle.std.specs.Prelude.{◌≡◌, ℕ, ◌+◌, ◌≤◌, ◌<◌, true, ◌==◌, if◌then◌else◌, List, [], ◌∷◌, ◌++◌, map, Option, None, Some}
use Rattle.ov_host.specs.declared.area.Extent.{Extent}
use Rattle.ov_layout.specs.declared.part.Part.{Part}
use Rattle.ov_layout.specs.declared.room.Room.{Room}
use Rattle.ov_layout.specs.declared.room.Room.TheVariants.{Nothing, Placing, Joining}
use Rattle.ov_layout.specs.Parts.{Partitions, is_number}

-- the vid is above all of these
abbrev pub IsAbove : ℕ → List ℕ → Type 0
IsAbove vid [] = Unit {0}
IsAbove vid (v ∷ vs) = (v < vid) × IsAbove vid vs

-- The vid is above all whose records a partition holds, and so above all that are placed: a new version has the next vid.
abbrev pub IsNew : ℕ → List Part → Type 0
IsNew vid [] = Unit {0}
IsNew vid (part ∷ parts) = IsAbove vid part.holds × IsNew vid parts

-- the partition that room is asked for, if one is, is there
abbrev pub IsThere : Option ℕ → List Part → Type 0
IsThere None parts = Unit {0}
IsThere (Some id) parts = is_number parts id ≡ true

-- the room that is asked for: for a join where a partition is named
abbrev pub room_for : ℕ → Option ℕ → Room
room_for versions None = Placing versions
room_for versions (Some id) = Joining id

-- there is room to place so many versions in a new partition
abbrev pub IsRoomFor : ℕ → Room → Type 0
IsRoomFor count Nothing = ⊥
IsRoomFor count (Placing versions) = count ≤ versions
IsRoomFor count (Joining part) = ⊥

-- a segment as a list; an extent of no bytes is none
abbrev pub extents_of : Extent → List Extent
extents_of segment = if segment.bytes == 0 then [] else segment ∷ []

abbrev pub own_part : ℕ → ℕ → ℕ → Extent → Part
own_part id vid records segment = record {
  id = id;
  versions = vid ∷ [];
  holds = vid ∷ [];
  records = records;
  segments = extents_of segment;
}

abbrev pub with_own : ℕ → ℕ → Extent → Partitions → Partitions
with_own vid records segment layout = record {
  parts = layout.parts ++ own_part layout.next vid records segment ∷ [];
  next = layout.next + 1;
  room = Nothing;
}

-- a partition that takes a version more, with so many records that it lacked
abbrev pub joined_part : ℕ → ℕ → Extent → Part → Part
joined_part vid added segment part = record part {
  versions = part.versions ++ vid ∷ [];
  holds = part.holds ++ vid ∷ [];
  records = part.records + added;
  segments = part.segments ++ extents_of segment;
}

abbrev pub joined_at : ℕ → ℕ → ℕ → Extent → List Part → List Part
joined_at vid id added segment parts = map (λ part. if part.id == id then joined_part vid added segment part else part) parts

abbrev pub with_joined : ℕ → ℕ → ℕ → Extent → Partitions → Partitions
with_joined vid id added segment layout = record {
  parts = joined_at vid id added segment layout.parts;
  next = layout.next;
  room = Nothing;
}
