-- What reaches the page area.
use Rattle.std.specs.Prelude.{◌≡◌, ℕ, ◌+◌, ◌-◌, ◌*◌, min, List, length, take, drop}
use Rattle.ov_host.specs.declared.area.Area.TheVariants.{Pages}
use Rattle.ov_host.specs.declared.area.Extent.{Extent}
use Rattle.ov_host.specs.Host.{State, bytes_of, given}

-- how many bytes of an extent a buffer of this room can take from a place on
abbrev pub room_at : Extent → ℕ → ℕ → ℕ
room_at extent from room = min room (extent.bytes - from)

-- A read of n bytes of an extent, from a place of it on, into a buffer that held old and holds new. What the read
-- didn't reach stays.
pub record Fetches (extent : Extent) (from n : ℕ) (s : State) (old new : List ℕ) : Type 0 where
  pub count : n ≡ given (bytes_of Pages s) (4096 * extent.page + from) (room_at extent from (length old))
  pub bytes : take n new ≡ take n (drop (4096 * extent.page + from) (bytes_of Pages s))
  pub rest : drop (room_at extent from (length old)) new ≡ drop (room_at extent from (length old)) old
