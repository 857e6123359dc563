-- Live extents, and what makes them unsound.
use Rattle.std.specs.Prelude.{◌≡◌, ℕ, ◌+◌, ◌^◌, ◌<◌, ◌≤◌, Bool, nat_lt, List, Option, None, option_map}
use Rattle.std.specs.List.{find, sum_by}
use Rattle.ov_host.specs.declared.area.Extent.{Extent}
use Rattle.ov_host.specs.Extent.{pages_of}
use Rattle.ov_pages.specs.Sets.{Reserved, holds, is_in_run, one_if}

-- whether an extent passes page 2^22
abbrev pub is_too_high : Extent → Bool
is_too_high e = nat_lt (2 ^ 22) (e.page + pages_of e)

-- the first page of the first extent that does
abbrev pub too_high_page : List Extent → Option ℕ
too_high_page live = option_map (λ e. e.page) (find is_too_high live)

-- how many of the extents cover a page
abbrev pub times_covered : List Extent → ℕ → ℕ
times_covered live page = sum_by (λ e. one_if (is_in_run e.page (pages_of e) page)) live

-- how many of the extents cover any page
abbrev pub count_covering : List Extent → ℕ
count_covering live = sum_by (λ e. one_if (nat_lt 0 (pages_of e))) live

-- no extent passes page 2^22, no page is covered twice, and the pages covered are those reserved
pub record AreReserved (live : List Extent) (reserved : Reserved) : Type 0 where
  pub low : too_high_page live ≡ None
  pub once : (page : ℕ) → times_covered live page ≤ 1
  pub pages : (page : ℕ) → holds reserved.pages page ≡ nat_lt 0 (times_covered live page)
  pub room : reserved.room ≡ count_covering live

-- no extent passes page 2^22, and this is the least page that is covered twice
pub record IsLeastOverlap (live : List Extent) (page : ℕ) : Type 0 where
  pub low : too_high_page live ≡ None
  pub twice : 2 ≤ times_covered live page
  pub least : (other : ℕ) → other < page → times_covered live other ≤ 1
