-- A core, or why there is none, from what the catalog and the pages answer.
use Rattle.std.proofs.Common.{◌≡◌, ℕ, inl, inr, List, None, refl, sym, subst, arith}
use Rattle.ov_host.specs.declared.area.Extent.{Extent}
use Rattle.ov_journal.specs.Held as journals
use Rattle.ov_pages.specs.declared.errors.PagesErr.{PagesErr}
use Rattle.ov_pages.specs.declared.errors.PagesErr.TheVariants as pages
use Rattle.ov_pages.specs.Answers.{IsCause}
use Rattle.ov_pages.specs.Live.{AreReserved, times_covered, too_high_page}
use Rattle.ov_pages.specs.Sets.{Reserved}
use Rattle.ov_catalog.specs.Extents.{covers, live}
use Rattle.ov_catalog.specs.Numbers.{Numbers}
use Rattle.ov_core.specs.Held.{IsReplay}
use Rattle.ov_core.specs.Held.{Held}
use Rattle.ov_host.specs.declared.area.Area.TheVariants.{Pages, Journal}
use Rattle.ov_open.specs.declared.errors.OpenErr.{OpenErr}
use Rattle.ov_open.specs.declared.errors.OpenErr.TheVariants as errors
use Rattle.ov_open.specs.Refusing.{IsMissing, IsOff, SharesNone}
use Rattle.ov_open.specs.Building.{AreThere, IsBuilt, NotBuilt, NotReserved, of_pages}
use Rattle.ov_open.proofs.Counting.{counted, least_twice}
use Rattle.ov_open.proofs.Low.{never_high}

shares_none : (es : List Extent) (reserved : Reserved) → AreReserved es reserved → SharesNone es
shares_none es reserved is = λ page. let same : times_covered es page ≡ covers es page = counted es page in omega (arith, same, is.once page)

pub pages_refuse : (es : List Extent) (there : ℕ) (why : PagesErr) → too_high_page es ≡ None → IsCause es why → NotReserved (of_pages why) es there
pages_refuse es there (pages.TooHigh page) low is = cc
pages_refuse es there (pages.Overlap page) low is = inl (least_twice es page is)
pages_refuse es there pages.Memory low is = tt

pub page_missing : (es : List Extent) (there page : ℕ) (reserved : Reserved) → AreReserved es reserved → IsMissing es there page → IsOff es there page
page_missing es there page reserved is missing = inr (shares_none es reserved is, missing)

module _ (journal : journals.Numbers) (payloads : List (List ℕ)) (there : ℕ) (n : Numbers Extent Extent) (es : List Extent) (replays : IsReplay journal.format payloads n) (are : es ≡ live n) where
  pub low : too_high_page es ≡ None
  low = subst (λ (xs : List Extent). too_high_page xs ≡ None) (sym are) (never_high journal.format payloads n replays)

  pub not_built : (why : OpenErr) → NotReserved why es there → NotBuilt why journal payloads there
  not_built errors.Host is = absurd is
  not_built errors.Memory is = tt
  not_built errors.NotAStore is = absurd is
  not_built (errors.Format found) is = absurd is
  not_built (errors.Damaged Journal place) is = absurd is
  not_built (errors.Damaged Pages page) is =
      record { numbers = n; replays = replays; off = subst (λ (xs : List Extent). IsOff xs there page) are is }

  pub built : (reserved : Reserved) (held : Held) → held ≡ record { journal = journal; numbers = n } → AreReserved es reserved → AreThere es there
      → IsBuilt journal payloads there held
  built reserved held is once all =
      subst (λ (h : Held). IsBuilt journal payloads there h) (sym is)
      (record {
        journal = refl;
        replays = replays;
        apart = record {
          once = subst SharesNone are (shares_none es reserved once);
          inside = subst (λ (xs : List Extent). AreThere xs there) are all;
        };
      })
