-- What is made ready for a board, of each site.
use Rattle.std.specs.Prelude.{◌≡◌, ℕ, List, Some, length, slice_get}
use Rattle.merc_rights.specs.declared.sites.SiteInfo.{SiteInfo}
use Rattle.merc_carried.specs.Sharing.{shared_of, given_of}
use Rattle.merc_pool.specs.declared.shares.Share.{Share}

pub record IsShare (info : SiteInfo) (share : Share) : Type 0 where
  pub same_count : share.children ≡ info.children
  pub shared : share.shared.items ≡ shared_of info
  pub given : share.given.items ≡ given_of info

-- .. for each site, and for no more
pub record AreShares (sites : List SiteInfo) (shares : List Share) : Type 0 where
  pub same_length : length shares ≡ length sites
  pub each : (site : ℕ) (info : SiteInfo) (share : Share) → slice_get sites site ≡ Some info → slice_get shares site ≡ Some share → IsShare info share
