-- Plans as lists of what stands at the sites.
use Rattle.std.specs.Prelude.{◌≡◌, ℕ, List, Some, slice_get}
use Rattle.merc_rights.specs.declared.sites.Moved.{Moved}
use Rattle.merc_rights.specs.declared.sites.SiteInfo.{SiteInfo}
use Rattle.merc_plan.specs.Branches.{Plan}

-- what stands at each number
abbrev pub plan_of : List SiteInfo → Plan
plan_of infos number = slice_get infos number

-- these rights move at the site of this number
abbrev pub MovesAt : List SiteInfo → ℕ → List Moved → Type 0
MovesAt infos number moves = (info : SiteInfo) × (slice_get infos number ≡ Some info) × (info.moves ≡ moves)
