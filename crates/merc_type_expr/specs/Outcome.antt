-- What it comes to where two types are unified in place.
use Rattle.std.specs.Prelude.{◌≡◌, Bool, true, false}
use Rattle.merc_tree.specs.Types.{TypeExpr}
use Rattle.merc_type_expr.specs.Unifier.{Bindings, IsUnifier, HasNoUnifier}

-- Either the substitution becomes the most general unifier under the old one, or there is none and it stays as it is.
abbrev pub BecomesUnifier : Bool → Bindings → TypeExpr → TypeExpr → Bindings → Type 0
BecomesUnifier true new a b old = IsUnifier new a b old
BecomesUnifier false new a b old = HasNoUnifier a b old × (new ≡ old)
