-- How the logic stores the bindings of a substitution.
use Rattle.std.specs.Coded.{Coded, coded_list, coded×, coded_ℕ}
use Rattle.merc_tree.specs.TypeTerms.{type_code}
use Rattle.merc_type_expr.specs.Unifier.{Bindings}

abbrev pub bindings_code : Coded Bindings
bindings_code = coded_list (coded× coded_ℕ type_code)
