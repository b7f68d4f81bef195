-- The modes that items declare, by their predicates.
use Rattle.std.specs.Prelude.{◌∷◌, List, [], map, Option, Some, None, if◌then◌else◌}
use Rattle.std.specs.Map.{lookup}
use Rattle.merc_base.specs.declared.place.Span.{Span}
use Rattle.merc_tree.specs.Shape.{arguments_of}
use Rattle.merc_tree.specs.declared.declarations.ModeDecl.{ModeDecl}
use Rattle.merc_items.specs.declared.declared_modes.ModeTable.{ModeTable}
use Rattle.merc_item_forms.specs.Items.{Item, Opening, Ending, Section, Import, TypeItem, PredicateItem, ModeItem, ClauseItem, OtherType, OtherFunction, OtherGrammar, OtherDeclaration, Formless}
use Rattle.merc_item_forms.specs.Forms.{argument_mode}
use Rattle.merc_base.specs.declared.groups.Key.{Key}
use Rattle.merc_entries.specs.Entries.{Entry, key_of, has_mode, are_keys}
use Rattle.merc_items.specs.ModuleOf.{mode_decl}

-- the predicate for which an item declares a mode
abbrev pub moded_predicate : Item → List Key
moded_predicate (PredicateItem head category) = if has_mode head category then key_of head else []
moded_predicate (ModeItem head category) = key_of head
moded_predicate (Opening name) = []
moded_predicate (Ending name) = []
moded_predicate Section = []
moded_predicate (Import units) = []
moded_predicate (TypeItem head constructors) = []
moded_predicate (ClauseItem head body) = []
moded_predicate (OtherType head) = []
moded_predicate OtherFunction = []
moded_predicate OtherGrammar = []
moded_predicate OtherDeclaration = []
moded_predicate Formless = []

-- the mode that an item declares, as of a predicate with its mode or of a mode's declaration
abbrev pub item_modes : Span → Item → List ModeDecl
item_modes span (PredicateItem head category) = mode_decl (map argument_mode (arguments_of head)) category span ∷ []
item_modes span (ModeItem head category) = mode_decl (map Some (arguments_of head)) category span ∷ []
item_modes span other = []

abbrev pub entry_modes : Entry → List ModeDecl
entry_modes entry = item_modes entry.span entry.item

abbrev pub listed : Option (List ModeDecl) → List ModeDecl
listed None = []
listed (Some modes) = modes

-- the modes that are kept for a predicate
abbrev pub kept_modes : ModeTable → List Key → List ModeDecl
kept_modes table predicate = listed (lookup (λ key. are_keys predicate (key ∷ [])) table.by_key.entries)
