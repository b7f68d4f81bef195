-- What the code's items stand for.
use Rattle.merc_base.specs.Names.{comma_name, semicolon_name}
use Rattle.merc_item_forms.specs.declared.item.Item.{Item as CodeItem}
use Rattle.merc_item_forms.specs.declared.item.Item.TheVariants.{Opening as CodeOpening, Ending as CodeEnding, Section as CodeSection, Import as CodeImport, «Type» as CodeType, Predicate as CodePredicate, Mode as CodeMode, Clause as CodeClause, OtherType as CodeOtherType, OtherFunction as CodeOtherFunction, OtherGrammar as CodeOtherGrammar, OtherDeclaration as CodeOtherDeclaration, Formless as CodeFormless}
use Rattle.merc_item_forms.specs.Items.{Item, Opening, Ending, Section, Import, TypeItem, PredicateItem, ModeItem, ClauseItem, OtherType, OtherFunction, OtherGrammar, OtherDeclaration, Formless}
use Rattle.merc_operands.specs.Members.{chain}

-- an import and a type of the code hold the root of their chain
abbrev pub item_value : CodeItem → Item
item_value (CodeOpening name) = Opening name
item_value (CodeEnding name) = Ending name
item_value CodeSection = Section
item_value (CodeImport root) = Import (chain comma_name root)
item_value (CodeType head root) = TypeItem head (chain semicolon_name root)
item_value (CodePredicate head category) = PredicateItem head category
item_value (CodeMode head category) = ModeItem head category
item_value (CodeClause head body) = ClauseItem head body
item_value (CodeOtherType head) = OtherType head
item_value CodeOtherFunction = OtherFunction
item_value CodeOtherGrammar = OtherGrammar
item_value CodeOtherDeclaration = OtherDeclaration
item_value CodeFormless = Formless
