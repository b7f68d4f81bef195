-- What items are, by the operands of their terms.
use Rattle.std.proofs.Common.{◌≡◌, ◌==◌, Bool, true, false, Option, Some, None, if◌then◌else◌, refl}
use Rattle.merc_base.specs.Names.{colon_minus_name, grammar_arrow_name, type_arrow_name, equal_equal_name, semicolon_name, is_name}
use Rattle.merc_tree.specs.Term.{Term, Variable, Integer, Text, Application, none, more}
use Rattle.merc_item_forms.specs.Items.{Item, OtherType, OtherGrammar, OtherDeclaration, Formless, TypeItem, ClauseItem, item_of, declaration, nullary, unary, wider, type_item, with_category}
use Rattle.merc_operands.specs.Members.{chain}
use Rattle.merc_operands.specs.Operands.{operands_of, head_and_category}
use Rattle.merc_operands.specs.declared.operands.Operands.{Operands}
use Rattle.merc_operands.specs.declared.operands.Operands.TheVariants.{Zero, One, Two, Many, Qualified, NotApplied}

abbrev pub item_by : Term → Operands → Item
item_by whole (Zero name) = ClauseItem whole None
item_by whole (One name only) = if name == colon_minus_name then declaration only else ClauseItem whole None
item_by whole (Two name first second) = if name == colon_minus_name then ClauseItem first (Some second) else if name == grammar_arrow_name then OtherGrammar else ClauseItem whole None
item_by whole (Many name) = ClauseItem whole None
item_by whole Qualified = ClauseItem whole None
item_by whole NotApplied = ClauseItem whole None

pub item_of-by : (term : Term) → item_of term ≡ item_by term (operands_of term)
item_of-by (Variable name span) = refl
item_of-by (Integer value span) = refl
item_of-by (Text text span) = refl
item_of-by (Application name None none span) = refl
item_of-by (Application name None (more only none) span) = refl
item_of-by (Application name None (more first (more second none)) span) = refl
item_of-by (Application name None (more first (more second (more third rest))) span) = refl
item_of-by (Application name (Some qualifier) arguments span) = refl

abbrev pub declaration_by : Operands → Item
declaration_by (Zero word) = nullary word
declaration_by (One word argument) = unary word argument
declaration_by (Two word first second) = wider word
declaration_by (Many word) = wider word
declaration_by Qualified = OtherDeclaration
declaration_by NotApplied = Formless

pub declaration-by : (term : Term) → declaration term ≡ declaration_by (operands_of term)
declaration-by (Variable name span) = refl
declaration-by (Integer value span) = refl
declaration-by (Text text span) = refl
declaration-by (Application name None none span) = refl
declaration-by (Application name None (more only none) span) = refl
declaration-by (Application name None (more first (more second none)) span) = refl
declaration-by (Application name None (more first (more second (more third rest))) span) = refl
declaration-by (Application name (Some qualifier) arguments span) = refl

abbrev pub type_by : Term → Operands → Item
type_by whole (Zero word) = OtherType whole
type_by whole (One word argument) = OtherType whole
type_by whole (Two name head second) =
    if name == type_arrow_name then TypeItem head (chain semicolon_name second) else if name == equal_equal_name then OtherType head else OtherType whole
type_by whole (Many word) = OtherType whole
type_by whole Qualified = OtherType whole
type_by whole NotApplied = OtherType whole

pub type_item-by : (term : Term) → type_item term ≡ type_by term (operands_of term)
type_item-by (Variable name span) = refl
type_item-by (Integer value span) = refl
type_item-by (Text text span) = refl
type_item-by (Application name None none span) = refl
type_item-by (Application name None (more only none) span) = refl
type_item-by (Application name None (more first (more second none)) span) = refl
type_item-by (Application name None (more first (more second (more third rest))) span) = refl
type_item-by (Application name (Some qualifier) arguments span) = refl

abbrev both : (Term → Option Term → Item) → (Term × Option Term) → Item
both make parts = make parts.0 parts.1

two_ways : (test : Bool) (make : Term → Option Term → Item) (head category whole : Term)
    → (if test then make head (Some category) else make whole None) ≡ both make (if test then (head, Some category) else (whole, None))
two_ways true make head category whole = refl
two_ways false make head category whole = refl

pub with_category-by : (make : Term → Option Term → Item) (term : Term) → with_category make term ≡ make (head_and_category term).0 (head_and_category term).1
with_category-by make (Variable name span) = refl
with_category-by make (Integer value span) = refl
with_category-by make (Text text span) = refl
with_category-by make (Application name None none span) = refl
with_category-by make (Application name None (more only none) span) = refl
with_category-by make (Application name None (more first (more second none)) span) =
    two_ways (name == is_name) make first second (Application name None (more first (more second none)) span)
with_category-by make (Application name None (more first (more second (more third rest))) span) = refl
with_category-by make (Application name (Some qualifier) arguments span) = refl
