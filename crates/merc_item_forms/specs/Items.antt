-- What an item of a module is, told by its term.
use Rattle.std.specs.Prelude.{ℕ, Bool, ◌==◌, ◌||◌, List, [], ◌∷◌, Option, Some, None, if◌then◌else◌}
use Rattle.std.specs.List.{list_any}
use Rattle.merc_base.specs.Names.{colon_minus_name, grammar_arrow_name, module_name, end_module_name, import_module_name, mode_name, type_name, type_arrow_name, equal_equal_name, semicolon_name, comma_name, pred_name, func_name, is_name, interface_name, implementation_name}
use Rattle.merc_base.specs.declared.place.Place.{Place}
use Rattle.merc_tree.specs.Term.{Term, Application, none, more, span_of}
use Rattle.merc_operands.specs.Members.{chain}
use Rattle.merc_operands.specs.Operands.{plain_name}

-- An item opens or ends the module, opens a section, imports units, declares a type, a predicate or a mode, or is a clause. Else it is a declaration
-- that the profile leaves out, among them types that are not declared by constructors, or of no known form.
pub data Item : Type 0 where
  Opening : (name : ℕ) → Item
  Ending : (name : ℕ) → Item
  Section : Item
  Import : (units : List Term) → Item
  TypeItem : (head : Term) (constructors : List Term) → Item
  PredicateItem : (head : Term) (category : Option Term) → Item
  ModeItem : (head : Term) (category : Option Term) → Item
  ClauseItem : (head : Term) (body : Option Term) → Item
  OtherType : (head : Term) → Item
  OtherFunction : Item
  OtherGrammar : Item
  OtherDeclaration : Item
  Formless : Item

abbrev pub opening : Option ℕ → Item
opening None = Formless
opening (Some name) = Opening name

abbrev pub ending : Option ℕ → Item
ending None = Formless
ending (Some name) = Ending name

-- `H ---> C ; D` declares a type. What else stands behind `type` is left out: `H == T` has the head H, and anything else is a head.
abbrev pub type_item : Term → Item
type_item (Application name None (more first (more second none)) span) =
    if name == type_arrow_name then TypeItem first (chain semicolon_name second)
    else if name == equal_equal_name then OtherType first
    else OtherType (Application name None (more first (more second none)) span)
type_item other = OtherType other

-- `H is C` has a category
abbrev pub with_category : (Term → Option Term → Item) → Term → Item
with_category make (Application name None (more first (more second none)) span) =
    if name == is_name then make first (Some second) else make (Application name None (more first (more second none)) span) None
with_category make other = make other None

-- the words of declarations
abbrev pub is_word : ℕ → Bool
is_word name =
    list_any (λ word. name == word)
    (module_name ∷ end_module_name ∷ import_module_name ∷ mode_name ∷ type_name ∷ pred_name ∷ interface_name ∷ implementation_name ∷ [])

-- a declaration by its word alone
abbrev pub wider : ℕ → Item
wider word = if word == func_name then OtherFunction else if is_word word then Formless else OtherDeclaration

-- a declaration whose word has one argument, or none
abbrev pub unary : ℕ → Term → Item
unary word argument =
    if word == module_name then opening (plain_name argument)
    else if word == end_module_name then ending (plain_name argument)
    else if word == import_module_name then Import (chain comma_name argument)
    else if word == mode_name then with_category ModeItem argument
    else if word == type_name then type_item argument
    else if word == pred_name then with_category PredicateItem argument
    else wider word

abbrev pub nullary : ℕ → Item
nullary word = if (word == interface_name) || (word == implementation_name) then Section else wider word

abbrev pub declaration : Term → Item
declaration (Application word None none span) = nullary word
declaration (Application word None (more argument none) span) = unary word argument
declaration (Application word None arguments span) = wider word
declaration (Application word (Some qualifier) arguments span) = OtherDeclaration
declaration other = Formless

-- `:- D` is a declaration, `H :- B` a clause, `A --> B` a grammar rule, anything else a clause without a body.
abbrev pub item_of : Term → Item
item_of (Application name None (more only none) span) =
    if name == colon_minus_name then declaration only else ClauseItem (Application name None (more only none) span) None
item_of (Application name None (more first (more second none)) span) =
    if name == colon_minus_name then ClauseItem first (Some second)
    else if name == grammar_arrow_name then OtherGrammar
    else ClauseItem (Application name None (more first (more second none)) span) None
item_of other = ClauseItem other None

-- an item stands where its term begins
abbrev pub place_of : Term → Place
place_of term = record { byte = (span_of term).first; line = (span_of term).line }
