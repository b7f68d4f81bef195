-- The integers of the clauses that items are have 64 bits where those of their terms have.
use Rattle.std.proofs.Common.{ℕ, Bool, ◌==◌, ◌||◌, sym, subst, Option, Some, None, if◌then◌else◌}
use Rattle.std.specs.List.{AllByRecursion}
use Rattle.merc_base.specs.Names.{colon_minus_name, end_module_name, equal_equal_name, func_name, grammar_arrow_name, implementation_name, import_module_name, interface_name, mode_name, module_name, pred_name, semicolon_name, comma_name, type_arrow_name, type_name}
use Rattle.merc_base.specs.declared.place.Span.{Span}
use Rattle.merc_tree.specs.Term.{Term, Variable, Integer, Text, Application, none, more, HasWords}
use Rattle.merc_operands.specs.Members.{chain}
use Rattle.merc_operands.specs.Operands.{operands_of, plain_name}
use Rattle.merc_operands.specs.declared.operands.Operands.{Operands}
use Rattle.merc_operands.specs.declared.operands.Operands.TheVariants.{Zero, One, Two, Many, Qualified, NotApplied}
use Rattle.merc_item_forms.specs.Items.{Item, Opening, Ending, Section, Import, TypeItem, PredicateItem, ModeItem, ClauseItem, OtherType, OtherFunction, OtherGrammar, OtherDeclaration, Formless, declaration, ending, is_word, item_of, opening, type_item, unary, wider, with_category}
use Rattle.merc_item_forms.proofs.ItemLaws.{declaration_by, declaration-by, type_by, type_item-by, with_category-by}
use Rattle.merc_items.specs.ModuleOf.{clauses_of}
use Rattle.merc_program_laws.specs.ClauseWords.{BodyHasWords, ClauseHasWords}
use Rattle.merc_program_laws.proofs.Lists.{if_holds}

abbrev pub ItemHasWords : Item → Type 0
ItemHasWords (ClauseItem head body) = HasWords head × BodyHasWords body
ItemHasWords other = Unit {0}

by_if : (b : Bool) (one other : Item) → ItemHasWords one → ItemHasWords other → ItemHasWords (if b then one else other)
by_if b one other h k = if_holds ItemHasWords b one other h k

-- declarations are no clauses

wider_words : (word : ℕ) → ItemHasWords (wider word)
wider_words word = by_if (word == func_name) OtherFunction _ tt (by_if (is_word word) Formless OtherDeclaration tt tt)

opening_words : (name : Option ℕ) → ItemHasWords (opening name)
opening_words None = tt
opening_words (Some name) = tt

ending_words : (name : Option ℕ) → ItemHasWords (ending name)
ending_words None = tt
ending_words (Some name) = tt

types_words : (whole : Term) (operands : Operands) → ItemHasWords (type_by whole operands)
types_words whole (Zero name) = tt
types_words whole (One name only) = tt
types_words whole (Two name head second) =
    by_if (name == type_arrow_name) (TypeItem head (chain semicolon_name second)) _ tt (by_if (name == equal_equal_name) (OtherType head) (OtherType whole) tt tt)
types_words whole (Many name) = tt
types_words whole Qualified = tt
types_words whole NotApplied = tt

mode_words : (argument : Term) → ItemHasWords (with_category ModeItem argument)
mode_words argument = subst ItemHasWords (sym (with_category-by ModeItem argument)) tt

predicate_words : (argument : Term) → ItemHasWords (with_category PredicateItem argument)
predicate_words argument = subst ItemHasWords (sym (with_category-by PredicateItem argument)) tt

type_words : (argument : Term) → ItemHasWords (type_item argument)
type_words argument = subst ItemHasWords (sym (type_item-by argument)) (types_words argument (operands_of argument))

unary_words : (word : ℕ) (argument : Term) → ItemHasWords (unary word argument)
unary_words word argument =
    by_if (word == module_name) (opening (plain_name argument)) _ (opening_words (plain_name argument))
    (by_if (word == end_module_name) (ending (plain_name argument)) _ (ending_words (plain_name argument))
    (by_if (word == import_module_name) (Import (chain comma_name argument)) _ tt
    (by_if (word == mode_name) (with_category ModeItem argument) _ (mode_words argument)
    (by_if (word == type_name) (type_item argument) _ (type_words argument)
    (by_if (word == pred_name) (with_category PredicateItem argument) (wider word) (predicate_words argument) (wider_words word))))))

declared_words : (operands : Operands) → ItemHasWords (declaration_by operands)
declared_words (Zero word) = by_if ((word == interface_name) || (word == implementation_name)) Section (wider word) tt (wider_words word)
declared_words (One word argument) = unary_words word argument
declared_words (Two word first second) = wider_words word
declared_words (Many word) = wider_words word
declared_words Qualified = tt
declared_words NotApplied = tt

declaration_words : (term : Term) → ItemHasWords (declaration term)
declaration_words term = subst ItemHasWords (sym (declaration-by term)) (declared_words (operands_of term))

pub item_words : (term : Term) → HasWords term → ItemHasWords (item_of term)
item_words (Variable name span) words = (tt, tt)
item_words (Integer value span) words = (words, tt)
item_words (Text text span) words = (tt, tt)
item_words (Application name None none span) words = (tt, tt)
item_words (Application name None (more only none) span) words =
    by_if (name == colon_minus_name) (declaration only) (ClauseItem (Application name None (more only none) span) None) (declaration_words only) (words, tt)
item_words (Application name None (more first (more second none)) span) words =
    by_if (name == colon_minus_name) (ClauseItem first (Some second)) _ (words.0, words.1.0)
    (by_if (name == grammar_arrow_name) OtherGrammar (ClauseItem (Application name None (more first (more second none)) span) None) tt (words, tt))
item_words (Application name None (more first (more second (more third rest))) span) words = (words, tt)
item_words (Application name (Some qualifier) arguments span) words = (words, tt)

pub clauses_words : (span : Span) (item : Item) → ItemHasWords item → AllByRecursion ClauseHasWords (clauses_of span item)
clauses_words span (ClauseItem head body) words = (record { head = words.0; body = words.1 }, tt)
clauses_words span (Opening name) words = tt
clauses_words span (Ending name) words = tt
clauses_words span Section words = tt
clauses_words span (Import units) words = tt
clauses_words span (TypeItem head constructors) words = tt
clauses_words span (PredicateItem head category) words = tt
clauses_words span (ModeItem head category) words = tt
clauses_words span (OtherType head) words = tt
clauses_words span OtherFunction words = tt
clauses_words span OtherGrammar words = tt
clauses_words span OtherDeclaration words = tt
clauses_words span Formless words = tt
