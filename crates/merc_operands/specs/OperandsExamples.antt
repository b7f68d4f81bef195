-- Worked examples of terms by their operands, which the prover computes, and false statements that it refutes.
use Rattle.std.specs.Prelude.{◌≡◌, ℕ, [], ◌∷◌, map, Some, None, refl, pos}
use Rattle.merc_base.specs.Names.{nil_name, semicolon_name, comma_name, is_name, equal_name, int_name, det_name, module_name, true_name, list_name}
use Rattle.merc_tree.specs.Term.{Term, Variable, Integer, Text, Application, none, more, no_span}
use Rattle.merc_operands.specs.Operands.{plain_name, by_count, operands_of, split_category, head_and_category}
use Rattle.merc_operands.specs.Members.{chain, chain_all, link_by, link_of, stacked}
use Rattle.merc_operands.specs.declared.operands.Operands.TheVariants.{Zero, One, Two, Many, Qualified, NotApplied}

abbrev plain : ℕ → Term
plain name = Application name None none no_span

abbrev only : ℕ → Term → Term
only name argument = Application name None (more argument none) no_span

abbrev both : ℕ → Term → Term → Term
both operator first second = Application operator None (more first (more second none)) no_span

abbrev three : ℕ → Term → Term → Term → Term
three name first second third = Application name None (more first (more second (more third none))) no_span

abbrev nil : Term
nil = plain nil_name

abbrev int : Term
int = plain int_name

abbrev true : Term
true = plain true_name

-- `module.list`
abbrev qualified : Term
qualified = Application list_name (Some module_name) none no_span

-- an operator between two terms, with a qualifier
abbrev qualified_both : ℕ → Term → Term → Term
qualified_both operator first second = Application operator (Some module_name) (more first (more second none)) no_span

-- terms by their operands

pub by_count-each : by_count list_name [] ∷ by_count list_name (nil ∷ []) ∷ by_count list_name (nil ∷ int ∷ []) ∷ by_count list_name (nil ∷ int ∷ true ∷ []) ∷ []
    ≡ Zero list_name ∷ One list_name nil ∷ Two list_name nil int ∷ Many list_name ∷ []
by_count-each = refl

pub operands_of-zero : operands_of int ≡ Zero int_name
operands_of-zero = refl

pub operands_of-one : operands_of (only list_name int) ≡ One list_name int
operands_of-one = refl

pub operands_of-two : operands_of (both comma_name nil int) ≡ Two comma_name nil int
operands_of-two = refl

pub operands_of-many : operands_of (three list_name nil int true) ≡ Many list_name
operands_of-many = refl

pub operands_of-qualified : operands_of qualified ≡ Qualified
operands_of-qualified = refl

pub operands_of-variable : operands_of (Variable list_name no_span) ≡ NotApplied
operands_of-variable = refl

pub operands_of-integer : operands_of (Integer (pos 3) no_span) ≡ NotApplied
operands_of-integer = refl

pub operands_of-text : operands_of (Text list_name no_span) ≡ NotApplied
operands_of-text = refl

pub operands_of-not : operands_of (both comma_name nil int) ≡ Two comma_name int nil → ⊥
operands_of-not same = cc

-- `true is det`
pub head_and_category-example : head_and_category (both is_name true (plain det_name)) ≡ (true, Some (plain det_name))
head_and_category-example = refl

-- `true = det`
pub head_and_category-none : head_and_category (both equal_name true (plain det_name)) ≡ (both equal_name true (plain det_name), None)
head_and_category-none = refl

pub head_and_category-one : head_and_category (only is_name true) ≡ (only is_name true, None)
head_and_category-one = refl

-- only `is` between two terms says a category
pub head_and_category-others : map head_and_category (plain is_name ∷ three is_name nil int true ∷ qualified_both is_name true int ∷ Variable is_name no_span ∷ [])
    ≡ (plain is_name, None) ∷ (three is_name nil int true, None) ∷ (qualified_both is_name true int, None) ∷ (Variable is_name no_span, None) ∷ []
head_and_category-others = refl

-- the whole term is a head where there is no category
pub split_category-example : split_category nil (Two is_name int true) ≡ (int, Some true)
split_category-example = refl

pub split_category-none : split_category nil (Two equal_name int true) ≡ (nil, None)
split_category-none = refl

pub plain_name-example : plain_name int ≡ Some int_name
plain_name-example = refl

pub plain_name-qualified : plain_name qualified ≡ None
plain_name-qualified = refl

pub plain_name-applied : plain_name (only list_name int) ≡ None
plain_name-applied = refl

pub plain_name-others : map plain_name (Variable int_name no_span ∷ Integer (pos 3) no_span ∷ Text int_name no_span ∷ []) ≡ None ∷ None ∷ None ∷ []
plain_name-others = refl

-- chains

-- `[], int, true`
pub chain-example : chain comma_name (both comma_name nil (both comma_name int true)) ≡ nil ∷ int ∷ true ∷ []
chain-example = refl

-- `([], int), true`
pub chain-left : chain comma_name (both comma_name (both comma_name nil int) true) ≡ nil ∷ int ∷ true ∷ []
chain-left = refl

-- `[] ; int, true`
pub chain-other : chain semicolon_name (both semicolon_name nil (both comma_name int true)) ≡ nil ∷ both comma_name int true ∷ []
chain-other = refl

-- an application of the operator's name to three terms is no chain
pub chain-three : chain comma_name (three comma_name nil int true) ≡ three comma_name nil int true ∷ []
chain-three = refl

-- nor is one to a single term, or one with a qualifier
pub chain-one : chain comma_name (only comma_name int) ≡ only comma_name int ∷ []
chain-one = refl

pub chain-qualified : chain comma_name (qualified_both comma_name nil int) ≡ qualified_both comma_name nil int ∷ []
chain-qualified = refl

pub chain_all-example : chain_all comma_name (more (both comma_name nil int) (more true none)) ≡ nil ∷ int ∷ true ∷ []
chain_all-example = refl

pub chain-not : chain semicolon_name (both comma_name nil int) ≡ nil ∷ int ∷ [] → ⊥
chain-not same = cc

pub link_of-example : link_of comma_name (both comma_name nil int) ≡ Some (nil, int)
link_of-example = refl

pub link_of-other : link_of semicolon_name (both comma_name nil int) ≡ None
link_of-other = refl

pub link_of-none : map (link_of comma_name) (plain comma_name ∷ only comma_name int ∷ three comma_name nil int true ∷ qualified_both comma_name nil int ∷ Variable comma_name no_span ∷ [])
    ≡ None ∷ None ∷ None ∷ None ∷ None ∷ []
link_of-none = refl

pub link_by-example : link_by comma_name (Two comma_name nil int) ≡ Some (nil, int)
link_by-example = refl

-- the last of the stack first
pub stacked-example : stacked comma_name (nil ∷ both comma_name int true ∷ []) ≡ int ∷ true ∷ nil ∷ []
stacked-example = refl

pub stacked-not : stacked comma_name (nil ∷ int ∷ []) ≡ nil ∷ int ∷ [] → ⊥
stacked-not same = cc
