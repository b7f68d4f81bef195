-- Worked examples of terms and of how deep they are nested, which the prover computes, and false statements that it refutes.
use Rattle.std.specs.Prelude.{◌≡◌, ℕ, pos, negsuc, List, [], ◌∷◌, Some, None, map, replicate, refl}
use Rattle.std.proofs.Common.{ap, arith}
use Rattle.std.proofs.Math.Facts.{sfits_lit}
use Rattle.merc_base.specs.Names.{ampersand_name, arrow_name, comma_name, cons_name, else_name, nil_name, semicolon_name}
use Rattle.merc_base.specs.declared.place.Span.{Span}
use Rattle.merc_tree.specs.Term.{Term, Variable, Integer, Text, Application, none, more, applied, enclosed, bare, span_of, with_span, no_span, list_of, terms_of, HasWords}
use Rattle.merc_tree.specs.declared.term.Shape.TheVariants.{Variable as VariableShape, Integer as IntegerShape, Text as TextShape, Application as ApplicationShape}
use Rattle.merc_tree.specs.Shape.{arguments_of, shape_of}
use Rattle.merc_tree.specs.Nesting.{nesting}

-- names of the examples, behind the constants

abbrev x_name : ℕ
x_name = 110

abbrev text_name : ℕ
text_name = 111

abbrev f_name : ℕ
f_name = 112

abbrev qualifier_name : ℕ
qualifier_name = 113

abbrev g_name : ℕ
g_name = 114

-- `X`, `7` and `"a"`

abbrev here : Span
here = record { first = 3; past = 4; line = 1 }

abbrev there : Span
there = record { first = 0; past = 9; line = 1 }

abbrev x : Term
x = Variable x_name here

abbrev seven : Term
seven = Integer (pos 7) here

abbrev text : Term
text = Text text_name here

abbrev nil : Term
nil = Application nil_name None none here

abbrev both : ℕ → Term → Term → Term
both name left right = Application name None (more left (more right none)) here

-- the last two of three terms become the arguments of `f`

abbrev f_of_two : Term
f_of_two = Application f_name None (more seven (more text none)) there

pub applied-example : applied f_name None 2 there (x ∷ seven ∷ text ∷ []) ≡ x ∷ f_of_two ∷ []
applied-example = refl

pub applied-none : applied f_name (Some qualifier_name) 0 there (x ∷ []) ≡ x ∷ Application f_name (Some qualifier_name) none there ∷ []
applied-none = refl

pub applied-not : applied f_name None 2 there (x ∷ seven ∷ text ∷ []) ≡ x ∷ Application f_name None (more text (more seven none)) there ∷ [] → ⊥
applied-not turned_round = cc

-- arguments keep their order, there and back

pub terms_of-example : terms_of (x ∷ seven ∷ []) ≡ more x (more seven none)
terms_of-example = refl

pub list_of-example : list_of (more x (more seven none)) ≡ x ∷ seven ∷ []
list_of-example = refl

-- a term of each kind at another span, and what it is at its root

abbrev qualified_f : Term
qualified_f = Application f_name (Some qualifier_name) (more x (more seven none)) here

pub with_span-example : map (with_span there) (x ∷ seven ∷ text ∷ qualified_f ∷ [])
    ≡ Variable x_name there ∷ Integer (pos 7) there ∷ Text text_name there ∷ Application f_name (Some qualifier_name) (more x (more seven none)) there ∷ []
with_span-example = refl

pub span_of-example : map (λ t. span_of (with_span there t)) (x ∷ seven ∷ text ∷ qualified_f ∷ []) ≡ replicate 4 there
span_of-example = refl

pub shape_of-example : map shape_of (x ∷ seven ∷ text ∷ qualified_f ∷ [])
    ≡ VariableShape x_name ∷ IntegerShape (pos 7) ∷ TextShape text_name ∷ ApplicationShape f_name (Some qualifier_name) 2 ∷ []
shape_of-example = refl

pub arguments_of-example : map arguments_of (x ∷ seven ∷ text ∷ qualified_f ∷ []) ≡ [] ∷ [] ∷ [] ∷ (x ∷ seven ∷ []) ∷ []
arguments_of-example = refl

-- the last of two terms takes another span

pub enclosed-example : enclosed there (x ∷ seven ∷ []) ≡ x ∷ Integer (pos 7) there ∷ []
enclosed-example = refl

pub enclosed-none : enclosed there [] ≡ []
enclosed-none = refl

pub enclosed-not : enclosed there (x ∷ seven ∷ []) ≡ Variable x_name there ∷ seven ∷ [] → ⊥
enclosed-not first_one =
    let starts : ◌≡◌ {A = List ℕ} (3 ∷ 0 ∷ []) (0 ∷ 3 ∷ []) = ap (map (λ t. (span_of t).first)) first_one in
    cc

-- a term without its spans, at each depth

pub bare-example : bare f_of_two ≡ Application f_name None (more (Integer (pos 7) no_span) (more (Text text_name no_span) none)) no_span
bare-example = refl

pub bare-not : bare f_of_two ≡ Application f_name None (more seven (more text none)) no_span → ⊥
bare-not root_alone =
    let starts : ◌≡◌ {A = List ℕ} (0 ∷ 0 ∷ []) (3 ∷ 3 ∷ []) = ap (λ t. map (λ a. (span_of a).first) (arguments_of t)) root_alone in
    cc

-- its qualifier stays
pub bare-qualified : bare qualified_f ≡ Application f_name (Some qualifier_name) (more (Variable x_name no_span) (more (Integer (pos 7) no_span) none)) no_span
bare-qualified = refl

-- the least and the greatest integer of 64 bits, which are `f`'s arguments, and one integer less and one more

pub HasWords-example : HasWords (Application f_name None (more (Integer (negsuc 9223372036854775807) here) (more (Integer (pos 9223372036854775807) here) none)) here)
HasWords-example = (sfits_lit tt, (sfits_lit tt, tt))

pub HasWords-least : HasWords (Application f_name None (more x (more (Integer (negsuc 9223372036854775808) here) none)) here) → ⊥
HasWords-least fits = let e = fits.1.0.sfits in omega (arith, e)

pub HasWords-greatest : HasWords (Integer (pos 9223372036854775808) here) → ⊥
HasWords-greatest fits = let e = fits.sfits in omega (arith, e)

-- `f(g(X))`

abbrev f_of_g : Term
f_of_g = Application f_name None (more (Application g_name None (more x none) here) none) here

pub nesting-example : nesting f_of_g ≡ 3
nesting-example = refl

pub nesting-not : nesting f_of_g ≡ 2 → ⊥
nesting-not counts_applications = cc

-- the deepest argument counts, be it the first or the last
pub nesting-deepest : map nesting (text ∷ nil ∷ both f_name f_of_g x ∷ both f_name x f_of_g ∷ []) ≡ 1 ∷ 1 ∷ 4 ∷ 4 ∷ []
nesting-deepest = refl

-- `X , X , X` goes on to the right

pub nesting-chain : nesting (both comma_name x (both comma_name x x)) ≡ 2
nesting-chain = refl

pub nesting-chain-not : nesting (both comma_name x (both comma_name x x)) ≡ 3 → ⊥
nesting-chain-not in_full = cc

-- `(X , X) , X` does not

pub nesting-left : nesting (both comma_name (both comma_name x x) x) ≡ 3
nesting-left = refl

pub nesting-left-not : nesting (both comma_name (both comma_name x x) x) ≡ 2 → ⊥
nesting-left-not goes_on = cc

-- `[X, 7]`

pub nesting-list : nesting (both cons_name x (both cons_name seven nil)) ≡ 2
nesting-list = refl

pub nesting-list-not : nesting (both cons_name x (both cons_name seven nil)) ≡ 3 → ⊥
nesting-list-not in_full = cc

-- the same with a qualifier before the inner `[|]`

abbrev qualified : Term
qualified = Application cons_name (Some qualifier_name) (more seven (more nil none)) here

pub nesting-qualified : nesting (both cons_name x qualified) ≡ 3
nesting-qualified = refl

pub nesting-qualified-not : nesting (both cons_name x qualified) ≡ 2 → ⊥
nesting-qualified-not goes_on = cc

-- and with one before the outer
pub nesting-qualified_outside : nesting (Application cons_name (Some qualifier_name) (more x (more (both cons_name seven nil) none)) here) ≡ 3
nesting-qualified_outside = refl

-- `,` with three arguments is no chain, nor goes one on with it
pub nesting-three : nesting (Application comma_name None (more x (more x (more f_of_g none))) here) ≡ 4
nesting-three = refl

pub nesting-before_three : nesting (both comma_name x (Application comma_name None (more x (more x (more x none))) here)) ≡ 3
nesting-before_three = refl

-- `;`, `&` and `else` go on in the same way, and no other name does

pub nesting-semicolon : nesting (both semicolon_name x (both semicolon_name x x)) ≡ 2
nesting-semicolon = refl

pub nesting-ampersand : nesting (both ampersand_name x (both ampersand_name x x)) ≡ 2
nesting-ampersand = refl

pub nesting-else : nesting (both else_name x (both else_name x x)) ≡ 2
nesting-else = refl

pub nesting-arrow : nesting (both arrow_name x (both arrow_name x x)) ≡ 3
nesting-arrow = refl

pub nesting-of_f : nesting (both f_name x (both f_name x x)) ≡ 3
nesting-of_f = refl

-- another name in the chain begins anew

pub nesting-mixed : nesting (both comma_name x (both cons_name seven nil)) ≡ 3
nesting-mixed = refl
