-- Tests on the parts of a term are tests on its shapes.
use Rattle.std.proofs.Common.{◌≡◌, ℕ, suc, ◌-◌, ◌==◌, Bool, true, false, ◌&&◌, ◌||◌, List, [], ◌∷◌, ◌++◌, Some, None, length, take, refl, ap, sym, ◌∙◌, ne_eqb, arith}
use Rattle.std.specs.List.{list_any}
use Rattle.std.proofs.lemmas.List.{take_at, length-append}
use Rattle.std.proofs.lemmas.List.Folds.{list_any-append}
use Rattle.merc_base.specs.Names.{colon_colon_name}
use Rattle.merc_tree.specs.declared.term.Shape.{Shape}
use Rattle.merc_tree.specs.declared.term.Shape.TheVariants.{Application as ApplicationShape}
use Rattle.merc_tree.specs.Term.{Term, Terms, Variable, Integer, Text, Application, none, more, list_of}
use Rattle.merc_tree.specs.Shape.{shape_of, arguments_of}
use Rattle.merc_tree.specs.Postfix.{shapes_of, all_shapes}
use Rattle.merc_item_forms.specs.Forms.{has_part, have_part, is_outside_plain, is_outside_applied}
use Rattle.merc_item_forms.specs.Parts.{test_of, shape_test}
use Rattle.merc_item_forms.specs.declared.parts.PartTest.{PartTest}
use Rattle.merc_item_forms.specs.declared.parts.PartTest.TheVariants.{Literal, OutsideType, Moded, Wide}

or_false : (b : Bool) → (b || false) ≡ b
or_false true = refl
or_false false = refl

or_swap : (a b : Bool) → (a || b) ≡ (b || a)
or_swap true true = refl
or_swap true false = refl
or_swap false true = refl
or_swap false false = refl

module _ (test : Term → Bool) (on_shape : Shape → Bool) (same : (term : Term) → test term ≡ on_shape (shape_of term)) where
  mutual
    pub has_part-shapes : (term : Term) → has_part test term ≡ list_any on_shape (shapes_of term)
    has_part-shapes (Variable name span) = same (Variable name span) ∙ sym (or_false _)
    has_part-shapes (Integer value span) = same (Integer value span) ∙ sym (or_false _)
    has_part-shapes (Text text span) = same (Text text span) ∙ sym (or_false _)
    has_part-shapes (Application name qualifier arguments span) =
        let root = ApplicationShape name qualifier (length (list_of arguments)) in
        ap (λ b. b || have_part test arguments) (same (Application name qualifier arguments span))
        ∙ ap (λ b. on_shape root || b) (have_part-shapes arguments)
        ∙ or_swap (on_shape root) (list_any on_shape (all_shapes arguments))
        ∙ ap (λ b. list_any on_shape (all_shapes arguments) || b) (sym (or_false (on_shape root)))
        ∙ sym (list_any-append on_shape (all_shapes arguments) (root ∷ []))

    have_part-shapes : (arguments : Terms) → have_part test arguments ≡ list_any on_shape (all_shapes arguments)
    have_part-shapes none = refl
    have_part-shapes (more first rest) =
        ap (λ b. b || have_part test rest) (has_part-shapes first)
        ∙ ap (λ b. list_any on_shape (shapes_of first) || b) (have_part-shapes rest)
        ∙ sym (list_any-append on_shape (shapes_of first) (all_shapes rest))

literal_same : (term : Term) → test_of Literal term ≡ shape_test Literal (shape_of term)
literal_same (Variable name span) = refl
literal_same (Integer value span) = refl
literal_same (Text text span) = refl
literal_same (Application name qualifier arguments span) = refl

not_zero : (n : ℕ) → (suc n == 0) ≡ false
not_zero n = ne_eqb (suc n) 0 (λ same. omega (arith, same))

not_two : (n : ℕ) → (suc (suc (suc n)) == 2) ≡ false
not_two n = ne_eqb (suc (suc (suc n))) 2 (λ same. omega (arith, same))

pub outside_same : (term : Term) → test_of OutsideType term ≡ shape_test OutsideType (shape_of term)
outside_same (Variable name span) = refl
outside_same (Integer value span) = refl
outside_same (Text text span) = refl
outside_same (Application name None none span) = refl
outside_same (Application name None (more first rest) span) =
    ap (λ b. (b && is_outside_plain name) || is_outside_applied name) (sym (not_zero (length (list_of rest))))
outside_same (Application name (Some qualifier) arguments span) = refl

pub moded_same : (term : Term) → test_of Moded term ≡ shape_test Moded (shape_of term)
moded_same (Variable name span) = refl
moded_same (Integer value span) = refl
moded_same (Text text span) = refl
moded_same (Application name None none span) = refl
moded_same (Application name None (more only none) span) = refl
moded_same (Application name None (more first (more second none)) span) = refl
moded_same (Application name None (more first (more second (more third rest))) span) = ap (λ b. b && (name == colon_colon_name)) (sym (not_two (length (list_of rest))))
moded_same (Application name (Some qualifier) arguments span) = refl

wide_same : (term : Term) → test_of Wide term ≡ shape_test Wide (shape_of term)
wide_same (Variable name span) = refl
wide_same (Integer value span) = refl
wide_same (Text text span) = refl
wide_same (Application name qualifier arguments span) = refl

test_same : (test : PartTest) (term : Term) → test_of test term ≡ shape_test test (shape_of term)
test_same Literal term = literal_same term
test_same OutsideType term = outside_same term
test_same Moded term = moded_same term
test_same Wide term = wide_same term

pub has_part-by_shapes : (test : PartTest) (term : Term) → has_part (test_of test) term ≡ list_any (shape_test test) (shapes_of term)
has_part-by_shapes test term = has_part-shapes (test_of test) (shape_test test) (test_same test) term

-- the parts of arguments are those before the last

any_argument : (test : PartTest) (arguments : Terms) → list_any (has_part (test_of test)) (list_of arguments) ≡ list_any (shape_test test) (all_shapes arguments)
any_argument test none = refl
any_argument test (more first rest) =
    ap (λ b. b || list_any (has_part (test_of test)) (list_of rest)) (has_part-by_shapes test first)
    ∙ ap (λ b. list_any (shape_test test) (shapes_of first) || b) (any_argument test rest)
    ∙ sym (list_any-append (shape_test test) (shapes_of first) (all_shapes rest))

all_but_last : (shapes : List Shape) (last : Shape) → take (length (shapes ++ last ∷ []) - 1) (shapes ++ last ∷ []) ≡ shapes
all_but_last shapes last = take_at shapes (last ∷ []) (length (shapes ++ last ∷ []) - 1) (omega (arith, length-append shapes (last ∷ [])))

pub arguments-by_shapes : (test : PartTest) (term : Term)
    → list_any (shape_test test) (take (length (shapes_of term) - 1) (shapes_of term)) ≡ list_any (has_part (test_of test)) (arguments_of term)
arguments-by_shapes test (Variable name span) = refl
arguments-by_shapes test (Integer value span) = refl
arguments-by_shapes test (Text text span) = refl
arguments-by_shapes test (Application name qualifier arguments span) =
    ap (list_any (shape_test test)) (all_but_last (all_shapes arguments) _) ∙ sym (any_argument test arguments)
