-- The first of two clauses that are not typed, and clauses that are typed or not by other flat forms than their own.
use Rattle.std.proofs.Common.{◌≡◌, ℕ, [], ◌∷◌, Some, None, refl, ap, ◌∙◌}
use Rattle.merc_base.specs.declared.category.Category.TheVariants.{Semidet}
use Rattle.merc_base.specs.declared.place.Span.{Span}
use Rattle.merc_tree.specs.Types.{TypeExpr, IntType, TextType}
use Rattle.merc_tree.specs.declared.declarations.Clause.{Clause}
use Rattle.merc_goal_tree.specs.Nodes.{Node, Simple}
use Rattle.merc_goal_tree.specs.declared.goal.SimpleGoal.TheVariants.{True, Raise}
use Rattle.merc_flat.specs.Flat.{clause_node}
use Rattle.merc_check.specs.Accepted.{type_mismatch}
use Rattle.merc_check.specs.Accepted.RefusesClauses.{untyped as clause_untyped}
use Rattle.merc_check.specs.Untyped.{FindsUntyped, IsTypedAs, IsUntypedAt}
use Rattle.merc_check.proofs.AcceptedExamples.{accepted-unrefused, at, at_one_byte, first_told, letter_at, letter_untyped, one_at, one_typed, splitting, splitting_typed, two_wrong, two_wrong-bodies}

-- `p(1). p("a"). p("a").` in their flat forms

abbrev form : Clause → Node
form = clause_node [] two_wrong

found : IsUntypedAt two_wrong form (at 20)
found = record {
  before = one_at 10 ∷ [];
  clause = letter_at 20;
  behind = letter_at 30 ∷ [];
  whole = refl;
  typed = (one_typed [] two_wrong.clauses 10, tt);
  wrong = letter_untyped [] two_wrong.clauses 20;
  spanned = refl;
}

-- each such span begins there
found-byte : (span : Span) → IsUntypedAt two_wrong form span → ◌≡◌ {A = ℕ} 20 span.first
found-byte span is =
    at_one_byte two_wrong (type_mismatch (at 20)) (type_mismatch is.clause.span) two_wrong-bodies first_told (clause_untyped is.before is.clause is.behind refl is.whole is.typed is.wrong)
    ∙ ap (λ (some : Span). some.first) is.spanned

-- such as that of the second, or that of the first one's head
found-second : IsUntypedAt two_wrong form (at 30) → ⊥
found-second is = let wrong : ◌≡◌ {A = ℕ} 20 30 = found-byte (at 30) is in cc

found-head : IsUntypedAt two_wrong form (at 21) → ⊥
found-head is = let wrong : ◌≡◌ {A = ℕ} 20 21 = found-byte (at 21) is in cc

finds : FindsUntyped two_wrong form (Some (at 20))
finds = found

finds-none : FindsUntyped two_wrong form None → ⊥
finds-none all = letter_untyped [] two_wrong.clauses 20 all.1.0

-- a module whose one clause is typed
typed_finds : FindsUntyped (splitting Semidet) (clause_node [] (splitting Semidet)) None
typed_finds = splitting_typed Semidet

typed_finds-some : (span : Span) → FindsUntyped (splitting Semidet) (clause_node [] (splitting Semidet)) (Some span) → ⊥
typed_finds-some span is = accepted-unrefused (type_mismatch is.clause.span) (clause_untyped is.before is.clause is.behind refl is.whole is.typed is.wrong)

-- Other forms: `true`, by which each clause is typed, and an exception with the argument, by which none is.

abbrev truth : Clause → Node
truth clause = Simple True clause.span

abbrev raising : Clause → Node
raising clause = Simple (Raise 0) clause.span

truth_typed : IsTypedAs two_wrong truth (letter_at 20)
truth_typed = ((λ variable. IntType), record { head = (refl, tt); parts = (tt, tt) })

raising_untyped : IsTypedAs two_wrong raising (one_at 10) → ⊥
raising_untyped typing =
    let types : ℕ → TypeExpr = typing.0 in
    let head : types 0 ≡ IntType = typing.1.head.0 in
    let text : types 0 ≡ TextType = typing.1.parts.0 in
    cc

raising_found : FindsUntyped two_wrong raising (Some (at 10))
raising_found = record { before = []; clause = one_at 10; behind = letter_at 20 ∷ letter_at 30 ∷ []; whole = refl; typed = tt; wrong = raising_untyped; spanned = refl }
