-- The clauses of the unit `list` are faultless in each module that knows what the unit declares.
use Rattle.std.proofs.Common.{◌≡◌, ℕ, zero, suc, ◌<◌, arith, lt-ltb, ◌==◌, ◌||◌, nat_lt, Bool, true, false, List, [], ◌∷◌, ◌++◌, length, slice_get, Option, Some, None, refl, sym, ap, ap₂, subst, ◌∙◌}
use Rattle.std.specs.Bool.{if◌then◌else◌}
use Rattle.std.specs.List.{AllByRecursion}
use Rattle.std.specs.Option.{option_map}
use Rattle.merc_base.specs.Names.{append_name, cons_name, fixed_names, length_name, list_reverse_onto_name, member_name, nil_name, reverse_name}
use Rattle.merc_base.specs.declared.place.Span.{Span}
use Rattle.merc_tree.specs.Term.{Term, Terms, Variable, Integer, Text, Application, none, more, list_of, span_of}
use Rattle.merc_tree.specs.Types.{TypeExpr, IntType}
use Rattle.merc_tree.specs.declared.declarations.Clause.{Clause}
use Rattle.merc_tree.specs.declared.declarations.Constructor.{Constructor}
use Rattle.merc_tree.specs.declared.declarations.PredDecl.{PredDecl}
use Rattle.merc_tree.specs.declared.declarations.TypeDef.{TypeDef}
use Rattle.merc_tree.specs.declared.declarations.Module.{Module}
use Rattle.merc_goals.specs.Written.{Written, WrittenGoals, Truth, Equal, Called, Conjunction, no_goals, more_goals}
use Rattle.merc_goals.specs.Faults.{first_span}
use Rattle.merc_item_forms.specs.Items.{Item, ClauseItem, item_of}
use Rattle.merc_entries.specs.LibraryItems.{append_cell, append_nil, length_cell, length_nil, list_items, member_first, member_later, onto_cell, onto_nil, reverse_clause}
use Rattle.merc_name_resolution.specs.Known.{callee_in, constructor_in, is_callee, is_constructor}
use Rattle.merc_flat_form.specs.FlatForm.{argument_terms}
use Rattle.merc_flat.specs.GoalFaults.{is_arithmetic, unknown, unknown_among, unknown_in, unknown_name, all_unknown}
use Rattle.merc_flat.specs.Flat.{clause_name_fault, goal_of}
use Rattle.merc_type_check.specs.Typing.{AreArguments, HaveTypes, IsCalled, IsConstructed}
use Rattle.merc_type_check.specs.Checked.{head_types}
use Rattle.merc_program_laws.specs.ClauseFaults.{file_clauses}
use Rattle.merc_program_laws.specs.UnitClauses.{IsFaultless}
use Rattle.merc_program_laws.proofs.ListLookups.{KnowsList, Means, list_of_t, number_of, t}

-- the clause that a term is
abbrev clause_at : Span → Item → Clause
clause_at span (ClauseItem head body) = record { head = head; body = body; span = span }
clause_at span other = record { head = Variable nil_name span; body = None; span = span }

abbrev clause_of : Term → Clause
clause_of term = clause_at (span_of term) (item_of term)

-- Names that are known.

module _ (known : Module) where
  abbrev mutual
    IsKnown : Term → Type 0
    IsKnown (Application name qualifier arguments span) = ((is_arithmetic name qualifier arguments || is_constructor known name qualifier (length (list_of arguments))) ≡ true) × AreKnown arguments
    IsKnown (Variable name span) = Unit {0}
    IsKnown (Integer value span) = Unit {0}
    IsKnown (Text name span) = Unit {0}

    AreKnown : Terms → Type 0
    AreKnown none = Unit {0}
    AreKnown (more first rest) = IsKnown first × AreKnown rest

  abbrev mutual
    IsKnownGoal : Written → Type 0
    IsKnownGoal (Truth span) = Unit {0}
    IsKnownGoal (Equal at left right span) = IsKnown left × IsKnown right
    IsKnownGoal (Called at name qualifier arguments span) = (is_callee known (callee_in known name qualifier (length (list_of arguments))) ≡ true) × AreKnown arguments
    IsKnownGoal (Conjunction goals span) = AreKnownGoals goals
    IsKnownGoal other = ⊥

    AreKnownGoals : WrittenGoals → Type 0
    AreKnownGoals no_goals = Unit {0}
    AreKnownGoals (more_goals first rest) = IsKnownGoal first × AreKnownGoals rest

  none_behind : (test : Bool) (span : Span) (behind : List Span) → test ≡ true → behind ≡ [] → (if test then [] else span ∷ []) ++ behind ≡ []
  none_behind true span behind is none' = none'
  none_behind false span behind is none' = absurd cc

  both_none : (some others : List Span) → some ≡ [] → others ≡ [] → some ++ others ≡ []
  both_none some others is is' = ap₂ (λ (a b : List Span). a ++ b) is is'

  mutual
    none_in : (term : Term) → IsKnown term → unknown_in known term ≡ []
    none_in (Application name qualifier arguments span) is = none_behind _ span (unknown_among known arguments) is.0 (none_among arguments is.1)
    none_in (Variable name span) is = refl
    none_in (Integer value span) is = refl
    none_in (Text name span) is = refl

    none_among : (terms : Terms) → AreKnown terms → unknown_among known terms ≡ []
    none_among none is = refl
    none_among (more first rest) is = both_none (unknown_in known first) (unknown_among known rest) (none_in first is.0) (none_among rest is.1)

  mutual
    none_of : (goal : Written) → IsKnownGoal goal → unknown known goal ≡ []
    none_of (Truth span) is = refl
    none_of (Equal at left right span) is = both_none (unknown_in known left) (unknown_in known right) (none_in left is.0) (none_in right is.1)
    none_of (Called at name qualifier arguments span) is = none_behind _ span (unknown_among known arguments) is.0 (none_among arguments is.1)
    none_of (Conjunction goals span) is = none_of_all goals is
    none_of other is = absurd is

    none_of_all : (goals : WrittenGoals) → AreKnownGoals goals → all_unknown known goals ≡ []
    none_of_all no_goals is = refl
    none_of_all (more_goals first rest) is = both_none (unknown known first) (all_unknown known rest) (none_of first is.0) (none_of_all rest is.1)

  names_known : (names : List (List ℕ)) (clause : Clause) → AreKnown (argument_terms clause.head) → IsKnownGoal (goal_of clause) → clause_name_fault names known clause ≡ None
  names_known names clause head goal =
      ap (λ (spans : List Span). option_map (unknown_name known) (first_span spans))
      (both_none (unknown_among known (argument_terms clause.head)) (unknown known (goal_of clause)) (none_among (argument_terms clause.head) head) (none_of (goal_of clause) goal))

-- a predicate that is there has a number
there_within : {A : Type 0} (all : List A) (number : ℕ) (one : A) → slice_get all number ≡ Some one → number < length all
there_within [] number one is = absurd cc
there_within (first ∷ rest) zero one is = omega arith
there_within (first ∷ rest) (suc number) one is = let inner = there_within rest number one is in omega (arith, inner)

module _ (behind : List (List ℕ)) (known : Module) (knows : KnowsList known) where
  abbrev names : List (List ℕ)
  names = fixed_names ++ behind

  abbrev Faultless : Term → Type 0
  Faultless term = IsFaultless names known (clause_of term)

  calls : (name arity : ℕ) (types : List TypeExpr) (means : Means known name arity types) → nat_lt (number_of known name arity) (length known.preds) ≡ true
  calls name arity types means = lt-ltb (number_of known name arity) (length known.preds) (there_within known.preds (number_of known name arity) means.declared means.there)

  -- Given is a type for each variable. Each type variable stands for itself.
  module _ (types : ℕ → TypeExpr) where
    nil_typed : (variable : ℕ) → types variable ≡ list_of_t → IsConstructed known types variable (constructor_in known.types nil_name 0) []
    nil_typed variable is = subst (λ (found : Option (TypeDef × Constructor)). IsConstructed known types variable found []) (sym knows.nil_is) ((λ n. t), (is, tt))

    cons_typed : (variable first rest : ℕ) → types variable ≡ list_of_t → types first ≡ t → types rest ≡ list_of_t
        → IsConstructed known types variable (constructor_in known.types cons_name 2) (first ∷ rest ∷ [])
    cons_typed variable first rest is is_first is_rest =
        subst (λ (found : Option (TypeDef × Constructor)). IsConstructed known types variable found (first ∷ rest ∷ [])) (sym knows.cons_is) ((λ n. t), (is, (is_first, (is_rest, tt))))

    call_typed : (name arity : ℕ) (declared : List TypeExpr) → Means known name arity declared → (arguments : List ℕ) → HaveTypes known types (λ n. t) arguments declared
        → IsCalled known types (slice_get known.preds (number_of known name arity)) arguments
    call_typed name arity declared means arguments have =
        subst (λ (found : Option PredDecl). IsCalled known types found arguments) (sym means.there)
        ((λ n. t), subst (HaveTypes known types (λ n. t) arguments) (sym means.types_are) have)

    head_typed : (name arity : ℕ) (declared : List TypeExpr) → Means known name arity declared → AreArguments known types 0 declared
        → AreArguments known types 0 (head_types (slice_get known.preds (number_of known name arity)))
    head_typed name arity declared means are = subst (AreArguments known types 0) (sym (ap head_types means.there ∙ means.types_are)) are

  append_calls : nat_lt (number_of known append_name 3) (length known.preds) ≡ true
  append_calls = calls append_name 3 _ knows.append

  abbrev lists : ℕ → TypeExpr
  lists n = list_of_t

  append_nil-faultless : Faultless append_nil
  unfolding fixed_names
  append_nil-faultless = record {
    form = refl;
    named = names_known known names (clause_of append_nil) ((knows.nil, tt), (tt, (tt, tt))) tt;
    typed = (
      lists,
      record {
        head = head_typed lists append_name 3 _ knows.append (refl, (refl, (refl, tt)));
        parts = (nil_typed lists 0 refl, (refl, (tt, tt)));
      },
    );
  }

  abbrev cell_types : ℕ → TypeExpr
  cell_types n = if n == 7 then t else list_of_t

  append_cell-faultless : Faultless append_cell
  unfolding fixed_names
  append_cell-faultless = record {
    form = refl;
    named = names_known known names (clause_of append_cell) ((knows.cons, (tt, (tt, tt))), (tt, ((knows.cons, (tt, (tt, tt))), tt))) (append_calls, (tt, (tt, (tt, tt))));
    typed = (
      cell_types,
      record {
        head = head_typed cell_types append_name 3 _ knows.append (refl, (refl, (refl, tt)));
        parts = (
          cons_typed cell_types 0 7 9 refl refl refl,
          (
            cons_typed cell_types 2 7 17 refl refl refl,
            (call_typed cell_types append_name 3 _ knows.append (9 ∷ 1 ∷ 17 ∷ []) (refl, (refl, (refl, tt))), (tt, tt)),
          ),
        );
      },
    );
  }

  abbrev first_types : ℕ → TypeExpr
  first_types n = if n == 0 then t else list_of_t

  member_first-faultless : Faultless member_first
  unfolding fixed_names
  member_first-faultless = record {
    form = refl;
    named = names_known known names (clause_of member_first) (tt, ((knows.cons, (tt, (tt, tt))), tt)) tt;
    typed = (
      first_types,
      record {
        head = head_typed first_types member_name 2 _ knows.member (refl, (refl, tt));
        parts = (cons_typed first_types 1 0 10 refl refl refl, tt);
      },
    );
  }

  abbrev later_types : ℕ → TypeExpr
  later_types n = if (n == 0) || (n == 8) then t else list_of_t

  member_later-faultless : Faultless member_later
  unfolding fixed_names
  member_later-faultless = record {
    form = refl;
    named = names_known known names (clause_of member_later) (tt, ((knows.cons, (tt, (tt, tt))), tt)) (calls member_name 2 _ knows.member, (tt, (tt, tt)));
    typed = (
      later_types,
      record {
        head = head_typed later_types member_name 2 _ knows.member (refl, (refl, tt));
        parts = (cons_typed later_types 1 8 10 refl refl refl, (call_typed later_types member_name 2 _ knows.member (0 ∷ 10 ∷ []) (refl, (refl, tt)), (tt, tt)));
      },
    );
  }

  abbrev none_types : ℕ → TypeExpr
  none_types n = if n == 1 then IntType else list_of_t

  length_nil-faultless : Faultless length_nil
  unfolding fixed_names
  length_nil-faultless = record {
    form = refl;
    named = names_known known names (clause_of length_nil) ((knows.nil, tt), (tt, tt)) tt;
    typed = (
      none_types,
      record {
        head = head_typed none_types length_name 2 _ knows.length_is (refl, (refl, tt));
        parts = (nil_typed none_types 0 refl, (refl, (tt, tt)));
      },
    );
  }

  abbrev count_types : ℕ → TypeExpr
  count_types n = if n == 6 then t else if (n == 1) || ((n == 18) || (n == 28)) then IntType else list_of_t

  length_cell-faultless : Faultless length_cell
  unfolding fixed_names
  length_cell-faultless = record {
    form = refl;
    named = names_known known names (clause_of length_cell) ((knows.cons, (tt, (tt, tt))), (tt, tt))
        ((calls length_name 2 _ knows.length_is, (tt, (tt, tt))), ((tt, (refl, (tt, (tt, tt)))), tt));
    typed = (
      count_types,
      record {
        head = head_typed count_types length_name 2 _ knows.length_is (refl, (refl, tt));
        parts = (
          cons_typed count_types 0 6 8 refl refl refl,
          (
            call_typed count_types length_name 2 _ knows.length_is (8 ∷ 18 ∷ []) (refl, (refl, tt)),
            (refl, ((refl, refl, refl), (tt, tt))),
          ),
        );
      },
    );
  }

  reverse_clause-faultless : Faultless reverse_clause
  unfolding fixed_names
  reverse_clause-faultless = record {
    form = refl;
    named = names_known known names (clause_of reverse_clause) (tt, (tt, tt)) (calls list_reverse_onto_name 3 _ knows.onto, (tt, ((knows.nil, tt), (tt, tt))));
    typed = (
      lists,
      record {
        head = head_typed lists reverse_name 2 _ knows.reverse (refl, (refl, tt));
        parts = (nil_typed lists 12 refl, (call_typed lists list_reverse_onto_name 3 _ knows.onto (0 ∷ 12 ∷ 1 ∷ []) (refl, (refl, (refl, tt))), (tt, tt)));
      },
    );
  }

  onto_nil-faultless : Faultless onto_nil
  unfolding fixed_names
  onto_nil-faultless = record {
    form = refl;
    named = names_known known names (clause_of onto_nil) ((knows.nil, tt), (tt, (tt, tt))) tt;
    typed = (
      lists,
      record {
        head = head_typed lists list_reverse_onto_name 3 _ knows.onto (refl, (refl, (refl, tt)));
        parts = (nil_typed lists 0 refl, (refl, (tt, tt)));
      },
    );
  }

  onto_cell-faultless : Faultless onto_cell
  unfolding fixed_names
  onto_cell-faultless = record {
    form = refl;
    named = names_known known names (clause_of onto_cell) ((knows.cons, (tt, (tt, tt))), (tt, (tt, tt)))
        (calls list_reverse_onto_name 3 _ knows.onto, (tt, ((knows.cons, (tt, (tt, tt))), (tt, tt))));
    typed = (
      cell_types,
      record {
        head = head_typed cell_types list_reverse_onto_name 3 _ knows.onto (refl, (refl, (refl, tt)));
        parts = (
          cons_typed cell_types 0 7 9 refl refl refl,
          (
            cons_typed cell_types 19 7 1 refl refl refl,
            (call_typed cell_types list_reverse_onto_name 3 _ knows.onto (9 ∷ 19 ∷ 2 ∷ []) (refl, (refl, (refl, tt))), (tt, tt)),
          ),
        );
      },
    );
  }

  -- All of them are.
  pub list_faultless : AllByRecursion (IsFaultless names known) (file_clauses list_items)
  unfolding list_items
  list_faultless = (
    append_nil-faultless,
    (
      append_cell-faultless,
      (
        member_first-faultless,
        (
          member_later-faultless,
          (
            length_nil-faultless,
            (
              length_cell-faultless,
              (reverse_clause-faultless, (onto_nil-faultless, (onto_cell-faultless, tt))),
            ),
          ),
        ),
      ),
    ),
  )
