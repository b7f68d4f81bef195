-- Unknown names, term by term and entry by entry.
use Rattle.std.proofs.Common.{◌≡◌, ℕ, suc, ◌+◌, ◌<◌, ◌==◌, Bool, true, false, not, is_none, ◌&&◌, ◌||◌, List, [], ◌∷◌, ◌++◌, length, Option, Some, None, if◌then◌else◌, refl, ap, sym, ◌∙◌, ne_eqb, arith}
use Rattle.std.proofs.lemmas.List.{append_assoc, append-nil}
use Rattle.merc_base.specs.Names.{minus_name}
use Rattle.merc_base.specs.declared.place.Span.{Span}
use Rattle.merc_tree.specs.Term.{Term, Terms, Variable, Integer, Text, Application, none, more, list_of}
use Rattle.merc_tree.specs.Shape.{arguments_of}
use Rattle.merc_tree.specs.declared.declarations.Module.{Module}
use Rattle.merc_operands.proofs.Chains.{size, size_all, stack_size, stack_size-push}
use Rattle.merc_goals.specs.Written.{Written, WrittenGoals, no_goals, more_goals, Truth, Failure, Equal, Compared, Called, Conjunction, Parallel, Disjunction, Conditional, Negated, Quantified, WrongForm, OutsideProfile}
use Rattle.merc_goals.specs.Entries.{entries_of, all_entries}
use Rattle.merc_goals.specs.Faults.{earlier, first_span}
use Rattle.merc_goals.specs.Entries.{GoalEntry}
use Rattle.merc_goals.proofs.FoundLaws.{earlier-assoc}
use Rattle.merc_name_resolution.specs.Known.{callee_in, is_callee, is_constructor}
use Rattle.merc_flat_form.specs.FlatForm.{argument_terms, operation_of}
use Rattle.merc_flat.specs.GoalFaults.{all_unknown, is_arithmetic, unknown, unknown_among, unknown_in}
use Rattle.merc_flat.specs.UnknownNames.{entries_unknown, entry_unknown, is_arithmetic_name, own_span, stacked, unknown_on}

-- the earliest of spans

pub first_span-append : (front back : List Span) → first_span (front ++ back) ≡ earlier (first_span front) (first_span back)
first_span-append [] back = refl
first_span-append (span ∷ rest) back =
    ap (earlier (Some span)) (first_span-append rest back) ∙ sym (earlier-assoc (Some span) (first_span rest) (first_span back))

-- one more list of spans is looked at
pub found_step : (first : Option Span) (found spans : List Span) (whole : Option Span)
    → earlier first (first_span (found ++ spans)) ≡ whole → earlier (earlier first (first_span found)) (first_span spans) ≡ whole
found_step first found spans whole before =
    earlier-assoc first (first_span found) (first_span spans) ∙ ap (earlier first) (sym (first_span-append found spans)) ∙ before

-- arithmetic by the number of arguments

and_false : (test : Bool) → false ≡ test && false
and_false true = refl
and_false false = refl

others : (qualifier : Option ℕ) (operation minus : Bool) (two one : Bool) → two ≡ false → one ≡ false
    → false ≡ is_none qualifier && ((two && operation) || (one && minus))
others qualifier operation minus two one not_two not_one =
    and_false (is_none qualifier) ∙ ap (λ t. is_none qualifier && ((t && operation) || (false && minus))) (sym not_two)
    ∙ ap (λ t. is_none qualifier && ((two && operation) || (t && minus))) (sym not_one)

more_than : (n : ℕ) → (suc (suc (suc n)) == 2) ≡ false
more_than n = ne_eqb (suc (suc (suc n))) 2 (λ same. omega (arith, same))

more_than_one : (n : ℕ) → (suc (suc (suc n)) == 1) ≡ false
more_than_one n = ne_eqb (suc (suc (suc n))) 1 (λ same. omega (arith, same))

or_false : (qualifier test : Bool) → qualifier && test ≡ qualifier && (test || false)
or_false true true = refl
or_false true false = refl
or_false false test = refl

swap : (a b : Bool) → a && b ≡ b && a
swap true true = refl
swap true false = refl
swap false true = refl
swap false false = refl

arithmetic_same : (name : ℕ) (qualifier : Option ℕ) (arguments : Terms) → is_arithmetic name qualifier arguments ≡ is_arithmetic_name name qualifier (length (list_of arguments))
arithmetic_same name qualifier none = and_false (is_none qualifier)
arithmetic_same name qualifier (more only none) = swap (name == minus_name) (is_none qualifier)
arithmetic_same name qualifier (more left (more right none)) = or_false (is_none qualifier) (not (is_none (operation_of name)))
arithmetic_same name qualifier (more first (more second (more third rest))) =
    others qualifier _ _ _ _ (more_than (length (list_of rest))) (more_than_one (length (list_of rest)))

-- a term, and its arguments

by_test : (test : Bool) (span : Span) (rest : List Span) → first_span ((if test then [] else span ∷ []) ++ rest) ≡ earlier (if not test then Some span else None) (first_span rest)
by_test true span rest = refl
by_test false span rest = refl

pub term_first : (known : Module) (term : Term) → first_span (unknown_in known term) ≡ earlier (own_span known term) (first_span (unknown_among known (argument_terms term)))
term_first known (Variable name span) = refl
term_first known (Integer value span) = refl
term_first known (Text text span) = refl
term_first known (Application name qualifier arguments span) =
    by_test (is_arithmetic name qualifier arguments || is_constructor known name qualifier (length (list_of arguments))) span (unknown_among known arguments)
    ∙ ap (λ t. earlier (if not (t || is_constructor known name qualifier (length (list_of arguments))) then Some span else None) (first_span (unknown_among known arguments))) (arithmetic_same name qualifier arguments)

pub arguments_are : (term : Term) → arguments_of term ≡ list_of (argument_terms term)
arguments_are (Variable name span) = refl
arguments_are (Integer value span) = refl
arguments_are (Text text span) = refl
arguments_are (Application name qualifier arguments span) = refl

-- terms on a stack

pub stacked-push : (stack rest : List Term) (last : Term) → stacked (stack ++ last ∷ []) rest ≡ stacked stack (rest ++ last ∷ [])
stacked-push stack [] last = refl
stacked-push stack (first ∷ rest) last = ap (λ l. l ++ first ∷ []) (stacked-push stack rest last)

unknown_on-push : (known : Module) (stack : List Term) (term : Term) → unknown_on known (stack ++ term ∷ []) ≡ unknown_in known term ++ unknown_on known stack
unknown_on-push known [] term = sym (append-nil (unknown_in known term))
unknown_on-push known (first ∷ rest) term =
    ap (λ l. l ++ unknown_in known first) (unknown_on-push known rest term) ∙ append_assoc (unknown_in known term) (unknown_on known rest) (unknown_in known first)

unknown_on-stacked : (known : Module) (stack : List Term) (arguments : Terms) → unknown_on known (stacked stack (list_of arguments)) ≡ unknown_among known arguments ++ unknown_on known stack
unknown_on-stacked known stack none = refl
unknown_on-stacked known stack (more first rest) =
    unknown_on-push known (stacked stack (list_of rest)) first
    ∙ ap (λ l. unknown_in known first ++ l) (unknown_on-stacked known stack rest)
    ∙ sym (append_assoc (unknown_in known first) (unknown_among known rest) (unknown_on known stack))

stack_size-stacked : (stack : List Term) (arguments : Terms) → stack_size (stacked stack (list_of arguments)) ≡ size_all arguments + stack_size stack
stack_size-stacked stack none = omega arith
stack_size-stacked stack (more first rest) = omega (arith, stack_size-push (stacked stack (list_of rest)) first, stack_size-stacked stack rest)

size_is : (term : Term) → size term ≡ 1 + size_all (argument_terms term)
size_is (Variable name span) = refl
size_is (Integer value span) = refl
size_is (Text text span) = refl
size_is (Application name qualifier arguments span) = refl

module _ (known : Module) (old popped new : List Term) (term : Term) (popping : old ≡ popped ++ term ∷ []) (pushing : new ≡ stacked popped (arguments_of term)) where
  new_is : new ≡ stacked popped (list_of (argument_terms term))
  new_is = pushing ∙ ap (stacked popped) (arguments_are term)

  pub walk_step : (first whole : Option Span) → earlier first (first_span (unknown_on known old)) ≡ whole
      → earlier (earlier first (own_span known term)) (first_span (unknown_on known new)) ≡ whole
  walk_step first whole before =
      ap (λ l. earlier (earlier first (own_span known term)) (first_span (unknown_on known l))) new_is
      ∙ ap (λ l. earlier (earlier first (own_span known term)) (first_span l)) (unknown_on-stacked known popped (argument_terms term))
      ∙ earlier-assoc first (own_span known term) (first_span (unknown_among known (argument_terms term) ++ unknown_on known popped))
      ∙ ap (λ f. earlier first (earlier (own_span known term) f)) (first_span-append (unknown_among known (argument_terms term)) (unknown_on known popped))
      ∙ ap (earlier first) (sym (earlier-assoc (own_span known term) (first_span (unknown_among known (argument_terms term))) (first_span (unknown_on known popped))))
      ∙ ap (λ f. earlier first (earlier f (first_span (unknown_on known popped)))) (sym (term_first known term))
      ∙ ap (earlier first) (sym (first_span-append (unknown_in known term) (unknown_on known popped)))
      ∙ ap (λ l. earlier first (first_span l)) (sym (unknown_on-push known popped term))
      ∙ ap (λ l. earlier first (first_span (unknown_on known l))) (sym popping)
      ∙ before

  pub walk_size : stack_size new < stack_size old
  walk_size =
      omega (arith, ap stack_size popping, ap stack_size new_is, stack_size-push popped term, stack_size-stacked popped (argument_terms term), size_is term)

pub walk_arguments : (known : Module) (stack : List Term) (term : Term) → stack ≡ stacked [] (arguments_of term) → unknown_on known stack ≡ unknown_among known (argument_terms term)
walk_arguments known stack term is =
    ap (unknown_on known) (is ∙ ap (stacked []) (arguments_are term))
    ∙ unknown_on-stacked known [] (argument_terms term)
    ∙ append-nil (unknown_among known (argument_terms term))

-- entries

entries_unknown-append : (known : Module) (front back : List GoalEntry) → entries_unknown known (front ++ back) ≡ entries_unknown known front ++ entries_unknown known back
entries_unknown-append known [] back = refl
entries_unknown-append known (entry ∷ rest) back =
    ap (λ l. entry_unknown known entry ++ l) (entries_unknown-append known rest back)
    ∙ sym (append_assoc (entry_unknown known entry) (entries_unknown known rest) (entries_unknown known back))

both_parts : (a b c d : List Span) → a ≡ b → c ≡ d → a ++ c ≡ b ++ d
both_parts a b c d p q = cc

called_same : (test : Bool) (span : Span) (rest : List Span) → ((if not test then span ∷ [] else []) ++ rest) ++ [] ≡ (if test then [] else span ∷ []) ++ rest
called_same true span rest = append-nil rest
called_same false span rest = ap (λ l. span ∷ l) (append-nil rest)

module _ (known : Module) where
  mutual
    pub unknown-entries : (goal : Written) → entries_unknown known (entries_of goal) ≡ unknown known goal
    unknown-entries (Truth span) = refl
    unknown-entries (Failure span) = refl
    unknown-entries (Equal at left right span) = append-nil (unknown_in known left ++ unknown_in known right)
    unknown-entries (Compared at name left right span) = append-nil (unknown_in known left ++ unknown_in known right)
    unknown-entries (Called at name qualifier arguments span) =
        called_same (is_callee known (callee_in known name qualifier (length (list_of arguments)))) span (unknown_among known arguments)
    unknown-entries (Conjunction goals span) = unknown-all goals
    unknown-entries (Parallel goals span) = unknown-all goals
    unknown-entries (Disjunction goals span) = unknown-all goals
    unknown-entries (Conditional condition then_part else_part span) =
        entries_unknown-append known (entries_of condition) (entries_of then_part ++ entries_of else_part)
        ∙ both_parts _ _ _ _ (unknown-entries condition)
        (entries_unknown-append known (entries_of then_part) (entries_of else_part) ∙ both_parts _ _ _ _ (unknown-entries then_part) (unknown-entries else_part))
    unknown-entries (Negated goal span) = unknown-entries goal
    unknown-entries (Quantified variables goal span) = unknown-entries goal
    unknown-entries (WrongForm span) = refl
    unknown-entries (OutsideProfile span) = refl

    unknown-all : (goals : WrittenGoals) → entries_unknown known (all_entries goals) ≡ all_unknown known goals
    unknown-all no_goals = refl
    unknown-all (more_goals first rest) =
        entries_unknown-append known (entries_of first) (all_entries rest) ∙ both_parts _ _ _ _ (unknown-entries first) (unknown-all rest)
