-- What is wrong with the goals of clauses and with a goal that is asked: their forms and their size, and then the names in them.
use Rattle.std.specs.Prelude.{ℕ, ◌+◌, Bool, ◌==◌, ◌&&◌, ◌||◌, not, nat_le, nat_lt, is_none, List, [], ◌∷◌, ◌++◌, length, Option, Some, None, if◌then◌else◌}
use Rattle.std.specs.Option.{option_map}
use Rattle.std.specs.List.{filter, flat_map}
use Rattle.merc_base.specs.FirstFault.{first_of_faults}
use Rattle.merc_base.specs.Places.{place_of}
use Rattle.merc_base.specs.declared.place.Span.{Span}
use Rattle.merc_base.specs.declared.refusal.Refusal.{Refusal}
use Rattle.merc_base.specs.declared.refusal.Rule.TheVariants.{UnknownName, LimitPassed}
use Rattle.merc_base.specs.declared.refusal.LimitName.{LimitName}
use Rattle.merc_base.specs.declared.refusal.LimitName.TheVariants.{Variables, Conjuncts}
use Rattle.merc_base.specs.declared.refusal.Detail.TheVariants.{Plain, Limit}
use Rattle.merc_tree.specs.Term.{Term, Terms, Application, none, more, list_of}
use Rattle.merc_tree.specs.declared.declarations.Module.{Module}
use Rattle.merc_goals.specs.Written.{Written, WrittenGoals, Equal, Compared, Called, Conjunction, Parallel, Disjunction, Conditional, Negated, Quantified, no_goals, more_goals}
use Rattle.merc_goals.specs.Faults.{first_fault, first_span, widest_parallel}
use Rattle.merc_goal_tree.specs.declared.entries.Root.{Root}
use Rattle.merc_goal_tree.specs.declared.entries.Root.TheVariants.{Simple}
use Rattle.merc_goal_tree.specs.Nodes.{Node}
use Rattle.merc_goal_tree.specs.Parts.{parts_of}
use Rattle.merc_goal_tree.specs.Variables.{variables_of, distinct}
use Rattle.merc_name_resolution.specs.Known.{callee_in, is_callee, is_constructor}
use Rattle.merc_flat_form.specs.FlatForm.{is_negation, operation_of}

-- How many variables a goal has.

abbrev pub part_variables : Root × Span → List ℕ
part_variables (Simple goal, span) = variables_of goal
part_variables (other, span) = []

-- the arguments, and the others among the variables of a goal in flat form
abbrev pub variable_count : ℕ → Node → ℕ
variable_count arity goal = arity + length (distinct (filter (λ variable. nat_le arity variable) (flat_map part_variables (parts_of goal))))

-- What is wrong with the form of a goal, its variables and the conjuncts of its parallel conjunctions. `flat` is its flat form. Variables are counted only
-- where each part has a form.

abbrev pub limit_passed : LimitName → Span → Refusal
limit_passed limit span = record { rule = LimitPassed; place = place_of span; detail = Limit limit }

-- the most variables of a clause or a goal, and the most conjuncts of a parallel conjunction

abbrev pub variable_limit : ℕ
variable_limit = 16384

abbrev pub conjunct_limit : ℕ
conjunct_limit = 64

abbrev pub size_faults : ℕ → Span → Node → List Refusal
size_faults arity span flat = if nat_lt variable_limit (variable_count arity flat) then limit_passed Variables span ∷ [] else []

abbrev pub width_faults : Span → Written → List Refusal
width_faults span goal = if nat_lt conjunct_limit (widest_parallel goal) then limit_passed Conjuncts span ∷ [] else []

abbrev pub faults_of_form : Option Refusal → ℕ → Span → Written → Node → List Refusal
faults_of_form None arity span goal flat = size_faults arity span flat ++ width_faults span goal
faults_of_form (Some fault) arity span goal flat = fault ∷ width_faults span goal

abbrev pub form_fault : ℕ → Span → Written → Node → Option Refusal
form_fault arity span goal flat = first_of_faults (faults_of_form (first_fault goal) arity span goal flat)

-- Which names are unknown.

-- `+` `-` `*` `//` `div` `mod` `rem` with two arguments, and `-` with one
abbrev pub is_arithmetic : ℕ → Option ℕ → Terms → Bool
is_arithmetic name qualifier (more left (more right none)) = is_none qualifier && not (is_none (operation_of name))
is_arithmetic name qualifier arguments = is_negation name qualifier arguments

module _ (known : Module) where
  abbrev mutual
    -- where the applications in a term begin that are neither arithmetic nor a constructor
    pub unknown_in : Term → List Span
    unknown_in (Application name qualifier arguments span) =
        (if is_arithmetic name qualifier arguments || is_constructor known name qualifier (length (list_of arguments)) then [] else span ∷ []) ++ unknown_among arguments
    unknown_in other = []

    pub unknown_among : Terms → List Span
    unknown_among none = []
    unknown_among (more first rest) = unknown_in first ++ unknown_among rest

  abbrev mutual
    -- the same in a goal, with the calls of no predicate
    pub unknown : Written → List Span
    unknown (Equal at left right span) = unknown_in left ++ unknown_in right
    unknown (Compared at name left right span) = unknown_in left ++ unknown_in right
    unknown (Called at name qualifier arguments span) =
        (if is_callee known (callee_in known name qualifier (length (list_of arguments))) then [] else span ∷ []) ++ unknown_among arguments
    unknown (Conjunction goals span) = all_unknown goals
    unknown (Parallel goals span) = all_unknown goals
    unknown (Disjunction goals span) = all_unknown goals
    unknown (Conditional condition then_part else_part span) = unknown condition ++ (unknown then_part ++ unknown else_part)
    unknown (Negated goal span) = unknown goal
    unknown (Quantified variables goal span) = unknown goal
    unknown other = []

    pub all_unknown : WrittenGoals → List Span
    all_unknown no_goals = []
    all_unknown (more_goals first rest) = unknown first ++ all_unknown rest

  abbrev pub unknown_name : Span → Refusal
  unknown_name span = record { rule = UnknownName; place = place_of span; detail = Plain }

  -- the first unknown name in the arguments of a head and in a goal
  abbrev pub name_fault : Terms → Written → Option Refusal
  name_fault head goal = option_map unknown_name (first_span (unknown_among head ++ unknown goal))
