-- Worked examples of what the laws of the split tree speak of.
use Rattle.std.specs.Prelude.{◌≡◌, ℕ, true, false, List, [], ◌∷◌, Option, Some, None, refl}
use Rattle.merc_base.specs.declared.category.Category.TheVariants.{Det, Semidet}
use Rattle.merc_base.specs.declared.place.Span.{Span}
use Rattle.merc_tree.specs.declared.declarations.Arg.TheVariants.{Input}
use Rattle.merc_graded_tree.specs.declared.basic.BasicGoal.TheVariants.{Test, Call, Wait, Signal}
use Rattle.merc_graded_tree.specs.declared.basic.Procedure.{Procedure}
use Rattle.merc_graded_tree.specs.declared.basic.Site.{Site}
use Rattle.merc_graded_tree.specs.declared.entries.Running.TheVariants.{Sequential, Parallel}
use Rattle.merc_graded_tree.specs.Nodes.{Node, node, Goal, Basic, Conjunction, nodes_of}
use Rattle.merc_meaning.specs.Runs.{ProcedureBody}
use Rattle.merc_par_split.specs.Forks.{forks}
use Rattle.merc_par_split.specs.Split.{may_fail, nothing, moves_in}
use Rattle.merc_par_split.specs.SplitLaws.{is_mark, marks, any_marks, unsited, first_if, erased, Unsplit, calls_of, sites_of, sites_from, split_body, split_program}

abbrev nowhere : Span
nowhere = record { first = 0; past = 0; line = 1 }

abbrev of : Goal → Node
of goal = node goal [] (Some Det) nowhere

abbrev procedure : ℕ → Procedure
procedure number = record { predicate = number; mode = 0 }

abbrev call : ℕ → Node
call number = of (Basic (Call (procedure number) (5 ∷ [])))

abbrev wait : Node
wait = of (Basic (Wait 5 2))

abbrev site : ℕ → Option Site
site number = Some (record { number = number })

abbrev in_turn : List Node → Node
in_turn goals = of (Conjunction Sequential (nodes_of goals))

abbrev beside : Option Site → List Node → Node
beside at goals = of (Conjunction (Parallel at) (nodes_of goals))

-- a call with a wait, beside another one
abbrev placed : Node
placed = beside (site 3) (in_turn (wait ∷ call 0 ∷ []) ∷ call 1 ∷ [])

abbrev bare : Node
bare = beside None (call 0 ∷ call 1 ∷ [])

may_fail-example : may_fail (Some Semidet) ≡ true
may_fail-example = refl

may_fail-unknown : may_fail None ≡ true
may_fail-unknown = refl

may_fail-not : may_fail (Some Det) ≡ true → ⊥
may_fail-not wrong = cc

moves_in-example : moves_in nothing (nodes_of (call 0 ∷ [])) 5 ≡ true
moves_in-example = refl

moves_in-not_for_two : moves_in nothing (nodes_of (call 0 ∷ call 1 ∷ [])) 5 ≡ true → ⊥
moves_in-not_for_two wrong = cc

moves_in-not_for_later : moves_in (λ variable. true) (nodes_of (call 0 ∷ [])) 5 ≡ true → ⊥
moves_in-not_for_later wrong = cc

forks-example : forks (in_turn (bare ∷ beside None (bare ∷ bare ∷ []) ∷ [])) ≡ 4
forks-example = refl

forks-not : forks (in_turn (call 0 ∷ [])) ≡ 1 → ⊥
forks-not of_any_conjunction = cc

is_mark-example : is_mark (Signal 5 0) ≡ true
is_mark-example = refl

is_mark-not : is_mark (Test 5 5) ≡ true → ⊥
is_mark-not wrong = cc

marks-example : marks wait ≡ true
marks-example = refl

marks-not : marks (in_turn (wait ∷ [])) ≡ true → ⊥
marks-not holds_one = cc

any_marks-example : any_marks (nodes_of (call 0 ∷ wait ∷ [])) ≡ true
any_marks-example = refl

any_marks-not : any_marks (nodes_of (in_turn (wait ∷ call 0 ∷ []) ∷ [])) ≡ true → ⊥
any_marks-not deeper = cc

unsited-example : unsited (Parallel (site 3)) ≡ Parallel None
unsited-example = refl

unsited-not : unsited (Parallel (site 3)) ≡ Sequential → ⊥
unsited-not wrong = cc

first_if-example : first_if true (nodes_of (call 0 ∷ call 1 ∷ [])) bare ≡ call 0
first_if-example = refl

first_if-not : first_if false (nodes_of (call 0 ∷ [])) bare ≡ call 0 → ⊥
first_if-not wrong = cc

erased-example : erased placed ≡ bare
erased-example = refl

erased-one : erased (in_turn (call 0 ∷ [])) ≡ in_turn (call 0 ∷ [])
erased-one = refl

erased-not : erased placed ≡ beside None (in_turn (call 0 ∷ []) ∷ call 1 ∷ []) → ⊥
erased-not keeps_the_conjunction = cc

unsplit-example : Unsplit bare
unsplit-example = (refl, (refl, (refl, tt)))

unsplit-not : Unsplit placed → ⊥
unsplit-not has_a_site = let e : Parallel None ≡ Parallel (site 3) = has_a_site.0 in cc

calls_of-example : calls_of placed ≡ procedure 0 ∷ procedure 1 ∷ []
calls_of-example = refl

calls_of-not : calls_of placed ≡ procedure 0 ∷ [] → ⊥
calls_of-not the_first = cc

sites_of-example : sites_of (in_turn (placed ∷ bare ∷ [])) ≡ site 3 ∷ None ∷ []
sites_of-example = refl

sites_of-not : sites_of bare ≡ [] → ⊥
sites_of-not wrong = cc

sites_from-example : sites_from 3 2 ≡ site 3 ∷ site 4 ∷ []
sites_from-example = refl

sites_from-not : sites_from 3 2 ≡ site 3 ∷ [] → ⊥
sites_from-not too_few = cc

abbrev body : ProcedureBody
body = record { places = Input ∷ []; body = bare }

split_body-example : split_body 3 body ≡ record { places = Input ∷ []; body = beside (site 3) (call 0 ∷ call 1 ∷ []) }
split_body-example = refl

split_program-example : split_program (λ p. 3) (λ p. None) (procedure 0) ≡ None
split_program-example = refl

split_program-not : split_program (λ p. 3) (λ p. Some body) (procedure 0) ≡ None → ⊥
split_program-not none = cc
