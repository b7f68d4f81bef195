-- The sites of small goals, each worked out by hand from the rules of the language. `use(in)` and `f(in, out)` are det. V is bound before.
use Rattle.std.specs.Prelude.{◌≡◌, ℕ, pos, true, false, List, [], ◌∷◌, map, Some, None, refl}
use Rattle.std.proofs.Common.{◌∙◌, ap, sym}
use Rattle.merc_base.specs.declared.category.Category.TheVariants.{Det}
use Rattle.merc_base.specs.declared.place.Span.{Span}
use Rattle.merc_goal_tree.specs.declared.goal.Symbol.TheVariants.{Integer}
use Rattle.merc_graded_tree.specs.declared.basic.BasicGoal.TheVariants.{Build, Call}
use Rattle.merc_graded_tree.specs.declared.entries.Running.TheVariants.{Sequential, Parallel}
use Rattle.merc_graded_tree.specs.Nodes.{Node, node, Goal, Basic, Conjunction, nodes_of}
use Rattle.merc_rights.specs.declared.sites.CellInfo.{CellInfo}
use Rattle.merc_rights.specs.declared.sites.Moved.{Moved}
use Rattle.merc_rights.specs.declared.sites.SiteInfo.{SiteInfo}
use Rattle.merc_rights.specs.Rights.{right_to}
use Rattle.merc_par_split.specs.Sites.{count, consumers, are_for, sites, all_sites}

abbrev nowhere : Span
nowhere = record { first = 0; past = 0; line = 1 }

abbrev det : List ℕ → Goal → Node
det outputs goal = node goal outputs (Some Det) nowhere

abbrev is_one : ℕ → Node
is_one variable = det (variable ∷ []) (Basic (Build variable (Integer (pos 1)) []))

abbrev call : List ℕ → ℕ → List ℕ → Node
call outputs number arguments = det outputs (Basic (Call (record { predicate = number; mode = 0 }) arguments))

abbrev uses : ℕ → Node
uses variable = call [] 0 (variable ∷ [])

abbrev f : ℕ → ℕ → Node
f from to = call (to ∷ []) 1 (from ∷ to ∷ [])

abbrev beside : List ℕ → List Node → Node
beside outputs goals = det outputs (Conjunction (Parallel None) (nodes_of goals))

abbrev seq : List ℕ → List Node → Node
seq outputs goals = det outputs (Conjunction Sequential (nodes_of goals))

abbrev x : ℕ
x = 0

abbrev y : ℕ
y = 1

abbrev v : ℕ
v = 8

abbrev cell : ℕ → ℕ → ℕ → CellInfo
cell variable producer consumer = record { variable = variable; producer = producer; consumer = consumer }

abbrev signal_into : ℕ → ℕ → Moved
signal_into variable child = record { variable = variable; child = child; signal = true }

abbrev wait_into : ℕ → ℕ → Moved
wait_into variable child = record { variable = variable; child = child; signal = false }

abbrev site : ℕ → List CellInfo → List Moved → SiteInfo
site children cells moves = record { children = children; cells = cells; moves = moves }

abbrev producers : SiteInfo → List ℕ
producers info = map (λ one. one.producer) info.cells

abbrev children : SiteInfo → List ℕ
children info = map (λ one. one.child) info.moves

-- who waits for a variable

consumers-example : consumers 2 (nodes_of (uses x ∷ uses v ∷ uses x ∷ [])) (x ∷ []) x ≡ 2 ∷ 4 ∷ 0 ∷ []
consumers-example = refl

consumers-not : consumers 2 (nodes_of (uses x ∷ [])) [] x ≡ 2 ∷ 0 ∷ [] → ⊥
consumers-not no_output = cc

count-example : count (nodes_of (uses x ∷ uses v ∷ [])) ≡ 2
count-example = refl

are_for-example : are_for (right_to 2 x ∷ right_to 0 y ∷ []) y ≡ true
are_for-example = refl

are_for-not : are_for (right_to 2 x ∷ []) y ≡ true → ⊥
are_for-not other = cc

-- `X = 1, use(X)`: no `&`, no site
no_site : sites (seq [] (is_one x ∷ uses x ∷ [])) ≡ []
no_site = refl

-- `X = 1 & use(X)`
one_cell : sites (beside [] (is_one x ∷ uses x ∷ [])) ≡ site 2 (cell x 1 2 ∷ []) [] ∷ []
one_cell = refl

-- producer and consumer are told apart
not_turned : sites (beside [] (is_one x ∷ uses x ∷ [])) ≡ site 2 (cell x 2 1 ∷ []) [] ∷ [] → ⊥
not_turned turned = let numbers : ◌≡◌ {A = List (List ℕ)} ((1 ∷ []) ∷ []) ((2 ∷ []) ∷ []) = ap (map producers) (sym one_cell ∙ turned) in cc

-- `X = 1 & f(X, Y) & use(X)`, and X and Y are used behind: by the conjunct that binds the variable, 0 is the last consumer
cells_in_order : sites (beside (x ∷ y ∷ []) (is_one x ∷ f x y ∷ uses x ∷ [])) ≡ site 3 (cell x 1 2 ∷ cell x 1 3 ∷ cell x 1 0 ∷ cell y 2 0 ∷ []) [] ∷ []
cells_in_order = refl

-- `X = 1 & ( use(X) & use(V) )`: the right to wait moves into the first conjunct of the inner `&`, which has no cell
wait_moves : sites (beside [] (is_one x ∷ beside [] (uses x ∷ uses v ∷ []) ∷ [])) ≡ site 2 (cell x 1 2 ∷ []) [] ∷ site 2 [] (wait_into x 1 ∷ []) ∷ []
wait_moves = refl

-- it moves into one conjunct alone
moves_once : sites (beside [] (is_one x ∷ beside [] (uses x ∷ uses v ∷ []) ∷ [])) ≡ site 2 (cell x 1 2 ∷ []) [] ∷ site 2 [] (wait_into x 1 ∷ wait_into x 2 ∷ []) ∷ [] → ⊥
moves_once twice = let numbers : ◌≡◌ {A = List (List ℕ)} ([] ∷ (1 ∷ []) ∷ []) ([] ∷ (1 ∷ 2 ∷ []) ∷ []) = ap (map children) (sym wait_moves ∙ twice) in cc

-- `X = 1 & ( use(X) & use(X) )`: two conjuncts use it, so the right stays
wait_stays : sites (beside [] (is_one x ∷ beside [] (uses x ∷ uses x ∷ []) ∷ [])) ≡ site 2 (cell x 1 2 ∷ []) [] ∷ site 2 [] [] ∷ []
wait_stays = refl

-- `X = 1 & ( ( use(X) & use(V) ), use(X) )`: it is used later, so the right stays
used_later : sites (beside [] (is_one x ∷ seq [] (beside [] (uses x ∷ uses v ∷ []) ∷ uses x ∷ []) ∷ [])) ≡ site 2 (cell x 1 2 ∷ []) [] ∷ site 2 [] [] ∷ []
used_later = refl

-- `( X = 1 & use(V) ) & use(X)`: the right to signal moves into the conjunct that binds X, and the inner parent waits for it too
signal_moves : sites (beside [] (beside (x ∷ []) (is_one x ∷ uses v ∷ []) ∷ uses x ∷ [])) ≡ site 2 (cell x 1 2 ∷ []) [] ∷ site 2 (cell x 1 0 ∷ []) (signal_into x 1 ∷ []) ∷ []
signal_moves = refl

-- `X = 1 & ( f(X, Y) & use(V) ) & use(Y)`: of the rights that move those to signal come first
both_move : sites (beside [] (is_one x ∷ beside (y ∷ []) (f x y ∷ uses v ∷ []) ∷ uses y ∷ []))
    ≡ site 3 (cell x 1 2 ∷ cell y 2 3 ∷ []) [] ∷ site 2 (cell y 1 0 ∷ []) (signal_into y 1 ∷ wait_into x 1 ∷ []) ∷ []
both_move = refl

-- trees one after the other
all_sites-example : all_sites (beside [] (is_one x ∷ uses x ∷ []) ∷ seq [] (is_one x ∷ []) ∷ beside [] (uses v ∷ uses v ∷ []) ∷ [])
    ≡ site 2 (cell x 1 2 ∷ []) [] ∷ site 2 [] [] ∷ []
all_sites-example = refl

all_sites-not : all_sites (seq [] (is_one x ∷ []) ∷ []) ≡ site 0 [] [] ∷ [] → ⊥
all_sites-not one_each = cc
