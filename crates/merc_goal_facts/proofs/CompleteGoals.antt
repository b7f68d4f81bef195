-- What is known of goals that are complete, where facts are added, and some of the goals are taken.
use Rattle.std.specs.Prelude.{◌≡◌, ℕ, zero, suc, List, [], ◌∷◌, ◌++◌, length, take, drop, Some, slice_get, refl}
use Rattle.std.proofs.Common.{ap}
use Rattle.merc_tree.specs.declared.declarations.ModeDecl.{ModeDecl}
use Rattle.merc_goal_tree.specs.Nodes.{Node, nodes_of}
use Rattle.merc_goal_facts.specs.declared.facts.Facts.{Facts}
use Rattle.merc_goal_facts.specs.declared.complete.Complete.{Complete}
use Rattle.merc_goal_facts.specs.Complete.{AreKnown, IsKnown}
use Rattle.merc_goal_facts.specs.Facts.{AreFactsOf}

still_there : (items more : List Facts) (index : ℕ) (item : Facts) → slice_get items index ≡ Some item → slice_get (items ++ more) index ≡ Some item
still_there [] more index item is = cc
still_there (first ∷ rest) more zero item is = is
still_there (first ∷ rest) more (suc index) item is = still_there rest more index item is

last_there : (items : List Facts) (item : Facts) → slice_get (items ++ item ∷ []) (length items) ≡ Some item
last_there [] item = refl
last_there (first ∷ rest) item = last_there rest item

module _ (total : ℕ → ℕ) (modes : ℕ → List ModeDecl) where
  pub counted : (facts : List Facts) (complete : List Complete) (goals : List Node) → AreKnown total modes facts complete (nodes_of goals) → length complete ≡ length goals
  counted facts [] [] known = refl
  counted facts [] (goal ∷ goals) known = absurd known
  counted facts (first ∷ rest) [] known = absurd known
  counted facts (first ∷ rest) (goal ∷ goals) (one, known) = ap suc (counted facts rest goals known)

  pub still_known : (facts : List Facts) (found : Facts) (complete : Complete) (goal : Node) → IsKnown total modes facts complete goal → IsKnown total modes (facts ++ found ∷ []) complete goal
  still_known facts found complete goal one = record { found = one.found; there = still_there facts (found ∷ []) complete.part one.found one.there; are = one.are }

  pub known_more : (facts : List Facts) (found : Facts) (complete : List Complete) (goals : List Node) → AreKnown total modes facts complete (nodes_of goals) → AreKnown total modes (facts ++ found ∷ []) complete (nodes_of goals)
  known_more facts found [] [] known = tt
  known_more facts found [] (goal ∷ goals) known = absurd known
  known_more facts found (first ∷ rest) [] known = absurd known
  known_more facts found (first ∷ rest) (goal ∷ goals) (one, known) =
      (still_known facts found first goal one, known_more facts found rest goals known)

  pub is_last : (facts : List Facts) (found : Facts) (start : ℕ) (goal : Node) → AreFactsOf total modes goal found → IsKnown total modes (facts ++ found ∷ []) (record { part = length facts; start = start }) goal
  is_last facts found start goal are = record { found = found; there = last_there facts found; are = are }

  pub known_take : (facts : List Facts) (kept : ℕ) (complete : List Complete) (goals : List Node) → AreKnown total modes facts complete (nodes_of goals) → AreKnown total modes facts (take kept complete) (nodes_of (take kept goals))
  known_take facts zero [] [] known = tt
  known_take facts (suc kept) [] [] known = tt
  known_take facts kept [] (goal ∷ goals) known = absurd known
  known_take facts kept (first ∷ rest) [] known = absurd known
  known_take facts zero (first ∷ rest) (goal ∷ goals) known = tt
  known_take facts (suc kept) (first ∷ rest) (goal ∷ goals) (one, known) = (one, known_take facts kept rest goals known)

  pub known_drop : (facts : List Facts) (kept : ℕ) (complete : List Complete) (goals : List Node) → AreKnown total modes facts complete (nodes_of goals) → AreKnown total modes facts (drop kept complete) (nodes_of (drop kept goals))
  known_drop facts zero [] [] known = tt
  known_drop facts (suc kept) [] [] known = tt
  known_drop facts kept [] (goal ∷ goals) known = absurd known
  known_drop facts kept (first ∷ rest) [] known = absurd known
  known_drop facts zero (first ∷ rest) (goal ∷ goals) known = known
  known_drop facts (suc kept) (first ∷ rest) (goal ∷ goals) (one, known) = known_drop facts kept rest goals known

  pub known_last : (facts : List Facts) (complete : List Complete) (goals : List Node) (last : Complete) (goal : Node) → AreKnown total modes facts complete (nodes_of goals) → IsKnown total modes facts last goal
      → AreKnown total modes facts (complete ++ last ∷ []) (nodes_of (goals ++ goal ∷ []))
  known_last facts [] [] last goal known one = (one, tt)
  known_last facts [] (other ∷ others) last goal known one = absurd known
  known_last facts (first ∷ rest) [] last goal known one = absurd known
  known_last facts (first ∷ rest) (other ∷ others) last goal (here, known) one = (here, known_last facts rest others last goal known one)
