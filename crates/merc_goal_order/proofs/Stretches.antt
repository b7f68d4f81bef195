-- The variables of goals as a stretch of those of a body, and what is known of the goal at its front.
use Rattle.std.specs.Prelude.{◌≡◌, ◌+◌, ◌≤◌, ℕ, suc, List, ◌++◌, length}
use Rattle.std.specs.List.{slice_index_or}
use Rattle.std.proofs.Common.{◌∙◌, ap, sym, subst, arith}
use Rattle.std.proofs.lemmas.List.{length-append, append_assoc}
use Rattle.merc_tree.specs.declared.declarations.ModeDecl.{ModeDecl}
use Rattle.merc_goal_tree.specs.Nodes.{Node, Nodes, more_nodes}
use Rattle.merc_goal_tree.specs.Parts.{parts_of}
use Rattle.merc_goal_tree.specs.Variables.{variables}
use Rattle.merc_goal_facts.specs.Facts.{all_subgoals, AreFactsOf}
use Rattle.merc_goal_facts.specs.Outside.{IsStretch}
use Rattle.merc_goal_facts.specs.declared.facts.Facts.{Facts}
use Rattle.merc_readiness.specs.Sweeps.{AreKnownFrom}
use Rattle.merc_readiness.proofs.Binding.{next_known, own_facts}
use Rattle.merc_goal_order.specs.Positions.{IsNext}

-- a stretch cut in two

pub stretch_front : (total : ℕ → ℕ) (all : List ℕ) (start : ℕ) (front back : List ℕ) → IsStretch total all start (start + length (front ++ back)) (front ++ back)
    → IsStretch total all start (start + length front) front
stretch_front total all start front back s = record {
  before = s.before;
  after = back ++ s.after;
  whole = s.whole ∙ ap (λ l. s.before ++ l) (append_assoc front back s.after);
  start_is = s.start_is;
  end_is = ap (λ n. n + length front) s.start_is;
  total_is = s.total_is;
}

pub stretch_back : (total : ℕ → ℕ) (all : List ℕ) (start : ℕ) (front back : List ℕ) → IsStretch total all start (start + length (front ++ back)) (front ++ back)
    → IsStretch total all (start + length front) (start + length front + length back) back
stretch_back total all start front back s =
    let begin : length (s.before ++ front) ≡ start + length front = length-append s.before front ∙ ap (λ n. n + length front) s.start_is in
    record {
      before = s.before ++ front;
      after = s.after;
      whole = s.whole ∙ ap (λ l. s.before ++ l) (append_assoc front back s.after) ∙ sym (append_assoc s.before front (back ++ s.after));
      start_is = begin;
      end_is = ap (λ n. n + length back) begin;
      total_is = s.total_is;
    }

pub stretch_within : (total : ℕ → ℕ) (all : List ℕ) (start end : ℕ) (inside : List ℕ) → IsStretch total all start end inside → start + length inside ≤ length all
stretch_within total all start end inside s =
    let one : length all ≡ length (s.before ++ (inside ++ s.after)) = ap length s.whole in
    let two = s.start_is in
    omega (arith, one, two, length-append s.before (inside ++ s.after), length-append inside s.after)

module _ (total : ℕ → ℕ) (modes : ℕ → List ModeDecl) where
  -- where the variables behind a goal begin
  pub place_is : (goal : Node) (all : List ℕ) (start next : ℕ) (behind : List ℕ) (found : Facts) → AreFactsOf total modes goal found
      → IsStretch total all start (start + length (variables goal ++ behind)) (variables goal ++ behind)
      → (start + found.occurrences ≤ length all → next ≡ start + found.occurrences) → next ≡ start + length (variables goal)
  place_is goal all start next behind found own s is =
      let few = stretch_within total all start (start + length (variables goal)) (variables goal) (stretch_front total all start (variables goal) behind s) in
      let count = own.occurrences_are in
      is (omega (arith, few, count)) ∙ ap (λ n. start + n) count

  pub next_stretch : (goal : Node) (all : List ℕ) (start next : ℕ) (behind : List ℕ) (found : Facts) → AreFactsOf total modes goal found
      → IsStretch total all start (start + length (variables goal ++ behind)) (variables goal ++ behind)
      → (start + found.occurrences ≤ length all → next ≡ start + found.occurrences) → IsStretch total all next (next + length behind) behind
  next_stretch goal all start next behind found own s is =
      subst (λ n. IsStretch total all n (n + length behind) behind) (sym (place_is goal all start next behind found own s is)) (stretch_back total all start (variables goal) behind s)

  pub known_next : (goal : Node) (rest : Nodes) (facts : List Facts) (at own : ℕ) (found : Facts) → AreKnownFrom total modes (all_subgoals (more_nodes goal rest)) facts at
      → suc own ≡ at + length (parts_of goal) → found ≡ slice_index_or facts own found → AreFactsOf total modes goal found
  known_next goal rest facts at own found known own_is found_is =
      let k = next_known total modes goal rest facts at known in
      let same : found ≡ k.own = found_is ∙ own_facts total modes goal rest facts at own found k own_is in
      subst (λ f. AreFactsOf total modes goal f) (sym same) k.own_known

-- the place behind the variables of a goal
pub next_place : (goal : Node) (facts : List Facts) (all : List ℕ) (at own place next : ℕ) (found : Facts) → suc own ≡ at + length (parts_of goal) → found ≡ slice_index_or facts own found
    → (place + found.occurrences ≤ length all → next ≡ place + found.occurrences) → IsNext goal facts all at place next
next_place goal facts all at own place next found own_is is next_is = λ total modes rest known room.
    let f = known_next total modes goal rest facts at own found known own_is is in
    let n : found.occurrences ≡ length (variables goal) = f.occurrences_are in
    next_is (omega (arith, n, room)) ∙ ap (λ m. place + m) n
