-- Goals that are joined are ordered one after the other.
use Rattle.std.specs.Prelude.{◌≡◌, ◌+◌, ◌≤◌, ℕ, suc, List, [], ◌∷◌, ◌++◌, length, Ok, Err, refl}
use Rattle.std.specs.List.{slice_index_or}
use Rattle.std.proofs.Common.{◌∙◌, ap, sym, subst}
use Rattle.merc_base.specs.declared.refusal.Fault.{Fault}
use Rattle.merc_base.specs.declared.refusal.Fault.TheVariants.{Refused, NoMemory}
use Rattle.merc_base.specs.declared.refusal.Refusal.{Refusal}
use Rattle.merc_tree.specs.declared.declarations.ModeDecl.{ModeDecl}
use Rattle.merc_goal_tree.specs.Nodes.{Node, Nodes, more_nodes}
use Rattle.merc_goal_tree.specs.Parts.{parts_of}
use Rattle.merc_goal_tree.specs.Variables.{all_variables}
use Rattle.merc_order.specs.Ordered.{Ordered, Outcome, Stuck, Outcomes, no_goals, AllReady, OneStuck, then_all}
use Rattle.merc_goal_facts.specs.Facts.{AreKnown, all_subgoals}
use Rattle.merc_goal_facts.specs.Outside.{IsStretch}
use Rattle.merc_readiness.specs.Sweeps.{AreKnownFrom}
use Rattle.merc_simple_goals.specs.Writing.{IsWritten, Gives}
use Rattle.merc_simple_goals.specs.declared.written.Written.{Written}
use Rattle.merc_goal_facts.specs.declared.facts.Facts.{Facts}
use Rattle.merc_goal_order.proofs.Stretches.{known_next, next_stretch}
use Rattle.merc_goal_order.specs.Walks.{behind_them, GivesAll, Walked}
use Rattle.merc_readiness.proofs.Binding.{next_known}
use Rattle.merc_goal_order.proofs.Emitted.{behind_on, behind_ready, behind_stuck, none_written, written_on}

module _ (total : ℕ → ℕ) (modes : ℕ → List ModeDecl) where
  pub walked_first : (goals : Nodes) (facts : List Facts) (all : List ℕ) (start : ℕ) (whole : Outcomes) (old : Written) → AreKnown total modes (all_subgoals goals) facts
      → IsStretch total all start (start + length (all_variables goals)) (all_variables goals) → Walked total modes goals facts 0 all start whole whole old old
  walked_first goals facts all start whole old known stretch = record {
    known = record { front = []; back = facts; at_is = refl; facts_are = refl; known = known };
    stretch = stretch;
    done = [];
    whole_is = refl;
    written = none_written modes old;
  }

  -- One more is ordered.
  pub walked_on : (goal : Node) (rest : Nodes) (facts : List Facts) (at own end : ℕ) (all : List ℕ) (place next : ℕ) (found : Facts) (whole now later : Outcomes) (ordered : Ordered) (old mid new : Written)
      → Walked total modes (more_nodes goal rest) facts at all place whole now old mid → suc own ≡ at + length (parts_of goal) → end ≡ at + length (parts_of goal) → found ≡ slice_index_or facts own found
      → (place + found.occurrences ≤ length all → next ≡ place + found.occurrences) → now ≡ then_all ordered later → IsWritten modes ordered mid new
      → Walked total modes rest facts end all next whole later old new
  walked_on goal rest facts at own end all place next found whole now later ordered old mid new w own_is end_is found_is next_is now_is one =
      let known = known_next total modes goal rest facts at own found w.known own_is found_is in
      record {
        known = subst (λ n. AreKnownFrom total modes (all_subgoals rest) facts n) (sym end_is) (next_known total modes goal rest facts at w.known).others_known;
        stretch = next_stretch total modes goal all place next (all_variables rest) found known w.stretch next_is;
        done = w.done ++ ordered ∷ [];
        whole_is = w.whole_is ∙ ap (λ o. behind_them w.done o) now_is ∙ behind_on w.done ordered later;
        written = written_on modes w.done ordered old mid new w.written one;
      }

  pub walked_end : (facts : List Facts) (at : ℕ) (all : List ℕ) (place : ℕ) (whole now : Outcomes) (old new : Written) (rest : Nodes) → Walked total modes rest facts at all place whole now old new
      → now ≡ AllReady no_goals → GivesAll modes whole old new (Ok tt)
  walked_end facts at all place whole now old new rest w none = (w.done, w.whole_is ∙ ap (λ o. behind_them w.done o) none ∙ behind_ready w.done, w.written)

  -- one has no order
  pub walked_stuck : (facts : List Facts) (at : ℕ) (all : List ℕ) (place : ℕ) (whole now : Outcomes) (old mid late new : Written) (rest : Nodes) (outcome : Outcome) (fault : Fault)
      → Walked total modes rest facts at all place whole now old mid → ((refusal : Refusal) → outcome ≡ Stuck refusal → now ≡ OneStuck refusal)
      → Gives modes outcome mid late (Err fault) → GivesAll modes whole old new (Err fault)
  walked_stuck facts at all place whole now old mid late new rest outcome (Refused refusal) w is gives =
      w.whole_is ∙ ap (λ o. behind_them w.done o) (is refusal gives) ∙ behind_stuck w.done refusal
  walked_stuck facts at all place whole now old mid late new rest outcome NoMemory w is gives = tt
