-- A goal that joins one goal: its marks are those of that goal.
use Rattle.std.specs.Prelude.{◌≡◌, ℕ, Bool, List}
use Rattle.std.proofs.Common.{subst}
use Rattle.std.proofs.lemmas.List.{append-nil}
use Rattle.merc_base.specs.declared.place.Span.{Span}
use Rattle.merc_tree.specs.declared.declarations.ModeDecl.{ModeDecl}
use Rattle.merc_goal_tree.specs.Nodes.{Node, Negation, Quantified, no_nodes, more_nodes}
use Rattle.merc_order.specs.Bound.{Bound}
use Rattle.merc_order.specs.Marks.{Marked, no_marks, more_marks, IsSound}
use Rattle.merc_goal_facts.specs.Facts.{AreKnown, subgoals, all_subgoals}
use Rattle.merc_goal_facts.specs.declared.facts.Facts.{Facts}
use Rattle.merc_readiness.specs.Asking.{flags_of, Fits, none, more, IsMarked, AreMarked}

module _ (total : ℕ → ℕ) (modes : ℕ → List ModeDecl) where
  pub inner_known : (goal : Node) (facts : List Facts) → AreKnown total modes (all_subgoals (more_nodes goal no_nodes)) facts → AreKnown total modes (subgoals goal) facts
  inner_known goal facts known = subst (λ l. AreKnown total modes l facts) (append-nil (subgoals goal)) known

  negation_by : (goal : Node) (span : Span) (flags : List Bool) (bound : Bound) (inner : Marked) → Fits (more_nodes goal no_nodes) inner → flags ≡ flags_of inner
      → IsSound total modes (Negation goal span) inner bound → IsMarked total modes goal flags bound
  negation_by goal span flags bound inner (more g r went gi others f none) same sound = record { inner = gi; went = went; fits = f; flags_are = same; sound = sound }

  pub negation_inner : (goal : Node) (span : Span) (flags : List Bool) (bound : Bound) → AreMarked total modes (Negation goal span) flags bound → IsMarked total modes goal flags bound
  negation_inner goal span flags bound m = negation_by goal span flags bound m.inner m.fits m.flags_are m.sound

  pub negation_marked : (goal : Node) (span : Span) (flags : List Bool) (bound : Bound) → IsMarked total modes goal flags bound → AreMarked total modes (Negation goal span) flags bound
  negation_marked goal span flags bound m =
      record { inner = more_marks m.went m.inner no_marks; fits = more goal no_nodes m.went m.inner no_marks m.fits none; flags_are = m.flags_are; sound = m.sound }

  quantified_by : (own : List ℕ) (goal : Node) (span : Span) (flags : List Bool) (bound : Bound) (inner : Marked) → Fits (more_nodes goal no_nodes) inner → flags ≡ flags_of inner
      → IsSound total modes (Quantified own goal span) inner bound → IsMarked total modes goal flags bound
  quantified_by own goal span flags bound inner (more g r went gi others f none) same sound = record { inner = gi; went = went; fits = f; flags_are = same; sound = sound }

  pub quantified_inner : (own : List ℕ) (goal : Node) (span : Span) (flags : List Bool) (bound : Bound) → AreMarked total modes (Quantified own goal span) flags bound
      → IsMarked total modes goal flags bound
  quantified_inner own goal span flags bound m = quantified_by own goal span flags bound m.inner m.fits m.flags_are m.sound

  pub quantified_marked : (own : List ℕ) (goal : Node) (span : Span) (flags : List Bool) (bound : Bound) → IsMarked total modes goal flags bound
      → AreMarked total modes (Quantified own goal span) flags bound
  quantified_marked own goal span flags bound m =
      record { inner = more_marks m.went m.inner no_marks; fits = more goal no_nodes m.went m.inner no_marks m.fits none; flags_are = m.flags_are; sound = m.sound }
