-- Marks of how far the parts of a goal have come stay right where more is bound, and tell whether a conjunction can be ordered.
use Rattle.std.specs.Prelude.{◌≡◌, ℕ, Bool, true, false, List, [], ◌∷◌, length, refl}
use Rattle.std.proofs.Common.{◌∙◌, sym}
use Rattle.merc_base.specs.declared.place.Span.{Span}
use Rattle.merc_tree.specs.declared.declarations.ModeDecl.{ModeDecl}
use Rattle.merc_goal_tree.specs.Nodes.{Node, Nodes, Simple, Conjunction, Parallel, Disjunction, Conditional, Negation, Quantified, no_nodes, more_nodes}
use Rattle.merc_order.specs.Bound.{Bound, with, Holds}
use Rattle.merc_order.specs.Moves.{Move, settled}
use Rattle.merc_order.specs.Order.{binds, from, moves, outputs_of}
use Rattle.merc_order.specs.Ordered.{put, Sequence, Ready, is_ready, Outcomes, AllReady, OneStuck, are_ready, if_all_ready}
use Rattle.merc_order.proofs.MoveLaws.{holds_with}
use Rattle.merc_order.specs.Marks.{Marked, no_marks, more_marks, part, unless, left, IsSound, SoundLeft, SoundEach, SoundBeside}
use Rattle.merc_order.specs.Ways.{Went, NoneReady}
use Rattle.merc_order.proofs.SweepLaws.{went-more, all_went, some_left}
use Rattle.merc_order.proofs.FromLaws.{from-more, moves-more}

module _ (total : ℕ → ℕ) (modes : ℕ → List ModeDecl) where
  part-more : (went : Bool) (r s q t : Type 0) → (r → q) → (s → t) → part went r s → part went q t
  part-more true r s q t f g h = f h
  part-more false r s q t f g h = g h

  unless-more : (went : Bool) (s t : Type 0) → (s → t) → unless went s → unless went t
  unless-more true s t g h = h
  unless-more false s t g h = g h

  mutual
    -- marks stay right where more is bound
    pub sound-more : (node : Node) (marked : Marked) (bound more : Bound) → Holds bound more → IsSound total modes node marked bound → IsSound total modes node marked more
    sound-more (Simple goal span) marked bound more h sound = sound
    sound-more (Conjunction goals span) marked bound more h (now, way, inner) =
        let i = went-more (moves total modes goals) (left total modes goals marked) bound more now (moves-more total modes goals) h way in
        (i.at_last, i.went_to, left-more goals marked now i.at_last i.more_holds inner)
    sound-more (Parallel goals span) marked bound more h sound = beside-sound goals marked bound more h sound
    sound-more (Disjunction goals span) marked bound more h sound = each-sound goals marked bound more h sound
    sound-more (Conditional condition then_part else_part span) (more_marks c ci (more_marks t ti (more_marks e ei no_marks))) bound more h (one, two, three) =
        let inner = holds_with bound more (binds total modes condition) h in (
          part-more c _ _ _ _ (from-more total modes condition bound more h) (sound-more condition ci bound more h) one,
          part-more t _ _ _ _ (from-more total modes then_part (with bound (binds total modes condition)) (with more (binds total modes condition)) inner) (sound-more then_part ti (with bound (binds total modes condition)) (with more (binds total modes condition)) inner) two,
          part-more e _ _ _ _ (from-more total modes else_part bound more h) (sound-more else_part ei bound more h) three,
        )
    sound-more (Negation goal span) (more_marks g gi no_marks) bound more h sound =
        part-more g _ _ _ _ (from-more total modes goal bound more h) (sound-more goal gi bound more h) sound
    sound-more (Quantified own goal span) (more_marks g gi no_marks) bound more h sound =
        part-more g _ _ _ _ (from-more total modes goal bound more h) (sound-more goal gi bound more h) sound
    sound-more (Conditional condition then_part else_part span) no_marks bound more h sound = elim sound [ ]
    sound-more (Conditional condition then_part else_part span) (more_marks c ci no_marks) bound more h sound = elim sound [ ]
    sound-more (Conditional condition then_part else_part span) (more_marks c ci (more_marks t ti no_marks)) bound more h sound = elim sound [ ]
    sound-more (Conditional condition then_part else_part span) (more_marks c ci (more_marks t ti (more_marks e ei (more_marks went inner rest)))) bound more h sound = elim sound [ ]
    sound-more (Negation goal span) no_marks bound more h sound = elim sound [ ]
    sound-more (Negation goal span) (more_marks g gi (more_marks t ti rest)) bound more h sound = elim sound [ ]
    sound-more (Quantified own goal span) no_marks bound more h sound = elim sound [ ]
    sound-more (Quantified own goal span) (more_marks g gi (more_marks t ti rest)) bound more h sound = elim sound [ ]

    pub left-more : (goals : Nodes) (marked : Marked) (bound more : Bound) → Holds bound more → SoundLeft total modes goals marked bound → SoundLeft total modes goals marked more
    left-more no_nodes marked bound more h sound = sound
    left-more (more_nodes first rest) no_marks bound more h sound = sound
    left-more (more_nodes first rest) (more_marks went inner others) bound more h (one, two) =
        (unless-more went _ _ (sound-more first inner bound more h) one, left-more rest others bound more h two)

    pub each-sound : (goals : Nodes) (marked : Marked) (bound more : Bound) → Holds bound more → SoundEach total modes goals marked bound → SoundEach total modes goals marked more
    each-sound no_nodes marked bound more h sound = sound
    each-sound (more_nodes first rest) no_marks bound more h sound = sound
    each-sound (more_nodes first rest) (more_marks went inner others) bound more h (one, two) =
        (part-more went _ _ _ _ (from-more total modes first bound more h) (sound-more first inner bound more h) one, each-sound rest others bound more h two)

    pub beside-sound : (goals : Nodes) (marked : Marked) (bound more : Bound) → Holds bound more → SoundBeside total modes goals marked bound → SoundBeside total modes goals marked more
    beside-sound no_nodes marked bound more h sound = sound
    beside-sound (more_nodes first rest) no_marks bound more h sound = sound
    beside-sound (more_nodes first rest) (more_marks went inner others) bound more h (one, two) = (
      part-more went _ _ _ _ (from-more total modes first bound more h) (sound-more first inner bound more h) one,
      beside-sound rest others (with bound (binds total modes first)) (with more (binds total modes first)) (holds_with bound more (binds total modes first) h) two,
    )

  ready_all : (o : Outcomes) (outputs : List ℕ) (span : Span) → is_ready (if_all_ready o (λ all. Ready (put (Sequence all) outputs span))) ≡ are_ready o
  ready_all (AllReady goals) outputs span = refl
  ready_all (OneStuck fault) outputs span = refl

  -- a conjunction of which all went
  pub conjunction-ready : (goals : Nodes) (span : Span) (bound now : Bound) → Went (moves total modes goals) bound [] now → is_ready (from total modes (Conjunction goals span) bound) ≡ true
  conjunction-ready goals span bound now way =
      ready_all (settled (length (moves total modes goals)) (moves total modes goals) bound) (outputs_of total modes bound (Conjunction goals span)) span ∙ all_went (moves total modes goals) bound now (moves-more total modes goals) way

  -- one of which some are left and none can be ordered
  pub conjunction-stuck : (goals : Nodes) (span : Span) (m : Move) (ms : List Move) (bound now : Bound) → Went (moves total modes goals) bound (m ∷ ms) now → NoneReady (m ∷ ms) now
      → is_ready (from total modes (Conjunction goals span) bound) ≡ true → ⊥
  conjunction-stuck goals span m ms bound now way stuck h =
      some_left (moves total modes goals) m ms bound now (moves-more total modes goals) way stuck
      (sym (ready_all (settled (length (moves total modes goals)) (moves total modes goals) bound) (outputs_of total modes bound (Conjunction goals span)) span) ∙ h)
