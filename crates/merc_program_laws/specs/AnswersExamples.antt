-- Traces that keep to a category or not.
use Rattle.std.specs.Prelude.{◌≡◌, [], ◌∷◌, None, refl}
use Rattle.std.proofs.Common.{inl}
use Rattle.merc_base.specs.declared.category.Category.TheVariants.{Det, Semidet, Multi, Nondet, Erroneous, Failure}
use Rattle.merc_meaning.specs.Trace.{Trace, Ends, Tick, Answer, Done, Raised, TooDeep, one_answer}
use Rattle.merc_program_laws.specs.Answers.{Each, Has, IsDone, KeepsTo}

abbrev two_answers : Trace
two_answers = Answer [] (Tick (Answer (None ∷ []) (Ends Done)))

each_empty : Each (λ env. env ≡ []) (Tick (one_answer []))
each_empty = (refl, tt)

not_each_empty : Each (λ env. env ≡ []) two_answers → ⊥
not_each_empty h = cc h.1.0

has_empty : Has (λ env. env ≡ []) two_answers
has_empty = inl refl

has_none : Has (λ env. env ≡ []) (Tick (Ends Done)) → ⊥
has_none h = h

is_done : IsDone two_answers
is_done = tt

raised_not_done : IsDone (Answer [] (Ends (Raised 5))) → ⊥
raised_not_done h = h

deep_not_done : IsDone (Tick (Ends TooDeep)) → ⊥
deep_not_done h = h

det : KeepsTo Det (Tick (one_answer []))
det = record { at_most = refl; at_least = λ c d. inl tt }

-- an exception is no answer that is missing
det_raised : KeepsTo Det (Ends (Raised 5))
det_raised = record { at_most = tt; at_least = λ c d. absurd d }

det_without_answer : KeepsTo Det (Ends Done) → ⊥
det_without_answer h = h.at_least refl tt

semidet : KeepsTo Semidet (Ends Done)
semidet = record { at_most = tt; at_least = λ c d. cc }

semidet_twice : KeepsTo Semidet two_answers → ⊥
semidet_twice h = cc h.at_most

nondet : KeepsTo Nondet (Ends Done)
nondet = record { at_most = tt; at_least = λ c d. cc }

multi : KeepsTo Multi two_answers
multi = record { at_most = tt; at_least = λ c d. inl tt }

failure_with_answer : KeepsTo Failure (one_answer []) → ⊥
failure_with_answer h = h.at_most.0

erroneous_done : KeepsTo Erroneous (Ends Done) → ⊥
erroneous_done h = h.at_least refl tt
