-- Worked examples of goals that fork the conjuncts of their sites, and of some that fork others.
use Rattle.std.specs.Prelude.{[], ◌∷◌, Some, refl}
use Rattle.merc_graded_tree.specs.Nodes.{Negation}
use Rattle.merc_meaning.specs.RunExamples.{goal, sequence}
use Rattle.merc_meaning.specs.Runs.{Program}
use Rattle.merc_gen.specs.Sites.{Sites, conjuncts_at}
use Rattle.merc_gen.specs.Sited.{IsSited, IsSitedBody, IsSitedProgram}
use Rattle.merc_gen.specs.SitesExamples.{fork, inner, outer, behind}

abbrev sites : Sites
sites = conjuncts_at (outer ∷ inner ∷ behind ∷ [])

sited-example : IsSited sites (sequence (fork 0 outer ∷ goal (Negation (fork 2 behind)) [] ∷ []) [])
sited-example = ((refl, ((refl, (tt, (tt, tt))), (tt, tt))), ((refl, (tt, (tt, tt))), tt))

-- at another number, at one that is not there, and where an inner one stands elsewhere

sited-other : IsSited sites (fork 1 behind) → ⊥
sited-other sited = absurd (cc)

sited-past : IsSited sites (fork 3 behind) → ⊥
sited-past sited = absurd (cc)

sited-inner : IsSited (conjuncts_at (outer ∷ behind ∷ [])) (fork 0 outer) → ⊥
sited-inner sited = absurd (cc)

body-example : IsSitedBody sites (Some (record { places = []; body = fork 1 inner }))
body-example = (refl, (tt, (tt, tt)))

abbrev program : Program
program called = Some (record { places = []; body = fork 1 inner })

program-example : IsSitedProgram sites program
program-example = record { bodies = λ called. (refl, (tt, (tt, tt))) }
