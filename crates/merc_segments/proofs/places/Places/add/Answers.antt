-- The place of a cell is put into the set, and nothing for other words.
use Rattle.std.proofs.Common.{ℕ, List, [], ◌∷◌, sym, subst}
use Rattle.merc_value.specs.declared.word.Word.{Word}
use Rattle.merc_value.specs.declared.word.Word.TheVariants.{Cell}
use Rattle.merc_segments.specs.Places.{Adds}
use Rattle.merc_segments.proofs.ReachLemmas.{put_place}
use Rattle.merc_segments.proofs.places.Places.add.Goals as goal

pub returns-in_ok-insert : goal.returns-in_ok-insert
returns-in_ok-insert c =
    subst (λ (w : Word). Adds (w ∷ []) c.args.self.now c.insert.new.self.keys) (sym c.in-Cell.is)
    (subst (λ (old : List ℕ). Adds (Cell c.in-Cell.place ∷ []) old c.insert.new.self.keys) c.self.view_is
    (put_place c.self.inside.places.keys c.insert.new.self.keys c.in-Cell.place (λ place. c.in_ok-insert.ensures.updates.0 place)))
