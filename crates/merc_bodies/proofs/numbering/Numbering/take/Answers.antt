use Rattle.std.proofs.Common.{◌++◌, ap, refl, rules, ◌∙◌}
use Rattle.merc_bodies.proofs.InHand.{in_hand}
use Rattle.merc_bodies.proofs.numbering.Numbering.take.Goals as goal

pub returns-clause-in_hand : goal.returns-clause-in_hand
returns-clause-in_hand c =
    in_hand c.args.self.now _ c.args.form.now record {
      same = refl;
      starts_behind = search rules;
      with_own = c.in_ok-extend_from_slice.ensures.items ∙ ap (λ l. c.args.self.now.variables.items ++ l) (c.deref.ensures.value ∙ c.in_ok-own.ensures);
    }
