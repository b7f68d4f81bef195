use Rattle.std.proofs.Common.{Bool, ◌&&◌, ◌==◌, ap, sym, ◌∙◌, ◌||◌}
use Rattle.std.specs.List.{list_any}
use Rattle.merc_declared.proofs.TypeLaws.{any-unit, is_unit_key, or-false}
use Rattle.merc_entries.specs.Entries.{is_key}
use Rattle.merc_declared.proofs.known_types.UnitKeys.insert.Goals as goal

pub returns-in_ok-insert : goal.returns-in_ok-insert
returns-in_ok-insert c = λ other found.
    rw c.in-Some.is
    (ap (list_any (is_unit_key other found)) c.in_ok-insert.ensures.keys
    ∙ any-unit other found c.args.self.now.keys.keys (record { unit = c.args.unit; key = c.in-Some.key })
    ∙ ap (λ (test : Bool). list_any (is_unit_key other found) c.args.self.now.keys.keys || ((c.args.unit == other) && test)) (sym (or-false (is_key found c.in-Some.key))))
