use Rattle.std.proofs.Common.{◌-◌, ◌≤◌, length, drop, ap, sym, ◌∙◌, arith}
use Rattle.merc_goals.specs.Entries.{goals_in}
use Rattle.merc_value.specs.Text.{is_blank}
use Rattle.merc_scopes.specs.Standing.{needs}
use Rattle.merc_scopes.proofs.Begins.{begins_before}
use Rattle.merc_scopes.proofs.Completeness.{sub_goals}
use Rattle.merc_scopes.proofs.Reading.{stands-length}
use Rattle.merc_scopes.proofs.introducing.bindings.Goals as goal

pub read_entry-requires : goal.read_entry-requires
read_entry-requires c =
    let index = c.loop-index.index in
    let entry = c.index-entries-index.result in
    let entries = c.entries-entries.result.now in
    let begins = begins_before index entries entry c.loop-index-test.true c.loop-index.auto.index c.index-entries-index.is in
    let enough : needs entry.form ≤ length (goals_in (drop index entries)) =
    sub_goals c.args.goal.now (index - 1) entry (drop index entries) (ap (drop (index - 1)) (sym c.entries-entries.ensures) ∙ begins) in
    omega (arith, enough, stands-length (is_blank c.args.names.now) c.loop-index.stack.items (goals_in (drop index entries)) c.loop-index.invariant.stands)
