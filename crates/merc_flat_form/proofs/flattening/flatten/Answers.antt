use Rattle.std.proofs.Common.{◌≡◌, ◌+◌, ◌<◌, ◌++◌, ◌∷◌, ℕ, List, length, get_or, drop, ap, sym, ◌∙◌}
use Rattle.std.proofs.lemmas.List.{drop_more}
use Rattle.merc_goals.specs.Entries.{goals_in}
use Rattle.merc_name_resolution.specs.Known.{callee_in}
use Rattle.merc_value.specs.Text.{is_blank}
use Rattle.merc_flat_form.specs.Levels.{scope_of}
use Rattle.merc_flat_form.specs.FlatForm.{flat}
use Rattle.merc_flat_form.proofs.Walking.{bindings_within, started, walked}
use Rattle.merc_flat_form.proofs.flattening.flatten.Goals as goal

read : {X : Type 0} (xs : List X) (index : ℕ) (x : X) → index < length xs → x ≡ get_or xs index x → drop index xs ≡ x ∷ drop (index + 1) xs
read xs index x within is = drop_more xs index x within ∙ ap (λ y. y ∷ drop (index + 1) xs) (sym is)

pub loop-index-init : goal.loop-index-init
loop-index-init c =
    let begun = started (is_blank c.args.names.now) (callee_in c.args.known.now) c.args.goal.now c.entries-entries.result.now c.new-frames.result c.args.stack.now c.args.nodes.now
    c.entries-entries.ensures c.new-frames.ensures in
    record { finished = begun.0; coming = begun.1; filled = begun.2; ready = begun.3 }

pub bounds-bindings-index : goal.bounds-bindings-index
bounds-bindings-index c =
    bindings_within (is_blank c.args.names.now) c.args.goal.now c.entries-entries.result.now c.args.bindings.now c.loop-index.index c.entries-entries.ensures c.requires
    c.loop-index-test.true

pub close_done-requires : goal.close_done-requires
close_done-requires c =
    (walked (is_blank c.args.names.now) (callee_in c.args.known.now) c.args.goal.now c.entries-entries.result.now c.args.bindings.now c.loop-index.index
    c.index-entries-index.result c.as_slice-found.result.now c.loop-index.frames c.take_up.new.frames c.loop-index.stack c.take_up.new.stack c.loop-index.nodes c.take_up.new.nodes
    (c.args.nodes.now ++ flat (is_blank c.args.names.now) (callee_in c.args.known.now) (scope_of c.args.stack.now) c.args.goal.now)
    c.entries-entries.ensures c.requires (read c.entries-entries.result.now c.loop-index.index c.index-entries-index.result c.loop-index-test.true c.index-entries-index.is)
    (read c.args.bindings.now c.loop-index.index c.index-bindings-index.result (bindings_within (is_blank c.args.names.now) c.args.goal.now c.entries-entries.result.now c.args.bindings.now c.loop-index.index c.entries-entries.ensures c.requires c.loop-index-test.true) c.index-bindings-index.is
    ∙ ap (λ l. l ∷ drop (c.loop-index.index + 1) c.args.bindings.now) (sym c.as_slice-found.ensures))
    c.in_ok-take_up.ensures c.loop-index.invariant.finished c.loop-index.invariant.filled c.loop-index.invariant.coming).1

pub loop-index-preserved : goal.loop-index-preserved
loop-index-preserved c =
    let after =
    walked (is_blank c.args.names.now) (callee_in c.args.known.now) c.args.goal.now c.entries-entries.result.now c.args.bindings.now c.loop-index.index
    c.index-entries-index.result c.as_slice-found.result.now c.loop-index.frames c.take_up.new.frames c.loop-index.stack c.take_up.new.stack c.loop-index.nodes c.take_up.new.nodes
    (c.args.nodes.now ++ flat (is_blank c.args.names.now) (callee_in c.args.known.now) (scope_of c.args.stack.now) c.args.goal.now)
    c.entries-entries.ensures c.requires (read c.entries-entries.result.now c.loop-index.index c.index-entries-index.result c.loop-index-test.true c.index-entries-index.is)
    (read c.args.bindings.now c.loop-index.index c.index-bindings-index.result (bindings_within (is_blank c.args.names.now) c.args.goal.now c.entries-entries.result.now c.args.bindings.now c.loop-index.index c.entries-entries.ensures c.requires c.loop-index-test.true) c.index-bindings-index.is
    ∙ ap (λ l. l ∷ drop (c.loop-index.index + 1) c.args.bindings.now) (sym c.as_slice-found.ensures))
    c.in_ok-take_up.ensures c.loop-index.invariant.finished c.loop-index.invariant.filled c.loop-index.invariant.coming in
    record {
      finished = c.in_ok-close_done.ensures.finished (is_blank c.args.names.now) (callee_in c.args.known.now) (goals_in (drop (c.loop-index.index + 1) c.entries-entries.result.now)) ∙ after.0;
      coming = c.in_ok-close_done.ensures.coming (length (goals_in (drop (c.loop-index.index + 1) c.entries-entries.result.now))) after.2;
      filled = c.in_ok-close_done.ensures.filled;
      ready = c.in_ok-close_done.ensures.ready;
    }
