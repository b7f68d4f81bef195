use Rattle.std.proofs.Common.{ℕ, List, subst, refl}
use Rattle.std.specs.Prelude.{Option, Ok, Err}
use Rattle.merc_top.specs.Due.{Finds}
use Rattle.merc_solving.specs.Solving.{Solves}
use Rattle.merc_top.proofs.CallEnds.{answers-lines, answers-no_memory, answers-run, answers-unread}
use Rattle.merc_top.proofs.Dues.{some_files}
use Rattle.merc_top.proofs.answering.answer.Goals as goal

pub returns-in-Ok-Lines-clause-answers : goal.returns-in-Ok-Lines-clause-answers
returns-in-Ok-Lines-clause-answers g c =
    let found =
    subst (λ found. Finds c.args.words.now (g.S.Shelf.files c.args.shelf.now) (g.S.Shelf.read_faults c.args.shelf.now) (g.S.Shelf.read_faults c.find_due.new.shelf) (Ok found))
    c.in-Ok-Lines.field-0-is c.in-Ok-Lines.ensures.finds in
    rw c.status_told.ensures
    (answers-lines _ _ found.2.0 found.2.1 _ _ _ _ _ c.in-Ok-Lines.due.lines c.in-Ok-Lines.due.status c.put_due-told.result found.0 found.1 found.2.2 found.2.3 c.put_due-told.ensures.writes c.put_due-told.ensures.status)

pub returns-in-Ok-Run-clause-answers : goal.returns-in-Ok-Run-clause-answers
returns-in-Ok-Run-clause-answers g c =
    let found =
    subst (λ found. Finds c.args.words.now (g.S.Shelf.files c.args.shelf.now) (g.S.Shelf.read_faults c.args.shelf.now) (g.S.Shelf.read_faults c.find_due.new.shelf) (Ok found))
    c.in-Ok-Run.field-0-is c.in-Ok-Run.ensures.finds in
    let old = g.K.Sink.sink_state c.args.sink.now in
    let new = g.K.Sink.sink_state c.run-told.new.sink in
    let solves = subst (λ (ticks : ℕ). Solves found.1.2 found.1.3 found.1.4 found.1.5 old new ticks c.run-told.new.ticks c.run-told.result) c.requires.ticks
    (subst (λ (names : List (List ℕ)). Solves names found.1.3 found.1.4 found.1.5 old new c.args.ticks.now c.run-told.new.ticks c.run-told.result) found.1.7.names_are
    (subst (λ (variables : List ℕ). Solves c.in-Ok-Run.ready.names variables found.1.4 found.1.5 old new c.args.ticks.now c.run-told.new.ticks c.run-told.result) found.1.7.variables_are
    (subst (λ (most : Option ℕ). Solves c.in-Ok-Run.ready.names c.in-Ok-Run.ready.variables most found.1.5 old new c.args.ticks.now c.run-told.new.ticks c.run-told.result) found.1.7.most_is
    (c.run-told.ensures found.1.5 found.1.7.makes)))) in
    rw c.status_told-in-Ok-Run.ensures (answers-run _ _ found.1.0 found.1.1 _ _ _ _ found.1.2 found.1.3 found.1.4 found.1.5 c.run-told.new.ticks c.run-told.result found.0 found.1.6 solves)

pub returns-in-Err-Unread-clause-answers : goal.returns-in-Err-Unread-clause-answers
returns-in-Err-Unread-clause-answers g c =
    let found =
    subst (λ trouble. Finds c.args.words.now (g.S.Shelf.files c.args.shelf.now) (g.S.Shelf.read_faults c.args.shelf.now) (g.S.Shelf.read_faults c.find_due.new.shelf) (Err trouble))
    c.in-Err-Unread.field-0-is c.in-Err-Unread.ensures.finds in
    let some = some_files (g.S.Shelf.files c.args.shelf.now) in
    answers-unread _ _ some.0 some.1 _ _ _ _ _ found refl

pub returns-in-Err-NoMemory-clause-answers : goal.returns-in-Err-NoMemory-clause-answers
returns-in-Err-NoMemory-clause-answers g c =
    let found =
    subst (λ trouble. Finds c.args.words.now (g.S.Shelf.files c.args.shelf.now) (g.S.Shelf.read_faults c.args.shelf.now) (g.S.Shelf.read_faults c.find_due.new.shelf) (Err trouble))
    c.in-Err-NoMemory.field-0-is c.in-Err-NoMemory.ensures.finds in
    let some = some_files (g.S.Shelf.files c.args.shelf.now) in
    answers-no_memory _ _ some.0 some.1 _ _ _ _ _ found refl
