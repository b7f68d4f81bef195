use Rattle.std.proofs.Common.{◌≡◌, refl, sym, subst}
use Rattle.merc_board.specs.declared.branch.Branch.{Branch}
use Rattle.merc_pool.specs.declared.load.Carried.{Carried}
use Rattle.merc_pool.specs.Carrying.{made_by}
use Rattle.merc_pool.specs.Hands.{IsRooted}
use Rattle.merc_pool.proofs.Alone.{alone_came, not_forks, not_over, not_signals, not_waits, plain_forks, plain_signals, plain_waits, slice_came, slice_forks, slice_over, slice_signals, slice_tallied, slice_waits}
use Rattle.merc_pool.proofs.session.alone.Goals as goal

pub run_load-requires-clause-stands : goal.run_load-requires-clause-stands
run_load-requires-clause-stands g c κs within =
    let rooted : IsRooted g.M.Engine g.N.Asked g.B.Board c.requires.root.0 c.requires.root.1 c.deref_mut.result.now = subst (λ (k : Branch (Carried g.row.M.Denot g.row.N.Denot) g.row.B-Hold.Denot). IsRooted g.M.Engine g.N.Asked g.B.Board c.requires.root.0 c.requires.root.1 k) (sym c.deref_mut.ensures.value) (c.loop.invariant.2 c.requires.root.0 c.requires.root.1 c.requires.root.2) in
    (g.B.Board.rights c.deref_mut.result.now.hold, rooted.at, rooted.stands)

pub loop-preserved : goal.loop-preserved
loop-preserved g c = (
  tt,
  tt,
  λ board seat root.
      let rooted : IsRooted g.M.Engine g.N.Asked g.B.Board board seat c.deref_mut.result.now = subst (λ (k : Branch (Carried g.row.M.Denot g.row.N.Denot) g.row.B-Hold.Denot). IsRooted g.M.Engine g.N.Asked g.B.Board board seat k) (sym c.deref_mut.ensures.value) (c.loop.invariant.2 board seat root) in
      let ran = c.run_load.ensures.runs (g.B.Board.rights c.deref_mut.result.now.hold) rooted.at rooted.stands (not_over c.run_load.result c.in-SliceOver.is) in
      slice_over g.M.Engine g.N.Asked g.B.Board board seat 4294967295 c.deref_mut.result.now.load c.run_load.new.load c.deref_mut.result.now.hold c.run_load.result rooted ran c.in-SliceOver.is,
  λ plain tallied.
      let rooted : IsRooted g.M.Engine g.N.Asked g.B.Board c.requires.root.0 c.requires.root.1 c.deref_mut.result.now = subst (λ (k : Branch (Carried g.row.M.Denot g.row.N.Denot) g.row.B-Hold.Denot). IsRooted g.M.Engine g.N.Asked g.B.Board c.requires.root.0 c.requires.root.1 k) (sym c.deref_mut.ensures.value) (c.loop.invariant.2 c.requires.root.0 c.requires.root.1 c.requires.root.2) in
      let ran = c.run_load.ensures.runs (g.B.Board.rights c.deref_mut.result.now.hold) rooted.at rooted.stands (not_over c.run_load.result c.in-SliceOver.is) in
      let tally = subst (λ (k : Branch (Carried g.row.M.Denot g.row.N.Denot) g.row.B-Hold.Denot). k.load.ticks ≡ made_by (g.M.Engine.seen k.load.progress.machine)) (sym c.deref_mut.ensures.value) (c.loop.invariant.3 plain tallied) in
      slice_tallied g.M.Engine g.N.Asked g.B.Board c.requires.root.0 c.requires.root.1 4294967295 c.deref_mut.result.now.load c.run_load.new.load c.deref_mut.result.now.hold c.run_load.result rooted ran (not_over c.run_load.result c.in-SliceOver.is) tally (c.run_load.ensures.counts refl),
)

pub returns-in-AtFork-clause-hand : goal.returns-in-AtFork-clause-hand
returns-in-AtFork-clause-hand g c = λ board seat root.
    let rooted : IsRooted g.M.Engine g.N.Asked g.B.Board board seat c.deref_mut.result.now = subst (λ (k : Branch (Carried g.row.M.Denot g.row.N.Denot) g.row.B-Hold.Denot). IsRooted g.M.Engine g.N.Asked g.B.Board board seat k) (sym c.deref_mut.ensures.value) (c.loop.invariant.2 board seat root) in
    let ran = c.run_load.ensures.runs (g.B.Board.rights c.deref_mut.result.now.hold) rooted.at rooted.stands (not_forks c.run_load.result c.in-AtFork.field-0 c.in-AtFork.is) in
    slice_forks g.M.Engine g.N.Asked g.B.Board board seat 4294967295 c.deref_mut.result.now.load c.run_load.new.load c.deref_mut.result.now.hold c.run_load.result rooted ran c.in-AtFork.field-0 c.in-AtFork.is

pub returns-in-AtFork-clause-tally : goal.returns-in-AtFork-clause-tally
returns-in-AtFork-clause-tally g c = λ plain tallied.
    let rooted : IsRooted g.M.Engine g.N.Asked g.B.Board c.requires.root.0 c.requires.root.1 c.deref_mut.result.now = subst (λ (k : Branch (Carried g.row.M.Denot g.row.N.Denot) g.row.B-Hold.Denot). IsRooted g.M.Engine g.N.Asked g.B.Board c.requires.root.0 c.requires.root.1 k) (sym c.deref_mut.ensures.value) (c.loop.invariant.2 c.requires.root.0 c.requires.root.1 c.requires.root.2) in
    let ran = c.run_load.ensures.runs (g.B.Board.rights c.deref_mut.result.now.hold) rooted.at rooted.stands (not_forks c.run_load.result c.in-AtFork.field-0 c.in-AtFork.is) in
    plain_forks g.M.Engine g.N.Asked g.B.Board c.requires.root.0 c.requires.root.1 4294967295 c.deref_mut.result.now.load c.run_load.new.load c.deref_mut.result.now.hold c.run_load.result rooted ran c.in-AtFork.field-0 c.in-AtFork.is plain

pub returns-in-AtWait-clause-hand : goal.returns-in-AtWait-clause-hand
returns-in-AtWait-clause-hand g c = λ board seat root.
    let rooted : IsRooted g.M.Engine g.N.Asked g.B.Board board seat c.deref_mut.result.now = subst (λ (k : Branch (Carried g.row.M.Denot g.row.N.Denot) g.row.B-Hold.Denot). IsRooted g.M.Engine g.N.Asked g.B.Board board seat k) (sym c.deref_mut.ensures.value) (c.loop.invariant.2 board seat root) in
    let ran = c.run_load.ensures.runs (g.B.Board.rights c.deref_mut.result.now.hold) rooted.at rooted.stands (not_waits c.run_load.result c.in-AtWait.field-0 c.in-AtWait.is) in
    slice_waits g.M.Engine g.N.Asked g.B.Board board seat 4294967295 c.deref_mut.result.now.load c.run_load.new.load c.deref_mut.result.now.hold c.run_load.result rooted ran c.in-AtWait.field-0 c.in-AtWait.is

pub returns-in-AtWait-clause-tally : goal.returns-in-AtWait-clause-tally
returns-in-AtWait-clause-tally g c = λ plain tallied.
    let rooted : IsRooted g.M.Engine g.N.Asked g.B.Board c.requires.root.0 c.requires.root.1 c.deref_mut.result.now = subst (λ (k : Branch (Carried g.row.M.Denot g.row.N.Denot) g.row.B-Hold.Denot). IsRooted g.M.Engine g.N.Asked g.B.Board c.requires.root.0 c.requires.root.1 k) (sym c.deref_mut.ensures.value) (c.loop.invariant.2 c.requires.root.0 c.requires.root.1 c.requires.root.2) in
    let ran = c.run_load.ensures.runs (g.B.Board.rights c.deref_mut.result.now.hold) rooted.at rooted.stands (not_waits c.run_load.result c.in-AtWait.field-0 c.in-AtWait.is) in
    plain_waits g.M.Engine g.N.Asked g.B.Board c.requires.root.0 c.requires.root.1 4294967295 c.deref_mut.result.now.load c.run_load.new.load c.deref_mut.result.now.hold c.run_load.result rooted ran c.in-AtWait.field-0 c.in-AtWait.is plain

pub returns-in-AtSignal-clause-hand : goal.returns-in-AtSignal-clause-hand
returns-in-AtSignal-clause-hand g c = λ board seat root.
    let rooted : IsRooted g.M.Engine g.N.Asked g.B.Board board seat c.deref_mut.result.now = subst (λ (k : Branch (Carried g.row.M.Denot g.row.N.Denot) g.row.B-Hold.Denot). IsRooted g.M.Engine g.N.Asked g.B.Board board seat k) (sym c.deref_mut.ensures.value) (c.loop.invariant.2 board seat root) in
    let ran = c.run_load.ensures.runs (g.B.Board.rights c.deref_mut.result.now.hold) rooted.at rooted.stands (not_signals c.run_load.result c.in-AtSignal.field-0 c.in-AtSignal.is) in
    slice_signals g.M.Engine g.N.Asked g.B.Board board seat 4294967295 c.deref_mut.result.now.load c.run_load.new.load c.deref_mut.result.now.hold c.run_load.result rooted ran c.in-AtSignal.field-0 c.in-AtSignal.is

pub returns-in-AtSignal-clause-tally : goal.returns-in-AtSignal-clause-tally
returns-in-AtSignal-clause-tally g c = λ plain tallied.
    let rooted : IsRooted g.M.Engine g.N.Asked g.B.Board c.requires.root.0 c.requires.root.1 c.deref_mut.result.now = subst (λ (k : Branch (Carried g.row.M.Denot g.row.N.Denot) g.row.B-Hold.Denot). IsRooted g.M.Engine g.N.Asked g.B.Board c.requires.root.0 c.requires.root.1 k) (sym c.deref_mut.ensures.value) (c.loop.invariant.2 c.requires.root.0 c.requires.root.1 c.requires.root.2) in
    let ran = c.run_load.ensures.runs (g.B.Board.rights c.deref_mut.result.now.hold) rooted.at rooted.stands (not_signals c.run_load.result c.in-AtSignal.field-0 c.in-AtSignal.is) in
    plain_signals g.M.Engine g.N.Asked g.B.Board c.requires.root.0 c.requires.root.1 4294967295 c.deref_mut.result.now.load c.run_load.new.load c.deref_mut.result.now.hold c.run_load.result rooted ran c.in-AtSignal.field-0 c.in-AtSignal.is plain

pub came-requires-after_bounds : goal.came-requires-after_bounds
came-requires-after_bounds g c κs within =
    let rooted : IsRooted g.M.Engine g.N.Asked g.B.Board c.requires.root.0 c.requires.root.1 c.deref_mut.result.now = subst (λ (k : Branch (Carried g.row.M.Denot g.row.N.Denot) g.row.B-Hold.Denot). IsRooted g.M.Engine g.N.Asked g.B.Board c.requires.root.0 c.requires.root.1 k) (sym c.deref_mut.ensures.value) (c.loop.invariant.2 c.requires.root.0 c.requires.root.1 c.requires.root.2) in
    let ran = c.run_load.ensures.runs (g.B.Board.rights c.deref_mut.result.now.hold) rooted.at rooted.stands (c.in_default-run_load.not-NoMemory) in
    (c.requires.root.0, c.requires.root.1, slice_came g.M.Engine g.N.Asked g.B.Board c.requires.root.0 c.requires.root.1 4294967295 c.deref_mut.result.now.load c.run_load.new.load c.deref_mut.result.now.hold c.run_load.result rooted ran)

pub returns-in_default-run_load-clause-hand : goal.returns-in_default-run_load-clause-hand
returns-in_default-run_load-clause-hand g c = λ board seat root.
    let rooted : IsRooted g.M.Engine g.N.Asked g.B.Board board seat c.deref_mut.result.now = subst (λ (k : Branch (Carried g.row.M.Denot g.row.N.Denot) g.row.B-Hold.Denot). IsRooted g.M.Engine g.N.Asked g.B.Board board seat k) (sym c.deref_mut.ensures.value) (c.loop.invariant.2 board seat root) in
    let ran = c.run_load.ensures.runs (g.B.Board.rights c.deref_mut.result.now.hold) rooted.at rooted.stands (c.in_default-run_load.not-NoMemory) in
    alone_came g.M.Engine g.N.Asked g.B.Board board seat c.came.result c.came.ensures.came (c.came.ensures.hand board seat (slice_came g.M.Engine g.N.Asked g.B.Board board seat 4294967295 c.deref_mut.result.now.load c.run_load.new.load c.deref_mut.result.now.hold c.run_load.result rooted ran))

pub returns-in_default-run_load-clause-tally : goal.returns-in_default-run_load-clause-tally
returns-in_default-run_load-clause-tally g c = λ plain tallied.
    let rooted : IsRooted g.M.Engine g.N.Asked g.B.Board c.requires.root.0 c.requires.root.1 c.deref_mut.result.now = subst (λ (k : Branch (Carried g.row.M.Denot g.row.N.Denot) g.row.B-Hold.Denot). IsRooted g.M.Engine g.N.Asked g.B.Board c.requires.root.0 c.requires.root.1 k) (sym c.deref_mut.ensures.value) (c.loop.invariant.2 c.requires.root.0 c.requires.root.1 c.requires.root.2) in
    let ran = c.run_load.ensures.runs (g.B.Board.rights c.deref_mut.result.now.hold) rooted.at rooted.stands (c.in_default-run_load.not-NoMemory) in
    let tally = subst (λ (k : Branch (Carried g.row.M.Denot g.row.N.Denot) g.row.B-Hold.Denot). k.load.ticks ≡ made_by (g.M.Engine.seen k.load.progress.machine)) (sym c.deref_mut.ensures.value) (c.loop.invariant.3 plain tallied) in
    c.came.ensures.tally (λ other. slice_tallied g.M.Engine g.N.Asked g.B.Board c.requires.root.0 c.requires.root.1 4294967295 c.deref_mut.result.now.load c.run_load.new.load c.deref_mut.result.now.hold c.run_load.result rooted ran other tally (c.run_load.ensures.counts refl))
