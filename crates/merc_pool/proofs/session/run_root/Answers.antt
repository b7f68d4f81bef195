use Rattle.std.proofs.Common.{◌≡◌, ℕ, length, drop, refl, sym, ◌∙◌, rules}
use Rattle.merc_pool.specs.Working.{DoneWith, WorksWith}
use Rattle.merc_pool.specs.declared.shared.Slot.{Slot}
use Rattle.merc_pool.proofs.Alone.{rooted_told}
use Rattle.merc_pool.proofs.Living.{stands_counted}
use Rattle.merc_pool.proofs.Lists.{all_and_one, all_taken, some_weaker}
use Rattle.merc_pool.proofs.session.run_root.Goals as goal

pub alone-requires-clause-root : goal.alone-requires-clause-root
alone-requires-clause-root g c = λ κs within. (c.args.shared.now.board, c.args.home.worker.seat, rw c.replace-hand.ensures.value c.requires.root)

pub report-requires-clause-passed : goal.report-requires-clause-passed
report-requires-clause-passed g c = λ κs within.
    let r = rw c.in-Runs.is at (c.alone.ensures.hand c.args.shared.now.board c.args.home.worker.seat (rw c.replace-hand.ensures.value c.requires.root)) in
    rw c.deref_mut.ensures.value (r.at, r.passed)

pub report-requires-clause-counted : goal.report-requires-clause-counted
report-requires-clause-counted g c = λ κs within.
    let r = rw c.in-Runs.is at (c.alone.ensures.hand c.args.shared.now.board c.args.home.worker.seat (rw c.replace-hand.ensures.value c.requires.root)) in
    rw c.deref_mut.ensures.value (stands_counted g.M.Engine g.N.Asked.sites g.N.Asked.root g.N.Asked.run c.in-Runs.branch.value.load.progress _ r.at r.stands)

pub work_all-requires-clause-work : goal.work_all-requires-clause-work
work_all-requires-clause-work g c = λ κs within i slot at.
    let r = rw c.in-Runs.is at (c.alone.ensures.hand c.args.shared.now.board c.args.home.worker.seat (rw c.replace-hand.ensures.value c.requires.root)) in
    let told = rw c.deref_mut.ensures.value at c.if-not-report.ensures in
    all_and_one (λ (s : Slot _ _ _ _). WorksWith g.M.Engine g.N.Asked g.B.Board c.args.shared.now.board s.worker s.hand) c.args.others.now.items _ c.requires.others (
      rooted_told g.M.Engine g.N.Asked g.B.Board c.args.shared.now.board c.args.home.worker.seat c.report.new.worker.seat c.in-Runs.branch.value.load c.report.new.branch.load c.in-Runs.branch.value.hold c.report.new.branch.hold r
          (told.on refl r.at r.passed) told.rights told.progress,
      told.allowed,
    ) i slot (rw (c.as_mut_slice.ensures.value, c.push_reserved.ensures.items) at at)

pub take_back-requires-after_bounds : goal.take_back-requires-after_bounds
take_back-requires-after_bounds g c κs within =
    let l : length c.as_mut_slice.result.now ≡ c.push_reserved.new.self.len = c.as_mut_slice.ensures.len in (
      c.args.shared.now.board,
      all_taken (λ (s : Slot _ _ _ _). DoneWith g.M.Engine g.N.Asked g.B.Board c.args.shared.now.board s.worker s.hand) c.work_all.new.slots _ c.push_reserved.new.self.len (sym l ∙ sym c.work_all.auto.slots) c.work_all.ensures,
    )

pub returns-in-Came-clause-back : goal.returns-in-Came-clause-back
returns-in-Came-clause-back g c =
    (rw c.in-Came.is at (c.alone.ensures.hand c.args.shared.now.board c.args.home.worker.seat (rw c.replace-hand.ensures.value c.requires.root)), c.requires.allowed)

pub returns-else-not-report-clause-others : goal.returns-else-not-report-clause-others
returns-else-not-report-clause-others g c =
    let l : length c.as_mut_slice.result.now ≡ c.push_reserved.new.self.len = c.as_mut_slice.ensures.len in
    c.take_back.ensures.others c.args.shared.now.board
    (all_taken (λ (s : Slot _ _ _ _). DoneWith g.M.Engine g.N.Asked g.B.Board c.args.shared.now.board s.worker s.hand) c.work_all.new.slots (drop (length c.work_all.new.slots) c.push_reserved.new.self.items) c.push_reserved.new.self.len
    (sym l ∙ sym c.work_all.auto.slots) c.work_all.ensures)

pub returns-else-not-report-clause-back : goal.returns-else-not-report-clause-back
returns-else-not-report-clause-back g c =
    let l : length c.as_mut_slice.result.now ≡ c.push_reserved.new.self.len = c.as_mut_slice.ensures.len in
    some_weaker c.take_back.result _ _ (λ slot r. r c.args.shared.now.board
    (all_taken (λ (s : Slot _ _ _ _). DoneWith g.M.Engine g.N.Asked g.B.Board c.args.shared.now.board s.worker s.hand) c.work_all.new.slots (drop (length c.work_all.new.slots) c.push_reserved.new.self.items) c.push_reserved.new.self.len
    (sym l ∙ sym c.work_all.auto.slots) c.work_all.ensures)) c.take_back.ensures.back
