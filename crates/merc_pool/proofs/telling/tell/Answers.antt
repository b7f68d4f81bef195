use Rattle.std.proofs.Common.{ℕ, ◌≡◌, refl, sym, ◌∙◌, ap, subst}
use Rattle.merc_board.specs.declared.branch.Branch.{Branch}
use Rattle.merc_pool.specs.declared.load.Carried.{Carried}
use Rattle.merc_pool.specs.Telling.{EndSays, given_after}
use Rattle.merc_pool.proofs.Told.{answer-steps, answer-tallied, at-answer, came-back, empty-steps, empty-tallied, end-counts, end-home, end-next, tallied-there}
use Rattle.merc_pool.proofs.telling.tell.Goals.{in-Answer+in_default-told_answer, in_default-stop}
use Rattle.merc_pool.proofs.telling.tell.Goals as goal

pub told_answer-requires-after_bounds : goal.told_answer-requires-after_bounds
told_answer-requires-after_bounds g c κs within =
    let a = c.in-Came in
    let seat = c.args.slot.now.worker.seat in
    (c.requires.0, seat, at-answer g.M.Engine g.N.Asked g.B.Board c.requires.0 seat c.args.slot.now.hand a.branch a.stop c.deref.result.now (sym c.replace.ensures.value ∙ a.is) c.in-Answer.is c.deref.ensures c.requires.1.0)

pub returns-in-Some : goal.returns-in-Some
returns-in-Some g c =
    let a = c.in-Came in
    let seat = c.args.slot.now.worker.seat in
    let is = sym c.replace.ensures.value ∙ a.is in
    let told = c.in-Some.ensures in
    let given = ap (λ (b : Branch (Carried g.row.M.Denot g.row.N.Denot) g.row.B-Hold.Denot). b.load.progress.given) (sym c.deref.ensures) ∙ told.2 ∙ told.1 in
    let tallied = answer-tallied g.M.Engine c.args.slot.now.hand a.branch a.stop is c.in-Answer.is in
    record {
      next = told.0;
      given = told.1;
      home = λ board back. ((at-answer g.M.Engine g.N.Asked g.B.Board board seat c.args.slot.now.hand a.branch a.stop a.branch.value is c.in-Answer.is refl back.0).rooted, given, back.1);
      tallied = λ plain counts. tallied counts;
      counted = λ plain counts.
          tallied counts ∙ answer-steps g.M.Engine g.N.Asked g.B.Board c.requires.0 seat a.branch.value c.args.given.now given
          (at-answer g.M.Engine g.N.Asked g.B.Board c.requires.0 seat c.args.slot.now.hand a.branch a.stop a.branch.value is c.in-Answer.is refl c.requires.1.0);
    }

pub returns : goal.returns
returns g c =
    let a = c.in-Came in
    let seat = c.args.slot.now.worker.seat in
    let is = sym c.replace.ensures.value ∙ a.is in
    let came = came-back g.M.Engine g.N.Asked g.B.Board c.requires.0 seat c.args.slot.now.hand a.branch a.stop is c.requires.1.0 in
    let same : c.match-stop.given ≡ c.args.given.now = elim c.match-stop.branch [
      | in-Answer+in_default-told_answer w ↦ w.given-is ∙ w.in_default-told_answer.ensures
      | in_default-stop w ↦ w.given-is
    ] in
    let there = ap (λ (b : Branch (Carried g.row.M.Denot g.row.N.Denot) g.row.B-Hold.Denot). b.load.progress.given) c.deref-2.ensures
    ∙ ap (λ (b : Branch (Carried g.row.M.Denot g.row.N.Denot) g.row.B-Hold.Denot). b.load.progress.given) c.deref_mut.ensures.value in
    let says = subst (λ (k : ℕ). EndSays k a.branch.value.load.progress.given a.stop c.end_told.result) same
    (subst (λ (k : ℕ). EndSays c.match-stop.given k a.stop c.end_told.result) there c.end_told.ensures.next) in
    let ticks = c.replace-2.ensures.value ∙ ap (λ (b : Branch (Carried g.row.M.Denot g.row.N.Denot) g.row.B-Hold.Denot). b.load.ticks) c.deref_mut.ensures.value in
    record {
      next = end-next g.M.Engine g.N.Asked g.B.Board c.requires.0 seat a.branch.value a.stop c.args.given.now c.end_told.result says came;
      given = sym c.end_told.ensures.given ∙ ap (λ (k : ℕ). given_after k c.end_told.result) same;
      home = λ board back. end-home g.M.Engine g.N.Asked g.B.Board board c.args.given.now a.branch.value.load.progress.given a.stop c.end_told.result _ says;
      tallied = λ plain tallied. empty-tallied g.M.Engine c.replace.new.dest c.replace.ensures.after;
      counted = λ plain tallied. end-counts g.M.Engine g.N.Asked g.B.Board c.requires.0 seat a.branch.value a.stop c.args.given.now _ c.end_told.result says came plain
          (λ kept. empty-steps c.replace-2.result c.replace.new.dest c.replace.ensures.after ∙ ticks ∙ tallied-there g.M.Engine c.args.slot.now.hand a.branch a.stop is kept tallied);
    }
