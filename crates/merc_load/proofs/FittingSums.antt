-- Calls that pass a sum take what they pass, and give it, as the listed calls do.
use Rattle.std.specs.Prelude.{ℕ, ◌<◌, List, [], ◌∷◌, ◌++◌, Option}
use Rattle.std.specs.List.{All}
use Rattle.std.proofs.Common.{subst, sym}
use Rattle.std.proofs.lemmas.List.Elements.{All-append, All-cons, All-head, All-nil, All-tail}
use Rattle.merc_tree.specs.declared.declarations.Arg.{Arg}
use Rattle.merc_code.specs.Steps.{Code, Codes}
use Rattle.merc_frames.specs.declared.passing.Pass.{Pass}
use Rattle.merc_load.specs.FittingOps.{FitsEntry}
use Rattle.merc_load.specs.PassingSum.{IsTakenOut, PassesSum, calls, calls_last}
use Rattle.merc_load.specs.declared.loaded.Op.{Op}
use Rattle.merc_load.specs.declared.loaded.Op.TheVariants.{Call as CallOp, LastCall}

-- What all instructions of a list are, the third one is.
pub third_has : (P : Op → Type 0) (one other third : Op) (ops : List Op) → All P (one ∷ other ∷ third ∷ ops) → P third
third_has P one other third ops all = All-head P third ops (All-tail P other (third ∷ ops) (All-tail P one (other ∷ third ∷ ops) all))

-- What is true of all that is passed is true of what is left of it, and of what is taken out.
module _ (P : Pass → Type 0) where
  -- what stands in front
  front : (passes others : List Pass) → All P (passes ++ others) → All P passes
  front [] others all = All-nil P
  front (pass ∷ passes) others all = All-cons P pass passes (All-head P pass (passes ++ others) all) (front passes others (All-tail P pass (passes ++ others) all))

  -- what stands behind
  back : (passes others : List Pass) → All P (passes ++ others) → All P others
  back [] others all = all
  back (pass ∷ passes) others all = back passes others (All-tail P pass (passes ++ others) all)

  module _ (variable slot : ℕ) (passes left : List Pass) (taken : IsTakenOut variable slot passes left) (all : All P passes) where
    abbrev taken_pass : Pass
    taken_pass = record { from = variable; to = slot }

    whole : All P (taken.before ++ taken_pass ∷ taken.behind)
    whole = subst (All P) taken.whole all

    from_pass_on : All P (taken_pass ∷ taken.behind)
    from_pass_on = back taken.before (taken_pass ∷ taken.behind) whole

    pub left_has : All P left
    left_has =
        subst (All P) (sym taken.left_is)
        (All-append P taken.before taken.behind (front taken.before (taken_pass ∷ taken.behind) whole) (All-tail P taken_pass taken.behind from_pass_on))

    taken_has : P taken_pass
    taken_has = All-head P taken_pass taken.behind from_pass_on

pub passing_received : (codes : Codes) (own : Option (List Arg)) (code : Code) (ops : List Op) (new : Op) → PassesSum codes own code ops new → All FitsEntry ops → FitsEntry new
passing_received codes own _ _ _ (calls constant operation call rest one other ops entry passed left outs sum leaves unread taken) received =
    let called = third_has FitsEntry one other (CallOp entry passed outs) ops received in (
      left_has (λ (pass : Pass). pass.to < entry.size) sum.variable sum.to passed left taken called,
      taken_has (λ (pass : Pass). pass.to < entry.size) sum.variable sum.to passed left taken called,
    )
passing_received codes own _ _ _ (calls_last constant operation call rest one other ops entry passed left sum leaves unread taken) received =
    let called = third_has FitsEntry one other (LastCall entry passed) ops received in (
      left_has (λ (pass : Pass). pass.to < entry.size) sum.variable sum.to passed left taken called,
      taken_has (λ (pass : Pass). pass.to < entry.size) sum.variable sum.to passed left taken called,
    )
