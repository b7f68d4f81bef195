-- Worked examples of the definitions of specs/Outside.antt: what holds, and what does not.
use Rattle.std.proofs.Common.{◌≡◌, ◌≤◌, ◌<◌, ℕ, true, false, List, [], ◌∷◌, Some, None, unwrap_or, slice_index, codes, refl, ap, arith}
use Rattle.merc_base.specs.Outside.{piece_limit, Files, file_named, IsPiece, FetchesFrom, CountsFetch, AnswersFetch, SinkState, appended, AnswersWrite, seen_after, count_after, AnswersTake}
use Rattle.merc_base.specs.declared.outside.Fetched.TheVariants.{Got, End, Absent, Failed as FetchFailed}
use Rattle.merc_base.specs.declared.outside.Wrote.TheVariants.{Took, Failed as WriteFailed}
use Rattle.merc_base.specs.declared.outside.TapEvent.{TapEvent}
use Rattle.merc_base.specs.declared.outside.TapEvent.TheVariants.{Answer, Finish}
use Rattle.merc_base.specs.declared.outside.TapAnswer.TheVariants.{Keep, Done, Failed as TapFailed, NoMemory as TapNoMemory}

pub piece_limit-value : piece_limit ≡ 65536
unfolding piece_limit
piece_limit-value = refl

pub piece_limit-one_more : piece_limit ≡ 65537 → ⊥
unfolding piece_limit
piece_limit-one_more h = omega (arith, h)

-- a shelf on which one name stands twice
abbrev shelf : Files
shelf = (codes "a.m", codes "x") ∷ (codes "b.m", codes "yz") ∷ (codes "a.m", codes "later") ∷ []

pub file_named-first : file_named (codes "a.m") shelf ≡ Some (codes "x")
file_named-first = refl

pub file_named-none : file_named (codes "a") shelf ≡ None
file_named-none = refl

pub file_named-later : file_named (codes "a.m") shelf ≡ Some (codes "later") → ⊥
file_named-later h = cc

pub IsPiece-two : IsPiece (Got 2) (codes "yz")
IsPiece-two = (omega arith, omega arith, refl)

-- at the end of a file there is no piece
pub IsPiece-empty : IsPiece (Got 0) [] → ⊥
IsPiece-empty h = let some = h.0 in omega arith

pub FetchesFrom-middle : FetchesFrom (Some (codes "module")) 3 (Got 2) (codes "ul")
FetchesFrom-middle = (omega arith, refl)

pub FetchesFrom-other_place : FetchesFrom (Some (codes "module")) 3 (Got 2) (codes "mo") → ⊥
FetchesFrom-other_place h = let first : ◌≡◌ {A = ℕ} 109 117 = ap (λ (bytes : List ℕ). slice_index bytes 0) h.1 in omega arith

pub FetchesFrom-end : FetchesFrom (Some (codes "module")) 6 End []
FetchesFrom-end = omega arith

-- one byte is left
pub FetchesFrom-early_end : FetchesFrom (Some (codes "module")) 5 End [] → ⊥
FetchesFrom-early_end h = omega arith

pub CountsFetch-failed : CountsFetch None FetchFailed 4 5
CountsFetch-failed = omega arith

pub CountsFetch-absent : CountsFetch (Some shelf) Absent 4 4
CountsFetch-absent = refl

-- a shelf that tells nothing cannot say at no cost that a file is absent
pub CountsFetch-absent_untold : CountsFetch None Absent 4 4 → ⊥
CountsFetch-absent_untold h = omega arith

pub AnswersFetch-piece : AnswersFetch (Some shelf) (codes "b.m") 1 0 0 (Got 1) (codes "z")
AnswersFetch-piece = record { piece = (omega arith, omega arith, refl); content = (omega arith, refl); count = refl }

pub AnswersFetch-absent : AnswersFetch (Some shelf) (codes "b.m") 1 0 0 Absent [] → ⊥
AnswersFetch-absent h = h.content

pub appended-told : appended (Some (codes "ab")) (codes "c") ≡ Some (codes "abc")
appended-told = refl

pub appended-untold : appended None (codes "c") ≡ None
appended-untold = refl

pub appended-in_front : appended (Some (codes "ab")) (codes "c") ≡ Some (codes "cab") → ⊥
appended-in_front h = let first : ◌≡◌ {A = ℕ} 97 99 = ap (λ bytes. slice_index (unwrap_or bytes []) 0) h in omega arith

-- a sink with `x` in it, which was given in one piece
abbrev sink_with : List ℕ → List (List ℕ) → ℕ → SinkState
sink_with written given faults = record { written = Some written; given = Some given; faults = faults }

abbrev sink : SinkState
sink = sink_with (codes "x") (codes "x" ∷ []) 0

-- a part of the piece was taken; it counts as it was given
pub AnswersWrite-front : AnswersWrite (codes "abc") sink (sink_with (codes "xab") (codes "x" ∷ codes "abc" ∷ []) 0) (Took 2)
AnswersWrite-front = (omega arith, λ _. omega arith, refl, refl, refl)

pub AnswersWrite-part_given : AnswersWrite (codes "abc") sink (sink_with (codes "xab") (codes "x" ∷ codes "ab" ∷ []) 0) (Took 2) → ⊥
AnswersWrite-part_given h = let given : Some (codes "x" ∷ codes "ab" ∷ []) ≡ Some (codes "x" ∷ codes "abc" ∷ []) = h.3 in cc

-- a part of the piece is taken at least
pub AnswersWrite-nothing : AnswersWrite (codes "abc") sink sink (Took 0) → ⊥
AnswersWrite-nothing h = let some : 1 ≤ 0 = h.1 (omega arith) in omega arith

pub AnswersWrite-failed : AnswersWrite (codes "abc") sink (sink_with (codes "x") (codes "x" ∷ []) 1) WriteFailed
AnswersWrite-failed = (refl, refl, omega arith)

pub AnswersWrite-uncounted : AnswersWrite (codes "abc") sink sink WriteFailed → ⊥
AnswersWrite-uncounted h = let counted : 0 < 0 = h.2 in omega arith

-- a failed write takes nothing
pub AnswersWrite-failed_part : AnswersWrite (codes "abc") sink (sink_with (codes "xa") (codes "x" ∷ []) 1) WriteFailed → ⊥
AnswersWrite-failed_part h = let written : Some (codes "xa") ≡ Some (codes "x") = h.0 in cc

-- a sink that tells nothing but its faults
pub AnswersWrite-untold : AnswersWrite (codes "abc") (record { written = None; given = None; faults = 2 }) (record { written = None; given = None; faults = 2 }) (Took 3)
AnswersWrite-untold = (omega arith, λ _. omega arith, refl, refl, refl)

-- a run's end with one answer
abbrev finish : TapEvent
finish = Finish 0 1

pub seen_after-told : seen_after (Some (Answer 1 (codes "X = 1") ∷ [])) finish ≡ Some (Answer 1 (codes "X = 1") ∷ finish ∷ [])
seen_after-told = refl

pub seen_after-lost : seen_after (Some []) finish ≡ Some [] → ⊥
seen_after-lost h = cc

pub count_after-told : count_after (Some 1) ≡ Some 2
count_after-told = refl

pub count_after-untold : count_after None ≡ Some 1 → ⊥
count_after-untold h = cc

pub AnswersTake-keep : AnswersTake finish (Some []) (Some (finish ∷ [])) (Some 0) (Some 1) false 0 0 Keep
AnswersTake-keep = (refl, refl, refl, refl)

pub AnswersTake-failed : AnswersTake finish (Some []) (Some (finish ∷ [])) None None true 0 1 TapFailed
AnswersTake-failed = (refl, refl, refl, omega arith)

-- after Done the tap is over
pub AnswersTake-done_open : AnswersTake finish (Some []) (Some (finish ∷ [])) None None false 0 0 Done → ⊥
AnswersTake-done_open h = let over = h.2 in cc

-- an event for which there was no memory is not seen
pub AnswersTake-no_memory : AnswersTake finish (Some []) (Some (finish ∷ [])) None None true 0 0 TapNoMemory → ⊥
AnswersTake-no_memory h = let same = h.0 in cc
