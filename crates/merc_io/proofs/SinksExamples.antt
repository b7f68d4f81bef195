-- Worked examples of what the sinks in memory hold.
use Rattle.std.proofs.Common.{◌≡◌, true, false, [], ◌∷◌, Some, None, refl, ap}
use Rattle.merc_base.specs.declared.outside.Wrote.TheVariants.{Took, Failed}
use Rattle.merc_base.specs.Outside.{SinkState}
use Rattle.merc_io.specs.Sinks.{
  MemSinkState,
  FailingSinkState,
  empty_sink,
  room_left,
  sink_after,
  front_of,
  memory_told,
  OutSinkState,
  writer_told,
  told_if,
  PieceSinkState,
  pieces_told,
  pieces_after,
}

-- two bytes written, in a room of three
pub MemSinkState-example : MemSinkState
MemSinkState-example = record { bytes = 7 ∷ 8 ∷ []; room = 3; faults = 0 }

-- a new sink has all its room
pub empty_sink-example : room_left (empty_sink 3) ≡ 3
empty_sink-example = refl

-- it has no room more
pub empty_sink-counterexample : room_left (empty_sink 3) ≡ 4 → ⊥
empty_sink-counterexample more = cc

-- its two bytes are told
pub memory_told-example : memory_told MemSinkState-example ≡ record { written = Some (7 ∷ 8 ∷ []); given = None; faults = 0 }
unfolding MemSinkState-example
memory_told-example = refl

-- that they came as one piece is not
pub memory_told-counterexample : memory_told MemSinkState-example ≡ record { written = Some (7 ∷ 8 ∷ []); given = Some ((7 ∷ 8 ∷ []) ∷ []); faults = 0 } → ⊥
unfolding MemSinkState-example
memory_told-counterexample same = cc (ap (λ (s : SinkState). s.given) same)

-- one more fits
pub room_left-example : room_left MemSinkState-example ≡ 1
unfolding MemSinkState-example
room_left-example = refl

-- the room is not empty any more
pub room_left-counterexample : room_left MemSinkState-example ≡ 3 → ⊥
unfolding MemSinkState-example
room_left-counterexample whole = cc

-- what was taken stands behind the rest
pub sink_after-example : sink_after (9 ∷ []) (Took 1) MemSinkState-example ≡ record { bytes = 7 ∷ 8 ∷ 9 ∷ []; room = 3; faults = 0 }
unfolding MemSinkState-example
sink_after-example = refl

-- a write that failed put nothing there
pub sink_after-counterexample : sink_after (9 ∷ []) Failed MemSinkState-example ≡ record { bytes = 7 ∷ 8 ∷ 9 ∷ []; room = 3; faults = 1 } → ⊥
unfolding MemSinkState-example
sink_after-counterexample same = cc (ap (λ (s : MemSinkState). s.bytes) same)

-- the first two of three bytes
pub front_of-example : front_of (Some 2) (7 ∷ 8 ∷ 9 ∷ []) ≡ 7 ∷ 8 ∷ []
front_of-example = refl

-- with no bound none is left out
pub front_of-counterexample : front_of None (7 ∷ 8 ∷ 9 ∷ []) ≡ 7 ∷ 8 ∷ [] → ⊥
front_of-counterexample same = cc

-- a sink of which a write takes one byte, and whose second write fails, before the first
pub FailingSinkState-example : FailingSinkState
FailingSinkState-example = record { sink = empty_sink 3; fail = 2 ∷ []; most = Some 1; next_write = 1 }

-- a sink over a writer that holds one byte, after one write that failed
pub OutSinkState-example : OutSinkState
OutSinkState-example = record { written = Some (7 ∷ []); faults = 1 }

-- a writer's bytes
pub told_if-example : told_if true (Some (7 ∷ [])) ≡ Some (7 ∷ [])
told_if-example = refl

-- standard output tells none
pub told_if-counterexample : told_if false (Some (7 ∷ [])) ≡ Some (7 ∷ []) → ⊥
told_if-counterexample told = cc

-- the byte and the fault
pub writer_told-example : writer_told OutSinkState-example ≡ record { written = Some (7 ∷ []); given = None; faults = 1 }
unfolding OutSinkState-example
writer_told-example = refl

-- the fault is not passed over
pub writer_told-counterexample : writer_told OutSinkState-example ≡ record { written = Some (7 ∷ []); given = None; faults = 0 } → ⊥
unfolding OutSinkState-example
writer_told-counterexample same = cc (ap (λ (s : SinkState). s.faults) same)

-- two pieces, and no write failed
pub PieceSinkState-example : PieceSinkState
PieceSinkState-example = record { pieces = (7 ∷ 8 ∷ []) ∷ (9 ∷ []) ∷ []; faults = 0 }

-- their three bytes and both pieces are told
pub pieces_told-example : pieces_told PieceSinkState-example ≡ record { written = Some (7 ∷ 8 ∷ 9 ∷ []); given = Some ((7 ∷ 8 ∷ []) ∷ (9 ∷ []) ∷ []); faults = 0 }
unfolding PieceSinkState-example
pieces_told-example = refl

-- they did not come as one piece
pub pieces_told-counterexample : pieces_told PieceSinkState-example ≡ record { written = Some (7 ∷ 8 ∷ 9 ∷ []); given = Some ((7 ∷ 8 ∷ 9 ∷ []) ∷ []); faults = 0 } → ⊥
unfolding PieceSinkState-example
pieces_told-counterexample same = cc (ap (λ (s : SinkState). s.given) same)

-- a piece that was taken stands behind the others
pub pieces_after-example : pieces_after (5 ∷ []) (Took 1) PieceSinkState-example ≡ record { pieces = (7 ∷ 8 ∷ []) ∷ (9 ∷ []) ∷ (5 ∷ []) ∷ []; faults = 0 }
unfolding PieceSinkState-example
pieces_after-example = refl

-- a write that failed left no piece
pub pieces_after-counterexample : pieces_after (5 ∷ []) Failed PieceSinkState-example ≡ record { pieces = (7 ∷ 8 ∷ []) ∷ (9 ∷ []) ∷ (5 ∷ []) ∷ []; faults = 1 } → ⊥
unfolding PieceSinkState-example
pieces_after-counterexample same = cc (ap (λ (s : PieceSinkState). s.pieces) same)
