-- What the sinks hold and tell, and which writes fail.
use Rattle.std.specs.Prelude.{ℕ, ◌+◌, ◌-◌, Bool, true, false, List, [], ◌∷◌, ◌++◌, length, take, Option, Some, None}
use Rattle.std.specs.List.{flat_map}
use Rattle.merc_base.specs.Outside.{SinkState}
use Rattle.merc_base.specs.declared.outside.Wrote.{Wrote}
use Rattle.merc_base.specs.declared.outside.Wrote.TheVariants.{Took, Failed}

-- the bytes written, how many bytes there is room for in all, and how many writes have failed
pub record MemSinkState : Type 0 where
  pub bytes : List ℕ
  pub room : ℕ
  pub faults : ℕ

-- a sink with room for so many bytes, before the first write
abbrev pub empty_sink : ℕ → MemSinkState
empty_sink room = record { bytes = []; room = room; faults = 0 }

-- it tells its bytes, and not in which pieces they came
abbrev pub memory_told : MemSinkState → SinkState
memory_told sink = record { written = Some sink.bytes; given = None; faults = sink.faults }

-- how many more bytes there is room for
abbrev pub room_left : MemSinkState → ℕ
room_left sink = sink.room - length sink.bytes

-- the sink after a write of these bytes, by what the write answered
abbrev pub sink_after : List ℕ → Wrote → MemSinkState → MemSinkState
sink_after bytes (Took n) sink = record sink { bytes = sink.bytes ++ take n bytes }
sink_after bytes Failed sink = record sink { faults = sink.faults + 1 }

-- the front of a piece that one write takes: of so many bytes, or all where there is no bound
abbrev pub front_of : Option ℕ → List ℕ → List ℕ
front_of None bytes = bytes
front_of (Some most) bytes = take most bytes

-- the sink that is written to, the numbers of the writes that fail, the most bytes that one write takes
-- if that is bounded, and the number of the next write (from 1)
pub record FailingSinkState : Type 0 where
  pub sink : MemSinkState
  pub fail : List ℕ
  pub most : Option ℕ
  pub next_write : ℕ

-- a sink over a writer: the bytes that it holds, if they are told, and how many writes have failed
pub record OutSinkState : Type 0 where
  pub written : Option (List ℕ)
  pub faults : ℕ

-- it tells no pieces
abbrev pub writer_told : OutSinkState → SinkState
writer_told sink = record { written = sink.written; given = None; faults = sink.faults }

-- these bytes where they are told, and nothing where not
abbrev pub told_if : Bool → Option (List ℕ) → Option (List ℕ)
told_if true bytes = bytes
told_if false bytes = None

-- the pieces that were taken, and how many writes have failed
pub record PieceSinkState : Type 0 where
  pub pieces : List (List ℕ)
  pub faults : ℕ

-- it tells the pieces, and the bytes of all of them in order
abbrev pub pieces_told : PieceSinkState → SinkState
pieces_told sink = record { written = Some (flat_map (λ piece. piece) sink.pieces); given = Some sink.pieces; faults = sink.faults }

-- the sink after a write of this piece, by what the write answered
abbrev pub pieces_after : List ℕ → Wrote → PieceSinkState → PieceSinkState
pieces_after piece (Took n) sink = record sink { pieces = sink.pieces ++ piece ∷ [] }
pieces_after piece Failed sink = record sink { faults = sink.faults + 1 }
