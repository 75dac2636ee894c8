-- What is seen of a source and of a sink in memory, and what a call makes of it.
use Rattle.std.specs.Prelude.{ℕ, ◌==◌, is_some, if◌then◌else◌, List, [], ◌++◌, length, take, drop, Option, Some, None, Result}
use Rattle.std.specs.Result.{result_unwrap_or}
use Rattle.pyr_port.specs.Plans.{next_call}

-- a source: the bytes that are left, its plan, and how many calls were made
pub record SourceState : Type 0 where
  pub left : List ℕ
  pub most : ℕ
  pub fail : List ℕ
  pub calls : ℕ

-- a source of these bytes, before its first call
abbrev pub unread_source : List ℕ → ℕ → List ℕ → SourceState
unread_source bytes most fail = record { left = bytes; most = most; fail = fail; calls = 0 }

-- a source after one more call with this answer
abbrev pub after_take : {E : Type 0} → SourceState → Result ℕ E → SourceState
after_take s answer = record s { left = drop (result_unwrap_or answer 0) s.left; calls = next_call s.calls }

-- a sink: what was written, its room, its plan, how many calls were made, and which of them used up the room
pub record SinkState : Type 0 where
  pub written : List ℕ
  pub room : ℕ
  pub most : ℕ
  pub fail : List ℕ
  pub calls : ℕ
  pub used_up : Option ℕ

-- an empty sink, before its first call. Where it has no room, call 0 used it up
abbrev pub empty_sink : ℕ → ℕ → List ℕ → SinkState
empty_sink room most fail = record { written = []; room = room; most = most; fail = fail; calls = 0; used_up = if room == 0 then Some 0 else None }

-- the call that used up the room, where this one leaves so many bytes written
abbrev pub used_up_after : Option ℕ → ℕ → ℕ → ℕ → Option ℕ
used_up_after used_up call count room = if is_some used_up then used_up else (if count == room then Some call else None)

-- a sink after one more call with this piece and this answer
abbrev pub after_give : {E : Type 0} → SinkState → Result ℕ E → List ℕ → SinkState
after_give s answer piece =
    let written : List ℕ = s.written ++ take (result_unwrap_or answer 0) piece in
    record s { written = written; calls = next_call s.calls; used_up = used_up_after s.used_up (next_call s.calls) (length written) s.room }
