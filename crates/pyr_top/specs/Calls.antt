-- What a call of the program makes of its words, its source, `out` and `err`.
use Rattle.std.specs.Prelude.{◌≡◌, ◌≢◌, ◌⊎◌, ◌↔◌, ℕ, List, IsTrue}
use Rattle.std.specs.Io.KnownBytes.{Appends}
use Rattle.pyr_port.specs.Giving.{AppendsPrefix}
use Rattle.pyr_port.specs.Calls.{SourceCall, SinkCall}
use Rattle.pyr_top.specs.declared.status.Status.{Status}
use Rattle.pyr_top.specs.declared.status.Status.TheVariants.{Ok as Fine, Usage, Source, Sink}
use Rattle.pyr_top.specs.Commands.{NoCommand, ReadsInput}
use Rattle.pyr_top.specs.Endings.{Delivers, IsRefused, IsRefusedAs, IsComplete, IsCompleteWhereValid, IsReadToEnd, tells_of_input}
use Rattle.pyr_top.specs.Headline.{KeepsPromise}

-- all that a call promises of its words, of what became of its source, `out` and `err`, and of its status
pub record IsCall (words : List (List ℕ)) (source : SourceCall) (out err : SinkCall)
    (ended : Status) : Type 0 where
  -- Where all goes well, the defined output was appended.
  pub ok : ended ≡ Fine → Delivers words source.left (Appends out.written out.written_after)
  -- Each refusal has its cause. Want of memory alone is free.
  pub usage : (ended ≡ Usage) ↔ NoCommand words
  pub source_failed : ended ≡ Source → ReadsInput words × source.failed
  pub sink_failed : ended ≡ Sink → out.failed
  pub input_refused : IsTrue (tells_of_input ended) → IsRefusedAs words source.left ended
  -- Where nothing fails, the call ends as the defined answer says, or for want of memory.
  pub complete : ¬ source.failed → ¬ out.failed → IsComplete words source.left out ended
  -- So a valid input gets its output, or memory runs out.
  pub valid : ¬ source.failed → ¬ out.failed → IsCompleteWhereValid words source.left out ended
  -- Of a bundle that was accepted, compiled or run: every interleaving of its processors' steps is
  -- safe and finishes with the same outputs.
  pub safe : ended ≡ Fine → KeepsPromise words source.left out
  -- What becomes of the source and of `out`.
  pub unread : ¬ ReadsInput words → source.is_same
  pub read_to_end : (ended ≡ Fine) ⊎ IsTrue (tells_of_input ended) → IsReadToEnd words source
  pub nothing : ended ≢ Fine → ended ≢ Sink → out.is_same
  pub prefix : ended ≡ Sink
      → Delivers words source.left (AppendsPrefix out.written out.written_after)
  -- What becomes of `err`: a failing one changes no status.
  pub quiet : ended ≡ Fine → err.is_same
  pub told : ended ≢ Fine → IsRefused words source out err ended
