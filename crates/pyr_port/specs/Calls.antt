-- What a call made of the source and of the sinks that it was lent.
use Rattle.std.specs.Prelude.{◌≡◌, ℕ, List, Option}
use Rattle.pyr_port.specs.Causes.{Rose}

-- what a call made of a source
pub record SourceCall : Type 1 where
  -- the bytes that were left before the call and after it, where the source tells them
  pub left : Option (List ℕ)
  pub left_after : Option (List ℕ)
  -- it is as before
  pub is_same : Type 0
  -- its count of faults rose
  pub failed : Type 0

-- what a call made of a sink
pub record SinkCall : Type 1 where
  -- the bytes that it held before the call and after it, where the sink tells them
  pub written : Option (List ℕ)
  pub written_after : Option (List ℕ)
  -- it is as before
  pub is_same : Type 0
  -- its count of faults rose
  pub failed : Type 0

-- the one way to tell it: by the members `left` and `faults` of a source, before and after
abbrev pub source_call : {S : Type 0} → (S → Option (List ℕ)) → (S → ℕ) → S → S → SourceCall
source_call left faults old new =
    record {
      left = left old;
      left_after = left new;
      is_same = new ≡ old;
      failed = Rose (faults old) (faults new);
    }

-- and by the members `written` and `faults` of a sink
abbrev pub sink_call : {O : Type 0} → (O → Option (List ℕ)) → (O → ℕ) → O → O → SinkCall
sink_call written faults old new =
    record {
      written = written old;
      written_after = written new;
      is_same = new ≡ old;
      failed = Rose (faults old) (faults new);
    }
