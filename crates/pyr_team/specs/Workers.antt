-- What workers promise. No public clause cites this.
use Rattle.std.specs.Prelude.{◌≡◌, ◌<◌, Bool, List}
use Rattle.std.specs.List.{AllZip}
use Rattle.std.specs.declared.thread.PromisedHandle.{PromisedHandle}
use Rattle.pyr_bundle.specs.Parts.{Parts}
use Rattle.pyr_proc.specs.Seated.{Seated, HasRun}
use Rattle.pyr_team.specs.declared.workers.RunOf.{RunOf}

-- frame 0 of this bundle can be run
pub record IsReady (b : Parts) (s : Seated) : Type 0 where
  pub bundle : s.bundle ≡ b
  pub ran : s.ran ≡ 0
  pub frames : 0 < s.frames

-- a handle on the thread of a worker
abbrev pub Handle : Type 0
Handle = PromisedHandle (Seated × Bool) RunOf

-- the seat that the worker was started with
abbrev pub seat_of : Handle → Seated
seat_of h = h.promise.seat.value

-- each of these has become the one at its place there by running frame 0
abbrev pub AllRan : List Seated → List Seated → Type 0
AllRan old new = AllZip (HasRun 0) old new
