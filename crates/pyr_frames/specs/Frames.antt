-- The frame net: the machine of a bundle in one frame after another. Parcels carry the frame in
-- which they were sent, and are looked up by datum alone.
use Rattle.std.specs.Prelude.{◌≡◌, ℕ, ◌<◌, nat_eq, Bool, if◌then◌else◌, List, [], ◌∷◌, map, length, slice_get, Some}
use Rattle.std.specs.List.{list_any, filter}
use Rattle.pyr_num.specs.declared.ids.DatumId.{DatumId}
use Rattle.pyr_num.specs.declared.lists.Outputs.{Outputs}
use Rattle.pyr_num.specs.declared.parcel.Parcel.{Parcel}
use Rattle.pyr_net.specs.Net.{Rules, World}
use Rattle.pyr_net.specs.Run.{IsComplete}
use Rattle.pyr_net.specs.Pipeline.{Series, Staged, pipeline, pipeline_start, IsSeries}
use Rattle.pyr_bundle.specs.Parts.{Parts, IsBundle, processor_count, code_at}
use Rattle.pyr_bundle.specs.WellFormed.{writes_of}
use Rattle.pyr_bundle.specs.declared.instr.Instr.{Instr}
use Rattle.pyr_bundle.specs.declared.instr.Instr.TheVariants.{Recv, Exec, Send}
use Rattle.pyr_machine.specs.Machine.{LocalState, Kind, machine, start}
use Rattle.pyr_machine.specs.Parcels.{parcels, words_in}
use Rattle.pyr_machine.specs.Good.{IsGood}
use Rattle.pyr_frames.specs.declared.frame_parcel.FrameParcel.{FrameParcel}

-- a parcel with its frame, and without it
abbrev pub stamped : ℕ → Parcel → FrameParcel
stamped k x = record { frame = k; parcel = x }

abbrev pub bare : FrameParcel → Parcel
bare x = x.parcel

-- the parcels of frame k: looked up by datum alone, and what is picked or made carries the frame
abbrev pub frame_kind : Parts → ℕ → Kind FrameParcel
frame_kind b k =
    record {
      tag = λ x. x.parcel.tag.0;
      pick = λ d xs. stamped k ((parcels b k).pick d (map bare xs));
      made = λ t xs. map (stamped k) ((parcels b k).made t (map bare xs));
    }

-- the numbers of the data that an instruction writes by a task
abbrev pub executed_writes : Parts → Instr → List ℕ
executed_writes b (Recv from d) = []
executed_writes b (Exec t) = writes_of b t.0
executed_writes b (Send to d) = []

-- p executes the writer of datum d
abbrev pub executes_writer : Parts → ℕ → ℕ → Bool
executes_writer b p d =
    list_any (λ it. list_any (nat_eq d) (executed_writes b it)) (code_at b p)

-- the printed data whose writers p executes
abbrev pub own_prints : Parts → ℕ → List DatumId
own_prints b p = filter (λ d. executes_writer b p d.0) b.prints

-- what p gains of a frame that it has ended with this store: the words of its own printed data
abbrev pub own_outputs : Parts → ℕ → List Parcel → Outputs
own_outputs b p store = record { lists = map (λ d. words_in d.0 store) (own_prints b p) }

-- the machines of a bundle, by frame. At the code's end a processor goes back to its start with an
-- empty store, and leaves the stash as it is.
abbrev pub frames_of : Parts → Series (LocalState FrameParcel) FrameParcel Outputs
frames_of b =
    record {
      rules = λ k. machine (frame_kind b k) b;
      renewed = λ l. record { place = 0; store = []; stash = l.stash };
      gain = λ k p l. own_outputs b p (map bare l.store);
    }

-- the state of n frames as one net
abbrev pub FrameWorld : Type 0
FrameWorld = World (Staged (LocalState FrameParcel) Outputs) FrameParcel

-- the frame net of n frames, and its start
abbrev pub frame_rules : Parts → ℕ → Rules (Staged (LocalState FrameParcel) Outputs) FrameParcel
frame_rules b n = pipeline (frames_of b) n

abbrev pub frame_start : FrameWorld
frame_start = pipeline_start start

-- a done state: every processor has ended all frames, and channels and stashes are empty
pub record IsFrameDone (b : Parts) (n : ℕ) (w : FrameWorld) : Type 0 where
  pub complete : IsComplete (frame_rules b n) w
  pub stashes : (p : ℕ) → p < processor_count b → (w.locals p).local.stash ≡ []

-- of lists, one for each of these prints, those of p's own
abbrev pub own_lists : Parts → ℕ → List DatumId → List (List ℕ) → List (List ℕ)
own_lists b p [] lists = []
own_lists b p (d ∷ ds) [] = []
own_lists b p (d ∷ ds) (ws ∷ lists) =
    if executes_writer b p d.0 then ws ∷ own_lists b p ds lists else own_lists b p ds lists

-- what the processors have gained of frame k is these lists, one for each print
pub record AreGained (b : Parts) (w : FrameWorld) (k : ℕ) (lists : List (List ℕ)) : Type 0 where
  pub count : length lists ≡ length b.prints
  pub each : (p : ℕ) → p < processor_count b
      → slice_get (w.locals p).gained k ≡ Some (record { lists = own_lists b p b.prints lists })

-- the frames of a good bundle are nets that can be run one after another
abbrev pub FramesAreASeries : Type 0
FramesAreASeries =
    (b : Parts) (steps n : ℕ) → IsBundle b → IsGood b steps → IsSeries (frames_of b) n steps start
