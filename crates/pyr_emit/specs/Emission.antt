-- The bundle of a plan. Each task has a block: it receives what it reads and isn't there yet, runs, and
-- sends what it writes to where it is read. A processor's code is the blocks of its tasks, in the
-- plan's order.
use Rattle.std.specs.Prelude.{◌≡◌, ℕ, ◌<◌, Bool, not, ◌&&◌, nat_eq, List, ◌∷◌, ◌++◌, length, take, map, filter, slice_index}
use Rattle.std.specs.List.{list_any, flat_map, range_with_len}
use Rattle.pyr_code.specs.Seen.{code_of}
use Rattle.pyr_bodygen.specs.Generated.{generated}
use Rattle.pyr_graph.specs.declared.placement.Placement.{Placement}
use Rattle.pyr_graph.specs.declared.plan.Plan.{Plan}
use Rattle.pyr_graph.specs.System.{System, task_count, datum_count, task_numbers, datum_numbers, reads_of, writes_of, writer_of, length_of}
use Rattle.pyr_graphtext.specs.Program.{ProgramParts, datum_name, body_at}
use Rattle.pyr_graph.specs.Placements.{processor_of, same_processor}
use Rattle.pyr_bundle.specs.declared.raw_bundle.RawBundle.{RawBundle}
use Rattle.pyr_bundle.specs.declared.raw_datum.RawDatum.{RawDatum}
use Rattle.pyr_bundle.specs.declared.raw_task.RawTask.{RawTask}
use Rattle.pyr_bundle.specs.declared.raw_channel.RawChannel.{RawChannel}
use Rattle.pyr_bundle.specs.declared.raw_instr.RawInstr.{RawInstr}
use Rattle.pyr_bundle.specs.declared.raw_instr.RawInstr.TheVariants.{Recv, Exec, Send}
use Rattle.pyr_bundle.specs.Raw.{task_in}
use Rattle.pyr_bundle.specs.Laws.{send_count, pairs_of}

-- whether the task reads the datum, writes it
abbrev pub reads_it : System → ℕ → ℕ → Bool
reads_it s t d = list_any (nat_eq d) (reads_of s t)

abbrev pub writes_it : System → ℕ → ℕ → Bool
writes_it s t d = list_any (nat_eq d) (writes_of s t)

-- the data that a task reads, and those that it writes, by rising number
abbrev pub data_read : System → ℕ → List ℕ
data_read s t = filter (reads_it s t) (range_with_len 0 (datum_count s))

abbrev pub data_written : System → ℕ → List ℕ
data_written s t = filter (writes_it s t) (range_with_len 0 (datum_count s))

-- whether one of these tasks is on processor q and reads the datum
abbrev pub is_read_on : System → Placement → List ℕ → ℕ → ℕ → Bool
is_read_on s placement tasks q d =
    list_any (λ t. nat_eq (processor_of placement t) q && reads_it s t d) tasks

-- Whether the block of t receives a datum that t reads, where these tasks come earlier: it is written
-- on another processor, and no earlier block here receives it, since no earlier task here reads it.
abbrev pub is_awaited : System → Placement → List ℕ → ℕ → ℕ → Bool
is_awaited s placement earlier t d =
    not (same_processor placement (writer_of s d) t)
    && not (is_read_on s placement earlier (processor_of placement t) d)

abbrev pub receive_of : System → Placement → ℕ → RawInstr
receive_of s placement d = Recv (processor_of placement (writer_of s d)) d

-- the receives of a block, by rising datum
abbrev pub receives : System → Placement → List ℕ → ℕ → List RawInstr
receives s placement earlier t =
    map (receive_of s placement) (filter (is_awaited s placement earlier t) (data_read s t))

-- whether q is another processor than that of t, and some task of the order reads the datum there
abbrev pub is_destination : System → Placement → List ℕ → ℕ → ℕ → ℕ → Bool
is_destination s placement order t d q =
    not (nat_eq q (processor_of placement t)) && is_read_on s placement order q d

-- the sends of a datum that t writes, one to each such processor, by rising processor
abbrev pub sends_of : System → Placement → List ℕ → ℕ → ℕ → List RawInstr
sends_of s placement order t d =
    map (λ q. Send q d)
    (filter (is_destination s placement order t d) (range_with_len 0 placement.processors))

-- the sends of a block, by rising datum
abbrev pub sends : System → Placement → List ℕ → ℕ → List RawInstr
sends s placement order t = flat_map (sends_of s placement order t) (data_written s t)

-- the block of the task at a place of the order: its receives, then the task, then its sends
abbrev pub block_at : System → Placement → List ℕ → ℕ → List RawInstr
block_at s placement order i =
    receives s placement (take i order) (slice_index order i)
    ++ Exec (slice_index order i)
    ∷ sends s placement order (slice_index order i)

-- the places of the order whose tasks are on processor p
abbrev pub places_on : Placement → List ℕ → ℕ → List ℕ
places_on placement order p =
    filter (λ i. nat_eq (processor_of placement (slice_index order i)) p)
    (range_with_len 0 (length order))

-- the code of processor p: the blocks of its tasks, in order
abbrev pub code_on : System → Placement → List ℕ → ℕ → List RawInstr
code_on s placement order p =
    flat_map (block_at s placement order) (places_on placement order p)

abbrev pub codes : System → Placement → List ℕ → List (List RawInstr)
codes s placement order = map (code_on s placement order) (range_with_len 0 placement.processors)

-- the channels of codes: the pairs of processors with a send, by rising pair, each with room for all
-- its sends
abbrev pub channel_of : List (List RawInstr) → ℕ × ℕ → RawChannel
channel_of code pair =
    record { from = pair.0; to = pair.1; capacity = send_count code pair.0 pair.1 }

abbrev pub channels_of : List (List RawInstr) → List RawChannel
channels_of code = map (channel_of code) (pairs_of code)

-- the data of a program, each with its name and its number of words
abbrev pub datum_of : ProgramParts → ℕ → RawDatum
datum_of p d = record { name = datum_name p d; length = length_of p.graph d }

abbrev pub datums_of : ProgramParts → List RawDatum
datums_of p = map (datum_of p) (range_with_len 0 (datum_count p.graph))

-- this is the task t of the program: what it reads and writes in its order, and the code of its body
pub record IsTaskOf (p : ProgramParts) (t : ℕ) (task : RawTask) : Type 0 where
  pub reads : task.reads ≡ reads_of p.graph t
  pub writes : task.writes ≡ writes_of p.graph t
  pub locals : task.locals ≡ length (body_at p t).locals
  pub code : code_of task.code ≡ generated (body_at p t).statements

-- these are the parts of the bundle of the plan
pub record IsEmission (p : ProgramParts) (placement : Placement) (plan : Plan) (raw : RawBundle) :
    Type 0 where
  pub datums : raw.datums ≡ datums_of p
  pub count : length raw.tasks ≡ task_count p.graph
  pub tasks : (t : ℕ) → t < task_count p.graph → IsTaskOf p t (task_in raw.tasks t)
  pub prints : raw.prints ≡ datum_numbers p.graph.prints
  pub channels : raw.channels ≡ channels_of raw.code
  pub code : raw.code ≡ codes p.graph placement (task_numbers plan.order)
