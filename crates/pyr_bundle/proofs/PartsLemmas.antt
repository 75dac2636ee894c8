-- The parts of a bundle and the raw parts that it was made of.
use Rattle.std.proofs.Common.{◌≡◌, ℕ, zero, suc, ◌<◌, ◌≤◌, true, List, [], ◌∷◌, map, length, get_or, set, max, All, ◌⊎◌, inl, inr, refl, sym, ap, ◌∙◌, subst, arith}
use Rattle.std.specs.Prelude.{Option, Some, None, nat_le, slice_get}
use Rattle.std.proofs.lemmas.Bool.{cases_eq, and_from, le-leb}
use Rattle.std.proofs.lemmas.List.{length-map, length-set, map-set, get_or-map}
use Rattle.std.proofs.lemmas.List.Elements.{All-map}
use Rattle.std.proofs.lemmas.Option.{slice_get-get_or}
use Rattle.pyr_num.specs.declared.ids.DatumId.{DatumId}
use Rattle.pyr_bundle.specs.declared.raw_bundle.RawBundle.{RawBundle}
use Rattle.pyr_bundle.specs.declared.raw_datum.RawDatum.{RawDatum}
use Rattle.pyr_bundle.specs.declared.raw_task.RawTask.{RawTask}
use Rattle.pyr_bundle.specs.declared.raw_channel.RawChannel.{RawChannel}
use Rattle.pyr_bundle.specs.declared.raw_instr.RawInstr.{RawInstr}
use Rattle.pyr_bundle.specs.declared.raw_instr.RawInstr.TheVariants.{Recv, Exec, Send}
use Rattle.pyr_bundle.specs.declared.bundle_task.BundleTask.{BundleTask}
use Rattle.pyr_bundle.specs.declared.capacity.Capacity.{Capacity}
use Rattle.pyr_bundle.specs.declared.instr.Instr.{Instr}
use Rattle.pyr_bundle.specs.Law.{IsKept}
use Rattle.pyr_bundle.specs.Raw.{shape_of, IsWithinLimits}
use Rattle.pyr_bundle.specs.Laws.{names, accesses, writers, codes, prints, operands, executions, sends, receives, channels, capacities, pairs_of, is_line_of, is_fine_capacity, send_count}
use Rattle.pyr_bundle.specs.Faults.{IsLawful}
use Rattle.pyr_bundle.specs.Parts.{Parts, parts_of, raw_of, IsBundle, datum_id, bundle_task_of, capacity_of, instr_of, raw_task_of, raw_channel_of, raw_instr_of, no_channel, channel_at, with_capacity}

back : {X Y : Type 0} (f : X → Y) (g : Y → X) → ((x : X) → g (f x) ≡ x) → (xs : List X) → map g (map f xs) ≡ xs
back f g h [] = refl
back f g h (x ∷ xs) =
    ap (λ y. y ∷ map g (map f xs)) (h x) ∙ ap (λ ys. x ∷ ys) (back f g h xs)

numbers_back : (xs : List ℕ) → map (λ (d : DatumId). d.0) (map datum_id xs) ≡ xs
numbers_back xs = back datum_id (λ (d : DatumId). d.0) (λ x. refl) xs

task_back : (task : RawTask) → raw_task_of (bundle_task_of task) ≡ task
task_back task =
    ap (λ (xs : List ℕ). record { locals = task.locals; reads = xs; writes = map (λ (d : DatumId). d.0) (map datum_id task.writes); code = task.code }) (numbers_back task.reads)
    ∙ ap (λ (xs : List ℕ). record { locals = task.locals; reads = task.reads; writes = xs; code = task.code }) (numbers_back task.writes)

instr_back : (instr : RawInstr) → raw_instr_of (instr_of instr) ≡ instr
instr_back (Recv from d) = refl
instr_back (Exec t) = refl
instr_back (Send to d) = refl

-- the parts tell the raw parts
pub raw_of-parts_of : (raw : RawBundle) → raw_of (parts_of raw) ≡ raw
raw_of-parts_of raw =
    ap (λ (ts : List RawTask). record (raw_of (parts_of raw)) { tasks = ts }) (back bundle_task_of raw_task_of task_back raw.tasks)
    ∙ ap (λ (xs : List ℕ). record (raw_of (parts_of raw)) { tasks = raw.tasks; prints = xs }) (numbers_back raw.prints)
    ∙ ap (λ (cs : List RawChannel). record (raw_of (parts_of raw)) { tasks = raw.tasks; prints = raw.prints; channels = cs }) (back capacity_of raw_channel_of (λ c. refl) raw.channels)
    ∙ ap (λ (xs : List (List RawInstr)). record raw { code = xs }) (back (map instr_of) (map raw_instr_of) (back instr_of raw_instr_of instr_back) raw.code)

shapes_of : (tasks : List RawTask) → All (λ task. task.code.shape ≡ shape_of (raw_task_of task)) (map bundle_task_of tasks)
shapes_of tasks =
    All-map (λ (task : BundleTask). task.code.shape ≡ shape_of (raw_task_of task)) bundle_task_of tasks (λ k d l. ap shape_of (sym (task_back (get_or tasks k d))))

-- lawful parts within the limits are a bundle
pub bundle_of : (raw : RawBundle) → IsLawful raw → IsWithinLimits raw → IsBundle (parts_of raw)
bundle_of raw lawful limits = record {
  lawful = subst IsLawful (sym (raw_of-parts_of raw)) lawful;
  limits = subst IsWithinLimits (sym (raw_of-parts_of raw)) limits;
  shapes = shapes_of raw.tasks;
}

slice_get-set_same : {X : Type 0} (xs : List X) (i : ℕ) (x : X) → i < length xs → slice_get (set xs i x) i ≡ Some x
slice_get-set_same [] i x l = absurd (omega arith)
slice_get-set_same (y ∷ ys) zero x l = refl
slice_get-set_same (y ∷ ys) (suc i) x l = slice_get-set_same ys i x (omega arith)

slice_get-set_other : {X : Type 0} (xs : List X) (i k : ℕ) (x : X) → (k ≡ i → ⊥) → slice_get (set xs i x) k ≡ slice_get xs k
slice_get-set_other [] i k x n = refl
slice_get-set_other (y ∷ ys) zero zero x n = absurd (n refl)
slice_get-set_other (y ∷ ys) zero (suc k) x n = refl
slice_get-set_other (y ∷ ys) (suc i) zero x n = refl
slice_get-set_other (y ∷ ys) (suc i) (suc k) x n = slice_get-set_other ys i k x (λ e. n (ap suc e))

-- another capacity for one channel
module _ (raw : RawBundle) (i capacity : ℕ) (d : RawChannel) (known : i < length raw.channels) where
  abbrev old : RawChannel
  old = get_or raw.channels i d

  abbrev pub changed : RawBundle
  changed =
      record raw { channels = set raw.channels i (record old { capacity = capacity }) }

  line_same : (k : ℕ) (pair : Option (ℕ × ℕ)) → is_line_of (slice_get changed.channels k) pair ≡ is_line_of (slice_get raw.channels k) pair
  line_same k pair = at (cases_eq k i)
    where
      same : (pair : Option (ℕ × ℕ)) → is_line_of (Some (record old { capacity = capacity })) pair ≡ is_line_of (Some old) pair
      same None = refl
      same (Some p) = refl

      at : (k ≡ i) ⊎ (k ≡ i → ⊥) → is_line_of (slice_get changed.channels k) pair ≡ is_line_of (slice_get raw.channels k) pair
      at (inl e) =
          ap (λ n. is_line_of (slice_get changed.channels n) pair) e ∙ ap (λ (o : Option RawChannel). is_line_of o pair) (slice_get-set_same raw.channels i _ known) ∙ same pair
          ∙ ap (λ (o : Option RawChannel). is_line_of o pair) (sym (slice_get-get_or raw.channels i d known)) ∙ ap (λ n. is_line_of (slice_get raw.channels n) pair) (sym e)
      at (inr e) = ap (λ (o : Option RawChannel). is_line_of o pair) (slice_get-set_other raw.channels i k _ e)

  channels_kept : IsKept (channels raw) → IsKept (channels changed)
  unfolding channels
  channels_kept h = record {
    kept = λ a b r k. line_same a (slice_get (pairs_of raw.code) a) ∙ h.kept a 0 (subst (λ n. a < max n (length (pairs_of raw.code))) (length-set raw.channels i (record old { capacity = capacity })) r) (omega arith);
  }

  capacities_kept : 1 ≤ capacity → capacity ≤ send_count raw.code old.from old.to → IsKept (capacities raw) → IsKept (capacities changed)
  unfolding capacities
  capacities_kept some few h = record { kept = λ a b r k. at a r (cases_eq a i) }
    where
      at : (a : ℕ) → a < length changed.channels → (a ≡ i) ⊎ (a ≡ i → ⊥) → is_fine_capacity raw.code (slice_get changed.channels a) ≡ true
      at a r (inl e) =
          ap (λ n. is_fine_capacity raw.code (slice_get changed.channels n)) e ∙ ap (is_fine_capacity raw.code) (slice_get-set_same raw.channels i (record old { capacity = capacity }) known)
          ∙ and_from (nat_le 1 capacity) (nat_le capacity (send_count raw.code old.from old.to)) (le-leb 1 capacity some) (le-leb capacity (send_count raw.code old.from old.to) few)
      at a r (inr e) =
          ap (is_fine_capacity raw.code) (slice_get-set_other raw.channels i a (record old { capacity = capacity }) e)
          ∙ h.kept a 0 (subst (λ n. a < n) (length-set raw.channels i (record old { capacity = capacity })) r) (omega arith)

  pub lawful_again : 1 ≤ capacity → capacity ≤ send_count raw.code old.from old.to → IsLawful raw → IsLawful changed
  unfolding names accesses writers codes prints operands executions sends receives
  lawful_again some few h = record {
    names = h.names;
    accesses = h.accesses;
    writers = h.writers;
    codes = h.codes;
    prints = h.prints;
    operands = h.operands;
    executions = h.executions;
    sends = h.sends;
    receives = h.receives;
    channels = channels_kept h.channels;
    capacities = capacities_kept some few h.capacities;
  }

  pub limits_again : IsWithinLimits raw → IsWithinLimits changed
  limits_again h = record {
    least_processors = h.least_processors;
    processors = h.processors;
    tasks = h.tasks;
    datums = h.datums;
    lengths = h.lengths;
    each_task = h.each_task;
    all_reads = h.all_reads;
    all_nodes = h.all_nodes;
    all_work = h.all_work;
    prints = h.prints;
    channels = let n = length-set raw.channels i (record old { capacity = capacity }) in let m = h.channels in omega arith;
    instructions = h.instructions;
  }

-- the raw parts after another capacity
raw_changed : (b : Parts) (i capacity : ℕ) (l : i < length b.channels) (m : i < length (raw_of b).channels) →
    changed (raw_of b) i capacity (raw_channel_of no_channel) m ≡ raw_of (with_capacity b i capacity)
raw_changed b i capacity l m =
    ap (λ (cs : List RawChannel). record (raw_of b) { channels = cs })
    (ap (λ (c : RawChannel). set (map raw_channel_of b.channels) i (record c { capacity = capacity })) (get_or-map raw_channel_of b.channels i no_channel (raw_channel_of no_channel) l)
    ∙ sym (map-set raw_channel_of b.channels i (record (channel_at b i) { capacity = capacity })))

-- a bundle with another capacity is a bundle
pub capacity_set : (b : Parts) (i capacity : ℕ) → i < length b.channels → 1 ≤ capacity → capacity ≤ send_count (raw_of b).code (channel_at b i).from.0 (channel_at b i).to.0 → IsBundle b → IsBundle (with_capacity b i capacity)
capacity_set b i capacity l some few h =
    let m : i < length (raw_of b).channels = let n = length-map b.channels raw_channel_of in omega arith in
    let e = get_or-map raw_channel_of b.channels i no_channel (raw_channel_of no_channel) l in
    let f : capacity ≤ send_count (raw_of b).code (get_or (raw_of b).channels i (raw_channel_of no_channel)).from (get_or (raw_of b).channels i (raw_channel_of no_channel)).to =
    subst (λ (c : RawChannel). capacity ≤ send_count (raw_of b).code c.from c.to) (sym e) few in
    record {
      lawful = subst IsLawful (raw_changed b i capacity l m) (lawful_again (raw_of b) i capacity (raw_channel_of no_channel) m some f h.lawful);
      limits = subst IsWithinLimits (raw_changed b i capacity l m) (limits_again (raw_of b) i capacity (raw_channel_of no_channel) m h.limits);
      shapes = h.shapes;
    }

-- parts made one by one
pub parts_are : (raw : RawBundle) (named : List RawDatum) (tasks : List BundleTask) (ds : List DatumId) (cs : List Capacity) (code : List (List Instr)) →
    named ≡ raw.datums → tasks ≡ map bundle_task_of raw.tasks → ds ≡ map datum_id raw.prints → cs ≡ map capacity_of raw.channels → code ≡ map (map instr_of) raw.code →
    record { datums = named; tasks = tasks; prints = ds; channels = cs; code = code } ≡ parts_of raw
parts_are raw named tasks ds cs code e t d c k =
    ap (λ (x : List RawDatum). record { datums = x; tasks = tasks; prints = ds; channels = cs; code = code }) e
    ∙ ap (λ (x : List BundleTask). record { datums = raw.datums; tasks = x; prints = ds; channels = cs; code = code }) t
    ∙ ap (λ (x : List DatumId). record { datums = raw.datums; tasks = map bundle_task_of raw.tasks; prints = x; channels = cs; code = code }) d
    ∙ ap (λ (x : List Capacity). record { datums = raw.datums; tasks = map bundle_task_of raw.tasks; prints = map datum_id raw.prints; channels = x; code = code }) c
    ∙ ap (λ (x : List (List Instr)). record { datums = raw.datums; tasks = map bundle_task_of raw.tasks; prints = map datum_id raw.prints; channels = map capacity_of raw.channels; code = x }) k
