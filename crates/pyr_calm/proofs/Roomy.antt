-- Where each channel has room for all its sends no send waits, and what follows with the greatest
-- lengths for capacities.
use Rattle.std.proofs.Common.{◌≡◌, ℕ, ◌<◌, ◌≤◌, List, [], map, length, Option, Some, None, ◌⊎◌, inl, inr, refl, sym, ◌∙◌, ap, subst, arith}
use Rattle.std.proofs.lemmas.List.{length-map}
use Rattle.pyr_net.specs.Net.{Rules, World, action_at}
use Rattle.pyr_net.specs.Run.{IsRun, HasNoStep, end_of}
use Rattle.pyr_net.proofs.Exchange.{ended_stops}
use Rattle.pyr_bundle.specs.declared.capacity.Capacity.{Capacity}
use Rattle.pyr_bundle.specs.declared.instr.Instr.{Instr}
use Rattle.pyr_bundle.specs.declared.instr.Instr.TheVariants.{Recv, Exec, Send}
use Rattle.pyr_bundle.specs.Parts.{Parts, processor_count, code_at}
use Rattle.pyr_machine.specs.Machine.{LocalState, Kind, machine, start, instr_at, action_by, worked_by, advanced, stashed, datum_by, capacity_in}
use Rattle.pyr_machine.specs.Good.{IsDone, HasCompleteRun}
use Rattle.pyr_machine.specs.Counts.{sends_to}
use Rattle.pyr_calm.specs.Calm.{IsGreatestLength, NeverWaits, EachFits, StaysCalm, with_capacities}
use Rattle.pyr_calm.specs.Capacities.{line_at, with_channels, all_room, roomy, HasPairs}
use Rattle.pyr_calm.proofs.Rooms.{within, end-with, back, stays_calm}
use Rattle.pyr_calm.proofs.Channels.{First, HasNoLine, first_or_none, line_room, room_at}
use Rattle.pyr_calm.proofs.Sends.{list_short, send_left, complete_fills}

-- The machine of a bundle with other channels is that machine with other capacities.

module _ {P : Type 0} (k : Kind P) (b : Parts) (lines : List Capacity) where
  action-channels : (it : Option Instr) (l : LocalState P) →
      action_by k (with_channels b lines) it l ≡ action_by k b it l
  action-channels None l = refl
  action-channels (Some (Recv from d)) l = refl
  action-channels (Some (Exec t)) l = refl
  action-channels (Some (Send to d)) l = refl

  pub machine-channels :
      machine k (with_channels b lines) ≡ with_capacities (machine k b) (capacity_in lines)
  machine-channels = λ i. record {
    actors = processor_count b;
    capacity = capacity_in lines;
    action = λ p l. action-channels (instr_at b p l) l i;
    worked = λ p l. worked_by k (instr_at b p l) l;
    sent = λ p l. advanced l;
    parcel = λ p l. k.pick (datum_by (instr_at b p l)) l.store;
    taken = λ p l x. stashed l x;
  }

-- each two processors with a send have a channel
abbrev pub HasRooms : Parts → Type 0
HasRooms b =
    (p q : ℕ) → p < processor_count b → 0 < sends_to q (code_at b p)
    → 0 < capacity_in b.channels p q

pub good_rooms : {P : Type 0} (k : Kind P) (b : Parts) (n : ℕ) → HasCompleteRun k b n → HasRooms b
good_rooms k b n good p q actor some = (complete_fills k b n p q good actor some).room

-- with room for all sends no send waits
pub roomy_never_waits : {P : Type 0} (k : Kind P) (b : Parts) → HasRooms b →
    NeverWaits (machine k (roomy b)) start
roomy_never_waits {P} k b rooms run p q r h =
    let w : World (LocalState P) P = end_of (machine k (roomy b)) start run in
    let short = list_short k (roomy b) run p q r in
    let one = send_left k (roomy b) w p q h.sends in
    let some : 0 < sends_to q (code_at b p) = omega (arith, short, one) in
    let room = room_at b p q (rooms p q h.actor some) in
    let full : capacity_in (roomy b).channels p q ≤ length (w.lists p q) = h.full in
    omega (arith, short, one, room, full)

module _ {P : Type 0} (k : Kind P) (b : Parts) (rooms : HasRooms b) where
  abbrev room_net : Rules (LocalState P) P
  room_net = machine k (roomy b)

  never : NeverWaits room_net start
  never = roomy_never_waits k b rooms

  -- the machine with these channels is that machine with other capacities
  pub with_lines : (lines : List Capacity) →
      machine k (with_channels b lines) ≡ with_capacities room_net (capacity_in lines)
  with_lines lines = machine-channels k (roomy b) lines

  -- so a run with whatever channels is one with room for all sends, with the same end
  pub into : (lines : List Capacity) (run : List ℕ) →
      IsRun (machine k (with_channels b lines)) start run → IsRun room_net start run
  into lines run r =
      back room_net (capacity_in lines) start never [] run tt
      (subst (λ net. IsRun net start run) (with_lines lines) r)

  pub same_end : (lines : List Capacity) (run : List ℕ) →
      end_of (machine k (with_channels b lines)) start run ≡ end_of room_net start run
  same_end lines run =
      ap (λ net. end_of net start run) (with_lines lines)
      ∙ end-with room_net (capacity_in lines) start run

  -- no list is longer than there are sends
  pub at_most : (p q n : ℕ) → IsGreatestLength room_net start p q n → n ≤ sends_to q (code_at b p)
  at_most p q n g =
      let short = list_short k (roomy b) g.run p q g.is_run in
      let there : length ((end_of room_net start g.run).lists p q) ≡ n = g.there in
      omega (arith, short, there)

  -- The greatest lengths as capacities.

  module _ (lines : List Capacity) (pairs : HasPairs b lines)
      (told : (i : ℕ) → i < length lines → IsGreatestLength room_net start (line_at lines i).from.0 (line_at lines i).to.0 (line_at lines i).capacity) where
    each_fits : EachFits room_net start (capacity_in lines)
    each_fits run p q r =
        at (first_or_none lines p q) (first_or_none (roomy b).channels p q)
      where
        long : ℕ → ℕ → ℕ
        long a c = length ((end_of room_net start run).lists a c)

        count : length (roomy b).channels ≡ length b.channels
        count = length-map b.channels (all_room b)

        at : First lines p q ⊎ HasNoLine lines p q →
            First (roomy b).channels p q ⊎ HasNoLine (roomy b).channels p q →
            long p q ≤ capacity_in lines p q
        at (inl f) g =
            let c = line_at lines f.index in
            let h : long c.from.0 c.to.0 ≤ c.capacity = (told f.index f.within).greatest run r in
            let same : long c.from.0 c.to.0 ≡ long p q =
            ap (λ m. long m c.to.0) f.from ∙ ap (long p) f.to in
            let is = f.capacity in
            omega (arith, h, same, is)
        at (inr n) (inl g) =
            let l = g.within in
            let inside : g.index < length b.channels = omega (arith, l, count) in
            let e = line_room b b.channels g.index inside in
            let listed = pairs.count in
            let there : g.index < length lines = omega (arith, inside, listed) in
            absurd (n.none g.index there
            (ap (λ x. x.0) (pairs.from g.index there)
            ∙ ap (λ (x : Capacity). x.from.0) (sym e) ∙ g.from)
            (ap (λ x. x.0) (pairs.to g.index there)
            ∙ ap (λ (x : Capacity). x.to.0) (sym e) ∙ g.to))
        at (inr n) (inr m) =
            let none = m.capacity in
            let h : long p q ≤ capacity_in (roomy b).channels p q =
            within room_net start run p q r (omega arith) in
            omega (arith, h, none)

    stays : StaysCalm room_net start (capacity_in lines)
    stays = stays_calm room_net (capacity_in lines) start never each_fits

    -- no send waits
    pub lines_never_wait : NeverWaits (machine k (with_channels b lines)) start
    lines_never_wait = subst (λ net. NeverWaits net start) (sym (with_lines lines)) stays.waits

    -- and a complete run of the bundle is one with these capacities too
    pub lines_complete : (n : ℕ) → HasCompleteRun k b n → HasCompleteRun k (with_channels b lines) n
    lines_complete n c = record {
      run = c.run;
      is_run =
          subst (λ net. IsRun net start c.run) (sym (with_lines lines))
          ((stays.same_runs c.run).0 (into b.channels c.run c.is_run));
      count = c.count;
      done = record {
        complete = record {
          ended = λ p l.
              same_action p ((end_of (machine k (with_channels b lines)) start c.run).locals p)
              ∙ ap (λ (v : World (LocalState P) P). action_at (machine k b) v p) ends
              ∙ c.done.complete.ended p l;
          empty = λ p q l m.
              ap (λ (v : World (LocalState P) P). v.lists p q) ends
              ∙ c.done.complete.empty p q l m;
        };
        stashes = λ p l.
            ap (λ (v : World (LocalState P) P). (v.locals p).stash) ends ∙ c.done.stashes p l;
      };
    }
      where
        ends : end_of (machine k (with_channels b lines)) start c.run
            ≡ end_of (machine k b) start c.run
        ends = same_end lines c.run ∙ sym (same_end b.channels c.run)

        same_action : (p : ℕ) (l : LocalState P) →
            (machine k (with_channels b lines)).action p l ≡ (machine k b).action p l
        same_action p l = action-channels k b lines (instr_at b p l) l

-- where a state is done, no net of these has a step
pub done_stops : {P : Type 0} (k : Kind P) (b : Parts) (w : World (LocalState P) P) →
    IsDone k b w → HasNoStep (machine k (roomy b)) w
done_stops k b w done =
    ended_stops (machine k (roomy b)) w (λ p l.
    action-channels k b (map (all_room b) b.channels) (instr_at b p (w.locals p)) (w.locals p)
    ∙ done.complete.ended p l)
