-- A pipeline: nets with the same actors and capacities, in series. Each actor goes through the nets,
-- the stages, one after another, whatever stage the others are at.
use Rattle.std.specs.Prelude.{◌≡◌, ℕ, zero, suc, ◌+◌, ◌*◌, ◌<◌, ◌≤◌, nat_lt, if◌then◌else◌, List, [], ◌∷◌, ◌++◌, length}
use Rattle.pyr_net.specs.Net.{Rules, World, action_at}
use Rattle.pyr_net.specs.Run.{IsRun, end_of, IsCompleteRun}
use Rattle.pyr_net.specs.declared.action.Action.{Action}
use Rattle.pyr_net.specs.declared.action.Action.TheVariants.{Internal, Send, Take, Ended, Lacks}

-- The nets, by the number of the stage.
pub record Series (L P G : Type 0) : Type 0 where
  -- the net of a stage
  pub rules : ℕ → Rules L P
  -- the local state in which an actor begins the next stage, where it ended this one in that state
  pub renewed : L → L
  -- what an actor keeps of a stage: the stage, the actor, the local state in which it ended
  pub gain : ℕ → ℕ → L → G

-- an actor of the pipeline: its stage, its local state in the net of that stage, and what it has kept
-- of each stage before
pub record Staged (L G : Type 0) : Type 0 where
  pub stage : ℕ
  pub local : L
  pub gained : List G

-- what an actor does in the pipeline, where it does this in the net of its stage: at the end of a stage
-- it makes an internal step
abbrev pub past_end : Action → Action
past_end Internal = Internal
past_end (Send to) = Send to
past_end (Take from) = Take from
past_end Ended = Internal
past_end Lacks = Lacks

-- an actor after an internal step, where it does this in the net of its stage
abbrev pub worked_on : {L P G : Type 0} → Series L P G → ℕ → Staged L G → Action → Staged L G
worked_on series p s Internal = record s { local = (series.rules s.stage).worked p s.local }
worked_on series p s (Send to) = record s { local = (series.rules s.stage).worked p s.local }
worked_on series p s (Take from) = record s { local = (series.rules s.stage).worked p s.local }
worked_on series p s Ended =
    record {
      stage = suc s.stage;
      local = series.renewed s.local;
      gained = s.gained ++ series.gain s.stage p s.local ∷ [];
    }
worked_on series p s Lacks = record s { local = (series.rules s.stage).worked p s.local }

-- n nets in series as one net: each actor acts as in the net of its stage, goes on to the next stage
-- where it has ended there, and has ended after n of them. The list from one actor to another holds
-- the parcels of all stages, and has the capacity of one.
abbrev pub pipeline : {L P G : Type 0} → Series L P G → ℕ → Rules (Staged L G) P
pipeline series n =
    record {
      actors = (series.rules 0).actors;
      capacity = (series.rules 0).capacity;
      action = λ p s.
          if nat_lt s.stage n then past_end ((series.rules s.stage).action p s.local) else Ended;
      worked = λ p s. worked_on series p s ((series.rules s.stage).action p s.local);
      sent = λ p s. record s { local = (series.rules s.stage).sent p s.local };
      parcel = λ p s. (series.rules s.stage).parcel p s.local;
      taken = λ p s x. record s { local = (series.rules s.stage).taken p s.local x };
    }

-- the start of a pipeline in which each stage starts at w
abbrev pub pipeline_start : {L P G : Type 0} → World L P → World (Staged L G) P
pipeline_start w =
    record {
      locals = λ p. record { stage = 0; local = w.locals p; gained = [] };
      lists = w.lists;
    }

-- the first n of these lists, one after another
abbrev pub joined : {A : Type 0} → ℕ → (ℕ → List A) → List A
joined zero lists = []
joined (suc n) lists = joined n lists ++ lists n

-- what actor p has kept of the first n stages, whose nets stand in these states
abbrev pub gains : {L P G : Type 0} → Series L P G → (ℕ → World L P) → ℕ → ℕ → List G
gains series worlds p zero = []
gains series worlds p (suc n) = gains series worlds p n ++ series.gain n p ((worlds n).locals p) ∷ []

-- the state of the pipeline where the nets of its stages stand side by side, each in a state of its
-- own, and each actor is at this stage: an actor stands as in the net of its stage, and the list
-- between two actors is their lists in all nets, one after another
abbrev pub side_by_side : {L P G : Type 0} → Series L P G → ℕ → (ℕ → World L P) → (ℕ → ℕ) →
    World (Staged L G) P
side_by_side series n worlds stages =
    record {
      locals = λ p.
          record {
            stage = stages p;
            local = (worlds (stages p)).locals p;
            gained = gains series worlds p (stages p);
          };
      lists = λ p q. joined n (λ k. (worlds k).lists p q);
    }

-- a complete run of so many steps
pub record StageRun {L P : Type 0} (net : Rules L P) (w : World L P) (steps : ℕ) : Type 0 where
  pub run : List ℕ
  pub complete : IsCompleteRun net w run
  pub count : length run ≡ steps

-- what is asked of n nets in series, each of which starts at w and takes so many steps
pub record IsSeries {L P G : Type 0} (series : Series L P G) (n steps : ℕ) (w : World L P) : Type 0
  where
    pub actors : (k : ℕ) → (series.rules k).actors ≡ (series.rules 0).actors
    pub capacity : (k : ℕ) → (series.rules k).capacity ≡ (series.rules 0).capacity
    -- nothing is on its way at the start
    pub empty : (p q : ℕ) → w.lists p q ≡ []
    -- what is sent goes to an actor, and what is taken comes from one
    pub sends : (k p to : ℕ) (l : L) → (series.rules k).action p l ≡ Send to →
        to < (series.rules 0).actors
    pub takes : (k p from : ℕ) (l : L) → (series.rules k).action p l ≡ Take from →
        from < (series.rules 0).actors
    -- each net has a complete run
    pub runs : (k : ℕ) → k < n → StageRun (series.rules k) w steps
    -- and where it leaves an actor, the actor begins the next stage at its start
    pub renews : (k p : ℕ) (less : k < n) → p < (series.rules 0).actors →
        series.renewed ((end_of (series.rules k) w (runs k less).run).locals p) ≡ w.locals p

-- some run goes from w to z
pub record IsReached {L P : Type 0} (net : Rules L P) (w z : World L P) : Type 0 where
  pub run : List ℕ
  pub is_run : IsRun net w run
  pub ends : end_of net w run ≡ z

-- what holds of the nets of the stages, and of the stage of each actor, at every state that is reached
pub record IsStaged {L P G : Type 0} (series : Series L P G) (n : ℕ) (w : World L P)
    (worlds : ℕ → World L P) (stages : ℕ → ℕ) : Type 0 where
  -- each net stands where a run of its own leads
  pub reached : (k : ℕ) → k < n → IsReached (series.rules k) w (worlds k)
  -- behind the last stage there is nothing but the start
  pub unbegun : (k : ℕ) → n ≤ k → worlds k ≡ w
  pub within : (p : ℕ) → p < (series.rules 0).actors → stages p ≤ n
  -- an actor has ended in each stage before its own
  pub passed : (p k : ℕ) → p < (series.rules 0).actors → k < stages p →
      action_at (series.rules k) (worlds k) p ≡ Ended
  -- and has done nothing in those after it
  pub waits : (p k : ℕ) → p < (series.rules 0).actors → stages p < k →
      (worlds k).locals p ≡ w.locals p
  pub unsent : (p q k : ℕ) → p < (series.rules 0).actors → stages p < k →
      (worlds k).lists p q ≡ []

-- a state of the pipeline is that of its nets side by side
pub record IsSideBySide {L P G : Type 0} (series : Series L P G) (n : ℕ) (w : World L P)
    (v : World (Staged L G) P) : Type 0 where
  pub worlds : ℕ → World L P
  pub stages : ℕ → ℕ
  pub staged : IsStaged series n w worlds stages
  pub same : v ≡ side_by_side series n worlds stages

-- The pipeline has a complete run, of the steps of n stages and of one step more for each actor and
-- stage. Each state that it reaches is that of its nets side by side.
pub record GoesThrough {L P G : Type 0} (series : Series L P G) (n steps : ℕ) (w : World L P) : Type 0
  where
    pub run : List ℕ
    pub complete : IsCompleteRun (pipeline series n) (pipeline_start w) run
    pub count : length run ≡ n * (steps + (series.rules 0).actors)
    pub parts : (other : List ℕ) → IsRun (pipeline series n) (pipeline_start w) other →
        IsSideBySide series n w (end_of (pipeline series n) (pipeline_start w) other)

-- this holds of all nets in series
abbrev pub PipelinesComplete : (L P G : Type 0) → Type 0
PipelinesComplete L P G =
    (series : Series L P G) (n steps : ℕ) (w : World L P) → IsSeries series n steps w →
    GoesThrough series n steps w
