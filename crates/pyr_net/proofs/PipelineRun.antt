-- The runs of a pipeline: each state that is reached is that of its nets side by side, and one run is
-- complete.
use Rattle.std.proofs.Common.{◌≡◌, ◌≢◌, ℕ, zero, suc, ◌+◌, ◌*◌, ◌<◌, ◌≤◌, List, [], ◌∷◌, length, refl, sym, ◌∙◌, ap, subst, ◌⊎◌, inl, inr, arith, add-zero}
use Rattle.std.proofs.lemmas.Bool.Decides.{eqb_tells}
use Rattle.pyr_net.specs.Net.{World, IsEnabled, IsPossible, action_at, next, put}
use Rattle.pyr_net.specs.Run.{IsRun, end_of, IsComplete, Reaches}
use Rattle.pyr_net.specs.Pipeline.{Series, pipeline, joined, side_by_side, pipeline_start, StageRun, IsSeries, IsStaged, IsSideBySide, GoesThrough}
use Rattle.pyr_net.specs.declared.action.Action.{Action}
use Rattle.pyr_net.specs.declared.action.Action.TheVariants.{Internal, Send, Take, Ended, Lacks}
use Rattle.pyr_net.proofs.Joined.{joined-none, joined-one}
use Rattle.pyr_net.proofs.Reach.{at_start, one_more}
use Rattle.pyr_net.proofs.Staged.{compare, step_on, next_on, kept_on, on_enabled, moved, end_enabled, next_end, kept_end, start_staged, start_same, ended_behind}
use Rattle.pyr_net.proofs.Update.{EqualOrNot, put_same, put_other}
use Rattle.pyr_net.proofs.Waiting.{drained}

-- an actor has ended or not
abbrev EndedOrNot : Action → Type 0
EndedOrNot k = (k ≡ Ended) ⊎ (k ≢ Ended)

ended_or_not : (k : Action) → EndedOrNot k
ended_or_not Internal = inr (λ (e : Internal ≡ Ended). cc)
ended_or_not (Send to) = inr (λ (e : Send to ≡ Ended). cc)
ended_or_not (Take from) = inr (λ (e : Take from ≡ Ended). cc)
ended_or_not Ended = inl refl
ended_or_not Lacks = inr (λ (e : Lacks ≡ Ended). cc)

module _ {L P G : Type 0} (series : Series L P G) (n steps : ℕ) (w : World L P)
    (h : IsSeries series n steps w) where
  -- from nets side by side a step leads to nets side by side
  one_step : (worlds : ℕ → World L P) (stages : ℕ → ℕ) (p : ℕ) → IsStaged series n w worlds stages →
      IsEnabled (pipeline series n) (side_by_side series n worlds stages) p →
      IsSideBySide series n w (next (pipeline series n) (side_by_side series n worlds stages) p)
  one_step worlds stages p st e = at (compare (stages p) n)
    where
      f : ℕ
      f = stages p

      by : f < n → EndedOrNot (action_at (series.rules f) (worlds f) p) →
          IsSideBySide series n w (next (pipeline series n) (side_by_side series n worlds stages) p)
      by less (inl k) = record {
        worlds = worlds;
        stages = moved series n steps w h worlds stages st p f e.actor refl less;
        staged = kept_end series n steps w h worlds stages st p f e.actor refl less k;
        same = next_end series n steps w h worlds stages st p f e.actor refl less k;
      }
      by less (inr k) =
          let i = step_on series n steps w h worlds stages st p f e.actor refl less k e in
          record {
            worlds = put worlds f (next (series.rules f) (worlds f) p);
            stages = stages;
            staged = kept_on series n steps w h worlds stages st p f e.actor refl less i;
            same = next_on series n steps w h worlds stages st p f e.actor refl less i;
          }

      stops : n ≤ f → IsSideBySide series n w (next (pipeline series n) (side_by_side series n worlds stages) p)
      stops m =
          absurd (subst (IsPossible (pipeline series n) (side_by_side series n worlds stages) p)
          (ended_behind series n worlds stages p m) e.possible)

      at : (f < n) ⊎ ((f ≡ n) ⊎ (n < f)) →
          IsSideBySide series n w (next (pipeline series n) (side_by_side series n worlds stages) p)
      at (inl m) = by m (ended_or_not (action_at (series.rules f) (worlds f) p))
      at (inr (inl m)) = stops (omega arith)
      at (inr (inr m)) = stops (omega arith)

  -- and so does a run
  parts_from : (run : List ℕ) (worlds : ℕ → World L P) (stages : ℕ → ℕ) →
      IsStaged series n w worlds stages →
      IsRun (pipeline series n) (side_by_side series n worlds stages) run →
      IsSideBySide series n w (end_of (pipeline series n) (side_by_side series n worlds stages) run)
  parts_from [] worlds stages st r =
      record { worlds = worlds; stages = stages; staged = st; same = refl }
  parts_from (p ∷ run) worlds stages st r =
      let s = one_step worlds stages p st r.0 in
      subst (λ v. IsSideBySide series n w (end_of (pipeline series n) v run)) (sym s.same)
      (parts_from run s.worlds s.stages s.staged
      (subst (λ v. IsRun (pipeline series n) v run) s.same r.1))

  -- so each state that is reached is that of the nets side by side
  parts : (other : List ℕ) → IsRun (pipeline series n) (pipeline_start w) other →
      IsSideBySide series n w (end_of (pipeline series n) (pipeline_start w) other)
  parts other r =
      let e = start_same series n steps w h in
      subst (λ v. IsSideBySide series n w (end_of (pipeline series n) v other)) (sym e)
      (parts_from other (λ _. w) (λ _. 0) (start_staged series n steps w h)
      (subst (λ v. IsRun (pipeline series n) v other) e r))

  -- The complete run: all actors make their steps in one stage, and then all go on to the next.

  -- a state that is reached in so many steps
  record At (count : ℕ) (worlds : ℕ → World L P) (stages : ℕ → ℕ) : Type 0 where
    reached :
        Reaches (pipeline series n) (pipeline_start w) count (side_by_side series n worlds stages)
    staged : IsStaged series n w worlds stages

  -- all actors are at this stage
  abbrev AllAt : (ℕ → ℕ) → ℕ → Type 0
  AllAt stages m = (p : ℕ) → p < (series.rules 0).actors → stages p ≡ m

  -- nothing is on its way in another stage than theirs
  apart : (worlds : ℕ → World L P) (stages : ℕ → ℕ) (m p q k : ℕ) →
      IsStaged series n w worlds stages → AllAt stages m → p < (series.rules 0).actors →
      q < (series.rules 0).actors → k < n → k ≢ m → (worlds k).lists p q ≡ []
  apart worlds stages m p q k st all hp hq l o = at (compare k m)
    where
      at : (k < m) ⊎ ((k ≡ m) ⊎ (m < k)) → (worlds k).lists p q ≡ []
      at (inl i) =
          drained (series.rules k) w (worlds k) (h.runs k l).run p q (h.runs k l).complete
          (st.reached k l) (rw (h.actors k) hq) (rw (h.actors k) hp)
          (st.passed q k hq (rw (all q hq) i))
      at (inr (inl i)) = absurd (o i)
      at (inr (inr i)) = st.unsent p q k hp (rw (all p hp) i)

  -- the state after these steps of stage m
  record Along (count : ℕ) (worlds : ℕ → World L P) (stages : ℕ → ℕ) (m : ℕ) (run : List ℕ)
      : Type 0 where
    later : ℕ → World L P
    at : At (count + length run) later stages
    here : later m ≡ end_of (series.rules m) (worlds m) run
    others : (k : ℕ) → k ≢ m → later k ≡ worlds k

  along : (run : List ℕ) (count : ℕ) (worlds : ℕ → World L P) (stages : ℕ → ℕ) (m : ℕ) → m < n →
      AllAt stages m → At count worlds stages → IsRun (series.rules m) (worlds m) run →
      Along count worlds stages m run
  along [] count worlds stages m less all a r = record {
    later = worlds;
    at = subst (λ c. At c worlds stages) (sym (add-zero count)) a;
    here = refl;
    others = λ k o. refl;
  }
  along (p ∷ run) count worlds stages m less all a r =
      let b = along run (count + 1) worlds' stages m less all after r' in
      record {
        later = b.later;
        at = subst (λ c. At c b.later stages) (omega arith) b.at;
        here = b.here ∙ ap (λ v. end_of (series.rules m) v run) (put_same worlds m _);
        others = λ k o. b.others k o ∙ put_other worlds m _ k o;
      }
    where
      hp : p < (series.rules 0).actors
      hp = subst (λ c. p < c) (h.actors m) (r.0).actor

      worlds' : ℕ → World L P
      worlds' = put worlds m (next (series.rules m) (worlds m) p)

      same : (q : ℕ) → action_at (series.rules m) (worlds m) p ≡ Send q →
          joined n (λ k. (worlds k).lists p q) ≡ (worlds m).lists p q
      same q e =
          joined-one n (λ k. (worlds k).lists p q) m less
          (λ k l o. apart worlds stages m p q k a.staged all hp
          (h.sends m p q ((worlds m).locals p) e) l o)

      enabled : IsEnabled (pipeline series n) (side_by_side series n worlds stages) p
      enabled = on_enabled series n steps w h worlds stages a.staged p m hp (all p hp) less r.0 same

      after : At (count + 1) worlds' stages
      after = record {
        reached =
            subst (Reaches (pipeline series n) (pipeline_start w) (count + 1))
            (next_on series n steps w h worlds stages a.staged p m hp (all p hp) less r.0)
            (one_more (pipeline series n) (pipeline_start w) _ count p a.reached enabled);
        staged = kept_on series n steps w h worlds stages a.staged p m hp (all p hp) less r.0;
      }

      r' : IsRun (series.rules m) (worlds' m) run
      r' = subst (λ v. IsRun (series.rules m) v run) (sym (put_same worlds m _)) r.1

  -- the state where the first j actors have gone on from stage m
  record Moving (count : ℕ) (worlds : ℕ → World L P) (m j : ℕ) : Type 0 where
    stages : ℕ → ℕ
    at : At (count + j) worlds stages
    gone : (p : ℕ) → p < j → stages p ≡ suc m
    left : (p : ℕ) → j ≤ p → p < (series.rules 0).actors → stages p ≡ m

  moving : (j count : ℕ) (worlds : ℕ → World L P) (stages : ℕ → ℕ) (m : ℕ) → m < n →
      AllAt stages m → At count worlds stages →
      ((p : ℕ) → p < (series.rules 0).actors → action_at (series.rules m) (worlds m) p ≡ Ended) →
      j ≤ (series.rules 0).actors → Moving count worlds m j
  moving zero count worlds stages m less all a ended l = record {
    stages = stages;
    at = subst (λ c. At c worlds stages) (sym (add-zero count)) a;
    gone = λ p i. absurd (omega arith);
    left = λ p _ hp. all p hp;
  }
  moving (suc j) count worlds stages m less all a ended l =
      more (moving j count worlds stages m less all a ended (omega arith))
    where
      more : Moving count worlds m j → Moving count worlds m (suc j)
      more b = record {
        stages = after;
        at = subst (λ c. At c worlds after) (omega arith) at;
        gone = λ p i. gone p i (eqb_tells p j);
        left = λ p i hp.
            put_other b.stages j (suc m) p (λ (d : p ≡ j). omega arith) ∙ b.left p (omega arith) hp;
      }
        where
          after : ℕ → ℕ
          after = put b.stages j (suc m)

          hj : j < (series.rules 0).actors
          hj = omega arith

          here : b.stages j ≡ m
          here = b.left j (omega arith) hj

          at : At ((count + j) + 1) worlds after
          at = record {
            reached =
                subst (Reaches (pipeline series n) (pipeline_start w) ((count + j) + 1))
                (next_end series n steps w h worlds b.stages b.at.staged j m hj here less (ended j hj))
                (one_more (pipeline series n) (pipeline_start w) _ (count + j) j b.at.reached
                (end_enabled series n steps w h worlds b.stages b.at.staged j m hj here less (ended j hj)));
            staged =
                kept_end series n steps w h worlds b.stages b.at.staged j m hj here less (ended j hj);
          }

          gone : (p : ℕ) → p < suc j → EqualOrNot p j → after p ≡ suc m
          gone p i (inl d) = ap after d.1 ∙ put_same b.stages j (suc m)
          gone p i (inr d) =
              let o = d.1 in put_other b.stages j (suc m) p o ∙ b.gone p (omega arith)

  -- the state where the first m stages are done, and all others at their start
  record Level (m : ℕ) : Type 0 where
    worlds : ℕ → World L P
    stages : ℕ → ℕ
    at : At (m * (steps + (series.rules 0).actors)) worlds stages
    all : AllAt stages m
    fresh : (k : ℕ) → m ≤ k → worlds k ≡ w

  level : (m : ℕ) → m ≤ n → Level m
  level zero l = record {
    worlds = λ _. w;
    stages = λ _. 0;
    at = record {
      reached =
          subst (λ c.
          Reaches (pipeline series n) (pipeline_start w) c (side_by_side series n (λ _. w) (λ _. 0))) none
          (subst (Reaches (pipeline series n) (pipeline_start w) 0) (start_same series n steps w h)
          (at_start (pipeline series n) (pipeline_start w)));
      staged = start_staged series n steps w h;
    };
    all = λ p hp. refl;
    fresh = λ k i. refl;
  }
    where
      none : zero ≡ 0 * (steps + (series.rules 0).actors)
      none = omega arith
  level (suc m) l = more (level m (omega arith))
    where
      less : m < n
      less = omega arith

      s : StageRun (series.rules m) w steps
      s = h.runs m less

      count : ℕ
      count = m * (steps + (series.rules 0).actors)

      more : Level m → Level (suc m)
      more v = record {
        worlds = a.later;
        stages = b.stages;
        at = subst (λ c. At c a.later b.stages) sum b.at;
        all = λ p hp. b.gone p hp;
        fresh = λ k i. a.others k (λ (d : k ≡ m). omega arith) ∙ v.fresh k (omega arith);
      }
        where
          begun : v.worlds m ≡ w
          begun = v.fresh m (omega arith)

          a : Along count v.worlds v.stages m s.run
          a =
              along s.run count v.worlds v.stages m less v.all v.at
              (subst (λ z. IsRun (series.rules m) z s.run) (sym begun) s.complete.is_run)

          ends : a.later m ≡ end_of (series.rules m) w s.run
          ends = a.here ∙ ap (λ z. end_of (series.rules m) z s.run) begun

          b : Moving (count + length s.run) a.later m (series.rules 0).actors
          b =
              moving (series.rules 0).actors (count + length s.run) a.later v.stages m less v.all a.at
              (λ p hp. ap (λ z. action_at (series.rules m) z p) ends
              ∙ s.complete.complete.ended p (rw (h.actors m) hp))
              (omega arith)

          sum : (count + length s.run) + (series.rules 0).actors
              ≡ suc m * (steps + (series.rules 0).actors)
          sum = let c : length s.run ≡ steps = s.count in omega arith

  -- the pipeline goes through all stages
  pub goes_through : GoesThrough series n steps w
  goes_through = record {
    run = v.at.reached.run;
    complete = record {
      is_run = v.at.reached.is_run;
      complete = subst (IsComplete (pipeline series n)) (sym v.at.reached.ends) complete;
    };
    count = v.at.reached.steps;
    parts = parts;
  }
    where
      v : Level n
      v = level n (omega arith)

      complete : IsComplete (pipeline series n) (side_by_side series n v.worlds v.stages)
      complete = record {
        ended = λ p hp.
            ended_behind series n v.worlds v.stages p
            (let e : v.stages p ≡ n = v.all p hp in omega arith);
        empty = λ p q hp hq.
            joined-none n (λ k. (v.worlds k).lists p q)
            (λ k l. apart v.worlds v.stages n p q k v.at.staged v.all hp hq l
            (λ (d : k ≡ n). omega arith));
      }
