-- The passages of a complete run tell the calm capacities.
use Rattle.std.proofs.Common.{◌≡◌, ℕ, ◌<◌, List, [], ◌∷◌, ◌++◌, refl, sym, ◌∙◌, ap, subst}
use Rattle.std.proofs.lemmas.List.{append-nil, append_assoc}
use Rattle.pyr_num.specs.declared.ids.DatumId.{DatumId}
use Rattle.pyr_net.specs.Net.{Rules, World, IsEnabled, action_at, next}
use Rattle.pyr_net.specs.Run.{IsRun, HasNoStep, end_of}
use Rattle.pyr_net.specs.declared.action.Action.{Action}
use Rattle.pyr_net.specs.declared.action.Action.TheVariants.{Internal, Send as SendTo, Take, Ended, Lacks}
use Rattle.pyr_net.proofs.Exchange.{goes_on, agree, ended_stops}
use Rattle.pyr_net.proofs.Reach.{IsRun-append, end_of-append}
use Rattle.pyr_bundle.specs.declared.instr.Instr.TheVariants.{Recv, Send}
use Rattle.pyr_bundle.specs.Parts.{Parts, processor_count}
use Rattle.pyr_bundle.specs.WellFormed.{IsWellFormed}
use Rattle.pyr_machine.specs.Machine.{LocalState, machine, tags, tag_rules, start, instr_at, capacity_in}
use Rattle.pyr_machine.specs.Good.{IsGood, IsDone}
use Rattle.pyr_machine.proofs.Demand.{send_instr, take_instr}
use Rattle.pyr_calm.specs.declared.passage.Passage.{Passage}
use Rattle.pyr_calm.specs.Calm.{IsGreatestLength, with_capacities}
use Rattle.pyr_calm.specs.Capacities.{roomy}
use Rattle.pyr_calm.specs.Course.{AreAmong, IsCourse}
use Rattle.pyr_calm.specs.Passages.{passage_by, passages_in, watched_all, fresh_watch}
use Rattle.pyr_calm.specs.Viewers.{viewed_all, fresh_view}
use Rattle.pyr_calm.proofs.Rooms.{next-with}
use Rattle.pyr_calm.proofs.Passing.{tell}
use Rattle.pyr_calm.proofs.Roomy.{HasRooms, good_rooms, roomy_never_waits, with_lines, into, same_end, done_stops}
use Rattle.pyr_calm.proofs.Showing.{shown_most}

-- the passages of a run with one step more
passages-append : {L P : Type 0} (net : Rules L P) (w : World L P) (run : List ℕ) (p : ℕ) →
    passages_in net w (run ++ p ∷ [])
    ≡ passages_in net w run ++ passage_by p (action_at net (end_of net w run) p)
passages-append net w [] p = append-nil (passage_by p (action_at net w p))
passages-append net w (r ∷ run) p =
    ap (λ xs. passage_by r (action_at net w r) ++ xs) (passages-append net (next net w r) run p)
    ∙ sym (append_assoc (passage_by r (action_at net w r)) (passages_in net (next net w r) run) _)

-- a run from the start to this state, and its passages
pub record IsOnCourse (b : Parts) (xs : List Passage) (w : World (LocalState DatumId) DatumId)
    : Type 0 where
  pub run : List ℕ
  pub is_run : IsRun (tag_rules b) start run
  pub ends : end_of (tag_rules b) start run ≡ w
  pub passages : xs ≡ passages_in (tag_rules b) start run

pub on_course_first : (b : Parts) (xs : List Passage) (w : World (LocalState DatumId) DatumId) →
    xs ≡ [] → w ≡ start → IsOnCourse b xs w
on_course_first b xs w e f = record { run = []; is_run = tt; ends = sym f; passages = e }

pub on_course_more : (b : Parts) (xs ys : List Passage) (w v : World (LocalState DatumId) DatumId)
    (p : ℕ) (a : Action) → IsOnCourse b xs w → IsEnabled (tag_rules b) w p →
    a ≡ action_at (tag_rules b) w p → ys ≡ xs ++ passage_by p a → v ≡ next (tag_rules b) w p →
    IsOnCourse b ys v
on_course_more b xs ys w v p a h e f g s = record {
  run = h.run ++ p ∷ [];
  is_run =
      IsRun-append (tag_rules b) start h.run p h.is_run
      (subst (λ u. IsEnabled (tag_rules b) u p) (sym h.ends) e);
  ends =
      end_of-append (tag_rules b) start h.run p
      ∙ ap (λ u. next (tag_rules b) u p) h.ends ∙ sym s;
  passages =
      g ∙ ap (λ zs. zs ++ passage_by p a) h.passages
      ∙ ap (λ c. passages_in (tag_rules b) start h.run ++ passage_by p c)
      (f ∙ ap (λ u. action_at (tag_rules b) u p) (sym h.ends))
      ∙ sym (passages-append (tag_rules b) start h.run p);
}

pub on_course_last : (b : Parts) (xs : List Passage) (w : World (LocalState DatumId) DatumId) →
    IsOnCourse b xs w → HasNoStep (tag_rules b) w → IsCourse b xs
on_course_last b xs w h dead = record {
  run = h.run;
  is_run = h.is_run;
  stopped = subst (HasNoStep (tag_rules b)) (sym h.ends) dead;
  passages = h.passages;
}

-- Both ends of each passage are processors of the bundle.

among-append : (n : ℕ) (xs ys : List Passage) → AreAmong n xs → AreAmong n ys → AreAmong n (xs ++ ys)
among-append n [] ys h k = k
among-append n (x ∷ xs) ys h k = (h.0, among-append n xs ys h.1 k)

module _ (b : Parts) (well : IsWellFormed b) where
  among_by : (w : World (LocalState DatumId) DatumId) (r : ℕ) (a : Action) → r < processor_count b →
      action_at (tag_rules b) w r ≡ a → AreAmong (processor_count b) (passage_by r a)
  among_by w r Internal l e = tt
  among_by w r (SendTo to) l e =
      let i = send_instr (tags b) b (instr_at b r (w.locals r)) (w.locals r) to e in (
        (
          l,
          subst (λ n. n < processor_count b) i.3
              (well.instrs r (w.locals r).place (Send i.0 i.1) i.2).0.0,
        ),
        tt,
      )
  among_by w r (Take from) l e =
      let i = take_instr (tags b) b (instr_at b r (w.locals r)) (w.locals r) from e in (
        (
          subst (λ n. n < processor_count b) i.3
              (well.instrs r (w.locals r).place (Recv i.0 i.1) i.2).0.0,
          l,
        ),
        tt,
      )
  among_by w r Ended l e = tt
  among_by w r Lacks l e = tt

  among_run : (w : World (LocalState DatumId) DatumId) (run : List ℕ) → IsRun (tag_rules b) w run →
      AreAmong (processor_count b) (passages_in (tag_rules b) w run)
  among_run w [] r = tt
  among_run w (x ∷ run) r =
      among-append (processor_count b) (passage_by x (action_at (tag_rules b) w x))
      (passages_in (tag_rules b) (next (tag_rules b) w x) run)
      (among_by w x (action_at (tag_rules b) w x) r.0.actor refl)
      (among_run (next (tag_rules b) w x) run r.1)

  pub course_among : (xs : List Passage) → IsCourse b xs → AreAmong (processor_count b) xs
  course_among xs c =
      subst (AreAmong (processor_count b)) (sym c.passages) (among_run start c.run c.is_run)

-- other capacities change no passages
passages-with : {L P : Type 0} (net : Rules L P) (room : ℕ → ℕ → ℕ) (w : World L P) (run : List ℕ) →
    passages_in (with_capacities net room) w run ≡ passages_in net w run
passages-with net room w [] = refl
passages-with net room w (r ∷ run) =
    ap (λ xs. passage_by r (action_at net w r) ++ xs)
    (ap (λ v. passages_in (with_capacities net room) v run) (next-with net room w r)
    ∙ passages-with net room (next net w r) run)

-- one pass over the passages for each receiver tells the greatest lengths
pub course_tells : (b : Parts) (n : ℕ) (xs : List Passage) (p q : ℕ) → IsGood b n → IsCourse b xs →
    IsGreatestLength (machine (tags b) (roomy b)) start p q ((viewed_all q xs fresh_view).most p)
course_tells b n xs p q good c =
    subst (IsGreatestLength room_net start p q) most
    (tell room_net p q start c.run (λ x y. refl) (roomy_never_waits (tags b) b rooms) is_run dead)
  where
    room_net : Rules (LocalState DatumId) DatumId
    room_net = machine (tags b) (roomy b)

    rooms : HasRooms b
    rooms = good_rooms (tags b) b n good

    is_run : IsRun room_net start c.run
    is_run = into (tags b) b rooms b.channels c.run c.is_run

    no_step : HasNoStep (tag_rules b) (end_of (tag_rules b) start good.run)
    no_step =
        ended_stops (tag_rules b) (end_of (tag_rules b) start good.run) good.done.complete.ended

    same : end_of (tag_rules b) start c.run ≡ end_of (tag_rules b) start good.run
    same =
        agree (tag_rules b) start good.run c.run good.is_run no_step c.is_run
        (goes_on (tag_rules b) start c.run good.run c.is_run c.stopped good.is_run).bounded

    dead : HasNoStep room_net (end_of room_net start c.run)
    dead =
        subst (HasNoStep room_net) (same_end (tags b) b rooms b.channels c.run)
        (done_stops (tags b) b (end_of (tag_rules b) start c.run)
        (subst (IsDone (tags b) b) (sym same) good.done))

    passages : passages_in room_net start c.run ≡ xs
    passages =
        sym (passages-with room_net (capacity_in b.channels) start c.run)
        ∙ ap (λ net. passages_in net start c.run) (sym (with_lines (tags b) b rooms b.channels))
        ∙ sym c.passages

    most : (watched_all p q (passages_in room_net start c.run) fresh_watch).most
        ≡ (viewed_all q xs fresh_view).most p
    most =
        ap (λ ys. (watched_all p q ys fresh_watch).most) passages ∙ sym (shown_most p q xs)
