-- The instructions of a plan one after another, each with its processor: where each finds what it
-- needs in those before it, their processors are a schedule.
use Rattle.std.proofs.Common.{◌≡◌, ◌≢◌, ℕ, ◌+◌, ◌<◌, ◌==◌, ◌&&◌, Bool, true, false, cond, if◌then◌else◌, List, [], ◌∷◌, ◌++◌, append_assoc, append-nil, length, length-append, map, take, Some, slice_get, ◌⊎◌, inl, inr, refl, sym, ◌∙◌, ap, subst, arith}
use Rattle.std.proofs.lemmas.Bool.{eq-eqb, ne_eqb}
use Rattle.std.proofs.lemmas.Bool.Decides.{eqb_tells}
use Rattle.pyr_num.specs.declared.ids.DatumId.{DatumId}
use Rattle.pyr_net.proofs.Update.{put_same, put_other}
use Rattle.pyr_bundle.specs.Parts.{Parts, processor_count, code_at, task_at}
use Rattle.pyr_bundle.specs.declared.instr.Instr.{Instr}
use Rattle.pyr_bundle.specs.declared.instr.Instr.TheVariants.{Recv, Exec, Send}
use Rattle.pyr_machine.specs.Schedule.{tally, passed, further, IsReady, IsSchedule, places_after, is_receive, is_send, gives}

-- an instruction, and the processor in whose code it stands
pub record Event : Type 0 where
  pub processor : ℕ
  pub instr : Instr

-- the instructions of a processor
abbrev pub project : ℕ → List Event → List Instr
project p [] = []
project p (e ∷ events) = if e.processor == p then e.instr ∷ project p events else project p events

-- how many events of p have such an instruction
abbrev pub seen : ℕ → (Instr → Bool) → List Event → ℕ
seen p f events = tally (λ (e : Event). (e.processor == p) && f e.instr) events

-- the instruction finds what it needs in the events before it
abbrev pub IsReadyAfter : Parts → List Event → ℕ → Instr → Type 0
IsReadyAfter b front p (Recv q d) = (q.0 < processor_count b) × (0 < seen q.0 (is_send p d.0) front) × (seen p (is_receive d.0) front ≡ 0)
IsReadyAfter b front p (Exec t) = (d : DatumId) → 0 < tally (λ (e : DatumId). e.0 == d.0) (task_at b t.0).reads → 0 < seen p (gives b d.0) front
IsReadyAfter b front p (Send q d) = 0 < seen p (gives b d.0) front

-- each event does
abbrev pub AreReady : Parts → List Event → List Event → Type 0
AreReady b front [] = Unit {0}
AreReady b front (e ∷ rest) = (e.processor < processor_count b) × IsReadyAfter b front e.processor e.instr × AreReady b (front ++ e ∷ []) rest

pub tally_append : {X : Type 0} (f : X → Bool) (xs ys : List X) → tally f (xs ++ ys) ≡ tally f xs + tally f ys
tally_append f [] ys = omega arith
tally_append f (x ∷ xs) ys = let i = tally_append f xs ys in omega (arith, i)

pub project_append : (p : ℕ) (xs ys : List Event) → project p (xs ++ ys) ≡ project p xs ++ project p ys
project_append p [] ys = refl
project_append p (e ∷ xs) ys = at (e.processor == p) (project_append p xs ys)
  where
    at : (c : Bool) → project p (xs ++ ys) ≡ project p xs ++ project p ys → cond c (e.instr ∷ project p (xs ++ ys)) (project p (xs ++ ys)) ≡ cond c (e.instr ∷ project p xs) (project p xs) ++ project p ys
    at true h = ap (λ l. e.instr ∷ l) h
    at false h = h

pub tally_project : (p : ℕ) (f : Instr → Bool) (xs : List Event) → tally f (project p xs) ≡ seen p f xs
tally_project p f [] = refl
tally_project p f (e ∷ xs) = at (e.processor == p) (tally_project p f xs)
  where
    at : (c : Bool) → tally f (project p xs) ≡ seen p f xs → tally f (cond c (e.instr ∷ project p xs) (project p xs)) ≡ cond (c && f e.instr) 1 0 + seen p f xs
    at true h = ap (λ n. cond (f e.instr) 1 0 + n) h
    at false h = omega (arith, h)

take_front : (xs ys : List Instr) → take (length xs) (xs ++ ys) ≡ xs
take_front [] [] = refl
take_front [] (y ∷ ys) = refl
take_front (x ∷ xs) ys = ap (λ l. x ∷ l) (take_front xs ys)

get_next : (xs ys : List Instr) (x : Instr) → slice_get (xs ++ x ∷ ys) (length xs) ≡ Some x
get_next [] ys x = refl
get_next (y ∷ xs) ys x = get_next xs ys x

-- events one after another are ready where each part is
pub ready_append : (b : Parts) (front xs ys : List Event) → AreReady b front xs → AreReady b (front ++ xs) ys → AreReady b front (xs ++ ys)
ready_append b front [] ys a c = subst (λ l. AreReady b l ys) (append-nil front) c
ready_append b front (x ∷ xs) ys a c = (a.0, a.1, ready_append b (front ++ x ∷ []) xs ys a.2 (subst (λ l. AreReady b l ys) (sym (append_assoc front (x ∷ []) xs)) c))

module _ (b : Parts) where
  passed_seen : (f : Instr → Bool) (front rest : List Event) (places : ℕ → ℕ) (p : ℕ) → code_at b p ≡ project p (front ++ rest) → places p ≡ length (project p front) → passed f b places p ≡ seen p f front
  passed_seen f front rest places p e g =
      ap (λ n. tally f (take n (code_at b p))) g ∙ ap (λ l. tally f (take (length (project p front)) l)) (e ∙ project_append p front rest)
      ∙ ap (tally f) (take_front (project p front) (project p rest)) ∙ tally_project p f front

  ready_at : (front rest : List Event) (places : ℕ → ℕ) (p : ℕ) (x : Instr) → ((q : ℕ) → code_at b q ≡ project q (front ++ rest)) → ((q : ℕ) → places q ≡ length (project q front)) → IsReadyAfter b front p x → IsReady b places p (Some x)
  ready_at front rest places p (Recv q d) e g r = (r.0, subst (λ n. 0 < n) (sym (passed_seen (is_send p d.0) front rest places q.0 (e q.0) (g q.0))) r.1, passed_seen (is_receive d.0) front rest places p (e p) (g p) ∙ r.2)
  ready_at front rest places p (Exec t) e g r = λ d l. subst (λ n. 0 < n) (sym (passed_seen (gives b d.0) front rest places p (e p) (g p))) (r d l)
  ready_at front rest places p (Send q d) e g r = subst (λ n. 0 < n) (sym (passed_seen (gives b d.0) front rest places p (e p) (g p))) r

  next_here : (front rest : List Event) (x : Event) (places : ℕ → ℕ) → code_at b x.processor ≡ project x.processor (front ++ x ∷ rest) → places x.processor ≡ length (project x.processor front) → slice_get (code_at b x.processor) (places x.processor) ≡ Some x.instr
  next_here front rest x places e g =
      ap (slice_get (code_at b x.processor)) g ∙ ap (λ l. slice_get l (length (project x.processor front))) (e ∙ project_append x.processor front (x ∷ rest))
      ∙ ap (λ c. slice_get (project x.processor front ++ cond c (x.instr ∷ project x.processor rest) (project x.processor rest)) (length (project x.processor front))) (eq-eqb x.processor x.processor refl)
      ∙ get_next (project x.processor front) (project x.processor rest) x.instr

  further_here : (front : List Event) (x : Event) (places : ℕ → ℕ) → ((q : ℕ) → places q ≡ length (project q front)) → (q : ℕ) → further places x.processor q ≡ length (project q (front ++ x ∷ []))
  further_here front x places g q = at (eqb_tells q x.processor)
    where
      at : (((q == x.processor) ≡ true) × (q ≡ x.processor)) ⊎ (((q == x.processor) ≡ false) × (q ≢ x.processor)) → further places x.processor q ≡ length (project q (front ++ x ∷ []))
      at (inl i) = subst (λ r. further places x.processor r ≡ length (project r (front ++ x ∷ []))) (sym i.1)
          (put_same places x.processor (places x.processor + 1) ∙ ap (λ n. n + 1) (g x.processor) ∙ sym (length-append (project x.processor front) (x.instr ∷ []))
          ∙ ap (λ c. length (project x.processor front ++ cond c (x.instr ∷ []) [])) (sym (eq-eqb x.processor x.processor refl)) ∙ ap length (sym (project_append x.processor front (x ∷ []))))
      at (inr i) = put_other places x.processor (places x.processor + 1) q i.1 ∙ g q ∙ ap length (sym (append-nil (project q front)))
          ∙ ap (λ c. length (project q front ++ cond c (x.instr ∷ []) [])) (sym (ne_eqb x.processor q (λ f. i.1 (sym f)))) ∙ ap length (sym (project_append q front (x ∷ [])))

  pub scheduled : (front rest : List Event) (places : ℕ → ℕ) → ((q : ℕ) → code_at b q ≡ project q (front ++ rest)) → ((q : ℕ) → places q ≡ length (project q front)) → AreReady b front rest →
      IsSchedule b places (map (λ (e : Event). e.processor) rest)
  scheduled front [] places e g r = tt
  scheduled front (x ∷ rest) places e g r = (
    r.0,
    subst (IsReady b places x.processor) (sym (next_here front rest x places (e x.processor) (g x.processor))) (ready_at front (x ∷ rest) places x.processor x.instr e g r.1),
    scheduled (front ++ x ∷ []) rest (further places x.processor) (λ q. e q ∙ ap (project q) (sym (append_assoc front (x ∷ []) rest))) (further_here front x places g) r.2,
  )

  pub all_used : (front rest : List Event) (places : ℕ → ℕ) → ((q : ℕ) → places q ≡ length (project q front)) → (q : ℕ) → places_after places (map (λ (e : Event). e.processor) rest) q ≡ length (project q (front ++ rest))
  all_used front [] places g q = g q ∙ ap (λ l. length (project q l)) (sym (append-nil front))
  all_used front (x ∷ rest) places g q = all_used (front ++ x ∷ []) rest (further places x.processor) (further_here front x places g) q ∙ ap (λ l. length (project q l)) (append_assoc front (x ∷ []) rest)
