-- The processors of a bundle before and after their run.
use Rattle.std.proofs.Common.{◌≡◌, ℕ, ◌<◌, List, [], ◌∷◌, ◌++◌, length, get_or, Some, slice_get, All, sym, ap, subst, ◌∙◌, arith}
use Rattle.std.proofs.lemmas.List.Elements.{All-nil, All-from_get_or, length_all_zip, AllZip-get_or}
use Rattle.std.proofs.lemmas.Option.{slice_get_within, slice_get-get_or, get_or_from_slice_get}
use Rattle.pyr_bundle.specs.Parts.{Parts}
use Rattle.pyr_proc.specs.Seated.{Seated, IsOf, AreFresh, HasRun}
use Rattle.pyr_team.specs.Team.{HasRunAs, HaveRun}
use Rattle.pyr_team.specs.Workers.{IsReady, AllRan}

-- fresh processors are ready
pub are_ready : (b : Parts) (ss : List Seated) → AreFresh b 1 ss → All (IsReady b) ss
are_ready b [] fresh = All-nil (IsReady b)
are_ready b (x ∷ ss) fresh =
    All-from_get_or (IsReady b) (x ∷ ss) x (λ i l.
    let f = fresh.each i (get_or (x ∷ ss) i x) (slice_get-get_or (x ∷ ss) i x l) in
    let frames = f.frames in
    record { bundle = f.bundle; ran = f.ran; frames = omega arith })

-- fresh processors that have all run are a team that has run
pub have_run : (b : Parts) (ss ts : List Seated) → AreFresh b 1 ss → AllRan ss ts → HaveRun b ts
have_run b ss ts fresh all = record { count = sym (length_all_zip (HasRun 0) ss ts all) ∙ fresh.count; each = each }
  where
    each : (p : ℕ) (t : Seated) → slice_get ts p ≡ Some t → HasRunAs b p t
    each p t at =
        let l = slice_get_within ts p t at in
        let n = length_all_zip (HasRun 0) ss ts all in
        let m : p < length ss = omega arith in
        let s = get_or ss p t in
        record {
          start = s;
          fresh = fresh.each p s (slice_get-get_or ss p t m);
          ran = subst (HasRun 0 s) (get_or_from_slice_get ts p t t at) (AllZip-get_or (HasRun 0) ss ts p t t all m);
        }

-- they are still of their bundle
pub all_of : (b : Parts) (ts : List Seated) → HaveRun b ts → All (IsOf b) ts
all_of b [] ran = All-nil (IsOf b)
all_of b (x ∷ ts) ran =
    All-from_get_or (IsOf b) (x ∷ ts) x (λ i l.
    let r = ran.each i (get_or (x ∷ ts) i x) (slice_get-get_or (x ∷ ts) i x l) in
    r.ran.bundle ∙ r.fresh.bundle)

-- the first processor, which has run
pub one_ran : (done new : List Seated) (s t : Seated) → done ≡ [] → new ≡ done ++ t ∷ [] → HasRun 0 s t → AllRan (s ∷ []) new
one_ran done new s t none grown ran = subst (AllRan (s ∷ [])) (sym (grown ∙ ap (λ l. l ++ t ∷ []) none)) (ran, tt)

-- the same, where they were taken apart
pub team_ran : (b : Parts) (ss : List Seated) (first : Seated) (others ts : List Seated) → AreFresh b 1 ss → first ∷ others ≡ ss → AllRan (first ∷ others) ts → HaveRun b ts
team_ran b ss first others ts fresh e all = have_run b ss ts fresh (subst (λ (v : List Seated). AllRan v ts) e all)
