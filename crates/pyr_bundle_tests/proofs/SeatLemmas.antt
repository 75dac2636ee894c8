-- Processors that can run.
use Rattle.std.proofs.Common.{◌≡◌, ℕ, List, ◌∷◌, Some, slice_get, ap, sym, ◌∙◌, arith}
use Rattle.pyr_bundle.specs.Parts.{Parts}
use Rattle.pyr_proc.specs.Seated.{Seated, AreFresh}
use Rattle.pyr_bundle_tests.specs.Seats.{CanRun}

can_run : (b : Parts) (ps : List Seated) (i : ℕ) (s t : Seated) → AreFresh b 1 ps → slice_get ps i ≡ Some s → t ≡ s → CanRun b t
can_run b ps i s t h at e =
    let f = h.each i s at in
    let n = f.frames in
    let m : t.frames ≡ s.frames = ap (λ (x : Seated). x.frames) e in
    record { bundle = ap (λ (x : Seated). x.bundle) e ∙ f.bundle; ran = ap (λ (x : Seated). x.ran) e ∙ f.ran; left = omega arith }

-- the first two of these can run
pub two_can : (b : Parts) (ps all xs ys : List Seated) (s t u v : Seated) → AreFresh b 1 ps → all ≡ ps → all ≡ s ∷ xs → xs ≡ t ∷ ys → u ≡ s → v ≡ t → CanRun b u × CanRun b v
two_can b ps all xs ys s t u v h a e f i j =
    let first : slice_get all 0 ≡ Some s = ap (λ (l : List Seated). slice_get l 0) e in
    let second : slice_get all 1 ≡ Some t = ap (λ (l : List Seated). slice_get l 1) e ∙ ap (λ (l : List Seated). slice_get l 0) f in (
      can_run b ps 0 s u h (ap (λ (l : List Seated). slice_get l 0) (sym a) ∙ first) i,
      can_run b ps 1 t v h (ap (λ (l : List Seated). slice_get l 1) (sym a) ∙ second) j,
    )
