-- What processors send.
use Rattle.std.proofs.Common.{◌≡◌, ℕ, zero, suc, ◌<◌, ◌==◌, Bool, true, false, cond, List, [], ◌∷◌, Some, slice_get, refl, ◌∙◌, ap, subst}
use Rattle.pyr_num.specs.declared.ids.DatumId.{DatumId}
use Rattle.pyr_num.specs.declared.ids.ProcId.{ProcId}
use Rattle.pyr_num.specs.declared.parcel.Parcel.{Parcel}
use Rattle.pyr_bundle.specs.Parts.{Parts, IsBundle, datum_id, datum_count, code_at, length_of}
use Rattle.pyr_bundle.specs.Values.{IsOrderOf, tasks_of}
use Rattle.pyr_bundle.specs.declared.instr.Instr.{Instr}
use Rattle.pyr_bundle.specs.declared.instr.Instr.TheVariants.{Recv, Exec, Send}
use Rattle.pyr_bundle.proofs.WellFormedLemmas.{well_formed}
use Rattle.pyr_bundle.proofs.ValueLemmas.{has_one_writer, makes_lengths}
use Rattle.pyr_seq.proofs.SequentialLemmas.{values-lengths}
use Rattle.pyr_machine.specs.Parcels.{parcel_of}
use Rattle.pyr_machine.specs.Local.{sent_data, valued_all, traffic}
use Rattle.pyr_proc.specs.Feed.{settled_parcel}
use Rattle.pyr_proc.specs.Fitted.{IsWhole, AllWhole}
use Rattle.pyr_proc.specs.Laws.{RoundsSettle, FeedsAreTraffic}
use Rattle.pyr_proc.proofs.RoundsLemmas.{HasWriters, rounds_settle}

-- the code's sends are of data below n
record SendsBelow (n : ℕ) (code : List Instr) : Type 0 where
  below : (i : ℕ) (to : ProcId) (d : DatumId) → slice_get code i ≡ Some (Send to d) → d.0 < n

later_below : (n : ℕ) (instr : Instr) (code : List Instr) → SendsBelow n (instr ∷ code) → SendsBelow n code
later_below n instr code h = record { below = λ i to d at. h.below (suc i) to d at }

-- of such code, the parcels of two functions are the same where the functions are
valued_same : (v w : ℕ → Parcel) (n q : ℕ) (code : List Instr) → SendsBelow n code → ((d : ℕ) → d < n → v d ≡ w d) → valued_all v (sent_data q code) ≡ valued_all w (sent_data q code)
valued_same v w n q [] h same = refl
valued_same v w n q (Recv from d ∷ code) h same = valued_same v w n q code (later_below n (Recv from d) code h) same
valued_same v w n q (Exec t ∷ code) h same = valued_same v w n q code (later_below n (Exec t) code h) same
valued_same v w n q (Send to d ∷ code) h same = at (to.0 == q) (valued_same v w n q code (later_below n (Send to d) code h) same)
  where
    at : (c : Bool) → valued_all v (sent_data q code) ≡ valued_all w (sent_data q code) → valued_all v (cond c (d ∷ sent_data q code) (sent_data q code)) ≡ valued_all w (cond c (d ∷ sent_data q code) (sent_data q code))
    at true ih = ap (λ x. x ∷ valued_all v (sent_data q code)) (same d.0 (h.below zero to d refl)) ∙ ap (λ xs. w d.0 ∷ xs) ih
    at false ih = ih

-- and they are whole where those of the function are
valued_whole : (b : Parts) (v : ℕ → Parcel) (n q : ℕ) (code : List Instr) → SendsBelow n code → ((d : ℕ) → d < n → IsWhole b (v d)) → AllWhole b (valued_all v (sent_data q code))
valued_whole b v n q [] h whole = tt
valued_whole b v n q (Recv from d ∷ code) h whole = valued_whole b v n q code (later_below n (Recv from d) code h) whole
valued_whole b v n q (Exec t ∷ code) h whole = valued_whole b v n q code (later_below n (Exec t) code h) whole
valued_whole b v n q (Send to d ∷ code) h whole = at (to.0 == q) (valued_whole b v n q code (later_below n (Send to d) code h) whole)
  where
    at : (c : Bool) → AllWhole b (valued_all v (sent_data q code)) → AllWhole b (valued_all v (cond c (d ∷ sent_data q code) (sent_data q code)))
    at true ih = (whole d.0 (h.below zero to d refl), ih)
    at false ih = ih

sends_below : (b : Parts) (p : ℕ) → IsBundle b → SendsBelow (datum_count b) (code_at b p)
sends_below b p is = record { below = λ i to d at. ((well_formed b is).instrs p i (Send to d) at).1 }

has_writers : (b : Parts) (frame : ℕ) → IsBundle b → HasWriters (tasks_of b frame)
has_writers b frame is = record {
  writer = λ t d l c.
      let known : d < datum_count b = subst (λ e. e < datum_count b) c.2 ((well_formed b is).reads t l c.0 d c.1) in
      (well_formed b is).some_writer d known;
}

pub settle : RoundsSettle
settle b frame order d is top l =
    let w = (well_formed b is).some_writer d l in
    rounds_settle (tasks_of b frame) order (has_one_writer b frame is) top (has_writers b frame is) w.0 d w.1 w.2

pub feeds_are : FeedsAreTraffic
feeds_are b frame order p q is top =
    valued_same (settled_parcel b frame) (parcel_of b frame order) (datum_count b) q (code_at b p) (sends_below b p is) (λ d l i. record { tag = datum_id d; words = settle b frame order d is top l i })

-- all traffic is of whole parcels
pub traffic_whole : (b : Parts) (frame : ℕ) (order : List ℕ) (p q : ℕ) → IsBundle b → IsOrderOf b frame order → AllWhole b (traffic b (parcel_of b frame order) p q)
traffic_whole b frame order p q is top =
    valued_whole b (parcel_of b frame order) (datum_count b) q (code_at b p) (sends_below b p is)
    (λ d l. let w = (well_formed b is).some_writer d l in
    (values-lengths (tasks_of b frame) (length_of b) order (has_one_writer b frame is) top (makes_lengths b frame) w.0 d w.1 w.2).1)
