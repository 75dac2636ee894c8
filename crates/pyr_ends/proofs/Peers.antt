-- One end of a list changes.
use Rattle.std.proofs.Common.{◌≡◌, ℕ, ◌<◌, List, length, map, set, get_or, Option, Some, None, refl, sym, ap, ◌∙◌, ◌≤◌, arith, ⊎_elim, subst, slice_get, ◌≢◌, ◌⊎◌, inl, inr}
use Rattle.std.proofs.lemmas.Bool.{cases_lt}
use Rattle.pyr_num.specs.declared.parcel.Parcel.{Parcel}
use Rattle.std.proofs.Math.ListN.{get_or-map}
use Rattle.std.proofs.lemmas.List.{map-set, length-map, get_or_past}
use Rattle.std.proofs.lemmas.Option.{slice_get_read, slice_get_within, get_or_from_slice_get}
use Rattle.pyr_wire.specs.End.{End, passed_on}
use Rattle.pyr_ends.specs.Ends.{idle, end_or_idle, end_for}

pub end_there : (ends : List (Option End)) (now : List End) (peer : ℕ) (e : End) → map end_or_idle ends ≡ now → peer < length ends → Some e ≡ get_or ends peer (Some e) → end_for now peer ≡ e
end_there ends now peer e is inside at =
    ap (λ l. get_or l peer idle) (sym is) ∙ get_or-map end_or_idle ends peer None ∙ ap end_or_idle (get_or_from_slice_get ends peer (Some e) None (slice_get_read ends (length ends) peer (Some e) refl inside at))

pub passed_on_at : (ends : List (Option End)) (now : List End) (peer : ℕ) (e f : End) → map end_or_idle ends ≡ now → peer < length ends → (o : Option End) → o ≡ Some e → o ≡ get_or ends peer o → f ≡ passed_on e
    → map end_or_idle (set ends peer (Some f)) ≡ set now peer (passed_on (end_for now peer))
passed_on_at ends now peer e f is inside o some read next =
    let at : Some e ≡ get_or ends peer (Some e) = sym some ∙ read ∙ ap (get_or ends peer) some in
    map-set end_or_idle ends peer (Some f) ∙ ap (λ l. set l peer f) is ∙ ap (set now peer) (next ∙ ap passed_on (sym (end_there ends now peer e is inside at)))

-- a peer whose end has a parcel left is one of the list
pub busy_inside : (ends : List (Option End)) (now : List End) (peer : ℕ) → map end_or_idle ends ≡ now → (end_for now peer).count < length (end_for now peer).whole → peer < length ends
busy_inside ends now peer is busy =
    ⊎_elim (λ (inside : peer < length ends). inside)
    (λ (past : length ends ≤ peer).
    let past' : length now ≤ peer = omega (arith, ap length is, length-map ends end_or_idle) in
    let e : end_for now peer ≡ idle = get_or_past now peer idle past' in
    let no : 0 < 0 = subst (λ (f : End). f.count < length f.whole) e busy in absurd (omega arith))
    (cases_lt peer (length ends))

pub next_inside : (ends : List (Option End)) (now : List End) (peer : ℕ) (x : Parcel) → map end_or_idle ends ≡ now → slice_get (end_for now peer).whole (end_for now peer).count ≡ Some x → peer < length ends
next_inside ends now peer x is at = busy_inside ends now peer is (slice_get_within (end_for now peer).whole (end_for now peer).count x at)

pub same_or_not : (a b : ℕ) → (a ≡ b) ⊎ (a ≢ b)
same_or_not a b = ⊎_elim (λ (l : a < b). inr (λ e. omega arith)) (λ (m : b ≤ a). ⊎_elim (λ (k : b < a). inr (λ e. omega arith)) (λ (k : a ≤ b). inl (omega arith)) (cases_lt b a)) (cases_lt a b)
