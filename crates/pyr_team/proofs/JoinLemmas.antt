-- One element goes from what is left to what is done.
use Rattle.std.proofs.Common.{◌≡◌, Bool, true, false, refl, ℕ, ◌+◌, ◌≤◌, List, [], ◌∷◌, ◌++◌, length, map, sym, ap, subst, ◌∙◌, append_assoc, arith}
use Rattle.std.specs.Bool.{then_some}
use Rattle.std.specs.List.{AllZip}
use Rattle.std.specs.Option.{IfSome}
use Rattle.std.proofs.lemmas.List.{map-append, append-nil}
use Rattle.std.proofs.lemmas.List.Elements.{AllZip-push}

pub fewer : {X : Type 0} (n cap : ℕ) (x : X) (xs ys : List X) → ys ≡ x ∷ xs → n + length ys ≤ cap → n + length xs ≤ cap
fewer n cap x xs ys e h = let l = ap length e in omega arith

pub started : {X Y : Type 0} (f : X → Y) (hs new : List X) (h : X) (s : Y) (rest left all : List Y) → map f hs ++ rest ≡ all → rest ≡ s ∷ left → f h ≡ s → new ≡ hs ++ h ∷ [] → map f new ++ left ≡ all
started f hs new h s rest left all e next is grown =
    ap (λ l. map f l ++ left) grown
    ∙ ap (λ l. l ++ left) (map-append f hs (h ∷ []))
    ∙ append_assoc (map f hs) (f h ∷ []) left
    ∙ ap (λ y. map f hs ++ (y ∷ left)) is
    ∙ ap (λ l. map f hs ++ l) (sym next)
    ∙ e

-- so far, what is done stands in the relation to the beginning of a list, of which the rest is left
pub record Goes {X Y : Type 0} (R : Y → Y → Type 0) (f : X → Y) (all : List Y) (rest : List X) (done : List Y) : Type 0 where
  pub begin : List Y
  pub whole : begin ++ map f rest ≡ all
  pub related : AllZip R begin done

pub goes_on : {X Y : Type 0} (R : Y → Y → Type 0) (f : X → Y) (all : List Y) (rest left : List X) (done new : List Y) (h : X) (z : Y) → Goes R f all rest done → rest ≡ h ∷ left → R (f h) z → new ≡ done ++ z ∷ []
    → Goes R f all left new
goes_on R f all rest left done new h z g next r grown = record {
  begin = g.begin ++ f h ∷ [];
  whole = append_assoc g.begin (f h ∷ []) (map f left) ∙ ap (λ l. g.begin ++ map f l) (sym next) ∙ g.whole;
  related = subst (AllZip R (g.begin ++ f h ∷ [])) (sym grown) (AllZip-push R g.begin done (f h) z g.related r);
}

pub goes_all : {X Y : Type 0} (R : Y → Y → Type 0) (f : X → Y) (all : List Y) (done : List Y) → Goes R f all [] done → AllZip R all done
goes_all R f all done g = subst (λ l. AllZip R l done) (sym (append-nil g.begin) ∙ g.whole) g.related

-- what holds where the answer is yes holds of what is there then
pub if_there : {X : Type 0} (P : X → Type 0) (b : Bool) (x : X) → (b ≡ true → P x) → IfSome (then_some b x) P
if_there P true x holds = holds refl
if_there P false x holds = tt
