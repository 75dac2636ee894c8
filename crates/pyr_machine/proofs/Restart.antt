-- Processors that go back to their start.
use Rattle.std.proofs.Common.{◌≡◌, ℕ, zero, suc, ◌+◌, ◌<◌, Bool, false, List, [], ◌∷◌, length, map, set, get_or, replicate, refl, sym, ◌∙◌, ap, subst, arith, add-one}
use Rattle.std.proofs.lemmas.List.{length-map, get_or-map, length-replicate}
use Rattle.pyr_bundle.specs.Parts.{Parts, processor_count}
use Rattle.pyr_num.specs.declared.ids.DatumId.{DatumId}
use Rattle.pyr_machine.specs.Station.{Lane, Post, marked, no_lane, no_post, post_of, lane, emptied, restarted, IsPosted, AreFresh, IsFresh}
use Rattle.pyr_machine.proofs.Marked.{marked-none}
use Rattle.pyr_machine.proofs.Post.{post_with}

-- these, with f of each of the first n
abbrev pub changed_first : {A : Type 0} → (A → A) → ℕ → List A → List A
changed_first f zero xs = xs
changed_first f (suc n) [] = []
changed_first f (suc n) (x ∷ xs) = f x ∷ changed_first f n xs

-- at n it is as it was
pub first-at : {A : Type 0} (f : A → A) (n : ℕ) (xs : List A) (d : A) →
    get_or (changed_first f n xs) n d ≡ get_or xs n d
first-at f zero xs d = refl
first-at f (suc n) [] d = refl
first-at f (suc n) (x ∷ xs) d = first-at f n xs d

-- one more
pub first-more : {A : Type 0} (f : A → A) (n : ℕ) (xs : List A) (d : A) → n < length xs →
    set (changed_first f n xs) n (f (get_or xs n d)) ≡ changed_first f (suc n) xs
first-more f n [] d l = absurd (omega arith)
first-more f zero (x ∷ xs) d l = refl
first-more f (suc n) (x ∷ xs) d l = ap (λ ys. f x ∷ ys) (first-more f n xs d (omega arith))

pub first-length : {A : Type 0} (f : A → A) (n : ℕ) (xs : List A) →
    length (changed_first f n xs) ≡ length xs
first-length f zero xs = refl
first-length f (suc n) [] = refl
first-length f (suc n) (x ∷ xs) = ap suc (first-length f n xs)

-- all of them
pub first-all : {A : Type 0} (f : A → A) (xs : List A) →
    changed_first f (length xs) xs ≡ map f xs
first-all f [] = refl
first-all f (x ∷ xs) = ap (λ ys. f x ∷ ys) (first-all f xs)

-- one element is changed where it was read
pub change_more : {A : Type 0} (f : A → A) (n : ℕ) (xs now : List A) (x y : A) →
    n < length xs → now ≡ changed_first f n xs → y ≡ f (get_or now n x) →
    set now n y ≡ changed_first f (n + 1) xs
change_more f n xs now x y l is e =
    rw add-one
    (ap (λ ys. set ys n y) is
    ∙ ap (set (changed_first f n xs) n) (e ∙ ap (λ ys. f (get_or ys n x)) is ∙ ap f (first-at f n xs x))
    ∙ first-more f n xs x l)

-- at the end of such a loop all are changed
pub change_all : {A : Type 0} (f : A → A) (n : ℕ) (xs now : List A) → n ≡ length xs →
    now ≡ changed_first f n xs → now ≡ map f xs
change_all f n xs now e is = is ∙ ap (λ m. changed_first f m xs) e ∙ first-all f xs

-- a processor after it was put back
pub restarted_post : (held held' : List Bool) (stash : List DatumId) (outgoing outgoing' : List Lane)
    (place room : ℕ) (old : List DatumId) → held' ≡ replicate (length held) false → stash ≡ [] →
    outgoing' ≡ map emptied outgoing →
    post_with 0 held' stash outgoing' room ≡ restarted (post_with place held old outgoing room)
restarted_post held held' stash outgoing outgoing' place room old h e f =
    let marks : marked 0 held' ≡ [] = rw h (marked-none 0 (length held)) in
    let count : length held' ≡ length held = rw h (length-replicate (length held) false) in
    λ i. record { local = record { place = 0; store = marks i; stash = e i }; outgoing = f i; datums = count i; room = room }

-- so all of them are at the start
pub restarted_fresh : (b : Parts) (posts : List Post) → IsPosted b posts →
    AreFresh b (processor_count b) (map restarted posts)
restarted_fresh b posts h = record {
  count = length-map posts restarted ∙ h.count;
  each = λ p l. subst (IsFresh b p) (sym (at p l)) (fresh p l);
}
  where
    at : (p : ℕ) → p < processor_count b → post_of (map restarted posts) p ≡ restarted (post_of posts p)
    at p l = get_or-map restarted posts p no_post no_post (let c = h.count in omega arith)

    fresh : (p : ℕ) → p < processor_count b → IsFresh b p (restarted (post_of posts p))
    fresh p l = record {
      local = refl;
      channels = record {
        count = length-map (post_of posts p).outgoing emptied ∙ h.outgoing p l;
        each = λ q m.
            get_or-map emptied (post_of posts p).outgoing q no_lane no_lane
            (let c = h.outgoing p l in omega arith)
            ∙ ap (lane []) (h.capacities p q l m);
      };
      datums = h.datums p l;
      room = h.total p l;
    }
