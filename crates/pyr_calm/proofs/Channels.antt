-- The channel lines of a bundle, by the pairs of their processors.
use Rattle.std.proofs.Common.{◌≡◌, ◌≢◌, ℕ, zero, suc, ◌<◌, List, [], ◌∷◌, map, length, ◌⊎◌, inl, inr, refl, sym, ◌∙◌, ap, slice_set, arith}
use Rattle.std.proofs.lemmas.List.{length-map, get_or-map}
use Rattle.pyr_bundle.specs.declared.capacity.Capacity.{Capacity}
use Rattle.pyr_bundle.specs.Parts.{Parts, code_at, channel_at, no_channel}
use Rattle.pyr_machine.specs.Machine.{capacity_in}
use Rattle.pyr_machine.specs.Counts.{sends_to}
use Rattle.pyr_calm.specs.Capacities.{line_at, all_room, roomy}
use Rattle.pyr_calm.proofs.Changes.{SamePairOrNot, pair_tells, pair_same}

-- the first line of a pair
pub record First (lines : List Capacity) (p q : ℕ) : Type 0 where
  pub index : ℕ
  pub within : index < length lines
  pub from : (line_at lines index).from.0 ≡ p
  pub to : (line_at lines index).to.0 ≡ q
  pub capacity : capacity_in lines p q ≡ (line_at lines index).capacity

-- there is no line of a pair
pub record HasNoLine (lines : List Capacity) (p q : ℕ) : Type 0 where
  pub none : (i : ℕ) → i < length lines → (line_at lines i).from.0 ≡ p →
      (line_at lines i).to.0 ≡ q → ⊥
  pub capacity : capacity_in lines p q ≡ 0

nowhere : (c : Capacity) (lines : List Capacity) (p q : ℕ) → (c.from.0 ≡ p → c.to.0 ≢ q) →
    HasNoLine lines p q → (i : ℕ) → i < length (c ∷ lines) → (line_at (c ∷ lines) i).from.0 ≡ p →
    (line_at (c ∷ lines) i).to.0 ≡ q → ⊥
nowhere c lines p q apart n zero l e f = apart e f
nowhere c lines p q apart n (suc i) l e f = n.none i (omega arith) e f

pub first_or_none : (lines : List Capacity) (p q : ℕ) → First lines p q ⊎ HasNoLine lines p q
first_or_none [] p q = inr (record { none = λ i l. absurd (omega arith); capacity = refl })
first_or_none (c ∷ lines) p q = at (pair_tells c.from.0 c.to.0 p q) (first_or_none lines p q)
  where
    at : SamePairOrNot c.from.0 c.to.0 p q → First lines p q ⊎ HasNoLine lines p q →
        First (c ∷ lines) p q ⊎ HasNoLine (c ∷ lines) p q
    at (inl i) ih = inl (record {
      index = zero;
      within = omega arith;
      from = i.1;
      to = i.2;
      capacity = rw i.0 refl;
    })
    at (inr i) (inl f) = inl (record {
      index = suc f.index;
      within = let l = f.within in omega arith;
      from = f.from;
      to = f.to;
      capacity = rw i.0 f.capacity;
    })
    at (inr i) (inr n) =
        inr (record { none = nowhere c lines p q i.1 n; capacity = rw i.0 n.capacity })

-- a line of the bundle with room for all sends
pub line_room : (b : Parts) (lines : List Capacity) (i : ℕ) → i < length lines →
    line_at (map (all_room b) lines) i ≡ all_room b (line_at lines i)
line_room b lines i l = get_or-map (all_room b) lines i no_channel no_channel l

-- where the pair has a line, there is room for all sends
pub room_at : (b : Parts) (p q : ℕ) → 0 < capacity_in b.channels p q →
    capacity_in (roomy b).channels p q ≡ sends_to q (code_at b p)
room_at b p q some = at (first_or_none (roomy b).channels p q) (first_or_none b.channels p q)
  where
    count : length (roomy b).channels ≡ length b.channels
    count = length-map b.channels (all_room b)

    at : First (roomy b).channels p q ⊎ HasNoLine (roomy b).channels p q →
        First b.channels p q ⊎ HasNoLine b.channels p q →
        capacity_in (roomy b).channels p q ≡ sends_to q (code_at b p)
    at (inl f) g =
        let c = channel_at b f.index in
        let l = f.within in
        let e = line_room b b.channels f.index (omega (arith, l, count)) in
        let from : c.from.0 ≡ p = ap (λ (x : Capacity). x.from.0) (sym e) ∙ f.from in
        let to : c.to.0 ≡ q = ap (λ (x : Capacity). x.to.0) (sym e) ∙ f.to in
        f.capacity ∙ ap (λ (x : Capacity). x.capacity) e
        ∙ ap (λ m. sends_to m (code_at b c.from.0)) to ∙ ap (λ m. sends_to q (code_at b m)) from
    at (inr n) (inl g) =
        let l = g.within in
        let e = line_room b b.channels g.index l in
        absurd (n.none g.index (omega (arith, l, count))
        (ap (λ (x : Capacity). x.from.0) e ∙ g.from) (ap (λ (x : Capacity). x.to.0) e ∙ g.to))
    at (inr n) (inr m) = absurd (let none = m.capacity in omega arith)

-- the first line of its pair, with another capacity
pub capacity_set : (lines : List Capacity) (i : ℕ) (c : Capacity) → i < length lines →
    ((j : ℕ) → j < i → (line_at lines j).from.0 ≡ c.from.0 → (line_at lines j).to.0 ≢ c.to.0) →
    capacity_in (slice_set lines i c) c.from.0 c.to.0 ≡ c.capacity
capacity_set [] i c l apart = absurd (omega arith)
capacity_set (d ∷ lines) zero c l apart = rw (pair_same c.from.0 c.to.0) refl
capacity_set (d ∷ lines) (suc i) c l apart =
    at (pair_tells d.from.0 d.to.0 c.from.0 c.to.0)
    (capacity_set lines i c (omega arith) (λ j k. apart (suc j) (omega arith)))
  where
    at : SamePairOrNot d.from.0 d.to.0 c.from.0 c.to.0 →
        capacity_in (slice_set lines i c) c.from.0 c.to.0 ≡ c.capacity →
        capacity_in (d ∷ slice_set lines i c) c.from.0 c.to.0 ≡ c.capacity
    at (inl e) ih = absurd (apart zero (omega arith) e.1 e.2)
    at (inr e) ih = rw e.0 ih
