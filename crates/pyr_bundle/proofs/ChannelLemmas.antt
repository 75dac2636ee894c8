-- Channel lines against the pairs of processors with a send.
use Rattle.std.proofs.Common.{◌≡◌, ℕ, ◌<◌, ◌==◌, ◌&&◌, true, List, map, length, get_or, max, refl, sym, ap, ◌∙◌, arith}
use Rattle.std.specs.Prelude.{Option, Some, None, nat_le, slice_get}
use Rattle.std.specs.Option.{option_map}
use Rattle.std.proofs.lemmas.Bool.{and_parts, eqb-true}
use Rattle.std.proofs.lemmas.List.{length-map, get_or-map}
use Rattle.std.proofs.lemmas.Option.{slice_get-map, slice_get-get_or, slice_get_within, get_or_from_slice_get}
use Rattle.pyr_bundle.specs.declared.raw_bundle.RawBundle.{RawBundle}
use Rattle.pyr_bundle.specs.declared.raw_channel.RawChannel.{RawChannel}
use Rattle.pyr_bundle.specs.declared.raw_instr.RawInstr.{RawInstr}
use Rattle.pyr_bundle.specs.declared.channels.Link.{Link}
use Rattle.pyr_bundle.specs.Law.{IsKept}
use Rattle.pyr_bundle.specs.Links.{link_of, pair_of}
use Rattle.pyr_bundle.specs.Laws.{send_count, pairs_of, is_line_of, is_fine_capacity, channels}

pair_back : (code : List (List RawInstr)) (o : Option (ℕ × ℕ)) → option_map pair_of (option_map (link_of code) o) ≡ o
pair_back code None = refl
pair_back code (Some pair) = refl

-- the test of a line by the links is that by the pairs
pub line_is : (code : List (List RawInstr)) (channels lines : List RawChannel) (links : List Link) (i : ℕ) (line : Option RawChannel) (link : Option Link) →
    lines ≡ channels → links ≡ map (link_of code) (pairs_of code) → line ≡ slice_get lines i → link ≡ slice_get links i →
    is_line_of line (option_map pair_of link) ≡ is_line_of (slice_get channels i) (slice_get (pairs_of code) i)
line_is code channels lines links i line link e f g h =
    let p : option_map pair_of link ≡ slice_get (pairs_of code) i =
    ap (option_map pair_of) (h ∙ ap (λ (x : List Link). slice_get x i) f ∙ slice_get-map (link_of code) (pairs_of code) i) ∙ pair_back code (slice_get (pairs_of code) i) in
    ap (λ (x : Option RawChannel). is_line_of x (option_map pair_of link)) (g ∙ ap (λ (x : List RawChannel). slice_get x i) e) ∙ ap (is_line_of (slice_get channels i)) p

pub rows_are : (code : List (List RawInstr)) (channels lines : List RawChannel) (links : List Link) (n : ℕ) → lines ≡ channels → links ≡ map (link_of code) (pairs_of code) → n ≡ max (length lines) (length links) →
    n ≡ max (length channels) (length (pairs_of code))
rows_are code channels lines links n e f g =
    g ∙ ap (λ (x : List RawChannel). max (length x) (length links)) e ∙ ap (max (length channels)) (ap length f ∙ length-map (pairs_of code) (link_of code))

-- the pair of a line
line_pair : (c : RawChannel) (o : Option (ℕ × ℕ)) → is_line_of (Some c) o ≡ true → (pair : ℕ × ℕ) × (o ≡ Some pair) × (c.from ≡ pair.0) × (c.to ≡ pair.1)
line_pair c (Some pair) e =
    let parts = and_parts (c.from == pair.0) (c.to == pair.1) e in
    (pair, refl, eqb-true c.from pair.0 parts.0, eqb-true c.to pair.1 parts.1)
line_pair c None e = absurd (cc)

module _ (raw : RawBundle) (kept : IsKept (channels raw)) (i : ℕ) (d : RawChannel) (l : i < length raw.channels) where
  -- the line here is that of a pair
  pub pair_at : (pair : ℕ × ℕ) × (slice_get (pairs_of raw.code) i ≡ Some pair) × ((get_or raw.channels i d).from ≡ pair.0) × ((get_or raw.channels i d).to ≡ pair.1)
  unfolding channels
  pair_at =
      line_pair (get_or raw.channels i d) (slice_get (pairs_of raw.code) i)
      (ap (λ (x : Option RawChannel). is_line_of x (slice_get (pairs_of raw.code) i)) (sym (slice_get-get_or raw.channels i d l)) ∙ kept.kept i 0 (omega arith) (omega arith))

  module _ (links : List Link) (are : links ≡ map (link_of raw.code) (pairs_of raw.code)) where
    pub link_known : i < length links
    link_known =
        let m = slice_get_within (pairs_of raw.code) i pair_at.0 pair_at.1 in
        let n = ap length are ∙ length-map (pairs_of raw.code) (link_of raw.code) in
        omega arith

    pub link_sends : (e : Link) → (get_or links i e).sends ≡ send_count raw.code (get_or raw.channels i d).from (get_or raw.channels i d).to
    link_sends e =
        let pair : ℕ × ℕ = pair_at.0 in
        let m = slice_get_within (pairs_of raw.code) i pair pair_at.1 in
        ap (λ (x : List Link). (get_or x i e).sends) are
        ∙ ap (λ (x : Link). x.sends) (get_or-map (link_of raw.code) (pairs_of raw.code) i pair e m)
        ∙ ap (λ (x : ℕ × ℕ). send_count raw.code x.0 x.1) (get_or_from_slice_get (pairs_of raw.code) i pair pair pair_at.1)
        ∙ ap (λ p. send_count raw.code p pair.1) (sym pair_at.2) ∙ ap (λ q. send_count raw.code (get_or raw.channels i d).from q) (sym pair_at.3)

    -- the test of a capacity by the link is that by the count
    pub capacity_is : (e : Link) (lines : List RawChannel) → lines ≡ raw.channels →
        (nat_le 1 (get_or lines i d).capacity && nat_le (get_or lines i d).capacity (get_or links i e).sends) ≡ is_fine_capacity raw.code (slice_get raw.channels i)
    capacity_is e lines f =
        ap (λ (x : List RawChannel). nat_le 1 (get_or x i d).capacity && nat_le (get_or x i d).capacity (get_or links i e).sends) f
        ∙ ap (λ n. nat_le 1 (get_or raw.channels i d).capacity && nat_le (get_or raw.channels i d).capacity n) (link_sends e)
        ∙ ap (is_fine_capacity raw.code) (sym (slice_get-get_or raw.channels i d l))
