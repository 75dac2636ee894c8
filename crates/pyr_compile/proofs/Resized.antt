-- A bundle with other capacities.
use Rattle.std.proofs.Common.{◌≡◌, ℕ, zero, suc, ◌+◌, ◌<◌, ◌≤◌, List, [], ◌∷◌, ◌++◌, length, map, set, get_or, take, drop, add-one, refl, sym, ap, ◌∙◌, subst, arith}
use Rattle.std.specs.Prelude.{All}
use Rattle.std.proofs.lemmas.List.{length-map, get_or-map}
use Rattle.pyr_graph.specs.declared.placement.Placement.{Placement}
use Rattle.pyr_graph.specs.declared.plan.Plan.{Plan}
use Rattle.pyr_graphtext.specs.Program.{ProgramParts}
use Rattle.pyr_bundle.specs.declared.capacity.Capacity.{Capacity}
use Rattle.pyr_bundle.specs.declared.raw_channel.RawChannel.{RawChannel}
use Rattle.pyr_bundle.specs.Laws.{send_count}
use Rattle.pyr_bundle.specs.Parts.{Parts, raw_of, raw_channel_of, no_channel, channel_at, with_capacity}
use Rattle.pyr_bundle.specs.WellFormed.{IsFineCapacity}
use Rattle.pyr_emit.specs.Emission.{IsEmission}
use Rattle.pyr_emit.specs.Meaning.{MeansTheSame}
use Rattle.pyr_size.specs.Sizes.{resized, sized}
use Rattle.pyr_compile.specs.Compiled.{roomy, HasPlanSizes, with_channels, SamePairs}
use Rattle.pyr_compile.specs.PlanRun.{PlanCompletes}
use Rattle.pyr_compile.proofs.PlanLemmas.{sized_plans_complete}

-- the first capacities are set, the others are as before
abbrev pub mixed : ℕ → List Capacity → List Capacity → List Capacity
mixed i xs cs = take i xs ++ drop i cs

set_mixed : (i : ℕ) (xs cs : List Capacity) (y : Capacity) → i < length xs → length xs ≡ length cs → y ≡ get_or xs i no_channel → set (mixed i xs cs) i y ≡ mixed (suc i) xs cs
set_mixed i [] cs y l same e = absurd (omega (arith, l))
set_mixed i (x ∷ xs) [] y l same e = absurd (omega (arith, same))
set_mixed zero (x ∷ xs) (c ∷ cs) y l same e = ap (λ z. z ∷ cs) e
set_mixed (suc i) (x ∷ xs) (c ∷ cs) y l same e = ap (λ l. x ∷ l) (set_mixed i xs cs y (omega (arith, l)) (omega (arith, same)) e)

get_mixed : (i : ℕ) (xs cs : List Capacity) → i < length xs → length xs ≡ length cs → get_or (mixed i xs cs) i no_channel ≡ get_or cs i no_channel
get_mixed i [] cs l same = absurd (omega (arith, l))
get_mixed i (x ∷ xs) [] l same = absurd (omega (arith, same))
get_mixed zero (x ∷ xs) (c ∷ cs) l same = refl
get_mixed (suc i) (x ∷ xs) (c ∷ cs) l same = get_mixed i xs cs (omega (arith, l)) (omega (arith, same))

length_mixed : (i : ℕ) (xs cs : List Capacity) → i ≤ length xs → length xs ≡ length cs → length (mixed i xs cs) ≡ length cs
length_mixed zero xs cs l same = refl
length_mixed (suc i) [] cs l same = absurd (omega (arith, l))
length_mixed (suc i) (x ∷ xs) [] l same = absurd (omega (arith, same))
length_mixed (suc i) (x ∷ xs) (c ∷ cs) l same = ap suc (length_mixed i xs cs (omega (arith, l)) (omega (arith, same)))

all_mixed : (xs cs : List Capacity) → length xs ≡ length cs → mixed (length xs) xs cs ≡ xs
all_mixed [] [] same = refl
all_mixed [] (c ∷ cs) same = absurd (omega (arith, same))
all_mixed (x ∷ xs) [] same = absurd (omega (arith, same))
all_mixed (x ∷ xs) (c ∷ cs) same = ap (λ l. x ∷ l) (all_mixed xs cs (omega (arith, same)))

same_channel : (x c : Capacity) → x.from ≡ c.from → x.to ≡ c.to → {y : Capacity} → y ≡ c → record y { capacity = x.capacity } ≡ x
same_channel x c from to {y} e = ap (λ (z : Capacity). record z { capacity = x.capacity }) e ∙ (λ i. record { from = sym from i; to = sym to i; capacity = x.capacity })

module _ (b : Parts) (xs : List Capacity) (pairs : SamePairs b.channels xs) (i : ℕ) (now : Parts) (is : now ≡ with_channels b (mixed i xs b.channels)) (inside : i < length xs) where
  abbrev x : Capacity
  x = get_or xs i no_channel

  there : i < length b.channels
  there = let n = pairs.count in omega (arith, n, inside)

  pub channel_there : i < length now.channels
  channel_there = subst (λ (v : Parts). i < length v.channels) (sym is) (let n = length_mixed i xs b.channels (omega (arith, inside)) pairs.count in omega (arith, n, there))

  pub few_sends : All (IsFineCapacity b) xs → x.capacity ≤ send_count (raw_of now).code (channel_at now i).from.0 (channel_at now i).to.0
  few_sends fine =
      subst (λ (v : Parts). x.capacity ≤ send_count (raw_of v).code (channel_at v i).from.0 (channel_at v i).to.0) (sym is)
      (subst (λ (c : Capacity). x.capacity ≤ send_count (raw_of b).code c.from.0 c.to.0) (sym (get_mixed i xs b.channels inside pairs.count))
      (let most = (fine i no_channel inside).1 in
      let from : x.from.0 ≡ (get_or b.channels i no_channel).from.0 = ap (λ p. p.0) (pairs.from i there) in
      let to : x.to.0 ≡ (get_or b.channels i no_channel).to.0 = ap (λ p. p.0) (pairs.to i there) in
      subst (λ q. x.capacity ≤ send_count (raw_of b).code (get_or b.channels i no_channel).from.0 q) to
      (subst (λ p. x.capacity ≤ send_count (raw_of b).code p x.to.0) from most)))

  pub one_more : (new : Parts) → new ≡ with_capacity now i x.capacity → new ≡ with_channels b (mixed (i + 1) xs b.channels)
  one_more new after =
      after ∙ ap (λ (v : Parts). with_capacity v i x.capacity) is
      ∙ ap (with_channels b) (set_mixed i xs b.channels (record (get_or (mixed i xs b.channels) i no_channel) { capacity = x.capacity }) inside pairs.count
      (same_channel x (get_or b.channels i no_channel) (pairs.from i there) (pairs.to i there) (get_mixed i xs b.channels inside pairs.count)))
      ∙ ap (λ k. with_channels b (mixed k xs b.channels)) (sym (add-one i))

pub at_end : (b : Parts) (xs : List Capacity) (i : ℕ) (now : Parts) → SamePairs b.channels xs → i ≡ length xs → now ≡ with_channels b (mixed i xs b.channels) → now ≡ with_channels b xs
at_end b xs i now pairs e is = is ∙ ap (λ k. with_channels b (mixed k xs b.channels)) e ∙ ap (with_channels b) (all_mixed xs b.channels pairs.count)

pub resized_pairs : (f : ℕ → ℕ → ℕ) (cs xs : List Capacity) → xs ≡ map (resized f) cs → SamePairs cs xs
resized_pairs f cs xs e = subst (SamePairs cs) (sym e) (record {
  count = length-map cs (resized f);
  from = λ i l. ap (λ (c : Capacity). c.from) (get_or-map (resized f) cs i no_channel no_channel l);
  to = λ i l. ap (λ (c : Capacity). c.to) (get_or-map (resized f) cs i no_channel no_channel l);
})

-- The bundle of a plan, with capacities by occupancy.
module _ (p : ProgramParts) (placement : Placement) (plan : Plan) (e : Parts) (caps : List Capacity) (new : Parts) (is : new ≡ with_channels e caps) (emission : IsEmission p placement plan (raw_of e))
    (sizes : (complete : PlanCompletes p placement plan e) × (caps ≡ (sized e complete.run).channels)) where
  is_roomy : raw_of e ≡ roomy (raw_of (with_channels e caps))
  is_roomy = ap (λ (cs : List RawChannel). record (raw_of e) { channels = cs }) emission.channels

  pub emission_of : IsEmission p placement plan (roomy (raw_of new))
  emission_of = subst (λ (b : Parts). IsEmission p placement plan (roomy (raw_of b))) (sym is) (subst (IsEmission p placement plan) is_roomy emission)

  pub sizes_of : HasPlanSizes p placement plan (raw_of new)
  sizes_of = subst (λ (b : Parts). HasPlanSizes p placement plan (raw_of b)) (sym is) (record {
    emitted = e;
    is_roomy = is_roomy;
    complete = sizes.0;
    capacities = ap (λ (cs : List Capacity). map raw_channel_of cs) sizes.1;
  })

  pub run_of : PlanCompletes p placement plan new
  run_of = subst (PlanCompletes p placement plan) (sym (is ∙ ap (with_channels e) sizes.1)) (sized_plans_complete p placement plan e sizes.0)

  pub meaning_of : MeansTheSame p e → MeansTheSame p new
  meaning_of means = subst (MeansTheSame p) (sym is) (record { orders = means.orders; same = means.same })
