use Rattle.std.proofs.Common.{arith, sym, ap, ◌∙◌, subst, drop, get_or, length, ◌<◌, ◌≡◌, List, ◌∷◌, ◌-◌, ◌+◌, ℕ}
use Rattle.std.proofs.lemmas.List.{drop_all, drop_more}
use Rattle.pyr_num.specs.declared.ids.ProcId.{ProcId}
use Rattle.pyr_num.specs.declared.parcel.Parcel.{Parcel}
use Rattle.pyr_ends.specs.declared.ends.Ends.{Ends}
use Rattle.pyr_bundle.specs.declared.capacity.Capacity.{Capacity}
use Rattle.pyr_ends.proofs.Grid.{AreWired, none_wired, tails_there, heads_still, one_more, all_wired}
use Rattle.pyr_ends.proofs.making.wires.Goals as goal

pub loop-at-init : goal.loop-at-init
loop-at-init g c =
    subst (λ cs. AreWired (g.F.Feed.feed c.args.feed.now) c.args.processors cs c.in_ok-rows.rows.items)
    (sym (drop_all (length c.args.channels.now) c.args.channels.now (omega arith)))
    (none_wired (g.F.Feed.feed c.args.feed.now) c.args.processors c.in_ok-rows.rows.items c.in_ok-rows.ensures)

-- the channel of this turn, and that it is between two of the processors
abbrev no_channel : Capacity
no_channel = record { from = record { 0 = 0 }; to = record { 0 = 0 }; capacity = 0 }

-- the channels from one place on are that channel and those behind it
from_here : (cs : List Capacity) (at : ℕ) → 0 < at → at - 1 < length cs → get_or cs (at - 1) no_channel ∷ drop at cs ≡ drop (at - 1) cs
from_here cs at some low =
    let next : at - 1 + 1 ≡ at = omega arith in
    ap (λ k. get_or cs (at - 1) no_channel ∷ drop k cs) (sym next) ∙ sym (drop_more cs (at - 1) no_channel low)

these : {feed : ProcId → ProcId → List Parcel} {count : ℕ} {rows : List Ends} {cs ds : List Capacity} → cs ≡ ds → AreWired feed count cs rows → AreWired feed count ds rows
these {feed} {count} {rows} e wired = subst (λ xs. AreWired feed count xs rows) e wired

pub put-requires : goal.put-requires
put-requires g c =
    let low : c.loop-at.at - 1 < length c.args.channels.now = omega arith in
    let is = c.requires.between (c.loop-at.at - 1) no_channel low in
    let all : length c.index_mut.result.now.tails ≡ c.args.processors =
    tails_there (g.F.Feed.feed c.args.feed.now) c.args.processors _ c.loop-at.rows.items c.loop-at.invariant _ c.index_mut.result.now is.0 c.index_mut.ensures.value in
    omega (arith, is.1)

pub put-requires-in-loop-at : goal.put-requires-in-loop-at
put-requires-in-loop-at g c =
    let low : c.loop-at.at - 1 < length c.args.channels.now = omega arith in
    let is = c.requires.between (c.loop-at.at - 1) no_channel low in
    let all : length c.index_mut-in-loop-at.result.now.heads ≡ c.args.processors =
    heads_still (g.F.Feed.feed c.args.feed.now) c.args.processors _ c.loop-at.rows.items c.loop-at.invariant (get_or c.args.channels.now (c.loop-at.at - 1) no_channel) is.0 is.1 c.index_mut.result.now _
    c.index_mut.ensures.value c.index_mut-in-loop-at.result.now c.index_mut-in-loop-at.ensures.value in
    omega (arith, is.0)

pub loop-at-preserved : goal.loop-at-preserved
loop-at-preserved g c =
    let low : c.loop-at.at - 1 < length c.args.channels.now = omega arith in
    let is = c.requires.between (c.loop-at.at - 1) no_channel low in
    these (from_here c.args.channels.now c.loop-at.at c.loop-at-test.true low)
    (one_more (g.F.Feed.feed c.args.feed.now) c.args.processors (drop c.loop-at.at c.args.channels.now) c.loop-at.rows.items c.loop-at.invariant (get_or c.args.channels.now (c.loop-at.at - 1) no_channel) is.0 is.1
    c.index_mut.result.now _ c.index_mut.ensures.value c.index_mut-in-loop-at.result.now _ c.in_ok-tail.tail c.in_ok-tail.head c.index_mut-in-loop-at.ensures.value c.put.ensures c.put-in-loop-at.ensures
    c.in_ok-tail.ensures.tail c.in_ok-tail.ensures.head)

pub returns-clause-ends : goal.returns-clause-ends
returns-clause-ends g c =
    let none : c.loop-at.at ≡ 0 = omega arith in
    all_wired (g.F.Feed.feed c.args.feed.now) c.args.processors c.args.channels.now c.loop-at.rows.items
    (subst (λ k. AreWired (g.F.Feed.feed c.args.feed.now) c.args.processors (drop k c.args.channels.now) c.loop-at.rows.items) none c.loop-at.invariant) c.requires.covers
