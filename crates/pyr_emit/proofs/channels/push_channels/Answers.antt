use Rattle.std.proofs.Common.{◌≡◌, ℕ, ◌<◌, ◌≤◌, ◌∷◌, ◌++◌, Bool, List, [], length, map, sym, ap, ◌∙◌, subst, arith}
use Rattle.std.specs.Prelude.{nat_lt, count_by}
use Rattle.std.specs.List.{filter, range_with_len}
use Rattle.std.proofs.lemmas.Bool.{lt-ltb, le-ltb}
use Rattle.std.proofs.lemmas.List.{get_or_read}
use Rattle.pyr_bundle.specs.declared.raw_channel.RawChannel.{RawChannel}
use Rattle.pyr_bundle.specs.declared.raw_instr.RawInstr.{RawInstr}
use Rattle.pyr_bundle.specs.Laws.{send_count, is_send_to}
use Rattle.pyr_emit.specs.Emission.{channel_of}
use Rattle.pyr_emit.proofs.Ranges.{made_yes, made_no, map_map}
use Rattle.pyr_emit.proofs.channels.push_channels.Goals as goal
use Rattle.pyr_emit.proofs.channels.push_channels.Goals.{then-capacity-gt0+in_ok-push, else-capacity-gt0}

abbrev channel_to : List (List RawInstr) → ℕ → ℕ → RawChannel
channel_to code from q = channel_of code (from, q)

abbrev is_linked : List (List RawInstr) → ℕ → ℕ → Bool
is_linked code from q = nat_lt 0 (send_count code from q)

pub loop-to-preserved : goal.loop-to-preserved
loop-to-preserved c =
    let code : List (List RawInstr) = c.args.code.now in
    let from : ℕ = c.args.from in
    let to : ℕ = c.loop-to.to in
    let count : c.sends_to-capacity.result ≡ send_count code from to =
    c.sends_to-capacity.ensures ∙ ap (count_by (is_send_to to)) (c.as_slice.ensures ∙ get_or_read code from c.index-code-from.result c.requires c.index-code-from.is []) in
    elim c.if-capacity-gt0.branch [
      | then-capacity-gt0+in_ok-push w ↦ made_yes (channel_to code from) (is_linked code from) to c.if-capacity-gt0.channels.items c.loop-to.channels.items c.args.channels.now.items
          (lt-ltb 0 (send_count code from to) (subst (λ n. 0 < n) count w.if-capacity-gt0.true)) c.loop-to.invariant
          (rw w.channels-is (w.in_ok-push.ensures.items ∙ ap (λ n. c.loop-to.channels.items ++ record { from = from; to = to; capacity = n } ∷ []) count))
      | else-capacity-gt0 w ↦ rw w.channels-is (made_no (channel_to code from) (is_linked code from) to c.loop-to.channels.items c.args.channels.now.items
          (le-ltb 0 (send_count code from to) (subst (λ n. n ≤ 0) count w.if-capacity-gt0.false)) c.loop-to.invariant)
    ]

pub returns : goal.returns
returns c =
    let code : List (List RawInstr) = c.args.code.now in
    let from : ℕ = c.args.from in
    let end : c.loop-to.to ≡ length code = omega arith in
    c.loop-to.invariant
    ∙ ap (λ n. c.args.channels.now.items ++ map (channel_to code from) (filter (is_linked code from) (range_with_len 0 n))) end
    ∙ ap (λ (l : List RawChannel). c.args.channels.now.items ++ l) (sym (map_map (channel_of code) (λ q. (from, q)) (filter (is_linked code from) (range_with_len 0 (length code)))))
