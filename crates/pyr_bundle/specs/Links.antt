-- Pairs of processors with their numbers of sends, as building a bundle keeps them. No public
-- clause cites this.
use Rattle.std.specs.Prelude.{ℕ, List}
use Rattle.pyr_bundle.specs.declared.raw_instr.RawInstr.{RawInstr}
use Rattle.pyr_bundle.specs.declared.channels.Link.{Link}
use Rattle.pyr_bundle.specs.Laws.{send_count}

-- the link between the two processors of a pair, and the pair of a link
abbrev pub link_of : List (List RawInstr) → ℕ × ℕ → Link
link_of code pair =
    record { from = pair.0; to = pair.1; sends = send_count code pair.0 pair.1 }

abbrev pub pair_of : Link → ℕ × ℕ
pair_of link = (link.from, link.to)
