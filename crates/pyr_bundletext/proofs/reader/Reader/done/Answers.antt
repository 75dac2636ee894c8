use Rattle.std.proofs.Common.{◌+◌, ◌≤◌, sym, ap, ◌∙◌, subst}
use Rattle.pyr_num.specs.declared.limits.TheConstants.Limits.{ALL_NODES}
use Rattle.pyr_bundletext.specs.Earlier.{Nest, ended}
use Rattle.pyr_bundletext.specs.Faults.{nodes_in}
use Rattle.pyr_bundletext.proofs.CodeLemmas.{ended_nodes}
use Rattle.pyr_bundletext.proofs.reader.Reader.done.Goals as goal

pub invariant_of-self-2 : goal.invariant_of-self-2
invariant_of-self-2 c =
    let i = c.self.invariant in
    record {
      all_reads = i.all_reads;
      all_nodes = i.all_nodes;
      all_work = i.all_work;
      all_instrs = i.all_instrs;
      few_reads = i.few_reads;
      few_nodes = subst (λ n. c.self.inside.all_nodes + n ≤ ALL_NODES) (sym (ap nodes_in c.in_ok-self-inside.ensures ∙ ap (λ (n : Nest). nodes_in (ended n.outer n.current)) c.replace-open_code.ensures.value ∙ ended_nodes c.self.inside.open_code.outer c.self.inside.open_code.current)) i.few_nodes;
      little_work = i.little_work;
      few_instrs = i.few_instrs;
    }
