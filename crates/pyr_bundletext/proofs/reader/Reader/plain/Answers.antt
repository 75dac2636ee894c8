use Rattle.std.proofs.Common.{◌+◌, ◌<◌, sym, ap, ◌∙◌, subst}
use Rattle.pyr_num.specs.declared.limits.TheConstants.Limits.{ALL_NODES}
use Rattle.pyr_bundletext.specs.Earlier.{Said}
use Rattle.pyr_bundletext.specs.Faults.{nodes_in, all_nodes}
use Rattle.pyr_bundletext.proofs.CodeLemmas.{one_node, with_op_nodes}
use Rattle.pyr_bundletext.proofs.reader.Reader.plain.Goals as goal

pub invariant_of-self-2 : goal.invariant_of-self-2
invariant_of-self-2 c =
    let i = c.self.invariant in
    record {
      all_reads = i.all_reads;
      all_nodes = i.all_nodes;
      all_work = i.all_work;
      all_instrs = i.all_instrs;
      few_reads = i.few_reads;
      few_nodes = one_node _ _ _ _ ALL_NODES i.all_nodes (subst (λ (s : Said). all_nodes s.tasks + nodes_in s.nest < ALL_NODES) (sym c.self.view_is) c.requires.all) (ap nodes_in c.in_ok-push.ensures.ok ∙ with_op_nodes c.self.inside.open_code c.args.op);
      little_work = i.little_work;
      few_instrs = i.few_instrs;
    }
