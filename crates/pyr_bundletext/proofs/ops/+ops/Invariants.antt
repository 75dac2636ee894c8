use Rattle.std.proofs.Common.{◌≡◌, ◌++◌, drop}
use Rattle.pyr_code.specs.Seen.{code_of}
use Rattle.pyr_bundletext.specs.Text.{code_text}
use Rattle.pyr_bundletext.specs.Spelled.{IsSpelledCode}
use Rattle.pyr_bundletext.proofs.ops.+ops.Given as goal

abbrev pub invariant-put_ops-loop-op : goal.invariant-put_ops-loop-op
invariant-put_ops-loop-op l = record {
  text : l.text.items ++ code_text (code_of (drop l.op-index l.ops)) ≡ l.fn.text.items ++ code_text (code_of l.ops);
  words : IsSpelledCode (code_of (drop l.op-index l.ops)) → IsSpelledCode (code_of l.ops);
}
