use Rattle.std.proofs.Common.{◌<◌, ◌≤◌, ◌++◌, map, length, ap, ◌∙◌, subst}
use Rattle.std.proofs.lemmas.List.{map_more, take_all, drop_more, drop_all}
use Rattle.pyr_bundle.specs.declared.bundle_task.BundleTask.{BundleTask}
use Rattle.pyr_bundle.specs.Parts.{no_task, raw_task_of}
use Rattle.pyr_bundletext.specs.Text.{task_text}
use Rattle.pyr_bundletext.specs.Spelled.{IsSpelledTask}
use Rattle.pyr_bundletext.proofs.PrintingLemmas.{items_more, items_all, words_more, words_all}
use Rattle.pyr_bundletext.proofs.printing.put_tasks.Goals as goal

pub loop-t-preserved : goal.loop-t-preserved
loop-t-preserved c =
    let tasks = c.args.bundle.now.tasks in
    let l : c.loop-t.t < length tasks = subst (λ n. c.loop-t.t < n) c.task_count-t-end.ensures c.loop-t-test.true in
    record {
      text = items_more task_text _ _ _ _ _ _ (map_more raw_task_of tasks c.loop-t.t no_task l) c.loop-t.invariant.text (c.in_ok-put_task.ensures.text ∙ ap (λ (x : BundleTask). c.loop-t.text.items ++ task_text (raw_task_of x)) c.task.ensures);
      words = words_more IsSpelledTask _ _ _ _ (ap (map raw_task_of) (drop_more tasks c.loop-t.t no_task l)) (subst (λ (x : BundleTask). IsSpelledTask (raw_task_of x)) c.task.ensures c.in_ok-put_task.ensures.words) c.loop-t.invariant.words;
    }

pub returns : goal.returns
returns c =
    let tasks = c.args.bundle.now.tasks in
    let l : length tasks ≤ c.loop-t.t = subst (λ n. n ≤ c.loop-t.t) c.task_count-t-end.ensures c.loop-t-test.false in
    record {
      text = items_all task_text _ _ _ _ (ap (map raw_task_of) (take_all c.loop-t.t tasks l)) c.loop-t.invariant.text;
      words = words_all IsSpelledTask _ _ (ap (map raw_task_of) (drop_all c.loop-t.t tasks l)) c.loop-t.invariant.words;
    }
