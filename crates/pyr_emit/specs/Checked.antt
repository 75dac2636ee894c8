-- What is known of the tasks that a bundle gets. No public clause cites this.
use Rattle.pyr_code.specs.Verified.{IsVerified}
use Rattle.pyr_bundle.specs.declared.raw_task.RawTask.{RawTask}
use Rattle.pyr_bundle.specs.Raw.{shape_of}

-- the code of the task is well-formed, and within the limits
abbrev pub IsChecked : RawTask → Type 0
IsChecked task = IsVerified (record { ops = task.code; shape = shape_of task })
