use Rattle.pyr_graphtext.specs.declared.form.Form.TheVariants as forms
use Rattle.pyr_graphtext.specs.Taking.{with_datum, with_task, with_reads, with_writes, with_print}
use Rattle.pyr_graphtext.proofs.FormTaking.{takes, on_ok, data_same, task_same, reads_same, writes_same, print_same, data_grows, task_grows, reads_grow, writes_grow, print_grows}
use Rattle.pyr_graphtext.proofs.reader.Reader.form.Goals as goal

pub returns-in-Data : goal.returns-in-Data
returns-in-Data c =
    rw c.in-Data.is (takes c.data.result c.args.self.now c.data.new.self (forms.Data c.in-Data.name c.in-Data.words c.in-Data.comm) _ c.data.ensures.fault (data_same c.args.self.now c.in-Data.name c.in-Data.words c.in-Data.comm)
    (on_ok c.data.result c.data.new.self (with_datum c.args.self.now c.in-Data.name c.in-Data.words c.in-Data.comm) _ c.args.self.now c.data.ensures.ok (data_grows c.args.self.now c.in-Data.name c.in-Data.words c.in-Data.comm)))

pub returns-in-Task : goal.returns-in-Task
returns-in-Task c =
    rw c.in-Task.is (takes c.task.result c.args.self.now c.task.new.self (forms.Task c.in-Task.name c.in-Task.cost) _ c.task.ensures.fault (task_same c.args.self.now c.in-Task.name c.in-Task.cost)
    (on_ok c.task.result c.task.new.self (with_task c.args.self.now c.in-Task.name c.in-Task.cost) _ c.args.self.now c.task.ensures.ok (task_grows c.args.self.now c.in-Task.name c.in-Task.cost)))

pub returns-in-Reads : goal.returns-in-Reads
returns-in-Reads c =
    rw c.in-Reads.is (takes c.reads.result c.args.self.now c.reads.new.self (forms.Reads c.in-Reads.names) _ c.reads.ensures.fault (reads_same c.args.self.now c.in-Reads.names)
    (on_ok c.reads.result c.reads.new.self (with_reads c.args.self.now c.in-Reads.names) _ c.args.self.now c.reads.ensures.ok (reads_grow c.args.self.now c.in-Reads.names)))

pub returns-in-Writes : goal.returns-in-Writes
returns-in-Writes c =
    rw c.in-Writes.is (takes c.writes.result c.args.self.now c.writes.new.self (forms.Writes c.in-Writes.names) _ c.writes.ensures.fault (writes_same c.args.self.now c.in-Writes.names)
    (on_ok c.writes.result c.writes.new.self (with_writes c.args.self.now c.in-Writes.names) _ c.args.self.now c.writes.ensures.ok (writes_grow c.args.self.now c.in-Writes.names)))

pub returns-in-Print : goal.returns-in-Print
returns-in-Print c =
    rw c.in-Print.is (takes c.print.result c.args.self.now c.print.new.self (forms.Print c.in-Print.name) _ c.print.ensures.fault (print_same c.args.self.now c.in-Print.name)
    (on_ok c.print.result c.print.new.self (with_print c.args.self.now c.in-Print.name) _ c.args.self.now c.print.ensures.ok (print_grows c.args.self.now c.in-Print.name)))
