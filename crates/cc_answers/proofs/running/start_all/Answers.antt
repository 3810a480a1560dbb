use Rattle.std.proofs.Common.{◌≡◌, Some, Err, ap, ◌∙◌, sym, subst, map}
use Rattle.std.proofs.lemmas.Option.{slice_get-get_or}
use Rattle.cc_session.specs.Entries.{entry_of}
use Rattle.cc_session.specs.EntryAnswers.{IsAnswered}
use Rattle.cc_replies.specs.RunReplies.{first_unstarted}
use Rattle.std.specs.List.{AllByRecursion}
use Rattle.cc_answers.specs.LinkedPrograms.{IsProgramOf}
use Rattle.cc_answers.proofs.AllOf.{all_push}
use Rattle.cc_answers.proofs.StartedTasks.{started_next, stopped_next}
use Rattle.cc_answers.proofs.running.start_all.Goals as goal

pub returns-in-Err-Refused-clause-started : goal.returns-in-Err-Refused-clause-started
returns-in-Err-Refused-clause-started c = λ verdicts are. (
  c.index-tasks-task.result,
  slice_get-get_or c.args.tasks.now c.loop-task.task c.index-tasks-task.result c.loop-task-test.true ∙ ap Some (sym c.index-tasks-task.is),
  subst (λ refused. first_unstarted c.args.session.now.present verdicts c.args.tasks.now
      ≡ Some (record { module_name = c.index-tasks-task.result.0; name = c.index-tasks-task.result.1; code = refused.code })) (sym c.in-Err-Refused.refused-is)
      (stopped_next c.args.session.now.devices c.args.session.now.present verdicts c.args.tasks.now c.loop-task.task c.index-tasks-task.result
      (map (λ it. entry_of it.value.entry) c.loop-task.entries.items) c.in-Err-Refused.refused.code c.loop-task-test.true c.index-tasks-task.is
      (c.loop-task.invariant.started verdicts are)
      (subst (λ e. IsAnswered c.args.session.now.devices c.args.session.now.present verdicts c.index-tasks-task.result.0 c.index-tasks-task.result.1 (Err e))
      c.in-Err-Refused.field-0-is (c.in-Err-Refused.ensures.answer verdicts are))),
)

pub loop-task-preserved : goal.loop-task-preserved
loop-task-preserved c = record {
  started = λ verdicts are.
      started_next c.args.session.now.devices c.args.session.now.present verdicts c.args.tasks.now c.loop-task.task c.index-tasks-task.result
      c.loop-task.entries.items c.push.new.self.items c.in-Ok.linked (λ it. entry_of it.value.entry) c.loop-task-test.true c.index-tasks-task.is
      (c.loop-task.invariant.started verdicts are) (c.in-Ok.ensures.answer.answers verdicts are) c.in_ok-push-in-Ok.ensures.items;
  programs = subst (AllByRecursion (λ it. IsProgramOf it.value.program it.value.entry)) (sym c.in_ok-push-in-Ok.ensures.items)
      (all_push (λ it. IsProgramOf it.value.program it.value.entry) c.loop-task.entries.items c.in-Ok.linked c.loop-task.invariant.programs c.in-Ok.ensures.answer.program);
  kept = c.linked_entry.ensures.kept;
}
