-- Each reply as it is written, by computation.
use Rattle.std.proofs.Common.{refl}
use Rattle.std.specs.Fmt.{digits}
use lib.Utf8.{encode}
use Rattle.cc_capture.specs.Rising.{placed}
use Rattle.cc_capture.specs.Sets.{from_list, insert, empty}
use Rattle.cc_worked_replies.specs.WrittenReplies as example

pub replies_are_written : example.RepliesAreWritten
unfolding encode digits from_list insert empty placed
replies_are_written = record {
  put = refl;
  put_refused = refl;
  drop = refl;
  drop_refused = refl;
  policy = refl;
  valid = refl;
  bad_line = refl;
  bad_node = refl;
  check = refl;
  check_none = refl;
  signatures = refl;
  signatures_refused = refl;
  derived = refl;
  derivation_refused = refl;
  ran = refl;
  run_refused = refl;
  tasks = refl;
  tasks_refused = refl;
  audited = refl;
  audit_refused = refl;
  guarded = refl;
  guard_refused = refl;
  explained = refl;
  explain_refused = refl;
  agrees = refl;
  differs = refl;
  replay_refused = refl;
}

pub refusals_are_told : example.RefusalsAreTold
refusals_are_told = record {
  put = λ name. refl;
  put_refused = λ name code. refl;
  drop = λ name. refl;
  drop_refused = λ name code. refl;
  policy = λ count. refl;
  valid = λ names type. refl;
  bad_line = λ number. refl;
  bad_node = λ number. refl;
  check_none = refl;
  check_refused = λ name code at others. refl;
  check_accepted = λ name definitions others. refl;
  signatures = λ name definitions. refl;
  signatures_refused = λ name code. refl;
  derived = λ module_name name lines. refl;
  derivation_refused = λ module_name name code. refl;
  ran = λ module_name name authority trace shown steps. refl;
  ran_out = λ module_name name authority trace steps. refl;
  ran_stuck = λ module_name name authority trace steps. refl;
  run_refused = λ module_name name code. refl;
  no_tasks = λ authorities trace. refl;
  task_done = λ authorities trace shown steps others. refl;
  task_out = λ authorities trace steps others. refl;
  task_stuck = λ authorities trace steps others. refl;
  tasks_refused = λ module_name name code. refl;
  audited = λ module_name name decided. refl;
  audit_refused = λ module_name name code. refl;
  guarded = λ module_name name authority trace shown steps. refl;
  guarded_out = λ module_name name authority trace steps. refl;
  guarded_stuck = λ module_name name authority trace steps. refl;
  guard_refused = λ module_name name code. refl;
  explained = λ module_name name explanations. refl;
  explain_refused = λ module_name name code. refl;
  agrees = λ module_name name. refl;
  differs = λ module_name name number. refl;
  replay_refused = λ module_name name code. refl;
}
