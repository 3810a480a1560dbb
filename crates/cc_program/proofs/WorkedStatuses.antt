-- The table of statuses, by computation.
use Rattle.std.proofs.Common.{refl}
use Rattle.std.specs.Fmt.{digits}
use lib.Utf8.{encode}
use Rattle.cc_program.specs.StatusTable.{StatusesShow, JobsHaveSoManyBytes}

pub statuses_show_so : StatusesShow
unfolding digits encode
statuses_show_so = record {
  clean = (refl, refl);
  refusals = (refl, refl);
  bad_job = (refl, refl);
  bad_job_far = (refl, refl);
  read_fault = (refl, refl);
  write_fault = (refl, refl);
  no_memory = (refl, refl);
  bad_words = (refl, refl);
  too_long = (refl, refl);
}

pub jobs_have_so_many : JobsHaveSoManyBytes
jobs_have_so_many = (refl, λ before after outcome. outcome.0)
