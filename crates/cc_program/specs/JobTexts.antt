-- Each job is that of a text, and so is the job of each workload.
use Rattle.std.specs.Prelude.{◌≡◌, ℕ, ◌≤◌, List, ◌∷◌, ◌++◌, length, map, codes}
use Rattle.std.specs.List.{AllByRecursion, IsDistinct, flat_map}
use Rattle.std.specs.Str.{bytes_eq}
use Rattle.cc_job.specs.declared.job.Job.{Job}
use Rattle.cc_job.specs.Jobs.{IsItem, IsJob, items_of, item_lines, first_line, text}
use Rattle.cc_workload.specs.Workloads.{workload}
use Rattle.cc_program.specs.SoundJobs.{IsSoundJob}

-- The text of a job: its first line and the lines of its items in order, each with a line feed.
abbrev pub job_text : Job → List ℕ
job_text job = text (first_line ∷ flat_map item_lines (items_of job))

-- It is the text of that job, where the items are those that a job may have, and at most 16 devices with names that differ
-- are declared.
abbrev pub JobsHaveTexts : Type 0
JobsHaveTexts =
    (job : Job) → AllByRecursion IsItem (items_of job) → length job.devices ≤ 16
    → IsDistinct bytes_eq (map (λ device. device.name) job.devices) → IsJob (job_text job) job

-- So the job of a workload is one, and its files are sound at every moment.
abbrev pub WorkloadsAreJobs : Type 0
WorkloadsAreJobs =
    (number : ℕ) → 1 ≤ number → number ≤ 200
    → IsJob (job_text (workload number)) (workload number) × IsSoundJob (workload number)

-- the text of the job of a workload of one module
abbrev pub TextOfOneModule : Type 0
TextOfOneModule =
    job_text (workload 1)
    ≡ codes "capc 1\ndevice out console\ndevice hits counter\n"
    ++ codes "put m1 1\ndef f1 = fun (x: Int) => out.print(x)\n"
    ++ codes "put app 2\nimport m1.f1\ndef main = fun (u: Unit) => f1(0)\n"
    ++ codes "check\n"
    ++ codes "put m1 1\ndef f1 = fun (x: Int) => val n = hits.tick(); out.print(x)\n"
    ++ codes "check\nrun app.main 1000000\n"
