-- What a call does, in bytes and numbers: what its source has left, what its sink holds, how many modules were judged, and
-- the number with which the program ends, for a source that tells its bytes and a sink that tells what it holds.
use Rattle.std.specs.Prelude.{◌≡◌, ◌↔◌, ◌⊎◌, ℕ, ◌+◌, ◌<◌, ◌≤◌, Bool, if◌then◌else◌}
use Rattle.std.specs.Prelude.{List, [], ◌∷◌, ◌++◌, length, take, codes, Option, Some}
use Rattle.std.specs.Fmt.{decimal}
use Rattle.cc_io.specs.CallPlans.{SourceInMemory, SinkInMemory}
use Rattle.cc_job.specs.declared.job.Job.{Job}
use Rattle.cc_job.specs.Jobs.{IsJob, IsBadAt}
use Rattle.cc_replies.specs.Outputs.{IsOutput}
use Rattle.cc_replies.specs.Requests.{no_module}
use Rattle.cc_replies.specs.StaleModules.{AreStale}
use Rattle.cc_summary.specs.Summaries.{summary_text}
use Rattle.cc_workload.specs.Workloads.{workload}
use Rattle.cc_workload_outputs.specs.WorkloadOutputs.{workload_output}
use Rattle.cc_answers.specs.Requests.{requests_of}
use Rattle.cc_program.specs.declared.status.Status.{Status}
use Rattle.cc_program.specs.Calls.{IsCall}
use Rattle.cc_program.specs.Outcome.{Ends, ends, Outcome}
use Rattle.cc_program.specs.Status.{number_of, message_of}
use Rattle.cc_program.specs.WorkloadOutcome.{WorkloadOutcome}

-- The source had these bytes, the sink held these, reads and writes had failed so often, and so many modules had been
-- judged; then the source had this left, the sink this written, and so on.

-- A job of at most 4,194,304 bytes, where no read and no write fails. Either the program ends with 0, or with 1 where a
-- reply is a refusal: nothing is left of the bytes, the whole output stands behind what the sink held, and no more modules
-- were judged than the commands find stale. Or it ends with 5: then so it is with a front of the output, or some bytes were
-- taken alone.
abbrev pub JobsInBytes : Type 0
JobsInBytes =
    (bytes held text : List ℕ) (job : Job) (refused : Bool) (sum reads writes judged later : ℕ)
    (left written : Option (List ℕ)) (status : Status)
    → length bytes ≤ 4194304 → IsJob bytes job
    → IsOutput job.devices no_module (requests_of job) text refused
    → AreStale job.devices no_module [] (requests_of job) sum
    → Outcome (ends (Some bytes) reads (Some held) writes judged) (ends left reads written writes later) status
    → ((number_of status ≡ (if refused then 1 else 0)) × (left ≡ Some []) × (written ≡ Some (held ++ text))
    × (later ≤ judged + sum))
    ⊎ ((number_of status ≡ 5) × (left ≡ Some [])
    × ((count : ℕ) × (count ≤ length text) × (written ≡ Some (held ++ take count text))) × (later ≤ judged + sum))
    ⊎ ((number_of status ≡ 5)
    × ((taken : List ℕ) × (rest : List ℕ) × (bytes ≡ taken ++ rest) × (left ≡ Some rest))
    × (written ≡ Some held) × (later ≡ judged))

-- Bytes of which this is the bad line, at most 4,194,304 of them, where no read and no write fails. The program ends with
-- 2 and says the line, and nothing is left of the bytes; or it ends with 5, and some bytes were taken. Nothing was written,
-- and no module was judged.
abbrev pub BadJobsInBytes : Type 0
BadJobsInBytes =
    (bytes held : List ℕ) (line reads writes judged later : ℕ) (left written : Option (List ℕ)) (status : Status)
    → length bytes ≤ 4194304 → IsBadAt bytes line
    → Outcome (ends (Some bytes) reads (Some held) writes judged) (ends left reads written writes later) status
    → (((number_of status ≡ 2) × (message_of status ≡ Some (codes "capc: bad job at line " ++ decimal line))
    × (left ≡ Some []))
    ⊎ ((number_of status ≡ 5)
    × ((taken : List ℕ) × (rest : List ℕ) × (bytes ≡ taken ++ rest) × (left ≡ Some rest))))
    × (written ≡ Some held) × (later ≡ judged)

-- More than 4,194,304 bytes, where no read and no write fails. The program ends with 7, and exactly 4,194,305 bytes were
-- taken; or it ends with 5, and at most 4,194,304 were. Nothing was written, and no module was judged.
abbrev pub TooLongJobsInBytes : Type 0
TooLongJobsInBytes =
    (bytes held : List ℕ) (reads writes judged later : ℕ) (left written : Option (List ℕ)) (status : Status)
    → 4194304 < length bytes
    → Outcome (ends (Some bytes) reads (Some held) writes judged) (ends left reads written writes later) status
    → ((taken : List ℕ) × (rest : List ℕ) × (bytes ≡ taken ++ rest) × (left ≡ Some rest)
    × (((number_of status ≡ 7) × (length taken ≡ 4194305)) ⊎ ((number_of status ≡ 5) × (length taken ≤ 4194304))))
    × (written ≡ Some held) × (later ≡ judged)

-- A read fails. The program ends with 3, at most 4,194,304 bytes were taken, nothing was written, no write failed, and no
-- module was judged.
abbrev pub ReadFaultsInBytes : Type 0
ReadFaultsInBytes =
    (bytes held : List ℕ) (reads more_reads writes more_writes judged later : ℕ) (left written : Option (List ℕ))
    (status : Status)
    → reads < more_reads
    → Outcome (ends (Some bytes) reads (Some held) writes judged) (ends left more_reads written more_writes later) status
    → (number_of status ≡ 3)
    × ((taken : List ℕ) × (rest : List ℕ) × (bytes ≡ taken ++ rest) × (left ≡ Some rest) × (length taken ≤ 4194304))
    × (written ≡ Some held) × (more_writes ≡ writes) × (later ≡ judged)

-- A write fails. The program ends with 4: the bytes are a job, at most 4,194,304 of them, of which nothing is left, no read
-- failed, a front of the job's output stands behind what the sink held, and no more modules were judged than its commands
-- find stale.
abbrev pub WriteFaultsInBytes : Type 0
WriteFaultsInBytes =
    (bytes held : List ℕ) (reads more_reads writes more_writes judged later : ℕ) (left written : Option (List ℕ))
    (status : Status)
    → writes < more_writes
    → Outcome (ends (Some bytes) reads (Some held) writes judged) (ends left more_reads written more_writes later) status
    → (number_of status ≡ 4) × (length bytes ≤ 4194304) × (left ≡ Some []) × (more_reads ≡ reads)
    × ((job : Job) × IsJob bytes job
    × ((text : List ℕ) (refused : Bool) (sum : ℕ) → IsOutput job.devices no_module (requests_of job) text refused
    → AreStale job.devices no_module [] (requests_of job) sum
    → ((count : ℕ) × (count ≤ length text) × (written ≡ Some (held ++ take count text))) × (later ≤ judged + sum)))

-- Whatever the streams tell, a job's call ends with 3 exactly where a read failed, with 4 exactly where a write did, and
-- never with the number of bad words.
abbrev pub FaultsInNumbers : Type 0
FaultsInNumbers =
    (before after : Ends) (status : Status) → Outcome before after status
    → ((before.read_faults < after.read_faults) ↔ (number_of status ≡ 3))
    × ((before.write_faults < after.write_faults) ↔ (number_of status ≡ 4)) × (number_of status ≡ 6 → ⊥)

-- A workload. Where no write fails the program ends with 0, and the whole summary of the output stands behind what the
-- sink held; or it ends with 5, and a front of it does. Where one fails it ends with 4, and a front of it does. No more
-- modules were judged than the commands find stale.
abbrev pub WorkloadsInBytes : Type 0
WorkloadsInBytes =
    (number : ℕ) (held : List ℕ) (sum reads more_reads writes more_writes judged later : ℕ)
    (left left_later written : Option (List ℕ)) (status : Status) → 1 ≤ number → number ≤ 200
    → AreStale (workload number).devices no_module [] (requests_of (workload number)) sum
    → WorkloadOutcome (ends left reads (Some held) writes judged) (ends left_later more_reads written more_writes later)
    number status
    → (((number_of status ≡ 0) × (written ≡ Some (held ++ summary_text number (workload_output number)))
    × (more_writes ≡ writes))
    ⊎ (((count : ℕ) × (count ≤ length (summary_text number (workload_output number)))
    × (written ≡ Some (held ++ take count (summary_text number (workload_output number)))))
    × (((number_of status ≡ 5) × (more_writes ≡ writes)) ⊎ ((number_of status ≡ 4) × (writes < more_writes)))))
    × (later ≤ judged + sum)

-- the summaries of the outputs of one module, of two, and of the most
abbrev pub SummariesInBytes : Type 0
SummariesInBytes =
    (summary_text 1 (workload_output 1) ≡ codes "workload 1\nlines 14\nbytes 159\nlast done unit after 7 steps\n")
    × (summary_text 2 (workload_output 2) ≡ codes "workload 2\nlines 17\nbytes 183\nlast done unit after 12 steps\n")
    × (summary_text 200 (workload_output 200)
    ≡ codes "workload 200\nlines 611\nbytes 5619\nlast done unit after 1002 steps\n")

-- The call, with these words, of a source and a sink in memory, which were so before it and behind it, as was the count of
-- the modules that were judged.
abbrev pub IsCallInMemory : SourceInMemory → SourceInMemory → SinkInMemory → SinkInMemory → ℕ → ℕ → List (List ℕ)
    → Status → Type 0
IsCallInMemory source source_later sink sink_later judged later words status =
    IsCall (source_later ≡ source) (sink_later ≡ sink)
    (ends (Some source.left) source.faults (Some sink.written) sink.faults judged)
    (ends (Some source_later.left) source_later.faults (Some sink_later.written) sink_later.faults later)
    words status

-- with no word it carries out the job of its source
abbrev pub NoWordAsksForTheJob : Type 0
NoWordAsksForTheJob =
    (source source_later : SourceInMemory) (sink sink_later : SinkInMemory) (judged later : ℕ) (status : Status)
    → IsCallInMemory source source_later sink sink_later judged later [] status
    → Outcome (ends (Some source.left) source.faults (Some sink.written) sink.faults judged)
    (ends (Some source_later.left) source_later.faults (Some sink_later.written) sink_later.faults later) status

-- the words of a workload of so many modules: the option with the number, as two words or with an equals sign between
abbrev pub AreWorkloadWords : ℕ → List (List ℕ) → Type 0
AreWorkloadWords number words =
    (1 ≤ number) × (number ≤ 200)
    × ((words ≡ codes "--workload" ∷ decimal number ∷ []) ⊎ (words ≡ (codes "--workload=" ++ decimal number) ∷ []))

-- With the words of a workload it carries that out, and the source is left as it was: what it has left, how often it
-- failed, and how often it was read.
abbrev pub WorkloadsLeaveTheSource : Type 0
WorkloadsLeaveTheSource =
    (source source_later : SourceInMemory) (sink sink_later : SinkInMemory) (judged later number : ℕ)
    (words : List (List ℕ)) (status : Status) → AreWorkloadWords number words
    → IsCallInMemory source source_later sink sink_later judged later words status
    → (source_later ≡ source)
    × WorkloadOutcome (ends (Some source.left) source.faults (Some sink.written) sink.faults judged)
    (ends (Some source_later.left) source_later.faults (Some sink_later.written) sink_later.faults later) number status

-- With any other words the program ends with 6, source and sink are left as they were, and no module is judged.
abbrev pub OtherWordsTouchNothing : Type 0
OtherWordsTouchNothing =
    (source source_later : SourceInMemory) (sink sink_later : SinkInMemory) (judged later : ℕ) (words : List (List ℕ))
    (status : Status) → (words ≡ [] → ⊥) → ((number : ℕ) → AreWorkloadWords number words → ⊥)
    → IsCallInMemory source source_later sink sink_later judged later words status
    → (number_of status ≡ 6) × (source_later ≡ source) × (sink_later ≡ sink) × (later ≡ judged)

-- so it is with these
abbrev pub BadWordsTouchNothing : Type 0
BadWordsTouchNothing =
    (source source_later : SourceInMemory) (sink sink_later : SinkInMemory) (judged later : ℕ) (words : List (List ℕ))
    (status : Status)
    → (words ≡ codes "--help" ∷ []) ⊎ (words ≡ codes "--workload" ∷ codes "201" ∷ [])
    ⊎ (words ≡ codes "--workload=201" ∷ []) ⊎ (words ≡ codes "--workload" ∷ codes "2" ∷ codes "x" ∷ [])
    → IsCallInMemory source source_later sink sink_later judged later words status
    → (number_of status ≡ 6) × (source_later ≡ source) × (sink_later ≡ sink) × (later ≡ judged)
