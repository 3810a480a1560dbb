-- What a call does, in bytes and numbers.
use Rattle.std.proofs.Common.{◌≡◌, ◌⊎◌, ℕ, ◌+◌, ◌<◌, ◌≤◌, Bool, true, false, if◌then◌else◌, List, [], ◌∷◌, ◌++◌, length, take, codes, Option, Some, None, refl, sym, ap, ◌∙◌, subst, inl, inr, ⊎_elim, arith}
use Rattle.std.specs.Fmt.{decimal, digits}
use lib.Utf8.{encode}
use Rattle.std.specs.Io.KnownBytes.{Appends, Consumes, IsAtEnd, Keeps}
use Rattle.std.proofs.lemmas.List.{append-nil, length-append}
use Rattle.cc_arguments.specs.Words.{AsksFor, WordsAskForOneThing, WordsInNoForm}
use Rattle.cc_arguments.specs.declared.words.Asked.{Asked}
use Rattle.cc_arguments.specs.declared.words.Asked.TheVariants as ways
use Rattle.cc_io.specs.CallPlans.{SourceInMemory, SinkInMemory}
use Rattle.cc_io.specs.Wholes.{TakesCount, AppendsFront}
use Rattle.cc_job.proofs.JobLaws.{one_job, one_bad_line}
use Rattle.cc_job.specs.declared.job.Job.{Job}
use Rattle.cc_job.specs.Jobs.{IsJob, IsBadAt}
use Rattle.cc_replies.proofs.OutputLaws.{outputs_are_unique}
use Rattle.cc_replies.proofs.StaleLaws.{stale_is_one}
use Rattle.cc_replies.specs.Outputs.{IsOutput}
use Rattle.cc_replies.specs.Requests.{no_module}
use Rattle.cc_replies.specs.StaleModules.{AreStale}
use Rattle.cc_summary.specs.Summaries.{summary_text}
use Rattle.cc_workload.specs.Workloads.{workload}
use Rattle.cc_workload_outputs.specs.WorkloadOutputs.{workload_output, WorkloadsEndClean}
use Rattle.cc_program.proofs.WorkloadOutcomes.{one_output}
use Rattle.cc_answers.proofs.Answering.{none_present}
use Rattle.cc_answers.specs.Requests.{requests_of}
use Rattle.cc_program.proofs.Exact.{fault_is_told}
use Rattle.cc_program.specs.declared.status.Status.{Status}
use Rattle.cc_program.specs.declared.status.Status.TheVariants as statuses
use Rattle.cc_program.specs.CallLaws.{JobsInBytes, BadJobsInBytes, TooLongJobsInBytes, ReadFaultsInBytes, WriteFaultsInBytes, FaultsInNumbers, WorkloadsInBytes, SummariesInBytes, IsCallInMemory, NoWordAsksForTheJob, WorkloadsLeaveTheSource, OtherWordsTouchNothing, BadWordsTouchNothing}
use Rattle.cc_program.specs.Calls.{Does}
use Rattle.cc_program.specs.Outcome.{Ends, ends, ReadsWhole, ReadsJob, JudgesStale, IsCarriedOut, IsCutOff, Outcome}
use Rattle.cc_program.specs.Status.{number_of, message_of}
use Rattle.cc_program.specs.WorkloadOutcome.{IsSummarized, IsSummaryCutOff, WorkloadOutcome}

-- of a source that was read whole nothing is left, and what was read is all that it had
nothing_left : (bytes read : List ℕ) (left : Option (List ℕ)) → Consumes (Some bytes) left read → IsAtEnd left → left ≡ Some []
nothing_left bytes read None c e = absurd c
nothing_left bytes read (Some rest) c e = ap Some e

all_read : (bytes read : List ℕ) (left : Option (List ℕ)) → Consumes (Some bytes) left read → IsAtEnd left → read ≡ bytes
all_read bytes read None c e = absurd c
all_read bytes read (Some rest) c e = sym (append-nil read) ∙ (ap (λ t. read ++ t) (sym e) ∙ sym c)

-- what was taken stands before what is left
record WasTaken (P : ℕ → Type 0) (bytes : List ℕ) (left : Option (List ℕ)) : Type 0 where
  taken : List ℕ
  rest : List ℕ
  split : bytes ≡ taken ++ rest
  is_left : left ≡ Some rest
  count : P (length taken)

was_taken : (P : ℕ → Type 0) (bytes : List ℕ) (left : Option (List ℕ)) → TakesCount P (Some bytes) left → WasTaken P bytes left
was_taken P bytes None (read, c, count) = absurd c
was_taken P bytes (Some rest) (read, c, count) = record { taken = read; rest = rest; split = c; is_left = refl; count = count }

is_held : (held : List ℕ) (written : Option (List ℕ)) → Keeps (Some held) written → written ≡ Some held
is_held held None h = absurd h
is_held held (Some now) h = ap Some h

is_appended : (held text : List ℕ) (written : Option (List ℕ)) → Appends (Some held) written text → written ≡ Some (held ++ text)
is_appended held text None h = absurd h
is_appended held text (Some now) h = ap Some h

-- a front of the text stands behind what was held
abbrev HoldsFront : List ℕ → Option (List ℕ) → List ℕ → Type 0
HoldsFront held written text = (count : ℕ) × (count ≤ length text) × (written ≡ Some (held ++ take count text))

holds_front : (held text : List ℕ) (written : Option (List ℕ)) → AppendsFront (Some held) written text → HoldsFront held written text
holds_front held text written (count, inside, h) = (count, inside, is_appended held (take count text) written h)

-- a count that stayed did not rise
not_risen : (before after : ℕ) {P : Type 0} → after ≡ before → before < after → P
not_risen before after same rose = absurd (omega arith)

-- the output of a job, and how many modules its commands find stale
record HasOutput (job : Job) (text : List ℕ) (refused : Bool) (sum : ℕ) : Type 0 where
  output : IsOutput job.devices no_module (requests_of job) text refused
  stale : AreStale job.devices no_module [] (requests_of job) sum

-- some bytes were taken, and the others are left
abbrev TookSome : List ℕ → Option (List ℕ) → Type 0
TookSome bytes left = (taken : List ℕ) × (rest : List ℕ) × (bytes ≡ taken ++ rest) × (left ≡ Some rest)

took_some : (P : ℕ → Type 0) (bytes : List ℕ) (left : Option (List ℕ)) → TakesCount P (Some bytes) left → TookSome bytes left
took_some P bytes left takes =
    let it = was_taken P bytes left takes in
    (it.taken, it.rest, it.split, it.is_left)

-- a call that begins and ends so
module _ (bytes held : List ℕ) (reads more_reads writes more_writes judged later : ℕ) (left written : Option (List ℕ)) where
  abbrev before : Ends
  before = ends (Some bytes) reads (Some held) writes judged

  abbrev after : Ends
  after = ends left more_reads written more_writes later

  whole_left : (read : List ℕ) → ReadsWhole before after read → left ≡ Some []
  whole_left read w = nothing_left bytes read left w.consumed w.ended

  whole_read : (read : List ℕ) → ReadsWhole before after read → read ≡ bytes
  whole_read read w = all_read bytes read left w.consumed w.ended

  whole_short : (read : List ℕ) → ReadsWhole before after read → length bytes ≤ 4194304
  whole_short read w = subst (λ bs. length bs ≤ 4194304) (whole_read read w) w.short

  read_is_job : (job : Job) → ReadsJob before after job → IsJob bytes job
  read_is_job job r = subst (λ bs. IsJob bs job) (whole_read r.bytes r.whole) r.is_job

  few_judged : (job : Job) (text : List ℕ) (refused : Bool) (sum : ℕ) → HasOutput job text refused sum → JudgesStale before after job
      → later ≤ judged + sum
  few_judged job text refused sum has judges =
      subst (λ s. later ≤ judged + s)
      (stale_is_one job.devices no_module [] (requests_of job) judges.sum sum none_present judges.stale has.stale) judges.few

  -- more bytes than the limit were not taken where there are not so many
  not_so_many : {P : Type 0} → length bytes ≤ 4194304 → TakesCount (λ n. n ≡ 4194305) (Some bytes) left → P
  not_so_many short takes =
      let it = was_taken (λ n. n ≡ 4194305) bytes left takes in
      let split = ap length it.split ∙ length-append it.taken it.rest in
      let count = it.count in
      absurd (omega arith)

  module _ (job : Job) (text : List ℕ) (refused : Bool) (sum : ℕ) (has : HasOutput job text refused sum) where
    record WroteWhole (told : Bool) : Type 0 where
      left_is : left ≡ Some []
      written_is : written ≡ Some (held ++ text)
      told_is : told ≡ refused
      few : later ≤ judged + sum

    carried_out : (other : Job) (told : Bool) → other ≡ job → IsCarriedOut before after other told → WroteWhole told
    carried_out other told same out =
        let it = subst (λ j. IsCarriedOut before after j told) same out in
        let one = outputs_are_unique job.devices no_module (requests_of job) it.text text told refused none_present it.output has.output in
        record {
          left_is = whole_left it.read.bytes it.read.whole;
          written_is = is_appended held it.text written it.written ∙ ap (λ t. Some (held ++ t)) one.0;
          told_is = one.1;
          few = few_judged job text refused sum has it.judges;
        }

    record WroteFront : Type 0 where
      left_is : left ≡ Some []
      front : HoldsFront held written text
      few : later ≤ judged + sum

    cut_off : (other : Job) → other ≡ job → IsCutOff before after other → WroteFront
    cut_off other same cut =
        let it = subst (IsCutOff before after) same cut in
        let one = outputs_are_unique job.devices no_module (requests_of job) it.text text it.refused refused none_present it.output has.output in
        record {
          left_is = whole_left it.read.bytes it.read.whole;
          front = subst (HoldsFront held written) one.0 (holds_front held it.text written it.written);
          few = few_judged job text refused sum has it.judges;
        }

    -- how a job's call ends where nothing fails
    abbrev JobEnds : ℕ → Type 0
    JobEnds number =
        ((number ≡ (if refused then 1 else 0)) × (left ≡ Some []) × (written ≡ Some (held ++ text)) × (later ≤ judged + sum))
        ⊎ ((number ≡ 5) × (left ≡ Some []) × HoldsFront held written text × (later ≤ judged + sum))
        ⊎ ((number ≡ 5) × TookSome bytes left × (written ≡ Some held) × (later ≡ judged))

    whole_end : (told : Bool) → WroteWhole told → JobEnds (if told then 1 else 0)
    whole_end told it = inl (ap (λ b. if b then 1 else 0) it.told_is, it.left_is, it.written_is, it.few)

    late_end : WroteFront → JobEnds 5
    late_end it = inr (inl (refl, it.left_is, it.front, it.few))

    job_ends : (same_reads : more_reads ≡ reads) (same_writes : more_writes ≡ writes) → length bytes ≤ 4194304 → IsJob bytes job
        → (status : Status) → Outcome before after status → JobEnds (number_of status)
    job_ends same_reads same_writes short is statuses.Clean o =
        whole_end false (carried_out o.0 false (one_job bytes o.0 job (read_is_job o.0 o.1.read) is) o.1)
    job_ends same_reads same_writes short is statuses.Refusals o =
        whole_end true (carried_out o.0 true (one_job bytes o.0 job (read_is_job o.0 o.1.read) is) o.1)
    job_ends same_reads same_writes short is (statuses.BadJob line) o =
        absurd (o.no_job.none job (subst (λ bs. IsJob bs job) (sym (whole_read o.bytes o.whole)) is))
    job_ends same_reads same_writes short is statuses.ReadFault o = not_risen reads more_reads same_reads o.fault
    job_ends same_reads same_writes short is statuses.WriteFault o = not_risen writes more_writes same_writes o.1.fault
    job_ends same_reads same_writes short is statuses.NoMemory o =
        ⊎_elim
        (λ early. inr (inr (
          refl,
          took_some (λ n. n ≤ 4194304) bytes left early.taken.taken,
          is_held held written early.silent.kept,
          early.silent.none_judged,
        )))
        (λ late. late_end (cut_off late.0 (one_job bytes late.0 job (read_is_job late.0 late.1.cut.read) is) late.1.cut)) o
    job_ends same_reads same_writes short is statuses.BadWords o = absurd o
    job_ends same_reads same_writes short is statuses.TooLong o = not_so_many short o.0.taken

  -- how a call ends with a bad line where nothing fails
  abbrev BadJobEnds : ℕ → Status → Type 0
  BadJobEnds line status =
      (((number_of status ≡ 2) × (message_of status ≡ Some (codes "capc: bad job at line " ++ decimal line)) × (left ≡ Some []))
      ⊎ ((number_of status ≡ 5) × TookSome bytes left))
      × (written ≡ Some held) × (later ≡ judged)

  bad_job_ends : (line : ℕ) → more_reads ≡ reads → more_writes ≡ writes → length bytes ≤ 4194304 → IsBadAt bytes line → (status : Status)
      → Outcome before after status → BadJobEnds line status
  bad_job_ends line same_reads same_writes short bad statuses.Clean o = absurd (bad.none o.0 (read_is_job o.0 o.1.read))
  bad_job_ends line same_reads same_writes short bad statuses.Refusals o = absurd (bad.none o.0 (read_is_job o.0 o.1.read))
  bad_job_ends line same_reads same_writes short bad (statuses.BadJob other) o =
      let same = one_bad_line bytes other line (subst (λ bs. IsBadAt bs other) (whole_read o.bytes o.whole) o.no_job) bad in (
        inl (refl, ap (λ n. Some (codes "capc: bad job at line " ++ decimal n)) same, whole_left o.bytes o.whole),
        is_held held written o.silent.kept,
        o.silent.none_judged,
      )
  bad_job_ends line same_reads same_writes short bad statuses.ReadFault o = not_risen reads more_reads same_reads o.fault
  bad_job_ends line same_reads same_writes short bad statuses.WriteFault o = not_risen writes more_writes same_writes o.1.fault
  bad_job_ends line same_reads same_writes short bad statuses.NoMemory o =
      ⊎_elim
      (λ early. (
        inr (refl, took_some (λ n. n ≤ 4194304) bytes left early.taken.taken),
        is_held held written early.silent.kept,
        early.silent.none_judged,
      ))
      (λ late. absurd (bad.none late.0 (read_is_job late.0 late.1.cut.read))) o
  bad_job_ends line same_reads same_writes short bad statuses.BadWords o = absurd o
  bad_job_ends line same_reads same_writes short bad statuses.TooLong o = not_so_many short o.0.taken

  -- how a call ends with too many bytes where nothing fails
  abbrev LongJobEnds : ℕ → Type 0
  LongJobEnds number =
      ((taken : List ℕ) × (rest : List ℕ) × (bytes ≡ taken ++ rest) × (left ≡ Some rest)
      × (((number ≡ 7) × (length taken ≡ 4194305)) ⊎ ((number ≡ 5) × (length taken ≤ 4194304))))
      × (written ≡ Some held) × (later ≡ judged)

  not_whole : {P : Type 0} (read : List ℕ) → 4194304 < length bytes → ReadsWhole before after read → P
  not_whole read long w = let short = whole_short read w in absurd (omega arith)

  long_job_ends : more_reads ≡ reads → more_writes ≡ writes → 4194304 < length bytes → (status : Status)
      → Outcome before after status → LongJobEnds (number_of status)
  long_job_ends same_reads same_writes long statuses.Clean o = not_whole o.1.read.bytes long o.1.read.whole
  long_job_ends same_reads same_writes long statuses.Refusals o = not_whole o.1.read.bytes long o.1.read.whole
  long_job_ends same_reads same_writes long (statuses.BadJob line) o = not_whole o.bytes long o.whole
  long_job_ends same_reads same_writes long statuses.ReadFault o = not_risen reads more_reads same_reads o.fault
  long_job_ends same_reads same_writes long statuses.WriteFault o = not_risen writes more_writes same_writes o.1.fault
  long_job_ends same_reads same_writes long statuses.NoMemory o =
      ⊎_elim
      (λ early.
      let it = was_taken (λ n. n ≤ 4194304) bytes left early.taken.taken in (
        (it.taken, it.rest, it.split, it.is_left, inr (refl, it.count)),
        is_held held written early.silent.kept,
        early.silent.none_judged,
      ))
      (λ late. not_whole late.1.cut.read.bytes long late.1.cut.read.whole) o
  long_job_ends same_reads same_writes long statuses.BadWords o = absurd o
  long_job_ends same_reads same_writes long statuses.TooLong o =
      let it = was_taken (λ n. n ≡ 4194305) bytes left o.0.taken in
      ((it.taken, it.rest, it.split, it.is_left, inl (refl, it.count)), is_held held written o.1.kept, o.1.none_judged)

  -- how a call ends where a read fails
  abbrev ReadFaultEnds : ℕ → Type 0
  ReadFaultEnds number =
      (number ≡ 3)
      × ((taken : List ℕ) × (rest : List ℕ) × (bytes ≡ taken ++ rest) × (left ≡ Some rest) × (length taken ≤ 4194304))
      × (written ≡ Some held) × (more_writes ≡ writes) × (later ≡ judged)

  read_fault_ends : reads < more_reads → (status : Status) → Outcome before after status → ReadFaultEnds (number_of status)
  read_fault_ends rose statuses.Clean o = not_risen reads more_reads o.1.read.whole.no_fault rose
  read_fault_ends rose statuses.Refusals o = not_risen reads more_reads o.1.read.whole.no_fault rose
  read_fault_ends rose (statuses.BadJob line) o = not_risen reads more_reads o.whole.no_fault rose
  read_fault_ends rose statuses.ReadFault o =
      let it = was_taken (λ n. n ≤ 4194304) bytes left o.taken in (
        refl,
        (it.taken, it.rest, it.split, it.is_left, it.count),
        is_held held written o.silent.kept,
        o.silent.no_fault,
        o.silent.none_judged,
      )
  read_fault_ends rose statuses.WriteFault o = not_risen reads more_reads o.1.cut.read.whole.no_fault rose
  read_fault_ends rose statuses.NoMemory o =
      ⊎_elim (λ early. not_risen reads more_reads early.taken.no_fault rose)
      (λ late. not_risen reads more_reads late.1.cut.read.whole.no_fault rose) o
  read_fault_ends rose statuses.BadWords o = absurd o
  read_fault_ends rose statuses.TooLong o = not_risen reads more_reads o.0.no_fault rose

  -- how a call ends where a write fails
  abbrev WriteFaultEnds : ℕ → Type 0
  WriteFaultEnds number =
      (number ≡ 4) × (length bytes ≤ 4194304) × (left ≡ Some []) × (more_reads ≡ reads)
      × ((job : Job) × IsJob bytes job
      × ((text : List ℕ) (refused : Bool) (sum : ℕ) → IsOutput job.devices no_module (requests_of job) text refused
      → AreStale job.devices no_module [] (requests_of job) sum → HoldsFront held written text × (later ≤ judged + sum)))

  write_fault_ends : writes < more_writes → (status : Status) → Outcome before after status → WriteFaultEnds (number_of status)
  write_fault_ends rose statuses.Clean o = not_risen writes more_writes o.1.no_fault rose
  write_fault_ends rose statuses.Refusals o = not_risen writes more_writes o.1.no_fault rose
  write_fault_ends rose (statuses.BadJob line) o = not_risen writes more_writes o.silent.no_fault rose
  write_fault_ends rose statuses.ReadFault o = not_risen writes more_writes o.silent.no_fault rose
  write_fault_ends rose statuses.WriteFault (job, fails) =
      let read = fails.cut.read in (
        refl,
        whole_short read.bytes read.whole,
        whole_left read.bytes read.whole,
        read.whole.no_fault,
        (
          job,
          read_is_job job read,
          λ text refused sum output stale.
              let it = cut_off job text refused sum (record { output = output; stale = stale }) job refl fails.cut in
              (it.front, it.few),
        ),
      )
  write_fault_ends rose statuses.NoMemory o =
      ⊎_elim (λ early. not_risen writes more_writes early.silent.no_fault rose)
      (λ late. not_risen writes more_writes late.1.no_fault rose) o
  write_fault_ends rose statuses.BadWords o = absurd o
  write_fault_ends rose statuses.TooLong o = not_risen writes more_writes o.1.no_fault rose

pub jobs_in_bytes : JobsInBytes
jobs_in_bytes bytes held text job refused sum reads writes judged later left written status short is output stale o =
    job_ends bytes held reads reads writes writes judged later left written job text refused sum
    (record { output = output; stale = stale }) refl refl short is status o

pub bad_jobs_in_bytes : BadJobsInBytes
bad_jobs_in_bytes bytes held line reads writes judged later left written status short bad o =
    bad_job_ends bytes held reads reads writes writes judged later left written line refl refl short bad status o

pub too_long_jobs_in_bytes : TooLongJobsInBytes
too_long_jobs_in_bytes bytes held reads writes judged later left written status long o =
    long_job_ends bytes held reads reads writes writes judged later left written refl refl long status o

pub read_faults_in_bytes : ReadFaultsInBytes
read_faults_in_bytes bytes held reads more_reads writes more_writes judged later left written status rose o =
    read_fault_ends bytes held reads more_reads writes more_writes judged later left written rose status o

pub write_faults_in_bytes : WriteFaultsInBytes
write_faults_in_bytes bytes held reads more_reads writes more_writes judged later left written status rose o =
    write_fault_ends bytes held reads more_reads writes more_writes judged later left written rose status o

-- the number tells the faults apart
is_three : (status : Status) → number_of status ≡ 3 → status ≡ statuses.ReadFault
is_three statuses.ReadFault e = refl
is_three statuses.Clean e = absurd (omega arith)
is_three statuses.Refusals e = absurd (omega arith)
is_three (statuses.BadJob line) e = absurd (omega arith)
is_three statuses.WriteFault e = absurd (omega arith)
is_three statuses.NoMemory e = absurd (omega arith)
is_three statuses.BadWords e = absurd (omega arith)
is_three statuses.TooLong e = absurd (omega arith)

is_four : (status : Status) → number_of status ≡ 4 → status ≡ statuses.WriteFault
is_four statuses.WriteFault e = refl
is_four statuses.Clean e = absurd (omega arith)
is_four statuses.Refusals e = absurd (omega arith)
is_four (statuses.BadJob line) e = absurd (omega arith)
is_four statuses.ReadFault e = absurd (omega arith)
is_four statuses.NoMemory e = absurd (omega arith)
is_four statuses.BadWords e = absurd (omega arith)
is_four statuses.TooLong e = absurd (omega arith)

not_six : (before after : Ends) (status : Status) → Outcome before after status → number_of status ≡ 6 → ⊥
not_six before after statuses.BadWords o e = o
not_six before after statuses.Clean o e = omega arith
not_six before after statuses.Refusals o e = omega arith
not_six before after (statuses.BadJob line) o e = omega arith
not_six before after statuses.ReadFault o e = omega arith
not_six before after statuses.WriteFault o e = omega arith
not_six before after statuses.NoMemory o e = omega arith
not_six before after statuses.TooLong o e = omega arith

pub faults_in_numbers : FaultsInNumbers
faults_in_numbers before after status o =
    let told = fault_is_told before after status o in (
      (λ rose. ap number_of (told.0.0 rose), λ e. told.0.1 (is_three status e)),
      (λ rose. ap number_of (told.1.0 rose), λ e. told.1.1 (is_four status e)),
      not_six before after status o,
    )

-- a workload's call that begins and ends so
module _ (clean : WorkloadsEndClean) (number : ℕ) (held : List ℕ) (sum reads more_reads writes more_writes judged later : ℕ)
    (left left_later written : Option (List ℕ)) (low : 1 ≤ number) (high : number ≤ 200)
    (stale : AreStale (workload number).devices no_module [] (requests_of (workload number)) sum) where
  abbrev begun : Ends
  begun = ends left reads (Some held) writes judged

  abbrev done : Ends
  done = ends left_later more_reads written more_writes later

  abbrev summary : List ℕ
  summary = summary_text number (workload_output number)

  few_of : JudgesStale begun done (workload number) → later ≤ judged + sum
  few_of judges =
      subst (λ s. later ≤ judged + s)
      (stale_is_one (workload number).devices no_module [] (requests_of (workload number)) judges.sum sum none_present judges.stale stale)
      judges.few

  abbrev WorkloadEnds : ℕ → Type 0
  WorkloadEnds code =
      (((code ≡ 0) × (written ≡ Some (held ++ summary)) × (more_writes ≡ writes))
      ⊎ (HoldsFront held written summary
      × (((code ≡ 5) × (more_writes ≡ writes)) ⊎ ((code ≡ 4) × (writes < more_writes)))))
      × (later ≤ judged + sum)

  summarized_end : IsSummarized begun done number → WorkloadEnds 0
  summarized_end it = (
    inl (
      refl,
      is_appended held (summary_text number it.text) written it.written
          ∙ ap (λ t. Some (held ++ summary_text number t)) (one_output clean number low high it.text false it.output).0,
      it.no_fault,
    ),
    few_of it.judges,
  )

  cut_front : IsSummaryCutOff begun done number → HoldsFront held written summary
  cut_front it =
      subst (λ t. HoldsFront held written (summary_text number t)) (one_output clean number low high it.text false it.output).0
      (holds_front held (summary_text number it.text) written it.written)

  workload_ends : (status : Status) → WorkloadOutcome begun done number status → WorkloadEnds (number_of status)
  workload_ends statuses.Clean o = summarized_end o
  workload_ends statuses.Refusals o = absurd o
  workload_ends (statuses.BadJob line) o = absurd o
  workload_ends statuses.ReadFault o = absurd o
  workload_ends statuses.WriteFault o = (inr (cut_front o.cut, inr (refl, o.fault)), few_of o.cut.judges)
  workload_ends statuses.NoMemory o = (inr (cut_front o.cut, inl (refl, o.no_fault)), few_of o.cut.judges)
  workload_ends statuses.BadWords o = absurd o
  workload_ends statuses.TooLong o = absurd o

pub workloads_in_bytes : WorkloadsEndClean → WorkloadsInBytes
workloads_in_bytes clean number held sum reads more_reads writes more_writes judged later left left_later written status low high stale o =
    workload_ends clean number held sum reads more_reads writes more_writes judged later left left_later written low high stale status o

pub summaries_in_bytes : SummariesInBytes
unfolding digits encode
summaries_in_bytes = (refl, refl, refl)

-- what a call does, where its words ask for this
module _ (one_thing : WordsAskForOneThing) (source source_later : SourceInMemory) (sink sink_later : SinkInMemory) (judged later : ℕ)
    (words : List (List ℕ)) (status : Status) where
  does_as_asked : (asked : Asked) → AsksFor words asked → IsCallInMemory source source_later sink sink_later judged later words status
      → Does (source_later ≡ source) (sink_later ≡ sink)
      (ends (Some source.left) source.faults (Some sink.written) sink.faults judged)
      (ends (Some source_later.left) source_later.faults (Some sink_later.written) sink_later.faults later) asked status
  does_as_asked asked asks call =
      subst (λ a.
      Does (source_later ≡ source) (sink_later ≡ sink)
      (ends (Some source.left) source.faults (Some sink.written) sink.faults judged)
      (ends (Some source_later.left) source_later.faults (Some sink_later.written) sink_later.faults later) a status)
      (one_thing words call.asked asked call.asks asks) call.does

  touched_nothing : AsksFor words ways.Nothing → IsCallInMemory source source_later sink sink_later judged later words status
      → (number_of status ≡ 6) × (source_later ≡ source) × (sink_later ≡ sink) × (later ≡ judged)
  touched_nothing asks call =
      let it = does_as_asked ways.Nothing asks call in
      (ap number_of it.0, it.1, it.2, it.3)

pub no_word_asks_for_the_job : WordsAskForOneThing → NoWordAsksForTheJob
no_word_asks_for_the_job one_thing source source_later sink sink_later judged later status call =
    does_as_asked one_thing source source_later sink sink_later judged later [] status ways.Job refl call

pub workloads_leave_the_source : WordsAskForOneThing → WorkloadsLeaveTheSource
workloads_leave_the_source one_thing source source_later sink sink_later judged later number words status are call =
    does_as_asked one_thing source source_later sink sink_later judged later words status (ways.Workload number) are call

pub other_words_touch_nothing : WordsAskForOneThing → OtherWordsTouchNothing
other_words_touch_nothing one_thing source source_later sink sink_later judged later words status some none call =
    touched_nothing one_thing source source_later sink sink_later judged later words status (some, none) call

-- these words ask for nothing
bad_words_ask : WordsInNoForm → (words : List (List ℕ))
    → (words ≡ codes "--help" ∷ []) ⊎ (words ≡ codes "--workload" ∷ codes "201" ∷ [])
    ⊎ (words ≡ codes "--workload=201" ∷ []) ⊎ (words ≡ codes "--workload" ∷ codes "2" ∷ codes "x" ∷ [])
    → AsksFor words ways.Nothing
bad_words_ask worked words (inl e) = subst (λ them. AsksFor them ways.Nothing) (sym e) worked.11
bad_words_ask worked words (inr (inl e)) = subst (λ them. AsksFor them ways.Nothing) (sym e) worked.3
bad_words_ask worked words (inr (inr (inl e))) = subst (λ them. AsksFor them ways.Nothing) (sym e) worked.4
bad_words_ask worked words (inr (inr (inr e))) = subst (λ them. AsksFor them ways.Nothing) (sym e) worked.8

pub bad_words_touch_nothing : WordsAskForOneThing → WordsInNoForm → BadWordsTouchNothing
bad_words_touch_nothing one_thing worked source source_later sink sink_later judged later words status these call =
    touched_nothing one_thing source source_later sink sink_later judged later words status (bad_words_ask worked words these) call
