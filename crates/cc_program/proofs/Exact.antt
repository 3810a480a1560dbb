-- The answers of the top call exclude each other.
use Rattle.std.proofs.Common.{◌≡◌, ◌↔◌, ℕ, ◌+◌, ◌<◌, ◌≤◌, Bool, true, false, List, [], ◌++◌, length, Option, Some, None, refl, sym, ap, ◌∙◌, subst, inl, inr, ⊎_elim, arith}
use Rattle.std.specs.Io.KnownBytes.{Consumes, IsAtEnd, Keeps}
use Rattle.std.proofs.lemmas.List.{append-nil, length-append}
use Rattle.cc_io.specs.Wholes.{AppendsFront}
use Rattle.cc_job.specs.declared.job.Job.{Job}
use Rattle.cc_job.specs.Jobs.{IsJob, IsBadAt}
use Rattle.cc_job.proofs.JobLaws.{one_job}
use Rattle.cc_replies.proofs.OutputLaws.{outputs_exist}
use Rattle.cc_replies.specs.Requests.{no_module}
use Rattle.cc_program.specs.declared.status.Status.{Status}
use Rattle.cc_program.specs.declared.status.Status.TheVariants as statuses
use Rattle.cc_answers.specs.Requests.{requests_of}
use Rattle.cc_program.specs.Outcome.{job_limit, Ends, TakesMany, ReadsWhole, ReadsJob, JudgesStale, IsCarriedOut, IsCutOff, ReadsNoJob}
use Rattle.cc_program.specs.Exactness.{IsFaultless, WritesFront, AJobIsAnswered, WhatIsNoJobIsRefused, WhatIsTooLongIsRefused, AFaultIsTold, OnlyTheOutputIsWritten, OnlyStaleModulesAreJudged}
use Rattle.cc_answers.proofs.Answering.{none_present}
use Rattle.cc_answers.proofs.OutputFronts.{AppendsFront-none, AppendsFront-whole}

-- what is read to the end of a source is all that it had
all_bytes : (left after : Option (List ℕ)) (bytes read : List ℕ) → left ≡ Some bytes → Consumes left after read → IsAtEnd after → read ≡ bytes
all_bytes None after bytes read h c e = cc
all_bytes (Some xs) None bytes read h c e = absurd c
all_bytes (Some xs) (Some ys) bytes read h c e = sym (append-nil read) ∙ (ap (λ t. read ++ t) (sym e) ∙ (sym c ∙ some_same h))
  where
    some_same : Some xs ≡ Some bytes → xs ≡ bytes
    some_same h = cc

-- what is taken from a source is no more than it had
taken_bytes : (left after : Option (List ℕ)) (bytes read : List ℕ) → left ≡ Some bytes → Consumes left after read → length read ≤ length bytes
taken_bytes None after bytes read h c = cc
taken_bytes (Some xs) None bytes read h c = absurd c
taken_bytes (Some xs) (Some ys) bytes read h c =
    let same : xs ≡ bytes = cc in
    omega (arith, length-append read ys, ap length c, ap length same)

read_bytes : (before after : Ends) (bytes read : List ℕ) → IsFaultless before after bytes → ReadsWhole before after read → read ≡ bytes
read_bytes before after bytes read f w = all_bytes before.left after.left bytes read f.told w.consumed w.ended

-- the job that was read is the one that the bytes are
read_job : (before after : Ends) (bytes : List ℕ) (job other : Job) → IsFaultless before after bytes → IsJob bytes job → ReadsJob before after other → other ≡ job
read_job before after bytes job other f is r =
    one_job bytes other job (subst (λ bs. IsJob bs other) (read_bytes before after bytes r.bytes f r.whole) r.is_job) is

no_read : (before after : Ends) (bytes : List ℕ) (other : Job) → IsFaultless before after bytes → ((job : Job) → IsJob bytes job → ⊥) → ReadsJob before after other → ⊥
no_read before after bytes other f none r =
    none other (subst (λ bs. IsJob bs other) (read_bytes before after bytes r.bytes f r.whole) r.is_job)

-- no more than the limit was read
short_read : (before after : Ends) (bytes read : List ℕ) → IsFaultless before after bytes → ReadsWhole before after read → length bytes ≤ job_limit
short_read before after bytes read f w = subst (λ bs. length bs ≤ job_limit) (read_bytes before after bytes read f w) w.short

-- nothing is a front of the output of a job
no_front : (before after : Ends) (bytes : List ℕ) (job : Job) → IsJob bytes job → Keeps before.written after.written → WritesFront before after job
no_front before after bytes job is kept =
    let (text, refused, output) = outputs_exist job.devices no_module (requests_of job) is.names none_present in
    record { text = text; refused = refused; output = output; written = AppendsFront-none before.written after.written text kept }

cut_front : (before after : Ends) (job : Job) → IsCutOff before after job → WritesFront before after job
cut_front before after job cut =
    record { text = cut.text; refused = cut.refused; output = cut.output; written = cut.written }

whole_front : (before after : Ends) (job : Job) (refused : Bool) → IsCarriedOut before after job refused → WritesFront before after job
whole_front before after job refused out = record {
  text = out.text;
  refused = refused;
  output = out.output;
  written = AppendsFront-whole before.written after.written out.text out.written;
}

-- a count that stayed did not rise
not_risen : (a b : ℕ) {P : Type 0} → b ≡ a → a < b → P
not_risen a b same rose = absurd (omega arith)

-- more than the limit was not taken of bytes within it
not_too_many : (before after : Ends) (bytes : List ℕ) {P : Type 0} → IsFaultless before after bytes → length bytes ≤ job_limit
    → TakesMany (λ n. n ≡ job_limit + 1) before after → P
not_too_many before after bytes f short many =
    let taken = many.taken in
    let most = taken_bytes before.left after.left bytes taken.0 f.told taken.1 in
    let count = taken.2 in
    absurd (omega arith)

-- bytes that are a job have no bad line
not_bad : (before after : Ends) (bytes : List ℕ) (job : Job) (number : ℕ) {P : Type 0} → IsFaultless before after bytes → IsJob bytes job
    → ReadsNoJob before after number → P
not_bad before after bytes job number f is o =
    absurd (o.no_job.none job (subst (λ bs. IsJob bs job) (sym (read_bytes before after bytes o.bytes f o.whole)) is))

pub job_is_answered : AJobIsAnswered
job_is_answered before after statuses.Clean bytes job f short is o =
    let same = read_job before after bytes job o.0 f is o.1.read in
    inl (false, subst (λ j. IsCarriedOut before after j false) same o.1, refl)
job_is_answered before after statuses.Refusals bytes job f short is o =
    let same = read_job before after bytes job o.0 f is o.1.read in
    inl (true, subst (λ j. IsCarriedOut before after j true) same o.1, refl)
job_is_answered before after (statuses.BadJob number) bytes job f short is o = not_bad before after bytes job number f is o
job_is_answered before after statuses.ReadFault bytes job f short is o =
    not_risen before.read_faults after.read_faults f.no_read_fault o.fault
job_is_answered before after statuses.WriteFault bytes job f short is o =
    not_risen before.write_faults after.write_faults f.no_write_fault o.1.fault
job_is_answered before after statuses.NoMemory bytes job f short is o =
    inr (
      refl,
      ⊎_elim
          (λ early. no_front before after bytes job is early.silent.kept)
          (λ late. subst (WritesFront before after) (read_job before after bytes job late.0 f is late.1.cut.read) (cut_front before after late.0 late.1.cut)) o,
    )
job_is_answered before after statuses.BadWords bytes job f short is o = absurd o
job_is_answered before after statuses.TooLong bytes job f short is o = not_too_many before after bytes f short o.0

pub no_job_is_refused : WhatIsNoJobIsRefused
no_job_is_refused before after statuses.Clean bytes f short none o = absurd (no_read before after bytes o.0 f none o.1.read)
no_job_is_refused before after statuses.Refusals bytes f short none o = absurd (no_read before after bytes o.0 f none o.1.read)
no_job_is_refused before after (statuses.BadJob number) bytes f short none o =
    inl (number, subst (λ bs. IsBadAt bs number) (read_bytes before after bytes o.bytes f o.whole) o.no_job, refl, o.silent)
no_job_is_refused before after statuses.ReadFault bytes f short none o =
    not_risen before.read_faults after.read_faults f.no_read_fault o.fault
no_job_is_refused before after statuses.WriteFault bytes f short none o =
    not_risen before.write_faults after.write_faults f.no_write_fault o.1.fault
no_job_is_refused before after statuses.NoMemory bytes f short none o =
    ⊎_elim (λ early. inr (refl, early.silent)) (λ late. absurd (no_read before after bytes late.0 f none late.1.cut.read)) o
no_job_is_refused before after statuses.BadWords bytes f short none o = absurd o
no_job_is_refused before after statuses.TooLong bytes f short none o = not_too_many before after bytes f short o.0

-- what was read whole is no longer than the limit
not_long : (before after : Ends) (bytes read : List ℕ) {P : Type 0} → IsFaultless before after bytes → job_limit < length bytes
    → ReadsWhole before after read → P
not_long before after bytes read f long whole = let short = short_read before after bytes read f whole in absurd (omega arith)

pub too_long_is_refused : WhatIsTooLongIsRefused
too_long_is_refused before after statuses.Clean bytes f long o = not_long before after bytes o.1.read.bytes f long o.1.read.whole
too_long_is_refused before after statuses.Refusals bytes f long o = not_long before after bytes o.1.read.bytes f long o.1.read.whole
too_long_is_refused before after (statuses.BadJob number) bytes f long o = not_long before after bytes o.bytes f long o.whole
too_long_is_refused before after statuses.ReadFault bytes f long o = not_risen before.read_faults after.read_faults f.no_read_fault o.fault
too_long_is_refused before after statuses.WriteFault bytes f long o = not_risen before.write_faults after.write_faults f.no_write_fault o.1.fault
too_long_is_refused before after statuses.NoMemory bytes f long o =
    ⊎_elim (λ early. inr (refl, early.silent)) (λ late. not_long before after bytes late.1.cut.read.bytes f long late.1.cut.read.whole) o
too_long_is_refused before after statuses.BadWords bytes f long o = absurd o
too_long_is_refused before after statuses.TooLong bytes f long o = inl (refl, o.1)

-- neither count rose, and the status is neither fault
module _ (before after : Ends) (status : Status) where
  no_fault : after.read_faults ≡ before.read_faults → after.write_faults ≡ before.write_faults → (status ≡ statuses.ReadFault → ⊥) → (status ≡ statuses.WriteFault → ⊥)
      → ((before.read_faults < after.read_faults) ↔ (status ≡ statuses.ReadFault)) × ((before.write_faults < after.write_faults) ↔ (status ≡ statuses.WriteFault))
  no_fault read write not_read not_write =
      ((not_risen before.read_faults after.read_faults read, λ e. absurd (not_read e)), (not_risen before.write_faults after.write_faults write, λ e. absurd (not_write e)))

pub fault_is_told : AFaultIsTold
fault_is_told before after statuses.Clean o = no_fault before after _ o.1.read.whole.no_fault o.1.no_fault (λ e. cc) (λ e. cc)
fault_is_told before after statuses.Refusals o = no_fault before after _ o.1.read.whole.no_fault o.1.no_fault (λ e. cc) (λ e. cc)
fault_is_told before after (statuses.BadJob number) o = no_fault before after _ o.whole.no_fault o.silent.no_fault (λ e. cc) (λ e. cc)
fault_is_told before after statuses.ReadFault o =
    ((λ rose. refl, λ e. o.fault), (not_risen before.write_faults after.write_faults o.silent.no_fault, λ e. absurd (clash e)))
  where
    clash : statuses.ReadFault ≡ statuses.WriteFault → ⊥
    clash e = cc
fault_is_told before after statuses.WriteFault o =
    ((not_risen before.read_faults after.read_faults o.1.cut.read.whole.no_fault, λ e. absurd (clash e)), (λ rose. refl, λ e. o.1.fault))
  where
    clash : statuses.WriteFault ≡ statuses.ReadFault → ⊥
    clash e = cc
fault_is_told before after statuses.NoMemory o =
    ⊎_elim
    (λ early. no_fault before after statuses.NoMemory early.taken.no_fault early.silent.no_fault (λ e. cc) (λ e. cc))
    (λ late. no_fault before after statuses.NoMemory late.1.cut.read.whole.no_fault late.1.no_fault (λ e. cc) (λ e. cc)) o
fault_is_told before after statuses.BadWords o = absurd o
fault_is_told before after statuses.TooLong o = no_fault before after _ o.0.no_fault o.1.no_fault (λ e. cc) (λ e. cc)

pub only_output : OnlyTheOutputIsWritten
only_output before after statuses.Clean o = inr (o.0, o.1.read, whole_front before after o.0 false o.1)
only_output before after statuses.Refusals o = inr (o.0, o.1.read, whole_front before after o.0 true o.1)
only_output before after (statuses.BadJob number) o = inl o.silent.kept
only_output before after statuses.ReadFault o = inl o.silent.kept
only_output before after statuses.WriteFault o = inr (o.0, o.1.cut.read, cut_front before after o.0 o.1.cut)
only_output before after statuses.NoMemory o =
    ⊎_elim (λ early. inl early.silent.kept) (λ late. inr (late.0, late.1.cut.read, cut_front before after late.0 late.1.cut)) o
only_output before after statuses.BadWords o = absurd o
only_output before after statuses.TooLong o = inl o.1.kept

pub only_stale : OnlyStaleModulesAreJudged
only_stale before after statuses.Clean o = inr (o.0, o.1.read, o.1.judges)
only_stale before after statuses.Refusals o = inr (o.0, o.1.read, o.1.judges)
only_stale before after (statuses.BadJob number) o = inl o.silent.none_judged
only_stale before after statuses.ReadFault o = inl o.silent.none_judged
only_stale before after statuses.WriteFault o = inr (o.0, o.1.cut.read, o.1.cut.judges)
only_stale before after statuses.NoMemory o =
    ⊎_elim (λ early. inl early.silent.none_judged) (λ late. inr (late.0, late.1.cut.read, late.1.cut.judges)) o
only_stale before after statuses.BadWords o = absurd o
only_stale before after statuses.TooLong o = inl o.1.none_judged
