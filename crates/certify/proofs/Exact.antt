-- What a call tells, in bytes and numbers.
use Rattle.std.proofs.Common.{◌≡◌, ◌↔◌, ℕ, ◌<◌, ◌≤◌, Bool, true, false, List, [], ◌++◌, length, Option, Some, None, refl, sym, ap, ◌∙◌, subst, ⊎_elim, arith}
use Rattle.std.specs.Prelude.{IfSome}
use Rattle.std.specs.Io.KnownBytes.{Appends, Consumes, Keeps}
use Rattle.std.proofs.KnownBytes.{Consumes-whole}
use Rattle.std.proofs.lemmas.List.{append-nil, length-append}
use Rattle.cc_certificate_judging.specs.Answers.{Found, ProvesType, HasBadLine, HasBadNode, IsFound, is_valid}
use Rattle.cc_certificate_judging.proofs.BytesFound.{one_thing_is_found}
use Rattle.certify.specs.declared.status.Status.{Status}
use Rattle.certify.specs.declared.status.Status.TheVariants as statuses
use Rattle.certify.specs.Status.{number_of}
use Rattle.certify.specs.Outcome.{certificate_limit, Ends, IsSilent, Finds, WritesAnswer, answer_line, Outcome}
use Rattle.certify.specs.Exactness.{IsSmooth, Answers}
use Rattle.certify.specs.Exactness as law

same_bytes : {xs ys : List ℕ} → Some xs ≡ Some ys → xs ≡ ys
same_bytes h = cc

-- what a sink that held these bytes has when more were written
now_written : (old new : Option (List ℕ)) (held more : List ℕ) → old ≡ Some held → Appends old new more → new ≡ Some (held ++ more)
now_written None new held more h written = cc
now_written (Some xs) None held more h written = absurd written
now_written (Some xs) (Some ys) held more h written = ap Some (written ∙ ap (λ front. front ++ more) (same_bytes h))

still_written : (old new : Option (List ℕ)) (held : List ℕ) → old ≡ Some held → Keeps old new → new ≡ Some (held ++ [])
still_written None new held h kept = cc
still_written (Some xs) None held h kept = absurd kept
still_written (Some xs) (Some ys) held h kept = ap Some (kept ∙ (same_bytes h ∙ sym (append-nil held)))

-- what is taken from a source is no more than it had
taken_bytes : (left after : Option (List ℕ)) (bytes read : List ℕ) → left ≡ Some bytes → Consumes left after read → length read ≤ length bytes
taken_bytes None after bytes read h taken = cc
taken_bytes (Some xs) None bytes read h taken = absurd taken
taken_bytes (Some xs) (Some ys) bytes read h taken =
    omega (arith, length-append read ys, ap length taken, ap length (same_bytes h))

-- what is said of all that was read is said of the bytes of the source
of_source : (P : List ℕ → Type 0) (before after : Ends) (bytes : List ℕ) (found : Found) → before.left ≡ Some bytes
    → (finds : Finds before after found) → P finds.bytes → P bytes
of_source P before after bytes found told finds is =
    subst (λ left. IfSome left P) told (Consumes-whole before.left after.left finds.bytes P finds.consumed finds.ended is)

-- a count that stayed did not rise
not_risen : (a b : ℕ) {P : Type 0} → b ≡ a → a < b → P
not_risen a b same rose = absurd (omega (arith, same, rose))

-- the number of a certificate that is valid, and of bytes that are none
abbrev pub valid_number : Bool → ℕ
valid_number true = 0
valid_number false = 1

-- what was found is what the bytes are
found_alike : (before after : Ends) (bytes : List ℕ) (found other : Found) → before.left ≡ Some bytes → Finds before after other
    → IsFound bytes found → other ≡ found
found_alike before after bytes found other told finds is =
    one_thing_is_found bytes other found (of_source (λ bs. IsFound bs other) before after bytes other told finds finds.is_found) is

wrote : (before after : Ends) (status : Status) (bytes held : List ℕ) (found other : Found) → IsSmooth before after status bytes held
    → IsFound bytes found → WritesAnswer before after other → number_of status ≡ valid_number (is_valid other)
    → Answers after status held (answer_line found) (valid_number (is_valid found))
wrote before after status bytes held found other smooth is writes number =
    let same = found_alike before after bytes found other smooth.source writes.finds is in record {
      ended = number ∙ ap (λ f. valid_number (is_valid f)) same;
      holds = now_written before.written after.written held (answer_line found) smooth.sink
          (subst (λ f. Appends before.written after.written (answer_line f)) same writes.written);
    }

-- what is found of the bytes is answered
answered : (before after : Ends) (status : Status) (bytes held : List ℕ) (found : Found) → IsSmooth before after status bytes held
    → length bytes ≤ 4294967295 → IsFound bytes found → Outcome before after status
    → Answers after status held (answer_line found) (valid_number (is_valid found))
answered before after statuses.Valid bytes held found smooth short is o =
    wrote before after statuses.Valid bytes held found o.0 smooth is o.2 (sym (ap valid_number o.1))
answered before after statuses.Invalid bytes held found smooth short is o =
    wrote before after statuses.Invalid bytes held found o.0 smooth is o.2 (sym (ap valid_number o.1))
answered before after statuses.ReadFault bytes held found smooth short is o =
    not_risen before.read_faults after.read_faults smooth.no_read_fault o.fault
answered before after statuses.TooLong bytes held found smooth short is o =
    let taken = o.0.taken in
    let most = taken_bytes before.left after.left bytes taken.0 smooth.source taken.1 in
    absurd (omega (arith, most, taken.2, short))
answered before after statuses.NoMemory bytes held found smooth short is o = absurd (smooth.memory refl)
answered before after statuses.WriteFault bytes held found smooth short is o =
    not_risen before.write_faults after.write_faults smooth.no_write_fault o.fault
answered before after statuses.BadWords bytes held found smooth short is o = absurd o

pub proof_is_answered : law.AProofIsAnswered
proof_is_answered before after status bytes held names type smooth short is o =
    answered before after status bytes held (ProvesType names type) smooth short is o

pub bad_line_is_answered : law.ABadLineIsAnswered
bad_line_is_answered before after status bytes held line smooth short is o =
    answered before after status bytes held (HasBadLine line) smooth short is o

pub bad_node_is_answered : law.ABadNodeIsAnswered
bad_node_is_answered before after status bytes held node smooth short is o =
    answered before after status bytes held (HasBadNode node) smooth short is o

-- nothing was written
silent : (before after : Ends) (status : Status) (held : List ℕ) → before.written ≡ Some held → IsSilent before after
    → number_of status ≡ 2 → Answers after status held [] 2
silent before after status held told still number =
    record { ended = number; holds = still_written before.written after.written held told still.kept }

-- no more than the limit was read to the end
not_short : (before after : Ends) (bytes : List ℕ) (found : Found) {P : Type 0} → before.left ≡ Some bytes → 4294967295 < length bytes
    → Finds before after found → P
not_short before after bytes found told long finds =
    let short = of_source (λ bs. length bs ≤ certificate_limit) before after bytes found told finds finds.short in
    absurd (omega (arith, short, long))

pub too_long_is_refused : law.WhatIsTooLongIsRefused
too_long_is_refused before after statuses.Valid bytes held smooth long o = not_short before after bytes o.0 smooth.source long o.2.finds
too_long_is_refused before after statuses.Invalid bytes held smooth long o = not_short before after bytes o.0 smooth.source long o.2.finds
too_long_is_refused before after statuses.ReadFault bytes held smooth long o =
    not_risen before.read_faults after.read_faults smooth.no_read_fault o.fault
too_long_is_refused before after statuses.TooLong bytes held smooth long o =
    silent before after statuses.TooLong held smooth.sink o.1 refl
too_long_is_refused before after statuses.NoMemory bytes held smooth long o = absurd (smooth.memory refl)
too_long_is_refused before after statuses.WriteFault bytes held smooth long o =
    not_risen before.write_faults after.write_faults smooth.no_write_fault o.fault
too_long_is_refused before after statuses.BadWords bytes held smooth long o = absurd o

pub failed_read_is_told : law.AFailedReadIsTold
failed_read_is_told before after statuses.Valid held told rose o =
    not_risen before.read_faults after.read_faults o.2.finds.no_read_fault rose
failed_read_is_told before after statuses.Invalid held told rose o =
    not_risen before.read_faults after.read_faults o.2.finds.no_read_fault rose
failed_read_is_told before after statuses.ReadFault held told rose o = silent before after statuses.ReadFault held told o.silent refl
failed_read_is_told before after statuses.TooLong held told rose o =
    not_risen before.read_faults after.read_faults o.0.no_fault rose
failed_read_is_told before after statuses.NoMemory held told rose o =
    ⊎_elim (λ early. not_risen before.read_faults after.read_faults early.taken.no_fault rose)
    (λ late. not_risen before.read_faults after.read_faults late.cut.finds.no_read_fault rose) o
failed_read_is_told before after statuses.WriteFault held told rose o =
    not_risen before.read_faults after.read_faults o.cut.finds.no_read_fault rose
failed_read_is_told before after statuses.BadWords held told rose o = absurd o

-- a count that stayed rose nowhere, and the status is another
neither : {a b : ℕ} {status other : Status} → b ≡ a → (status ≡ other → ⊥) → (a < b) ↔ (status ≡ other)
neither {a = a} {b = b} same apart = (λ rose. not_risen a b same rose, λ is. absurd (apart is))

pub fault_is_told : law.AFaultIsTold
fault_is_told before after statuses.Valid o = (neither o.2.finds.no_read_fault (λ e. cc), neither o.2.no_write_fault (λ e. cc))
fault_is_told before after statuses.Invalid o = (neither o.2.finds.no_read_fault (λ e. cc), neither o.2.no_write_fault (λ e. cc))
fault_is_told before after statuses.ReadFault o = ((λ rose. refl, λ is. o.fault), neither o.silent.no_fault (λ e. cc))
fault_is_told before after statuses.TooLong o = (neither o.0.no_fault (λ e. cc), neither o.1.no_fault (λ e. cc))
fault_is_told before after statuses.NoMemory o =
    ⊎_elim (λ early. (neither early.taken.no_fault (λ e. cc), neither early.silent.no_fault (λ e. cc)))
    (λ late. (neither late.cut.finds.no_read_fault (λ e. cc), neither late.no_write_fault (λ e. cc))) o
fault_is_told before after statuses.WriteFault o = (neither o.cut.finds.no_read_fault (λ e. cc), (λ rose. refl, λ is. o.fault))
fault_is_told before after statuses.BadWords o = absurd o

-- a text of which this is found is answered so
pub example_answered : (bytes written : List ℕ) (number : ℕ) (found : Found) → length bytes ≤ 4294967295 → IsFound bytes found
    → answer_line found ≡ written → valid_number (is_valid found) ≡ number → law.IsAnswered bytes written number
example_answered bytes written number found short is line counts = λ before after status smooth o.
    let told = answered before after status bytes [] found smooth short is o in
    record { ended = told.ended ∙ counts; holds = told.holds ∙ ap Some line }
