-- What a call tells, in bytes and numbers: what is said of it where the source tells its bytes and the sink what was
-- written to it.
use Rattle.std.specs.Prelude.{◌≡◌, ◌↔◌, ℕ, ◌<◌, ◌≤◌, List, [], ◌∷◌, ◌++◌, codes, length, Option, Some, Result}
use Rattle.std.specs.Fmt.{decimal}
use Rattle.std.specs.declared.io.Error.{Error}
use Rattle.cc_core.specs.Shapes.{CapturingType}
use Rattle.cc_print.specs.TypeTexts.{type_text}
use Rattle.cc_certificate_text.specs.Certificates.{IsBadLine}
use Rattle.cc_certificate_judging.specs.Answers.{IsProof, IsBroken}
use Rattle.cc_io.specs.Messages.{IsTold}
use Rattle.certify.specs.declared.status.Status.{Status}
use Rattle.certify.specs.declared.status.Status.TheVariants as statuses
use Rattle.certify.specs.Status.{number_of}
use Rattle.certify.specs.Outcome.{Ends, Outcome}
use Rattle.certify.specs.Calls.{IsCall}
use Rattle.certify.specs.Said.{IsSaid}

-- The source had these bytes and the sink held those, no read and no write failed, and memory did not lack.
pub record IsSmooth (before after : Ends) (status : Status) (bytes held : List ℕ) : Type 0 where
  pub source : before.left ≡ Some bytes
  pub sink : before.written ≡ Some held
  pub no_read_fault : after.read_faults ≡ before.read_faults
  pub no_write_fault : after.write_faults ≡ before.write_faults
  pub memory : status ≡ statuses.NoMemory → ⊥

-- The program ends with this number, and to what the sink held these bytes were written, and no others.
pub record Answers (after : Ends) (status : Status) (held written : List ℕ) (number : ℕ) : Type 0 where
  pub ended : number_of status ≡ number
  pub holds : after.written ≡ Some (held ++ written)

-- Of a certificate that is valid, the line `valid TYPE` is written, and the number is 0.
abbrev pub AProofIsAnswered : Type 0
AProofIsAnswered =
    (before after : Ends) (status : Status) (bytes held : List ℕ) (names : List (List ℕ)) (type : CapturingType)
    → IsSmooth before after status bytes held → length bytes ≤ 4294967295 → IsProof bytes names type
    → Outcome before after status → Answers after status held (codes "valid " ++ type_text names 0 type ++ codes "\n") 0

-- Of bytes that are none, the line `bad line N` is written, and the number is 1.
abbrev pub ABadLineIsAnswered : Type 0
ABadLineIsAnswered =
    (before after : Ends) (status : Status) (bytes held : List ℕ) (line : ℕ)
    → IsSmooth before after status bytes held → length bytes ≤ 4294967295 → IsBadLine bytes line
    → Outcome before after status → Answers after status held (codes "bad line " ++ decimal line ++ codes "\n") 1

-- Of a certificate that is not valid, the line `bad node N` is written, and the number is 1.
abbrev pub ABadNodeIsAnswered : Type 0
ABadNodeIsAnswered =
    (before after : Ends) (status : Status) (bytes held : List ℕ) (node : ℕ)
    → IsSmooth before after status bytes held → length bytes ≤ 4294967295 → IsBroken bytes node
    → Outcome before after status → Answers after status held (codes "bad node " ++ decimal node ++ codes "\n") 1

-- Of more bytes than a certificate may have nothing is written, and the number is 2.
abbrev pub WhatIsTooLongIsRefused : Type 0
WhatIsTooLongIsRefused =
    (before after : Ends) (status : Status) (bytes held : List ℕ)
    → IsSmooth before after status bytes held → 4294967295 < length bytes
    → Outcome before after status → Answers after status held [] 2

-- Where a read fails nothing is written, and the number is 2.
abbrev pub AFailedReadIsTold : Type 0
AFailedReadIsTold =
    (before after : Ends) (status : Status) (held : List ℕ) → before.written ≡ Some held
    → before.read_faults < after.read_faults → Outcome before after status → Answers after status held [] 2

-- Whatever the streams tell: a read failed exactly where the status says so, and so did a write.
abbrev pub AFaultIsTold : Type 0
AFaultIsTold = (before after : Ends) (status : Status) → Outcome before after status
    → ((before.read_faults < after.read_faults) ↔ (status ≡ statuses.ReadFault))
    × ((before.write_faults < after.write_faults) ↔ (status ≡ statuses.WriteFault))

-- A call with a word ends with 6, and the source and the sink are as they were.
abbrev pub WordsAreRefused : (Source Sink : Type 0) → (Source → Sink → Ends) → Type 0
WordsAreRefused Source Sink ends_of =
    (source source' : Source) (sink sink' : Sink) (word : List ℕ) (words : List (List ℕ)) (status : Status)
    → IsCall (source' ≡ source) (sink' ≡ sink) (ends_of source sink) (ends_of source' sink') (word ∷ words) status
    → (number_of status ≡ 6) × (source' ≡ source) × (sink' ≡ sink)

-- this line was given to the writer of messages in one call
abbrev pub IsSaidInOneCall : {W : Type 0} → (W → List ℕ → Result (Unit {0}) Error → W → Type 0) → List ℕ → W → W → Type 0
IsSaidInOneCall gives line old new = (answer : Result (Unit {0}) Error) × gives old line answer new

-- What is said at each status: nothing behind an answer; else one line; and at words one text more, if any, behind that.
pub record SaysExactly {W : Type 0} (gives : W → List ℕ → Result (Unit {0}) Error → W → Type 0) : Type 0 where
  pub valid : (old new : W) → IsSaid gives statuses.Valid old new → new ≡ old
  pub invalid : (old new : W) → IsSaid gives statuses.Invalid old new → new ≡ old
  pub read_fault : (old new : W) → IsSaid gives statuses.ReadFault old new
      → IsSaidInOneCall gives (codes "certify: read fault\n") old new
  pub too_long : (old new : W) → IsSaid gives statuses.TooLong old new
      → IsSaidInOneCall gives (codes "certify: certificate too long\n") old new
  pub no_memory : (old new : W) → IsSaid gives statuses.NoMemory old new
      → IsSaidInOneCall gives (codes "certify: out of memory\n") old new
  pub write_fault : (old new : W) → IsSaid gives statuses.WriteFault old new
      → IsSaidInOneCall gives (codes "certify: write fault\n") old new
  pub bad_words : (old new : W) → IsSaid gives statuses.BadWords old new
      → (between : W) × IsSaidInOneCall gives (codes "certify: bad words\n") old between
      × ((usage : Option (List ℕ)) × IsTold gives usage between new)

-- A call on these bytes alone, with a sink that holds nothing, writes these bytes and ends with this number.
abbrev pub IsAnswered : (bytes written : List ℕ) (number : ℕ) → Type 0
IsAnswered bytes written number =
    (before after : Ends) (status : Status) → IsSmooth before after status bytes [] → Outcome before after status
    → Answers after status [] written number

-- Three texts with their whole outputs: the certificate of the identity on the unit value; the same without the set of the
-- variable, where the first node breaks its rule; and with a premise that is no node before.
pub record CertificatesAreAnswered : Type 0 where
  pub valid : IsAnswered
      (codes "cert 1\nterm fun (_0: Unit) => _0\n1 t-var [] : Unit^{_0}\n2 t-abs [1] : (_0: Unit) -> Unit^{_0}\n")
      (codes "valid (_0: Unit) -> Unit^{_0}\n") 0
  pub bad_node : IsAnswered
      (codes "cert 1\nterm fun (_0: Unit) => _0\n1 t-var [] : Unit\n2 t-abs [1] : (_0: Unit) -> Unit^{_0}\n")
      (codes "bad node 1\n") 1
  pub bad_line : IsAnswered
      (codes "cert 1\nterm fun (_0: Unit) => _0\n1 t-var [] : Unit^{_0}\n2 t-abs [2] : (_0: Unit) -> Unit^{_0}\n")
      (codes "bad line 4\n") 1
