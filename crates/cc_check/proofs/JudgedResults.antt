-- What follows from the verdict that is answered.
use Rattle.std.proofs.Common.{ℕ, Result, Ok, Err, IfOk}
use Rattle.cc_core.specs.declared.terms.Checked.{Checked}
use Rattle.cc_core.specs.Contexts.{Context}
use Rattle.cc_core.specs.Occurrences.{HasNoHoleInType, HasNoHoleInTerm}
use Rattle.cc_core.specs.Typing.{HasType}
use Rattle.cc_core.specs.TermViews.{type_of, term_of}
use Rattle.cc_core.specs.WellFormed.{IsWellFormedType}
use Rattle.cc_checking.specs.Verdicts.{Definition}
use Rattle.cc_checking_laws.specs.CheckingLaws.{Fits, oldest}
use Rattle.cc_checking_laws.specs.AcceptedDefinitions.{definition_context}
use Rattle.cc_core.specs.Holes.{HolesAreOfParameters}
use Rattle.cc_checking_laws.proofs.AlikeSignatures.{refused_has_no_type}
use Rattle.cc_checking_laws.proofs.CheckedDefinitions.{accepted_sound}
use Rattle.cc_check.specs.declared.error.CheckError.{CheckError}
use Rattle.cc_check.specs.declared.error.CheckError.TheVariants as errors
use Rattle.cc_check.specs.Definitions.{accepted_of}
use Rattle.cc_check.specs.Judging.{Judges, HasNoTypeIfRefused}

module _ (devices : ℕ) (globals : Context) (definition : Definition) (fits : Fits globals definition) where
  pub answered_typed : (result : Result Checked CheckError) → Judges devices globals definition result
      → IfOk result (λ c. HasType (definition_context globals definition (type_of c.sig)) (term_of c.filled.value) (type_of c.ty)
      × HasType (definition_context globals definition (type_of c.sig)) (term_of c.filled.value) (type_of c.sig))
  answered_typed (Ok c) is = (accepted_sound devices globals definition (accepted_of c) fits is).types
  answered_typed (Err e) is = tt

  pub answered_over_devices : (result : Result Checked CheckError) → Judges devices globals definition result
      → IfOk result (λ c. IsWellFormedType (oldest devices globals) (type_of c.sig) × HasNoHoleInType (type_of c.sig))
  answered_over_devices (Ok c) is =
      let s = accepted_sound devices globals definition (accepted_of c) fits is in (s.over_devices, s.signature_closed)
  answered_over_devices (Err e) is = tt

  pub answered_without_hole : (result : Result Checked CheckError) → Judges devices globals definition result
      → IfOk result (λ c. HasNoHoleInTerm (term_of c.filled.value) × HasNoHoleInType (type_of c.ty))
  answered_without_hole (Ok c) is =
      let s = accepted_sound devices globals definition (accepted_of c) fits is in (s.term_closed, s.type_closed)
  answered_without_hole (Err e) is = tt

  pub answered_without_type : HolesAreOfParameters definition.right → (result : Result Checked CheckError)
      → Judges devices globals definition result → HasNoTypeIfRefused devices globals definition result
  answered_without_type holes (Ok c) is = tt
  answered_without_type holes (Err (errors.Refused diag)) is = λ filling over typed.
      refused_has_no_type devices globals definition diag.code diag.place filling fits holes is over typed
  answered_without_type holes (Err errors.NoMemory) is = tt
