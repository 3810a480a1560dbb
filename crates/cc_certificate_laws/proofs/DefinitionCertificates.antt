-- What is written for the canonical derivation of an accepted definition is a certificate.
use Rattle.std.proofs.Common.{ℕ, zero, Bool, true, false, cond, List, [], ◌∷◌, length, sym, subst}
use Rattle.std.specs.List.{AllByRecursion}
use Rattle.cc_core.specs.Shapes.{CapturingType}
use Rattle.cc_core.specs.Contexts.{TermEntry, TypeEntry, Context, entry_of}
use Rattle.cc_core.specs.Derivations.{Claim, SetBelow, ShapeBelow, TypeBelow, OfType, Derivation, Premises, Node, NoPremise, Premise, Concludes, IsValidTyping}
use Rattle.cc_core.specs.Occurrences.{MeetsInNote, HasNoHoleInType, without_holes}
use Rattle.cc_core.proofs.Sorts.{NoteSort}
use Rattle.cc_checking.specs.Verdicts.{Definition, Accepted, IsAccepted, HasVerdict}
use Rattle.cc_checking_laws.specs.CheckingLaws.{Fits}
use Rattle.cc_checking_laws.specs.AcceptedDefinitions.{definition_context, accepted_derived}
use Rattle.cc_checking_laws.specs.FillingLaws.{AreGlobals}
use Rattle.cc_checking_laws.proofs.CheckedDefinitions.{accepted_parts, accepted_sound, no_hole}
use Rattle.cc_checking_laws.proofs.DerivedDefinitions.{definitions_valid}
use Rattle.cc_checking_laws.proofs.LeastFillings.{least_over_globals}
use Rattle.cc_checking_laws.proofs.Tameness.{closed_from}
use Rattle.cc_checking_laws.proofs.TameFindings.{closed_to}
use Rattle.cc_certificate_text.proofs.Certified.{one_certificate}
use Rattle.cc_certificate_writing.specs.Certificates.{certificate_text}
use Rattle.cc_certificate_laws.specs.CertificateLines.{lines_of}
use Rattle.cc_certificate_laws.specs.CertificateLaws.{HasNoHoleInClaim, IsFinished, AreFinished, IsPresentableEntry, IsPresentableContext, IsPresentableTerm}
use Rattle.cc_certificate_laws.specs.DefinitionLaws.{IsLow, AreLow, IsLowEntry, IsWithinLimits, AcceptedDefinitionsHaveCertificates, CertificatesOfDefinitionsAreReadBack}
use Rattle.cc_certificate_laws.proofs.HolelessComparisons.{ClosedClaim, IsHoleless, AreHoleless, ClosedContext}
use Rattle.cc_certificate_laws.proofs.HolelessTerms.{definition_holeless}
use Rattle.cc_certificate_laws.proofs.ValidCertificates.{valid_have_certificates}
use Rattle.cc_certificate_laws.proofs.WholeTerms.{valid_are_whole}

no_hole_in_claim : (claim : Claim) → ClosedClaim claim → HasNoHoleInClaim claim
no_hole_in_claim (SetBelow left right) k = k
no_hole_in_claim (ShapeBelow left right) k = (closed_to zero left k.0, closed_to zero right k.1)
no_hole_in_claim (TypeBelow left right) k =
    ((closed_to zero left.shape k.0.0, k.0.1), (closed_to zero right.shape k.1.0, k.1.1))
no_hole_in_claim (OfType type) k = (closed_to zero type.shape k.0, k.1)

mutual
  finished : (d : Derivation) → IsHoleless d → IsLow d → IsFinished d
  finished (Node rule premises claim) h low = (no_hole_in_claim claim h.0, low.0, h.1, all_finished premises h.2 low.1)

  all_finished : (ps : Premises) → AreHoleless ps → AreLow ps → AreFinished ps
  all_finished NoPremise h low = tt
  all_finished (Premise first rest) h low = (finished first h.0 low.0, all_finished rest h.1 low.1)

globals_closed : (g : Context) → AreGlobals g → ClosedContext g
globals_closed [] alone = tt
globals_closed (TermEntry s c ∷ older) alone = ((closed_from zero s alone.0, alone.1), globals_closed older alone.2)
globals_closed (TypeEntry b ∷ older) alone = absurd alone

context_closed : (recursive : Bool) (g : Context) (signature : CapturingType) → AreGlobals g → HasNoHoleInType signature
    → ClosedContext (cond recursive (entry_of signature ∷ g) g)
context_closed true g signature alone none = ((closed_from zero signature.shape none.0, none.1), globals_closed g alone)
context_closed false g signature alone none = globals_closed g alone

globals_presentable : (g : Context) → AreGlobals g → AllByRecursion IsLowEntry g → AllByRecursion IsPresentableEntry g
globals_presentable [] alone low = tt
globals_presentable (TermEntry s c ∷ older) alone low =
    (((alone.0, alone.1), low.0), globals_presentable older alone.2 low.1)
globals_presentable (TypeEntry b ∷ older) alone low = absurd alone

context_presentable : (recursive : Bool) (g : Context) (signature : CapturingType) → AreGlobals g → HasNoHoleInType signature
    → AllByRecursion IsLowEntry (cond recursive (entry_of signature ∷ g) g)
    → AllByRecursion IsPresentableEntry (cond recursive (entry_of signature ∷ g) g)
context_presentable true g signature alone none low = ((none, low.0), globals_presentable g alone low.1)
context_presentable false g signature alone none low = globals_presentable g alone low

-- no hole is left in what is written for its type
note_closed : (devices : ℕ) (globals : Context) (definition : Definition) (accepted : Accepted)
    → HasVerdict devices globals definition (IsAccepted accepted) → MeetsInNote without_holes zero accepted.note
note_closed devices globals definition accepted verdict =
    let p = accepted_parts devices globals definition accepted verdict in
    let over = least_over_globals (length globals) p.asked p.filling p.least in
    subst (λ (a : Accepted). MeetsInNote without_holes zero a.note) (sym p.accepts)
    (no_hole (length globals) p.filling over NoteSort p.found.note)

-- the context, the right side and the canonical derivation of an accepted definition can stand in a certificate
pub record Certifiable (names : List (List ℕ)) (g : Context) (accepted : Accepted) : Type 0 where
  pub context : IsPresentableContext names g
  pub term : IsPresentableTerm g accepted.filled
  pub valid : IsValidTyping g accepted.filled (accepted_derived g accepted)
  pub concludes : Concludes (accepted_derived g accepted) (OfType accepted.signature)
  pub done : IsFinished (accepted_derived g accepted)

pub accepted_certifiable : (devices : ℕ) (globals : Context) (definition : Definition) (accepted : Accepted)
    (names : List (List ℕ)) → Fits globals definition → HasVerdict devices globals definition (IsAccepted accepted)
    → IsWithinLimits names (definition_context globals definition accepted.signature) accepted
    → Certifiable names (definition_context globals definition accepted.signature) accepted
accepted_certifiable devices globals definition accepted names fits verdict limits =
    let g = definition_context globals definition accepted.signature in
    let sound = accepted_sound devices globals definition accepted fits verdict in
    let all = definitions_valid devices globals definition accepted fits verdict in
    let holeless = definition_holeless g accepted.note accepted.filled accepted.signature
    (context_closed definition.recursive globals accepted.signature fits.globals_alone sound.signature_closed)
    (note_closed devices globals definition accepted verdict) sound.term_closed
    (closed_from zero accepted.signature.shape sound.signature_closed.0, sound.signature_closed.1) in
    record {
      context = record {
        named = limits.named;
        apart = limits.apart;
        each = limits.each;
        formed = sound.types.0.context_formed;
        entries = context_presentable definition.recursive globals accepted.signature fits.globals_alone sound.signature_closed
            limits.low_entries;
      };
      term = record {
        formed = sound.types.0.term_formed;
        whole = valid_are_whole g accepted.filled (accepted_derived g accepted) all.2 sound.term_closed limits.literals;
        low = limits.low_term;
      };
      valid = all.2;
      concludes = all.3;
      done = finished (accepted_derived g accepted) holeless limits.low_claims;
    }

pub accepted_have_certificates : AcceptedDefinitionsHaveCertificates
accepted_have_certificates devices globals definition accepted names fits verdict limits =
    let g = definition_context globals definition accepted.signature in
    let can = accepted_certifiable devices globals definition accepted names fits verdict limits in
    valid_have_certificates names g accepted.filled (accepted_derived g accepted) can.context can.term can.valid can.done limits.few

pub definitions_are_read_back : CertificatesOfDefinitionsAreReadBack
definitions_are_read_back devices globals definition accepted names lines fits verdict limits other =
    let g = definition_context globals definition accepted.signature in
    one_certificate (certificate_text names g accepted.filled (accepted_derived g accepted)) lines
    (lines_of names g accepted.filled (accepted_derived g accepted)) other
    (accepted_have_certificates devices globals definition accepted names fits verdict limits)
