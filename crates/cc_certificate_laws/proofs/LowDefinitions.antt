-- An accepted definition is low where it was.
use Rattle.std.proofs.Common.{◌≡◌, ℕ, suc, ◌≤◌, Bool, true, false, cond, List, ◌∷◌, length, Some, refl, sym, ap, ◌∙◌, subst, arith}
use Rattle.cc_core.specs.Shapes.{CapturingType, capturing}
use Rattle.cc_core.specs.Terms.{Note, Absent, Written, Own, Term}
use Rattle.cc_core.specs.Contexts.{Context, entry_of}
use Rattle.cc_core.specs.Traversal.{act, act_note}
use Rattle.cc_core.specs.Substitution.{filling_in, filled_type, filled_term}
use Rattle.cc_core.specs.Reading.{read_variable}
use Rattle.cc_core.specs.Places.{spots}
use Rattle.cc_checking.specs.CanonicalDerivations.{canonical_shapes, typed, noted_derived, term_derived}
use Rattle.cc_checking.specs.Fillings.{Filling}
use Rattle.cc_checking.specs.Inference.{Named, type_in, limited}
use Rattle.cc_checking.specs.Outcomes.{Asked, Placed, Found}
use Rattle.cc_checking.specs.Verdicts.{Definition, Checking, plain_checked, recursive_checked, Accepted, IsAccepted, accepted_with, signature_under, signature_of, HasVerdict}
use Rattle.cc_checking_laws.specs.AcceptedDefinitions.{accepted_derived}
use Rattle.cc_checking_laws.proofs.CheckedDefinitions.{accepted_parts}
use Rattle.cc_checking_laws.proofs.Findings.{Notes, notes-absent, notes-written, notes-own}
use Rattle.cc_checking_laws.proofs.FoundFindings.{asked_of, Came, then_came, finds_came, noted_came, avoided_came, found_finds}
use Rattle.cc_certificate_text.specs.Heights.{shape_height, note_height, term_height}
use Rattle.cc_certificate_laws.specs.DefinitionLaws.{HasWrittenLiterals, IsLow}
use Rattle.cc_certificate_laws.specs.LimitLaws.{AcceptedDefinitionsAreLow, HeightsAreKept, LiteralsAreKept, SignaturesAreLow}
use Rattle.cc_certificate_laws.proofs.BareShapes.{same_height, filled_alike, height-moving, signature_alike}
use Rattle.cc_certificate_laws.proofs.LowComparisons.{Low, LowContext}
use Rattle.cc_certificate_laws.proofs.LowTerms.{as_low, typed_low, raised_low, raised_if_low, noted_low, inferred_low, tested_height, read_low}
use Rattle.cc_certificate_laws.proofs.KeptHeights.{note_height-noted, term_height-completed, literals_completed, shape_height-filled, note_height-filled, term_height-filled, literals_filled}

-- what is said of an accepted definition in its context
record Kept (definition : Definition) (g : Context) (a : Accepted) : Type 0 where
  term : term_height a.filled ≡ term_height definition.right
  note : note_height a.note ≡ note_height definition.note
  literals : HasWrittenLiterals definition.right → HasWrittenLiterals a.filled
  signature : note_height definition.note ≤ 4096 → shape_height a.signature.shape ≤ 4096
  low : note_height definition.note ≤ 5000 → term_height definition.right ≤ 5000 → LowContext g
      → IsLow (accepted_derived g a)
  seen : note_height definition.note ≤ 5000 → Low a.signature.shape

-- the type that is found, with what is written for it
noted_height : {root : ℕ} {g : Context} {note : Note} {t : CapturingType} {m : Named} {ps : List Asked}
    → Notes root g note t m ps
    → (most : ℕ) → note_height note ≤ most → shape_height t.shape ≤ most → shape_height m.type.shape ≤ most
noted_height notes-absent most kn kt = kt
noted_height {g = g} (notes-written {s = s} b) most kn kt = let same =
    height-moving (read_variable (length g)) 0 s in omega arith
noted_height {g = g} (notes-own {s = s} b) most kn kt = let same =
    height-moving (read_variable (length g)) 0 s in omega arith

module _ (devices : ℕ) (globals : Context) (f : Filling) (n : ℕ) (definition : Definition) (found : Checking)
    (qs : List Asked) (signature : CapturingType) where
  plain_kept : Came (plain_checked (limited n) globals definition) found qs
      → signature_under f devices globals found ≡ Some signature
      → Kept definition globals (accepted_with f found signature)
  plain_kept came signs =
      let k = then_came came in
      let k2 = then_came k.rest in
      let end = finds_came k2.rest in
      let finding = found_finds n (length globals) (limited n).passes definition.right globals definition.places k.came
      in
      let notes = noted_came n (length globals) (spots definition.places).at globals definition.note k.value.type
      k2.came in
      let t : Term = filled_term f k.value.completed in
      let note' : Note = act_note (filling_in f) 0 k2.value.note in
      let part = noted_derived canonical_shapes globals note' (term_derived canonical_shapes globals t) in
      let signs' : signature_of devices globals (filled_type f k2.value.type) ≡ Some signature =
      ap (λ (x : Checking). signature_under f devices globals x) (sym end.0) ∙ signs in
      let seen_as = signature_alike devices globals (filled_type f k2.value.type) signature signs'
      ∙ filled_alike f 0 k2.value.type.shape in
      let height = same_height signature.shape k2.value.type.shape seen_as in
      let tested = tested_height f n (length globals) definition.right globals definition.places k.value k.first k.came
      in
      let heights : term_height t ≡ term_height definition.right = term_height-filled f 0 k.value.completed
      ∙ term_height-completed finding in
      let notes_height : note_height note' ≡ note_height definition.note = note_height-filled f 0 k2.value.note
      ∙ note_height-noted notes in
      subst (λ (x : Checking). Kept definition globals (accepted_with f x signature)) (sym end.0)
      (record {
        term = heights;
        note = notes_height;
        literals = λ l. literals_filled f 0 k.value.completed (literals_completed finding l);
        signature = λ kn. let most = noted_height notes 4096 kn tested in omega arith;
        low = λ kn kr low.
            let kt : term_height t ≤ 5000 = omega arith in
            let km : note_height note' ≤ 5000 = omega arith in
            let p = inferred_low f n (length globals) definition.right globals definition.places k.value k.first k.came
            globals refl low 0 kt in
            let q = noted_low f notes globals refl low 0 km (term_derived canonical_shapes globals t) p in
            raised_if_low globals part signature low q.low (as_low signature.shape (typed part).shape
            (seen_as ∙ sym q.alike) (typed_low part q.low));
        seen = λ kn. let most = noted_height notes 5000 kn (omega arith) in omega arith;
      })

  recursive_kept : (note : Note) → definition.note ≡ note → Came
      (recursive_checked (limited n) devices globals definition note) found qs
      → signature_under f devices globals found ≡ Some signature
      → Kept definition (entry_of signature ∷ globals) (accepted_with f found signature)
  recursive_kept Absent is (list, e, q) signs = cc
  recursive_kept (Own s) is (list, e, q) signs = cc
  recursive_kept (Written s c) is came signs =
      let k = then_came came in
      let a = avoided_came _ _ k.came in
      let k2 = then_came k.rest in
      let k3 = then_came k2.rest in
      let end = finds_came k3.rest in
      let sig : CapturingType = k.value in
      let base : Context = entry_of sig ∷ globals in
      let finding = found_finds n (suc (length globals)) (limited n).passes definition.right base definition.places
      k2.came in
      let t : Term = filled_term f k2.value.completed in
      let note' : Note = act_note (filling_in f) 0 (Written sig.shape sig.set) in
      let part = noted_derived canonical_shapes base note' (term_derived canonical_shapes base t) in
      let height : shape_height sig.shape ≡ shape_height s = same_height sig.shape s
      (signature_alike devices globals (capturing s c) sig a.0) in
      let written : note_height definition.note ≡ shape_height s = ap note_height is in
      let heights : term_height t ≡ term_height definition.right = term_height-filled f 0 k2.value.completed
      ∙ term_height-completed finding in
      let note_filled = note_height-filled f 0 (Written sig.shape sig.set) in
      let same : Some sig ≡ Some signature = ap (λ (x : Checking). signature_under f devices globals x) (sym end.0)
      ∙ signs in
      let same' : sig ≡ signature = cc in
      subst (λ (x : Checking). Kept definition (entry_of signature ∷ globals) (accepted_with f x signature)) (sym end.0)
      (subst (λ (z : CapturingType). Kept definition (entry_of z ∷ globals)
      (accepted_with f (record {
        note = Written sig.shape sig.set;
        completed = k2.value.completed;
        type = sig;
        settled =
            Some sig;
      }) z)) same'
      (record {
        term = heights;
        note = note_filled ∙ height ∙ sym written;
        literals = λ l. literals_filled f 0 k2.value.completed (literals_completed finding l);
        signature = λ kn. omega arith;
        low = λ kn kr low.
            let kt : term_height t ≤ 5000 = omega arith in
            let km : Low (act (filling_in f) 0 sig.shape) = let filled = shape_height-filled f 0 sig.shape in omega
            arith in
            let ks : Low sig.shape = omega arith in
            let p = inferred_low f n (suc (length globals)) definition.right base definition.places k2.value k2.first
            k2.came base refl low 0 kt in
            raised_if_low base part sig low
            (raised_low base (term_derived canonical_shapes base t) (type_in base (filled_type f sig)) low p.low
            (read_low base (act (filling_in f) 0 sig.shape) km)) ks;
        seen = λ kn. omega arith;
      }))

abbrev KeptBy : Bool → Context → Definition → Accepted → Type 0
KeptBy b globals definition a = Kept definition (cond b (entry_of a.signature ∷ globals) globals) a

kept_by : (b : Bool) (devices : ℕ) (globals : Context) (f : Filling) (n : ℕ) (definition : Definition)
    (found : Checking) (list : List Placed) (signature : CapturingType)
    → cond b (recursive_checked (limited n) devices globals definition definition.note)
    (plain_checked (limited n) globals definition) ≡ Found found list
    → signature_under f devices globals found ≡ Some signature
    → KeptBy b globals definition (accepted_with f found signature)
kept_by true devices globals f n definition found list signature is signs =
    recursive_kept devices globals f n definition found (asked_of list) signature definition.note refl
    (list, is, refl) signs
kept_by false devices globals f n definition found list signature is signs =
    plain_kept devices globals f n definition found (asked_of list) signature (list, is, refl) signs

kept : (devices : ℕ) (globals : Context) (definition : Definition) (accepted : Accepted)
    → HasVerdict devices globals definition (IsAccepted accepted)
    → KeptBy definition.recursive globals definition accepted
kept devices globals definition accepted verdict =
    let p = accepted_parts devices globals definition accepted verdict in
    subst (KeptBy definition.recursive globals definition) (sym p.accepts)
    (kept_by definition.recursive devices globals p.filling p.steps definition p.found p.asked p.signature p.is p.signs)

context_low : (b : Bool) (globals : Context) (signature : CapturingType) → LowContext globals → Low signature.shape
    → LowContext (cond b (entry_of signature ∷ globals) globals)
context_low true globals signature low k = (k, low)
context_low false globals signature low k = low

pub accepted_low : AcceptedDefinitionsAreLow
accepted_low devices globals definition accepted low is verdict =
    let k = kept devices globals definition accepted verdict in
    let g = context_low definition.recursive globals accepted.signature low (k.seen is.note) in
    let right = is.right in
    let height = k.term in
    record { entries = g; term = omega arith; claims = k.low is.note is.right g }

pub heights_kept : HeightsAreKept
heights_kept devices globals definition accepted verdict = let k =
    kept devices globals definition accepted verdict in (k.term, k.note)

pub literals_kept : LiteralsAreKept
literals_kept devices globals definition accepted verdict l =
    (kept devices globals definition accepted verdict).literals l

pub signatures_low : SignaturesAreLow
signatures_low devices globals definition accepted verdict kn =
    (kept devices globals definition accepted verdict).signature kn
