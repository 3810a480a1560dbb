-- The canonical derivation of an accepted definition is valid and concludes its type and its signature.
use Rattle.std.proofs.Common.{◌≡◌, ℕ, suc, ◌<◌, ◌≤◌, Bool, true, false, cond, List, [], ◌∷◌, length, Some, refl, sym, ap, ◌∙◌, subst, arith}
use Rattle.cc_capture.specs.Sets.{Set}
use Rattle.cc_core.specs.Shapes.{Shape, CapturingType, capturing}
use Rattle.cc_core.specs.Terms.{Note, Absent, Written, Own, Term}
use Rattle.cc_core.specs.Contexts.{Context, lookup, entry_of}
use Rattle.cc_core.specs.Traversal.{act_note}
use Rattle.cc_core.specs.Substitution.{filling_in, filled, filled_set, filled_type, filled_term}
use Rattle.cc_core.specs.Occurrences.{without_holes, MeetsInNote}
use Rattle.cc_core.specs.Places.{spots}
use Rattle.cc_core.specs.WellFormed.{TermKind, kinds_of, is_well_formed_term, IsWellFormedNote}
use Rattle.cc_core.specs.Subtyping.{SubtypesType, reflexive}
use Rattle.cc_core.specs.Derivations.{Derivation, OfType, IsValidTyping, Concludes}
use Rattle.cc_core.proofs.KindFacts.{IsKindedType, IsKindedTerm, IsKindedNote, IsKindedNote-from, IsKindedTerm-from, IsKinded-test, IsKindedType-test}
use Rattle.cc_core.proofs.Lookups.{lookup-older}
use Rattle.cc_core.proofs.ReadingAndWriting.{read_type-still}
use Rattle.cc_core.proofs.Sorts.{ShapeSort, TypeSort, TermSort, HasKinds-meets}
use Rattle.cc_core.proofs.SubcapturingContexts.{IsKindedContext, IsKindedContext-from, IsKinded-added, IsKindedSet-added}
use Rattle.cc_core.proofs.SubcapturingLemmas.{subcaptures_reflexive}
use Rattle.cc_checking.specs.Outcomes.{Asked, Placed, Found}
use Rattle.cc_checking.specs.Fillings.{Filling, filled_context, AllServed, IsOverGlobals}
use Rattle.cc_checking.specs.Inference.{Result, result, shape_in, type_in, Named, limited}
use Rattle.cc_checking.specs.CanonicalDerivations.{canonical_shapes, raised, noted_derived, term_derived, definition_derived}
use Rattle.cc_checking.specs.Verdicts.{Definition, Checking, plain_checked, recursive_checked, Accepted, IsAccepted, signature_under, signature_of, HasVerdict}
use Rattle.cc_typing_laws.proofs.FormedContexts.{kinds_bound, IsKindedContext-test, some_is}
use Rattle.cc_checking_laws.specs.FillingLaws.{AreGlobals}
use Rattle.cc_checking_laws.specs.CheckingLaws.{Fits}
use Rattle.cc_checking_laws.specs.AcceptedDefinitions.{definition_context, right_side_derived, accepted_derived}
use Rattle.cc_checking_laws.proofs.CanonicalShapes.{canonical_shapes_valid}
use Rattle.cc_checking_laws.proofs.Findings.{Notes, notes-absent, notes-written, notes-own, Finds}
use Rattle.cc_checking_laws.proofs.FoundFindings.{asked_of, Came, then_came, finds_came, found_finds, below_came, noted_came, avoided_came}
use Rattle.cc_checking_laws.proofs.ReadingKinds.{outermost, read_kinded}
use Rattle.cc_checking_laws.proofs.FoundTypes.{regular, notes_kinded}
use Rattle.cc_checking_laws.proofs.LeastFillings.{filled-still, globals_still, least_over_globals}
use Rattle.cc_checking_laws.proofs.FilledSubtyping.{Serves, serves_parts, serves_asked, shapes_below, types_below}
use Rattle.cc_checking_laws.proofs.FilledFindings.{fills}
use Rattle.cc_checking_laws.proofs.FilledTyping.{fill_kinded, read_fill, read_written}
use Rattle.cc_checking_laws.proofs.Signatures.{signed}
use Rattle.cc_checking_laws.proofs.CheckedDefinitions.{all_terms, accepted_parts, read_itself}
use Rattle.cc_checking_laws.proofs.DerivedRows.{Derives, DerivesAll, of_term, raised_valid, raised_if_valid}
use Rattle.cc_checking_laws.proofs.DerivedTerms.{finds_derived}

-- shapes that are below each other have valid canonical derivations
pub canonical_derives : DerivesAll canonical_shapes
canonical_derives g l r f kl kr below =
    canonical_shapes_valid g l r (IsKindedContext-test g f) (IsKinded-test (kinds_of g) [] l kl) (IsKinded-test (kinds_of g) [] r kr) below

-- The canonical derivations of a right side, up to its type and up to its signature.
pub record BothDerived (g : Context) (note : Note) (t : Term) (type signature : CapturingType) : Type 0 where
  pub own : Derives g t (noted_derived canonical_shapes g note (term_derived canonical_shapes g t)) type
  pub seen : Derives g t (definition_derived canonical_shapes g note t signature) signature

read_type_itself : (g : Context) (t : CapturingType) → IsKindedType (kinds_of g) [] t → type_in g t ≡ t
read_type_itself g t k = read_type-still (length g) 0 t (HasKinds-meets TypeSort (kinds_of g) [] _ (kinds_bound (kinds_of g)) [] t k)

-- a right side in a context that filling leaves as it is
module _ (base : Context) (root : ℕ) (within : root ≤ length base) (f : Filling) (over : IsOverGlobals root f)
    (terms : (p : ℕ) → p < root → lookup (kinds_of base) p ≡ Some TermKind) (still : filled_context f base ≡ base) (formed : IsKindedContext base) where
  kept_term : (t : Term) → IsKindedTerm (kinds_of base) [] t → IsKindedTerm (kinds_of base) [] (filled_term f t)
  kept_term t k = subst (λ g. IsKindedTerm (kinds_of g) [] (filled_term f t)) still (fill_kinded base root within f over terms outermost formed TermSort t k)

  kept_type : (t : CapturingType) → IsKindedType (kinds_of base) [] t
      → IsKindedType (kinds_of base) [] (filled_type f t)
  kept_type t k = subst (λ g. IsKindedType (kinds_of g) [] (filled_type f t)) still (fill_kinded base root within f over terms outermost formed TypeSort t k)

  right_derived : (t : Term) (r : Result) (qs : List Asked) → Finds (length base) base t r qs
      → IsKindedTerm (kinds_of base) [] t → Serves f qs
      → Derives base (filled_term f r.completed) (term_derived canonical_shapes base (filled_term f r.completed)) (filled_type f r.type)
  right_derived t r qs found k served =
      let x = fills base root within f over terms found outermost formed k served in
      let kt = kept_term r.completed (regular base found outermost formed k).1 in
      let finding = subst (λ g. Finds (length base) g (filled_term f r.completed) (result (filled_type f r.type) (filled_term f r.completed)) x.0) still x.1 in
      of_term (read_itself base (filled_term f r.completed) kt) (finds_derived canonical_shapes canonical_derives base finding refl outermost formed kt x.2)

  -- a filled type below a filled one
  widened : (t : Term) (d : Derivation) (l r : CapturingType) → IsKindedType (kinds_of base) [] l
      → IsKindedType (kinds_of base) [] r → SubtypesType (filled_context f base) (filled_type f l) (filled_type f r)
      → Derives base t d (filled_type f l)
      → Derives base t (raised canonical_shapes base d (filled_type f r)) (filled_type f r)
  widened t d l r kl kr below p =
      raised_valid canonical_shapes canonical_derives base formed t d (filled_type f l) (filled_type f r) (kept_type l kl) (kept_type r kr)
      (subst (λ g. SubtypesType g (filled_type f l) (filled_type f r)) still below) p

  written_as : (t : Term) (d : Derivation) (s : Shape) (c : Set) (type : CapturingType)
      → type_in base (capturing s c) ≡ type
      → Derives base t (raised canonical_shapes base d type) type
      → Derives base t (noted_derived canonical_shapes base (Written s c) d) type
  written_as t d s c type is p = subst (λ (x : CapturingType). Derives base t (raised canonical_shapes base d x) type) (sym is) p

  noted_derives : {note : Note} {t : CapturingType} {m : Named} {ps : List Asked} → Notes (length base) base note t m ps
      → IsKindedNote (kinds_of base) [] note → IsKindedType (kinds_of base) [] t
      → Serves f ps → (x : Term) (d : Derivation) → Derives base x d (filled_type f t)
      → Derives base x (noted_derived canonical_shapes base (act_note (filling_in f) 0 m.note) d) (filled_type f m.type)
  noted_derives notes-absent kn kt served x d p = p
  noted_derives (notes-written {t = t} {s = s} {c = c} {ds = ds} b) kn kt served x d p =
      written_as x d (filled f s) (filled_set f c) (filled_type f (type_in base (capturing s c))) (read_fill base root within f over terms TypeSort (length base) (capturing s c))
      (widened x d t (type_in base (capturing s c)) kt (read_kinded outermost TypeSort (capturing s c) kn)
      (types_below root f over base t (type_in base (capturing s c)) ds b (serves_parts f _ [] served).0) p)
  noted_derives (notes-own {t = t} {s = s} {ds = ds} b) kn kt served x d p =
      let type : CapturingType = capturing (shape_in base s) t.set in
      let is : type_in base (capturing (filled f s) (filled_set f _)) ≡ filled_type f type =
      λ j. capturing (read_fill base root within f over terms ShapeSort (length base) s j) (read_written base root within f over terms outermost formed t.set kt.1 j) in
      written_as x d (filled f s) _ (filled_type f type) is
      (widened x d t type kt (read_kinded outermost ShapeSort s kn, kt.1)
      (subcaptures_reflexive (filled_context f base) (filled_set f t.set), shapes_below root f over base t.shape (shape_in base s) ds b (serves_parts f _ [] served).0) p)

  -- and up to the signature
  signed_derived : (note : Note) (t : Term) (type signature : CapturingType) → IsKindedType (kinds_of base) [] type
      → IsKindedType (kinds_of base) [] signature → SubtypesType base type signature
      → Derives base t (noted_derived canonical_shapes base note (term_derived canonical_shapes base t)) type
      → BothDerived base note t type signature
  signed_derived note t type signature k ks above p = record {
    own = p;
    seen = raised_if_valid canonical_shapes canonical_derives base formed t (noted_derived canonical_shapes base note (term_derived canonical_shapes base t)) type signature k ks above p;
  }

module _ (devices : ℕ) (globals : Context) (formed : IsKindedContext globals) (alone : AreGlobals globals) (f : Filling) (over : IsOverGlobals (length globals) f) where
  plain_derived : (n : ℕ) (definition : Definition) (found : Checking) (qs : List Asked)
      → Came (plain_checked (limited n) globals definition) found qs → Serves f qs
      → IsKindedTerm (kinds_of globals) [] definition.right → IsWellFormedNote globals definition.note
      → (signature : CapturingType) → signature_under f devices globals found ≡ Some signature
      → BothDerived globals (act_note (filling_in f) 0 found.note) (filled_term f found.completed) (filled_type f found.type) signature
  plain_derived n definition found qs c serves kt kn signature signs =
      let k = then_came c in
      let k2 = then_came k.rest in
      let fin = finds_came k2.rest in
      let p = serves_parts f k.first k.second (subst (Serves f) k.all serves) in
      let p2 = serves_parts f k2.first k2.second (subst (Serves f) k2.all p.1) in
      let finding = found_finds n (length globals) (limited n).passes definition.right globals definition.places k.came in
      let notes = noted_came n (length globals) (spots definition.places).at globals definition.note k.value.type k2.came in
      let terms = all_terms globals alone in
      let still = globals_still f globals alone in
      let within : length globals ≤ length globals = omega arith in
      let note_kinded = IsKindedNote-from (kinds_of globals) [] definition.note kn in
      let reg = regular globals finding outermost formed kt in
      let nk = notes_kinded globals notes outermost note_kinded reg.0 in
      let right = right_derived globals (length globals) within f over terms still formed definition.right k.value k.first finding kt p.0 in
      let own = noted_derives globals (length globals) within f over terms still formed notes note_kinded reg.0 p2.0 (filled_term f k.value.completed) (term_derived canonical_shapes globals (filled_term f k.value.completed)) right in
      let ktype = kept_type globals (length globals) within f over terms still formed k2.value.type nk.0 in
      let signs' : signature_of devices globals (filled_type f k2.value.type) ≡ Some signature = ap (λ (x : Checking). signature_under f devices globals x) (sym fin.0) ∙ signs in
      let sg = signed devices globals globals (λ q b h. h) formed formed alone (filled_type f k2.value.type) signature ktype (IsKindedType-test (kinds_of globals) [] (filled_type f k2.value.type) ktype) signs' in
      subst (λ (x : Checking). BothDerived globals (act_note (filling_in f) 0 x.note) (filled_term f x.completed) (filled_type f x.type) signature) (sym fin.0)
      (signed_derived globals (length globals) within f over terms still formed (act_note (filling_in f) 0 k2.value.note) (filled_term f k.value.completed) (filled_type f k2.value.type) signature ktype sg.kinded sg.above own)

  recursive_derived : (n : ℕ) (definition : Definition) (note : Note) (found : Checking) (qs : List Asked)
      → Came (recursive_checked (limited n) devices globals definition note) found qs → Serves f qs
      → IsKindedTerm (TermKind ∷ kinds_of globals) [] definition.right → IsWellFormedNote globals note
      → MeetsInNote without_holes 0 note → (signature : CapturingType)
      → signature_under f devices globals found ≡ Some signature
      → BothDerived (entry_of signature ∷ globals) (act_note (filling_in f) 0 found.note) (filled_term f found.completed) (filled_type f found.type) signature
  recursive_derived n definition Absent found qs (list, e, q) serves kt kn closed signature signs = cc
  recursive_derived n definition (Own s) found qs (list, e, q) serves kt kn closed signature signs = cc
  recursive_derived n definition (Written s c) found qs came serves kt kn closed signature signs =
      let k = then_came came in
      let a = avoided_came _ _ k.came in
      let k2 = then_came k.rest in
      let k3 = then_came k2.rest in
      let fin = finds_came k3.rest in
      let p = serves_parts f k.first k.second (subst (Serves f) k.all serves) in
      let p2 = serves_parts f k2.first k2.second (subst (Serves f) k2.all p.1) in
      let p3 = serves_parts f k3.first k3.second (subst (Serves f) k3.all p2.1) in
      let sig : CapturingType = k.value in
      let ks = IsKindedNote-from (kinds_of globals) [] (Written s c) kn in
      let sg = signed devices globals globals (λ q b h. h) formed formed alone (capturing s c) sig ks kn a.0 in
      let base : Context = entry_of sig ∷ globals in
      let kbase : IsKindedContext base = (sg.kinded, formed) in
      let terms : (p : ℕ) → p < length globals → lookup (kinds_of base) p ≡ Some TermKind = λ p h. lookup-older TermKind (kinds_of globals) p TermKind (all_terms globals alone p h) in
      let within : length globals ≤ length base = omega arith in
      let finding = found_finds n (suc (length globals)) (limited n).passes definition.right base definition.places k2.came in
      let below = below_came n (spots definition.places).at base k2.value.type sig k3.came in
      let reg = regular base finding outermost kbase kt in
      let still_sig : filled_type f sig ≡ sig = filled-still TypeSort f 0 sig (sg.closed closed) in
      let still : filled_context f base ≡ base = ap (λ (t : CapturingType). entry_of t ∷ filled_context f globals) still_sig ∙ ap (λ g. entry_of sig ∷ g) (globals_still f globals alone) in
      let ksig : IsKindedType (kinds_of base) [] sig = (IsKinded-added TermKind (kinds_of globals) [] sig.shape sg.kinded.0, IsKindedSet-added TermKind (kinds_of globals) [] sig.set sg.kinded.1) in
      let kfilled = kept_type base (length globals) within f over terms still kbase sig ksig in
      let right = right_derived base (length globals) within f over terms still kbase definition.right k2.value k2.first finding kt p2.0 in
      let t : Term = filled_term f k2.value.completed in
      let up = types_below (length globals) f over base k2.value.type sig below.0 below.1 (subst (Serves f) below.2 p3.0) in
      let own = written_as base (length globals) within f over terms still kbase t (term_derived canonical_shapes base t) (filled f sig.shape) (filled_set f sig.set) (filled_type f sig) (read_type_itself base (filled_type f sig) kfilled)
      (widened base (length globals) within f over terms still kbase t (term_derived canonical_shapes base t) k2.value.type sig reg.0 ksig up right) in
      let same : SubtypesType base (filled_type f sig) sig = subst (λ (x : CapturingType). SubtypesType base (filled_type f sig) x) still_sig (subcaptures_reflexive base (filled_set f sig.set), reflexive) in
      let both = signed_derived base (length globals) within f over terms still kbase (Written (filled f sig.shape) (filled_set f sig.set)) t (filled_type f sig) sig kfilled ksig same own in
      let is : Some sig ≡ Some signature = ap (λ (x : Checking). signature_under f devices globals x) (sym fin.0) ∙ signs in
      let is' = some_is sig signature is in
      subst (λ (x : Checking). BothDerived (entry_of signature ∷ globals) (act_note (filling_in f) 0 x.note) (filled_term f x.completed) (filled_type f x.type) signature) (sym fin.0)
      (subst (λ (z : CapturingType). BothDerived (entry_of z ∷ globals) (Written (filled f sig.shape) (filled_set f sig.set)) t (filled_type f sig) z) is' both)

-- by whether the definition is recursive
by_kind : (b : Bool) (devices : ℕ) (globals : Context) (definition : Definition) (n : ℕ) (found : Checking) (list : List Placed) (f : Filling) (signature : CapturingType)
    → IsKindedContext globals → AreGlobals globals → IsOverGlobals (length globals) f → AllServed f list
    → cond b (recursive_checked (limited n) devices globals definition definition.note) (plain_checked (limited n) globals definition) ≡ Found found list
    → is_well_formed_term (cond b (TermKind ∷ kinds_of globals) (kinds_of globals)) [] definition.right ≡ true
    → IsWellFormedNote globals definition.note → MeetsInNote without_holes 0 definition.note
    → signature_under f devices globals found ≡ Some signature
    → BothDerived (cond b (entry_of signature ∷ globals) globals) (act_note (filling_in f) 0 found.note) (filled_term f found.completed) (filled_type f found.type) signature
by_kind true devices globals definition n found list f signature formed alone over all is right kn closed signs =
    recursive_derived devices globals formed alone f over n definition definition.note found (asked_of list) (list, is, refl) (serves_asked f list all)
    (IsKindedTerm-from (TermKind ∷ kinds_of globals) [] definition.right right) kn closed signature signs
by_kind false devices globals definition n found list f signature formed alone over all is right kn closed signs =
    plain_derived devices globals formed alone f over n definition found (asked_of list) (list, is, refl) (serves_asked f list all)
    (IsKindedTerm-from (kinds_of globals) [] definition.right right) kn signature signs

pub accepted_derives : (devices : ℕ) (globals : Context) (definition : Definition) (accepted : Accepted)
    → Fits globals definition → HasVerdict devices globals definition (IsAccepted accepted)
    → BothDerived (definition_context globals definition accepted.signature) accepted.note accepted.filled accepted.type accepted.signature
accepted_derives devices globals definition accepted fits verdict =
    let p = accepted_parts devices globals definition accepted verdict in
    let over = least_over_globals (length globals) p.asked p.filling p.least in
    subst (λ (a : Accepted). BothDerived (definition_context globals definition a.signature) a.note a.filled a.type a.signature) (sym p.accepts)
    (by_kind definition.recursive devices globals definition p.steps p.found p.asked p.filling p.signature (IsKindedContext-from globals fits.formed) fits.globals_alone over p.served p.is fits.right_formed fits.note_formed fits.note_closed p.signs)

pub definitions_valid : (devices : ℕ) (globals : Context) (definition : Definition) (accepted : Accepted)
    → Fits globals definition → HasVerdict devices globals definition (IsAccepted accepted)
    → IsValidTyping (definition_context globals definition accepted.signature) accepted.filled (right_side_derived (definition_context globals definition accepted.signature) accepted)
    × Concludes (right_side_derived (definition_context globals definition accepted.signature) accepted) (OfType accepted.type)
    × IsValidTyping (definition_context globals definition accepted.signature) accepted.filled (accepted_derived (definition_context globals definition accepted.signature) accepted)
    × Concludes (accepted_derived (definition_context globals definition accepted.signature) accepted) (OfType accepted.signature)
definitions_valid devices globals definition accepted fits verdict =
    let p = accepted_derives devices globals definition accepted fits verdict in (p.own.valid, p.own.concludes, p.seen.valid, p.seen.concludes)
