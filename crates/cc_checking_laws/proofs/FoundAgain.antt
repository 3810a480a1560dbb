-- The filled right side of an accepted definition is found again, and what is then asked holds.
use Rattle.std.proofs.Common.{◌≡◌, ℕ, suc, ◌<◌, ◌≤◌, Bool, true, false, cond, List, [], ◌∷◌, length, Some, refl, sym, ap, ◌∙◌, subst, arith}
use Rattle.cc_core.specs.Shapes.{CapturingType, capturing}
use Rattle.cc_core.specs.Terms.{Note, Absent, Written, Own, Term}
use Rattle.cc_core.specs.Contexts.{Context, lookup, entry_of}
use Rattle.cc_core.specs.Occurrences.{without_holes, MeetsInNote}
use Rattle.cc_core.specs.Places.{spots}
use Rattle.cc_core.specs.Substitution.{filled_type, filled_term}
use Rattle.cc_core.specs.WellFormed.{TermKind, kinds_of, is_well_formed_term, IsWellFormedNote}
use Rattle.cc_core.proofs.KindFacts.{IsKindedTerm, IsKindedNote-from, IsKindedTerm-from}
use Rattle.cc_core.proofs.Lookups.{lookup-older}
use Rattle.cc_core.proofs.Sorts.{TypeSort, TermSort}
use Rattle.cc_core.proofs.SubcapturingContexts.{IsKindedContext, IsKindedContext-from}
use Rattle.cc_checking.specs.Outcomes.{Asked, Placed, Found}
use Rattle.cc_checking.specs.Fillings.{Filling, filled_context, AllServed, IsOverGlobals}
use Rattle.cc_checking.specs.Inference.{Result, result, limited}
use Rattle.cc_checking.specs.Verdicts.{Definition, Checking, plain_checked, recursive_checked, Accepted, IsAccepted, signature_under, HasVerdict}
use Rattle.cc_typing_laws.proofs.FormedContexts.{some_is}
use Rattle.cc_checking_laws.specs.FillingLaws.{AreGlobals}
use Rattle.cc_checking_laws.specs.CheckingLaws.{Fits}
use Rattle.cc_checking_laws.specs.AcceptedDefinitions.{definition_context}
use Rattle.cc_checking_laws.proofs.Findings.{Finds}
use Rattle.cc_checking_laws.proofs.FoundFindings.{asked_of, Came, then_came, finds_came, found_finds, avoided_came}
use Rattle.cc_checking_laws.proofs.ReadingKinds.{outermost}
use Rattle.cc_checking_laws.proofs.FoundTypes.{regular}
use Rattle.cc_checking_laws.proofs.LeastFillings.{filled-still, globals_still, least_over_globals}
use Rattle.cc_checking_laws.proofs.FilledComparisons.{EachHolds}
use Rattle.cc_checking_laws.proofs.FilledSubtyping.{Serves, serves_parts, serves_asked}
use Rattle.cc_checking_laws.proofs.FilledFindings.{fills}
use Rattle.cc_checking_laws.proofs.FilledTyping.{fill_kinded}
use Rattle.cc_checking_laws.proofs.Signatures.{signed}
use Rattle.cc_checking_laws.proofs.CheckedDefinitions.{all_terms, accepted_parts}

-- the term is found as it stands, and all that is asked holds
pub record IsFound (g : Context) (t : Term) : Type 0 where
  pub formed : IsKindedContext g
  pub kinded : IsKindedTerm (kinds_of g) [] t
  pub type : CapturingType
  pub asked : List Asked
  pub finding : Finds (length g) g t (result type t) asked
  pub holds : EachHolds asked

module _ (base : Context) (root : ℕ) (within : root ≤ length base) (f : Filling) (over : IsOverGlobals root f)
    (terms : (p : ℕ) → p < root → lookup (kinds_of base) p ≡ Some TermKind) (still : filled_context f base ≡ base) (formed : IsKindedContext base) where
  filled_found : (t : Term) (r : Result) (qs : List Asked) → Finds (length base) base t r qs
      → IsKindedTerm (kinds_of base) [] t → Serves f qs → IsFound base (filled_term f r.completed)
  filled_found t r qs found k served =
      let x = fills base root within f over terms found outermost formed k served in
      record {
        formed = formed;
        kinded = subst (λ g. IsKindedTerm (kinds_of g) [] (filled_term f r.completed)) still (fill_kinded base root within f over terms outermost formed TermSort r.completed (regular base found outermost formed k).1);
        type = filled_type f r.type;
        asked = x.0;
        finding = subst (λ g. Finds (length base) g (filled_term f r.completed) (result (filled_type f r.type) (filled_term f r.completed)) x.0) still x.1;
        holds = x.2;
      }

module _ (devices : ℕ) (globals : Context) (formed : IsKindedContext globals) (alone : AreGlobals globals) (f : Filling) (over : IsOverGlobals (length globals) f) where
  plain_found : (n : ℕ) (definition : Definition) (found : Checking) (qs : List Asked)
      → Came (plain_checked (limited n) globals definition) found qs → Serves f qs
      → IsKindedTerm (kinds_of globals) [] definition.right → IsFound globals (filled_term f found.completed)
  plain_found n definition found qs c serves kt =
      let k = then_came c in
      let k2 = then_came k.rest in
      let fin = finds_came k2.rest in
      let p = serves_parts f k.first k.second (subst (Serves f) k.all serves) in
      let finding = found_finds n (length globals) (limited n).passes definition.right globals definition.places k.came in
      subst (λ (x : Checking). IsFound globals (filled_term f x.completed)) (sym fin.0)
      (filled_found globals (length globals) (omega arith) f over (all_terms globals alone) (globals_still f globals alone) formed definition.right k.value k.first finding kt p.0)

  recursive_found : (n : ℕ) (definition : Definition) (note : Note) (found : Checking) (qs : List Asked)
      → Came (recursive_checked (limited n) devices globals definition note) found qs → Serves f qs
      → IsKindedTerm (TermKind ∷ kinds_of globals) [] definition.right → IsWellFormedNote globals note
      → MeetsInNote without_holes 0 note → (signature : CapturingType)
      → signature_under f devices globals found ≡ Some signature
      → IsFound (entry_of signature ∷ globals) (filled_term f found.completed)
  recursive_found n definition Absent found qs (list, e, q) serves kt kn closed signature signs = cc
  recursive_found n definition (Own s) found qs (list, e, q) serves kt kn closed signature signs = cc
  recursive_found n definition (Written s c) found qs came serves kt kn closed signature signs =
      let k = then_came came in
      let a = avoided_came _ _ k.came in
      let k2 = then_came k.rest in
      let k3 = then_came k2.rest in
      let fin = finds_came k3.rest in
      let p = serves_parts f k.first k.second (subst (Serves f) k.all serves) in
      let p2 = serves_parts f k2.first k2.second (subst (Serves f) k2.all p.1) in
      let sig : CapturingType = k.value in
      let ks = IsKindedNote-from (kinds_of globals) [] (Written s c) kn in
      let sg = signed devices globals globals (λ q b h. h) formed formed alone (capturing s c) sig ks kn a.0 in
      let base : Context = entry_of sig ∷ globals in
      let kbase : IsKindedContext base = (sg.kinded, formed) in
      let terms : (p : ℕ) → p < length globals → lookup (kinds_of base) p ≡ Some TermKind = λ p h. lookup-older TermKind (kinds_of globals) p TermKind (all_terms globals alone p h) in
      let finding = found_finds n (suc (length globals)) (limited n).passes definition.right base definition.places k2.came in
      let still_sig : filled_type f sig ≡ sig = filled-still TypeSort f 0 sig (sg.closed closed) in
      let still : filled_context f base ≡ base = ap (λ (t : CapturingType). entry_of t ∷ filled_context f globals) still_sig ∙ ap (λ g. entry_of sig ∷ g) (globals_still f globals alone) in
      let is : Some sig ≡ Some signature = ap (λ (x : Checking). signature_under f devices globals x) (sym fin.0) ∙ signs in
      let is' = some_is sig signature is in
      subst (λ (x : Checking). IsFound (entry_of signature ∷ globals) (filled_term f x.completed)) (sym fin.0)
      (subst (λ (z : CapturingType). IsFound (entry_of z ∷ globals) (filled_term f k2.value.completed)) is'
      (filled_found base (length globals) (omega arith) f over terms still kbase definition.right k2.value k2.first finding kt p2.0))

-- by whether the definition is recursive
by_kind : (b : Bool) (devices : ℕ) (globals : Context) (definition : Definition) (n : ℕ) (found : Checking) (list : List Placed) (f : Filling) (signature : CapturingType)
    → IsKindedContext globals → AreGlobals globals → IsOverGlobals (length globals) f → AllServed f list
    → cond b (recursive_checked (limited n) devices globals definition definition.note) (plain_checked (limited n) globals definition) ≡ Found found list
    → is_well_formed_term (cond b (TermKind ∷ kinds_of globals) (kinds_of globals)) [] definition.right ≡ true
    → IsWellFormedNote globals definition.note → MeetsInNote without_holes 0 definition.note
    → signature_under f devices globals found ≡ Some signature
    → IsFound (cond b (entry_of signature ∷ globals) globals) (filled_term f found.completed)
by_kind true devices globals definition n found list f signature formed alone over all is right kn closed signs =
    recursive_found devices globals formed alone f over n definition definition.note found (asked_of list) (list, is, refl) (serves_asked f list all)
    (IsKindedTerm-from (TermKind ∷ kinds_of globals) [] definition.right right) kn closed signature signs
by_kind false devices globals definition n found list f signature formed alone over all is right kn closed signs =
    plain_found devices globals formed alone f over n definition found (asked_of list) (list, is, refl) (serves_asked f list all)
    (IsKindedTerm-from (kinds_of globals) [] definition.right right)

pub accepted_found : (devices : ℕ) (globals : Context) (definition : Definition) (accepted : Accepted)
    → Fits globals definition → HasVerdict devices globals definition (IsAccepted accepted)
    → IsFound (definition_context globals definition accepted.signature) accepted.filled
accepted_found devices globals definition accepted fits verdict =
    let p = accepted_parts devices globals definition accepted verdict in
    let over = least_over_globals (length globals) p.asked p.filling p.least in
    subst (λ (a : Accepted). IsFound (definition_context globals definition a.signature) a.filled) (sym p.accepts)
    (by_kind definition.recursive devices globals definition p.steps p.found p.asked p.filling p.signature (IsKindedContext-from globals fits.formed) fits.globals_alone over p.served p.is fits.right_formed fits.note_formed fits.note_closed p.signs)
