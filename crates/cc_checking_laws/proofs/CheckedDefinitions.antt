-- Accepted definitions: the filled right side has its type and its signature's type, and no hole is left.
use Rattle.std.proofs.Common.{◌≡◌, ℕ, suc, ◌<◌, Bool, true, false, cond, List, [], ◌∷◌, length, Option, Some, None, refl, sym, ap, ◌∙◌, subst, inl, inr, arith}
use Rattle.std.proofs.lemmas.Bool.{cases_eq}
use Rattle.cc_capture.specs.declared.var.Var.TheVariants.{Bound, Free}
use Rattle.cc_capture.specs.declared.var.Elem.{Elem}
use Rattle.cc_capture.specs.declared.var.Elem.TheVariants.{Var as Variable, Cap, Hole}
use Rattle.cc_capture.specs.Sets.{Member}
use Rattle.cc_core.specs.Shapes.{CapturingType, capturing}
use Rattle.cc_core.specs.Terms.{Note, Absent, Written, Own, Term}
use Rattle.cc_core.specs.Contexts.{TermEntry, TypeEntry, Context, lookup, entry_of}
use Rattle.cc_core.specs.Substitution.{filled_element, filling_in, filled, filled_set, filled_type, filled_term}
use Rattle.cc_core.specs.Occurrences.{on_variables, without_holes, IsNoHole, HasNoHoleInType, HasNoHoleInTerm, MeetsInNote}
use Rattle.cc_core.specs.Reading.{read_term}
use Rattle.cc_core.specs.WellFormed.{TermKind, kinds_of, kind_of, is_well_formed_term, IsWellFormedNote, IsWellFormedType}
use Rattle.cc_core.specs.Typing.{HasTyping, HasType, t-sub}
use Rattle.cc_core.specs.Places.{spots}
use Rattle.cc_core.proofs.Conditions.{Brings, always_on_variables}
use Rattle.cc_core.proofs.KindFacts.{IsKindedType, IsKindedNote-from, IsKindedTerm-from, IsKindedTerm-test, IsKindedType-test, IsKindedTerm}
use Rattle.cc_core.proofs.Lookups.{lookup-newest, lookup-older, length_map}
use Rattle.cc_core.proofs.Moving.{Member-single}
use Rattle.cc_core.proofs.ReadingAndWriting.{read_term-still}
use Rattle.cc_core.proofs.Sorts.{Sort, TypeSort, TermSort, Syntax, acted, MeetsIn, MeetsIn-act, MeetsIn-always, HasKinds-meets}
use Rattle.cc_core.proofs.SubcapturingContexts.{IsKindedContext, IsKindedContext-from, IsKinded-added, IsKindedSet-added}
use Rattle.cc_checking.specs.Outcomes.{Asked, Placed, NoAnswer, Refused, Found}
use Rattle.cc_checking.specs.Fillings.{Filling, filled_context, AllServed, IsLeast, IsGlobal, IsOverGlobals}
use Rattle.cc_checking.specs.Inference.{limited}
use Rattle.cc_checking.specs.Verdicts.{Definition, Checking, plain_checked, recursive_checked, checked, Accepted, IsAccepted, accepted_with, signature_under, signature_verdict, signature_of, HasVerdict}
use Rattle.cc_typing_laws.proofs.FormedContexts.{kinds_bound, IsKindedContext-test}
use Rattle.cc_checking_laws.specs.FillingLaws.{AreGlobals}
use Rattle.cc_checking_laws.specs.CheckingLaws.{Fits, oldest}
use Rattle.cc_checking_laws.specs.AcceptedDefinitions.{definition_context}
use Rattle.cc_checking_laws.proofs.FoundFindings.{asked_of, Came, then_came, finds_came, found_finds, below_came, noted_came, avoided_came}
use Rattle.cc_checking_laws.proofs.ReadingKinds.{outermost}
use Rattle.cc_checking_laws.proofs.FoundTypes.{regular, notes_kinded}
use Rattle.cc_checking_laws.proofs.LeastFillings.{filled-still, globals_still, least_over_globals}
use Rattle.cc_checking_laws.proofs.FilledSubtyping.{Serves, serves_parts, serves_asked, types_below}
use Rattle.cc_checking_laws.proofs.FilledTyping.{fill_kinded, fill_formed, noted_typed}
use Rattle.cc_checking_laws.proofs.FilledTerms.{filled_typed}
use Rattle.cc_checking_laws.proofs.Signatures.{Signed, signed}

-- what is filled with globals has no hole
module _ (root : ℕ) (f : Filling) (over : IsOverGlobals root f) where
  fills_holes : (some : _) → Brings (filling_in f) some without_holes
  fills_holes some = record { element = λ d e m. closed_element e; shape = λ d v m. tt; variable = λ d v m. tt }
    where
      global_closed : (e : Elem) → IsGlobal root e → IsNoHole e
      global_closed (Variable (Free p)) g = tt
      global_closed (Variable (Bound i)) g = tt
      global_closed Cap g = tt
      global_closed (Hole n) g = absurd g

      closed_element : (e : Elem) (x : Elem) → Member x (filled_element f e) → IsNoHole x
      closed_element (Variable v) x m = subst IsNoHole (sym (Member-single x (Variable v) m)) tt
      closed_element Cap x m = subst IsNoHole (sym (Member-single x Cap m)) tt
      closed_element (Hole n) x m = global_closed x (over n x m)

  pub no_hole : (sort : Sort) (x : Syntax sort) → MeetsIn sort without_holes 0 (acted sort (filling_in f) 0 x)
  no_hole sort x =
      MeetsIn-act sort (filling_in f) (on_variables (λ d v. Unit {0})) without_holes (fills_holes (on_variables (λ d v. Unit {0}))) 0 x
      (MeetsIn-always sort (on_variables (λ d v. Unit {0})) (always_on_variables (λ d v. Unit {0}) (λ d v. tt)) 0 x)

-- the globals are variables of terms
pub all_terms : (g : Context) → AreGlobals g → (p : ℕ) → p < length g → lookup (kinds_of g) p ≡ Some TermKind
all_terms [] a p h = absurd (omega arith)
all_terms (TermEntry s c ∷ g) a p h =
    elim (cases_eq p (length g)) as (λ _. lookup (TermKind ∷ kinds_of g) p ≡ Some TermKind) [
      | inl same ↦ ap (lookup (TermKind ∷ kinds_of g)) (same ∙ sym (length_map kind_of g)) ∙ lookup-newest TermKind (kinds_of g)
      | inr other ↦ lookup-older TermKind (kinds_of g) p TermKind (all_terms g a.2 p (omega arith))
    ]
all_terms (TypeEntry b ∷ g) a p h = absurd a

-- what an accepted definition comes from
pub record Parts (devices : ℕ) (globals : Context) (definition : Definition) (accepted : Accepted) : Type 0 where
  pub steps : ℕ
  pub found : Checking
  pub asked : List Placed
  pub filling : Filling
  pub least : IsLeast (length globals) asked filling
  pub served : AllServed filling asked
  pub is : checked (limited steps) devices globals definition ≡ Found found asked
  pub signature : CapturingType
  pub signs : signature_under filling devices globals found ≡ Some signature
  pub accepts : accepted ≡ accepted_with filling found signature

signature_parts : (f : Filling) (definition : Definition) (found : Checking) (o : Option CapturingType) (accepted : Accepted) → IsAccepted accepted ≡ signature_verdict f definition found o
    → (signature : CapturingType) × (o ≡ Some signature) × (accepted ≡ accepted_with f found signature)
signature_parts f definition found (Some signature) accepted e = (signature, refl, cc)
signature_parts f definition found None accepted e = cc

pub accepted_parts : (devices : ℕ) (globals : Context) (definition : Definition) (accepted : Accepted) → HasVerdict devices globals definition (IsAccepted accepted) → Parts devices globals definition accepted
accepted_parts devices globals definition accepted (NoAnswer, c, d) = absurd d
accepted_parts devices globals definition accepted (Refused code at, c, d) = cc
accepted_parts devices globals definition accepted (Found found asked, (n, is, done), (f, least, inl failed)) = let e = failed.3 in cc
accepted_parts devices globals definition accepted (Found found asked, (n, is, done), (f, least, inr (all, e))) =
    let p = signature_parts f definition found (signature_under f devices globals found) accepted e in
    record { steps = n; found = found; asked = asked; filling = f; least = least; served = all; is = is; signature = p.0; signs = p.1; accepts = p.2 }

has_type : (g : Context) (t : Term) (s : CapturingType) → IsKindedContext g → IsKindedTerm (kinds_of g) [] t → IsKindedType (kinds_of g) [] s → HasTyping g t s.shape s.set → HasType g t s
has_type g t s k kt ks h =
    record { context_formed = IsKindedContext-test g k; term_formed = IsKindedTerm-test (kinds_of g) [] t kt; type_formed = IsKindedType-test (kinds_of g) [] s ks; typing = h }

-- read in a context what is well formed in it
pub read_itself : (g : Context) (t : Term) → IsKindedTerm (kinds_of g) [] t → read_term (length g) t ≡ t
read_itself g t k = read_term-still (length g) 0 t (HasKinds-meets TermSort (kinds_of g) [] _ (kinds_bound (kinds_of g)) [] t k)

-- both types of an accepted definition
abbrev pub BothTypes : Context → Term → CapturingType → CapturingType → Type 0
BothTypes g t type signature = HasType g t type × HasType g t signature

module _ (devices : ℕ) (globals : Context) (formed : IsKindedContext globals) (alone : AreGlobals globals) (f : Filling) (over : IsOverGlobals (length globals) f) where
  -- a definition whose own name is not visible
  pub plain_typed : (n : ℕ) (definition : Definition) (found : Checking) (qs : List Asked) → Came (plain_checked (limited n) globals definition) found qs → Serves f qs
      → IsKindedTerm (kinds_of globals) [] definition.right → IsWellFormedNote globals definition.note → (signature : CapturingType) → signature_under f devices globals found ≡ Some signature
      → BothTypes globals (filled_term f found.completed) (filled_type f found.type) signature × Signed devices globals globals (filled_type f found.type) signature
  plain_typed n definition found qs c serves kt kn signature signs =
      let k = then_came c in
      let k2 = then_came k.rest in
      let fin = finds_came k2.rest in
      let p = serves_parts f k.first k.second (subst (Serves f) k.all serves) in
      let p2 = serves_parts f k2.first k2.second (subst (Serves f) k2.all p.1) in
      let finding = found_finds n (length globals) (limited n).passes definition.right globals definition.places k.came in
      let notes = noted_came n (length globals) (spots definition.places).at globals definition.note k.value.type k2.came in
      let terms = all_terms globals alone in
      let note_kinded = IsKindedNote-from (kinds_of globals) [] definition.note kn in
      let reg = regular globals finding outermost formed kt in
      let nk = notes_kinded globals notes outermost note_kinded reg.0 in
      let typing = filled_typed globals (length globals) (omega arith) f over terms finding outermost formed kt p.0 in
      let noted = noted_typed globals (length globals) (omega arith) f over terms outermost formed notes note_kinded reg.0 p2.0 _ typing in
      let still = globals_still f globals alone in
      let kterm = subst (λ g. IsKindedTerm (kinds_of g) [] (filled_term f k.value.completed)) still (fill_kinded globals (length globals) (omega arith) f over terms outermost formed TermSort k.value.completed reg.1) in
      let ktype = subst (λ g. IsKindedType (kinds_of g) [] (filled_type f k2.value.type)) still (fill_kinded globals (length globals) (omega arith) f over terms outermost formed TypeSort k2.value.type nk.0) in
      let own : HasTyping globals (filled_term f k.value.completed) (filled f k2.value.type.shape) (filled_set f k2.value.type.set) =
      subst (λ t. HasTyping globals t (filled f k2.value.type.shape) (filled_set f k2.value.type.set)) (read_itself globals (filled_term f k.value.completed) kterm)
      (subst (λ g. HasTyping g (read_term (length globals) (filled_term f k.value.completed)) (filled f k2.value.type.shape) (filled_set f k2.value.type.set)) still noted.0) in
      let signs' : signature_of devices globals (filled_type f k2.value.type) ≡ Some signature = ap (λ (x : Checking). signature_under f devices globals x) (sym fin.0) ∙ signs in
      let sg = signed devices globals globals (λ q b h. h) formed formed alone (filled_type f k2.value.type) signature ktype (IsKindedType-test (kinds_of globals) [] (filled_type f k2.value.type) ktype) signs' in
      subst (λ (x : Checking). BothTypes globals (filled_term f x.completed) (filled_type f x.type) signature × Signed devices globals globals (filled_type f x.type) signature) (sym fin.0) (
        (
          has_type globals (filled_term f k.value.completed) (filled_type f k2.value.type) formed kterm ktype own,
          has_type globals (filled_term f k.value.completed) signature formed kterm sg.kinded (t-sub own sg.above.0 sg.above.1 (IsKindedType-test (kinds_of globals) [] signature sg.kinded)),
        ),
        sg,
      )

  -- a recursive definition, which has its signature in its context
  pub recursive_typed : (n : ℕ) (definition : Definition) (note : Note) (found : Checking) (qs : List Asked) → Came (recursive_checked (limited n) devices globals definition note) found qs → Serves f qs
      → IsKindedTerm (TermKind ∷ kinds_of globals) [] definition.right → IsWellFormedNote globals note → MeetsInNote without_holes 0 note → (signature : CapturingType) → signature_under f devices globals found ≡ Some signature
      → BothTypes (entry_of signature ∷ globals) (filled_term f found.completed) (filled_type f found.type) signature
      × (IsWellFormedType (oldest devices globals) signature × HasNoHoleInType signature)
  recursive_typed n definition Absent found qs (list, e, q) serves kt kn closed signature signs = cc
  recursive_typed n definition (Own s) found qs (list, e, q) serves kt kn closed signature signs = cc
  recursive_typed n definition (Written s c) found qs came serves kt kn closed signature signs =
      let k = then_came came in
      let a = avoided_came _ _ k.came in
      let k2 = then_came k.rest in
      let k3 = then_came k2.rest in
      let fin = finds_came k3.rest in
      let p = serves_parts f k.first k.second (subst (Serves f) k.all serves) in
      let p2 = serves_parts f k2.first k2.second (subst (Serves f) k2.all p.1) in
      let p3 = serves_parts f k3.first k3.second (subst (Serves f) k3.all p2.1) in
      let sig : CapturingType = k.value in
      let ks = IsKindedNote-from (kinds_of globals) [] (Written s c) kn in
      let sg = signed devices globals globals (λ q b h. h) formed formed alone (capturing s c) sig ks kn a.0 in
      let none = sg.closed closed in
      let base : Context = entry_of sig ∷ globals in
      let kbase : IsKindedContext base = (sg.kinded, formed) in
      let terms : (p : ℕ) → p < length globals → lookup (kinds_of base) p ≡ Some TermKind = λ p h. lookup-older TermKind (kinds_of globals) p TermKind (all_terms globals alone p h) in
      let finding = found_finds n (suc (length globals)) (limited n).passes definition.right base definition.places k2.came in
      let below = below_came n (spots definition.places).at base k2.value.type sig k3.came in
      let reg = regular base finding outermost kbase kt in
      let typing = filled_typed base (length globals) (omega arith) f over terms finding outermost kbase kt p2.0 in
      let still_sig : filled_type f sig ≡ sig = filled-still TypeSort f 0 sig none in
      let still : filled_context f base ≡ base = ap (λ (t : CapturingType). entry_of t ∷ filled_context f globals) still_sig ∙ ap (λ g. entry_of sig ∷ g) (globals_still f globals alone) in
      let kterm = subst (λ g. IsKindedTerm (kinds_of g) [] (filled_term f k2.value.completed)) still (fill_kinded base (length globals) (omega arith) f over terms outermost kbase TermSort k2.value.completed reg.1) in
      let ksig : IsKindedType (kinds_of base) [] sig = (IsKinded-added TermKind (kinds_of globals) [] sig.shape sg.kinded.0, IsKindedSet-added TermKind (kinds_of globals) [] sig.set sg.kinded.1) in
      let up = types_below (length globals) f over base k2.value.type sig below.0 below.1 (subst (Serves f) below.2 p3.0) in
      let wide : HasTyping (filled_context f base) (read_term (suc (length globals)) (filled_term f k2.value.completed)) (filled_type f sig).shape (filled_type f sig).set =
      t-sub typing up.0 up.1 (fill_formed base (length globals) (omega arith) f over terms outermost kbase sig ksig) in
      let own : HasTyping base (filled_term f k2.value.completed) sig.shape sig.set =
      subst (λ t. HasTyping base t sig.shape sig.set) (read_itself base (filled_term f k2.value.completed) kterm)
      (subst (λ (t : CapturingType). HasTyping base (read_term (suc (length globals)) (filled_term f k2.value.completed)) t.shape t.set) still_sig
      (subst (λ g. HasTyping g (read_term (suc (length globals)) (filled_term f k2.value.completed)) (filled_type f sig).shape (filled_type f sig).set) still wide)) in
      let whole = has_type base (filled_term f k2.value.completed) sig kbase kterm ksig own in
      let is : Some sig ≡ Some signature = ap (λ (x : Checking). signature_under f devices globals x) (sym fin.0) ∙ signs in
      let is' : sig ≡ signature = cc in
      subst (λ (x : Checking). BothTypes (entry_of signature ∷ globals) (filled_term f x.completed) (filled_type f x.type) signature × (IsWellFormedType (oldest devices globals) signature × HasNoHoleInType signature)) (sym fin.0)
      (subst (λ (z : CapturingType). BothTypes (entry_of z ∷ globals) (filled_term f k2.value.completed) (filled_type f sig) z × (IsWellFormedType (oldest devices globals) z × HasNoHoleInType z)) is'
      ((subst (HasType base (filled_term f k2.value.completed)) (sym still_sig) whole, whole), (sg.over_devices, none)))

-- all that holds of an accepted definition
pub record Sound (devices : ℕ) (globals : Context) (definition : Definition) (accepted : Accepted) : Type 0 where
  pub types : BothTypes (definition_context globals definition accepted.signature) accepted.filled accepted.type accepted.signature
  pub over_devices : IsWellFormedType (oldest devices globals) accepted.signature
  pub signature_closed : HasNoHoleInType accepted.signature
  pub term_closed : HasNoHoleInTerm accepted.filled
  pub type_closed : HasNoHoleInType accepted.type

abbrev Outcomes : Bool → ℕ → Context → Definition → Accepted → Type 0
Outcomes b devices globals definition a =
    BothTypes (cond b (entry_of a.signature ∷ globals) globals) a.filled a.type a.signature × (IsWellFormedType (oldest devices globals) a.signature × HasNoHoleInType a.signature)

by_kind : (b : Bool) (devices : ℕ) (globals : Context) (definition : Definition) (n : ℕ) (found : Checking) (list : List Placed) (f : Filling) (signature : CapturingType)
    → IsKindedContext globals → AreGlobals globals → IsOverGlobals (length globals) f → AllServed f list
    → cond b (recursive_checked (limited n) devices globals definition definition.note) (plain_checked (limited n) globals definition) ≡ Found found list
    → is_well_formed_term (cond b (TermKind ∷ kinds_of globals) (kinds_of globals)) [] definition.right ≡ true
    → IsWellFormedNote globals definition.note → MeetsInNote without_holes 0 definition.note
    → signature_under f devices globals found ≡ Some signature
    → Outcomes b devices globals definition (accepted_with f found signature)
by_kind true devices globals definition n found list f signature formed alone over all is right kn closed signs =
    recursive_typed devices globals formed alone f over n definition definition.note found (asked_of list) (list, is, refl) (serves_asked f list all)
    (IsKindedTerm-from (TermKind ∷ kinds_of globals) [] definition.right right) kn closed signature signs
by_kind false devices globals definition n found list f signature formed alone over all is right kn closed signs =
    let t = plain_typed devices globals formed alone f over n definition found (asked_of list) (list, is, refl) (serves_asked f list all)
    (IsKindedTerm-from (kinds_of globals) [] definition.right right) kn signature signs in
    (t.0, (t.1.over_devices, t.1.closed (no_hole (length globals) f over TypeSort found.type)))

pub accepted_sound : (devices : ℕ) (globals : Context) (definition : Definition) (accepted : Accepted) → Fits globals definition → HasVerdict devices globals definition (IsAccepted accepted)
    → Sound devices globals definition accepted
accepted_sound devices globals definition accepted fits verdict =
    let p = accepted_parts devices globals definition accepted verdict in
    let over = least_over_globals (length globals) p.asked p.filling p.least in
    let all = by_kind definition.recursive devices globals definition p.steps p.found p.asked p.filling p.signature (IsKindedContext-from globals fits.formed) fits.globals_alone over p.served p.is fits.right_formed fits.note_formed fits.note_closed p.signs in
    subst (Sound devices globals definition) (sym p.accepts)
    (record {
      types = all.0;
      over_devices = all.1.0;
      signature_closed = all.1.1;
      term_closed = no_hole (length globals) p.filling over TermSort p.found.completed;
      type_closed = no_hole (length globals) p.filling over TypeSort p.found.type;
    })
