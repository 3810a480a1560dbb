-- Definitions that are defined under a filling: they are what the checker finds under it, and are typed by the rules.
use Rattle.std.proofs.Common.{◌≡◌, ℕ, suc, ◌+◌, ◌≤◌, Bool, true, false, cond, List, [], ◌∷◌, ◌++◌, length, Some, None, refl, sym, ap, ◌∙◌, subst, inl, arith}
use Rattle.cc_base.specs.declared.code.Code.TheVariants.{E17}
use Rattle.cc_core.specs.Shapes.{CapturingType, capturing}
use Rattle.cc_core.specs.Terms.{Note, Absent, Written, Own, Term}
use Rattle.cc_core.specs.Contexts.{Context, entry_of}
use Rattle.cc_core.specs.Substitution.{filled_term}
use Rattle.cc_core.specs.Occurrences.{MeetsInNote, without_holes, HasNoHoleInType}
use Rattle.cc_core.specs.Holes.{HolesAreOfParameters}
use Rattle.cc_core.specs.Places.{spots}
use Rattle.cc_core.specs.Typing.{HasType}
use Rattle.cc_core.specs.WellFormed.{TermKind, kinds_of, is_well_formed_term, IsWellFormedNote, IsWellFormedType}
use Rattle.cc_core.proofs.KindFacts.{IsKindedType, IsKindedTerm, IsKindedNote-from, IsKindedTerm-from}
use Rattle.cc_core.proofs.Sorts.{TypeSort}
use Rattle.cc_core.proofs.SubcapturingContexts.{IsKindedContext, IsKindedContext-from, IsKinded-added, IsKindedSet-added}
use Rattle.cc_checking.specs.Comparison.{type_comparison}
use Rattle.cc_checking.specs.Outcomes.{Asked, Placed, Found, found_or}
use Rattle.cc_checking.specs.Fillings.{Filling, AllServed, IsOverGlobals}
use Rattle.cc_checking.specs.Inference.{limited}
use Rattle.cc_checking.specs.Verdicts.{Definition, Checking, checking, signature_under, plain_checked, recursive_checked, checked, IsChecked}
use Rattle.cc_checking_laws.specs.CheckingLaws.{Fits, oldest}
use Rattle.cc_checking_laws.specs.FillingLaws.{AreGlobals}
use Rattle.cc_checking_laws.specs.AcceptedDefinitions.{definition_context}
use Rattle.cc_checking_laws.proofs.Findings.{below_all}
use Rattle.cc_checking_laws.proofs.FoundFindings.{asked_of, Came, then_came, finds_came, below_came, noted_came, avoided_came}
use Rattle.cc_checking_laws.proofs.ReachedFindings.{then_reaches}
use Rattle.cc_checking_laws.proofs.ReadingKinds.{outermost}
use Rattle.cc_checking_laws.proofs.FoundTypes.{regular}
use Rattle.cc_checking_laws.proofs.FilledSubtyping.{Serves, serves_parts, serves_asked, types_below}
use Rattle.cc_checking_laws.proofs.Tameness.{TameContext, closed_tame, closed_from}
use Rattle.cc_checking_laws.proofs.TameFindings.{tame}
use Rattle.cc_checking_laws.proofs.FitDemands.{globals_tame, note_has_none}
use Rattle.cc_checking_laws.proofs.Signatures.{signed}
use Rattle.cc_checking_laws.proofs.CheckedDefinitions.{no_hole, plain_typed, recursive_typed}
use Rattle.cc_calculus_laws.specs.DirectedTypes.{HasDirectedType, by_form, HasTypeByForm, of_variable, of_literal, of_function, of_type_function, of_application, of_type_application, of_box, of_unboxing, of_unboxing_alone, of_let, of_primitive, of_choice, of_choice_alone, of_repetition, of_operation, of_operation_alone, of_boundary, of_exit}
use Rattle.cc_calculus_laws.proofs.FilledMatches.{types_match}
use Rattle.cc_calculus_laws.proofs.FoundDirected.{named_with, directed}
use Rattle.cc_calculus_laws.proofs.FoundWhereDirected.{finds_reached, compared_reached, types_later, notes_later, serves_alone, comes, finding, named_notes}
use Rattle.cc_mnf.specs.ElaboratedModules.{CoreDefinition, is_right_side}
use Rattle.cc_verdicts.specs.ModuleVerdicts.{to_be_checked}
use Rattle.cc_sound_laws.specs.DefinedAs.{IsDefinedAs, not_recursive, recursive}

all_served : (f : Filling) (list : List Placed) → Serves f (asked_of list) → AllServed f list
all_served f [] s = tt
all_served f (p ∷ list) s = (s.0, all_served f list s.1)

serves_both : (f : Filling) (a b : List Asked) → Serves f a → Serves f b → Serves f (a ++ b)
serves_both f [] b p q = q
serves_both f (x ∷ a) b p q = (p.0, serves_both f a b p.1 q)

-- What the checker finds is served by the filling, and the value and the signature are those under it.
pub record Checks (devices : ℕ) (globals : Context) (definition : CoreDefinition) (f : Filling) (value : Term)
    (signature : CapturingType) : Type 0 where
  pub found : Checking
  pub asked : List Placed
  pub is : IsChecked devices globals (to_be_checked definition) (Found found asked)
  pub served : AllServed f asked
  pub signs : signature_under f devices globals found ≡ Some signature
  pub is_value : value ≡ filled_term f found.completed

module _ (devices : ℕ) (globals : Context) (definition : CoreDefinition) (f : Filling) (over : IsOverGlobals (length globals) f) where
  -- ---- what is checked is defined so
  plain_defined : (n : ℕ) (found : Checking) (qs : List Asked) → definition.recursive ≡ false
      → Came (plain_checked (limited n) globals (to_be_checked definition)) found qs → Serves f qs
      → (signature : CapturingType) → signature_under f devices globals found ≡ Some signature
      → IsDefinedAs devices globals definition f (filled_term f found.completed) signature
  plain_defined n found qs is c s signature signs =
      let k = then_came c in
      let k2 = then_came k.rest in
      let fin = finds_came k2.rest in
      let p = serves_parts f k.first k.second (subst (Serves f) k.all s) in
      let p2 = serves_parts f k2.first k2.second (subst (Serves f) k2.all p.1) in
      subst (λ (x : Checking). IsDefinedAs devices globals definition f (filled_term f x.completed) signature) (sym fin.0)
      (not_recursive is (directed n (length globals) (length globals) f over definition.right globals definition.places k.came p.0)
      (named_with n (length globals) (length globals) f over (noted_came n (length globals) (spots definition.places).at globals definition.note k.value.type k2.came) p2.0)
      (ap (λ (x : Checking). signature_under f devices globals x) (sym fin.0) ∙ signs))

  recursive_defined : (n : ℕ) (note : Note) (found : Checking) (qs : List Asked) → definition.recursive ≡ true → definition.note ≡ note
      → Came (recursive_checked (limited n) devices globals (to_be_checked definition) note) found qs
      → Serves f qs → (signature : CapturingType) → signature_under f devices globals found ≡ Some signature
      → IsDefinedAs devices globals definition f (filled_term f found.completed) signature
  recursive_defined n Absent found qs is wrote (list, e, q) s signature signs = cc
  recursive_defined n (Own x) found qs is wrote (list, e, q) s signature signs = cc
  recursive_defined n (Written x c) found qs is wrote came s signature signs =
      let k = then_came came in
      let a = avoided_came _ _ k.came in
      let k2 = then_came k.rest in
      let k3 = then_came k2.rest in
      let fin = finds_came k3.rest in
      let p = serves_parts f k.first k.second (subst (Serves f) k.all s) in
      let p2 = serves_parts f k2.first k2.second (subst (Serves f) k2.all p.1) in
      let p3 = serves_parts f k3.first k3.second (subst (Serves f) k3.all p2.1) in
      let sig : CapturingType = k.value in
      let b = below_came n (spots definition.places).at (entry_of sig ∷ globals) k2.value.type sig k3.came in
      let same : Some sig ≡ Some signature = ap (λ (y : Checking). signature_under f devices globals y) (sym fin.0) ∙ signs in
      let same' : sig ≡ signature = cc in
      subst (λ (y : Checking). IsDefinedAs devices globals definition f (filled_term f y.completed) signature) (sym fin.0)
      (subst (λ (z : CapturingType). IsDefinedAs devices globals definition f (filled_term f k2.value.completed) z) same'
      (recursive is wrote a.0 (directed n (suc (length globals)) (length globals) f over definition.right (entry_of sig ∷ globals) definition.places k2.came p2.0)
      (types_below (length globals) f over (entry_of sig ∷ globals) k2.value.type sig b.0 b.1 (subst (Serves f) b.2 p3.0))))

  defined_by_kind : (b : Bool) → definition.recursive ≡ b → (n : ℕ) (found : Checking) (asked : List Placed)
      → cond b (recursive_checked (limited n) devices globals (to_be_checked definition) definition.note) (plain_checked (limited n) globals (to_be_checked definition)) ≡ Found found asked
      → AllServed f asked
      → (signature : CapturingType) → signature_under f devices globals found ≡ Some signature
      → IsDefinedAs devices globals definition f (filled_term f found.completed) signature
  defined_by_kind true is n found asked e all signature signs = recursive_defined n definition.note found (asked_of asked) is refl (asked, e, refl) (serves_asked f asked all) signature signs
  defined_by_kind false is n found asked e all signature signs = plain_defined n found (asked_of asked) is (asked, e, refl) (serves_asked f asked all) signature signs

  pub checked_defined : (n : ℕ) (found : Checking) (asked : List Placed) → checked (limited n) devices globals (to_be_checked definition) ≡ Found found asked
      → AllServed f asked → (signature : CapturingType) → signature_under f devices globals found ≡ Some signature
      → IsDefinedAs devices globals definition f (filled_term f found.completed) signature
  checked_defined n found asked is all signature signs = defined_by_kind definition.recursive refl n found asked is all signature signs

  -- ---- what is defined so is checked
  module _ (fits : Fits globals (to_be_checked definition)) (holes : HolesAreOfParameters definition.right) where
    formed : IsKindedContext globals
    formed = IsKindedContext-from globals fits.formed

    right_kinded : (b : Bool) → definition.recursive ≡ b → IsKindedTerm (cond b (TermKind ∷ kinds_of globals) (kinds_of globals)) [] definition.right
    right_kinded b is =
        IsKindedTerm-from (cond b (TermKind ∷ kinds_of globals) (kinds_of globals)) [] definition.right
        (subst (λ x. is_well_formed_term (cond x (TermKind ∷ kinds_of globals) (kinds_of globals)) [] definition.right ≡ true) is fits.right_formed)

    kind_checked : (b : Bool) → definition.recursive ≡ b → (n : ℕ) {found : Checking} {qs : List Asked}
        → Came (cond b (recursive_checked (limited n) devices globals (to_be_checked definition) definition.note) (plain_checked (limited n) globals (to_be_checked definition))) found qs
        → Came (checked (limited n) devices globals (to_be_checked definition)) found qs
    kind_checked b is n {found} {qs} c =
        subst (λ x. Came (cond x (recursive_checked (limited n) devices globals (to_be_checked definition) definition.note) (plain_checked (limited n) globals (to_be_checked definition))) found qs) (sym is) c

    come : (n : ℕ) (found : Checking) (qs : List Asked) → Came (checked (limited n) devices globals (to_be_checked definition)) found qs → Serves f qs
        → (signature : CapturingType) → signature_under f devices globals found ≡ Some signature
        → Checks devices globals definition f (filled_term f found.completed) signature
    come n found qs (list, e, q) s signature signs =
        record { found = found; asked = list; is = (n, e, λ none. cc); served = all_served f list (subst (Serves f) (sym q) s); signs = signs; is_value = refl }

    pub defined_checked : (value : Term) (signature : CapturingType) → IsDefinedAs devices globals definition f value signature
        → Checks devices globals definition f value signature
    defined_checked value signature (not_recursive {completed = t} {note = note} {found = found} {named = named} is d nm signs) =
        let kt = right_kinded false is in
        let tg = globals_tame globals fits.globals_alone in
        let kn = IsKindedNote-from (kinds_of globals) [] definition.note fits.note_formed in
        let ca = comes globals (length globals) f over d outermost formed tg kt holes definition.places in
        let fa = finding globals (length globals) f over ca in
        let reg = (regular globals fa outermost formed kt).0 in
        let ta = tame globals fa outermost formed kt tg holes in
        let nt = named_notes globals (length globals) f over outermost formed tg reg kn (note_has_none definition.note fits.note_closed) ta.shape nm in
        let k = notes_later nt.1 in
        let n = ca.steps + k.0 in
        let la : ca.steps ≤ n = omega arith in
        let lk : k.0 ≤ n = omega arith in
        come n (checking note t named None) (ca.asked ++ (nt.0 ++ []))
        (kind_checked false is n (then_reaches _ (ca.came n la) (then_reaches _ (k.1 n lk (spots definition.places).at) (finds_reached _) refl) refl))
        (serves_both f ca.asked (nt.0 ++ []) ca.serves (serves_alone f nt.0 nt.2)) signature signs
    defined_checked value signature (recursive {shape = x} {set = c} {completed = t} {found = found} is wrote signs d below) =
        let kn : IsWellFormedNote globals (Written x c) = subst (IsWellFormedNote globals) wrote fits.note_formed in
        let none : MeetsInNote without_holes 0 (Written x c) = subst (MeetsInNote without_holes 0) wrote fits.note_closed in
        let sg = signed devices globals globals (λ q b h. h) formed formed fits.globals_alone (capturing x c) signature (IsKindedNote-from (kinds_of globals) [] (Written x c) kn) kn signs in
        let closed = sg.closed none in
        let base : Context = entry_of signature ∷ globals in
        let kbase : IsKindedContext base = (sg.kinded, formed) in
        let tg : TameContext base = ((closed_tame signature.shape (closed_from 0 signature.shape closed.0), inl closed.1), globals_tame globals fits.globals_alone) in
        let kt = right_kinded true is in
        let ca = comes base (length globals) f over d outermost kbase tg kt holes definition.places in
        let fa = finding base (length globals) f over ca in
        let reg = (regular base fa outermost kbase kt).0 in
        let ta = tame base fa outermost kbase kt tg holes in
        let ksig : IsKindedType (kinds_of base) [] signature = (IsKinded-added TermKind (kinds_of globals) [] signature.shape sg.kinded.0, IsKindedSet-added TermKind (kinds_of globals) [] signature.set sg.kinded.1) in
        let m = types_match (length globals) f over base found signature kbase tg reg ksig ta.shape (closed_tame signature.shape (closed_from 0 signature.shape closed.0)) below in
        let l = types_later base found signature m.1 in
        let n = ca.steps + l.0 in
        let la : ca.steps ≤ n = omega arith in
        let ll : l.0 ≤ n = omega arith in
        let whole : Checking = checking (Written signature.shape signature.set) t signature (Some signature) in
        let steps : Came (recursive_checked (limited n) devices globals (to_be_checked definition) (Written x c)) whole ([] ++ (ca.asked ++ (below_all m.0 ++ []))) =
        then_reaches _ ([], ap (found_or E17 definition.name_at) signs, refl)
        (then_reaches _ (ca.came n la) (then_reaches _ (compared_reached (spots definition.places).at (type_comparison n base found signature) m.0 (l.1 n ll)) (finds_reached _) refl) refl) refl in
        come n whole (ca.asked ++ (below_all m.0 ++ []))
        (kind_checked true is n
        (subst (λ y. Came (recursive_checked (limited n) devices globals (to_be_checked definition) y) whole (ca.asked ++ (below_all m.0 ++ []))) (sym wrote) steps))
        (serves_both f ca.asked (below_all m.0 ++ []) ca.serves (serves_alone f (below_all m.0) m.2)) signature refl

-- ---- what is defined so is typed
-- the value has the type of the signature, which is over the devices and has no hole
pub record IsTypedAs (devices : ℕ) (globals : Context) (definition : CoreDefinition) (value : Term)
    (signature : CapturingType) : Type 0 where
  pub has_type : HasType (definition_context globals (to_be_checked definition) signature) value signature
  pub over_devices : IsWellFormedType (oldest devices globals) signature
  pub closed : HasNoHoleInType signature

typed_by_kind : (b : Bool) (devices : ℕ) (globals : Context) (definition : Definition) (n : ℕ) (found : Checking) (list : List Placed) (f : Filling) (signature : CapturingType)
    → IsKindedContext globals → AreGlobals globals → IsOverGlobals (length globals) f → AllServed f list
    → cond b (recursive_checked (limited n) devices globals definition definition.note) (plain_checked (limited n) globals definition) ≡ Found found list
    → is_well_formed_term (cond b (TermKind ∷ kinds_of globals) (kinds_of globals)) [] definition.right ≡ true
    → IsWellFormedNote globals definition.note → MeetsInNote without_holes 0 definition.note
    → signature_under f devices globals found ≡ Some signature
    → HasType (cond b (entry_of signature ∷ globals) globals) (filled_term f found.completed) signature
    × (IsWellFormedType (oldest devices globals) signature × HasNoHoleInType signature)
typed_by_kind true devices globals definition n found list f signature formed alone over all is right kn closed signs =
    let t = recursive_typed devices globals formed alone f over n definition definition.note found (asked_of list) (list, is, refl) (serves_asked f list all)
    (IsKindedTerm-from (TermKind ∷ kinds_of globals) [] definition.right right) kn closed signature signs in
    (t.0.1, t.1)
typed_by_kind false devices globals definition n found list f signature formed alone over all is right kn closed signs =
    let t = plain_typed devices globals formed alone f over n definition found (asked_of list) (list, is, refl) (serves_asked f list all)
    (IsKindedTerm-from (kinds_of globals) [] definition.right right) kn signature signs in
    (t.0.1, (t.1.over_devices, t.1.closed (no_hole (length globals) f over TypeSort found.type)))

pub defined_typed : (devices : ℕ) (globals : Context) (definition : CoreDefinition) (f : Filling) (value : Term) (signature : CapturingType)
    → Fits globals (to_be_checked definition) → HolesAreOfParameters definition.right → IsOverGlobals (length globals) f
    → IsDefinedAs devices globals definition f value signature → IsTypedAs devices globals definition value signature
defined_typed devices globals definition f value signature fits holes over defined =
    let c = defined_checked devices globals definition f over fits holes value signature defined in
    let t = typed_by_kind definition.recursive devices globals (to_be_checked definition) c.is.0 c.found c.asked f signature
    (IsKindedContext-from globals fits.formed) fits.globals_alone over c.served c.is.1 fits.right_formed fits.note_formed fits.note_closed c.signs in
    record {
      has_type = subst (λ v. HasType (definition_context globals (to_be_checked definition) signature) v signature) (sym c.is_value) t.0;
      over_devices = t.1.0;
      closed = t.1.1;
    }

-- ---- the value is of the form of the right side
right_formed : (b : Bool) (f : Filling) {root : ℕ} {g : Context} {t t' : Term} {type : CapturingType}
    → HasTypeByForm f root g t t' type → is_right_side b (filled_term f t') ≡ is_right_side b t
right_formed b f (of_variable h) = refl
right_formed b f of_literal = refl
right_formed b f (of_function d) = refl
right_formed b f (of_type_function d) = refl
right_formed b f (of_application h o) = refl
right_formed b f (of_type_application h o) = refl
right_formed b f (of_box h) = refl
right_formed b f (of_unboxing h s n) = refl
right_formed b f (of_unboxing_alone h n) = refl
right_formed b f (of_let d n e a) = refl
right_formed b f (of_primitive o p) = refl
right_formed b f (of_choice o d s e u) = refl
right_formed b f (of_choice_alone o d s e u) = refl
right_formed b f (of_repetition o p) = refl
right_formed b f (of_operation h e o) = refl
right_formed b f (of_operation_alone h e) = refl
right_formed b f (of_boundary d s) = refl
right_formed b f (of_exit h o) = refl

directed_right : (b : Bool) (f : Filling) {root : ℕ} {g : Context} {t t' : Term} {type : CapturingType}
    → HasDirectedType f root g t t' type → is_right_side b (filled_term f t') ≡ is_right_side b t
directed_right b f (by_form d size) = right_formed b f d

pub defined_right : (b : Bool) (devices : ℕ) (globals : Context) (definition : CoreDefinition) (f : Filling) (value : Term) (signature : CapturingType)
    → IsDefinedAs devices globals definition f value signature → is_right_side b value ≡ is_right_side b definition.right
defined_right b devices globals definition f value signature (not_recursive is d n s) = directed_right b f d
defined_right b devices globals definition f value signature (recursive is w s d u) = directed_right b f d
