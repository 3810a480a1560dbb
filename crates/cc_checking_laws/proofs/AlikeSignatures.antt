-- Whether a type has a signature does not depend on the filling: invariant places have no hole.
use Rattle.std.proofs.Common.{◌≡◌, ◌⊎◌, ℕ, suc, Bool, true, false, cond, List, [], ◌∷◌, length, Option, Some, None, refl, sym, ap, ◌∙◌, subst, inl, inr}
use Rattle.std.specs.Prelude.{nat_lt}
use Rattle.std.specs.Option.{option_map, option_and_then}
use Rattle.cc_base.specs.declared.code.Code.{Code}
use Rattle.cc_base.specs.declared.literal.Base.{Base}
use Rattle.cc_base.specs.declared.place.Place.{Place}
use Rattle.cc_capture.specs.declared.var.Var.{Var}
use Rattle.cc_capture.specs.Sets.{Set}
use Rattle.cc_core.specs.Shapes.{Shape, BaseShape, AnyShape, TypeVariable, FunctionShape, TypeFunctionShape, BoxShape, ExitShape, CapturingType, capturing}
use Rattle.cc_core.specs.Contexts.{Context}
use Rattle.cc_core.specs.Terms.{Note, Absent, Written, Own}
use Rattle.cc_core.specs.Occurrences.{MeetsInNote, without_holes}
use Rattle.cc_core.specs.Places.{spots}
use Rattle.cc_core.specs.Substitution.{filling_in, filled_type}
use Rattle.cc_core.specs.Traversal.{act, act_set}
use Rattle.cc_core.specs.WellFormed.{TermKind, kinds_of, is_well_formed_term, IsWellFormedNote}
use Rattle.cc_core.proofs.KindFacts.{IsKindedTerm-from, IsKindedNote-from}
use Rattle.cc_core.proofs.Sorts.{ShapeSort}
use Rattle.cc_core.proofs.SubcapturingContexts.{IsKindedContext, IsKindedContext-from}
use Rattle.cc_checking.specs.Avoidance.{Sign, Positive, opposite, avoided, avoided_set, avoided_type, with_both, unless_free, is_free_in}
use Rattle.cc_checking.specs.Outcomes.{Placed, NoAnswer, Refused, Found}
use Rattle.cc_checking.specs.Fillings.{Filling, IsOverGlobals}
use Rattle.cc_checking.specs.Inference.{limited}
use Rattle.cc_checking.specs.Verdicts.{Definition, Checking, plain_checked, recursive_checked, declared_set, settled_or, signature_of, signature_under, signature_verdict, IsRefused, HasVerdict, HasAlgorithmicType}
use Rattle.cc_typing_laws.proofs.Avoiding.{both_some, map_some, unless_some}
use Rattle.cc_checking_laws.specs.FillingLaws.{AreGlobals}
use Rattle.cc_checking_laws.specs.CheckingLaws.{Fits}
use Rattle.cc_core.specs.Holes.{HolesAreOfParameters}
use Rattle.cc_checking_laws.proofs.FoundFindings.{asked_of, Came, then_came, finds_came, found_finds, noted_came}
use Rattle.cc_checking_laws.proofs.ReadingKinds.{outermost}
use Rattle.cc_checking_laws.proofs.FoundTypes.{regular}
use Rattle.cc_checking_laws.proofs.LeastFillings.{filled-still}
use Rattle.cc_checking_laws.proofs.Signatures.{and_then_parts}
use Rattle.cc_checking_laws.proofs.Tameness.{Closed, Tame, closed_tame}
use Rattle.cc_checking_laws.proofs.TameFindings.{closed_to, notes_tame, tame}
use Rattle.cc_checking_laws.proofs.FitDemands.{globals_tame, note_has_none, failed_demands_are_final}
use Rattle.cc_checking_laws.proofs.OneVerdict.{one_checking, refused_is_final}

-- shapes that differ in sets alone, outside of invariant places
data Alike : Shape → Shape → Type 0 where
  alike-base : {b : Base} → Alike (BaseShape b) (BaseShape b)
  alike-any : Alike AnyShape AnyShape
  alike-variable : {v : Var} → Alike (TypeVariable v) (TypeVariable v)
  alike-function : {t t' u u' : Shape} {c c' e e' : Set} → Alike t t' → Alike u u' → Alike (FunctionShape t c u e) (FunctionShape t' c' u' e')
  alike-type_function : {b u u' : Shape} {e e' : Set} → Alike u u' → Alike (TypeFunctionShape b u e) (TypeFunctionShape b u' e')
  alike-box : {t t' : Shape} {c c' : Set} → Alike t t' → Alike (BoxShape t c) (BoxShape t' c')
  alike-exit : {t : Shape} → Alike (ExitShape t) (ExitShape t)

still : (f : Filling) (d : ℕ) (s : Shape) → Closed s → act (filling_in f) d s ≡ s
still f d s k = filled-still ShapeSort f d s (closed_to d s k)

fills_alike : (f f' : Filling) (d : ℕ) (s : Shape) → Tame s → Alike (act (filling_in f) d s) (act (filling_in f') d s)
fills_alike f f' d (BaseShape b) k = alike-base
fills_alike f f' d AnyShape k = alike-any
fills_alike f f' d (TypeVariable v) k = alike-variable
fills_alike f f' d (FunctionShape t c u e) k = alike-function (fills_alike f f' d t (closed_tame t k.0)) (fills_alike f f' (suc d) u k.2)
fills_alike f f' d (TypeFunctionShape b u e) k =
    subst (λ x. Alike (TypeFunctionShape x (act (filling_in f) (suc d) u) (act_set (filling_in f) (suc d) e)) (act (filling_in f') d (TypeFunctionShape b u e))) (sym (still f d b k.0))
    (subst (λ x. Alike (TypeFunctionShape b (act (filling_in f) (suc d) u) (act_set (filling_in f) (suc d) e)) (TypeFunctionShape x (act (filling_in f') (suc d) u) (act_set (filling_in f') (suc d) e))) (sym (still f' d b k.0))
    (alike-type_function (fills_alike f f' (suc d) u k.1)))
fills_alike f f' d (BoxShape t c) k = alike-box (fills_alike f f' d t k.0)
fills_alike f f' d (ExitShape t) k =
    subst (λ x. Alike (ExitShape x) (ExitShape (act (filling_in f') d t))) (sym (still f d t k)) (subst (λ x. Alike (ExitShape t) (ExitShape x)) (sym (still f' d t k)) alike-exit)

avoids_alike : {s s' : Shape} → Alike s s' → (sign : Sign) (p : ℕ) (d : Set) (r : Shape) → avoided sign p d s ≡ Some r → (r' : Shape) × (avoided sign p d s' ≡ Some r') × Alike r r'
avoids_alike (alike-base {b = b}) sign p d r e = (r, e, let is : BaseShape b ≡ r = cc in subst (λ x. Alike x x) is alike-base)
avoids_alike alike-any sign p d r e = (r, e, let is : AnyShape ≡ r = cc in subst (λ x. Alike x x) is alike-any)
avoids_alike (alike-variable {v = v}) sign p d r e = (r, e, let is : TypeVariable v ≡ r = cc in subst (λ x. Alike x x) is alike-variable)
avoids_alike (alike-function {t = t} {t' = t'} {u = u} {u' = u'} {c = c} {c' = c'} {e = x} {e' = x'} a b) sign p d r e =
    let parts = both_some (avoided (opposite sign) p d t) (avoided sign p d u) (λ y z. FunctionShape y (avoided_set (opposite sign) p d c) z (avoided_set sign p d x)) r e in
    let one = avoids_alike a (opposite sign) p d parts.0 parts.2 in
    let two = avoids_alike b sign p d parts.1 parts.3 in
    let build : Shape → Shape → Shape = λ y z. FunctionShape y (avoided_set (opposite sign) p d c') z (avoided_set sign p d x') in (
      build one.0 two.0,
      ap (λ o. with_both o (avoided sign p d u') build) one.1 ∙ ap (λ o. with_both (Some one.0) o build) two.1,
      subst (λ y. Alike y (build one.0 two.0)) (sym parts.4) (alike-function one.2 two.2),
    )
avoids_alike (alike-type_function {b = b} {u = u} {u' = u'} {e = x} {e' = x'} a) sign p d r e =
    let unfree = unless_some (is_free_in p b) (option_map (λ y. TypeFunctionShape b y (avoided_set sign p d x)) (avoided sign p d u)) r e in
    let parts = map_some (avoided sign p d u) (λ y. TypeFunctionShape b y (avoided_set sign p d x)) r unfree.1 in
    let one = avoids_alike a sign p d parts.0 parts.1 in (
      TypeFunctionShape b one.0 (avoided_set sign p d x'),
      ap (λ t. unless_free t (option_map (λ y. TypeFunctionShape b y (avoided_set sign p d x')) (avoided sign p d u'))) unfree.0
          ∙ ap (option_map (λ y. TypeFunctionShape b y (avoided_set sign p d x'))) one.1,
      subst (λ y. Alike y (TypeFunctionShape b one.0 (avoided_set sign p d x'))) (sym parts.2) (alike-type_function one.2),
    )
avoids_alike (alike-box {t = t} {t' = t'} {c = c} {c' = c'} a) sign p d r e =
    let parts = map_some (avoided sign p d t) (λ y. BoxShape y (avoided_set sign p d c)) r e in
    let one = avoids_alike a sign p d parts.0 parts.1 in (
      BoxShape one.0 (avoided_set sign p d c'),
      ap (option_map (λ y. BoxShape y (avoided_set sign p d c'))) one.1,
      subst (λ y. Alike y (BoxShape one.0 (avoided_set sign p d c'))) (sym parts.2) (alike-box one.2),
    )
avoids_alike (alike-exit {t = t}) sign p d r e =
    let unfree = unless_some (is_free_in p t) (Some (ExitShape t)) r e in
    (r, e, let is : ExitShape t ≡ r = cc in subst (λ x. Alike x x) is alike-exit)

signs_alike : (devices : ℕ) (older : Context) (t t' s : CapturingType) → Alike t.shape t'.shape → signature_of devices older t ≡ Some s → (s' : CapturingType) × (signature_of devices older t' ≡ Some s')
signs_alike devices [] t t' s a e = (t', refl)
signs_alike devices (b ∷ older) t t' s a e =
    elim (nat_lt (length older) devices) as (λ x.
    cond x (Some t) (option_and_then (signature_of devices older) (avoided_type Positive (length older) (declared_set b) t)) ≡ Some s
    → (s' : CapturingType) × (cond x (Some t') (option_and_then (signature_of devices older) (avoided_type Positive (length older) (declared_set b) t')) ≡ Some s')) [
      | true ↦ λ found. (t', refl)
      | false ↦ λ found.
          let d = declared_set b in
          let parts = and_then_parts (signature_of devices older) (avoided_type Positive (length older) d t) s found in
          let inside = map_some (avoided Positive (length older) d t.shape) (λ x. capturing x (avoided_set Positive (length older) d t.set)) parts.0 parts.1 in
          let one = avoids_alike a Positive (length older) d inside.0 inside.1 in
          let next : CapturingType = capturing one.0 (avoided_set Positive (length older) d t'.set) in
          let rest = signs_alike devices older parts.0 next s (subst (λ (x : CapturingType). Alike x.shape one.0) (sym inside.2) one.2) parts.2 in
          (rest.0, ap (λ o. option_and_then (signature_of devices older) (option_map (λ x. capturing x (avoided_set Positive (length older) d t'.set)) o)) one.1 ∙ rest.1)
    ] e

-- the type of a definition whose signature is not settled is tame
found_tame : (b : Bool) (devices : ℕ) (globals : Context) (definition : Definition) (n : ℕ) (found : Checking) (list : List Placed) → IsKindedContext globals → AreGlobals globals
    → cond b (recursive_checked (limited n) devices globals definition definition.note) (plain_checked (limited n) globals definition) ≡ Found found list
    → is_well_formed_term (cond b (TermKind ∷ kinds_of globals) (kinds_of globals)) [] definition.right ≡ true
    → IsWellFormedNote globals definition.note → MeetsInNote without_holes 0 definition.note → HolesAreOfParameters definition.right
    → Tame found.type.shape ⊎ ((s : CapturingType) × (found.settled ≡ Some s))
found_tame true devices globals definition n found list formed alone is right kn none holes = inr (by_note definition.note (list, is, refl))
  where
    by_note : (note : Note) → Came (recursive_checked (limited n) devices globals definition note) found (asked_of list) → (s : CapturingType) × (found.settled ≡ Some s)
    by_note Absent (l, e, q) = cc
    by_note (Own s) (l, e, q) = cc
    by_note (Written s c) came =
        let k = then_came came in
        let k2 = then_came k.rest in
        let k3 = then_came k2.rest in
        let fin = finds_came k3.rest in
        (k.value, ap (λ (x : Checking). x.settled) fin.0)
found_tame false devices globals definition n found list formed alone is right kn none holes =
    let came : Came (plain_checked (limited n) globals definition) found (asked_of list) = (list, is, refl) in
    let k = then_came came in
    let k2 = then_came k.rest in
    let fin = finds_came k2.rest in
    let tg = globals_tame globals alone in
    let kt = IsKindedTerm-from (kinds_of globals) [] definition.right right in
    let finding = found_finds n (length globals) (limited n).passes definition.right globals definition.places k.came in
    let notes = noted_came n (length globals) (spots definition.places).at globals definition.note k.value.type k2.came in
    let t = tame globals finding outermost formed kt tg holes in
    let m = notes_tame globals notes outermost formed tg (regular globals finding outermost formed kt).0 (IsKindedNote-from (kinds_of globals) [] definition.note kn) (note_has_none definition.note none) t.shape t.set in
    inl (subst (λ (x : Checking). Tame x.type.shape) (sym fin.0) m.0.0)

no_signature : (f f' : Filling) (devices : ℕ) (globals : Context) (found : Checking) (s : CapturingType) → Tame found.type.shape ⊎ ((x : CapturingType) × (found.settled ≡ Some x))
    → signature_under f devices globals found ≡ None → signature_under f' devices globals found ≡ Some s → ⊥
no_signature f f' devices globals found s (inr settled) none some =
    let is : Some settled.0 ≡ None = ap (λ o. settled_or o devices globals (filled_type f found.type)) (sym settled.1) ∙ none in cc
no_signature f f' devices globals found s (inl t) none some = by_settled found.settled none some
  where
    by_settled : (o : Option CapturingType) → settled_or o devices globals (filled_type f found.type) ≡ None → settled_or o devices globals (filled_type f' found.type) ≡ Some s → ⊥
    by_settled (Some x) none some = cc
    by_settled None none some =
        let other = signs_alike devices globals (filled_type f' found.type) (filled_type f found.type) s (fills_alike f' f 0 found.type.shape t) some in
        let clash : None ≡ Some other.0 = sym none ∙ other.1 in cc

verdict_none : (f : Filling) (definition : Definition) (found : Checking) (o : Option CapturingType) (code : Code) (at : Place) → IsRefused code at ≡ signature_verdict f definition found o → o ≡ None
verdict_none f definition found (Some s) code at e = cc
verdict_none f definition found None code at e = refl

found_is : {a b : Checking} {x y : List Placed} → Found a x ≡ Found b y → a ≡ b
found_is e = cc

pub refused_has_no_type : (devices : ℕ) (globals : Context) (definition : Definition) (code : Code) (at : Place) (filling : Filling) → Fits globals definition → HolesAreOfParameters definition.right
    → HasVerdict devices globals definition (IsRefused code at) → IsOverGlobals (length globals) filling → HasAlgorithmicType devices globals definition filling → ⊥
refused_has_no_type devices globals definition code at filling fits holes (NoAnswer, c, d) over typed = absurd d
refused_has_no_type devices globals definition code at filling fits holes (Refused code' at', c, d) over typed = refused_is_final devices globals definition code' at' filling c typed
refused_has_no_type devices globals definition code at filling fits holes (Found found asked, c, (f, least, inl x)) over typed =
    failed_demands_are_final devices globals definition found asked x.0 x.1 f filling fits holes c least x.2 over typed
refused_has_no_type devices globals definition code at filling fits holes (Found found asked, (n, is, done), (f, least, inr x)) over (found', asked', c', all, signs) =
    let same : found' ≡ found = found_is (one_checking devices globals definition (Found found' asked') (Found found asked) c' (n, is, done)) in
    let none = verdict_none f definition found (signature_under f devices globals found) code at x.1 in
    let t = found_tame definition.recursive devices globals definition n found asked (IsKindedContext-from globals fits.formed) fits.globals_alone is fits.right_formed fits.note_formed fits.note_closed holes in
    no_signature f filling devices globals found signs.0 t none (ap (λ (y : Checking). signature_under filling devices globals y) (sym same) ∙ signs.1)
