-- The outermost set of an accepted definition's signature.
use Rattle.std.proofs.Common.{◌≡◌, ◌↔◌, ℕ, ◌<◌, ◌≤◌, nat_lt, Bool, true, false, cond, List, [], ◌∷◌, length, Some, refl, sym, ap, ◌∙◌, subst, arith}
use Rattle.std.proofs.lemmas.Bool.{ltb-true}
use Rattle.cc_capture.specs.declared.var.Var.TheVariants.{Bound, Free}
use Rattle.cc_capture.specs.declared.var.Elem.{Elem}
use Rattle.cc_capture.specs.declared.var.Elem.TheVariants.{Var as Variable, Cap, Hole}
use Rattle.cc_capture.specs.Sets.{Set, Member}
use Rattle.cc_core.specs.Shapes.{CapturingType}
use Rattle.cc_core.specs.Terms.{Note, Absent, Written, Own}
use Rattle.cc_core.specs.Contexts.{Context, entry_of}
use Rattle.cc_core.specs.Occurrences.{IsNoHole, HasNoHoleInSet, HasNoHoleInType}
use Rattle.cc_core.specs.Substitution.{filled_type}
use Rattle.cc_core.specs.WellFormed.{kind_of, kinds_of, IsWellFormedType}
use Rattle.cc_core.proofs.KindFacts.{IsKindedElement, IsKindedSet, IsKindedType-from}
use Rattle.cc_core.proofs.Lookups.{lookup-below, length_map}
use Rattle.cc_core.proofs.Sorts.{TypeSort}
use Rattle.cc_checking.specs.Outcomes.{Asked, Placed, Found}
use Rattle.cc_checking.specs.Inference.{limited}
use Rattle.cc_checking.specs.Fillings.{Filling, IsGlobal}
use Rattle.cc_checking.specs.Verdicts.{Definition, Checking, Accepted, plain_checked, recursive_checked, signature_of, signature_under}
use Rattle.cc_checking_laws.proofs.FoundFindings.{Came, asked_of, then_came, finds_came}
use Rattle.cc_checking_laws.proofs.LeastFillings.{filled-still}
use Rattle.cc_checking_laws.proofs.CheckedDefinitions.{accepted_parts, accepted_sound}
use Rattle.cc_checking_laws.proofs.SignatureSets.{ComesFrom, of_devices, signature_comes}
use Rattle.cc_checking_laws.specs.FillingLaws.{AreGlobals}
use Rattle.cc_checking_laws.specs.CheckingLaws.{oldest, SetsAreOverDevices, IsOfSetOrItsDefinitions, SignatureSetsAreOfDevices}
use Rattle.cc_checking_laws.specs.AcceptedDefinitions.{definition_context}

-- the elements of a well-formed set without holes
within_kinds : (g : Context) (c : Set) → IsKindedSet (kinds_of g) [] c → HasNoHoleInSet c → (e : Elem) → Member e c → IsGlobal (length g) e
within_kinds g c k none e m = by_element e (k e m) (none e m)
  where
    by_element : (e : Elem) → IsKindedElement (kinds_of g) [] e → IsNoHole e → IsGlobal (length g) e
    by_element (Variable (Free p)) k n =
        let below : p < length (kinds_of g) = lookup-below (kinds_of g) p _ k in subst (λ m. p < m) (length_map kind_of g) below
    by_element (Variable (Bound i)) k n = cc
    by_element Cap k n = tt
    by_element (Hole h) k n = absurd n

oldest_length : (devices : ℕ) (g : Context) → length (oldest devices g) ≤ devices
oldest_length devices [] = omega arith
oldest_length devices (b ∷ g) =
    elim (nat_lt (length g) devices) as (λ t. nat_lt (length g) devices ≡ t → length (cond t (b ∷ g) (oldest devices g)) ≤ devices) [
      | true ↦ λ below. let less = ltb-true (length g) devices below in omega (arith, less)
      | false ↦ λ above. oldest_length devices g
    ] refl

fewer_within : (a b : ℕ) → a ≤ b → (e : Elem) → IsGlobal a e → IsGlobal b e
fewer_within a b le (Variable (Free p)) g = omega arith
fewer_within a b le (Variable (Bound i)) g = absurd g
fewer_within a b le Cap g = tt
fewer_within a b le (Hole n) g = absurd g

-- a recursive definition's type is its signature, and the signature of another comes from its type
abbrev Signs : Bool → ℕ → Context → Filling → Checking → CapturingType → Type 0
Signs true devices globals f found signature = found.type ≡ signature
Signs false devices globals f found signature = signature_of devices globals (filled_type f found.type) ≡ Some signature

some_type : {s t : CapturingType} → Some s ≡ Some t → s ≡ t
some_type e = cc

recursive_signs : (n devices : ℕ) (globals : Context) (definition : Definition) (note : Note) (f : Filling) (found : Checking) (qs : List Asked) (signature : CapturingType)
    → Came (recursive_checked (limited n) devices globals definition note) found qs → signature_under f devices globals found ≡ Some signature → found.type ≡ signature
recursive_signs n devices globals definition Absent f found qs signature (list, e, q) signs = cc
recursive_signs n devices globals definition (Own s) f found qs signature (list, e, q) signs = cc
recursive_signs n devices globals definition (Written s c) f found qs signature came signs =
    let k = then_came came in
    let k2 = then_came k.rest in
    let k3 = then_came k2.rest in
    let fin = finds_came k3.rest in
    let is : Some k.value ≡ Some signature = ap (λ (x : Checking). signature_under f devices globals x) (sym fin.0) ∙ signs in
    ap (λ (x : Checking). x.type) fin.0 ∙ some_type is

plain_signs : (n devices : ℕ) (globals : Context) (definition : Definition) (f : Filling) (found : Checking) (qs : List Asked) (signature : CapturingType)
    → Came (plain_checked (limited n) globals definition) found qs → signature_under f devices globals found ≡ Some signature
    → signature_of devices globals (filled_type f found.type) ≡ Some signature
plain_signs n devices globals definition f found qs signature came signs =
    let k = then_came came in
    let k2 = then_came k.rest in
    let fin = finds_came k2.rest in
    ap (λ (x : Checking). signature_of devices globals (filled_type f x.type)) fin.0
    ∙ (ap (λ (x : Checking). signature_under f devices globals x) (sym fin.0) ∙ signs)

signs_by : (b : Bool) (n devices : ℕ) (globals : Context) (definition : Definition) (f : Filling) (found : Checking) (list : List Placed) (signature : CapturingType)
    → cond b (recursive_checked (limited n) devices globals definition definition.note) (plain_checked (limited n) globals definition) ≡ Found found list
    → signature_under f devices globals found ≡ Some signature → Signs b devices globals f found signature
signs_by true n devices globals definition f found list signature is signs = recursive_signs n devices globals definition definition.note f found (asked_of list) signature (list, is, refl) signs
signs_by false n devices globals definition f found list signature is signs = plain_signs n devices globals definition f found (asked_of list) signature (list, is, refl) signs

module _ (devices : ℕ) (globals : Context) (over : SetsAreOverDevices devices globals) where
  by_kind : (b : Bool) (f : Filling) (found : Checking) (signature : CapturingType) → Signs b devices globals f found signature
      → IsKindedSet (kinds_of (cond b (entry_of signature ∷ globals) globals)) [] (filled_type f found.type).set → HasNoHoleInSet (filled_type f found.type).set
      → IsKindedSet (kinds_of (oldest devices globals)) [] signature.set → HasNoHoleInType signature → AreGlobals globals
      → (e : Elem) → Member e signature.set ↔ ComesFrom devices globals over (filled_type f found.type).set e
  by_kind true f found signature signs k none ks nones alone e =
      let same : filled_type f found.type ≡ signature = ap (filled_type f) signs ∙ filled-still TypeSort f 0 signature nones in
      subst (λ (t : CapturingType). Member e signature.set ↔ ComesFrom devices globals over t.set e) (sym same)
      (of_devices devices globals over signature.set
      (λ x m. fewer_within (length (oldest devices globals)) devices (oldest_length devices globals) x (within_kinds (oldest devices globals) signature.set ks nones.1 x m)) e)
  by_kind false f found signature signs k none ks nones alone e =
      signature_comes devices globals over globals (λ p b h. h) alone (filled_type f found.type) signature
      (within_kinds globals (filled_type f found.type).set k none) signs e

-- the law
pub signature_sets : SignatureSetsAreOfDevices
signature_sets devices globals definition accepted e fits over verdict =
    let p = accepted_parts devices globals definition accepted verdict in
    let sound = accepted_sound devices globals definition accepted fits verdict in
    subst (λ (a : Accepted). Member e a.signature.set ↔ (IsGlobal devices e × IsOfSetOrItsDefinitions devices globals a.type.set e)) (sym p.accepts)
    (by_kind devices globals over definition.recursive p.filling p.found p.signature
    (signs_by definition.recursive p.steps devices globals definition p.filling p.found p.asked p.signature p.is p.signs)
    (IsKindedType-from _ [] (filled_type p.filling p.found.type) (subst (λ (a : Accepted). IsWellFormedType (definition_context globals definition a.signature) a.type) p.accepts sound.types.0.type_formed)).1 (subst (λ (a : Accepted). HasNoHoleInSet a.type.set) p.accepts sound.type_closed.1)
    (IsKindedType-from _ [] p.signature (subst (λ (a : Accepted). IsWellFormedType (oldest devices globals) a.signature) p.accepts sound.over_devices)).1
    (subst (λ (a : Accepted). HasNoHoleInType a.signature) p.accepts sound.signature_closed) fits.globals_alone e)
