-- The signature of an accepted definition is that of the type that is written for it, and its own.
use Rattle.std.proofs.Common.{◌≡◌, ℕ, suc, ◌<◌, ◌≤◌, Bool, true, false, cond, List, [], ◌∷◌, length, Option, Some, None, refl, sym, ap, subst, ◌∙◌, arith}
use Rattle.std.specs.Prelude.{nat_lt, nat_eq}
use Rattle.std.specs.Option.{option_map, option_and_then}
use Rattle.std.proofs.lemmas.Bool.{false_from_ne_true, or_from, eqb-true, ltb-true, ltb-false}
use Rattle.cc_capture.specs.declared.var.Var.{Var}
use Rattle.cc_capture.specs.declared.var.Var.TheVariants.{Bound, Free}
use Rattle.cc_capture.specs.declared.var.Elem.TheVariants.{Var as Variable}
use Rattle.cc_capture.specs.Sets.{Set, contains, remove, union}
use Rattle.cc_core.specs.Contexts.{Bind, Context, entry_of}
use Rattle.cc_core.specs.Occurrences.{Meets, MeetsInSet, MeetsInType, MeetsInNote, IsPositionBelow, positions_below, without_holes}
use Rattle.cc_core.specs.Shapes.{Shape, BaseShape, AnyShape, TypeVariable, FunctionShape, TypeFunctionShape, BoxShape, ExitShape, CapturingType, capturing}
use Rattle.cc_core.specs.Substitution.{filled, filled_type}
use Rattle.cc_core.specs.Terms.{Note, Absent, Written, Own}
use Rattle.cc_core.specs.WellFormed.{kinds_of, IsWellFormedNote}
use Rattle.cc_core.proofs.KindFacts.{IsKindedNote, IsKindedNote-from}
use Rattle.cc_core.proofs.ReadingAndWriting.{read-still, read_type-still}
use Rattle.cc_core.proofs.Sorts.{TypeSort, ShapeSort, HasKinds-meets}
use Rattle.cc_core.proofs.WellFormedness.{well_formed-positions_below}
use Rattle.cc_checking.specs.Avoidance.{Positive, has_position, is_position, is_free_in, is_free_in_type, avoided, avoided_set, avoided_type}
use Rattle.cc_checking.specs.Fillings.{Filling}
use Rattle.cc_checking.specs.Inference.{Named, limited}
use Rattle.cc_checking.specs.Outcomes.{Asked, Placed, Found}
use Rattle.cc_checking.specs.Verdicts.{Definition, Checking, plain_checked, recursive_checked, Accepted, IsAccepted, declared_set, signature_of, signature_under, HasVerdict}
use Rattle.cc_core.specs.Places.{spots}
use Rattle.cc_typing_laws.proofs.AvoidingPlaces.{nothing_to_avoid}
use Rattle.cc_typing_laws.proofs.FormedContexts.{kinds_bound}
use Rattle.cc_checking_laws.proofs.CheckedDefinitions.{accepted_parts}
use Rattle.cc_checking_laws.proofs.Findings.{Notes, notes-absent, notes-written, notes-own}
use Rattle.cc_checking_laws.proofs.FoundFindings.{asked_of, Came, then_came, finds_came, noted_came, avoided_came}
use Rattle.cc_checking_laws.proofs.LeastFillings.{filled-still}
use Rattle.cc_vouching.specs.VouchedDefinitions.{written_type}

-- POSITIONS

variable_below : (n q : ℕ) (v : Var) → n ≤ q → IsPositionBelow n v → is_position q v ≡ false
variable_below n q (Bound index) le h = refl
variable_below n q (Free p) le h =
    false_from_ne_true (nat_eq q p) (λ e. let same = eqb-true q p e in absurd (omega arith))

set_below : (n q d : ℕ) (c : Set) → n ≤ q → MeetsInSet (positions_below n) d c → has_position q c ≡ false
set_below n q d c le h =
    false_from_ne_true (contains (Variable (Free q)) c)
    (λ m. let low : q < n = h (Variable (Free q)) m in absurd (omega arith))

shape_below : (n q d : ℕ) (s : Shape) → n ≤ q → Meets (positions_below n) d s → is_free_in q s ≡ false
shape_below n q d (BaseShape b) le h = refl
shape_below n q d AnyShape le h = refl
shape_below n q d (TypeVariable v) le h = variable_below n q v le h
shape_below n q d (FunctionShape t c u e) le h =
    or_from _ _
    (or_from _ _ (or_from _ _ (shape_below n q d t le h.0) (set_below n q d c le h.1)) (shape_below n q (suc d) u le h.2))
    (set_below n q (suc d) e le h.3)
shape_below n q d (TypeFunctionShape b u e) le h =
    or_from _ _ (or_from _ _ (shape_below n q d b le h.0) (shape_below n q (suc d) u le h.1))
    (set_below n q (suc d) e le h.2)
shape_below n q d (BoxShape t c) le h = or_from _ _ (shape_below n q d t le h.0) (set_below n q d c le h.1)
shape_below n q d (ExitShape t) le h = shape_below n q d t le h

pub type_below : (n q : ℕ) (t : CapturingType) → n ≤ q → MeetsInType (positions_below n) 0 t → is_free_in_type q t ≡ false
type_below n q t le h = or_from _ _ (shape_below n q 0 t.shape le h.0) (set_below n q 0 t.set le h.1)

-- SIGNATURES

-- behind the devices a position is avoided
behind_devices : (devices : ℕ) (b : Bind) (older : Context) (t : CapturingType) → devices ≤ length older
    → signature_of devices (b ∷ older) t
    ≡ option_and_then (signature_of devices older) (avoided_type Positive (length older) (declared_set b) t)
behind_devices devices b older t le = by_test (nat_lt (length older) devices) refl
  where
    by_test : (test : Bool) → nat_lt (length older) devices ≡ test
        → cond test (Some t)
        (option_and_then (signature_of devices older) (avoided_type Positive (length older) (declared_set b) t))
        ≡ option_and_then (signature_of devices older) (avoided_type Positive (length older) (declared_set b) t)
    by_test true is = let less = ltb-true (length older) devices is in absurd (omega arith)
    by_test false is = refl

-- one that is not free changes nothing
pub newest_unfree : (devices : ℕ) (b : Bind) (older : Context) (t : CapturingType) → devices ≤ length older
    → is_free_in_type (length older) t ≡ false → signature_of devices (b ∷ older) t ≡ signature_of devices older t
newest_unfree devices b older t le none =
    behind_devices devices b older t le
    ∙ ap (option_and_then (signature_of devices older))
    (nothing_to_avoid Positive (length older) (declared_set b) t none)

-- the signature of a type over the devices is that type
pub signs_itself : (devices : ℕ) (g : Context) (t : CapturingType)
    → ((q : ℕ) → devices ≤ q → is_free_in_type q t ≡ false) → signature_of devices g t ≡ Some t
signs_itself devices [] t none = refl
signs_itself devices (b ∷ older) t none = by_test (signs_itself devices older t none) (nat_lt (length older) devices) refl
  where
    by_test : signature_of devices older t ≡ Some t → (test : Bool) → nat_lt (length older) devices ≡ test
        → signature_of devices (b ∷ older) t ≡ Some t
    by_test rest true is =
        ap (λ x. cond x (Some t)
        (option_and_then (signature_of devices older) (avoided_type Positive (length older) (declared_set b) t))) is
    by_test rest false is =
        let le = ltb-false (length older) devices is in
        newest_unfree devices b older t le (none (length older) le) ∙ rest

-- a shape with the set of its signature has that signature
same_signature : (s : Shape) (c : Set) (sig : CapturingType) → Some (capturing s c) ≡ Some sig
    → Some (capturing s sig.set) ≡ Some sig
same_signature s c sig e =
    let is : capturing s c ≡ sig = cc in
    ap (λ (x : CapturingType). Some (capturing s x.set)) (sym is) ∙ ap (λ (x : CapturingType). Some x) is

own_step : (o : Option Shape) (next : CapturingType → Option CapturingType) (c kept : Set) (sig : CapturingType)
    → option_and_then next (option_map (λ shape. capturing shape c) o) ≡ Some sig
    → ((s : Shape) → next (capturing s c) ≡ Some sig → next (capturing s kept) ≡ Some sig)
    → option_and_then next (option_map (λ shape. capturing shape kept) o) ≡ Some sig
own_step None next c kept sig e f = cc
own_step (Some s) next c kept sig e f = f s e

if_no : {A : Type 0} (b : Bool) (x y : A) → b ≡ false → cond b x y ≡ y
if_no true x y e = cc
if_no false x y e = refl

kept_set : (p : ℕ) (d c : Set) → has_position p c ≡ false → avoided_set Positive p d c ≡ c
kept_set p d c none = if_no (has_position p c) (union (remove (Variable (Free p)) c) d) c none

pub own_signs : (devices : ℕ) (g : Context) (s : Shape) (c : Set) (sig : CapturingType)
    → ((q : ℕ) → devices ≤ q → has_position q sig.set ≡ false) → signature_of devices g (capturing s c) ≡ Some sig
    → signature_of devices g (capturing s sig.set) ≡ Some sig
own_signs devices [] s c sig none e = same_signature s c sig e
own_signs devices (b ∷ older) s c sig none e =
    elim (nat_lt (length older) devices) as (λ test. nat_lt (length older) devices ≡ test
    → cond test (Some (capturing s c))
    (option_and_then (signature_of devices older) (avoided_type Positive (length older) (declared_set b) (capturing s c)))
    ≡ Some sig
    → cond test (Some (capturing s sig.set))
    (option_and_then (signature_of devices older)
    (avoided_type Positive (length older) (declared_set b) (capturing s sig.set))) ≡ Some sig) [
      | true ↦ λ is found. same_signature s c sig found
      | false ↦ λ is found.
          let p = length older in
          let d = declared_set b in
          let le = ltb-false p devices is in
          let shape = avoided Positive p d s in
          subst (λ x. option_and_then (signature_of devices older) (option_map (λ shape. capturing shape x) shape)
          ≡ Some sig) (sym (kept_set p d sig.set (none p le)))
          (own_step shape (signature_of devices older) (avoided_set Positive p d c) sig.set sig found
          (λ s' h. own_signs devices older s' (avoided_set Positive p d c) sig none h))
    ] refl e

-- WHAT IS WRITTEN

-- the type is the one that is written, or has its shape
abbrev IsTypeOf : Note → CapturingType → Type 0
IsTypeOf Absent type = Unit {0}
IsTypeOf (Written s c) type = type ≡ capturing s c
IsTypeOf (Own s) type = type.shape ≡ s

note_type : {root : ℕ} {g : Context} {note : Note} {t : CapturingType} {m : Named} {ps : List Asked}
    → Notes root g note t m ps → IsKindedNote (kinds_of g) [] note → MeetsInNote without_holes 0 note → (f : Filling)
    → IsTypeOf note (filled_type f m.type)
note_type notes-absent k h f = tt
note_type {g = g} (notes-written {s = s} {c = c} b) k h f =
    ap (filled_type f)
    (read_type-still (length g) 0 (capturing s c)
    (HasKinds-meets TypeSort (kinds_of g) [] _ (kinds_bound (kinds_of g)) [] (capturing s c) k))
    ∙ filled-still TypeSort f 0 (capturing s c) h
note_type {g = g} (notes-own {s = s} b) k h f =
    ap (filled f)
    (read-still (length g) 0 s (HasKinds-meets ShapeSort (kinds_of g) [] _ (kinds_bound (kinds_of g)) [] s k))
    ∙ filled-still ShapeSort f 0 s h

-- the signature of what is written is the definition's, where that is over the devices
written_signs : (devices : ℕ) (g : Context) (note : Note) (type sig : CapturingType) → IsTypeOf note type
    → ((q : ℕ) → devices ≤ q → is_free_in_type q sig ≡ false)
    → ((q : ℕ) → devices ≤ q → has_position q sig.set ≡ false)
    → signature_of devices g type ≡ Some sig → signature_of devices g (written_type note sig) ≡ Some sig
written_signs devices g Absent type sig is none none_set e = signs_itself devices g sig none
written_signs devices g (Written s c) type sig is none none_set e = sym (ap (signature_of devices g) is) ∙ e
written_signs devices g (Own s) type sig is none none_set e =
    own_signs devices g s type.set sig none_set
    (sym (ap (λ x. signature_of devices g (capturing x type.set)) is) ∙ e)

-- What is known of the signature of an accepted definition: that of what is written, in the context of the right side.
abbrev pub SignsAsWritten : ℕ → Bool → Context → Note → CapturingType → Type 0
SignsAsWritten devices recursive g note sig =
    signature_of devices (cond recursive (entry_of sig ∷ g) g) (written_type note sig) ≡ Some sig

module _ (devices : ℕ) (g : Context) (d : Definition) (f : Filling) (n : ℕ) (found : Checking) (qs : List Asked)
    (sig : CapturingType) (none : (q : ℕ) → devices ≤ q → is_free_in_type q sig ≡ false)
    (none_set : (q : ℕ) → devices ≤ q → has_position q sig.set ≡ false)
    (signs : signature_under f devices g found ≡ Some sig) where
  plain_signs : IsKindedNote (kinds_of g) [] d.note → MeetsInNote without_holes 0 d.note
      → Came (plain_checked (limited n) g d) found qs → SignsAsWritten devices false g d.note sig
  plain_signs k h came =
      let a = then_came came in
      let b = then_came a.rest in
      let fin = finds_came b.rest in
      let notes = noted_came n (length g) (spots d.places).at g d.note a.value.type b.came in
      let is : signature_of devices g (filled_type f b.value.type) ≡ Some sig =
      ap (λ (x : Checking). signature_under f devices g x) (sym fin.0) ∙ signs in
      written_signs devices g d.note (filled_type f b.value.type) sig (note_type notes k h f) none none_set is

  recursive_signs : (note : Note) → devices ≤ length g → IsWellFormedNote g note
      → Came (recursive_checked (limited n) devices g d note) found qs → SignsAsWritten devices true g note sig
  recursive_signs Absent le k (list, e, q) = cc
  recursive_signs (Own s) le k (list, e, q) = cc
  recursive_signs (Written s c) le k came =
      let a = then_came came in
      let own = avoided_came _ _ a.came in
      let b = then_came a.rest in
      let x = then_came b.rest in
      let fin = finds_came x.rest in
      let is : Some a.value ≡ Some sig = ap (λ (y : Checking). signature_under f devices g y) (sym fin.0) ∙ signs in
      let below = well_formed-positions_below TypeSort g (capturing s c) k in
      newest_unfree devices (entry_of sig) g (capturing s c) le (type_below (length g) (length g) (capturing s c) (omega arith) below)
      ∙ own.0 ∙ is

signs_by : (recursive : Bool) (devices : ℕ) (g : Context) (d : Definition) (f : Filling) (n : ℕ) (found : Checking)
    (list : List Placed) (sig : CapturingType) → ((q : ℕ) → devices ≤ q → is_free_in_type q sig ≡ false)
    → ((q : ℕ) → devices ≤ q → has_position q sig.set ≡ false) → signature_under f devices g found ≡ Some sig
    → devices ≤ length g → IsWellFormedNote g d.note → MeetsInNote without_holes 0 d.note
    → cond recursive (recursive_checked (limited n) devices g d d.note) (plain_checked (limited n) g d) ≡ Found found list
    → SignsAsWritten devices recursive g d.note sig
signs_by true devices g d f n found list sig none none_set signs le k h is =
    recursive_signs devices g d f n found (asked_of list) sig none none_set signs d.note le k (list, is, refl)
signs_by false devices g d f n found list sig none none_set signs le k h is =
    plain_signs devices g d f n found (asked_of list) sig none none_set signs (IsKindedNote-from (kinds_of g) [] d.note k) h
    (list, is, refl)

pub accepted_signs : (devices : ℕ) (g : Context) (d : Definition) (accepted : Accepted) → devices ≤ length g
    → IsWellFormedNote g d.note → MeetsInNote without_holes 0 d.note
    → MeetsInType (positions_below devices) 0 accepted.signature → HasVerdict devices g d (IsAccepted accepted)
    → SignsAsWritten devices d.recursive g d.note accepted.signature
accepted_signs devices g d accepted le k h over has =
    let p = accepted_parts devices g d accepted has in
    let same : accepted.signature ≡ p.signature = ap (λ (x : Accepted). x.signature) p.accepts in
    let over' = subst (MeetsInType (positions_below devices) 0) same over in
    subst (SignsAsWritten devices d.recursive g d.note) (sym same)
    (signs_by d.recursive devices g d p.filling p.steps p.found p.asked p.signature
    (λ q low. type_below devices q p.signature low over') (λ q low. set_below devices q 0 p.signature.set low over'.1)
    p.signs le k h p.is)
