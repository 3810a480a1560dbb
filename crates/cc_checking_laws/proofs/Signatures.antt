-- Signatures: avoiding the imports and the earlier definitions gives a type above, over the devices alone, and puts in no hole.
use Rattle.std.proofs.Common.{◌≡◌, ℕ, suc, Bool, true, false, cond, [], ◌∷◌, length, Option, Some, None, refl, sym, subst, inl, inr}
use Rattle.std.specs.Prelude.{nat_lt}
use Rattle.std.specs.Option.{option_map, option_and_then}
use Rattle.cc_capture.specs.declared.var.Var.TheVariants.{Free}
use Rattle.cc_capture.specs.declared.var.Elem.TheVariants.{Var as Variable}
use Rattle.cc_capture.specs.Sets.{Set, remove, union}
use Rattle.cc_capture.proofs.Membership.{Member-union, Member-remove}
use Rattle.cc_core.specs.Shapes.{Shape, BaseShape, AnyShape, TypeVariable, FunctionShape, TypeFunctionShape, BoxShape, ExitShape, CapturingType}
use Rattle.cc_core.specs.Contexts.{Bind, TermEntry, TypeEntry, Context, lookup}
use Rattle.cc_core.specs.Occurrences.{HasNoHoleInSet, HasNoHoleInType, Meets, without_holes, IsNoHole}
use Rattle.cc_core.specs.Subtyping.{SubtypesType, reflexive, transitive}
use Rattle.cc_core.specs.WellFormed.{kinds_of, IsWellFormedType}
use Rattle.cc_core.proofs.KindFacts.{IsKindedType, IsKindedType-from, IsKindedType-test, IsKindedSet-test}
use Rattle.cc_core.proofs.Lookups.{lookup-newest, lookup-older}
use Rattle.cc_core.proofs.SubcapturingContexts.{IsKindedContext, entry_kinded}
use Rattle.cc_core.proofs.SubcapturingLemmas.{subcaptures_reflexive, subcaptures_transitive}
use Rattle.cc_checking.specs.Avoidance.{Sign, Positive, Negative, opposite, has_position, avoided_set, avoided, avoided_type, is_free_in}
use Rattle.cc_checking.specs.Verdicts.{signature_of}
use Rattle.cc_typing_laws.proofs.Avoiding.{both_some, map_some, unless_some, avoided_type_parts, positive_above}
use Rattle.cc_typing_laws.proofs.AvoidingPlaces.{well_formedness_kept, scope_left}
use Rattle.cc_typing_laws.proofs.InternalConversions.{closed_in_set}
use Rattle.cc_checking_laws.specs.FillingLaws.{AreGlobals}
use Rattle.cc_checking_laws.specs.CheckingLaws.{oldest}

-- avoiding puts in no hole
pub avoided_set_closed : (sign : Sign) (p : ℕ) (d c : Set) → HasNoHoleInSet d → HasNoHoleInSet c → HasNoHoleInSet (avoided_set sign p d c)
avoided_set_closed Negative p d c kd kc = λ e m. kc e ((Member-remove e (Variable (Free p)) c).0 m).1
avoided_set_closed Positive p d c kd kc = by_test (has_position p c)
  where
    by_test : (b : Bool) → HasNoHoleInSet (cond b (union (remove (Variable (Free p)) c) d) c)
    by_test true = λ e m.
        elim ((Member-union e (remove (Variable (Free p)) c) d).0 m) as (λ _. IsNoHole e) [ inl l ↦ kc e ((Member-remove e (Variable (Free p)) c).0 l).1 | inr r ↦ kd e r ]
    by_test false = kc

pub avoided_closed : (sign : Sign) (p : ℕ) (d : Set) → HasNoHoleInSet d → (depth : ℕ) (s r : Shape) → Meets without_holes depth s → avoided sign p d s ≡ Some r → Meets without_holes depth r
avoided_closed sign p d kd depth (BaseShape b) r m e = let is : BaseShape b ≡ r = cc in subst (Meets without_holes depth) is m
avoided_closed sign p d kd depth AnyShape r m e = let is : AnyShape ≡ r = cc in subst (Meets without_holes depth) is m
avoided_closed sign p d kd depth (TypeVariable v) r m e = let is : TypeVariable v ≡ r = cc in subst (Meets without_holes depth) is m
avoided_closed sign p d kd depth (FunctionShape t c u x) r m e =
    let parts = both_some (avoided (opposite sign) p d t) (avoided sign p d u) (λ t' u'. FunctionShape t' (avoided_set (opposite sign) p d c) u' (avoided_set sign p d x)) r e in
    subst (Meets without_holes depth) (sym parts.4) (
      avoided_closed (opposite sign) p d kd depth t parts.0 m.0 parts.2,
      avoided_set_closed (opposite sign) p d c kd m.1,
      avoided_closed sign p d kd (suc depth) u parts.1 m.2 parts.3,
      avoided_set_closed sign p d x kd m.3,
    )
avoided_closed sign p d kd depth (TypeFunctionShape b u x) r m e =
    let unfree = unless_some (is_free_in p b) (option_map (λ u'. TypeFunctionShape b u' (avoided_set sign p d x)) (avoided sign p d u)) r e in
    let parts = map_some (avoided sign p d u) (λ u'. TypeFunctionShape b u' (avoided_set sign p d x)) r unfree.1 in
    subst (Meets without_holes depth) (sym parts.2)
    (m.0, avoided_closed sign p d kd (suc depth) u parts.0 m.1 parts.1, avoided_set_closed sign p d x kd m.2)
avoided_closed sign p d kd depth (BoxShape t c) r m e =
    let parts = map_some (avoided sign p d t) (λ t'. BoxShape t' (avoided_set sign p d c)) r e in
    subst (Meets without_holes depth) (sym parts.2) (avoided_closed sign p d kd depth t parts.0 m.0 parts.1, avoided_set_closed sign p d c kd m.1)
avoided_closed sign p d kd depth (ExitShape u) r m e =
    let unfree = unless_some (is_free_in p u) (Some (ExitShape u)) r e in
    let is : ExitShape u ≡ r = cc in
    subst (Meets without_holes depth) is m

avoided_type_closed : (p : ℕ) (d : Set) → HasNoHoleInSet d → (t r : CapturingType) → HasNoHoleInType t → avoided_type Positive p d t ≡ Some r → HasNoHoleInType r
avoided_type_closed p d kd t r m e =
    let parts = avoided_type_parts Positive p d t r e in
    (avoided_closed Positive p d kd 0 t.shape r.shape m.0 parts.0, subst HasNoHoleInSet parts.1 (avoided_set_closed Positive p d t.set kd m.1))

pub and_then_parts : {A B : Type 0} (next : A → Option B) (o : Option A) (b : B) → option_and_then next o ≡ Some b → (a : A) × (o ≡ Some a) × (next a ≡ Some b)
and_then_parts next (Some a) b e = (a, refl, e)
and_then_parts next None b e = cc

-- what a signature has
pub record Signed (devices : ℕ) (globals older : Context) (type signature : CapturingType) : Type 0 where
  pub above : SubtypesType globals type signature
  pub kinded : IsKindedType (kinds_of globals) [] signature
  pub over_devices : IsWellFormedType (oldest devices older) signature
  pub closed : HasNoHoleInType type → HasNoHoleInType signature

below_itself : (g : Context) (t : CapturingType) → SubtypesType g t t
below_itself g t = (subcaptures_reflexive g t.set, reflexive)

pub signed : (devices : ℕ) (globals older : Context) → ((p : ℕ) (b : Bind) → lookup older p ≡ Some b → lookup globals p ≡ Some b)
    → IsKindedContext globals → IsKindedContext older → AreGlobals older → (type signature : CapturingType)
    → IsKindedType (kinds_of globals) [] type → IsWellFormedType older type → signature_of devices older type ≡ Some signature → Signed devices globals older type signature
signed devices globals [] more formed own alone type signature k wf e =
    let is : type ≡ signature = cc in
    subst (Signed devices globals [] type) is (record { above = below_itself globals type; kinded = k; over_devices = wf; closed = λ c. c })
signed devices globals (TypeEntry b ∷ older) more formed own alone type signature k wf e = absurd alone
signed devices globals (TermEntry s d ∷ older) more formed own alone type signature k wf e =
    elim (nat_lt (length older) devices) as (λ t. nat_lt (length older) devices ≡ t
    → cond t (Some type) (option_and_then (signature_of devices older) (avoided_type Positive (length older) d type)) ≡ Some signature
    → Signed devices globals (TermEntry s d ∷ older) type signature) [
      | true ↦ λ is found.
          let same : type ≡ signature = cc in
          subst (Signed devices globals (TermEntry s d ∷ older) type) same
          (record {
            above = below_itself globals type;
            kinded = k;
            over_devices = subst (λ t. IsWellFormedType (cond t (TermEntry s d ∷ older) (oldest devices older)) type) (sym is) wf;
            closed = λ c. c;
          })
      | false ↦ λ is found.
          let parts = and_then_parts (signature_of devices older) (avoided_type Positive (length older) d type) signature found in
          let there = more (length older) (TermEntry s d) (lookup-newest (TermEntry s d) older) in
          let kd = (entry_kinded globals (length older) (TermEntry s d) formed there).1 in
          let up = positive_above globals (length older) s d type parts.0 there (closed_in_set globals d kd) parts.1 in
          let kept = well_formedness_kept globals Positive (length older) d type parts.0 (IsKindedSet-test (kinds_of globals) [] d kd) (IsKindedType-test (kinds_of globals) [] type k) parts.1 in
          let rest = signed devices globals older (λ q b h. more q b (lookup-older (TermEntry s d) older q b h)) formed own.1 alone.2 parts.0 signature
          (IsKindedType-from (kinds_of globals) [] parts.0 kept) (scope_left older Positive s d type parts.0 (IsKindedSet-test (kinds_of older) [] d own.0.1) wf parts.1) parts.2 in
          record {
            above = (subcaptures_transitive globals type.set parts.0.set signature.set up.0 rest.above.0, transitive up.1 rest.above.1);
            kinded = rest.kinded;
            over_devices = subst (λ t. IsWellFormedType (cond t (TermEntry s d ∷ older) (oldest devices older)) signature) (sym is) rest.over_devices;
            closed = λ c. rest.closed (avoided_type_closed (length older) d alone.1 type parts.0 c parts.1);
          }
    ] refl e
