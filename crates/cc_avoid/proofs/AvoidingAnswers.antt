-- What the answer of avoidance says in a context.
use Rattle.std.proofs.Common.{◌≡◌, ℕ, ◌<◌, false, [], Option, Some, None, Result, Ok, Err, IfOk, sym, ap, ◌∙◌, subst, arith}
use Rattle.std.proofs.lemmas.Bool.{false_from_ne_true}
use Rattle.cc_capture.specs.Sets.{Set}
use Rattle.cc_core.specs.Shapes.{Shape, AnyShape, CapturingType, capturing}
use Rattle.cc_core.specs.Contexts.{Bind, TermEntry, Context, lookup}
use Rattle.cc_core.specs.Occurrences.{MeetsInSet, bound_within}
use Rattle.cc_core.specs.Subtyping.{SubtypesType}
use Rattle.cc_core.specs.TermViews.{type_of}
use Rattle.cc_core.specs.WellFormed.{kinds_of, IsWellFormedContext, IsWellFormedType}
use Rattle.cc_core.specs.declared.types.Ty.{Ty}
use Rattle.cc_core.proofs.KindFacts.{IsKindedSet, IsKindedSet-test}
use Rattle.cc_core.proofs.KindRespecting.{kinds-bound_within}
use Rattle.cc_core.proofs.SubcapturingContexts.{IsKindedContext-from, entry_kinded}
use Rattle.cc_checking.specs.Avoidance.{Sign, Positive, has_position, is_free_in_type, avoided_set}
use Rattle.cc_sets.proofs.SubcapturingSearch.{IsLower, declared_lower}
use Rattle.cc_typing_laws.proofs.Avoiding.{positive_above}
use Rattle.cc_typing_laws.proofs.AvoidingPlaces.{avoided_is_gone, nothing_to_avoid, well_formedness_kept}
use Rattle.cc_avoid.specs.declared.avoiding.AvoidError.{AvoidError}
use Rattle.cc_avoid.specs.Avoiding.{IsTermPosition, Avoids}

declared_kinded : (context : Context) (p : ℕ) (shape : Shape) (declared : Set) → IsWellFormedContext context
    → lookup context p ≡ Some (TermEntry shape declared) → IsKindedSet (kinds_of context) [] declared
declared_kinded context p shape declared formed there = (entry_kinded context p (TermEntry shape declared) (IsKindedContext-from context formed) there).1

declared_closed : (context : Context) (p : ℕ) (shape : Shape) (declared : Set) → IsWellFormedContext context
    → lookup context p ≡ Some (TermEntry shape declared) → MeetsInSet (bound_within 0) 0 declared
declared_closed context p shape declared formed there = λ e here.
    (kinds-bound_within (kinds_of context) []).element [] e (declared_kinded context p shape declared formed there e here)

-- the set of a position does not have it
declared_without : (context : Context) (p : ℕ) (shape : Shape) (declared : Set) → IsWellFormedContext context
    → lookup context p ≡ Some (TermEntry shape declared) → has_position p declared ≡ false
declared_without context p shape declared formed there =
    false_from_ne_true _
    (λ here.
    let lower : IsLower p (Some (TermEntry shape declared)) = subst (IsLower p) there (declared_lower context p formed) in
    let less : p < p = lower p here in
    omega (arith, less))

-- an answer for every declared set of the position
abbrev AvoidsIn : Context → ℕ → CapturingType → Result Ty AvoidError → Type 0
AvoidsIn context p type res = (shape : Shape) (declared : Set) → lookup context p ≡ Some (TermEntry shape declared) → Avoids p declared type res

pub answer_above : (context : Context) (p : ℕ) (type : CapturingType) (res : Result Ty AvoidError) → IsWellFormedContext context → IsTermPosition context p
    → AvoidsIn context p type res → IfOk res (λ t. SubtypesType context type (type_of t))
answer_above context p type (Ok t) formed (shape, declared, there) exact =
    positive_above context p shape declared type (type_of t) there (declared_closed context p shape declared formed there) (exact shape declared there)
answer_above context p type (Err e) formed position exact = tt

pub answer_gone : (context : Context) (p : ℕ) (type : CapturingType) (res : Result Ty AvoidError) → IsWellFormedContext context → IsTermPosition context p
    → IsWellFormedType context type → AvoidsIn context p type res → IfOk res (λ t. is_free_in_type p (type_of t) ≡ false)
answer_gone context p type (Ok t) formed (shape, declared, there) known exact =
    avoided_is_gone context Positive p shape declared type (type_of t) there (declared_without context p shape declared formed there) known (exact shape declared there)
answer_gone context p type (Err e) formed position known exact = tt

some_same : {A : Type 0} (a b : A) → Some a ≡ Some b → a ≡ b
some_same a b e = cc

pub answer_same : (context : Context) (p : ℕ) (type : CapturingType) (res : Result Ty AvoidError) → IsTermPosition context p
    → AvoidsIn context p type res → IfOk res (λ t. is_free_in_type p type ≡ false → type_of t ≡ type)
answer_same context p type (Ok t) (shape, declared, there) exact = λ unfree.
    some_same (type_of t) type (sym (exact shape declared there) ∙ nothing_to_avoid Positive p declared type unfree)
answer_same context p type (Err e) position exact = tt

pub answer_formed : (context : Context) (p : ℕ) (type : CapturingType) (res : Result Ty AvoidError) → IsWellFormedContext context → IsTermPosition context p
    → IsWellFormedType context type → AvoidsIn context p type res → IfOk res (λ t. IsWellFormedType context (type_of t))
answer_formed context p type (Ok t) formed (shape, declared, there) known exact =
    well_formedness_kept context Positive p declared type (type_of t)
    (IsKindedSet-test (kinds_of context) [] declared (declared_kinded context p shape declared formed there)) known (exact shape declared there)
answer_formed context p type (Err e) formed position known exact = tt

-- an answer for the entry that stands there
pub answer_at : (context : Context) (p : ℕ) (type : CapturingType) (res : Result Ty AvoidError) (entry : Bind) → lookup context p ≡ Some entry
    → ((shape : Shape) (declared : Set) → entry ≡ TermEntry shape declared → Avoids p declared type res) → AvoidsIn context p type res
answer_at context p type res entry there exact shape declared found =
    exact shape declared (some_same entry (TermEntry shape declared) (sym there ∙ found))

-- a set that has not the position stays as it is
abbrev set_or : Set → Option CapturingType → Set
set_or set (Some type) = type.set
set_or set None = set

pub set_kept : (sign : Sign) (p : ℕ) (declared set : Set) → has_position p set ≡ false → set ≡ avoided_set sign p declared set
set_kept sign p declared set none = sym (ap (set_or set) (nothing_to_avoid sign p declared (capturing AnyShape set) none))
