-- What is known of what the functions in a term capture.
use Rattle.std.specs.Prelude.{◌≡◌, Option, Some, None, IfSome}
use Rattle.std.specs.Coded.{codes}
use Rattle.cc_capture.specs.contracts.var.Elem as element
use Rattle.cc_capture.specs.Sets.{set_code}
use Rattle.cc_core.specs.Captured.{captured_variables}
use Rattle.cc_core.specs.Terms.{Term, FunctionTerm, TypeFunctionTerm, Let, Conditional, Boundary}
use Rattle.cc_validity.specs.declared.captures.Captures.{Captures}
use Rattle.cc_validity.specs.declared.captures.Captures.TheVariants as known

-- the body of a function, a type function or a boundary
abbrev pub body_in : Term → Option Term
body_in (FunctionTerm takes c body) = Some body
body_in (TypeFunctionTerm bound body) = Some body
body_in (Boundary gives body) = Some body
body_in _ = None

-- the right side and the body of a let, or the branches of a choice
abbrev pub parts_in : Term → Option (Term × Term)
parts_in (Let note right body) = Some (right, body)
parts_in (Conditional note test positive negative) = Some (positive, negative)
parts_in _ = None

-- each set that is known is what the term at its place captures
abbrev pub Tells : Captures → Term → Type 0
Tells known.Unknown term = Unit {0}
Tells (known.Body' set p body) term = (set ≡ captured_variables term) × IfSome (body_in term) (Tells body)
Tells (known.Parts' p first q second) term = IfSome (parts_in term) (λ parts. Tells first parts.0 × Tells second parts.1)

-- of what may not be there there is one proof at most
IfSome-prop : {A : Type 0} (holds : A → Type 0) → ((a : A) → IsProp (holds a)) → (o : Option A) → IsProp (IfSome o holds)
IfSome-prop holds prop None = hlevel
IfSome-prop holds prop (Some a) = prop a

-- there is one proof at most that the sets are those
pub Tells-prop : (captures : Captures) (term : Term) → IsProp (Tells captures term)
Tells-prop known.Unknown term = hlevel
Tells-prop (known.Body' set p body) term =
    hlevel (codes, set_code element.the_row.coded, IfSome-prop (Tells body) (Tells-prop body) (body_in term))
Tells-prop (known.Parts' p first q second) term =
    IfSome-prop (λ parts. Tells first parts.0 × Tells second parts.1)
    (λ parts. hlevel (Tells-prop first parts.0, Tells-prop second parts.1)) (parts_in term)
