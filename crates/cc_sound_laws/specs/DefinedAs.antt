-- Definitions that are accepted one after another, by directed types.
use Rattle.std.specs.Prelude.{◌≡◌, ℕ, suc, true, false, List, [], ◌∷◌, length, Some}
use Rattle.cc_capture.specs.Sets.{Set}
use Rattle.cc_core.specs.Shapes.{Shape, CapturingType, capturing}
use Rattle.cc_core.specs.Terms.{Note, Written, Term}
use Rattle.cc_core.specs.Contexts.{Context, entry_of}
use Rattle.cc_core.specs.Substitution.{filled_type, filled_term}
use Rattle.cc_core.specs.Subcapturing.{SubcapturesSet}
use Rattle.cc_core.specs.Programs.{Definition}
use Rattle.cc_checking.specs.Fillings.{Filling, IsOverGlobals}
use Rattle.cc_checking.specs.Verdicts.{signature_of}
use Rattle.cc_mnf.specs.ElaboratedModules.{CoreDefinition}
use Rattle.cc_calculus_laws.specs.DirectedTypes.{TypeIsBelow, IsNamedWith, HasDirectedType}

-- Under the filling the definition has this value and this signature, where the first positions are devices. Its right
-- side has a directed type, and the type that is written for it is above; the value is the right side with its omitted
-- sets put in, and the signature is the type in which all but the devices is avoided. In a recursive definition the
-- name is declared with the signature, which is that of the written type.
pub data IsDefinedAs (devices : ℕ) (globals : Context) (definition : CoreDefinition) (filling : Filling)
    : Term → CapturingType → Type 0 where
  not_recursive : {completed : Term} {note : Note} {found named signature : CapturingType}
      → definition.recursive ≡ false
      → HasDirectedType filling (length globals) globals definition.right completed found
      → IsNamedWith filling (length globals) globals found definition.note note named
      → signature_of devices globals (filled_type filling named) ≡ Some signature
      → IsDefinedAs devices globals definition filling (filled_term filling completed) signature
  recursive : {shape : Shape} {set : Set} {completed : Term} {found signature : CapturingType}
      → definition.recursive ≡ true → definition.note ≡ Written shape set
      → signature_of devices globals (capturing shape set) ≡ Some signature
      → HasDirectedType filling (suc (length globals)) (entry_of signature ∷ globals) definition.right completed found
      → TypeIsBelow filling (entry_of signature ∷ globals) found signature
      → IsDefinedAs devices globals definition filling (filled_term filling completed) signature

-- Among the globals the definition is accepted as this one: under a filling over the globals that is the least, hole by
-- hole, of those under which it is defined.
pub record IsAcceptedAs (devices : ℕ) (globals : Context) (core : CoreDefinition) (one : Definition) : Type 0 where
  pub named : one.name ≡ core.name
  pub same_kind : one.is_recursive ≡ core.recursive
  pub filling : Filling
  pub over : IsOverGlobals (length globals) filling
  pub defined : IsDefinedAs devices globals core filling one.value one.signature
  pub least : (other : Filling) (value : Term) (signature : CapturingType) → IsOverGlobals (length globals) other
      → IsDefinedAs devices globals core other value signature
      → (hole : ℕ) → SubcapturesSet globals (filling hole) (other hole)

-- Definitions in order are accepted as these, each among the globals and the signatures of those before it.
pub data AreAcceptedAs (devices : ℕ) : Context → List CoreDefinition → List Definition → Type 0 where
  no_more : {globals : Context} → AreAcceptedAs devices globals [] []
  one_more : {globals : Context} {first : CoreDefinition} {rest : List CoreDefinition} {one : Definition}
      {others : List Definition} → IsAcceptedAs devices globals first one
      → AreAcceptedAs devices (entry_of one.signature ∷ globals) rest others
      → AreAcceptedAs devices globals (first ∷ rest) (one ∷ others)

-- Behind definitions that are accepted one has no type: under no filling over the globals it is defined as anything.
pub data OneHasNoType (devices : ℕ) : Context → List CoreDefinition → Type 0 where
  the_first : {globals : Context} {first : CoreDefinition} {rest : List CoreDefinition}
      → ((filling : Filling) (value : Term) (signature : CapturingType) → IsOverGlobals (length globals) filling
      → IsDefinedAs devices globals first filling value signature → ⊥)
      → OneHasNoType devices globals (first ∷ rest)
  a_later : {globals : Context} {first : CoreDefinition} {rest : List CoreDefinition} {one : Definition}
      → IsAcceptedAs devices globals first one → OneHasNoType devices (entry_of one.signature ∷ globals) rest
      → OneHasNoType devices globals (first ∷ rest)
