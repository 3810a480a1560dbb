-- How many holes there are, where they stand, and what fills them: a list with a set for each.
use Rattle.std.specs.Prelude.{◌≡◌, ℕ, zero, suc, max, ◌<◌, List, [], ◌∷◌, length}
use Rattle.cc_capture.specs.declared.var.Elem.{Elem}
use Rattle.cc_capture.specs.declared.var.Elem.TheVariants.{Var as Variable, Cap, Hole}
use Rattle.cc_capture.specs.Sets.{Set}
use Rattle.cc_core.specs.Shapes.{Shape, CapturingType}
use Rattle.cc_core.specs.Terms.{Note, Term, VariableTerm, LiteralTerm, FunctionTerm, TypeFunctionTerm, BoxTerm}
use Rattle.cc_core.specs.Terms.{Application, TypeApplication, Unboxing, Let, Primitive, Conditional, Repetition}
use Rattle.cc_core.specs.Terms.{Operation, Boundary, Leave}
use Rattle.cc_core.specs.Contexts.{Bind, TermEntry, TypeEntry, Context}
use Rattle.cc_core.specs.Actions.{filled_by}
use Rattle.cc_core.specs.Traversal.{act_note}
use Rattle.cc_core.specs.Substitution.{filling_in, filled, filled_set, filled_type, filled_term}
use Rattle.cc_core.specs.Occurrences.{Condition, MeetsInSet, Meets, MeetsInType, MeetsInNote, MeetsInTerm}
use Rattle.cc_core.specs.Places.{Places}
use Rattle.cc_checking.specs.Outcomes.{Asked, IsBelow, IsCapless, Placed, Found}
use Rattle.cc_checking.specs.Fillings.{Filling, IsAskedIn}
use Rattle.cc_checking.specs.Inference.{Result, Infers}
use Rattle.cc_checking.specs.Verdicts.{Definition, Checking, IsChecked}
use Rattle.cc_checking_laws.specs.CheckingLaws.{Fits}
use Rattle.cc_core.specs.Holes.{HolesAreOfParameters}
use Rattle.cc_solve.specs.Solutions.{filling_of}

-- a hole is below the number
abbrev pub IsHoleBelow : ℕ → Elem → Type 0
IsHoleBelow number (Variable variable) = Unit {0}
IsHoleBelow number Cap = Unit {0}
IsHoleBelow number (Hole hole) = hole < number

-- each hole is below the number
abbrev pub holes_below : ℕ → Condition
holes_below number = record {
  element = λ depth e. IsHoleBelow number e;
  shape = λ depth variable. Unit {0};
  variable = λ depth variable. Unit {0};
}

-- the same of an entry
abbrev pub HasEntryHolesBelow : ℕ → Bind → Type 0
HasEntryHolesBelow number (TermEntry shape set) =
    Meets (holes_below number) 0 shape × MeetsInSet (holes_below number) 0 set
HasEntryHolesBelow number (TypeEntry bound) = Meets (holes_below number) 0 bound

-- the same of a context
abbrev pub HasContextHolesBelow : ℕ → Context → Type 0
HasContextHolesBelow number [] = Unit {0}
HasContextHolesBelow number (newest ∷ older) = HasEntryHolesBelow number newest × HasContextHolesBelow number older

-- the same of what is asked
abbrev pub HasAskedHolesBelow : ℕ → Asked → Type 0
HasAskedHolesBelow number (IsBelow demand) =
    HasContextHolesBelow number demand.context × MeetsInSet (holes_below number) 0 demand.left
    × MeetsInSet (holes_below number) 0 demand.right
HasAskedHolesBelow number (IsCapless set) = MeetsInSet (holes_below number) 0 set

-- one more than the number of a hole
abbrev pub holes_of_element : Elem → ℕ
holes_of_element (Variable variable) = zero
holes_of_element Cap = zero
holes_of_element (Hole hole) = suc hole

-- one more than the greatest number of a hole among elements, and zero where there is none
abbrev pub holes_listed : List Elem → ℕ
holes_listed [] = zero
holes_listed (e ∷ elements) = max (holes_of_element e) (holes_listed elements)

-- the same of a set
abbrev pub holes_of_set : Set → ℕ
holes_of_set set = holes_listed set.list

-- the same of the sets of parameters of the functions in a term, where alone holes stand
abbrev pub holes_of : Term → ℕ
holes_of (VariableTerm variable) = zero
holes_of (LiteralTerm literal) = zero
holes_of (FunctionTerm takes c body) = max (holes_of_set c) (holes_of body)
holes_of (TypeFunctionTerm bound body) = holes_of body
holes_of (BoxTerm content) = zero
holes_of (Application function argument) = zero
holes_of (TypeApplication function argument) = zero
holes_of (Unboxing set box) = zero
holes_of (Let note right body) = max (holes_of right) (holes_of body)
holes_of (Primitive operator left right) = zero
holes_of (Conditional note test positive negative) = max (holes_of positive) (holes_of negative)
holes_of (Repetition count function) = zero
holes_of (Operation operation receiver argument) = zero
holes_of (Boundary gives body) = holes_of body
holes_of (Leave gives c exit value) = zero

-- each hole of a term is below the number of its holes
abbrev pub HolesAreCounted : Type 0
HolesAreCounted = (term : Term) → HolesAreOfParameters term → MeetsInTerm (holes_below (holes_of term)) 0 term

-- Two fillings fill alike where they agree: sets, shapes, types, what is written for a type, and terms.
pub record FillAlike (first second : Filling) (number : ℕ) : Type 0 where
  pub sets : (set : Set) → MeetsInSet (holes_below number) 0 set → filled_set first set ≡ filled_set second set
  pub shapes : (shape : Shape) → Meets (holes_below number) 0 shape → filled first shape ≡ filled second shape
  pub types : (type : CapturingType) → MeetsInType (holes_below number) 0 type
      → filled_type first type ≡ filled_type second type
  pub notes : (note : Note) → MeetsInNote (holes_below number) 0 note
      → act_note (filling_in first) 0 note ≡ act_note (filling_in second) 0 note
  pub terms : (term : Term) → MeetsInTerm (holes_below number) 0 term → filled_term first term ≡ filled_term second term

-- fillings that have the same set for each hole below the number fill alike where all holes are below it
abbrev pub AgreeingFillingsFillAlike : Type 0
AgreeingFillingsFillAlike =
    (first second : Filling) (number : ℕ) → ((hole : ℕ) → hole < number → first hole ≡ second hole)
    → FillAlike first second number

-- so do the two readings of a list of sets: a hole past the list has no element in the one, and stays in the other
abbrev pub ListsFillAlike : Type 0
ListsFillAlike = (sets : List Set) → FillAlike (filling_of sets) (filled_by sets) (length sets)

-- What is inferred has no other holes than the term and the context: the completed term, its type, and all that is
-- asked.
abbrev pub InferenceAddsNoHole : Type 0
InferenceAddsNoHole =
    (number root : ℕ) (context : Context) (term : Term) (places : Places) (found : Result) (asked : List Placed)
    → HasContextHolesBelow number context → MeetsInTerm (holes_below number) 0 term
    → Infers root context term places (Found found asked)
    → MeetsInTerm (holes_below number) 0 found.completed × MeetsInType (holes_below number) 0 found.type
    × ((one : Asked) → IsAskedIn asked one → HasAskedHolesBelow number one)

-- What is found for a definition has no other holes than its right side.
pub record HasCheckingHolesBelow (number : ℕ) (found : Checking) (asked : List Placed) : Type 0 where
  pub note : MeetsInNote (holes_below number) 0 found.note
  pub completed : MeetsInTerm (holes_below number) 0 found.completed
  pub type : MeetsInType (holes_below number) 0 found.type
  pub all : (one : Asked) → IsAskedIn asked one → HasAskedHolesBelow number one

abbrev pub CheckingAddsNoHole : Type 0
CheckingAddsNoHole =
    (devices : ℕ) (globals : Context) (definition : Definition) (found : Checking) (asked : List Placed)
    → Fits globals definition → HolesAreOfParameters definition.right
    → IsChecked devices globals definition (Found found asked)
    → HasCheckingHolesBelow (holes_of definition.right) found asked
