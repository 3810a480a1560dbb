-- Where holes stand in a right side: each is the whole set of a function's parameter.
use Rattle.std.specs.Prelude.{◌≡◌, ◌⊎◌, ℕ, Option, Some, None}
use Rattle.cc_capture.specs.declared.var.Elem.TheVariants.{Hole}
use Rattle.cc_capture.specs.Sets.{Set}
use Rattle.cc_core.specs.Terms.{Note, Absent, Written, Own, Term, VariableTerm, LiteralTerm, FunctionTerm}
use Rattle.cc_core.specs.Terms.{TypeFunctionTerm, BoxTerm, Application, TypeApplication, Unboxing, Let, Primitive}
use Rattle.cc_core.specs.Terms.{Conditional, Repetition, Operation, Boundary, Leave}
use Rattle.cc_core.specs.Occurrences.{HasNoHole, HasNoHoleInSet}
use Rattle.cc_core.specs.Substitution.{single}

-- the set has no hole, or is one hole alone
abbrev pub HasHoleAloneOrNone : Set → Type 0
HasHoleAloneOrNone set = HasNoHoleInSet set ⊎ ((hole : ℕ) × (set ≡ single (Hole hole)))

-- what is written for a type has no hole
abbrev pub NoteHasNoHole : Note → Type 0
NoteHasNoHole Absent = Unit {0}
NoteHasNoHole (Written shape set) = HasNoHole shape × HasNoHoleInSet set
NoteHasNoHole (Own shape) = HasNoHole shape

-- a set that may be omitted has no hole
abbrev pub OptionalSetHasNoHole : Option Set → Type 0
OptionalSetHasNoHole (Some set) = HasNoHoleInSet set
OptionalSetHasNoHole None = Unit {0}

-- each hole of the term is the whole set of a function's parameter
abbrev pub HolesAreOfParameters : Term → Type 0
HolesAreOfParameters (VariableTerm variable) = Unit {0}
HolesAreOfParameters (LiteralTerm literal) = Unit {0}
HolesAreOfParameters (FunctionTerm takes c body) =
    HasNoHole takes × HasHoleAloneOrNone c × HolesAreOfParameters body
HolesAreOfParameters (TypeFunctionTerm bound body) = HasNoHole bound × HolesAreOfParameters body
HolesAreOfParameters (BoxTerm content) = Unit {0}
HolesAreOfParameters (Application function argument) = Unit {0}
HolesAreOfParameters (TypeApplication function argument) = HasNoHole argument
HolesAreOfParameters (Unboxing set box) = OptionalSetHasNoHole set
HolesAreOfParameters (Let note right body) =
    NoteHasNoHole note × HolesAreOfParameters right × HolesAreOfParameters body
HolesAreOfParameters (Primitive operator left right) = Unit {0}
HolesAreOfParameters (Conditional note test positive negative) =
    NoteHasNoHole note × HolesAreOfParameters positive × HolesAreOfParameters negative
HolesAreOfParameters (Repetition count function) = Unit {0}
HolesAreOfParameters (Operation operation receiver argument) = Unit {0}
HolesAreOfParameters (Boundary gives body) = HasNoHole gives × HolesAreOfParameters body
HolesAreOfParameters (Leave gives c exit value) = HasNoHole gives × HasNoHoleInSet c
