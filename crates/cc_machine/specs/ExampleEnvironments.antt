-- Environments that share nodes, and terms that are read in them, by example.
use Rattle.std.specs.Prelude.{◌≡◌, List, [], ◌∷◌, Some, None}
use Rattle.cc_base.specs.declared.literal.Base.TheVariants as bases
use Rattle.cc_capture.specs.declared.var.Var.TheVariants.{Bound, Free}
use Rattle.cc_capture.specs.declared.var.Elem.TheVariants.{Var as Variable, Cap}
use Rattle.cc_capture.specs.Sets.{empty}
use Rattle.cc_core.specs.Shapes.{BaseShape, AnyShape, TypeVariable}
use Rattle.cc_core.specs.Substitution.{single}
use Rattle.cc_core.specs.Terms.{Term, Absent, Own, Application, FunctionTerm, Let, Unboxing}
use Rattle.cc_machine.specs.declared.links.Link.{Link}
use Rattle.cc_machine.specs.Environments.{follow}
use Rattle.cc_machine.specs.Putting.{put_all, put_body}

-- A binder with the position 7; inside of it a binder of types and then one with the position 2; and, inside of the
-- first one too, a binder with the position 9.
abbrev pub nodes : List Link
nodes =
    record { position = Some 7; before = 0 } ∷ record { position = None; before = 1 }
    ∷ record { position = Some 2; before = 2 } ∷ record { position = Some 9; before = 1 } ∷ []

-- Indices count the binders from the innermost one on, and a binder of types is counted too. Nodes 3 and 4 share what
-- stands outside of both.
abbrev pub EnvironmentsShareNodes : Type 0
EnvironmentsShareNodes =
    (follow nodes 3 0 ≡ Some 2)
    × (follow nodes 3 1 ≡ None)
    × (follow nodes 3 2 ≡ Some 7)
    × (follow nodes 3 3 ≡ None)
    × (follow nodes 4 0 ≡ Some 9)
    × (follow nodes 4 1 ≡ Some 7)
    × (follow nodes 4 2 ≡ None)
    × (follow nodes 0 0 ≡ None)

-- a let that applies the innermost variable, and then the let's own to it, which counts one binder more
abbrev pub applied_twice : Term
applied_twice =
    Let (Own (TypeVariable (Bound 1))) (Application (Bound 0) (Bound 2)) (Application (Bound 0) (Bound 1))

-- The variables of the term's own binders stay, and what is written for types is left out.
abbrev pub TermsAreReadInThem : Type 0
TermsAreReadInThem =
    (put_all (follow nodes 3) applied_twice
    ≡ Let Absent (Application (Free 2) (Free 7)) (Application (Bound 0) (Free 2)))
    × (put_all (follow nodes 4) (FunctionTerm (BaseShape bases.Int) (single Cap) (Application (Bound 1) (Free 5)))
    ≡ FunctionTerm AnyShape empty (Application (Free 9) (Free 5)))
    × (put_body (follow nodes 4) (Application (Bound 0) (Bound 2)) ≡ Application (Bound 0) (Free 7))

-- The set of an unboxing is no type: it is read like the term.
abbrev pub SetsOfUnboxingsAreRead : Type 0
SetsOfUnboxingsAreRead =
    put_all (follow nodes 3) (Unboxing (Some (single (Variable (Bound 0)))) (Bound 2))
    ≡ Unboxing (Some (single (Variable (Free 2)))) (Free 7)
