-- Derivations in which a condition of a rule alone does not hold, where no certificate can have them: terms and types
-- of the calculus that are not well formed, or that are not written. Each row has the numbers of the broken nodes.
use Rattle.std.specs.Prelude.{◌≡◌, ℕ, List, [], ◌∷◌, Some, None, pos}
use Rattle.cc_base.specs.Literals.{NumberLiteral}
use Rattle.cc_base.specs.declared.literal.Base.TheVariants as bases
use Rattle.cc_base.specs.declared.literal.Op.TheVariants as operations
use Rattle.cc_capture.specs.declared.var.Var.TheVariants.{Bound, Free}
use Rattle.cc_capture.specs.Sets.{Set, empty}
use Rattle.cc_core.specs.Captured.{variable_set}
use Rattle.cc_core.specs.Contexts.{Bind, TermEntry, TypeEntry}
use Rattle.cc_core.specs.Derivations.{ByVariable, BySet, ByReflexivity, ByTypeVariable, ByTop, ByCapturing}
use Rattle.cc_core.specs.Derivations.{t-var, t-lit, t-abs, t-tabs, t-tapp, t-box, t-unbox, t-let, t-op, t-boundary}
use Rattle.cc_core.specs.Derivations.{t-exit}
use Rattle.cc_core.specs.Derivations.{t-sub, SetBelow, ShapeBelow, TypeBelow, OfType, Derivation, Node, NoPremise, one}
use Rattle.cc_core.specs.Derivations.{two}
use Rattle.cc_core.specs.Shapes.{Shape, BaseShape, AnyShape, TypeVariable, FunctionShape, TypeFunctionShape, BoxShape}
use Rattle.cc_core.specs.Shapes.{ExitShape, CapturingType, capturing}
use Rattle.cc_core.specs.Terms.{Absent, Own, Term, VariableTerm, LiteralTerm, FunctionTerm, TypeFunctionTerm, BoxTerm}
use Rattle.cc_core.specs.Terms.{TypeApplication, Unboxing, Let, Operation, Boundary, Leave}
use Rattle.cc_derivation.specs.Broken.{broken}
use Rattle.cc_derivation.specs.Rows.{Place, TypeOf, SetsBelow, ShapesBelow}

-- the nodes of these numbers break their rules at the place
abbrev pub Breaks : Place → Derivation → List ℕ → Type 0
Breaks place derivation numbers = broken 0 place derivation ≡ numbers

abbrev pub number : Shape
number = BaseShape bases.Int

abbrev pub plain : CapturingType
plain = capturing number empty

-- a type variable and a variable that no context here has
abbrev pub nowhere : Shape
nowhere = TypeVariable (Free 7)

abbrev pub nothing_there : Set
nothing_there = variable_set (Free 7)

-- the entry of a variable with the empty set
abbrev pub pure : Shape → Bind
pure shape = TermEntry shape empty

-- a literal with its node
abbrev pub literal : Term
literal = LiteralTerm (NumberLiteral (pos 1))

abbrev pub literal_node : Derivation
literal_node = Node t-lit NoPremise (OfType plain)

-- the node of a variable of the shape at a position
abbrev pub variable_node : ℕ → Shape → Derivation
variable_node position shape = Node t-var NoPremise (OfType (capturing shape (variable_set (Free position))))

-- What is written in a term is well formed, and so is a type to which a term is widened.
pub record WellFormedParts : Type 0 where
  pub parameter :
      Breaks (TypeOf [] (FunctionTerm nowhere empty literal))
      (Node t-abs (one literal_node) (OfType (capturing (FunctionShape nowhere empty number empty) empty))) (2 ∷ [])
  pub set_of_a_parameter :
      Breaks (TypeOf [] (FunctionTerm number nothing_there literal))
      (Node t-abs (one literal_node) (OfType (capturing (FunctionShape number nothing_there number empty) empty)))
      (2 ∷ [])
  pub bound :
      Breaks (TypeOf [] (TypeFunctionTerm nowhere literal))
      (Node t-tabs (one literal_node) (OfType (capturing (TypeFunctionShape nowhere number empty) empty))) (2 ∷ [])
  pub argument_of_a_type_function :
      Breaks (TypeOf (pure (TypeFunctionShape AnyShape number empty) ∷ []) (TypeApplication (Free 0) nowhere))
      (Node t-tapp
      (two (variable_node 0 (TypeFunctionShape AnyShape number empty))
      (Node ByTop NoPremise (ShapeBelow nowhere AnyShape)))
      (OfType plain))
      (3 ∷ [])
  pub set_of_an_unboxing :
      Breaks (TypeOf (pure (BoxShape number nothing_there) ∷ []) (Unboxing (Some nothing_there) (Free 0)))
      (Node t-unbox (one (variable_node 0 (BoxShape number nothing_there))) (OfType (capturing number nothing_there)))
      (2 ∷ [])
  pub shape_of_a_boundary :
      Breaks (TypeOf (pure (BoxShape nowhere empty) ∷ []) (Boundary nowhere (Unboxing (Some empty) (Free 0))))
      (Node t-boundary
      (one (Node t-unbox (one (variable_node 0 (BoxShape nowhere empty))) (OfType (capturing nowhere empty))))
      (OfType (capturing nowhere empty)))
      (3 ∷ [])
  -- the value is widened from its own set to the empty one
  pub type_of_an_exit :
      Breaks
      (TypeOf (pure number ∷ pure (ExitShape number) ∷ []) (Leave number nothing_there (Free 0) (Free 1)))
      (Node t-exit
      (two (variable_node 0 (ExitShape number))
      (Node t-sub
      (two (variable_node 1 number)
      (Node ByCapturing
      (two
      (Node BySet
      (one (Node ByVariable (one (Node BySet NoPremise (SetBelow empty empty)))
      (SetBelow (variable_set (Free 1)) empty)))
      (SetBelow (variable_set (Free 1)) empty))
      (Node ByReflexivity NoPremise (ShapeBelow number number)))
      (TypeBelow (capturing number (variable_set (Free 1))) plain)))
      (OfType plain)))
      (OfType (capturing number nothing_there)))
      (9 ∷ [])
  pub type_above :
      Breaks (TypeOf [] literal)
      (Node t-sub
      (two literal_node
      (Node ByCapturing
      (two (Node BySet NoPremise (SetBelow empty nothing_there))
      (Node ByReflexivity NoPremise (ShapeBelow number number)))
      (TypeBelow plain (capturing number nothing_there))))
      (OfType (capturing number nothing_there)))
      (5 ∷ [])

-- The variable of a let does not occur in its type, and a type that is written for it has its set.
pub record TypesOfLets : Type 0 where
  pub in_its_set :
      Breaks (TypeOf [] (Let Absent literal (VariableTerm (Bound 0))))
      (Node t-let (two literal_node (variable_node 0 number)) (OfType (capturing number (variable_set (Free 0)))))
      (3 ∷ [])
  pub in_its_shape :
      Breaks (TypeOf [] (Let Absent literal (BoxTerm (Bound 0))))
      (Node t-let
      (two literal_node
      (Node t-box (one (variable_node 0 number)) (OfType (capturing (BoxShape number (variable_set (Free 0))) empty))))
      (OfType (capturing (BoxShape number (variable_set (Free 0))) empty)))
      (4 ∷ [])
  pub without_a_set :
      Breaks (TypeOf [] (Let (Own number) literal literal)) (Node t-let (two literal_node literal_node) (OfType plain))
      (3 ∷ [])

-- An operation that takes an argument is not without one, and one that takes none has none.
pub record ArgumentsOfOperations : Type 0 where
  pub missing :
      Breaks (TypeOf (pure (BaseShape bases.Console) ∷ []) (Operation operations.Print (Free 0) None))
      (Node t-op (one (variable_node 0 (BaseShape bases.Console))) (OfType (capturing (BaseShape bases.Unit) empty)))
      (2 ∷ [])
  pub too_many :
      Breaks (TypeOf (pure (BaseShape bases.Counter) ∷ []) (Operation operations.Tick (Free 0) (Some (Free 0))))
      (Node t-op (two (variable_node 0 (BaseShape bases.Counter)) (variable_node 0 (BaseShape bases.Counter)))
      (OfType plain))
      (3 ∷ [])

-- The rule of variables is for variables of terms, and that of bounds for type variables; neither is for a variable
-- that has no entry.
pub record EntriesOfVariables : Type 0 where
  pub set_of_a_type_variable :
      Breaks (SetsBelow (TypeEntry number ∷ []))
      (Node ByVariable (one (Node BySet NoPremise (SetBelow empty empty))) (SetBelow (variable_set (Free 0)) empty))
      (2 ∷ [])
  pub set_of_no_variable :
      Breaks (SetsBelow [])
      (Node ByVariable (one (Node BySet NoPremise (SetBelow empty empty))) (SetBelow (variable_set (Free 0)) empty))
      (2 ∷ [])
  pub set_of_an_index :
      Breaks (SetsBelow (pure number ∷ []))
      (Node ByVariable (one (Node BySet NoPremise (SetBelow empty empty))) (SetBelow (variable_set (Bound 0)) empty))
      (2 ∷ [])
  pub bound_of_a_variable :
      Breaks (ShapesBelow (pure number ∷ [])) (Node ByTypeVariable NoPremise
      (ShapeBelow (TypeVariable (Free 0)) number))
      (1 ∷ [])
  pub bound_of_no_variable :
      Breaks (ShapesBelow []) (Node ByTypeVariable NoPremise (ShapeBelow (TypeVariable (Free 0)) number)) (1 ∷ [])
  pub type_of_a_type_variable :
      Breaks (TypeOf (TypeEntry number ∷ []) (VariableTerm (Free 0))) (variable_node 0 number) (1 ∷ [])
  pub type_of_no_variable : Breaks (TypeOf [] (VariableTerm (Free 0))) (variable_node 0 number) (1 ∷ [])
