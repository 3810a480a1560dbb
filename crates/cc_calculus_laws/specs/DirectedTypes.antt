-- Typing that goes by the form of a term alone: the rules of CC<:□ without one of subsumption, where a type is widened
-- only where it is compared with one that is written or declared. What is omitted has holes before filling; types that
-- are compared are compared with the holes filled.
use Rattle.std.specs.Prelude.{◌≡◌, ℕ, suc, ◌≤◌, true, false, ◌∷◌, length, Some, None}
use Rattle.cc_base.specs.declared.literal.Base.{Base}
use Rattle.cc_base.specs.declared.literal.Base.TheVariants as bases
use Rattle.cc_base.specs.declared.literal.Operator.{Operator}
use Rattle.cc_base.specs.declared.literal.Op.{Op}
use Rattle.cc_base.specs.Literals.{Literal}
use Rattle.cc_capture.specs.declared.var.Var.{Var}
use Rattle.cc_capture.specs.declared.var.Var.TheVariants.{Free}
use Rattle.cc_capture.specs.Sets.{Set, empty, union}
use Rattle.cc_core.specs.Shapes.{Shape, BaseShape, FunctionShape, TypeFunctionShape, BoxShape, ExitShape, CapturingType}
use Rattle.cc_core.specs.Shapes.{capturing}
use Rattle.cc_core.specs.Terms.{Note, Absent, Written, Own, Term, VariableTerm, LiteralTerm, FunctionTerm}
use Rattle.cc_core.specs.Terms.{TypeFunctionTerm, BoxTerm, Application, TypeApplication, Unboxing, Let, Primitive}
use Rattle.cc_core.specs.Terms.{Conditional, Repetition, Operation, Boundary, Leave}
use Rattle.cc_core.specs.Contexts.{TermEntry, TypeEntry, Context, lookup, entry_of}
use Rattle.cc_core.specs.Substitution.{filled, filled_set, filled_type, closed, closed_set, replaced_type}
use Rattle.cc_core.specs.Substitution.{replaced_type_by_shape}
use Rattle.cc_core.specs.Sizes.{type_size}
use Rattle.cc_core.specs.Captured.{variable_set}
use Rattle.cc_core.specs.Subcapturing.{SubcapturesSet}
use Rattle.cc_core.specs.Subtyping.{Subtypes, SubtypesType}
use Rattle.cc_core.specs.Typing.{base_of, base_given, base_operated, base_taken, base_answered, HasNoCap}
use Rattle.cc_checking.specs.Exposing.{exposed}
use Rattle.cc_checking.specs.Avoidance.{Positive, avoided_type}
use Rattle.cc_checking.specs.Fillings.{Filling, filled_context}
use Rattle.cc_checking.specs.Inference.{in_context, set_in, shape_in, type_in, written_in, captured_in, base_type}
use Rattle.cc_checking.specs.Inference.{exit_entry}
use Rattle.cc_checking.specs.Verdicts.{Definition, signature_of}

-- the variable stands for a position of the context that is declared with the shape
pub record HasShape (context : Context) (variable : Var) (shape : Shape) : Type 0 where
  pub position : ℕ
  pub declared : Set
  pub is : in_context context variable ≡ Free position
  pub there : lookup context position ≡ Some (TermEntry shape declared)

-- the type of a variable of the shape, which captures itself
abbrev pub own_type : Context → Var → Shape → CapturingType
own_type context variable shape = capturing shape (variable_set (in_context context variable))

-- the shape of a head, where type variables are followed to their bounds
abbrev pub HasHead : Context → Var → Shape → Type 0
HasHead context variable head = (shape : Shape) × HasShape context variable shape × (exposed context shape ≡ head)

module _ (filling : Filling) where
  -- with the holes filled, the one set is below the other in the context
  abbrev pub SetIsBelow : Context → Set → Set → Type 0
  SetIsBelow context left right =
      SubcapturesSet (filled_context filling context) (filled_set filling left) (filled_set filling right)

  -- the same of shapes
  abbrev pub ShapeIsBelow : Context → Shape → Shape → Type 0
  ShapeIsBelow context left right =
      Subtypes (filled_context filling context) (filled filling left) (filled filling right)

  -- the same of types
  abbrev pub TypeIsBelow : Context → CapturingType → CapturingType → Type 0
  TypeIsBelow context left right =
      SubtypesType (filled_context filling context) (filled_type filling left) (filled_type filling right)

  -- the variable's own type is below the one that is wanted
  abbrev pub IsOfType : Context → Var → CapturingType → Type 0
  IsOfType context variable wanted =
      (shape : Shape) × HasShape context variable shape × TypeIsBelow context (own_type context variable shape) wanted

  -- the variable's shape is below the one that is wanted, whatever it captures
  abbrev pub IsOfShape : Context → Var → Shape → Type 0
  IsOfShape context variable wanted =
      (shape : Shape) × HasShape context variable shape × ShapeIsBelow context shape wanted

  -- From the root on, the entries of a context are those of the binders that were passed in the term.
  module _ (root : ℕ) where
    -- The type that a right side is named with, by the type that it has and what is written for it, and the note with
    -- its set put in. A written type is above the one that the right side has. Where its set is omitted the shapes are
    -- compared, and the set is the one that the right side has.
    pub data IsNamedWith (context : Context) (found : CapturingType) : Note → Note → CapturingType → Type 0 where
      nothing_written : IsNamedWith context found Absent Absent found
      type_written : {shape : Shape} {set : Set} → TypeIsBelow context found (type_in context (capturing shape set))
          → IsNamedWith context found (Written shape set) (Written shape set) (type_in context (capturing shape set))
      set_omitted : {shape : Shape} → ShapeIsBelow context found.shape (shape_in context shape)
          → IsNamedWith context found (Own shape) (Written shape (written_in root context found.set))
          (capturing (shape_in context shape) found.set)

    mutual
      -- The first term has the type in the context, and the second is that term with its omitted sets put in. No type
      -- on the way is too large.
      pub data HasDirectedType : Context → Term → Term → CapturingType → Type 0 where
        by_form : {context : Context} {term completed : Term} {type : CapturingType}
            → HasTypeByForm context term completed type → type_size type ≤ 4096
            → HasDirectedType context term completed type

      -- the same, by the rule of the term's form
      pub data HasTypeByForm : Context → Term → Term → CapturingType → Type 0 where
        -- VAR: a variable has its declared shape, and captures itself
        of_variable : {context : Context} {variable : Var} {shape : Shape} → HasShape context variable shape
            → HasTypeByForm context (VariableTerm variable) (VariableTerm variable) (own_type context variable shape)
        -- the profile's own: a literal captures nothing
        of_literal : {context : Context} {literal : Literal}
            → HasTypeByForm context (LiteralTerm literal) (LiteralTerm literal) (base_type (base_of literal))
        -- ABS: a function's type closes that of its body, and it captures what it does with its omitted sets put in
        of_function : {context : Context} {takes : Shape} {c : Set} {body body' : Term} {gives : CapturingType}
            → HasDirectedType (entry_of (type_in context (capturing takes c)) ∷ context) body body' gives
            → HasTypeByForm context (FunctionTerm takes c body) (FunctionTerm takes c body')
            (capturing
            (FunctionShape (shape_in context takes) (set_in context c) (closed (length context) gives.shape)
            (closed_set (length context) gives.set))
            (captured_in context (FunctionTerm takes c body')))
        -- TABS: the same under a type variable
        of_type_function : {context : Context} {bound : Shape} {body body' : Term} {gives : CapturingType}
            → HasDirectedType (TypeEntry (shape_in context bound) ∷ context) body body' gives
            → HasTypeByForm context (TypeFunctionTerm bound body) (TypeFunctionTerm bound body')
            (capturing
            (TypeFunctionShape (shape_in context bound) (closed (length context) gives.shape)
            (closed_set (length context) gives.set))
            (captured_in context (TypeFunctionTerm bound body')))
        -- APP: the argument is of the type that the function takes, and the result names it in the parameter's place
        of_application : {context : Context} {function argument : Var} {takes gives : Shape} {c e : Set}
            → HasHead context function (FunctionShape takes c gives e)
            → IsOfType context argument (capturing takes c)
            → HasTypeByForm context (Application function argument) (Application function argument)
            (replaced_type (in_context context argument) (capturing gives e))
        -- TAPP: the argument is below the bound, and the result has it in the type variable's place
        of_type_application : {context : Context} {function : Var} {argument bound gives : Shape} {e : Set}
            → HasHead context function (TypeFunctionShape bound gives e)
            → ShapeIsBelow context (shape_in context argument) bound
            → HasTypeByForm context (TypeApplication function argument) (TypeApplication function argument)
            (replaced_type_by_shape (shape_in context argument) (capturing gives e))
        -- BOX: a box has the variable's own type inside, and captures nothing
        of_box : {context : Context} {content : Var} {shape : Shape} → HasShape context content shape
            → HasTypeByForm context (BoxTerm content) (BoxTerm content)
            (capturing (BoxShape shape (variable_set (in_context context content))) empty)
        -- UNBOX: the set of the content is below the written one, which has no universal capability
        of_unboxing : {context : Context} {box : Var} {content : Shape} {c set : Set}
            → HasHead context box (BoxShape content c) → SetIsBelow context c (set_in context set)
            → HasNoCap (filled_set filling (set_in context set))
            → HasTypeByForm context (Unboxing (Some set) box) (Unboxing (Some set) box)
            (capturing content (set_in context set))
        -- UNBOX, where the set is omitted: it is that of the content
        of_unboxing_alone : {context : Context} {box : Var} {content : Shape} {c : Set}
            → HasHead context box (BoxShape content c) → HasNoCap (filled_set filling c)
            → HasTypeByForm context (Unboxing None box) (Unboxing (Some (written_in root context c)) box)
            (capturing content c)
        -- LET: as the variable leaves its scope, it is avoided in the type of the body
        of_let : {context : Context} {note note' : Note} {right right' body body' : Term}
            {found named gives outside : CapturingType}
            → HasDirectedType context right right' found → IsNamedWith context found note note' named
            → HasDirectedType (entry_of named ∷ context) body body' gives
            → avoided_type Positive (length context) named.set gives ≡ Some outside
            → HasTypeByForm context (Let note right body) (Let note' right' body') outside
        -- The rest is the profile's own. Both operands are numbers.
        of_primitive : {context : Context} {operator : Operator} {left right : Var}
            → IsOfShape context left (BaseShape bases.Int) → IsOfShape context right (BaseShape bases.Int)
            → HasTypeByForm context (Primitive operator left right) (Primitive operator left right)
            (base_type (base_given operator))
        -- a choice has the type that is written for it, and those of both branches are below it
        of_choice : {context : Context} {test : Var} {shape : Shape} {set : Set}
            {positive positive' negative negative' : Term} {one two : CapturingType}
            → IsOfShape context test (BaseShape bases.Bool)
            → HasDirectedType context positive positive' one
            → TypeIsBelow context one (type_in context (capturing shape set))
            → HasDirectedType context negative negative' two
            → TypeIsBelow context two (type_in context (capturing shape set))
            → HasTypeByForm context (Conditional (Written shape set) test positive negative)
            (Conditional (Written shape set) test positive' negative') (type_in context (capturing shape set))
        -- where its set is omitted, it is that of both branches
        of_choice_alone : {context : Context} {test : Var} {shape : Shape}
            {positive positive' negative negative' : Term} {one two : CapturingType}
            → IsOfShape context test (BaseShape bases.Bool)
            → HasDirectedType context positive positive' one
            → ShapeIsBelow context one.shape (shape_in context shape)
            → HasDirectedType context negative negative' two
            → ShapeIsBelow context two.shape (shape_in context shape)
            → HasTypeByForm context (Conditional (Own shape) test positive negative)
            (Conditional (Written shape (written_in root context (union one.set two.set))) test positive' negative')
            (capturing (shape_in context shape) (union one.set two.set))
        -- the count is a number, and the function takes pure numbers to pure unit values, whatever it captures
        of_repetition : {context : Context} {count function : Var} → IsOfShape context count (BaseShape bases.Int)
            → IsOfShape context function (FunctionShape (BaseShape bases.Int) empty (BaseShape bases.Unit) empty)
            → HasTypeByForm context (Repetition count function) (Repetition count function) (base_type bases.Unit)
        -- the receiver is a device that the operation is for, and the argument is what the operation takes
        of_operation : {context : Context} {operation : Op} {receiver argument : Var} {taken : Base}
            → HasHead context receiver (BaseShape (base_operated operation)) → base_taken operation ≡ Some taken
            → IsOfShape context argument (BaseShape taken)
            → HasTypeByForm context (Operation operation receiver (Some argument))
            (Operation operation receiver (Some argument)) (base_type (base_answered operation))
        -- the same where the operation takes none
        of_operation_alone : {context : Context} {operation : Op} {receiver : Var}
            → HasHead context receiver (BaseShape (base_operated operation)) → base_taken operation ≡ None
            → HasTypeByForm context (Operation operation receiver None) (Operation operation receiver None)
            (base_type (base_answered operation))
        -- what leaves a boundary is of the shape that is written, and captures nothing
        of_boundary : {context : Context} {gives : Shape} {body body' : Term} {found : CapturingType}
            → HasDirectedType (exit_entry (shape_in context gives) ∷ context) body body' found
            → TypeIsBelow (exit_entry (shape_in context gives) ∷ context) found
            (capturing (shape_in context gives) empty)
            → HasTypeByForm context (Boundary gives body) (Boundary gives body')
            (capturing (shape_in context gives) empty)
        -- an exit takes a value of its shape that captures nothing, and has the type that is written
        of_exit : {context : Context} {gives takes : Shape} {c : Set} {exit value : Var}
            → HasHead context exit (ExitShape takes) → IsOfType context value (capturing takes empty)
            → HasTypeByForm context (Leave gives c exit value) (Leave gives c exit value)
            (type_in context (capturing gives c))

-- The definition is typed under the filling, where the first positions are devices: its right side has a directed type,
-- the type that is written for it is above, and its filled type has a signature. In a recursive definition the name is
-- declared with the signature, which is that of the written type.
pub data HasDirectedDefinition (devices : ℕ) (globals : Context) (definition : Definition) (filling : Filling) : Type 0
  where
    not_recursive : {completed : Term} {note : Note} {found named signature : CapturingType}
        → definition.recursive ≡ false
        → HasDirectedType filling (length globals) globals definition.right completed found
        → IsNamedWith filling (length globals) globals found definition.note note named
        → signature_of devices globals (filled_type filling named) ≡ Some signature
        → HasDirectedDefinition devices globals definition filling
    recursive : {shape : Shape} {set : Set} {completed : Term} {found signature : CapturingType}
        → definition.recursive ≡ true → definition.note ≡ Written shape set
        → signature_of devices globals (capturing shape set) ≡ Some signature
        → HasDirectedType filling (suc (length globals)) (entry_of signature ∷ globals) definition.right completed found
        → TypeIsBelow filling (entry_of signature ∷ globals) found signature
        → HasDirectedDefinition devices globals definition filling
