-- What the lines of a derivation's certificate say: the entries of the context, the term, and each node of the
-- derivation with what it concludes as it is written, where a local variable has a number.
use Rattle.std.specs.Prelude.{ℕ, ◌-◌, nat_lt, List, [], ◌∷◌, ◌++◌, length, slice_index_or}
use Rattle.std.specs.Prelude.{Option, Some, None, if◌then◌else◌, suc}
use Rattle.cc_capture.specs.declared.var.Var.{Var}
use Rattle.cc_capture.specs.declared.var.Var.TheVariants.{Bound, Free}
use Rattle.cc_capture.specs.declared.var.Elem.{Elem}
use Rattle.cc_capture.specs.declared.var.Elem.TheVariants.{Var as Variable, Cap, Hole}
use Rattle.cc_capture.specs.Sets.{Set, image}
use Rattle.cc_core.specs.Shapes.{Shape, BaseShape, AnyShape, TypeVariable, FunctionShape, TypeFunctionShape, BoxShape}
use Rattle.cc_core.specs.Shapes.{ExitShape, CapturingType, capturing}
use Rattle.cc_core.specs.Terms.{Term}
use Rattle.cc_core.specs.Contexts.{Bind, TermEntry, TypeEntry, Context}
use Rattle.cc_core.specs.Derivations.{Rule, Claim, SetBelow, ShapeBelow, TypeBelow, OfType, Derivation, Premises, Node}
use Rattle.cc_core.specs.Derivations.{NoPremise, Premise}
use Rattle.cc_derivation.specs.Numbers.{own_number, premise_numbers}
use Rattle.cc_certificate_writing.specs.Certificates.{binds_first, binds_others, with_binder}
use Rattle.cc_certificate_text.specs.Certificates.{CertificateNode, Line, Opens, Binds, States, Concludes}
use Rattle.cc_certificate_text.specs.LocalNames.{claim_has_binder}

-- The variable under so many binders as it is written where so many positions have names: by its name, or by the number
-- of binders that its own stands under. The positions behind the names are those of local binders, in order.
abbrev pub numbered_variable : ℕ → ℕ → Var → Var
numbered_variable names depth (Bound index) = Bound (depth - 1 - index)
numbered_variable names depth (Free position) =
    if nat_lt position names then Free position else Bound (position - names)

-- the same of an element
abbrev pub numbered_element : ℕ → ℕ → Elem → Elem
numbered_element names depth (Variable variable) = Variable (numbered_variable names depth variable)
numbered_element names depth Cap = Cap
numbered_element names depth (Hole hole) = Hole hole

abbrev pub numbered_set : ℕ → ℕ → Set → Set
numbered_set names depth set = image (numbered_element names depth) set

-- the shape with its variables as they are written
abbrev pub numbered_shape : ℕ → ℕ → Shape → Shape
numbered_shape names depth (BaseShape base) = BaseShape base
numbered_shape names depth AnyShape = AnyShape
numbered_shape names depth (TypeVariable variable) = TypeVariable (numbered_variable names depth variable)
numbered_shape names depth (FunctionShape takes c gives e) =
    FunctionShape (numbered_shape names depth takes) (numbered_set names depth c)
    (numbered_shape names (suc depth) gives) (numbered_set names (suc depth) e)
numbered_shape names depth (TypeFunctionShape bound gives e) =
    TypeFunctionShape (numbered_shape names depth bound) (numbered_shape names (suc depth) gives)
    (numbered_set names (suc depth) e)
numbered_shape names depth (BoxShape content c) =
    BoxShape (numbered_shape names depth content) (numbered_set names depth c)
numbered_shape names depth (ExitShape gives) = ExitShape (numbered_shape names depth gives)

abbrev pub numbered_type : ℕ → ℕ → CapturingType → CapturingType
numbered_type names depth type = capturing (numbered_shape names depth type.shape) (numbered_set names depth type.set)

-- what a node concludes as it is written, where so many local binders stand at its place
abbrev pub numbered_claim : ℕ → ℕ → Claim → Claim
numbered_claim names locals (SetBelow left right) =
    SetBelow (numbered_set names locals left) (numbered_set names locals right)
numbered_claim names locals (ShapeBelow left right) =
    ShapeBelow (numbered_shape names locals left) (numbered_shape names locals right)
numbered_claim names locals (TypeBelow left right) =
    TypeBelow (numbered_type names locals left) (numbered_type names locals right)
numbered_claim names locals (OfType type) = OfType (numbered_type names locals type)

-- the number of a claim's outermost binders, where it has a binder
abbrev pub outermost_number : ℕ → Claim → Option ℕ
outermost_number locals claim = if claim_has_binder claim then Some locals else None

-- the node of a certificate: its rule, the numbers of its premises, and what it concludes
abbrev pub certificate_node : ℕ → ℕ → Rule → List ℕ → Claim → CertificateNode
certificate_node names locals rule premises claim = record {
  rule = rule;
  premises = premises;
  first = outermost_number locals claim;
  claim = numbered_claim names locals claim;
}

abbrev mutual
  -- The nodes in post-order, where so many nodes come before the derivation and so many local binders stand at its
  -- root. A part that is shared has its nodes at each of its places.
  pub concluded_lines : ℕ → ℕ → ℕ → Derivation → List Line
  concluded_lines names before locals (Node rule premises claim) =
      premises_concluded names before (with_binder (binds_first rule) locals) (with_binder (binds_others rule) locals)
      premises
      ++ Concludes (certificate_node names locals rule (premise_numbers before premises) claim) ∷ []

  -- the same of premises, where so many local binders stand at the first one, and so many at those behind it
  pub premises_concluded : ℕ → ℕ → ℕ → ℕ → Premises → List Line
  premises_concluded names before first_locals other_locals NoPremise = []
  premises_concluded names before first_locals other_locals (Premise first rest) =
      concluded_lines names before first_locals first
      ++ premises_concluded names (own_number before first) other_locals other_locals rest

-- the line of an entry: its name and its type; a type variable has none in a certificate
abbrev pub bound_line : List ℕ → Bind → List Line
bound_line name (TermEntry shape set) = Binds name (capturing shape set) ∷ []
bound_line name (TypeEntry bound) = []

-- a line for each entry, the oldest first, with the name of its position
abbrev pub bound_lines : List (List ℕ) → Context → List Line
bound_lines names [] = []
bound_lines names (newest ∷ older) =
    bound_lines names older ++ bound_line (slice_index_or names (length older) []) newest

-- the lines of the certificate of the derivation of a term's type in a context
abbrev pub lines_of : List (List ℕ) → Context → Term → Derivation → List Line
lines_of names context term derivation =
    Opens ∷ (bound_lines names context ++ States term ∷ concluded_lines (length names) 0 0 derivation)
