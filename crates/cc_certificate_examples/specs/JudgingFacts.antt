-- Worked parts of judging, and of what is written: how numbers are read at a place, where binders stand, in which order
-- nodes are listed, and what is said in the end.
use Rattle.std.specs.Prelude.{◌≡◌, ℕ, true, false, [], ◌∷◌, ◌++◌, Some, None, codes}
use Rattle.cc_base.specs.declared.literal.Base.TheVariants as bases
use Rattle.cc_capture.specs.declared.var.Elem.TheVariants.{Var as Variable, Cap}
use Rattle.cc_capture.specs.declared.var.Var.TheVariants.{Bound, Free}
use Rattle.cc_capture.specs.Sets.{Set, empty}
use Rattle.cc_core.specs.Shapes.{Shape, BaseShape, AnyShape, TypeVariable, FunctionShape, BoxShape}
use Rattle.cc_core.specs.Shapes.{CapturingType, capturing}
use Rattle.cc_core.specs.Contexts.{TermEntry, TypeEntry}
use Rattle.cc_core.specs.Substitution.{single}
use Rattle.cc_core.specs.Terms.{BoxTerm}
use Rattle.cc_core.specs.WellFormed.{TermKind, TypeKind}
use Rattle.cc_core.specs.Derivations.{Rule, ByElement, ByFunction, ByTypeFunction, ByBox, t-var, t-lit, t-abs, t-tabs}
use Rattle.cc_core.specs.Derivations.{t-box, t-let, t-if, t-boundary, t-sub, SetBelow, ShapeBelow, TypeBelow}
use Rattle.cc_core.specs.Derivations.{OfType, Node, NoPremise, one}
use Rattle.cc_certificate_writing.specs.Certificates.{bind_line, lines_at, bind_lines, certificate_text, lines_behind}
use Rattle.cc_certificate_judging.specs.Answers.{ProvesType, HasBadLine, HasBadNode, found_text, is_valid}
use Rattle.cc_certificate_judging.specs.JudgingExamples.{node_with}
use Rattle.cc_certificate_judging.specs.Judging.{Grown, NoTree, Tree, NodeTree, root_numbers, listed, binder_at}
use Rattle.cc_certificate_judging.specs.Judging.{under_binder, numbered, read_claim, begins_at, fits_place, claim_at}

abbrev pub number : Shape
number = BaseShape bases.Int

abbrev pub plain : CapturingType
plain = capturing number empty

-- the set of an index, and of a position
abbrev pub index : ℕ → Set
index i = single (Variable (Bound i))

abbrev pub position : ℕ → Set
position p = single (Variable (Free p))

-- Behind two names and three local binders, numbers from 0 to 2 are those of the local ones, and those from 3 on are
-- binders of the claim, the outermost first; a number that none has is an index that none has.
pub record NumbersAtAPlace : Type 0 where
  pub first_local : numbered 2 3 2 0 ≡ Free 2
  pub last_local : numbered 2 3 2 2 ≡ Free 4
  pub outer_binder : numbered 2 3 2 3 ≡ Bound 1
  pub inner_binder : numbered 2 3 2 4 ≡ Bound 0
  pub no_binder : numbered 2 3 2 5 ≡ Bound 5
  pub binder_alone : numbered 2 3 1 3 ≡ Bound 0
  pub outside : numbered 2 3 0 3 ≡ Bound 3
  -- a name keeps its position
  pub sets : read_claim 2 3 (SetBelow (index 1) (position 1)) ≡ SetBelow (position 3) (position 1)
  pub shapes :
      read_claim 2 3 (ShapeBelow (TypeVariable (Bound 1)) (TypeVariable (Bound 2)))
      ≡ ShapeBelow (TypeVariable (Free 3)) (TypeVariable (Free 4))
  pub types :
      read_claim 2 3 (TypeBelow (capturing number (index 1)) (capturing number (index 2)))
      ≡ TypeBelow (capturing number (position 3)) (capturing number (position 4))
  pub under_binders :
      read_claim 2 3
      (OfType (capturing (FunctionShape number (index 1) (FunctionShape number (index 3) number (index 4)) (index 3))
      (index 0)))
      ≡ OfType (capturing (FunctionShape number (position 3) (FunctionShape number (index 0) number (index 0))
      (index 0)) (position 2))

-- Under which binder the premises of a rule stand besides.
pub record BindersAtPremises : Type 0 where
  pub body_of_a_function : binder_at t-abs 0 ≡ Some TermKind
  pub body_of_a_type_function : binder_at t-tabs 0 ≡ Some TypeKind
  pub body_of_a_boundary : binder_at t-boundary 0 ≡ Some TermKind
  pub right_side_of_a_let : binder_at t-let 0 ≡ None
  pub body_of_a_let : binder_at t-let 1 ≡ Some TermKind
  pub parameters : binder_at ByFunction 0 ≡ None
  pub results : binder_at ByFunction 1 ≡ Some TermKind
  pub bounds : binder_at ByTypeFunction 0 ≡ None
  pub results_of_type_functions : binder_at ByTypeFunction 1 ≡ Some TypeKind
  pub contents : binder_at ByBox 0 ≡ None
  pub branch : binder_at t-if 1 ≡ None
  pub other_branch : binder_at t-if 2 ≡ None
  pub third_of_a_let : binder_at t-let 2 ≡ None
  pub widening : binder_at t-sub 0 ≡ None
  pub comparison_of_a_widening : binder_at t-sub 1 ≡ None
  pub innermost : under_binder (Some TypeKind) (TermKind ∷ []) ≡ TypeKind ∷ TermKind ∷ []
  pub no_binder : under_binder None (TermKind ∷ []) ≡ TermKind ∷ []

-- The names of a claim fit where its binders begin at the number of the local ones and each name is of its kind; else
-- the claim is one of another kind.
pub record NamesAtAPlace : Type 0 where
  pub no_binders : begins_at 3 None ≡ true
  pub binders : begins_at 3 (Some 3) ≡ true
  pub too_low : begins_at 3 (Some 2) ≡ false
  pub too_high : begins_at 3 (Some 4) ≡ false
  -- one name and one local variable
  pub of_a_local_variable : fits_place 1 (TermKind ∷ TermKind ∷ []) None (SetBelow (index 0) (position 0)) ≡ true
  pub of_no_local_variable : fits_place 1 (TermKind ∷ []) None (SetBelow empty (index 0)) ≡ false
  pub of_a_type_variable : fits_place 1 (TypeKind ∷ TermKind ∷ []) None (SetBelow (index 0) empty) ≡ false
  pub of_a_type_variable_as_a_shape :
      fits_place 1 (TypeKind ∷ TermKind ∷ []) None (ShapeBelow (TypeVariable (Bound 0)) AnyShape) ≡ true
  pub of_a_variable_as_a_shape :
      fits_place 1 (TermKind ∷ TermKind ∷ []) None (ShapeBelow AnyShape (TypeVariable (Bound 0))) ≡ false
  pub of_a_binder :
      fits_place 1 (TermKind ∷ []) (Some 0) (OfType (capturing (FunctionShape number empty number (index 0)) empty))
      ≡ true
  pub of_another_binder :
      fits_place 1 (TermKind ∷ []) (Some 1) (OfType (capturing (FunctionShape number empty number (index 1)) empty))
      ≡ false
  pub read :
      claim_at 1 (TermKind ∷ TermKind ∷ []) ByElement None (SetBelow (index 0) empty) ≡ SetBelow (position 1) empty
  pub not_of_sets : claim_at 0 [] ByElement None (SetBelow (index 0) empty) ≡ OfType (capturing AnyShape empty)
  pub of_sets : claim_at 0 [] t-lit None (OfType (capturing number (index 0))) ≡ SetBelow empty empty

-- a node without premises, and a tree of three nodes, of which two are below the last one
abbrev pub leaf : Rule → NodeTree
leaf rule = Grown rule None (OfType plain) NoTree

abbrev pub tree : NodeTree
tree =
    Grown t-let (Some 0) (OfType plain) (Tree (leaf t-lit)
    (Tree (Grown t-box None (OfType plain) (Tree (leaf t-var) NoTree)) NoTree))

-- Nodes are listed with the premises before them, and numbered from 1 on behind those that come before.
pub record ListedNodes : Type 0 where
  pub roots :
      root_numbers 4 (Tree (leaf t-lit) (Tree (Grown t-box None (OfType plain) (Tree (leaf t-var) NoTree)) NoTree)) ≡ 5
      ∷ 7 ∷ []
  pub in_order :
      listed 0 tree
      ≡ node_with t-lit [] None (OfType plain) ∷ node_with t-var [] None (OfType plain)
      ∷ node_with t-box (2 ∷ []) None (OfType plain) ∷ node_with t-let (1 ∷ 3 ∷ []) (Some 0) (OfType plain) ∷ []
  pub behind_others :
      listed 4 tree
      ≡ node_with t-lit [] None (OfType plain) ∷ node_with t-var [] None (OfType plain)
      ∷ node_with t-box (6 ∷ []) None (OfType plain) ∷ node_with t-let (5 ∷ 7 ∷ []) (Some 0) (OfType plain) ∷ []

-- The answer is one line, and one of the three says that the certificate is valid.
pub record AnswersInWords : Type 0 where
  pub valid :
      found_text (ProvesType (codes "x" ∷ codes "y" ∷ []) (capturing number (position 1))) ≡ codes "valid Int^{y}"
  pub bad_line : found_text (HasBadLine 12) ≡ codes "bad line 12"
  pub bad_node : found_text (HasBadNode 100000) ≡ codes "bad node 100000"
  pub valid_is_valid : is_valid (ProvesType [] plain) ≡ true
  pub bad_line_is_not : is_valid (HasBadLine 1) ≡ false
  pub bad_node_is_not : is_valid (HasBadNode 1) ≡ false

-- Binds are written from the oldest on, each with the names before it, and each line with a line feed.
pub record WrittenCertificates : Type 0 where
  pub with_two_binds :
      certificate_text (codes "x" ∷ codes "y" ∷ [])
      (TermEntry number (position 0) ∷ TermEntry AnyShape (single Cap) ∷ [])
      (BoxTerm (Free 1))
      (Node t-box (one (Node t-var NoPremise (OfType (capturing number (position 1)))))
      (OfType (capturing (BoxShape number (position 1)) empty)))
      ≡ codes "cert 1\nbind x: Any^{cap}\nbind y: Int^{x}\nterm box y\n"
      ++ codes "1 t-var [] : Int^{y}\n2 t-box [1] : Box[Int^{y}]\n"
  pub bind_of_a_type_variable : bind_line (codes "x" ∷ []) 2 (TypeEntry number) ≡ codes "bind _T1 <: Int"
  pub binds_in_order :
      bind_lines (codes "x" ∷ codes "y" ∷ []) (TermEntry number empty ∷ TermEntry AnyShape empty ∷ [])
      ≡ codes "bind x: Any" ∷ codes "bind y: Int" ∷ []
  pub line_at_a_position : lines_at (codes "x" ∷ []) 0 (Some (TermEntry number empty)) ≡ codes "bind x: Int" ∷ []
  pub nothing_at_a_position : lines_at (codes "x" ∷ []) 1 None ≡ []
  pub behind_a_front : lines_behind (codes "  ") (codes "a" ∷ codes "b" ∷ []) ≡ codes "  a\n  b\n"
