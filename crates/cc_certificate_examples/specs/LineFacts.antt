-- Worked lines: what fits at each stage and what does not, how far lines come, and what may be written in a term.
use Rattle.std.specs.Prelude.{◌≡◌, ℕ, zero, suc, true, false, List, [], ◌∷◌, Option, Some, None, pos, negsuc, codes}
use Rattle.std.specs.Prelude.{replicate}
use Rattle.cc_base.specs.Literals.{UnitLiteral, TruthLiteral, NumberLiteral, TextLiteral}
use Rattle.cc_base.specs.declared.literal.Base.TheVariants as bases
use Rattle.cc_base.specs.declared.literal.Op.TheVariants as operations
use Rattle.cc_base.specs.declared.literal.Operator.TheVariants as operators
use Rattle.cc_capture.specs.declared.var.Elem.TheVariants.{Var as Variable, Cap, Hole}
use Rattle.cc_capture.specs.declared.var.Var.TheVariants.{Bound, Free}
use Rattle.cc_capture.specs.Sets.{Set, empty}
use Rattle.cc_core.specs.Shapes.{Shape, BaseShape, AnyShape, FunctionShape, TypeFunctionShape, BoxShape}
use Rattle.cc_core.specs.Shapes.{ExitShape, CapturingType, capturing}
use Rattle.cc_core.specs.Contexts.{TermEntry}
use Rattle.cc_core.specs.Substitution.{single}
use Rattle.cc_core.specs.Terms.{Absent, Written, Own, Term, VariableTerm, LiteralTerm, FunctionTerm}
use Rattle.cc_core.specs.Terms.{TypeFunctionTerm, BoxTerm, Application, TypeApplication, Unboxing, Let, Primitive}
use Rattle.cc_core.specs.Terms.{Conditional, Repetition, Operation, Boundary, Leave}
use Rattle.cc_core.specs.Derivations.{Rule, ByElement, ByVariable, BySet, ByReflexivity, ByTransitivity, ByTypeVariable}
use Rattle.cc_core.specs.Derivations.{ByTop, ByFunction, ByTypeFunction, ByBox, ByCapturing, t-var, t-lit, t-abs}
use Rattle.cc_core.specs.Derivations.{t-tabs}
use Rattle.cc_core.specs.Derivations.{t-app, t-tapp, t-box, t-unbox, t-let, t-prim, t-if, t-repeat, t-op, t-boundary}
use Rattle.cc_core.specs.Derivations.{t-exit, t-sub, Claim, SetBelow, ShapeBelow, TypeBelow, OfType}
use Rattle.cc_certificate_text.specs.Certificates.{Line, Opens, Binds, States, Concludes, Start}
use Rattle.cc_certificate_text.specs.Certificates.{Binding, Proving, names_at, next_number, behind_line, binder_number}
use Rattle.cc_certificate_text.specs.Certificates.{line_text, IsWrittenLiteral, IsWrittenNote, IsOptionalNote}
use Rattle.cc_certificate_text.specs.Certificates.{IsWrittenSet}
use Rattle.cc_certificate_text.specs.Certificates.{takes_argument, IsWritten, OfSets, OfShapes, OfTypes, OfTerms}
use Rattle.cc_certificate_text.specs.Certificates.{claim_kind}
use Rattle.cc_certificate_text.specs.Certificates.{rule_kind, Fits, IsWhole}

abbrev pub number : Shape
number = BaseShape bases.Int

-- Int, and Int with an omitted set
abbrev pub plain : CapturingType
plain = capturing number empty

abbrev pub omitted : Set
omitted = single (Hole 0)

-- Box[Int^?]
abbrev pub box_of_omitted : Shape
box_of_omitted = BoxShape number omitted

-- Int in so many boxes, which is one higher
unfoldable pub boxed : ℕ → Shape
boxed zero = number
boxed (suc count) = BoxShape (boxed count) empty

-- WHAT IS WRITTEN IN A TERM

-- Literals are those of the grammar: no number is negative, each is below 2^63, and a text has at most 200 characters
-- that may stand in a string.
pub record WrittenLiterals : Type 0 where
  pub unit_value : IsWrittenLiteral UnitLiteral
  pub truth : IsWrittenLiteral (TruthLiteral true)
  pub nothing : IsWrittenLiteral (NumberLiteral (pos 0))
  pub greatest : IsWrittenLiteral (NumberLiteral (pos 9223372036854775807))
  pub greater : IsWrittenLiteral (NumberLiteral (pos 9223372036854775808)) → ⊥
  pub negative : IsWrittenLiteral (NumberLiteral (negsuc 0)) → ⊥
  pub no_text : IsWrittenLiteral (TextLiteral [])
  pub text_of_200 : IsWrittenLiteral (TextLiteral (replicate 200 97))
  pub text_of_201 : IsWrittenLiteral (TextLiteral (replicate 201 97)) → ⊥
  pub text_with_a_quote : IsWrittenLiteral (TextLiteral (34 ∷ [])) → ⊥
  pub text_with_a_line_feed : IsWrittenLiteral (TextLiteral (10 ∷ [])) → ⊥
  pub text_beyond_unicode : IsWrittenLiteral (TextLiteral (55296 ∷ [])) → ⊥

-- A type is written without holes, where one has to be, and where one may be; and so is a set.
pub record WrittenNotes : Type 0 where
  pub written : IsWrittenNote (Written number (single Cap))
  pub absent : IsWrittenNote Absent → ⊥
  pub without_its_set : IsWrittenNote (Own number) → ⊥
  pub with_an_omitted_set : IsWrittenNote (Written number omitted) → ⊥
  pub with_one_inside : IsWrittenNote (Written box_of_omitted empty) → ⊥
  pub absent_where_it_may_be : IsOptionalNote Absent
  pub written_where_it_may_be : IsOptionalNote (Written number (single Cap))
  pub without_its_set_where_it_may_be : IsOptionalNote (Own number) → ⊥
  pub with_an_omitted_set_where_it_may_be : IsOptionalNote (Written number omitted) → ⊥
  pub with_one_inside_where_it_may_be : IsOptionalNote (Written box_of_omitted empty) → ⊥
  pub set : IsWrittenSet (Some (single Cap))
  pub no_set : IsWrittenSet None → ⊥
  pub omitted_set : IsWrittenSet (Some omitted) → ⊥

-- Printing, saying and writing take an argument, reading and ticking take none.
pub record ArgumentsOfOperations : Type 0 where
  pub printing : takes_argument operations.Print ≡ true
  pub saying : takes_argument operations.Say ≡ true
  pub reading : takes_argument operations.Read ≡ false
  pub writing : takes_argument operations.Write ≡ true
  pub ticking : takes_argument operations.Tick ≡ false

-- a term that is written, and one that is not
abbrev pub one : Term
one = LiteralTerm (NumberLiteral (pos 1))

abbrev pub minus_one : Term
minus_one = LiteralTerm (NumberLiteral (negsuc 0))

-- Each part of a term is asked whether it is written.
pub record WrittenTerms : Type 0 where
  pub variable : IsWritten (VariableTerm (Bound 0))
  pub literal : IsWritten one
  pub negative_literal : IsWritten minus_one → ⊥
  pub function : IsWritten (FunctionTerm number (single Cap) one)
  pub parameter : IsWritten (FunctionTerm box_of_omitted empty one) → ⊥
  pub set_of_a_parameter : IsWritten (FunctionTerm number omitted one) → ⊥
  pub body_of_a_function : IsWritten (FunctionTerm number empty minus_one) → ⊥
  pub type_function : IsWritten (TypeFunctionTerm number one)
  pub bound : IsWritten (TypeFunctionTerm box_of_omitted one) → ⊥
  pub body_of_a_type_function : IsWritten (TypeFunctionTerm number minus_one) → ⊥
  pub box : IsWritten (BoxTerm (Bound 0))
  pub application : IsWritten (Application (Bound 0) (Bound 1))
  pub type_application : IsWritten (TypeApplication (Bound 0) number)
  pub argument_of_an_omitted_set : IsWritten (TypeApplication (Bound 0) box_of_omitted) → ⊥
  pub unboxing : IsWritten (Unboxing (Some empty) (Bound 0))
  pub unboxing_of_no_set : IsWritten (Unboxing None (Bound 0)) → ⊥
  pub unboxing_of_an_omitted_set : IsWritten (Unboxing (Some omitted) (Bound 0)) → ⊥
  pub let_of_no_type : IsWritten (Let Absent one one)
  pub let_of_a_type : IsWritten (Let (Written number empty) one one)
  pub let_of_an_omitted_set : IsWritten (Let (Own number) one one) → ⊥
  pub right_side : IsWritten (Let Absent minus_one one) → ⊥
  pub body_of_a_let : IsWritten (Let Absent one minus_one) → ⊥
  pub operator : IsWritten (Primitive operators.Add (Bound 0) (Bound 1))
  pub choice : IsWritten (Conditional (Written number empty) (Bound 0) one one)
  pub choice_of_no_type : IsWritten (Conditional Absent (Bound 0) one one) → ⊥
  pub first_branch : IsWritten (Conditional (Written number empty) (Bound 0) minus_one one) → ⊥
  pub second_branch : IsWritten (Conditional (Written number empty) (Bound 0) one minus_one) → ⊥
  pub repetition : IsWritten (Repetition (Bound 0) (Bound 1))
  pub operation : IsWritten (Operation operations.Print (Bound 0) (Some (Bound 1)))
  pub operation_of_nothing : IsWritten (Operation operations.Print (Bound 0) None) → ⊥
  pub operation_alone : IsWritten (Operation operations.Tick (Bound 0) None)
  pub operation_of_something : IsWritten (Operation operations.Tick (Bound 0) (Some (Bound 1))) → ⊥
  pub boundary : IsWritten (Boundary number one)
  pub shape_of_a_boundary : IsWritten (Boundary box_of_omitted one) → ⊥
  pub body_of_a_boundary : IsWritten (Boundary number minus_one) → ⊥
  pub exit : IsWritten (Leave number (single Cap) (Bound 0) (Bound 1))
  pub shape_of_an_exit : IsWritten (Leave box_of_omitted empty (Bound 0) (Bound 1)) → ⊥
  pub set_of_an_exit : IsWritten (Leave number omitted (Bound 0) (Bound 1)) → ⊥

-- KINDS OF CLAIMS

-- Each rule concludes claims of one kind.
pub record KindsOfRules : Type 0 where
  pub elements : rule_kind ByElement ≡ OfSets
  pub variables_in_sets : rule_kind ByVariable ≡ OfSets
  pub sets : rule_kind BySet ≡ OfSets
  pub itself : rule_kind ByReflexivity ≡ OfShapes
  pub two_steps : rule_kind ByTransitivity ≡ OfShapes
  pub type_variables : rule_kind ByTypeVariable ≡ OfShapes
  pub greatest : rule_kind ByTop ≡ OfShapes
  pub functions : rule_kind ByFunction ≡ OfShapes
  pub type_functions : rule_kind ByTypeFunction ≡ OfShapes
  pub boxes : rule_kind ByBox ≡ OfShapes
  pub types : rule_kind ByCapturing ≡ OfTypes
  pub variables : rule_kind t-var ≡ OfTerms
  pub literals : rule_kind t-lit ≡ OfTerms
  pub function_terms : rule_kind t-abs ≡ OfTerms
  pub type_function_terms : rule_kind t-tabs ≡ OfTerms
  pub applications : rule_kind t-app ≡ OfTerms
  pub type_applications : rule_kind t-tapp ≡ OfTerms
  pub box_terms : rule_kind t-box ≡ OfTerms
  pub unboxings : rule_kind t-unbox ≡ OfTerms
  pub lets : rule_kind t-let ≡ OfTerms
  pub operators_of_numbers : rule_kind t-prim ≡ OfTerms
  pub choices : rule_kind t-if ≡ OfTerms
  pub repetitions : rule_kind t-repeat ≡ OfTerms
  pub operations_of_devices : rule_kind t-op ≡ OfTerms
  pub boundaries : rule_kind t-boundary ≡ OfTerms
  pub exits : rule_kind t-exit ≡ OfTerms
  pub widening : rule_kind t-sub ≡ OfTerms

pub record KindsOfClaims : Type 0 where
  pub sets : claim_kind (SetBelow empty empty) ≡ OfSets
  pub shapes : claim_kind (ShapeBelow number number) ≡ OfShapes
  pub types : claim_kind (TypeBelow plain plain) ≡ OfTypes
  pub type_of_a_term : claim_kind (OfType plain) ≡ OfTerms

-- STAGES

-- a node of a rule with premises, and with a number of binders if it has one
abbrev pub node : Rule → List ℕ → Option ℕ → Claim → Line
node rule premises first claim =
    Concludes (record { rule = rule; premises = premises; first = first; claim = claim })

-- a leaf
abbrev pub leaf : Line
leaf = node t-lit [] None (OfType plain)

-- a node over these
abbrev pub over : List ℕ → Line
over premises = node t-lit premises None (OfType plain)

-- Lines come from the first line to binds, from those to the term, and from there to nodes, each of which takes the
-- last unused ones that are its premises.
pub record StagesOfLines : Type 0 where
  pub opened : behind_line Start Opens ≡ Binding [] []
  pub bound :
      behind_line (Binding [] []) (Binds (codes "a") plain) ≡ Binding (codes "a" ∷ []) (TermEntry number empty ∷ [])
  -- names are in order, and a context has the newest first
  pub bound_twice :
      behind_line (Binding (codes "a" ∷ []) (TermEntry number empty ∷ []))
      (Binds (codes "b") (capturing AnyShape empty))
      ≡ Binding (codes "a" ∷ codes "b" ∷ []) (TermEntry AnyShape empty ∷ TermEntry number empty ∷ [])
  pub stated :
      behind_line (Binding (codes "a" ∷ []) (TermEntry number empty ∷ [])) (States one) ≡ Proving (codes "a" ∷ []) 0 []
  pub concluded : behind_line (Proving [] 0 []) leaf ≡ Proving [] 1 (1 ∷ [])
  pub concluded_beside : behind_line (Proving [] 1 (1 ∷ [])) leaf ≡ Proving [] 2 (1 ∷ 2 ∷ [])
  pub concluded_over_one : behind_line (Proving [] 2 (1 ∷ 2 ∷ [])) (over (2 ∷ [])) ≡ Proving [] 3 (1 ∷ 3 ∷ [])
  pub concluded_over_two : behind_line (Proving [] 2 (1 ∷ 2 ∷ [])) (over (1 ∷ 2 ∷ [])) ≡ Proving [] 3 (3 ∷ [])
  pub names_of_binds : names_at (Binding (codes "a" ∷ []) []) ≡ codes "a" ∷ []
  pub names_of_nodes : names_at (Proving (codes "a" ∷ []) 0 []) ≡ codes "a" ∷ []
  pub first_number : next_number (Proving [] 0 []) ≡ 1
  pub third_number : next_number (Proving [] 2 (2 ∷ [])) ≡ 3
  pub number_of_binders : binder_number (Some 7) ≡ 7
  pub nothing_is_whole : IsWhole Start → ⊥
  pub binds_are_not_whole : IsWhole (Binding [] []) → ⊥
  pub term_is_not_whole : IsWhole (Proving [] 0 []) → ⊥
  pub one_unused_is_whole : IsWhole (Proving [] 7 (7 ∷ []))
  pub two_unused_are_not_whole : IsWhole (Proving [] 7 (3 ∷ 7 ∷ [])) → ⊥

-- The text of a line depends on the names that stand before it, and on the number of the next node.
pub record TextsOfLines : Type 0 where
  pub opening : line_text Start Opens ≡ codes "cert 1"
  pub bind :
      line_text (Binding (codes "x" ∷ []) []) (Binds (codes "y") (capturing number (single (Variable (Free 0)))))
      ≡ codes "bind y: Int^{x}"
  pub statement : line_text (Binding (codes "x" ∷ []) []) (States (BoxTerm (Free 0))) ≡ codes "term box x"
  pub premises :
      line_text (Proving (codes "x" ∷ []) 2 (1 ∷ 2 ∷ []))
      (node t-lit (1 ∷ 2 ∷ []) None (OfType (capturing number (single (Variable (Free 0))))))
      ≡ codes "3 t-lit [1 2] : Int^{x}"
  -- binders are written with the number of the node, and local variables with their own
  pub binders :
      line_text (Proving [] 0 [])
      (node t-lit [] (Some 7) (OfType (capturing
      (FunctionShape number (single (Variable (Bound 2))) number (single (Variable (Bound 7)))) empty)))
      ≡ codes "1 t-lit [] : (_7: Int^{_2}) -> Int^{_7}"
  pub types_below :
      line_text (Proving [] 0 []) (node ByCapturing [] None (TypeBelow (capturing number (single Cap)) plain))
      ≡ codes "1 capt [] Int^{cap} <: Int"
  pub shapes_below :
      line_text (Proving [] 0 []) (node ByTop [] None (ShapeBelow number AnyShape)) ≡ codes "1 top [] Int <: Any"
  pub sets_below :
      line_text (Proving [] 0 []) (node BySet [] None (SetBelow empty (single Cap))) ≡ codes "1 set [] {} <: {cap}"

-- WHAT FITS

-- Each stage has its lines.
pub record LinesAtStages : Type 0 where
  pub opening : Fits Start Opens
  pub bind_at_the_start : Fits Start (Binds (codes "a") plain) → ⊥
  pub term_at_the_start : Fits Start (States one) → ⊥
  pub node_at_the_start : Fits Start leaf → ⊥
  pub opening_among_binds : Fits (Binding [] []) Opens → ⊥
  pub node_among_binds : Fits (Binding [] []) leaf → ⊥
  pub opening_among_nodes : Fits (Proving [] 0 []) Opens → ⊥
  pub bind_among_nodes : Fits (Proving [] 0 []) (Binds (codes "a") plain) → ⊥
  pub term_among_nodes : Fits (Proving [] 0 []) (States one) → ⊥

-- A bind has a name that none before it has, and a type that is well formed, without holes, and at most 5,000 high.
pub record BindsThatFit : Type 0 where
  pub first : Fits (Binding [] []) (Binds (codes "a") plain)
  pub second : Fits (Binding (codes "a" ∷ []) (TermEntry number empty ∷ [])) (Binds (codes "b") plain)
  pub of_no_name : Fits (Binding [] []) (Binds (codes "1a") plain) → ⊥
  pub of_one_name : Fits (Binding (codes "a" ∷ []) (TermEntry number empty ∷ [])) (Binds (codes "a") plain) → ⊥
  pub of_no_variable : Fits (Binding [] []) (Binds (codes "a") (capturing number (single (Variable (Free 0))))) → ⊥
  pub of_an_omitted_set : Fits (Binding [] []) (Binds (codes "a") (capturing number omitted)) → ⊥
  pub of_one_inside : Fits (Binding [] []) (Binds (codes "a") (capturing box_of_omitted empty)) → ⊥
  pub high : Fits (Binding [] []) (Binds (codes "a") (capturing (boxed 4999) empty))
  pub higher : Fits (Binding [] []) (Binds (codes "a") (capturing (boxed 5000) empty)) → ⊥

-- A term is well formed and written, and at most 5,000 high.
pub record TermsThatFit : Type 0 where
  pub literal : Fits (Binding [] []) (States one)
  pub no_variable : Fits (Binding [] []) (States (VariableTerm (Free 0))) → ⊥
  pub negative : Fits (Binding [] []) (States minus_one) → ⊥
  pub high : Fits (Binding [] []) (States (FunctionTerm (boxed 4998) empty one))
  pub higher : Fits (Binding [] []) (States (FunctionTerm (boxed 4999) empty one)) → ⊥

-- A node is one of 100,000, has a claim of its rule's kind, a number of binders where it has some, sides that are at
-- most 5,000 high, and as premises the last unused nodes in their order.
pub record NodesThatFit : Type 0 where
  pub first : Fits (Proving [] 0 []) leaf
  pub last : Fits (Proving [] 99999 (99999 ∷ [])) leaf
  pub one_more : Fits (Proving [] 100000 (100000 ∷ [])) leaf → ⊥
  pub of_another_kind : Fits (Proving [] 0 []) (node t-lit [] None (SetBelow empty empty)) → ⊥
  pub of_no_name :
      Fits (Proving [] 0 []) (node t-lit [] None (OfType (capturing number (single (Variable (Free 0)))))) → ⊥
  pub with_binders :
      Fits (Proving [] 0 []) (node t-lit [] (Some 7) (OfType
      (capturing (FunctionShape number empty number empty) empty)))
  pub without_their_number :
      Fits (Proving [] 0 []) (node t-lit [] None (OfType (capturing (FunctionShape number empty number empty) empty)))
      → ⊥
  pub with_a_number_for_none : Fits (Proving [] 0 []) (node t-lit [] (Some 7) (OfType plain)) → ⊥
  pub with_a_great_number :
      Fits (Proving [] 0 []) (node t-lit [] (Some 4294967296)
      (OfType (capturing (FunctionShape number empty number empty) empty)))
      → ⊥
  pub high : Fits (Proving [] 0 []) (node t-lit [] None (OfType (capturing (boxed 4999) empty)))
  pub higher : Fits (Proving [] 0 []) (node t-lit [] None (OfType (capturing (boxed 5000) empty))) → ⊥
  pub higher_on_a_left_side : Fits (Proving [] 0 []) (node ByTop [] None (ShapeBelow (boxed 5000) AnyShape)) → ⊥
  pub higher_on_a_right_side : Fits (Proving [] 0 []) (node ByTop [] None (ShapeBelow AnyShape (boxed 5000))) → ⊥
  pub over_the_last : Fits (Proving [] 2 (1 ∷ 2 ∷ [])) (over (2 ∷ []))
  pub over_both : Fits (Proving [] 2 (1 ∷ 2 ∷ [])) (over (1 ∷ 2 ∷ []))
  pub over_the_first : Fits (Proving [] 2 (1 ∷ 2 ∷ [])) (over (1 ∷ [])) → ⊥
  pub over_both_in_the_other_order : Fits (Proving [] 2 (1 ∷ 2 ∷ [])) (over (2 ∷ 1 ∷ [])) → ⊥
  pub over_one_that_is_used : Fits (Proving [] 2 (2 ∷ [])) (over (1 ∷ [])) → ⊥
  pub over_itself : Fits (Proving [] 0 []) (over (1 ∷ [])) → ⊥

-- the type of a bind behind no other, and a term behind a bind `b`
abbrev pub BindFits : Shape → Type 0
BindFits shape = Fits (Binding [] []) (Binds (codes "a") (capturing shape empty))

abbrev pub TermFits : Term → Type 0
TermFits term = Fits (Binding (codes "b" ∷ []) (TermEntry number empty ∷ [])) (States term)

-- a function that is one higher than what it takes
abbrev pub taking : ℕ → Term
taking count = FunctionTerm (boxed count) empty one

-- So it is with each form: one part that is as high as the form may be makes it too high.
pub record FormsBeyondTheLimit : Type 0 where
  pub high_exit_shape : BindFits (ExitShape (boxed 4998))
  pub exit_shape : BindFits (ExitShape (boxed 4999)) → ⊥
  pub high_parameter_of_a_shape : BindFits (FunctionShape (boxed 4998) empty number empty)
  pub parameter_of_a_shape : BindFits (FunctionShape (boxed 4999) empty number empty) → ⊥
  pub result_of_a_shape : BindFits (FunctionShape number empty (boxed 4999) empty) → ⊥
  pub high_bound_of_a_shape : BindFits (TypeFunctionShape (boxed 4998) number empty)
  pub bound_of_a_shape : BindFits (TypeFunctionShape (boxed 4999) number empty) → ⊥
  pub result_of_a_type_function_shape : BindFits (TypeFunctionShape number (boxed 4999) empty) → ⊥
  pub body : TermFits (FunctionTerm number empty (taking 4998)) → ⊥
  pub bound : TermFits (TypeFunctionTerm (boxed 4999) one) → ⊥
  pub body_of_a_type_function : TermFits (TypeFunctionTerm number (taking 4998)) → ⊥
  pub type_argument : TermFits (TypeApplication (Free 0) (boxed 4999)) → ⊥
  pub note_of_a_let : TermFits (Let (Written (boxed 4999) empty) one one) → ⊥
  pub right_side_of_a_let : TermFits (Let Absent (taking 4998) one) → ⊥
  pub body_of_a_let : TermFits (Let Absent one (taking 4998)) → ⊥
  pub type_of_a_choice : TermFits (Conditional (Written (boxed 4999) empty) (Free 0) one one) → ⊥
  pub first_branch : TermFits (Conditional (Written number empty) (Free 0) (taking 4998) one) → ⊥
  pub second_branch : TermFits (Conditional (Written number empty) (Free 0) one (taking 4998)) → ⊥
  pub shape_of_a_boundary : TermFits (Boundary (boxed 4999) one) → ⊥
  pub body_of_a_boundary : TermFits (Boundary number (taking 4998)) → ⊥
  pub type_of_an_exit : TermFits (Leave (boxed 4999) empty (Free 0) (Free 0)) → ⊥
