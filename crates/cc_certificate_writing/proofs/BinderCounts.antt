-- The contexts at the places of premises have as many entries more as binders are counted.
use Rattle.std.proofs.Common.{◌≡◌, ℕ, suc, Bool, true, false, List, [], ◌∷◌, length, map, Option, Some, None, ap, subst, if◌then◌else◌}
use Rattle.cc_capture.specs.declared.var.Elem.{Elem}
use Rattle.cc_capture.specs.declared.var.Elem.TheVariants.{Var as Variable}
use Rattle.cc_capture.specs.Sets.{Set}
use Rattle.cc_core.specs.Equality.{same_shape}
use Rattle.cc_core.specs.Contexts.{Context}
use Rattle.cc_core.specs.Derivations.{Rule, ByElement, ByVariable, BySet, ByReflexivity, ByTransitivity, ByTypeVariable, ByTop, ByFunction, ByTypeFunction, ByBox, ByCapturing, t-var, t-lit, t-abs, t-tabs, t-app, t-tapp, t-box, t-unbox, t-let, t-prim, t-if, t-repeat, t-op, t-boundary, t-exit, t-sub, Claim, SetBelow, ShapeBelow, TypeBelow, OfType}
use Rattle.cc_core.specs.Shapes.{Shape, FunctionShape, TypeFunctionShape, BoxShape, CapturingType}
use Rattle.cc_core.specs.Terms.{Written, Term, VariableTerm, LiteralTerm, FunctionTerm, TypeFunctionTerm, BoxTerm, Application, TypeApplication, Unboxing, Let, Primitive, Conditional, Repetition, Operation, Boundary, Leave}
use Rattle.cc_derivation.specs.Rows.{Place, TypeOf, SetsBelow, ShapesBelow, TypesBelow, Row, row_at, body_place, variable_row, set_row, functions_row, type_functions_row, boxes_row, shape_row, type_row, typing_row}
use Rattle.cc_certificate_writing.specs.Certificates.{binds_first, binds_others, with_binder}
use Rattle.cc_certificate_writing.specs.CertificateTextLaws.{HasEntries, HaveEntries, BindersAreEntries}

-- the places of the row, if there is one, have so many entries
abbrev RowFits : ℕ → ℕ → Option Row → Type 0
RowFits first others (Some row) = (claims : List Claim) → HaveEntries first others (row.places claims)
RowFits first others None = Unit {0}

body_fits : (count : ℕ) (g : Context) (body : Term) (claims : List Claim) → length g ≡ count
    → HasEntries (suc count) (body_place g body claims)
body_fits count g body (OfType bound ∷ claims) same = ap suc same
body_fits count g body _ same = tt

typing_fits : (count : ℕ) (g : Context) (rule : Rule) (term : Term) (type : CapturingType) → length g ≡ count
    → RowFits (with_binder (binds_first rule) count) (with_binder (binds_others rule) count) (typing_row g rule term type)
typing_fits count g t-var (VariableTerm v) type same = λ claims. tt
typing_fits count g t-lit (LiteralTerm literal) type same = λ claims. tt
typing_fits count g t-abs (FunctionTerm takes c body) type same = λ claims. (ap suc same, tt)
typing_fits count g t-tabs (TypeFunctionTerm bound body) type same = λ claims. (ap suc same, tt)
typing_fits count g t-app (Application function argument) type same = λ claims. (same, (same, tt))
typing_fits count g t-tapp (TypeApplication function argument) type same = λ claims. (same, (same, tt))
typing_fits count g t-box (BoxTerm content) type same = λ claims. (same, tt)
typing_fits count g t-unbox (Unboxing (Some c) box) type same = λ claims. (same, tt)
typing_fits count g t-let (Let note right body) type same = λ claims. (same, (body_fits count g body claims same, tt))
typing_fits count g t-prim (Primitive operator left right) type same = λ claims. (same, (same, tt))
typing_fits count g t-if (Conditional (Written shape c) test positive negative) type same =
    λ claims. (same, (same, (same, tt)))
typing_fits count g t-repeat (Repetition times function) type same = λ claims. (same, (same, tt))
typing_fits count g t-op (Operation operation receiver (Some argument)) type same = λ claims. (same, (same, tt))
typing_fits count g t-op (Operation operation receiver None) type same = λ claims. (same, tt)
typing_fits count g t-boundary (Boundary gives body) type same = λ claims. (ap suc same, tt)
typing_fits count g t-exit (Leave gives c exit value) type same = λ claims. (same, (same, tt))
typing_fits count g t-sub term type same = λ claims. (same, (same, tt))
typing_fits count g _ term type same = tt

elements_fit : (count : ℕ) (g : Context) (es : List Elem) → length g ≡ count
    → HaveEntries count count (map (λ e. SetsBelow g) es)
elements_fit count g [] same = tt
elements_fit count g (e ∷ es) same = (same, elements_fit count g es same)

variable_fits : (count : ℕ) (g : Context) (es : List Elem) (right : Set) → length g ≡ count
    → RowFits count count (variable_row g es right)
variable_fits count g (Variable v ∷ []) right same = λ claims. (same, tt)
variable_fits count g _ right same = tt

set_fits : (count : ℕ) (g : Context) (rule : Rule) (left right : Set) → length g ≡ count
    → RowFits (with_binder (binds_first rule) count) (with_binder (binds_others rule) count) (set_row g rule left right)
set_fits count g ByElement left right same = λ claims. tt
set_fits count g ByVariable left right same = variable_fits count g left.list right same
set_fits count g BySet left right same = λ claims. elements_fit count g left.list same
set_fits count g _ left right same = tt

functions_fit : (count : ℕ) (g : Context) (left right : Shape) → length g ≡ count
    → RowFits count (suc count) (functions_row g left right)
functions_fit count g (FunctionShape takes c gives e) (FunctionShape takes' c' gives' e') same =
    λ claims. (same, (ap suc same, tt))
functions_fit count g _ _ same = tt

chosen_fits : (first others : ℕ) (test : Bool) (row : Row) → RowFits first others (Some row)
    → RowFits first others (if test then Some row else None)
chosen_fits first others true row fits = fits
chosen_fits first others false row fits = tt

type_functions_fit : (count : ℕ) (g : Context) (left right : Shape) → length g ≡ count
    → RowFits count (suc count) (type_functions_row g left right)
type_functions_fit count g (TypeFunctionShape bound gives e) (TypeFunctionShape bound' gives' e') same =
    chosen_fits count (suc count) (same_shape bound bound') _ (λ claims. (same, (ap suc same, tt)))
type_functions_fit count g _ _ same = tt

boxes_fit : (count : ℕ) (g : Context) (left right : Shape) → length g ≡ count
    → RowFits count count (boxes_row g left right)
boxes_fit count g (BoxShape content c) (BoxShape content' c') same = λ claims. (same, tt)
boxes_fit count g _ _ same = tt

shape_fits : (count : ℕ) (g : Context) (rule : Rule) (left right : Shape) → length g ≡ count
    → RowFits (with_binder (binds_first rule) count) (with_binder (binds_others rule) count) (shape_row g rule left right)
shape_fits count g ByReflexivity left right same = λ claims. tt
shape_fits count g ByTransitivity left right same = λ claims. (same, (same, tt))
shape_fits count g ByTypeVariable left right same = λ claims. tt
shape_fits count g ByTop left right same = λ claims. tt
shape_fits count g ByFunction left right same = functions_fit count g left right same
shape_fits count g ByTypeFunction left right same = type_functions_fit count g left right same
shape_fits count g ByBox left right same = boxes_fit count g left right same
shape_fits count g _ left right same = tt

type_fits : (count : ℕ) (g : Context) (rule : Rule) (left right : CapturingType) → length g ≡ count
    → RowFits (with_binder (binds_first rule) count) (with_binder (binds_others rule) count) (type_row g rule left right)
type_fits count g ByCapturing left right same = λ claims. (same, (same, tt))
type_fits count g _ left right same = tt

row_fits : (count : ℕ) (place : Place) (rule : Rule) (claim : Claim) → HasEntries count place
    → RowFits (with_binder (binds_first rule) count) (with_binder (binds_others rule) count) (row_at place rule claim)
row_fits count (TypeOf g term) rule (OfType type) same = typing_fits count g rule term type same
row_fits count (SetsBelow g) rule (SetBelow left right) same = set_fits count g rule left right same
row_fits count (ShapesBelow g) rule (ShapeBelow left right) same = shape_fits count g rule left right same
row_fits count (TypesBelow g) rule (TypeBelow left right) same = type_fits count g rule left right same
row_fits count _ rule _ same = tt

pub binders_are_entries : BindersAreEntries
binders_are_entries count place rule claim row claims same is =
    subst (RowFits (with_binder (binds_first rule) count) (with_binder (binds_others rule) count)) is
    (row_fits count place rule claim same) claims
