-- In a sound configuration what a step hands on is a position.
use Rattle.std.proofs.Common.{ℕ, Bool, true, false, cond, List, [], ◌∷◌, length, Option, Some, None, option_map, sym, subst}
use Rattle.std.specs.Prelude.{nat_eq}
use Rattle.std.proofs.Math.Logic.{∥∥₁_elim}
use Rattle.cc_capture.specs.declared.var.Var.{Var}
use Rattle.cc_capture.specs.declared.var.Var.TheVariants.{Bound, Free}
use Rattle.cc_core.specs.Terms.{Term, VariableTerm, LiteralTerm, FunctionTerm, TypeFunctionTerm, BoxTerm, Application, TypeApplication, Unboxing, Let, Primitive, Conditional, Repetition, Operation, Boundary, Leave}
use Rattle.cc_core.specs.Contexts.{Context, lookup}
use Rattle.cc_core.specs.Shapes.{CapturingType}
use Rattle.cc_core.specs.Stores as stores
use Rattle.cc_core.specs.Stores.{Cell, ValueCell, DeviceCell, LabelCell, Store, HasStoreTyping}
use Rattle.cc_core.specs.Typing.{HasType}
use Rattle.cc_core.specs.WellFormed.{Kind, TermKind, kinds_of}
use Rattle.cc_core.proofs.KindFacts.{IsOfKind, IsKindedTerm, IsKindedTerm-from}
use Rattle.cc_core.proofs.Lookups.{lookup-map}
use Rattle.cc_machine.specs.Standing.{StandsSoundly}
use Rattle.cc_runs.specs.Alike.{erased, erased_cell}
use Rattle.cc_runs.specs.Machine.{Configuration}
use Rattle.cc_machine.specs.Operands.{IsFree, HasFreeOperands, HoldsFreeContent}

-- a variable under no binder is a position
free_variable : (kinds : List Kind) (v : Var) → IsOfKind kinds [] v TermKind → IsFree v
free_variable kinds (Free p) is = tt
free_variable kinds (Bound i) is = cc

free_operands : (kinds : List Kind) (t : Term) → IsKindedTerm kinds [] t → HasFreeOperands (erased t)
free_operands kinds (VariableTerm v) k = free_variable kinds v k
free_operands kinds (LiteralTerm l) k = tt
free_operands kinds (FunctionTerm s c t) k = tt
free_operands kinds (TypeFunctionTerm s t) k = tt
free_operands kinds (BoxTerm v) k = free_variable kinds v k
free_operands kinds (Application v w) k = free_variable kinds w k.1
free_operands kinds (TypeApplication v s) k = tt
free_operands kinds (Unboxing o v) k = tt
free_operands kinds (Let n s t) k = free_operands kinds s k.1
free_operands kinds (Primitive p v w) k = tt
free_operands kinds (Conditional n v s t) k = tt
free_operands kinds (Repetition v w) k = free_variable kinds w k.1
free_operands kinds (Operation p v o) k = tt
free_operands kinds (Boundary s t) k = tt
free_operands kinds (Leave s c v w) k = free_variable kinds w k.3

typed_free : (g : Context) (t : Term) (type : CapturingType) → HasType g t type → HasFreeOperands (erased t)
typed_free g t type typed = free_operands (kinds_of g) t (IsKindedTerm-from (kinds_of g) [] t typed.term_formed)

-- that a value's content is one
content_free : (t : Term) → HasFreeOperands (erased t) → HoldsFreeContent (Some (ValueCell (erased t)))
content_free (VariableTerm v) h = tt
content_free (LiteralTerm l) h = tt
content_free (FunctionTerm s c t) h = tt
content_free (TypeFunctionTerm s t) h = tt
content_free (BoxTerm v) h = h
content_free (Application v w) h = tt
content_free (TypeApplication v s) h = tt
content_free (Unboxing o v) h = tt
content_free (Let n s t) h = tt
content_free (Primitive p v w) h = tt
content_free (Conditional n v s t) h = tt
content_free (Repetition v w) h = tt
content_free (Operation p v o) h = tt
content_free (Boundary s t) h = tt
content_free (Leave s c v w) h = tt

either_cell : (b : Bool) (x y : Option Cell) → HoldsFreeContent (option_map erased_cell x) → HoldsFreeContent (option_map erased_cell y) → HoldsFreeContent (option_map erased_cell (cond b x y))
either_cell true x y hx hy = hx
either_cell false x y hx hy = hy

stored_free : {st : Store} {g : Context} → HasStoreTyping st g → (p : ℕ) → HoldsFreeContent (option_map erased_cell (lookup st p))
stored_free stores.none_stored p = tt
stored_free (stores.value_stored {store = st} {context = g} {term = t} {type = type} older isv typed) p =
    either_cell (nat_eq p (length st)) (Some (ValueCell t)) (lookup st p) (content_free t (typed_free g t type typed)) (stored_free older p)
stored_free (stores.recursive_stored {store = st} {context = g} {term = t} {type = type} older isf formed typed) p =
    either_cell (nat_eq p (length st)) (Some (ValueCell t)) (lookup st p) (content_free t (typed_free (_ ∷ g) t type typed)) (stored_free older p)
stored_free (stores.device_stored {store = st} {number = n} {base = b} older is) p =
    either_cell (nat_eq p (length st)) (Some (DeviceCell n b)) (lookup st p) tt (stored_free older p)
stored_free (stores.label_stored {store = st} {number = n} older is) p =
    either_cell (nat_eq p (length st)) (Some (LabelCell n)) (lookup st p) tt (stored_free older p)

free_prop : (v : Var) → IsProp (IsFree v)
free_prop (Free p) = hlevel
free_prop (Bound i) = hlevel

operands_prop : (t : Term) → IsProp (HasFreeOperands t)
operands_prop (VariableTerm v) = free_prop v
operands_prop (LiteralTerm l) = hlevel
operands_prop (FunctionTerm s c t) = hlevel
operands_prop (TypeFunctionTerm s t) = hlevel
operands_prop (BoxTerm v) = free_prop v
operands_prop (Application v w) = free_prop w
operands_prop (TypeApplication v s) = hlevel
operands_prop (Unboxing o v) = hlevel
operands_prop (Let n s t) = operands_prop s
operands_prop (Primitive p v w) = hlevel
operands_prop (Conditional n v s t) = hlevel
operands_prop (Repetition v w) = free_prop w
operands_prop (Operation p v o) = hlevel
operands_prop (Boundary s t) = hlevel
operands_prop (Leave s c v w) = free_prop w

content_prop : (o : Option Cell) → IsProp (HoldsFreeContent o)
content_prop None = hlevel
content_prop (Some (DeviceCell n b)) = hlevel
content_prop (Some (LabelCell n)) = hlevel
content_prop (Some (ValueCell (VariableTerm v))) = hlevel
content_prop (Some (ValueCell (LiteralTerm l))) = hlevel
content_prop (Some (ValueCell (FunctionTerm s c t))) = hlevel
content_prop (Some (ValueCell (TypeFunctionTerm s t))) = hlevel
content_prop (Some (ValueCell (BoxTerm v))) = free_prop v
content_prop (Some (ValueCell (Application v w))) = hlevel
content_prop (Some (ValueCell (TypeApplication v s))) = hlevel
content_prop (Some (ValueCell (Unboxing o v))) = hlevel
content_prop (Some (ValueCell (Let n s t))) = hlevel
content_prop (Some (ValueCell (Primitive p v w))) = hlevel
content_prop (Some (ValueCell (Conditional n v s t))) = hlevel
content_prop (Some (ValueCell (Repetition v w))) = hlevel
content_prop (Some (ValueCell (Operation p v o))) = hlevel
content_prop (Some (ValueCell (Boundary s t))) = hlevel
content_prop (Some (ValueCell (Leave s c v w))) = hlevel

-- so a machine that stands for a sound one finds positions
pub operands_free : (held : Configuration) → ∥ StandsSoundly held ∥₁ → HasFreeOperands held.term
operands_free held sound =
    ∥∥₁_elim sound (operands_prop held.term)
    (λ s. subst (λ h. HasFreeOperands h.term) s.2 (typed_free s.1.context s.0.term _ s.1.term_typing))

pub contents_free : (held : Configuration) → ∥ StandsSoundly held ∥₁ → (p : ℕ) → HoldsFreeContent (lookup held.store p)
contents_free held sound p =
    ∥∥₁_elim sound (content_prop (lookup held.store p))
    (λ s. subst (λ h. HoldsFreeContent (lookup h.store p)) s.2
    (subst HoldsFreeContent (sym (lookup-map erased_cell s.0.store p)) (stored_free s.1.store_typing p)))
