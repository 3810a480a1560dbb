-- An answer of a sound configuration is shown.
use Rattle.std.proofs.Common.{◌≡◌, true, Option, Some, refl}
use Rattle.cc_capture.specs.Sets.{Set}
use Rattle.cc_core.specs.Shapes.{Shape}
use Rattle.cc_core.specs.Terms.{Term, VariableTerm, LiteralTerm, FunctionTerm, TypeFunctionTerm, BoxTerm, Application, TypeApplication, Unboxing, Let, Primitive, Conditional, Repetition, Operation, Boundary, Leave}
use Rattle.cc_core.specs.Contexts.{Context}
use Rattle.cc_core.specs.Captured.{is_value}
use Rattle.cc_core.specs.Stores.{Cell, Store}
use Rattle.cc_device.specs.Endings.{Shown}
use Rattle.cc_runs.specs.Answers.{is_answer, shown_value, shown_cell, shown_answer, shown}
use Rattle.cc_runs.specs.Machine.{Configuration}
use Rattle.cc_runs.specs.Soundness.{IsSound}
use Rattle.cc_typing_laws.proofs.InternalTyping.{Typed}
use Rattle.cc_typing_laws.proofs.InternalConversions.{typed_from}
use Rattle.cc_typing_laws.proofs.TypingLemmas.{variable_typed}
use Rattle.cc_runs.proofs.StoreTyping.{StoreTyped, store_typed_from, CellTyped, a_value, a_device, a_label, cell_of}

abbrev IsShown : Option Shown → Type 0
IsShown o = (shows : Shown) × (o ≡ Some shows)

value_shown : (v : Term) → is_value v ≡ true → IsShown (shown_value v)
value_shown (VariableTerm v) is = cc
value_shown (LiteralTerm l) is = (_, refl)
value_shown (FunctionTerm s c t) is = (_, refl)
value_shown (TypeFunctionTerm s t) is = (_, refl)
value_shown (BoxTerm v) is = (_, refl)
value_shown (Application f a) is = cc
value_shown (TypeApplication f r) is = cc
value_shown (Unboxing o v) is = cc
value_shown (Let n r body) is = cc
value_shown (Primitive p v w) is = cc
value_shown (Conditional n v t u) is = cc
value_shown (Repetition v f) is = cc
value_shown (Operation op v o) is = cc
value_shown (Boundary s body) is = cc
value_shown (Leave s c x v) is = cc

cell_shown : {g : Context} {o : Option Cell} {s : Shape} {c : Set} → CellTyped g o s c → IsShown (shown_cell o)
cell_shown (a_value {v = v} isv typed) = value_shown v isv
cell_shown (a_device b) = (_, refl)
cell_shown a_label = (_, refl)

answer_shown : (st : Store) (g : Context) → StoreTyped st g → (t : Term) {s : Shape} {c : Set} → Typed g t s c → is_answer t ≡ true → IsShown (shown_answer st t)
answer_shown st g stored (VariableTerm v) typed is = cell_shown (cell_of stored (variable_typed typed))
answer_shown st g stored (LiteralTerm l) typed is = (_, refl)
answer_shown st g stored (FunctionTerm s c t) typed is = (_, refl)
answer_shown st g stored (TypeFunctionTerm s t) typed is = (_, refl)
answer_shown st g stored (BoxTerm v) typed is = (_, refl)
answer_shown st g stored (Application f a) typed is = cc
answer_shown st g stored (TypeApplication f r) typed is = cc
answer_shown st g stored (Unboxing o v) typed is = cc
answer_shown st g stored (Let n r body) typed is = cc
answer_shown st g stored (Primitive p v w) typed is = cc
answer_shown st g stored (Conditional n v t u) typed is = cc
answer_shown st g stored (Repetition v f) typed is = cc
answer_shown st g stored (Operation op v o) typed is = cc
answer_shown st g stored (Boundary s body) typed is = cc
answer_shown st g stored (Leave s c x v) typed is = cc

pub shown_from : (c : Configuration) → IsSound c → is_answer c.term ≡ true → (shows : Shown) × (shown c ≡ Some shows)
shown_from c sound is = answer_shown c.store sound.context (store_typed_from sound.store_typing) c.term (typed_from sound.term_typing) is
