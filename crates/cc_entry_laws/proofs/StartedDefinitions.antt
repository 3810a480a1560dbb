-- What is known of the definition that is run.
use Rattle.std.proofs.Common.{◌≡◌, ℕ, Bool, true, false, List, Option, Some, None, Result, Ok, Err}
use Rattle.std.proofs.Common.{refl, sym, ap, ◌∙◌, inl, inr}
use Rattle.std.proofs.lemmas.Bool.{cases_Bool}
use Rattle.std.specs.Option.{is_some}
use Rattle.cc_base.specs.declared.code.Code.{Code}
use Rattle.cc_base.specs.declared.code.Code.TheVariants.{E35}
use Rattle.cc_base.specs.declared.literal.Base.{Base}
use Rattle.cc_base.specs.declared.literal.Base.TheVariants as bases
use Rattle.cc_capture.specs.Sets.{Set}
use Rattle.cc_core.specs.Shapes.{Shape, BaseShape, AnyShape, TypeVariable, FunctionShape, TypeFunctionShape, BoxShape}
use Rattle.cc_core.specs.Shapes.{ExitShape}
use Rattle.cc_entry_laws.specs.PresentEntries.{is_unit_base, is_unit, takes_unit, started_or, started_by, started_in}
use Rattle.cc_verdicts.specs.ModuleVerdicts.{CheckedDefinition, ModuleVerdict, IsAccepted, IsRefused}
use Rattle.cc_verdicts.specs.PresentTexts.{Texts, text_of, definition_named}
use Rattle.cc_entry_laws.specs.LinkOrders.{is_accepted_module}

-- the shape is that of functions that take a unit
pub record TakesUnit (shape : Shape) : Type 0 where
  pub takes_set : Set
  pub gives : Shape
  pub gives_set : Set
  pub is : shape ≡ FunctionShape (BaseShape bases.Unit) takes_set gives gives_set

unit_base : (base : Base) → is_unit_base base ≡ true → base ≡ bases.Unit
unit_base bases.Unit is = refl
unit_base bases.Bool is = cc
unit_base bases.Int is = cc
unit_base bases.Str is = cc
unit_base bases.Console is = cc
unit_base bases.File is = cc
unit_base bases.Counter is = cc

unit_shape : (shape : Shape) → is_unit shape ≡ true → shape ≡ BaseShape bases.Unit
unit_shape (BaseShape base) is = ap BaseShape (unit_base base is)
unit_shape AnyShape is = cc
unit_shape (TypeVariable variable) is = cc
unit_shape (FunctionShape takes c gives e) is = cc
unit_shape (TypeFunctionShape bound gives e) is = cc
unit_shape (BoxShape content c) is = cc
unit_shape (ExitShape gives) is = cc

pub unit_taken : (shape : Shape) → takes_unit shape ≡ true → TakesUnit shape
unit_taken (FunctionShape takes c gives e) is =
    record {
      takes_set = c;
      gives = gives;
      gives_set = e;
      is = ap (λ s. FunctionShape s c gives e) (unit_shape takes is);
    }
unit_taken (BaseShape base) is = cc
unit_taken AnyShape is = cc
unit_taken (TypeVariable variable) is = cc
unit_taken (TypeFunctionShape bound gives e) is = cc
unit_taken (BoxShape content c) is = cc
unit_taken (ExitShape gives) is = cc

-- the definition that is run: one of an accepted module, which takes a unit
pub record Starts (texts : Texts) (verdict : ModuleVerdict) (module_name name : List ℕ) (started : CheckedDefinition) :
    Type 0 where
  pub there : is_some (text_of texts module_name) ≡ true
  pub definitions : List CheckedDefinition
  pub accepted : verdict ≡ IsAccepted definitions
  pub named : definition_named name definitions ≡ Some started
  pub unit : takes_unit started.accepted.signature.shape ≡ true

same_ok : (one other : CheckedDefinition) → ◌≡◌ {A = Result CheckedDefinition Code} (Ok one) (Ok other) → one ≡ other
same_ok one other is = cc

not_ok : (one : CheckedDefinition) → ◌≡◌ {A = Result CheckedDefinition Code} (Err E35) (Ok one) → ⊥
not_ok one is = cc

taken_or : (one started : CheckedDefinition) (taken : Bool) → takes_unit one.accepted.signature.shape ≡ taken
    → started_or (Some one) ≡ Ok started
    → (one ≡ started) × (takes_unit started.accepted.signature.shape ≡ true)
taken_or one started true is starts =
    let same = same_ok one started (rw is at starts) in
    (same, ap (λ (d : CheckedDefinition). takes_unit d.accepted.signature.shape) (sym same) ∙ is)
taken_or one started false is starts = absurd (not_ok started (rw is at starts))

by_option : (one : Option CheckedDefinition) (started : CheckedDefinition) → started_or one ≡ Ok started
    → (one ≡ Some started) × (takes_unit started.accepted.signature.shape ≡ true)
by_option (Some one) started starts =
    let parts = taken_or one started (takes_unit one.accepted.signature.shape) refl starts in
    (ap Some parts.0, parts.1)
by_option None started starts = cc

by_verdict : (texts : Texts) (verdict : ModuleVerdict) (module_name name : List ℕ) (started : CheckedDefinition)
    → is_some (text_of texts module_name) ≡ true → started_by verdict name ≡ Ok started
    → Starts texts verdict module_name name started
by_verdict texts (IsAccepted definitions) module_name name started there starts =
    let parts = by_option (definition_named name definitions) started starts in
    record { there = there; definitions = definitions; accepted = refl; named = parts.0; unit = parts.1 }
by_verdict texts (IsRefused code at) module_name name started there starts = cc

pub starts : (texts : Texts) (all : List ℕ → ModuleVerdict) (module_name name : List ℕ) (started : CheckedDefinition)
    → started_in texts all module_name name ≡ Ok started → Starts texts (all module_name) module_name name started
starts texts all module_name name started is =
    elim (cases_Bool (is_some (text_of texts module_name))) [
      | inl there ↦ by_verdict texts (all module_name) module_name name started there (rw there at is)
      | inr absent ↦ absurd (let no = rw absent at is in cc)
    ]

-- its module is accepted
pub starting_module : (texts : Texts) (all : List ℕ → ModuleVerdict) (module_name name : List ℕ)
    (started : CheckedDefinition) → started_in texts all module_name name ≡ Ok started
    → is_accepted_module texts all module_name ≡ true
starting_module texts all module_name name started is =
    let it = starts texts all module_name name started is in
    let P : Bool → Type 0 = λ b. is_accepted_module texts all module_name ≡ b in
    rw (it.there, it.accepted) refl
