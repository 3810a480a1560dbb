-- Worked entries start soundly, and keep their authority.
use Rattle.std.proofs.Common.{◌≡◌, ℕ, List, [], ◌∷◌, Some, inl, inr, refl, sym, ap, subst}
use Rattle.cc_base.specs.declared.literal.Base.TheVariants as bases
use Rattle.cc_base.specs.declared.literal.Op.TheVariants as operations
use Rattle.cc_base.specs.Literals.{UnitLiteral}
use Rattle.std.specs.Prelude.{pos}
use Rattle.cc_capture.specs.declared.var.Var.TheVariants.{Bound, Free}
use Rattle.cc_capture.specs.declared.var.Elem.TheVariants.{Var as Variable, Cap}
use Rattle.cc_capture.specs.Elements.{element_order, same_element}
use Rattle.cc_capture.specs.Rising.{placed}
use Rattle.cc_capture.specs.Sets.{Set, Member, contains, empty, insert, union, from_list, flat_image, same_list}
use Rattle.cc_capture.proofs.Membership.{Member-empty, Member-union}
use Rattle.cc_core.specs.Shapes.{Shape, BaseShape, capturing}
use Rattle.cc_core.specs.Terms.{Term, VariableTerm, LiteralTerm, BoxTerm, Application}
use Rattle.cc_core.specs.Contexts.{TermEntry, Context, lookup}
use Rattle.cc_core.specs.Substitution.{single}
use Rattle.cc_core.specs.Captured.{captured_variables, variable_set}
use Rattle.cc_core.specs.Subcapturing.{Subcaptures, variable, SubcapturesSet}
use Rattle.cc_core.specs.WellFormed.{IsWellFormedType, IsWellFormedTerm}
use Rattle.cc_core.specs.Subtyping.{reflexive}
use Rattle.cc_device.specs.Devices.{Console, Counter}
use Rattle.cc_runs.specs.SafeRuns.{IsListed}
use Rattle.cc_core.specs.Typing.{HasTyping, t-var, t-lit, t-abs, t-app, t-box, t-let, t-op, t-sub, HasType}
use Rattle.cc_core.specs.Stores.{DeviceCell, HasStoreTyping, none_stored, value_stored, device_stored, recursive_stored}
use Rattle.cc_core.proofs.Moving.{Member-single}
use Rattle.cc_core.proofs.SubcapturingLemmas.{subcaptures_reflexive}
use Rattle.cc_runs.specs.ExamplePrograms.{number, whole_numbers, nothing, entry_with, val, two_cells, two_devices, out, prints_number, print}
use Rattle.cc_runs.specs.ExampleAuthorities.{AuthoritiesOfSets, worked_store, printing, boxed_printing, idle_shape, main_shape, worked_context, EntriesStartSoundly, IdleOperatesNothing, OperatesTheConsoleAlone, OthersOperateTheConsole}
use Rattle.cc_runs.specs.SoundRuns.{FitsDevices, DevicesStandFirst, NamesDevices, IsSoundStart}
use Rattle.cc_runs.proofs.DevicesFirst.{no_devices_first, no_devices_fit, device_first, device_fits, values_first, values_fit}
use Rattle.cc_runs.proofs.RunTheorems.{typed_programs_start_soundly, entries_keep_their_authority}

pub authorities_of_sets : AuthoritiesOfSets
unfolding contains same_element flat_image from_list insert placed union element_order empty
authorities_of_sets = (refl, refl, refl, refl, refl, refl, refl)

-- the contexts of the cells
with_devices : Context
with_devices = TermEntry (BaseShape bases.Counter) (single Cap) ∷ TermEntry (BaseShape bases.Console) (single Cap) ∷ []

with_function : Context
unfolding with_devices
with_function = TermEntry printing (variable_set out) ∷ with_devices

with_box : Context
unfolding with_function
with_box = TermEntry boxed_printing empty ∷ with_function

with_idle : Context
unfolding with_box
with_idle = TermEntry idle_shape empty ∷ with_box

with_main : Context
unfolding with_idle
with_main = TermEntry main_shape (variable_set out) ∷ with_idle

-- a variable that is declared with a set is below it, and one of the empty set below each
pub below_declared : (g : Context) (p : ℕ) (s : Shape) (d : Set) → lookup g p ≡ Some (TermEntry s d) → SubcapturesSet g (variable_set (Free p)) d
below_declared g p s d there e m =
    subst (λ x. Subcaptures g x d) (sym (Member-single e (Variable (Free p)) m)) (variable {shape = s} {declared = d} there (subcaptures_reflexive g d))

-- def f
prints_typing : HasTyping with_devices prints_number printing (captured_variables prints_number)
unfolding with_devices contains same_element flat_image from_list insert placed union element_order empty
prints_typing =
    t-abs {gives = nothing} {e = empty} refl
    (t-op {operation = operations.Print} {taken = bases.Int}
    (t-var {position = 0} {shape = BaseShape bases.Console} {declared = single Cap} refl) refl
    (t-var {position = 2} {shape = whole_numbers} {declared = empty} refl))

prints_captures : captured_variables prints_number ≡ variable_set out
unfolding contains same_element flat_image from_list insert placed union element_order empty
prints_captures = refl

prints_typed : HasType with_devices prints_number (capturing printing (variable_set out))
unfolding with_devices contains same_element flat_image from_list insert placed union element_order empty
prints_typed = record {
  context_formed = refl;
  term_formed = refl;
  type_formed = refl;
  typing = subst (HasTyping with_devices prints_number printing) prints_captures prints_typing;
}

-- def b
no_cap_in_out : Member Cap (variable_set out) → ⊥
no_cap_in_out m = let clash : Cap ≡ Variable out = Member-single Cap (Variable out) m in cc

printing_formed : IsWellFormedType with_function (capturing printing (variable_set out))
unfolding with_function with_devices contains same_element flat_image from_list insert placed union element_order empty
printing_formed = refl

box_typing : HasTyping with_function (BoxTerm (Free 2)) boxed_printing empty
unfolding with_function with_devices
box_typing =
    t-box (t-sub {shape = printing} {c = variable_set (Free 2)} (t-var {position = 2} {shape = printing} {declared = variable_set out} refl)
    (below_declared with_function 2 printing (variable_set out) refl) reflexive printing_formed) no_cap_in_out

box_typed : HasType with_function (BoxTerm (Free 2)) (capturing boxed_printing empty)
unfolding with_function with_devices contains same_element flat_image from_list insert placed union element_order empty
box_typed = record { context_formed = refl; term_formed = refl; type_formed = refl; typing = box_typing }

-- def idle
idle : Term
idle = entry_with (VariableTerm (Free 3))

idle_context : Context
unfolding with_box with_function with_devices
idle_context = TermEntry nothing empty ∷ with_box

body_formed : IsWellFormedType idle_context (capturing boxed_printing empty)
unfolding idle_context with_box with_function with_devices contains same_element flat_image from_list insert placed union element_order empty
body_formed = refl

idle_body : HasTyping idle_context (VariableTerm (Free 3)) boxed_printing empty
unfolding idle_context with_box with_function with_devices
idle_body =
    t-sub {shape = boxed_printing} {c = variable_set (Free 3)} (t-var {position = 3} {shape = boxed_printing} {declared = empty} refl)
    (below_declared idle_context 3 boxed_printing empty refl) reflexive body_formed

idle_typing : HasTyping with_box idle idle_shape (captured_variables idle)
unfolding idle idle_context with_box with_function with_devices contains same_element flat_image from_list insert placed union element_order empty
idle_typing = t-abs {gives = boxed_printing} {e = empty} refl idle_body

idle_captures : captured_variables idle ≡ variable_set (Free 3)
unfolding idle contains same_element flat_image from_list insert placed union element_order empty
idle_captures = refl

idle_typed : HasType with_box idle (capturing idle_shape empty)
unfolding idle with_box with_function with_devices contains same_element flat_image from_list insert placed union element_order empty
idle_typed = record {
  context_formed = refl;
  term_formed = refl;
  type_formed = refl;
  typing = t-sub idle_typing
      (subst (λ c. SubcapturesSet with_box c empty) (sym idle_captures) (below_declared with_box 3 boxed_printing empty refl)) reflexive refl;
}

-- def main
main : Term
main = entry_with (val (number 5) (Application (Free 2) (Bound 0)))

main_context : Context
unfolding with_idle with_box with_function with_devices
main_context = TermEntry whole_numbers empty ∷ TermEntry nothing empty ∷ with_idle

main_body : HasTyping main_context (Application (Free 2) (Free 6)) nothing empty
unfolding main_context with_idle with_box with_function with_devices contains same_element flat_image from_list insert placed union element_order empty
main_body =
    t-app {gives = nothing} {e = empty} (t-var {position = 2} {shape = printing} {declared = variable_set out} refl)
    (t-sub {shape = whole_numbers} {c = variable_set (Free 6)} (t-var {position = 6} {shape = whole_numbers} {declared = empty} refl)
    (below_declared main_context 6 whole_numbers empty refl) reflexive refl)

main_typing : HasTyping with_idle main main_shape (captured_variables main)
unfolding main main_context with_idle with_box with_function with_devices contains same_element flat_image from_list insert placed union element_order empty
main_typing = t-abs {gives = nothing} {e = empty} refl (t-let {bound = whole_numbers} {c = empty} t-lit tt main_body tt (λ e m. absurd (Member-empty e m)))

main_captures : captured_variables main ≡ variable_set (Free 2)
unfolding main contains same_element flat_image from_list insert placed union element_order empty
main_captures = refl

main_typed : HasType with_idle main (capturing main_shape (variable_set out))
unfolding main with_idle with_box with_function with_devices contains same_element flat_image from_list insert placed union element_order empty
main_typed = record {
  context_formed = refl;
  term_formed = refl;
  type_formed = refl;
  typing = t-sub main_typing
      (subst (λ c. SubcapturesSet with_idle c (variable_set out)) (sym main_captures) (below_declared with_idle 2 printing (variable_set out) refl)) reflexive refl;
}

-- def loop
loop : Term
loop = entry_with (val (val (number 1) (print (Bound 0))) (Application (Free 6) (Bound 1)))

with_loop : Context
unfolding with_main with_idle with_box with_function with_devices
with_loop = TermEntry main_shape (variable_set out) ∷ with_main

-- within loop the argument is at position 7; then comes the number 1, or the answer of the console
number_context : Context
unfolding with_loop with_main with_idle with_box with_function with_devices
number_context = TermEntry whole_numbers empty ∷ TermEntry nothing empty ∷ with_loop

answer_context : Context
unfolding with_loop with_main with_idle with_box with_function with_devices
answer_context = TermEntry nothing empty ∷ TermEntry nothing empty ∷ with_loop

loop_prints : HasTyping number_context (print (Free 8)) nothing empty
unfolding number_context with_loop with_main with_idle with_box with_function with_devices
loop_prints =
    t-op {operation = operations.Print} {taken = bases.Int}
    (t-var {position = 0} {shape = BaseShape bases.Console} {declared = single Cap} refl) refl
    (t-var {position = 8} {shape = whole_numbers} {declared = empty} refl)

loop_calls : HasTyping answer_context (Application (Free 6) (Free 7)) nothing empty
unfolding answer_context with_loop with_main with_idle with_box with_function with_devices contains same_element flat_image from_list insert placed union element_order empty
loop_calls =
    t-app {gives = nothing} {e = empty} (t-var {position = 6} {shape = main_shape} {declared = variable_set out} refl)
    (t-sub {shape = nothing} {c = variable_set (Free 7)} (t-var {position = 7} {shape = nothing} {declared = empty} refl)
    (below_declared answer_context 7 nothing empty refl) reflexive refl)

loop_typing : HasTyping with_loop loop main_shape (captured_variables loop)
unfolding loop answer_context number_context with_loop with_main with_idle with_box with_function with_devices contains same_element flat_image from_list insert placed union element_order empty
loop_typing =
    t-abs {gives = nothing} {e = empty} refl
    (t-let {bound = nothing} {c = empty}
    (t-let {bound = whole_numbers} {c = empty} t-lit tt loop_prints tt (λ e m. absurd (Member-empty e m)))
    tt loop_calls tt (λ e m. absurd (Member-empty e m)))

loop_captures : captured_variables loop ≡ union (variable_set (Free 6)) (variable_set out)
unfolding loop contains same_element flat_image from_list insert placed union element_order empty
loop_captures = same_list (captured_variables loop) (union (variable_set (Free 6)) (variable_set out)) refl

loop_below : SubcapturesSet with_loop (union (variable_set (Free 6)) (variable_set out)) (variable_set out)
unfolding with_loop with_main with_idle with_box with_function with_devices
loop_below e m =
    elim ((Member-union e (variable_set (Free 6)) (variable_set out)).0 m) as (λ _. Subcaptures with_loop e (variable_set out)) [
      | inl own ↦ below_declared with_loop 6 main_shape (variable_set out) refl e own
      | inr there ↦ subcaptures_reflexive with_loop (variable_set out) e there
    ]

loop_typed : HasType with_loop loop (capturing main_shape (variable_set out))
unfolding loop with_loop with_main with_idle with_box with_function with_devices contains same_element flat_image from_list insert placed union element_order empty
loop_typed = record {
  context_formed = refl;
  term_formed = refl;
  type_formed = refl;
  typing = t-sub loop_typing (subst (λ c. SubcapturesSet with_loop c (variable_set out)) (sym loop_captures) loop_below) reflexive refl;
}

-- unit, and the store
unit_typed : HasType with_loop (LiteralTerm UnitLiteral) (capturing nothing empty)
unfolding with_loop with_main with_idle with_box with_function with_devices contains same_element flat_image from_list insert placed union element_order empty
unit_typed = record { context_formed = refl; term_formed = refl; type_formed = refl; typing = t-lit }

loop_formed : IsWellFormedType with_main (capturing main_shape (variable_set out))
unfolding with_main with_idle with_box with_function with_devices contains same_element flat_image from_list insert placed union element_order empty
loop_formed = refl

worked_store_typed : HasStoreTyping worked_store worked_context
unfolding loop main idle with_loop with_main with_idle with_box with_function with_devices
worked_store_typed =
    value_stored
    (recursive_stored
    (value_stored
    (value_stored
    (value_stored
    (value_stored
    (device_stored (device_stored none_stored refl) refl)
    refl prints_typed)
    refl box_typed)
    refl idle_typed)
    refl main_typed)
    refl loop_formed loop_typed)
    refl unit_typed

-- the devices
worked_values : List Term
unfolding loop main idle
worked_values = LiteralTerm UnitLiteral ∷ loop ∷ main ∷ idle ∷ BoxTerm (Free 2) ∷ prints_number ∷ []

devices_stand_first : DevicesStandFirst worked_store 2
unfolding worked_values loop main idle
devices_stand_first =
    values_first worked_values two_cells 2
    (device_first (DeviceCell 0 bases.Console ∷ []) 1 bases.Counter refl (device_first [] 0 bases.Console refl no_devices_first))

devices_fit : FitsDevices worked_store two_devices
unfolding worked_values loop main idle
devices_fit =
    values_fit worked_values two_cells two_devices
    (device_fits (DeviceCell 0 bases.Console ∷ []) two_devices 1 bases.Counter (Counter (pos 0)) refl refl
    (device_fits [] two_devices 0 bases.Console (Console []) refl refl (no_devices_fit two_devices)))

out_is_a_device : NamesDevices worked_store (variable_set out)
out_is_a_device position m =
    let same : Variable (Free position) ≡ Variable out = Member-single (Variable (Free position)) (Variable out) m in
    let at : position ≡ 0 = cc in
    (0, bases.Console, ap (lookup worked_store) at)

-- the starts
unit_at : SubcapturesSet worked_context (variable_set (Free 7)) empty
unit_at = below_declared worked_context 7 nothing empty refl

unit_given : HasTyping worked_context (VariableTerm (Free 7)) nothing empty
unfolding contains same_element flat_image from_list insert placed union element_order empty
unit_given =
    t-sub {shape = nothing} {c = variable_set (Free 7)} (t-var {position = 7} {shape = nothing} {declared = empty} refl) unit_at reflexive refl

idle_applied : HasType worked_context (Application (Free 4) (Free 7)) (capturing boxed_printing empty)
unfolding contains same_element flat_image from_list insert placed union element_order empty
idle_applied = record {
  context_formed = refl;
  term_formed = refl;
  type_formed = refl;
  typing = t-app {gives = boxed_printing} {e = empty} (t-var {position = 4} {shape = idle_shape} {declared = empty} refl) unit_given;
}

other_applied : (entry : ℕ) → lookup worked_context entry ≡ Some (TermEntry main_shape (variable_set out)) → IsWellFormedTerm worked_context (Application (Free entry) (Free 7))
    → HasType worked_context (Application (Free entry) (Free 7)) (capturing nothing empty)
unfolding contains same_element flat_image from_list insert placed union element_order empty
other_applied entry there formed = record {
  context_formed = refl;
  term_formed = formed;
  type_formed = refl;
  typing = t-app {gives = nothing} {e = empty} (t-var {position = entry} {shape = main_shape} {declared = variable_set out} there) unit_given;
}

idle_starts : IsSoundStart worked_store worked_context 4 7 2 idle_shape empty two_devices
idle_starts = record {
  sound = record {
    configuration = typed_programs_start_soundly worked_store worked_context (Application (Free 4) (Free 7)) (capturing boxed_printing empty) worked_store_typed idle_applied refl;
    devices = devices_fit;
  };
  stored = worked_store_typed;
  declared = refl;
  applied = refl;
  first = devices_stand_first;
  names = λ position m. absurd (Member-empty (Variable (Free position)) m);
}

other_starts : (entry : ℕ) → lookup worked_context entry ≡ Some (TermEntry main_shape (variable_set out)) → IsWellFormedTerm worked_context (Application (Free entry) (Free 7))
    → IsSoundStart worked_store worked_context entry 7 2 main_shape (variable_set out) two_devices
other_starts entry there formed = record {
  sound = record {
    configuration = typed_programs_start_soundly worked_store worked_context (Application (Free entry) (Free 7)) (capturing nothing empty) worked_store_typed (other_applied entry there formed) refl;
    devices = devices_fit;
  };
  stored = worked_store_typed;
  declared = there;
  applied = refl;
  first = devices_stand_first;
  names = out_is_a_device;
}

pub entries_start_soundly : EntriesStartSoundly
entries_start_soundly = (idle_starts, other_starts 5 refl refl, other_starts 6 refl refl)

-- what they operate
pub idle_operates_nothing : IdleOperatesNothing
idle_operates_nothing fuel device operation literal among =
    subst (IsListed device) authorities_of_sets.0
    (entries_keep_their_authority worked_store worked_context 4 7 2 idle_shape empty two_devices idle_starts fuel device operation literal among)

console_alone : (entry : ℕ) → IsSoundStart worked_store worked_context entry 7 2 main_shape (variable_set out) two_devices → OperatesTheConsoleAlone entry
console_alone entry starts fuel device operation literal among =
    elim (subst (IsListed device) authorities_of_sets.1
    (entries_keep_their_authority worked_store worked_context entry 7 2 main_shape (variable_set out) two_devices starts fuel device operation literal among))
    as (λ _. device ≡ 0) [ inl same ↦ same | inr none ↦ absurd none ]

pub others_operate_the_console : OthersOperateTheConsole
others_operate_the_console = (console_alone 5 entries_start_soundly.1, console_alone 6 entries_start_soundly.2)
