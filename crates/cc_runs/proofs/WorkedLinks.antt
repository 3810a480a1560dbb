-- Entries of modules with equal names, one with every authority, and one with a boundary.
use Rattle.std.proofs.Common.{◌≡◌, ◌<◌, ℕ, [], ◌∷◌, refl, sym, subst, arith}
use Rattle.std.specs.Int.{int_wrap}
use Rattle.std.specs.List.{IsDistinct}
use Rattle.cc_base.specs.declared.literal.Base.TheVariants as bases
use Rattle.cc_base.specs.declared.literal.Op.TheVariants as operations
use Rattle.cc_capture.specs.declared.var.Elem.TheVariants.{Var as Variable, Cap}
use Rattle.cc_capture.specs.declared.var.Var.TheVariants.{Bound, Free}
use Rattle.cc_capture.specs.Elements.{element_order, same_element}
use Rattle.cc_capture.specs.Rising.{placed}
use Rattle.cc_capture.specs.Sets.{Set, contains, empty, insert, union, from_list, flat_image}
use Rattle.cc_capture.proofs.Membership.{Member-empty}
use Rattle.cc_core.specs.Shapes.{BaseShape, ExitShape, capturing}
use Rattle.cc_core.specs.Terms.{Term}
use Rattle.cc_core.specs.Contexts.{TermEntry, Context}
use Rattle.cc_core.specs.Substitution.{single}
use Rattle.cc_core.specs.Occurrences.{MeetsInSet, IsAskedOf, IsPositionBelow, positions_below}
use Rattle.cc_core.specs.Captured.{captured_variables, variable_set}
use Rattle.cc_core.specs.Subcapturing.{Subcaptures, element, variable, SubcapturesSet}
use Rattle.cc_core.specs.Subtyping.{reflexive}
use Rattle.cc_core.specs.Typing.{HasTyping, t-var, t-lit, t-abs, t-app, t-let, t-op, t-boundary, t-exit, t-sub, HasType}
use Rattle.cc_core.specs.Stores.{authority}
use Rattle.cc_core.proofs.Moving.{Member-single}
use Rattle.cc_core.proofs.SubcapturingLemmas.{subcaptures_reflexive}
use Rattle.cc_runs.specs.ExamplePrograms.{number, whole_numbers, nothing, entry_with, val, out, print}
use Rattle.cc_runs.specs.ExampleEntries.{functions}
use Rattle.cc_runs.specs.ExampleTasks.{leaves_a_boundary}
use Rattle.cc_runs.specs.ExampleLinks.{prints_and_gives_back, calls, EqualNamesAreApart, EqualNamesRunApart, AppIsAnEntry, CapIsAnEntry, BoundaryIsAnEntry}
use Rattle.cc_runs.proofs.WorkedAuthorities.{below_declared}

pub equal_names_are_apart : EqualNamesAreApart
unfolding empty insert from_list flat_image placed
equal_names_are_apart = (refl, refl, refl, refl, refl, refl, refl)

pub equal_names_run_apart : EqualNamesRunApart
unfolding int_wrap
equal_names_run_apart = ((refl, refl, refl), (refl, refl, refl), (refl, refl, refl), (refl, refl, refl))

-- the contexts of one device, and of both
abbrev with_console : Context
with_console = TermEntry (BaseShape bases.Console) (single Cap) ∷ []

abbrev with_devices : Context
with_devices = TermEntry (BaseShape bases.Counter) (single Cap) ∷ with_console

-- def f
gives_back_typed : (n : ℕ) → HasType with_devices (prints_and_gives_back n) (capturing (functions nothing empty nothing) (variable_set out))
unfolding contains same_element flat_image from_list insert placed union element_order empty
gives_back_typed n = record {
  context_formed = refl;
  term_formed = refl;
  type_formed = refl;
  typing = subst (HasTyping with_devices (prints_and_gives_back n) (functions nothing empty nothing)) captures
      (t-abs {gives = nothing} {e = empty} refl
      (t-let {bound = nothing} {c = empty}
      (t-let {bound = whole_numbers} {c = empty} t-lit tt
      (t-op {operation = operations.Print} {taken = bases.Int}
      (t-var {position = 0} {shape = BaseShape bases.Console} {declared = single Cap} refl) refl
      (t-var {position = 3} {shape = whole_numbers} {declared = empty} refl))
      tt (λ e m. absurd (Member-empty e m)))
      tt
      (t-sub {shape = nothing} (t-var {position = 2} {shape = nothing} {declared = empty} refl) (below_declared _ 2 nothing empty refl) reflexive refl)
      tt (λ e m. absurd (Member-empty e m))));
}
  where
    captures : captured_variables (prints_and_gives_back n) ≡ variable_set out
    captures = refl

-- def main of app, after the import
abbrev with_import : Context
with_import = TermEntry (functions nothing empty nothing) (variable_set out) ∷ with_devices

app_typing : HasTyping with_import (calls 2) (functions nothing empty nothing) (captured_variables (calls 2))
unfolding contains same_element flat_image from_list insert placed union element_order empty
app_typing =
    t-abs {gives = nothing} {e = empty} refl
    (t-app {takes = nothing} {gives = nothing} {c = empty} {e = empty} (t-var {position = 2} {shape = functions nothing empty nothing} {declared = variable_set out} refl)
    (t-sub {shape = nothing} (t-var {position = 3} {shape = nothing} {declared = empty} refl) (below_declared _ 3 nothing empty refl) reflexive refl))

app_captures : captured_variables (calls 2) ≡ variable_set (Free 2)
unfolding contains same_element flat_image from_list insert placed union element_order empty
app_captures = refl

app_typed : HasType with_import (calls 2) (capturing (functions nothing empty nothing) (variable_set out))
unfolding contains same_element flat_image from_list insert placed union element_order empty
app_typed = record {
  context_formed = refl;
  term_formed = refl;
  type_formed = refl;
  typing = t-sub app_typing
      (subst (λ c. SubcapturesSet with_import c (variable_set out)) (sym app_captures) (below_declared with_import 2 (functions nothing empty nothing) (variable_set out) refl)) reflexive refl;
}

-- def main with every authority
abbrev prints_nine : Term
prints_nine = entry_with (val (number 9) (print (Bound 0)))

nine_typing : HasTyping with_devices prints_nine (functions nothing empty nothing) (captured_variables prints_nine)
unfolding contains same_element flat_image from_list insert placed union element_order empty
nine_typing =
    t-abs {gives = nothing} {e = empty} refl
    (t-let {bound = whole_numbers} {c = empty} t-lit tt
    (t-op {operation = operations.Print} {taken = bases.Int}
    (t-var {position = 0} {shape = BaseShape bases.Console} {declared = single Cap} refl) refl
    (t-var {position = 3} {shape = whole_numbers} {declared = empty} refl))
    tt (λ e m. absurd (Member-empty e m)))

nine_captures : captured_variables prints_nine ≡ variable_set out
unfolding contains same_element flat_image from_list insert placed union element_order empty
nine_captures = refl

out_below_all : SubcapturesSet with_devices (variable_set out) (single Cap)
out_below_all = below_declared with_devices 0 (BaseShape bases.Console) (single Cap) refl

nine_typed : HasType with_devices prints_nine (capturing (functions nothing empty nothing) (single Cap))
unfolding contains same_element flat_image from_list insert placed union element_order empty
nine_typed = record {
  context_formed = refl;
  term_formed = refl;
  type_formed = refl;
  typing = t-sub nine_typing (subst (λ c. SubcapturesSet with_devices c (single Cap)) (sym nine_captures) out_below_all) reflexive refl;
}

-- def b, with its boundary
boundary_typed : HasType with_console leaves_a_boundary (capturing (functions nothing empty nothing) (variable_set out))
unfolding contains same_element flat_image from_list insert placed union element_order empty
boundary_typed = record {
  context_formed = refl;
  term_formed = refl;
  type_formed = refl;
  typing = subst (HasTyping with_console leaves_a_boundary (functions nothing empty nothing)) captures
      (t-abs {gives = nothing} {e = empty} refl
      (t-let {bound = whole_numbers} {c = empty}
      (t-boundary refl
      (t-let {bound = whole_numbers} {c = empty} t-lit tt
      (t-exit (t-var {position = 2} {shape = ExitShape whole_numbers} {declared = single Cap} refl)
      (t-sub {shape = whole_numbers} (t-var {position = 3} {shape = whole_numbers} {declared = empty} refl) (below_declared _ 3 whole_numbers empty refl) reflexive refl) refl)
      tt (λ e m. absurd (Member-empty e m))))
      tt
      (t-op {operation = operations.Print} {taken = bases.Int}
      (t-var {position = 0} {shape = BaseShape bases.Console} {declared = single Cap} refl) refl
      (t-var {position = 2} {shape = whole_numbers} {declared = empty} refl))
      tt (λ e m. absurd (Member-empty e m))));
}
  where
    captures : captured_variables leaves_a_boundary ≡ variable_set out
    captures = refl

-- What the signatures name.
nothing_named : (n d : ℕ) → MeetsInSet (positions_below n) d empty
nothing_named n d e m = absurd (Member-empty e m)

out_named : (n d : ℕ) → 0 < n → MeetsInSet (positions_below n) d (variable_set out)
out_named n d some e m = subst (IsAskedOf (IsPositionBelow n)) (sym (Member-single e (Variable out) m)) some

all_named : (n d : ℕ) → MeetsInSet (positions_below n) d (single Cap)
all_named n d e m = subst (IsAskedOf (IsPositionBelow n)) (sym (Member-single e Cap m)) tt

authority_of_out : (0 ∷ []) ≡ authority 2 (variable_set out)
unfolding contains same_element flat_image from_list insert placed union element_order empty
authority_of_out = refl

authority_of_out_alone : (0 ∷ []) ≡ authority 1 (variable_set out)
unfolding contains same_element flat_image from_list insert placed union element_order empty
authority_of_out_alone = refl

authority_of_all : (0 ∷ 1 ∷ []) ≡ authority 2 (single Cap)
unfolding contains same_element flat_image from_list insert placed union element_order empty
authority_of_all = refl

one_of_two : 0 < 2
one_of_two = omega arith

one_of_one : 0 < 1
one_of_one = omega arith

pub app_is_an_entry : AppIsAnEntry
unfolding IsDistinct
app_is_an_entry = record {
  devices = refl;
  values = ((refl, tt), ((refl, tt), ((refl, tt), ((refl, tt), tt))));
  module_names = ((refl, (refl, (refl, tt))), ((refl, (refl, tt)), ((refl, tt), (tt, tt))));
  names = ((tt, tt), ((tt, tt), ((tt, tt), ((tt, tt), tt))));
  signatures = (
    (((tt, nothing_named 2 0, tt, nothing_named 2 1), out_named 2 0 one_of_two), tt),
    (
      (((tt, nothing_named 2 0, tt, nothing_named 2 1), out_named 2 0 one_of_two), tt),
      (
        (((tt, nothing_named 2 0, tt, nothing_named 2 1), out_named 2 0 one_of_two), tt),
        ((((tt, nothing_named 2 0, tt, nothing_named 2 1), out_named 2 0 one_of_two), tt), tt),
      ),
    ),
  );
  imports = ((refl, tt), (tt, (tt, (tt, tt))));
  typed = ((app_typed, tt), ((gives_back_typed 3, tt), ((gives_back_typed 2, tt), ((gives_back_typed 1, tt), tt))));
  started = _;
  found = refl;
  takes_set = empty;
  gives = nothing;
  gives_set = empty;
  takes_unit = refl;
  authority = authority_of_out;
}

pub cap_is_an_entry : CapIsAnEntry
unfolding IsDistinct
cap_is_an_entry = record {
  devices = refl;
  values = ((refl, tt), tt);
  module_names = (tt, tt);
  names = ((tt, tt), tt);
  signatures = ((((tt, nothing_named 2 0, tt, nothing_named 2 1), all_named 2 0), tt), tt);
  imports = (tt, tt);
  typed = ((nine_typed, tt), tt);
  started = _;
  found = refl;
  takes_set = empty;
  gives = nothing;
  gives_set = empty;
  takes_unit = refl;
  authority = authority_of_all;
}

pub boundary_is_an_entry : BoundaryIsAnEntry
unfolding IsDistinct
boundary_is_an_entry = record {
  devices = refl;
  values = ((refl, tt), tt);
  module_names = (tt, tt);
  names = ((tt, tt), tt);
  signatures = ((((tt, nothing_named 1 0, tt, nothing_named 1 1), out_named 1 0 one_of_one), tt), tt);
  imports = (tt, tt);
  typed = ((boundary_typed, tt), tt);
  started = _;
  found = refl;
  takes_set = empty;
  gives = nothing;
  gives_set = empty;
  takes_unit = refl;
  authority = authority_of_out_alone;
}
