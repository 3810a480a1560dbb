-- An entry of two modules has all that an entry has.
use Rattle.std.proofs.Common.{◌≡◌, ◌<◌, ℕ, [], ◌∷◌, Some, inl, inr, refl, sym, subst, arith}
use Rattle.std.specs.List.{IsDistinct}
use Rattle.cc_base.specs.declared.literal.Base.TheVariants as bases
use Rattle.cc_base.specs.declared.literal.Op.TheVariants as operations
use Rattle.cc_capture.specs.declared.var.Var.TheVariants.{Free}
use Rattle.cc_capture.specs.declared.var.Elem.TheVariants.{Var as Variable, Cap}
use Rattle.cc_capture.specs.Elements.{element_order, same_element}
use Rattle.cc_capture.specs.Rising.{placed}
use Rattle.cc_capture.specs.Sets.{Set, contains, empty, insert, union, from_list, flat_image}
use Rattle.cc_capture.proofs.Membership.{Member-empty, Member-union}
use Rattle.cc_core.specs.Shapes.{Shape, BaseShape, capturing}
use Rattle.cc_core.specs.Terms.{Term}
use Rattle.cc_core.specs.Contexts.{TermEntry, Context, lookup}
use Rattle.cc_core.specs.Substitution.{single}
use Rattle.cc_core.specs.Occurrences.{MeetsInSet, IsAskedOf, IsPositionBelow, positions_below}
use Rattle.cc_core.specs.Captured.{captured_variables, variable_set}
use Rattle.cc_core.specs.Subcapturing.{Subcaptures, variable, SubcapturesSet}
use Rattle.cc_core.specs.Subtyping.{reflexive}
use Rattle.cc_core.specs.Typing.{HasTyping, t-var, t-lit, t-abs, t-app, t-let, t-prim, t-if, t-op, t-sub, HasType}
use Rattle.cc_core.specs.Stores.{authority}
use Rattle.cc_core.proofs.Moving.{Member-single}
use Rattle.cc_runs.specs.ExamplePrograms.{number, whole_numbers, nothing, out, prints_number}
use Rattle.cc_runs.specs.ExampleEntries.{functions, counts_down, call_of, prints_what_is_left, MainIsAnEntry}
use Rattle.cc_runs.proofs.WorkedAuthorities.{below_declared}

-- sets below others
below_by_set : (g : Context) (p : ℕ) (s : Shape) (d c : Set) → lookup g p ≡ Some (TermEntry s d) → SubcapturesSet g d c → SubcapturesSet g (variable_set (Free p)) c
below_by_set g p s d c there below e m =
    subst (λ x. Subcaptures g x c) (sym (Member-single e (Variable (Free p)) m)) (variable {shape = s} {declared = d} there below)

nothing_within : (g : Context) (c : Set) → SubcapturesSet g empty c
nothing_within g c e m = absurd (Member-empty e m)

both_below : (g : Context) (a b c : Set) → SubcapturesSet g a c → SubcapturesSet g b c → SubcapturesSet g (union a b) c
both_below g a b c left right e m = elim ((Member-union e a b).0 m) as (λ _. Subcaptures g e c) [ inl l ↦ left e l | inr r ↦ right e r ]

-- The contexts: with the devices, with line, and with down.
abbrev with_devices : Context
with_devices = TermEntry (BaseShape bases.Counter) (single Cap) ∷ TermEntry (BaseShape bases.Console) (single Cap) ∷ []

abbrev with_line : Context
with_line = TermEntry (functions whole_numbers empty nothing) (variable_set out) ∷ with_devices

abbrev with_down : Context
with_down = TermEntry (functions whole_numbers empty whole_numbers) empty ∷ with_line

-- def line
line_typing : HasTyping with_devices prints_number (functions whole_numbers empty nothing) (captured_variables prints_number)
unfolding contains same_element flat_image from_list insert placed union element_order empty
line_typing =
    t-abs {gives = nothing} {e = empty} refl
    (t-op {operation = operations.Print} {taken = bases.Int}
    (t-var {position = 0} {shape = BaseShape bases.Console} {declared = single Cap} refl) refl
    (t-var {position = 2} {shape = whole_numbers} {declared = empty} refl))

line_captures : captured_variables prints_number ≡ variable_set out
unfolding contains same_element flat_image from_list insert placed union element_order empty
line_captures = refl

line_typed : HasType with_devices prints_number (capturing (functions whole_numbers empty nothing) (variable_set out))
unfolding contains same_element flat_image from_list insert placed union element_order empty
line_typed = record {
  context_formed = refl;
  term_formed = refl;
  type_formed = refl;
  typing = subst (HasTyping with_devices prints_number (functions whole_numbers empty nothing)) line_captures line_typing;
}

-- def down, whose context has down itself
abbrev down_value : Term
down_value = counts_down (call_of 3)

down_typing : HasTyping with_down down_value (functions whole_numbers empty whole_numbers) (captured_variables down_value)
unfolding contains same_element flat_image from_list insert placed union element_order empty
down_typing =
    t-abs {gives = whole_numbers} {e = empty} refl
    (t-let {bound = whole_numbers} {c = empty} t-lit tt
    (t-let {bound = BaseShape bases.Bool} {c = empty} (t-prim (t-var {position = 4} {shape = whole_numbers} {declared = empty} refl) (t-var {position = 5} {shape = whole_numbers} {declared = empty} refl)) tt
    (t-if {shape = whole_numbers} {c = empty} (t-var {position = 6} {shape = BaseShape bases.Bool} {declared = empty} refl) t-lit
    (t-let {bound = whole_numbers} {c = empty} (t-prim (t-var {position = 4} {shape = whole_numbers} {declared = empty} refl) (t-var {position = 5} {shape = whole_numbers} {declared = empty} refl)) tt
    (t-app {takes = whole_numbers} {gives = whole_numbers} {c = empty} {e = empty} (t-var {position = 3} {shape = functions whole_numbers empty whole_numbers} {declared = empty} refl)
    (t-sub {shape = whole_numbers} (t-var {position = 7} {shape = whole_numbers} {declared = empty} refl) (below_declared _ 7 whole_numbers empty refl) reflexive refl))
    tt (λ e m. absurd (Member-empty e m))))
    tt (λ e m. absurd (Member-empty e m)))
    tt (λ e m. absurd (Member-empty e m)))

down_captures : captured_variables down_value ≡ variable_set (Free 3)
unfolding contains same_element flat_image from_list insert placed union element_order empty
down_captures = refl

down_typed : HasType with_down down_value (capturing (functions whole_numbers empty whole_numbers) empty)
unfolding contains same_element flat_image from_list insert placed union element_order empty
down_typed = record {
  context_formed = refl;
  term_formed = refl;
  type_formed = refl;
  typing = t-sub down_typing
      (subst (λ c. SubcapturesSet with_down c empty) (sym down_captures) (below_declared with_down 3 (functions whole_numbers empty whole_numbers) empty refl)) reflexive refl;
}

-- def from, after the imports down and line
abbrev with_imports : Context
with_imports =
    TermEntry (functions whole_numbers empty nothing) (variable_set out)
    ∷ TermEntry (functions whole_numbers empty whole_numbers) empty
    ∷ with_devices

from_typed : HasType with_imports (number 3) (capturing whole_numbers empty)
unfolding contains same_element flat_image from_list insert placed union element_order empty
from_typed = record { context_formed = refl; term_formed = refl; type_formed = refl; typing = t-lit }

-- def main
abbrev with_from : Context
with_from = TermEntry whole_numbers empty ∷ with_imports

abbrev main_value : Term
main_value = prints_what_is_left 2 4 3

main_typing : HasTyping with_from main_value (functions nothing (variable_set out) nothing) (captured_variables main_value)
unfolding contains same_element flat_image from_list insert placed union element_order empty
main_typing =
    t-abs {gives = nothing} {e = empty} refl
    (t-let {bound = whole_numbers} {c = empty}
    (t-app {takes = whole_numbers} {gives = whole_numbers} {c = empty} {e = empty} (t-var {position = 2} {shape = functions whole_numbers empty whole_numbers} {declared = empty} refl)
    (t-sub {shape = whole_numbers} (t-var {position = 4} {shape = whole_numbers} {declared = empty} refl) (below_declared _ 4 whole_numbers empty refl) reflexive refl))
    tt
    (t-app {takes = whole_numbers} {gives = nothing} {c = empty} {e = empty} (t-var {position = 3} {shape = functions whole_numbers empty nothing} {declared = variable_set out} refl)
    (t-sub {shape = whole_numbers} (t-var {position = 6} {shape = whole_numbers} {declared = empty} refl) (below_declared _ 6 whole_numbers empty refl) reflexive refl))
    tt (λ e m. absurd (Member-empty e m)))

main_captures : captured_variables main_value ≡ union (variable_set (Free 2)) (union (variable_set (Free 3)) (variable_set (Free 4)))
unfolding contains same_element flat_image from_list insert placed union element_order empty
main_captures = refl

main_below : SubcapturesSet with_from (captured_variables main_value) (variable_set out)
main_below =
    subst (λ c. SubcapturesSet with_from c (variable_set out)) (sym main_captures)
    (both_below with_from (variable_set (Free 2)) (union (variable_set (Free 3)) (variable_set (Free 4))) (variable_set out)
    (below_by_set with_from 2 (functions whole_numbers empty whole_numbers) empty (variable_set out) refl (nothing_within with_from (variable_set out)))
    (both_below with_from (variable_set (Free 3)) (variable_set (Free 4)) (variable_set out)
    (below_declared with_from 3 (functions whole_numbers empty nothing) (variable_set out) refl)
    (below_by_set with_from 4 whole_numbers empty (variable_set out) refl (nothing_within with_from (variable_set out)))))

main_typed : HasType with_from main_value (capturing (functions nothing (variable_set out) nothing) (variable_set out))
unfolding contains same_element flat_image from_list insert placed union element_order empty
main_typed = record { context_formed = refl; term_formed = refl; type_formed = refl; typing = t-sub main_typing main_below reflexive refl }

-- What the signatures name.
nothing_named : (d : ℕ) → MeetsInSet (positions_below 2) d empty
nothing_named d e m = absurd (Member-empty e m)

out_named : (d : ℕ) → MeetsInSet (positions_below 2) d (variable_set out)
out_named d e m = subst (IsAskedOf (IsPositionBelow 2)) (sym (Member-single e (Variable out) m)) (let below : 0 < 2 = omega arith in below)

authority_of_out : authority 2 (variable_set out) ≡ 0 ∷ []
unfolding contains same_element flat_image from_list insert placed union element_order empty
authority_of_out = refl

pub main_is_an_entry : MainIsAnEntry
unfolding IsDistinct
main_is_an_entry = record {
  devices = refl;
  values = ((refl, (refl, tt)), ((refl, (refl, tt)), tt));
  module_names = ((refl, tt), (tt, tt));
  names = (((refl, tt), (tt, tt)), (((refl, tt), (tt, tt)), tt));
  signatures = (
    (((tt, out_named 0, tt, nothing_named 1), out_named 0), ((tt, nothing_named 0), tt)),
    ((((tt, nothing_named 0, tt, nothing_named 1), nothing_named 0), (((tt, nothing_named 0, tt, nothing_named 1), out_named 0), tt)), tt),
  );
  imports = ((refl, (refl, tt)), (tt, tt));
  typed = ((main_typed, (from_typed, tt)), ((down_typed, (line_typed, tt)), tt));
  started = _;
  found = refl;
  takes_set = variable_set out;
  gives = nothing;
  gives_set = empty;
  takes_unit = refl;
  authority = sym authority_of_out;
}
