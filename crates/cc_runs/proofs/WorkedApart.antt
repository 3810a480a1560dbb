-- Two entries of one module whose authorities have no device in common.
use Rattle.std.proofs.Common.{◌≡◌, ◌<◌, ℕ, zero, suc, [], ◌∷◌, inl, inr, refl, sym, ◌∙◌, subst, arith}
use Rattle.std.specs.List.{IsDistinct}
use Rattle.cc_base.specs.declared.literal.Base.TheVariants as bases
use Rattle.cc_base.specs.declared.literal.Op.TheVariants as operations
use Rattle.cc_capture.specs.declared.var.Var.TheVariants.{Bound}
use Rattle.cc_capture.specs.declared.var.Elem.TheVariants.{Var as Variable, Cap}
use Rattle.cc_capture.specs.Elements.{element_order, same_element}
use Rattle.cc_capture.specs.Rising.{placed}
use Rattle.cc_capture.specs.Sets.{contains, empty, insert, union, from_list, flat_image}
use Rattle.cc_capture.proofs.Membership.{Member-empty}
use Rattle.cc_core.specs.Shapes.{BaseShape, capturing}
use Rattle.cc_core.specs.Terms.{Term}
use Rattle.cc_core.specs.Contexts.{TermEntry, Context}
use Rattle.cc_core.specs.Substitution.{single}
use Rattle.cc_core.specs.Occurrences.{MeetsInSet, IsAskedOf, IsPositionBelow, positions_below}
use Rattle.cc_core.specs.Captured.{captured_variables, variable_set}
use Rattle.cc_core.specs.Typing.{HasTyping, t-var, t-lit, t-abs, t-let, t-op, t-op-alone, HasType}
use Rattle.cc_core.specs.Stores.{authority}
use Rattle.cc_core.specs.Programs.{Entry, IsEntry}
use Rattle.cc_core.proofs.Moving.{Member-single}
use Rattle.cc_runs.specs.ExamplePrograms.{number, whole_numbers, nothing, entry_with, val, two_devices, out, hits, print, tick}
use Rattle.cc_runs.specs.ExampleEntries.{functions}
use Rattle.cc_runs.specs.ExampleTasks.{one, nine, OneAndNineAreEntries, OneAndNineRunAsAlone}
use Rattle.cc_runs.specs.SafeRuns.{IsListed}
use Rattle.cc_runs.specs.SafeTasks.{HasItsDevicesAlone}
use Rattle.cc_runs.proofs.EntryTasks.{entries_run_interleaved}

abbrev with_devices : Context
with_devices = TermEntry (BaseShape bases.Counter) (single Cap) ∷ TermEntry (BaseShape bases.Console) (single Cap) ∷ []

abbrev with_one : Context
with_one = TermEntry (functions nothing empty whole_numbers) (variable_set hits) ∷ with_devices

abbrev with_two : Context
with_two = TermEntry (functions nothing empty whole_numbers) (variable_set hits) ∷ with_one

-- def one
one_typed : HasType with_devices (entry_with tick) (capturing (functions nothing empty whole_numbers) (variable_set hits))
unfolding contains same_element flat_image from_list insert placed union element_order empty
one_typed = record {
  context_formed = refl;
  term_formed = refl;
  type_formed = refl;
  typing = subst (HasTyping with_devices (entry_with tick) (functions nothing empty whole_numbers)) captures
      (t-abs {gives = whole_numbers} {e = empty} refl
      (t-op-alone {operation = operations.Tick} (t-var {position = 1} {shape = BaseShape bases.Counter} {declared = single Cap} refl) refl));
}
  where
    captures : captured_variables (entry_with tick) ≡ variable_set hits
    captures = refl

-- def two
two_typed : HasType with_one (entry_with (val tick tick)) (capturing (functions nothing empty whole_numbers) (variable_set hits))
unfolding contains same_element flat_image from_list insert placed union element_order empty
two_typed = record {
  context_formed = refl;
  term_formed = refl;
  type_formed = refl;
  typing = subst (HasTyping with_one (entry_with (val tick tick)) (functions nothing empty whole_numbers)) captures
      (t-abs {gives = whole_numbers} {e = empty} refl
      (t-let {bound = whole_numbers} {c = empty}
      (t-op-alone {operation = operations.Tick} (t-var {position = 1} {shape = BaseShape bases.Counter} {declared = single Cap} refl) refl) tt
      (t-op-alone {operation = operations.Tick} (t-var {position = 1} {shape = BaseShape bases.Counter} {declared = single Cap} refl) refl)
      tt (λ e m. absurd (Member-empty e m))));
}
  where
    captures : captured_variables (entry_with (val tick tick)) ≡ variable_set hits
    captures = refl

-- def nine
abbrev prints_nine : Term
prints_nine = entry_with (val (number 9) (print (Bound 0)))

nine_typed : HasType with_two prints_nine (capturing (functions nothing empty nothing) (variable_set out))
unfolding contains same_element flat_image from_list insert placed union element_order empty
nine_typed = record {
  context_formed = refl;
  term_formed = refl;
  type_formed = refl;
  typing = subst (HasTyping with_two prints_nine (functions nothing empty nothing)) captures
      (t-abs {gives = nothing} {e = empty} refl
      (t-let {bound = whole_numbers} {c = empty} t-lit tt
      (t-op {operation = operations.Print} {taken = bases.Int}
      (t-var {position = 0} {shape = BaseShape bases.Console} {declared = single Cap} refl) refl
      (t-var {position = 5} {shape = whole_numbers} {declared = empty} refl))
      tt (λ e m. absurd (Member-empty e m))));
}
  where
    captures : captured_variables prints_nine ≡ variable_set out
    captures = refl

-- What the signatures name.
nothing_named : (d : ℕ) → MeetsInSet (positions_below 2) d empty
nothing_named d e m = absurd (Member-empty e m)

out_named : MeetsInSet (positions_below 2) 0 (variable_set out)
out_named e m = subst (IsAskedOf (IsPositionBelow 2)) (sym (Member-single e (Variable out) m)) (let below : 0 < 2 = omega arith in below)

hits_named : MeetsInSet (positions_below 2) 0 (variable_set hits)
hits_named e m = subst (IsAskedOf (IsPositionBelow 2)) (sym (Member-single e (Variable hits) m)) (let below : 1 < 2 = omega arith in below)

authority_of_out : authority 2 (variable_set out) ≡ 0 ∷ []
unfolding contains same_element flat_image from_list insert placed union element_order empty
authority_of_out = refl

authority_of_hits : authority 2 (variable_set hits) ≡ 1 ∷ []
unfolding contains same_element flat_image from_list insert placed union element_order empty
authority_of_hits = refl

one_is_an_entry : IsEntry one
unfolding IsDistinct
one_is_an_entry = record {
  devices = refl;
  values = ((refl, (refl, (refl, tt))), tt);
  module_names = (tt, tt);
  names = (((refl, (refl, tt)), ((refl, tt), (tt, tt))), tt);
  signatures = ((((tt, nothing_named 0, tt, nothing_named 1), out_named), (((tt, nothing_named 0, tt, nothing_named 1), hits_named), (((tt, nothing_named 0, tt, nothing_named 1), hits_named), tt))), tt);
  imports = (tt, tt);
  typed = ((nine_typed, (two_typed, (one_typed, tt))), tt);
  started = _;
  found = refl;
  takes_set = empty;
  gives = whole_numbers;
  gives_set = empty;
  takes_unit = refl;
  authority = sym authority_of_hits;
}

nine_is_an_entry : IsEntry nine
unfolding IsDistinct
nine_is_an_entry = record {
  devices = refl;
  values = ((refl, (refl, (refl, tt))), tt);
  module_names = (tt, tt);
  names = (((refl, (refl, tt)), ((refl, tt), (tt, tt))), tt);
  signatures = ((((tt, nothing_named 0, tt, nothing_named 1), out_named), (((tt, nothing_named 0, tt, nothing_named 1), hits_named), (((tt, nothing_named 0, tt, nothing_named 1), hits_named), tt))), tt);
  imports = (tt, tt);
  typed = ((nine_typed, (two_typed, (one_typed, tt))), tt);
  started = _;
  found = refl;
  takes_set = empty;
  gives = nothing;
  gives_set = empty;
  takes_unit = refl;
  authority = sym authority_of_out;
}

pub one_and_nine_are_entries : OneAndNineAreEntries
one_and_nine_are_entries = ((one_is_an_entry, refl), ((nine_is_an_entry, refl), tt))

-- no device of the one is a device of the other
one_is_not_zero : ◌≡◌ {A = ℕ} 1 0 → ⊥
one_is_not_zero e = omega arith

differ : (n : ℕ) → IsListed n (1 ∷ []) → IsListed n (0 ∷ []) → ⊥
differ n (inl is) (inl is') = one_is_not_zero (sym is ∙ is')
differ n (inl is) (inr h) = h
differ n (inr h) other = h

other_than_one : HasItsDevicesAlone (one ∷ nine ∷ []) 0 one
other_than_one zero entry other e n a b = absurd (other refl)
other_than_one (suc zero) entry other e n a b = let is : nine ≡ entry = cc in differ n a (subst (λ (x : Entry). IsListed n x.authority) (sym is) b)
other_than_one (suc (suc i)) entry other e n a b = cc

other_than_nine : HasItsDevicesAlone (one ∷ nine ∷ []) 1 nine
other_than_nine zero entry other e n a b = let is : one ≡ entry = cc in differ n (subst (λ (x : Entry). IsListed n x.authority) (sym is) b) a
other_than_nine (suc zero) entry other e n a b = absurd (other refl)
other_than_nine (suc (suc i)) entry other e n a b = cc

pub one_and_nine_run_as_alone : OneAndNineRunAsAlone
one_and_nine_run_as_alone schedule fuel =
    let runs = entries_run_interleaved (one ∷ nine ∷ []) two_devices one_and_nine_are_entries schedule fuel in
    (runs.alone 0 one refl other_than_one, runs.alone 1 nine refl other_than_nine)
