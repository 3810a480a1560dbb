-- Worked lines, by computation, and by induction on how many boxes there are.
use Rattle.std.proofs.Common.{◌≡◌, ℕ, zero, suc, ◌<◌, ◌≤◌, ◌^◌, max, true, false, List, [], ◌∷◌, ◌++◌, refl, sym, ap, ◌∙◌, arith}
use Rattle.std.specs.Fmt.{digits}
use Rattle.std.proofs.lemmas.Bool.{and_from}
use Rattle.unicode_ident.proofs.Computing.{unicode_ident}
use lib.Utf8.{encode}
use Rattle.cc_base.specs.Names.{is_reserved, reserved_words}
use Rattle.cc_capture.specs.declared.var.Elem.TheVariants.{Cap}
use Rattle.cc_capture.specs.Elements.{element_order}
use Rattle.cc_capture.specs.Rising.{placed}
use Rattle.cc_capture.specs.Sets.{from_list, insert, empty, image}
use Rattle.cc_core.specs.Substitution.{single}
use Rattle.cc_core.specs.Occurrences.{HasNoHole, HasNoHoleInSet}
use Rattle.cc_core.specs.WellFormed.{Kind, is_well_formed_shape, is_well_formed_term}
use Rattle.cc_core.specs.Terms.{FunctionTerm}
use Rattle.cc_core.proofs.OccurrenceTests.{hole-decides}
use Rattle.cc_certificate_text.specs.Certificates.{OfSets, OfTerms}
use Rattle.cc_certificate_text.specs.Heights.{shape_height, term_height}
use Rattle.cc_certificate_text.specs.LineReading.{ends_with}
use Rattle.cc_certificate_text.specs.LocalNames.{IsLocalNumber, IsNamedShape, has_binder}
use Rattle.cc_certificate_text.proofs.NodeReading.{ends_with-holds}
use Rattle.cc_certificate_examples.specs.LineFacts.{number, omitted, boxed, one}
use Rattle.cc_certificate_examples.specs.LineFacts as example

never : false ≡ true → ⊥
never e = cc

never_true : true ≡ false → ⊥
never_true e = cc

other_kind : OfTerms ≡ OfSets → ⊥
other_kind e = cc

-- HOLES

pure : HasNoHoleInSet empty
unfolding empty
pure = (hole-decides.in_set 0 empty).0 refl

whole : HasNoHoleInSet (single Cap)
unfolding empty insert from_list placed element_order
whole = (hole-decides.in_set 0 (single Cap)).0 refl

a_hole : HasNoHoleInSet omitted → ⊥
unfolding empty insert from_list placed element_order
a_hole h = never_true ((hole-decides.in_set 0 omitted).1 h)

-- PREMISES

-- numbers that the unused ones do not end with
not_last : (unused premises : List ℕ) → ends_with unused premises ≡ false → (kept : List ℕ) → unused ≡ kept ++ premises → ⊥
not_last unused premises none kept e =
    never (sym none ∙ (ap (λ l. ends_with l premises) e ∙ ends_with-holds kept premises))

-- BOXES

height-boxed : (count : ℕ) → shape_height (boxed count) ≡ suc count
unfolding boxed
height-boxed zero = refl
height-boxed (suc count) = ap suc (height-boxed count)

formed_boxes : (kinds : List Kind) (count : ℕ) → is_well_formed_shape kinds [] (boxed count) ≡ true
unfolding boxed empty
formed_boxes kinds zero = refl
formed_boxes kinds (suc count) = and_from _ _ (formed_boxes kinds count) refl

formed_function : (count : ℕ) → is_well_formed_term [] [] (FunctionTerm (boxed count) empty one) ≡ true
unfolding empty
formed_function count = and_from _ _ (and_from _ _ (formed_boxes [] count) refl) refl

whole_boxes : (count : ℕ) → HasNoHole (boxed count)
unfolding boxed
whole_boxes zero = tt
whole_boxes (suc count) = (whole_boxes count, pure)

named_boxes : (names depth count : ℕ) → IsNamedShape IsLocalNumber names depth (boxed count)
unfolding boxed empty
named_boxes names depth zero = tt
named_boxes names depth (suc count) = (named_boxes names depth count, tt)

boxes_bind : (count : ℕ) → has_binder (boxed count) ≡ false
unfolding boxed
boxes_bind zero = refl
boxes_bind (suc count) = boxes_bind count

too_high : shape_height (boxed 5000) ≤ 5000 → ⊥
too_high h = absurd (omega (arith, h, height-boxed 5000))

too_high_left : max (shape_height (boxed 5000)) 1 ≤ 5000 → ⊥
too_high_left h = absurd (omega (arith, h, height-boxed 5000))

too_high_right : max 1 (shape_height (boxed 5000)) ≤ 5000 → ⊥
too_high_right h = absurd (omega (arith, h, height-boxed 5000))

higher_function : term_height (FunctionTerm (boxed 4999) empty one) ≤ 5000 → ⊥
higher_function h = absurd (omega (arith, h, height-boxed 4999))

pub written_literals : example.WrittenLiterals
written_literals = record {
  unit_value = tt;
  truth = tt;
  nothing = omega arith;
  greatest = omega arith;
  greater = λ h. absurd (omega (arith, h));
  negative = λ h. h;
  no_text = (refl, refl, omega arith);
  text_of_200 = (refl, refl, omega arith);
  text_of_201 = λ h. let long : 201 ≤ 200 = h.2 in absurd (omega (arith, long));
  text_with_a_quote = λ h. never h.1;
  text_with_a_line_feed = λ h. never h.1;
  text_beyond_unicode = λ h. never h.0;
}

pub written_notes : example.WrittenNotes
written_notes = record {
  written = (tt, whole);
  absent = λ h. h;
  without_its_set = λ h. h;
  with_an_omitted_set = λ h. a_hole h.1;
  with_one_inside = λ h. a_hole h.0.1;
  absent_where_it_may_be = tt;
  written_where_it_may_be = (tt, whole);
  without_its_set_where_it_may_be = λ h. h;
  with_an_omitted_set_where_it_may_be = λ h. a_hole h.1;
  with_one_inside_where_it_may_be = λ h. a_hole h.0.1;
  set = whole;
  no_set = λ h. h;
  omitted_set = λ h. a_hole h;
}

pub arguments_of_operations : example.ArgumentsOfOperations
arguments_of_operations = record {
  printing = refl;
  saying = refl;
  reading = refl;
  writing = refl;
  ticking = refl;
}

pub written_terms : example.WrittenTerms
written_terms = record {
  variable = tt;
  literal = omega arith;
  negative_literal = λ h. h;
  function = (tt, whole, omega arith);
  parameter = λ h. a_hole h.0.1;
  set_of_a_parameter = λ h. a_hole h.1;
  body_of_a_function = λ h. h.2;
  type_function = (tt, omega arith);
  bound = λ h. a_hole h.0.1;
  body_of_a_type_function = λ h. h.1;
  box = tt;
  application = tt;
  type_application = tt;
  argument_of_an_omitted_set = λ h. a_hole h.1;
  unboxing = pure;
  unboxing_of_no_set = λ h. h;
  unboxing_of_an_omitted_set = λ h. a_hole h;
  let_of_no_type = (tt, omega arith, omega arith);
  let_of_a_type = ((tt, pure), omega arith, omega arith);
  let_of_an_omitted_set = λ h. h.0;
  right_side = λ h. h.1;
  body_of_a_let = λ h. h.2;
  operator = tt;
  choice = ((tt, pure), omega arith, omega arith);
  choice_of_no_type = λ h. h.0;
  first_branch = λ h. h.1;
  second_branch = λ h. h.2;
  repetition = tt;
  operation = refl;
  operation_of_nothing = λ h. never_true h;
  operation_alone = refl;
  operation_of_something = λ h. never h;
  boundary = (tt, omega arith);
  shape_of_a_boundary = λ h. a_hole h.0.1;
  body_of_a_boundary = λ h. h.1;
  exit = (tt, whole);
  shape_of_an_exit = λ h. a_hole h.0.1;
  set_of_an_exit = λ h. a_hole h.1;
}

pub kinds_of_rules : example.KindsOfRules
kinds_of_rules = record {
  elements = refl;
  variables_in_sets = refl;
  sets = refl;
  itself = refl;
  two_steps = refl;
  type_variables = refl;
  greatest = refl;
  functions = refl;
  type_functions = refl;
  boxes = refl;
  types = refl;
  variables = refl;
  literals = refl;
  function_terms = refl;
  type_function_terms = refl;
  applications = refl;
  type_applications = refl;
  box_terms = refl;
  unboxings = refl;
  lets = refl;
  operators_of_numbers = refl;
  choices = refl;
  repetitions = refl;
  operations_of_devices = refl;
  boundaries = refl;
  exits = refl;
  widening = refl;
}

pub kinds_of_claims : example.KindsOfClaims
kinds_of_claims = record {
  sets = refl;
  shapes = refl;
  types = refl;
  type_of_a_term = refl;
}

pub stages_of_lines : example.StagesOfLines
unfolding empty from_list insert placed element_order
stages_of_lines = record {
  opened = refl;
  bound = refl;
  bound_twice = refl;
  stated = refl;
  concluded = refl;
  concluded_beside = refl;
  concluded_over_one = refl;
  concluded_over_two = refl;
  names_of_binds = refl;
  names_of_nodes = refl;
  first_number = refl;
  third_number = refl;
  number_of_binders = refl;
  nothing_is_whole = λ h. h;
  binds_are_not_whole = λ h. h;
  term_is_not_whole = λ h. absurd (omega (arith, h));
  one_unused_is_whole = refl;
  two_unused_are_not_whole = λ h. absurd (omega (arith, h));
}

pub texts_of_lines : example.TextsOfLines
unfolding empty from_list insert placed element_order image digits encode
texts_of_lines = record {
  opening = refl;
  bind = refl;
  statement = refl;
  premises = refl;
  binders = refl;
  types_below = refl;
  shapes_below = refl;
  sets_below = refl;
}

pub lines_at_stages : example.LinesAtStages
lines_at_stages = record {
  opening = tt;
  bind_at_the_start = λ h. h;
  term_at_the_start = λ h. h;
  node_at_the_start = λ h. h;
  opening_among_binds = λ h. h;
  node_among_binds = λ h. h;
  opening_among_nodes = λ h. h;
  bind_among_nodes = λ h. h;
  term_among_nodes = λ h. h;
}

pub binds_that_fit : example.BindsThatFit
unfolding empty from_list insert placed element_order unicode_ident is_reserved reserved_words encode
binds_that_fit = record {
  first = (refl, refl, refl, (tt, pure), omega arith);
  second = (refl, refl, refl, (tt, pure), omega arith);
  of_no_name = λ h. never h.0;
  of_one_name = λ h. never_true h.1;
  of_no_variable = λ h. never h.2;
  of_an_omitted_set = λ h. a_hole h.3.1;
  of_one_inside = λ h. a_hole h.3.0.1;
  high = (refl, refl, and_from _ _ (formed_boxes [] 4999) refl, (whole_boxes 4999, pure), omega (arith, height-boxed 4999));
  higher = λ h. too_high h.4;
}

pub terms_that_fit : example.TermsThatFit
unfolding empty from_list insert placed element_order
terms_that_fit = record {
  literal = (refl, omega arith, omega arith);
  no_variable = λ h. never h.0;
  negative = λ h. h.1;
  high = (formed_function 4998, (whole_boxes 4998, pure, omega arith), omega (arith, height-boxed 4998));
  higher = λ h. higher_function h.2;
}

pub nodes_that_fit : example.NodesThatFit
unfolding empty from_list insert placed element_order ends_with
nodes_that_fit = record {
  first = record { few = omega arith; kind = refl; named = (tt, tt); binders = refl; low = omega arith; kept = []; premises = refl };
  last = record { few = omega arith; kind = refl; named = (tt, tt); binders = refl; low = omega arith; kept = 99999 ∷ []; premises = refl };
  one_more = λ h. absurd (omega (arith, h.few));
  of_another_kind = λ h. other_kind h.kind;
  of_no_name = λ h. let second : 0 < 0 = h.named.1.0 in absurd (omega (arith, second));
  with_binders = record { few = omega arith; kind = refl; named = ((omega arith, tt, tt, tt, tt), tt); binders = refl; low = omega arith; kept = []; premises = refl };
  without_their_number = λ h. never_true h.binders;
  with_a_number_for_none = λ h. never h.binders;
  with_a_great_number = λ h. let number : 4294967296 < 2 ^ 32 = h.named.0.0 in absurd (omega (arith, number));
  high = record { few = omega arith; kind = refl; named = (named_boxes 0 0 4999, tt); binders = boxes_bind 4999; low = omega (arith, height-boxed 4999); kept = []; premises = refl };
  higher = λ h. too_high h.low;
  higher_on_a_left_side = λ h. too_high_left h.low;
  higher_on_a_right_side = λ h. too_high_right h.low;
  over_the_last = record { few = omega arith; kind = refl; named = (tt, tt); binders = refl; low = omega arith; kept = 1 ∷ []; premises = refl };
  over_both = record { few = omega arith; kind = refl; named = (tt, tt); binders = refl; low = omega arith; kept = []; premises = refl };
  over_the_first = λ h. not_last (1 ∷ 2 ∷ []) (1 ∷ []) refl h.kept h.premises;
  over_both_in_the_other_order = λ h. not_last (1 ∷ 2 ∷ []) (2 ∷ 1 ∷ []) refl h.kept h.premises;
  over_one_that_is_used = λ h. not_last (2 ∷ []) (1 ∷ []) refl h.kept h.premises;
  over_itself = λ h. not_last [] (1 ∷ []) refl h.kept h.premises;
}

pub forms_beyond_the_limit : example.FormsBeyondTheLimit
unfolding empty from_list insert placed element_order unicode_ident is_reserved reserved_words encode
forms_beyond_the_limit = record {
  high_exit_shape = (refl, refl, and_from _ _ (formed_boxes [] 4998) refl, (whole_boxes 4998, pure), omega (arith, height-boxed 4998));
  exit_shape = λ h. absurd (omega (arith, h.4, height-boxed 4999));
  high_parameter_of_a_shape = (
    refl,
    refl,
    and_from _ _ (and_from _ _ (and_from _ _ (and_from _ _ (formed_boxes [] 4998) refl) refl) refl) refl,
    ((whole_boxes 4998, pure, tt, pure), pure),
    omega (arith, height-boxed 4998),
  );
  parameter_of_a_shape = λ h. absurd (omega (arith, h.4, height-boxed 4999));
  result_of_a_shape = λ h. absurd (omega (arith, h.4, height-boxed 4999));
  high_bound_of_a_shape = (
    refl,
    refl,
    and_from _ _ (and_from _ _ (and_from _ _ (formed_boxes [] 4998) refl) refl) refl,
    ((whole_boxes 4998, tt, pure), pure),
    omega (arith, height-boxed 4998),
  );
  bound_of_a_shape = λ h. absurd (omega (arith, h.4, height-boxed 4999));
  result_of_a_type_function_shape = λ h. absurd (omega (arith, h.4, height-boxed 4999));
  body = λ h. absurd (omega (arith, h.2, height-boxed 4998));
  bound = λ h. absurd (omega (arith, h.2, height-boxed 4999));
  body_of_a_type_function = λ h. absurd (omega (arith, h.2, height-boxed 4998));
  type_argument = λ h. absurd (omega (arith, h.2, height-boxed 4999));
  note_of_a_let = λ h. absurd (omega (arith, h.2, height-boxed 4999));
  right_side_of_a_let = λ h. absurd (omega (arith, h.2, height-boxed 4998));
  body_of_a_let = λ h. absurd (omega (arith, h.2, height-boxed 4998));
  type_of_a_choice = λ h. absurd (omega (arith, h.2, height-boxed 4999));
  first_branch = λ h. absurd (omega (arith, h.2, height-boxed 4998));
  second_branch = λ h. absurd (omega (arith, h.2, height-boxed 4998));
  shape_of_a_boundary = λ h. absurd (omega (arith, h.2, height-boxed 4999));
  body_of_a_boundary = λ h. absurd (omega (arith, h.2, height-boxed 4998));
  type_of_an_exit = λ h. absurd (omega (arith, h.2, height-boxed 4999));
}
