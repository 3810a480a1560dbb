-- Worked certificates, and bytes that are none, by computation.
use Rattle.std.proofs.Common.{◌≡◌, ℕ, List, [], ◌∷◌, ◌++◌, codes, None, bytes_eq, refl, arith}
use Rattle.std.specs.Fmt.{digits}
use Rattle.cc_capture.specs.Elements.{element_order}
use Rattle.cc_capture.specs.Rising.{placed}
use Rattle.cc_capture.specs.Sets.{from_list, insert, empty, image}
use Rattle.cc_capture.proofs.Membership.{Member-empty}
use Rattle.cc_core.specs.Derivations.{t-var, OfType}
use Rattle.cc_core.specs.Shapes.{capturing}
use Rattle.cc_core.specs.Occurrences.{HasNoHoleInSet}
use Rattle.cc_certificate_text.specs.Certificates.{Binding, Proving, Opens, States, Concludes, Fits, IsBadLine}
use Rattle.std.specs.List.{IsDistinct}
use Rattle.cc_words.specs.Words.{number_of}
use Rattle.cc_certificate_text.specs.Reading.{Wrong, begun, word_at, exact_at, number_at, same_number_at}
use Rattle.cc_certificate_text.specs.LineReading.{next_line, line_at, node_at, numbered_node_at, rule_at, rule_of, numbers_at, numbers_of, ends_with}
use Rattle.cc_certificate_text.proofs.Certified.{stops_there}
use Rattle.cc_certificate_reading.specs.ReadingExamples.{text, opening, statement, none, nothing, identity, body_line, function_line, IdentityIsCertified, WrongTypeIsRead, WrongPremiseIsBad, NoNodeIsBad, TwoRootsAreBad, LeadingZeroIsBad, NothingIsBad}
use lib.Utf8.{encode}

pub no_holes : HasNoHoleInSet none
unfolding from_list
no_holes e m = absurd (Member-empty e m)

pub identity_fits : Fits (Binding [] []) (States identity)
unfolding from_list insert empty placed element_order
identity_fits = (refl, (tt, no_holes, tt), omega arith)

body_fits : Fits (Proving [] 0 []) body_line
unfolding from_list insert empty placed element_order
body_fits = record { few = omega arith; kind = refl; named = (tt, (omega arith, tt)); binders = refl; low = omega arith; kept = []; premises = refl }

function_fits : Fits (Proving [] 1 (1 ∷ [])) function_line
unfolding from_list insert empty placed element_order
function_fits = record {
  few = omega arith;
  kind = refl;
  named = ((omega arith, tt, tt, tt, (omega arith, tt)), tt);
  binders = refl;
  low = omega arith;
  kept = [];
  premises = refl;
}

pub identity_certified : IdentityIsCertified
unfolding from_list insert empty placed element_order image digits encode
identity_certified = record { fit = (tt, (identity_fits, (body_fits, (function_fits, tt)))); whole = refl; written = refl }

unit_fits : Fits (Proving [] 0 []) (Concludes (record { rule = t-var; premises = []; first = None; claim = OfType (capturing nothing none) }))
unfolding from_list insert empty placed element_order
unit_fits = record { few = omega arith; kind = refl; named = (tt, tt); binders = refl; low = omega arith; kept = []; premises = refl }

pub wrong_type : WrongTypeIsRead
unfolding from_list insert empty placed element_order image digits encode
wrong_type = record { fit = (tt, (identity_fits, (unit_fits, tt))); whole = refl; written = refl }

pub no_node : NoNodeIsBad
unfolding from_list insert empty placed element_order image digits encode
no_node = record {
  lines = Opens ∷ States identity ∷ [];
  fit = (tt, (identity_fits, tt));
  rest = [];
  written = refl;
  stops = λ whole. absurd (omega arith);
  place = refl;
}

second_fits : Fits (Proving [] 1 (1 ∷ [])) body_line
unfolding from_list insert empty placed element_order
second_fits = record { few = omega arith; kind = refl; named = (tt, (omega arith, tt)); binders = refl; low = omega arith; kept = 1 ∷ []; premises = refl }

pub two_roots : TwoRootsAreBad
unfolding from_list insert empty placed element_order image digits encode
two_roots = record {
  lines = Opens ∷ States identity ∷ body_line ∷ body_line ∷ [];
  fit = (tt, (identity_fits, (body_fits, (second_fits, tt))));
  rest = [];
  written = refl;
  stops = λ whole. absurd (omega arith);
  place = refl;
}

pub nothing_there : NothingIsBad
nothing_there = record { lines = []; fit = tt; rest = []; written = refl; stops = λ whole. whole; place = refl }

pub no_names : IsDistinct bytes_eq []
unfolding IsDistinct
no_names = tt

pub some_bytes : (b : ℕ) (bs : List ℕ) → b ∷ bs ≡ [] → ⊥
some_bytes b bs e = cc

-- behind the term no line begins with these bytes
module _ (rest : List ℕ) (wrong : next_line (Proving [] 0 []) rest ≡ Wrong) (some : rest ≡ [] → ⊥) where
  pub bad_first_node : IsBadLine (text (opening ∷ statement ∷ []) ++ rest) 3
  unfolding from_list insert empty placed element_order image digits encode
  bad_first_node = record {
    lines = Opens ∷ States identity ∷ [];
    fit = (tt, (identity_fits, tt));
    rest = rest;
    written = refl;
    stops = stops_there (Proving [] 0 []) rest (tt, no_names, tt) wrong some;
    place = refl;
  }

pub leading_zero : LeadingZeroIsBad
unfolding next_line line_at node_at same_number_at number_at word_at number_of begun exact_at
leading_zero = bad_first_node (text (codes "01 t-var [] : Unit^{_0}" ∷ [])) refl (some_bytes 48 (codes "1 t-var [] : Unit^{_0}" ++ 10 ∷ []))

pub wrong_premise : WrongPremiseIsBad
unfolding from_list insert empty placed element_order image digits encode next_line line_at node_at same_number_at number_at word_at number_of begun exact_at numbered_node_at rule_at rule_of numbers_at numbers_of ends_with
wrong_premise = record {
  lines = Opens ∷ States identity ∷ body_line ∷ [];
  fit = (tt, (identity_fits, (body_fits, tt)));
  rest = text (codes "2 t-abs [2] : (_0: Unit) -> Unit^{_0}" ∷ []);
  written = refl;
  stops = stops_there (Proving [] 1 (1 ∷ [])) (text (codes "2 t-abs [2] : (_0: Unit) -> Unit^{_0}" ∷ [])) (tt, no_names, (omega arith, tt)) refl
      (some_bytes 50 (codes " t-abs [2] : (_0: Unit) -> Unit^{_0}" ++ 10 ∷ []));
  place = refl;
}
