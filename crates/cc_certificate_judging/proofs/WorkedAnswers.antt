-- What is found of the worked certificates, by computation.
use Rattle.std.proofs.Common.{ℕ, codes, [], ◌∷◌, None, refl, sym, subst, arith}
use Rattle.std.specs.Fmt.{digits}
use Rattle.cc_capture.specs.Elements.{same_element, element_order}
use Rattle.cc_capture.specs.Rising.{placed}
use Rattle.cc_capture.specs.Sets.{contains, empty, insert, union, from_list, flat_image, same_set, image}
use Rattle.cc_core.specs.Derivations.{t-var, OfType, Derivation}
use Rattle.cc_core.specs.Shapes.{capturing}
use Rattle.cc_derivation.specs.Numbers.{own_number}
use Rattle.cc_derivation.specs.Rows.{TypeOf}
use Rattle.cc_derivation.specs.Broken.{IsLeast}
use Rattle.cc_derivation.specs.ValidityLaws.{RiseWithin}
use Rattle.cc_derivation.proofs.BrokenNodes.{valid_typings}
use Rattle.cc_derivation.proofs.RisingNumbers.{numbers_rise, first_is_least}
use Rattle.cc_certificate_text.specs.Certificates.{CertificateNode, Line, Opens, States, Concludes, Proving, Fits, IsCertificate}
use Rattle.cc_certificate_reading.specs.ReadingExamples.{text, opening, statement, none, nothing, identity, function_line}
use Rattle.cc_certificate_reading.proofs.WorkedCertificates.{identity_fits, identity_certified, no_node, nothing_there, wrong_premise}
use Rattle.cc_certificate_judging.specs.AnswerExamples.{function_node, IdentityIsValid, WrongTypeIsABadNode, WrongPremiseIsABadLine, NoNodeIsABadLine, NothingIsABadLine}
use Rattle.cc_certificate_judging.specs.Judging.{listed, read_tree, IsValidAt, IsBadNode, IsJudged}
use Rattle.cc_certificate_judging.specs.JudgingExamples as judging
use Rattle.cc_certificate_judging.proofs.FormedAnswers.{parts_have_type}
use Rattle.cc_certificate_judging.proofs.WorkedCertificates.{identity_is_whole, type_without_the_local}
use lib.Utf8.{encode}

identity_judged : IsJudged [] judging.identity (listed 0 (judging.identity_with 0 judging.unit_of_local))
    (IsValidAt (capturing judging.identity_shape empty))
unfolding contains same_element element_order insert placed empty from_list flat_image same_set union
identity_judged = record {
  tree = judging.identity_with 0 judging.unit_of_local;
  whole = refl;
  told = ((valid_typings 0 [] judging.identity (read_tree 0 [] (judging.identity_with 0 judging.unit_of_local))).0 identity_is_whole, refl);
}

pub identity_is_valid : IdentityIsValid
unfolding from_list insert empty placed element_order image digits encode
identity_is_valid = (
  record {
    binds = [];
    term = judging.identity;
    nodes = listed 0 (judging.identity_with 0 judging.unit_of_local);
    certificate = identity_certified;
    named = refl;
    judged = identity_judged;
    typed =
        parts_have_type [] judging.identity (listed 0 (judging.identity_with 0 judging.unit_of_local))
        (capturing judging.identity_shape empty) identity_certified.fit identity_judged;
  },
  refl,
)

-- the node without the set of its variable
abbrev unit_node : CertificateNode
unit_node = record { rule = t-var; premises = []; first = None; claim = OfType (capturing nothing none) }

unit_fits : Fits (Proving [] 0 []) (Concludes unit_node)
unfolding from_list insert empty placed element_order
unit_fits = record { few = omega arith; kind = refl; named = (tt, tt); binders = refl; low = omega arith; kept = []; premises = refl }

function_fits : Fits (Proving [] 1 (1 ∷ [])) function_line
unfolding from_list insert empty placed element_order
function_fits = record {
  few = omega arith;
  kind = refl;
  named = ((omega arith, tt, tt, tt, (omega arith, tt)), tt);
  binders = refl;
  low = omega arith;
  kept = [];
  premises = refl;
}

unit_certified : IsCertificate (text (opening ∷ statement ∷ codes "1 t-var [] : Unit" ∷ function_node ∷ []))
    (Opens ∷ States identity ∷ Concludes unit_node ∷ function_line ∷ [])
unfolding from_list insert empty placed element_order image digits encode
unit_certified = record { fit = (tt, (identity_fits, (unit_fits, (function_fits, tt)))); whole = refl; written = refl }

abbrev unit_tree : Derivation
unit_tree = read_tree 0 [] (judging.identity_with 0 judging.unit)

unit_judged : IsJudged [] judging.identity (listed 0 (judging.identity_with 0 judging.unit)) (IsBadNode 1)
unit_judged =
    let rises = subst (λ l. RiseWithin 0 l (own_number 0 unit_tree)) type_without_the_local
    (numbers_rise 0 (TypeOf [] judging.identity) unit_tree) in
    record {
      tree = judging.identity_with 0 judging.unit;
      whole = refl;
      told = subst (IsLeast 1) (sym type_without_the_local) (first_is_least 0 (own_number 0 unit_tree) 1 (2 ∷ []) rises);
    }

pub wrong_type_is_a_bad_node : WrongTypeIsABadNode
unfolding from_list insert empty placed element_order image digits encode
wrong_type_is_a_bad_node = (
  record {
    binds = [];
    term = judging.identity;
    nodes = listed 0 (judging.identity_with 0 judging.unit);
    certificate = unit_certified;
    judged = unit_judged;
  },
  refl,
)

pub wrong_premise_is_a_bad_line : WrongPremiseIsABadLine
unfolding digits
wrong_premise_is_a_bad_line = (wrong_premise, refl)

pub no_node_is_a_bad_line : NoNodeIsABadLine
unfolding digits
no_node_is_a_bad_line = (no_node, refl)

pub nothing_is_a_bad_line : NothingIsABadLine
unfolding digits
nothing_is_a_bad_line = (nothing_there, refl)
