use Rattle.std.proofs.Common.{◌≡◌, ◌++◌, true, false, map, Some, None, refl, ap, sym, ◌∙◌, subst}
use Rattle.std.specs.Option.{option_map}
use Rattle.cc_derivation.specs.DerivationViews.{rule_of, claim_of, premises_of}
use Rattle.cc_derivation.specs.declared.derivation.Der.{Der}
use Rattle.cc_validity.specs.ClaimedPremises.{instance_of}
use Rattle.cc_derivation.specs.Broken.{claims_of, are_as_many}
use Rattle.cc_derivation.specs.Rows.{row_at}
use Rattle.cc_validity.specs.Spots.{place_of, places_of, places_in}
use Rattle.cc_validity.specs.Waiting.{standing_of, standing_among}
use Rattle.cc_validity.proofs.PassedNodes.{misfit_passes, short_passes, node_passes}
use Rattle.cc_validity.proofs.waiting.pass.Goals as goal

pub returns-in_ok-count-in-None : goal.returns-in_ok-count-in-None
returns-in_ok-count-in-None c =
    let place = place_of c.args.next.now.spot in
    let der = c.args.next.now.der.value in
    let none : None ≡ places_in (row_at place (rule_of der.rule) (claim_of der.claim)) (claims_of (premises_of der.premises)) =
    subst (λ (d : Der). None ≡ places_in (row_at place (rule_of d.rule) (claim_of d.claim)) (claims_of (premises_of d.premises))) c.deref.ensures
    (sym (ap (option_map places_of) c.in-None.is) ∙ c.in_ok-premise_places.ensures) in
    misfit_passes place (rule_of der.rule) (premises_of der.premises) (claim_of der.claim) (map standing_of c.args.waiting.now.items) (map standing_of c.args.waiting.now.items) _
    c.if-is_nowhere.ensures none refl refl c.in_ok-count-in-None.ensures

pub returns-then-not-are_as_many : goal.returns-then-not-are_as_many
returns-then-not-are_as_many c =
    let place = place_of c.args.next.now.spot in
    let der = c.args.next.now.der.value in
    let some : Some (places_of c.in-Some.places) ≡ places_in (row_at place (rule_of der.rule) (claim_of der.claim)) (claims_of (premises_of der.premises)) =
    subst (λ (d : Der). Some (places_of c.in-Some.places) ≡ places_in (row_at place (rule_of d.rule) (claim_of d.claim)) (claims_of (premises_of d.premises))) c.deref.ensures
    (sym (ap (option_map places_of) c.in-Some.is) ∙ c.in_ok-premise_places.ensures) in
    let few : are_as_many (places_of c.in-Some.places) (claims_of (premises_of der.premises)) ≡ false =
    sym (ap (λ (d : Der). are_as_many (places_of c.in-Some.places) (claims_of (premises_of d.premises))) c.deref-in-Some.ensures)
    ∙ sym c.are_as_many.ensures ∙ c.if-not-are_as_many.true in
    short_passes place (rule_of der.rule) (premises_of der.premises) (claim_of der.claim) (map standing_of c.args.waiting.now.items) (map standing_of c.args.waiting.now.items) _
    c.if-is_nowhere.ensures (places_of c.in-Some.places) some few refl refl c.in_ok-count-in-Some.ensures

pub returns-in_ok-wait_for-in-Some : goal.returns-in_ok-wait_for-in-Some
returns-in_ok-wait_for-in-Some c =
    let place = place_of c.args.next.now.spot in
    let der = c.args.next.now.der.value in
    let some : Some (places_of c.in-Some.places) ≡ places_in (row_at place (rule_of der.rule) (claim_of der.claim)) (claims_of (premises_of der.premises)) =
    subst (λ (d : Der). Some (places_of c.in-Some.places) ≡ places_in (row_at place (rule_of d.rule) (claim_of d.claim)) (claims_of (premises_of d.premises))) c.deref.ensures
    (sym (ap (option_map places_of) c.in-Some.is) ∙ c.in_ok-premise_places.ensures) in
    let many : are_as_many (places_of c.in-Some.places) (claims_of (premises_of der.premises)) ≡ true =
    sym (ap (λ (d : Der). are_as_many (places_of c.in-Some.places) (claims_of (premises_of d.premises))) c.deref-in-Some.ensures)
    ∙ sym c.are_as_many.ensures ∙ c.if-not-are_as_many.false in
    let is : c.in_ok-holds-in-Some.holds ≡ instance_of (row_at place (rule_of der.rule) (claim_of der.claim)) (claims_of (premises_of der.premises)) =
    subst (λ (d : Der). c.in_ok-holds-in-Some.holds ≡ instance_of (row_at place (rule_of d.rule) (claim_of d.claim)) (claims_of (premises_of d.premises))) c.deref-in-Some-2.ensures
    c.in_ok-holds-in-Some.ensures in
    node_passes place (rule_of der.rule) (premises_of der.premises) (claim_of der.claim) (map standing_of c.args.waiting.now.items) (map standing_of c.wait_for.new.waiting.items) _
    c.if-is_nowhere.ensures (places_of c.in-Some.places) c.in_ok-holds-in-Some.holds some many is
    (c.in_ok-wait_for-in-Some.ensures ∙ ap (λ (d : Der). map standing_of c.args.waiting.now.items ++ standing_among (places_of c.in-Some.places) (premises_of d.premises)) c.deref-in-Some-3.ensures)
    refl refl
