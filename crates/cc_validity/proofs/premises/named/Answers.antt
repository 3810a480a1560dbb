use Rattle.std.proofs.Common.{◌≡◌, ◌∷◌, [], Some, ap, ◌∙◌}
use Rattle.cc_core.specs.Reading.{reading, read_term}
use Rattle.cc_core.specs.Traversal.{act_term}
use Rattle.cc_core.specs.TermViews.{term_of, context_of}
use Rattle.cc_derivation.specs.DerivationViews.{premises_of}
use Rattle.cc_derivation.specs.Broken.{claims_of}
use Rattle.cc_derivation.specs.Rows as plain
use Rattle.cc_validity.specs.Spots.{place_of}
use Rattle.cc_validity.proofs.premises.named.Goals as goal

pub returns : goal.returns
returns c =
    let g = context_of c.args.ctx.now in
    let claims = claims_of (premises_of c.args.premises.now) in
    let own : place_of c.in_ok-first.first ≡ plain.TypeOf g (read_term c.args.entries (term_of c.args.right.now.value)) =
    c.in_ok-first.ensures ∙ ap (λ t. plain.TypeOf g (read_term c.args.entries t)) c.in_ok-own.ensures in
    let inner : place_of c.in_ok-second.second ≡ plain.body_place g (act_term (reading c.args.entries) 1 (term_of c.args.body.now.value)) claims =
    c.in_ok-second.ensures ∙ ap (λ t. plain.body_place g (act_term (reading c.args.entries) 1 t) claims) c.in_ok-inner.ensures in
    ap Some (c.in_ok-spots.ensures ∙ (λ i. own i ∷ inner i ∷ []))
