use Rattle.std.proofs.Common.{◌∙◌, ap}
use Rattle.cc_module_vouching.specs.ClaimViews.{claim_at}
use Rattle.cc_module_vouching.proofs.ClaimedPlaces.{first_seen}
use Rattle.cc_module_vouching.proofs.claims.claim_named.Goals as goal

pub returns : goal.returns
returns c =
    first_seen (λ r. r.now) c.claim_at.result c.args.name.now c.args.claims.now
    (c.claim_at.ensures ∙ ap (claim_at c.args.claims.now) c.place.ensures ∙ c.requires c.args.name.now)
