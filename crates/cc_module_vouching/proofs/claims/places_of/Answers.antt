use Rattle.std.proofs.Common.{◌≡◌, ◌+◌, ◌-◌, ◌<◌, ◌∙◌, ap, sym, drop, length, arith, ℕ, Some, if◌then◌else◌}
use Rattle.std.proofs.lemmas.List.{drop_all}
use Rattle.std.specs.Str.{bytes_eq}
use Rattle.cc_module_vouching.specs.declared.claims.Claim.{Claim}
use Rattle.cc_module_vouching.specs.ClaimViews.{place_in, first_claim, claim_at}
use Rattle.cc_module_vouching.proofs.ClaimedPlaces.{found_more}
use Rattle.cc_module_vouching.proofs.claims.places_of.Goals as goal

pub loop-left-init : goal.loop-left-init
loop-left-init c =
    record {
      within = omega arith;
      finds = λ name.
          ap (claim_at c.args.claims.now) (c.new-places.ensures name)
          ∙ sym (ap (first_claim name) (drop_all (length c.args.claims.now) c.args.claims.now (omega arith)));
    }

pub loop-left-preserved : goal.loop-left-preserved
loop-left-preserved c =
    let left : ℕ = c.loop-left.left - 1 in
    let next : c.loop-left.left ≡ left + 1 = omega (arith, c.loop-left-test.true) in
    let within : left < length c.args.claims.now = omega (arith, c.loop-left.invariant.within, c.loop-left-test.true) in
    record {
      within = omega (arith, c.loop-left.invariant.within);
      finds =
          found_more c.args.claims.now left c.index-claims-left.result within c.index-claims-left.is c.loop-left.places
          c.put.new.self
          (λ name. c.loop-left.invariant.finds name ∙ ap (λ n. first_claim name (drop n c.args.claims.now)) next)
          (λ name.
          c.in_ok-put.ensures name
          ∙ ap (λ (d : Claim). if bytes_eq d.definition name then Some left else place_in c.loop-left.places name)
          (sym c.index-claims-left.is));
    }

pub returns : goal.returns
returns c = λ name.
    c.loop-left.invariant.finds name
    ∙ ap (λ n. first_claim name (drop n c.args.claims.now))
    (let none : c.loop-left.left ≡ 0 = omega (arith, c.loop-left-test.false) in none)
