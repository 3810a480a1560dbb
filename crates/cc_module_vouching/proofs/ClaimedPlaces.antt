-- Claims found by the places of their names.
use Rattle.std.proofs.Common.{◌≡◌, ℕ, ◌+◌, ◌<◌, Bool, true, false, List, [], ◌∷◌, length, get_or, map, drop}
use Rattle.std.proofs.Common.{Option, Some, None, refl, sym, ap, ◌∙◌, if◌then◌else◌}
use Rattle.std.proofs.lemmas.Option.{slice_get_read}
use Rattle.std.specs.List.{slice_get}
use Rattle.std.specs.Option.{option_map}
use Rattle.std.specs.Str.{bytes_eq}
use Rattle.cc_mnf.proofs.ModuleLoops.{drop_next}
use Rattle.cc_vouching.specs.VouchedDefinitions.{claim_named}
use Rattle.cc_module_vouching.specs.ClaimViews.{claim_of, place_in, claim_at, first_claim}
use Rattle.cc_module_vouching.specs.declared.claims.Claim.{Claim}
use Rattle.cc_module_vouching.specs.declared.claims.ClaimPlaces.{ClaimPlaces}

by_name : (claims : List Claim) (left : ℕ) (one : Claim) (earlier : Option ℕ) (later : Option Claim)
    → slice_get claims left ≡ Some one → claim_at claims earlier ≡ later → (same : Bool)
    → claim_at claims (if same then Some left else earlier) ≡ (if same then Some one else later)
by_name claims left one earlier later stands found true = stands
by_name claims left one earlier later stands found false = found

-- one claim more in front of those that are found
pub found_more : (claims : List Claim) (left : ℕ) (one : Claim) → left < length claims → one ≡ get_or claims left one
    → (old new : ClaimPlaces)
    → ((name : List ℕ) → claim_at claims (place_in old name) ≡ first_claim name (drop (left + 1) claims))
    → ((name : List ℕ) → place_in new name ≡ (if bytes_eq one.definition name then Some left else place_in old name))
    → (name : List ℕ) → claim_at claims (place_in new name) ≡ first_claim name (drop left claims)
found_more claims left one within is old new so_far put name =
    ap (claim_at claims) (put name)
    ∙ by_name claims left one (place_in old name) (first_claim name (drop (left + 1) claims))
    (slice_get_read claims (length claims) left one refl within is) (so_far name) (bytes_eq one.definition name)
    ∙ sym (ap (first_claim name) (drop_next claims left one within is))

named_or : (one : Claim) (later : Option Claim) (named : Option (List ℕ))
    → option_map (λ claim. claim.certificate.items) later ≡ named → (same : Bool)
    → option_map (λ claim. claim.certificate.items) (if same then Some one else later)
    ≡ (if same then Some one.certificate.items else named)
named_or one later named is true = refl
named_or one later named is false = is

first_is_named : (name : List ℕ) (claims : List Claim)
    → option_map (λ claim. claim.certificate.items) (first_claim name claims) ≡ claim_named name (map claim_of claims)
first_is_named name [] = refl
first_is_named name (first ∷ rest) =
    named_or first (first_claim name rest) (claim_named name (map claim_of rest))
    (first_is_named name rest) (bytes_eq first.definition name)

-- the first claim of the name, as it is lent
pub first_seen : {R : Type 0} (now : R → Claim) (seen : Option R) (name : List ℕ) (claims : List Claim)
    → option_map now seen ≡ first_claim name claims
    → option_map (λ r. (now r).certificate.items) seen ≡ claim_named name (map claim_of claims)
first_seen now None name claims is =
    ap (option_map (λ (c : Claim). c.certificate.items)) is ∙ first_is_named name claims
first_seen now (Some r) name claims is =
    ap (option_map (λ (c : Claim). c.certificate.items)) is ∙ first_is_named name claims
