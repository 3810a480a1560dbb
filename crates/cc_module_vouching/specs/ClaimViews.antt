-- Claims and modules of the program as plain ones, and how claims are found by their places. It serves the code alone.
use Rattle.std.specs.Prelude.{◌≡◌, ℕ, List, [], ◌∷◌, map, Option, Some, None, slice_get, if◌then◌else◌}
use Rattle.std.specs.BTreeMap.{get}
use Rattle.std.specs.Str.{bytes_eq}
use Rattle.cc_base.specs.Names.{compare_names}
use Rattle.cc_vouching.specs.Submissions.{Claim, ClaimedModule}
use Rattle.cc_module_vouching.specs.declared.claims.Claim.{Claim as DeclaredClaim}
use Rattle.cc_module_vouching.specs.declared.claims.ClaimPlaces.{ClaimPlaces}
use Rattle.cc_module_vouching.specs.declared.claims.ClaimedModule.{ClaimedModule as DeclaredModule}

-- the claim
abbrev pub claim_of : DeclaredClaim → Claim
claim_of it = record { definition = it.definition; certificate = it.certificate.items }

-- the module
abbrev pub claimed_module_of : DeclaredModule → ClaimedModule
claimed_module_of it = record { name = it.name; source = it.source.items; claims = map claim_of it.claims.items }

-- the place of the name, if it has one
abbrev pub place_in : ClaimPlaces → List ℕ → Option ℕ
place_in places name = get compare_names places.places name

-- the claim at the place, if there is one
abbrev pub claim_at : List DeclaredClaim → Option ℕ → Option DeclaredClaim
claim_at claims (Some place) = slice_get claims place
claim_at claims None = None

-- the first claim of the name, if there is one
abbrev pub first_claim : List ℕ → List DeclaredClaim → Option DeclaredClaim
first_claim name [] = None
first_claim name (first ∷ rest) = if bytes_eq first.definition name then Some first else first_claim name rest

-- by its place each name leads to the first claim of its own
abbrev pub FindsClaims : ClaimPlaces → List DeclaredClaim → Type 0
FindsClaims places claims = (name : List ℕ) → claim_at claims (place_in places name) ≡ first_claim name claims
