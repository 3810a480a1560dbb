-- Comparisons that force nothing. This serves proofs alone.
use Rattle.std.specs.Prelude.{Bool, not}
use Rattle.cc_checking.specs.Comparison.{Comparison}
use Rattle.cc_known.specs.ComparedAgain.{told}
use Rattle.cc_known.specs.Keeping.{has_hole}
use Rattle.cc_known.specs.KeptWalks.{is_told}

-- Whether a comparison matches, and none of its demands may force an element into a hole.
abbrev pub forces_nothing : Comparison → Bool
forces_nothing comparison = is_told (told (λ demand. not (has_hole demand.right)) comparison)
