-- The definitions that a signature avoids, and the step by which one is avoided in a set. This serves proofs alone.
use Rattle.std.specs.Prelude.{◌≡◌, ℕ, nat_lt, List, [], ◌∷◌, length, Option, Some, None, if◌then◌else◌}
use Rattle.cc_capture.specs.Sets.{Set}
use Rattle.cc_core.specs.Contexts.{Bind, TermEntry, TypeEntry, Context}
use Rattle.cc_checking.specs.Avoidance.{Sign, avoided_set}
use Rattle.cc_checking.specs.Verdicts.{declared_set}

-- the definitions of a context, the latest first, each with its declared set
abbrev pub declared_sets : ℕ → Context → List (ℕ × Set)
declared_sets devices [] = []
declared_sets devices (newest ∷ older) =
    if nat_lt (length older) devices
    then []
    else (length older, declared_set newest) ∷ declared_sets devices older

-- the next set is the one in which the position of the entry is avoided
abbrev pub AvoidsBind : Sign → ℕ → Bind → Set → Set → Type 0
AvoidsBind sign position (TermEntry shape declared) set next = next ≡ avoided_set sign position declared set
AvoidsBind sign position (TypeEntry bound) set next = ⊥

-- the same where there is an entry
abbrev pub AvoidsEntry : Sign → ℕ → Option Bind → Set → Set → Type 0
AvoidsEntry sign position (Some bind) set next = AvoidsBind sign position bind set next
AvoidsEntry sign position None set next = ⊥
