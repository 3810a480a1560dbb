-- The rules of typing, in the order in which words are compared with them.
use Rattle.std.specs.Prelude.{List, [], ◌∷◌}
use Rattle.cc_core.specs.Derivations.{Rule, t-var, t-lit, t-abs, t-tabs, t-app, t-tapp, t-box, t-unbox, t-let, t-prim}
use Rattle.cc_core.specs.Derivations.{t-if}
use Rattle.cc_core.specs.Derivations.{t-repeat, t-op, t-boundary, t-exit, t-sub}

abbrev pub last_rules : List Rule
last_rules = t-let ∷ t-prim ∷ t-if ∷ t-repeat ∷ t-op ∷ t-boundary ∷ t-exit ∷ t-sub ∷ []

abbrev pub middle_rules : List Rule
middle_rules = t-var ∷ t-lit ∷ t-abs ∷ t-tabs ∷ t-app ∷ t-tapp ∷ t-box ∷ t-unbox ∷ last_rules
