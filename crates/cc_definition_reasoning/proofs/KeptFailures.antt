-- What fails first of what is kept fails first of all that is asked.
use Rattle.std.proofs.Common.{◌≡◌, List, [], ◌∷◌, ◌++◌, length, refl, sym, ap, subst, ◌∙◌, append_assoc, zero-le}
use Rattle.cc_core.specs.Contexts.{Context}
use Rattle.cc_checking.specs.Fillings.{Filling, AllServed, IsAskedIn, IsOverGlobals}
use Rattle.cc_checking.specs.Outcomes.{Asked, Placed}
use Rattle.cc_checking_laws.specs.FillingLaws.{AreFit}
use Rattle.cc_known.specs.Keeping as kept
use Rattle.cc_known.proofs.KeptLists.{kept_is_served_alike}
use Rattle.cc_reasons.specs.Causes.{Located}
use Rattle.cc_reasons.specs.DefinitionReasons.{placed_of, FailsFirstAs}
use Rattle.cc_reasoning.specs.LocatedLogs.{keeping}
use Rattle.cc_reasoning.proofs.LocatedSteps.{placed_of-keeping}
use Rattle.cc_definition_reasoning.proofs.KeptFronts.{kept_front}

placed_of-both : (one other : List Located) → placed_of (one ++ other) ≡ placed_of one ++ placed_of other
placed_of-both [] other = refl
placed_of-both (first ∷ one) other = ap (λ l. first.placed ∷ l) (placed_of-both one other)

-- what is asked in a front
asked_in_front : (front rest : List Placed) (a : Asked) → IsAskedIn front a → IsAskedIn (front ++ rest) a
asked_in_front front rest a (before, p, later, is, same) =
    (before, p, later ++ rest, ap (λ l. l ++ rest) is ∙ append_assoc before (p ∷ later) rest, same)

front_fit : (globals : Context) (front rest : List Placed) → AreFit globals (front ++ rest) → AreFit globals front
front_fit globals front rest fit = record {
  formed = fit.formed;
  globals_alone = fit.globals_alone;
  each = λ a asked. fit.each a (asked_in_front front rest a asked);
}

pub fails_first_of_all : (globals : Context) (filling : Filling) (asked : List Located) (failing : Located)
    → AreFit globals (placed_of asked) → IsOverGlobals (length globals) filling
    → FailsFirstAs filling (keeping [] asked) failing → FailsFirstAs filling asked failing
fails_first_of_all globals filling asked failing fit over first =
    let found = kept_front asked [] first.before first.after failing zero-le first.stands in
    let parts : placed_of asked ≡ placed_of found.0 ++ placed_of (failing ∷ found.1) =
    ap placed_of found.2 ∙ placed_of-both found.0 (failing ∷ found.1) in
    let front : AreFit globals (placed_of found.0) =
    front_fit globals (placed_of found.0) (placed_of (failing ∷ found.1)) (subst (AreFit globals) parts fit) in
    let same : placed_of first.before ≡ kept.kept (placed_of found.0) =
    ap placed_of (sym found.3) ∙ placed_of-keeping [] found.0 in record {
      before = found.0;
      after = found.1;
      stands = found.2;
      served = (kept_is_served_alike globals filling (placed_of found.0) front over).0
          (subst (AllServed filling) same first.served);
      fails = first.fails;
    }
