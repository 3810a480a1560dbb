-- What waits to be written where the lines of a derivation are written one after the other. It serves the code alone.
use Rattle.std.specs.Prelude.{◌≡◌, ℕ, ◌+◌, ◌<◌, List, [], ◌∷◌, ◌++◌, map, reverse, take, drop, length}
use Rattle.cc_core.specs.Derivations.{Rule, Claim, Derivation, Premises, Node, NoPremise, Premise}
use Rattle.cc_checking.specs.DerivationSizes.{nodes_of}
use Rattle.cc_derivation.specs.Numbers.{own_number, premise_numbers}
use Rattle.cc_derivation.specs.DerivationViews.{rule_of, claim_of, premises_of, der_of}
use Rattle.cc_certificate_writing.specs.Certificates.{node_lines, premise_lines, lines_behind}
use Rattle.cc_certificate_text.specs.NodeTexts.{node_line}
use Rattle.cc_certificate_writing.specs.declared.nodes.Waiting.{Waiting as DeclaredWaiting}
use Rattle.cc_certificate_writing.specs.declared.nodes.Waiting.TheVariants as waits

-- The lines of a derivation, with so many local binders at its root; those of premises, with so many at the first one
-- and so many at those behind it; or the line of a node whose premises are written, of which the numbers stand in a
-- list from a place on.
pub data Waiting : Type 0 where
  Whole : (locals : ℕ) (derivation : Derivation) → Waiting
  Several : (first others : ℕ) (premises : Premises) → Waiting
  Last : (locals from : ℕ) (rule : Rule) (claim : Claim) → Waiting

-- what a value of the program stands for
abbrev pub waiting_of : DeclaredWaiting → Waiting
waiting_of (waits.Whole locals der) = Whole locals (der_of der.now)
waiting_of (waits.Several first others premises) = Several first others (premises_of premises.now)
waiting_of (waits.Last locals from der) = Last locals from (rule_of der.now.rule) (claim_of der.now.claim)

-- what waits, the next one first; the program has the next one last
abbrev pub in_turn : List DeclaredWaiting → List Waiting
in_turn waiting = reverse (map waiting_of waiting)

-- The lines of what waits, where so many nodes have their lines, and these numbers of nodes are those of premises of
-- what waits.
abbrev pub waiting_lines : List (List ℕ) → ℕ → List ℕ → List Waiting → List (List ℕ)
waiting_lines names number numbers [] = []
waiting_lines names number numbers (Whole locals derivation ∷ rest) =
    node_lines names number locals derivation
    ++ waiting_lines names (own_number number derivation) (numbers ++ own_number number derivation ∷ []) rest
waiting_lines names number numbers (Several first others premises ∷ rest) =
    premise_lines names number first others premises
    ++ waiting_lines names (number + nodes_of premises) (numbers ++ premise_numbers number premises) rest
waiting_lines names number numbers (Last locals from rule claim ∷ rest) =
    node_line names locals (number + 1) rule (drop from numbers) claim
    ∷ waiting_lines names (number + 1) (take from numbers ++ (number + 1) ∷ []) rest

-- the first of the premises waits, if there is one, and then those behind it
abbrev pub premises_in_turn : ℕ → ℕ → Premises → List Waiting → List Waiting
premises_in_turn first others NoPremise rest = rest
premises_in_turn first others (Premise next premises) rest =
    Whole first next ∷ (Several others others premises ∷ rest)

-- how many turns premises take, and a derivation
abbrev mutual
  pub turns_of : Premises → ℕ
  turns_of NoPremise = 1
  turns_of (Premise first rest) = 1 + (turns first + turns_of rest)

  pub turns : Derivation → ℕ
  turns (Node rule premises claim) = 2 + turns_of premises

-- how many turns what waits takes
abbrev pub turns_left : List Waiting → ℕ
turns_left [] = 0
turns_left (Whole locals derivation ∷ rest) = turns derivation + turns_left rest
turns_left (Several first others premises ∷ rest) = turns_of premises + turns_left rest
turns_left (Last locals from rule claim ∷ rest) = 1 + turns_left rest

-- what is written so far, how many nodes that has, the numbers of premises, and what waits
pub record Progress : Type 0 where
  pub text : List ℕ
  pub number : ℕ
  pub numbers : List ℕ
  pub waiting : List Waiting

-- all that is written in the end, with this front before each line
abbrev pub written : List ℕ → List (List ℕ) → Progress → List ℕ
written front names it = it.text ++ lines_behind front (waiting_lines names it.number it.numbers it.waiting)

-- a turn is over: what is written in the end stays, and fewer turns are left
pub record TakesTurn (front : List ℕ) (names : List (List ℕ)) (old new : Progress) : Type 0 where
  pub same : written front names old ≡ written front names new
  pub fewer : turns_left new.waiting < turns_left old.waiting
