-- What passing one node makes of the nodes that wait.
use Rattle.std.proofs.Common.{◌≡◌, ℕ, ◌+◌, Bool, true, false, not, List, [], ◌∷◌, ◌++◌, Option, Some, None, refl, ap, sym, ◌∙◌, arith, append-nil, append_assoc}
use Rattle.std.specs.Prelude.{if◌then◌else◌}
use Rattle.cc_core.specs.Derivations.{Rule, Claim, Derivation, Node, Premises, NoPremise, Premise}
use Rattle.cc_derivation.specs.Numbers.{own_number}
use Rattle.cc_validity.specs.ClaimedPremises.{instance_of}
use Rattle.cc_derivation.specs.Broken.{claims_of, are_as_many, broken_at, broken, broken_among}
use Rattle.cc_derivation.specs.Rows.{Place, Nowhere, TypeOf, SetsBelow, ShapesBelow, TypesBelow, Row, row_at}
use Rattle.cc_validity.specs.Spots.{places_in}
use Rattle.cc_checking.specs.DerivationSizes.{nodes, nodes_of}
use Rattle.cc_validity.specs.declared.waiting.Passed.{Passed}
use Rattle.cc_validity.specs.Waiting.{Standing, At, nodes_in, broken_in, standing_among, first_or, alone_if, Passes}

-- rows

misfits : (number : ℕ) (row : Option Row) (claims : List Claim) (inner : List Place → List ℕ) → None ≡ places_in row claims
    → broken_at number row claims inner ≡ number ∷ []
misfits number None claims inner h = refl
misfits number (Some row) claims inner h = cc

short : (number : ℕ) (row : Option Row) (claims : List Claim) (inner : List Place → List ℕ) (places : List Place) → Some places ≡ places_in row claims
    → are_as_many places claims ≡ false → broken_at number row claims inner ≡ number ∷ []
short number None claims inner places h few = cc
short number (Some row) claims inner places h few =
    let same : row.places claims ≡ places = cc in
    rw (same, few) refl

fits : (number : ℕ) (row : Option Row) (claims : List Claim) (inner : List Place → List ℕ) (places : List Place) (b : Bool) → Some places ≡ places_in row claims
    → are_as_many places claims ≡ true → b ≡ instance_of row claims → broken_at number row claims inner ≡ inner places ++ (if b then [] else number ∷ [])
fits number None claims inner places b h many holds = cc
fits number (Some row) claims inner places b h many holds =
    let same : row.places claims ≡ places = cc in
    rw (same, many, ← holds) refl

-- a node that has a place
opened : (before : ℕ) (place : Place) (rule : Rule) (premises : Premises) (claim : Claim) → (place ≡ Nowhere → ⊥)
    → broken before place (Node rule premises claim)
    ≡ broken_at (own_number before (Node rule premises claim)) (row_at place rule claim) (claims_of premises) (λ places. broken_among before places premises)
opened before Nowhere rule premises claim somewhere = absurd (somewhere refl)
opened before (TypeOf g t) rule premises claim somewhere = refl
opened before (SetsBelow g) rule premises claim somewhere = refl
opened before (ShapesBelow g) rule premises claim somewhere = refl
opened before (TypesBelow g) rule premises claim somewhere = refl

-- premises

among_broken : (before : ℕ) (places : List Place) (premises : Premises)
    → broken_in before (standing_among places premises) ≡ broken_among before places premises
among_broken before [] premises = refl
among_broken before (place ∷ places) NoPremise = refl
among_broken before (place ∷ places) (Premise first rest) =
    ap (λ l. broken before place first ++ l) (among_broken (own_number before first) places rest)

among_nodes : (places : List Place) (premises : Premises) → are_as_many places (claims_of premises) ≡ true
    → nodes_in (standing_among places premises) ≡ nodes_of premises
among_nodes [] NoPremise h = refl
among_nodes [] (Premise first rest) h = cc
among_nodes (place ∷ places) NoPremise h = cc
among_nodes (place ∷ places) (Premise first rest) h = ap (λ n. nodes first + n) (among_nodes places rest h)

-- nothing waits above the node
passes_alone : (place : Place) (d : Derivation) (old new : List Standing) (passed : Passed) → new ≡ old
    → ((before : ℕ) → broken before place d ≡ alone_if passed.breaks (own_number before d)) → passed.nodes ≡ nodes d
    → Passes place d old new passed
passes_alone place (Node rule premises claim) old new passed same alone count = record {
  more = [];
  left = same ∙ sym (append-nil old);
  breaking = alone;
  counted = omega arith;
  some = omega arith;
}

own_if : (b : Bool) (number : ℕ) → (if b then [] else number ∷ []) ≡ alone_if (not b) number
own_if true number = refl
own_if false number = refl

module _ (place : Place) (rule : Rule) (premises : Premises) (claim : Claim) (old new : List Standing) (passed : Passed) (somewhere : place ≡ Nowhere → ⊥) where
  pub misfit_passes : None ≡ places_in (row_at place rule claim) (claims_of premises) → new ≡ old → passed.breaks ≡ true
      → passed.nodes ≡ nodes (Node rule premises claim) → Passes place (Node rule premises claim) old new passed
  misfit_passes h same breaks count =
      passes_alone place (Node rule premises claim) old new passed same
      (λ before. opened before place rule premises claim somewhere
      ∙ misfits _ (row_at place rule claim) (claims_of premises) _ h
      ∙ sym (ap (λ b. alone_if b (own_number before (Node rule premises claim))) breaks))
      count

  pub short_passes : (places : List Place) → Some places ≡ places_in (row_at place rule claim) (claims_of premises)
      → are_as_many places (claims_of premises) ≡ false → new ≡ old → passed.breaks ≡ true
      → passed.nodes ≡ nodes (Node rule premises claim) → Passes place (Node rule premises claim) old new passed
  short_passes places h few same breaks count =
      passes_alone place (Node rule premises claim) old new passed same
      (λ before. opened before place rule premises claim somewhere
      ∙ short _ (row_at place rule claim) (claims_of premises) _ places h few
      ∙ sym (ap (λ b. alone_if b (own_number before (Node rule premises claim))) breaks))
      count

  pub node_passes : (places : List Place) (holds : Bool) → Some places ≡ places_in (row_at place rule claim) (claims_of premises)
      → are_as_many places (claims_of premises) ≡ true → holds ≡ instance_of (row_at place rule claim) (claims_of premises)
      → new ≡ old ++ standing_among places premises → passed.breaks ≡ not holds → passed.nodes ≡ 1
      → Passes place (Node rule premises claim) old new passed
  node_passes places holds h many is added breaks count =
      let above : nodes_in (standing_among places premises) ≡ nodes_of premises = among_nodes places premises many in
      record {
        more = standing_among places premises;
        left = added;
        breaking = λ before.
            opened before place rule premises claim somewhere
            ∙ fits (own_number before (Node rule premises claim)) (row_at place rule claim) (claims_of premises) (λ p. broken_among before p premises) places holds h many is
            ∙ ap (λ l. l ++ (if holds then [] else own_number before (Node rule premises claim) ∷ [])) (sym (among_broken before places premises))
            ∙ ap (λ l. broken_in before (standing_among places premises) ++ l)
            (own_if holds (own_number before (Node rule premises claim)) ∙ sym (ap (λ b. alone_if b (own_number before (Node rule premises claim))) breaks));
        counted = omega arith;
        some = omega arith;
      }

-- lists

broken_in-append : (before : ℕ) (xs ys : List Standing) → broken_in before (xs ++ ys) ≡ broken_in before xs ++ broken_in (before + nodes_in xs) ys
broken_in-append before [] ys =
    let e : before ≡ before + 0 = omega arith in
    ap (λ n. broken_in n ys) e
broken_in-append before (At place d ∷ xs) ys =
    let e : own_number before d + nodes_in xs ≡ before + (nodes d + nodes_in xs) = omega arith in
    ap (λ l. broken before place d ++ l) (broken_in-append (own_number before d) xs ys ∙ ap (λ n. broken_in (own_number before d) xs ++ broken_in n ys) e)
    ∙ sym (append_assoc (broken before place d) _ _)

-- from the first number on
broken_from : (xs ys : List Standing) → broken_in 0 (xs ++ ys) ≡ broken_in 0 xs ++ broken_in (nodes_in xs) ys
broken_from xs ys =
    let e : 0 + nodes_in xs ≡ nodes_in xs = omega arith in
    broken_in-append 0 xs ys ∙ ap (λ n. broken_in 0 xs ++ broken_in n ys) e

nodes_in-append : (xs ys : List Standing) → nodes_in (xs ++ ys) ≡ nodes_in xs + nodes_in ys
nodes_in-append [] ys = omega arith
nodes_in-append (At place d ∷ xs) ys = let e : nodes_in (xs ++ ys) ≡ nodes_in xs + nodes_in ys = nodes_in-append xs ys in omega arith

first_or-append : (xs ys : List ℕ) (other : Option ℕ) → first_or (xs ++ ys) other ≡ first_or xs (first_or ys other)
first_or-append [] ys other = refl
first_or-append (x ∷ xs) ys other = refl

first_alone : (b : Bool) (number : ℕ) (other : Option ℕ) → first_or (alone_if b number) other ≡ (if b then Some number else other)
first_alone true number other = refl
first_alone false number other = refl

-- the number of the last one that waits
pub last_number : (front : List Standing) (place : Place) (d : Derivation) → nodes_in (front ++ At place d ∷ []) ≡ nodes_in front + nodes d
last_number front place d = let e : nodes_in (front ++ At place d ∷ []) ≡ nodes_in front + (nodes d + 0) = nodes_in-append front (At place d ∷ []) in omega arith

module _ (front new : List Standing) (place : Place) (d : Derivation) (passed : Passed) (number : ℕ) (p : Passes place d front new passed) (is : number ≡ nodes_in (front ++ At place d ∷ [])) where
  pub fewer_wait : number ≡ passed.nodes + nodes_in new
  fewer_wait =
      let left : nodes_in new ≡ nodes_in front + nodes_in p.more = ap nodes_in p.left ∙ nodes_in-append front p.more in
      let all : number ≡ nodes_in front + nodes d = is ∙ last_number front place d in
      let counted : nodes d ≡ passed.nodes + nodes_in p.more = p.counted in
      omega arith

  pub found_first : (least : Option ℕ)
      → first_or (broken_in 0 new) (if passed.breaks then Some number else least) ≡ first_or (broken_in 0 (front ++ At place d ∷ [])) least
  found_first least =
      let own : own_number (nodes_in front) d ≡ number = sym (is ∙ last_number front place d) in
      let inner : first_or (broken_in (nodes_in front) p.more) (if passed.breaks then Some number else least) ≡ first_or (broken (nodes_in front) place d) least =
      ap (λ n. first_or (broken_in (nodes_in front) p.more) (if passed.breaks then Some n else least)) (sym own)
      ∙ ap (first_or (broken_in (nodes_in front) p.more)) (sym (first_alone passed.breaks (own_number (nodes_in front) d) least))
      ∙ sym (first_or-append (broken_in (nodes_in front) p.more) (alone_if passed.breaks (own_number (nodes_in front) d)) least)
      ∙ ap (λ l. first_or l least) (sym (p.breaking (nodes_in front))) in
      ap (λ l. first_or (broken_in 0 l) (if passed.breaks then Some number else least)) p.left
      ∙ ap (λ l. first_or l (if passed.breaks then Some number else least)) (broken_from front p.more)
      ∙ first_or-append (broken_in 0 front) (broken_in (nodes_in front) p.more) _
      ∙ ap (first_or (broken_in 0 front)) (inner ∙ ap (λ l. first_or l least) (sym (append-nil (broken (nodes_in front) place d))))
      ∙ sym (first_or-append (broken_in 0 front) (broken_in (nodes_in front) (At place d ∷ [])) least)
      ∙ ap (λ l. first_or l least) (sym (broken_from front (At place d ∷ [])))

-- nothing waits
none_standing : (places : List Place) (premises : Premises) → premises ≡ NoPremise → standing_among places premises ≡ []
none_standing [] premises e = refl
none_standing (place ∷ places) premises e = ap (standing_among (place ∷ places)) e

pub nothing_waits : (old : List Standing) (places : List Place) (premises : Premises) → premises ≡ NoPremise
    → old ≡ old ++ standing_among places premises
nothing_waits old places premises e = sym (append-nil old) ∙ ap (λ l. old ++ l) (sym (none_standing places premises e))
