-- Counting nodes one by one.
use Rattle.std.proofs.Common.{◌≡◌, ◌+◌, ◌<◌, List, [], ◌∷◌, ◌++◌, refl, ap, arith, ◌∙◌, sym, map}
use Rattle.std.proofs.lemmas.List.{map_push}
use Rattle.cc_core.specs.Derivations.{Derivation, Node, Premises, NoPremise, Premise, Rule, Claim}
use Rattle.cc_checking.specs.DerivationSizes.{nodes, nodes_of}
use Rattle.cc_validity.specs.Counting.{premise_list, nodes_together}

together-append : (xs ys : List Derivation) → nodes_together (xs ++ ys) ≡ nodes_together xs + nodes_together ys
together-append [] ys = omega arith
together-append (d ∷ xs) ys = let e : nodes_together (xs ++ ys) ≡ nodes_together xs + nodes_together ys = together-append xs ys in omega arith

together-premises : (premises : Premises) → nodes_together (premise_list premises) ≡ nodes_of premises
together-premises NoPremise = refl
together-premises (Premise first rest) = ap (λ n. nodes first + n) (together-premises rest)

some_nodes : (d : Derivation) → 0 < nodes d
some_nodes (Node rule premises claim) = omega arith

-- the last one is counted, and its premises wait
pub one_counted : (front : List Derivation) (rule : Rule) (premises : Premises) (claim : Claim)
    → nodes_together (front ++ Node rule premises claim ∷ []) ≡ 1 + nodes_together (front ++ premise_list premises)
one_counted front rule premises claim =
    let a : nodes_together (front ++ Node rule premises claim ∷ []) ≡ nodes_together front + ((1 + nodes_of premises) + 0) = together-append front (Node rule premises claim ∷ []) in
    let b : nodes_together (front ++ premise_list premises) ≡ nodes_together front + nodes_together (premise_list premises) = together-append front (premise_list premises) in
    let c : nodes_together (premise_list premises) ≡ nodes_of premises = together-premises premises in
    omega arith

-- one waits at least
pub some_left : {X : Type 0} (f : X → Derivation) (front all : List X) (x : X) → all ≡ front ++ x ∷ [] → 0 < nodes_together (map f all)
some_left f front all x e =
    let a : nodes_together (map f all) ≡ nodes_together (map f front ++ f x ∷ []) = ap (λ l. nodes_together (map f l)) e ∙ ap nodes_together (map_push f front x) in
    let b : nodes_together (map f front ++ f x ∷ []) ≡ nodes_together (map f front) + (nodes (f x) + 0) = together-append (map f front) (f x ∷ []) in
    let one : 0 < nodes (f x) = some_nodes (f x) in
    omega arith

-- one is taken, and its premises wait
pub one_taken : {X : Type 0} (f : X → Derivation) (front all : List X) (x : X) (rule : Rule) (premises other : Premises) (claim : Claim) (new : List Derivation)
    → all ≡ front ++ x ∷ [] → f x ≡ Node rule premises claim → other ≡ premises → new ≡ map f front ++ premise_list other
    → nodes_together (map f all) ≡ 1 + nodes_together new
one_taken f front all x rule premises other claim new e is same added =
    ap (λ l. nodes_together (map f l)) e
    ∙ ap nodes_together (map_push f front x)
    ∙ ap (λ d. nodes_together (map f front ++ d ∷ [])) is
    ∙ one_counted (map f front) rule premises claim
    ∙ ap (λ p. 1 + nodes_together (map f front ++ premise_list p)) (sym same)
    ∙ ap (λ l. 1 + nodes_together l) (sym added)
